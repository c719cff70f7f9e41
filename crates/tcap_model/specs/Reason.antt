-- The number of each reason why a certificate gives no run.
use Rattle.std.specs.Prelude.{ℕ}
use Rattle.tcap_model.specs.declared.reason.Reason.{Reason}
use Rattle.tcap_model.specs.declared.reason.Reason.TheVariants as reasons

-- the number that the output gives for a reason
abbrev pub reason_number : Reason → ℕ
reason_number reasons.CertificateShape = 60
reason_number reasons.FateCount = 61
reason_number reasons.FateRange = 62
reason_number reasons.OutOfOrder = 63
reason_number reasons.BadReply = 64
reason_number (reasons.SendRefused reason) = 65
reason_number (reasons.HiddenRefused reason) = 66
reason_number reasons.NotQuiet = 67
reason_number (reasons.BadMessage fault) = 68
reason_number reasons.NoItem = 69
reason_number reasons.Memory = 99
