use Rattle.std.proofs.Common.{ℕ, Some, true, ap, refl}
use Rattle.tcap_report.proofs.EntryLaws.{directive_read, said_read}
use Rattle.tcap_report.proofs.trace.Trace.take_piece.Goals as goal

pub returns-in-UnderWay-clause-reading : goal.returns-in-UnderWay-clause-reading
returns-in-UnderWay-clause-reading g c = λ options s reading.
    rw c.in-UnderWay.is
    (directive_read options s c.args.self.now _ reading (ap (λ (n : ℕ). record c.args.self.now { under_way = Some n }) c.unwrap_or.ensures))

pub returns-in_ok-broken_off_text-in-BrokenOff-clause-reading : goal.returns-in_ok-broken_off_text-in-BrokenOff-clause-reading
returns-in_ok-broken_off_text-in-BrokenOff-clause-reading g c = λ options s reading.
    rw c.in-BrokenOff.is (said_read options s c.args.self.now _ true reading refl refl)

pub returns-in_ok-text-in-About-clause-reading : goal.returns-in_ok-text-in-About-clause-reading
returns-in_ok-text-in-About-clause-reading g c = λ options s reading.
    rw c.in-About.is (said_read options s c.args.self.now _ s.broken_off reading refl reading.keeps.broken_off)
