use Rattle.std.proofs.Common.{refl, rules}
use Rattle.tcap_report.proofs.KeptLaws.{nothing_kept}
use Rattle.tcap_report.proofs.trace.Trace.new.Goals as goal

pub returns-clause-reading : goal.returns-clause-reading
returns-clause-reading c = nothing_kept _ _ refl (search rules) refl refl refl refl refl (search rules) (search rules) (search rules)
