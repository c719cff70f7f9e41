use Rattle.std.proofs.Common.{sym, ◌∙◌}
use Rattle.tcap_traces.proofs.DirectiveLaws.{blank_at_end}
use Rattle.tcap_traces.proofs.directive.trimmed.Goals as goal

pub loop-rest-2-preserved : goal.loop-rest-2-preserved
loop-rest-2-preserved c =
    blank_at_end c.loop-rest-2.rest.now _ (sym c.if-not-is_blank-2.ensures) ∙ c.loop-rest-2.invariant
