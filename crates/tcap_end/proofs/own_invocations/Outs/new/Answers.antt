use Rattle.std.proofs.Common.{Option, sym, subst}
use Rattle.std.specs.Ordering.{int_cmp}
use Rattle.tcap_end.specs.declared.own_invocations.OwnInvocation.{OwnInvocation}
use Rattle.tcap_end.specs.ReachableEnd.{Rises}
use Rattle.tcap_end.proofs.OutLaws.{none_rise}
use Rattle.tcap_end.proofs.own_invocations.Outs.new.Goals as goal

pub invariant_of-result : goal.invariant_of-result
invariant_of-result c = record { ordered = subst (Rises int_cmp) (sym c.new.ensures.items) (none_rise (Option OwnInvocation)) }
