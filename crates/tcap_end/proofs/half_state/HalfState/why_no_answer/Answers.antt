use mir.Syntax.{w8}
use Rattle.std.proofs.Common.{sym, ap, ◌∙◌}
use Rattle.std.specs.Prelude.{is_some}
use Rattle.std.proofs.lemmas.Int.{to_z-of_z}
use Rattle.tcap_end.specs.HalfState.{kept_of}
use Rattle.tcap_lists.proofs.ListLaws.{whole_rows}
use Rattle.tcap_end.proofs.SendLaws.{is_forbidden, is_nothing, is_wrong}
use Rattle.tcap_end.proofs.half_state.HalfState.why_no_answer.Goals as goal

pub returns-then-is_some : goal.returns-then-is_some
returns-then-is_some c = λ last named none.
    is_wrong c.args.table.now (kept_of c.args.self.now) (whole_rows c.args.self.now.inn) c.args.is_result c.args.id last named
    (ap is_some (sym (rw (to_z-of_z w8 c.args.id c.ranges.id) at c.answerable_place.ensures)) ∙ sym c.is_some.ensures ∙ c.if-is_some.true)
    none

pub returns-then-has_invocation : goal.returns-then-has_invocation
returns-then-has_invocation c = λ last named none.
    is_forbidden c.args.table.now (kept_of c.args.self.now) (whole_rows c.args.self.now.inn) c.args.is_result c.args.id last named
    (ap is_some (sym (rw (to_z-of_z w8 c.args.id c.ranges.id) at c.answerable_place.ensures)) ∙ sym c.is_some.ensures ∙ c.if-is_some.false)
    (sym (rw (to_z-of_z w8 c.args.id c.ranges.id) at c.has_invocation.ensures) ∙ c.if-has_invocation.true)

pub returns-else-has_invocation : goal.returns-else-has_invocation
returns-else-has_invocation c = λ last named none.
    is_nothing c.args.table.now (kept_of c.args.self.now) (whole_rows c.args.self.now.inn) c.args.is_result c.args.id last named
    (sym (rw (to_z-of_z w8 c.args.id c.ranges.id) at c.has_invocation.ensures) ∙ c.if-has_invocation.false)
