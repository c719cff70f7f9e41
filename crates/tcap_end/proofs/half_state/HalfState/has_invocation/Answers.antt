use mir.Syntax.{w8}
use Rattle.std.proofs.Common.{true, sym, ap, ◌∙◌}
use Rattle.std.specs.Prelude.{is_some}
use Rattle.std.proofs.lemmas.Int.{to_z-of_z}
use Rattle.tcap_lists.specs.Lists.{rows_of}
use Rattle.tcap_end.specs.OldestPlace.{place_of}
use Rattle.tcap_lists.specs.Row.{fits_in}
use Rattle.tcap_lists.proofs.ListLaws.{oldest_there, whole_rows}
use Rattle.tcap_end.proofs.SendLaws.{one_in}
use Rattle.tcap_end.proofs.half_state.HalfState.has_invocation.Goals as goal

pub returns-in-Some : goal.returns-in-Some
returns-in-Some c =
    c.is_some.ensures ∙ oldest_there c.in-Some.row.now c.oldest.result c.oldest.ensures
    ∙ ap (λ row. is_some (place_of (fits_in (λ item. true)) row)) (sym (rw (to_z-of_z w8 c.args.id c.ranges.id) at c.in-Some.ensures))
    ∙ sym (one_in c.args.id (λ item. true) (rows_of c.args.self.now.inn) (whole_rows c.args.self.now.inn))

pub returns-in-None : goal.returns-in-None
returns-in-None c =
    sym (one_in c.args.id (λ item. true) (rows_of c.args.self.now.inn) (whole_rows c.args.self.now.inn)
    ∙ ap (λ row. is_some (place_of (fits_in (λ item. true)) row)) (rw (to_z-of_z w8 c.args.id c.ranges.id) at c.in-None.ensures))
