use mir.Syntax.{w8}
use mir.Val.{SFits}
use Rattle.std.proofs.Common.{Bool, sym, ap, ◌∙◌, rules}
use Rattle.std.specs.Prelude.{is_some}
use Rattle.std.proofs.lemmas.Int.{to_z-of_z}
use Rattle.tcap_parts.specs.Meaning.{code_of}
use Rattle.tcap_end.specs.Component.{links}
use Rattle.tcap_end.specs.Half.{Invocation}
use Rattle.tcap_lists.specs.Lists.{rows_of}
use Rattle.tcap_end.specs.OldestPlace.{place_of}
use Rattle.tcap_lists.specs.Row.{fits_in}
use Rattle.tcap_lists.proofs.ListLaws.{whole_rows}
use Rattle.tcap_end.proofs.SendLaws.{one_in}
use Rattle.tcap_end.proofs.half_state.HalfState.may_link.Goals as goal

pub returns-in-Some-get : goal.returns-in-Some-get
returns-in-Some-get c =
    let fits : SFits w8 c.in-Some.linked = search rules in
    let linking : Invocation → Bool = λ item. links c.args.table.now item.code (code_of c.args.code) in
    rw c.in-Some.is
    (c.links_one.ensures
    ∙ ap (λ row. is_some (place_of (fits_in linking) row)) (sym (rw (to_z-of_z w8 c.in-Some.linked fits) at c.in-Some-get.ensures))
    ∙ sym (one_in c.in-Some.linked linking (rows_of c.args.self.now.inn) (whole_rows c.args.self.now.inn)))

pub returns-in-None : goal.returns-in-None
returns-in-None c =
    let fits : SFits w8 c.in-Some.linked = search rules in
    let linking : Invocation → Bool = λ item. links c.args.table.now item.code (code_of c.args.code) in
    rw c.in-Some.is
    (sym (one_in c.in-Some.linked linking (rows_of c.args.self.now.inn) (whole_rows c.args.self.now.inn)
    ∙ ap (λ row. is_some (place_of (fits_in linking) row)) (rw (to_z-of_z w8 c.in-Some.linked fits) at c.in-None.ensures)))
