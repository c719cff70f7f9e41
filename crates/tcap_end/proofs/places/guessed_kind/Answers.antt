use Rattle.std.proofs.Common.{◌≡◌, Some, sym, refl, ap, ◌∙◌}
use Rattle.std.proofs.lemmas.Option.{slice_get_read}
use Rattle.std.specs.List.{slice_get}
use Rattle.tcap_parts.specs.Meaning.{code_of}
use Rattle.tcap_end.specs.Half.{Invocation}
use Rattle.tcap_end.proofs.SameKindLaws.{codes_same, bools_same, links_same}
use Rattle.tcap_end.proofs.places.guessed_kind.Goals as goal

pub returns-then-is_code : goal.returns-then-is_code
returns-then-is_code c = λ other is.
    let number = c.in_ok-number.number in let kinds = c.kinds-kinds.result.now in
    let same : number ≡ other = cc in
    let code : c.kind.inside.code ≡ code_of c.args.code =
    sym c.view.ensures ∙ codes_same (code_of c.view.result) (code_of c.args.code) (sym c.is_code.ensures ∙ c.if-is_code.true) in
    let link : c.kind.inside.link ≡ c.args.link = links_same c.kind.inside.link c.args.link (sym c.if-eq.ensures) in
    let duplicate : c.kind.inside.duplicate ≡ c.args.duplicate = bools_same c.kind.inside.duplicate c.args.duplicate c.if-kind-duplicate.true in
    let read : slice_get kinds number ≡ Some c.index-kinds-number.result =
    slice_get_read kinds _ number c.index-kinds-number.result refl c.if-kinds-number.false c.index-kinds-number.is in
    rw (sym same, sym c.kinds-kinds.ensures.kinds)
    (read ∙ ap (λ (kind : Invocation). Some kind) (sym c.kind.view_is ∙ rw (code, link, duplicate) refl))
