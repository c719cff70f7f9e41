use Rattle.std.proofs.Common.{◌≡◌, Some, sym, refl, ap, ◌∙◌}
use Rattle.std.proofs.lemmas.Option.{slice_get_read}
use Rattle.std.specs.List.{slice_get}
use Rattle.tcap_parts.specs.Meaning.{code_of}
use Rattle.tcap_end.specs.Half.{Invocation}
use Rattle.tcap_end.proofs.SameKindLaws.{codes_same, bools_same, links_same}
use Rattle.tcap_end.proofs.places.searched_kind.Goals as goal

pub returns-then-is_code : goal.returns-then-is_code
returns-then-is_code c = λ number is.
    let same : c.loop-number.number ≡ number = cc in
    let code : c.kind.inside.code ≡ code_of c.args.code =
    sym c.view.ensures ∙ codes_same (code_of c.view.result) (code_of c.args.code) (sym c.is_code.ensures ∙ c.if-is_code.true) in
    let link : c.kind.inside.link ≡ c.args.link = links_same c.kind.inside.link c.args.link (sym c.if-eq.ensures) in
    let duplicate : c.kind.inside.duplicate ≡ c.args.duplicate = bools_same c.kind.inside.duplicate c.args.duplicate c.if-kind-duplicate.true in
    let read : slice_get c.args.kinds.now c.loop-number.number ≡ Some c.index-kinds-number.result =
    slice_get_read c.args.kinds.now _ c.loop-number.number c.index-kinds-number.result refl c.loop-number-test.true c.index-kinds-number.is in
    rw (sym same)
    (read ∙ ap (λ (kind : Invocation). Some kind) (sym c.kind.view_is ∙ rw (code, link, duplicate) refl))
