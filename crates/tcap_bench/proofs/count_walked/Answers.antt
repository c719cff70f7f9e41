use Rattle.std.proofs.Common.{◌≡◌, [], length, Result, Ok, Err, refl, sym, ap, ◌∙◌, arith}
use Rattle.std.proofs.lemmas.List.{length-append}
use Rattle.tcap_ber.specs.declared.fault.Fault.{Fault}
use Rattle.tcap_ber.specs.declared.element.Outer.{Outer}
use Rattle.tcap_ber.specs.declared.element.Outer.TheVariants.{Whole, Need}
use Rattle.tcap_ber.specs.WalkResult.{outer_at}
use Rattle.tcap_ber.proofs.ElementLaws.{element_len_at_least}
use Rattle.tcap_ber.proofs.OuterLaws.{outer_whole}
use Rattle.tcap_bench.specs.ElementLength.{whole_len}
use Rattle.tcap_bench.proofs.count_walked.Goals as goal

-- no octets contain no whole element
nothing : (r : Result Outer Fault) → outer_at [] ≡ r → 0 ≡ whole_len r
nothing (Ok (Whole n)) e =
    let b = outer_whole [] n e in
    absurd (omega (
      arith,
      element_len_at_least b.tag b.content b.element b.is_element,
      ap length b.joined,
      length-append b.element b.rest,
    ))
nothing (Ok (Need n)) e = refl
nothing (Err f) e = refl

pub loop-len-init : goal.loop-len-init
loop-len-init c = (c.new-walk.ensures c.args.octets.now, nothing (outer_at []) refl ∙ ap whole_len (sym (c.new-walk.ensures [])))
