use Rattle.std.proofs.Common.{◌<◌, [], ap, sym, subst, ◌∙◌, refl, arith}
use Rattle.tcap_ber.specs.declared.progress.Progress.{Progress}
use Rattle.tcap_ber.specs.Progress.{IsPlaced}
use Rattle.tcap_ber.specs.WalkResult.{at_first, resume}
use Rattle.tcap_ber.proofs.OpeningLaws.{no_octets}
use Rattle.tcap_ber.proofs.ResumingLaws.{first_gives}
use Rattle.tcap_ber.proofs.walk.Walk.new.Goals as goal

first_placed : IsPlaced at_first
first_placed = (omega arith, omega arith, (λ (some : 0 < 0). absurd (omega (arith, some)), omega arith))

pub invariant_of-result : goal.invariant_of-result
invariant_of-result c = record { placed = subst IsPlaced (sym c.new.ensures) first_placed; room = (omega arith, refl, omega arith); unfinished = no_octets c.new.result.at }

pub returns : goal.returns
returns c = λ octets. ap (λ (p : Progress). resume 0 [] p octets) c.new.ensures ∙ first_gives octets
