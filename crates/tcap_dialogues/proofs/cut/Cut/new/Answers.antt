use Rattle.std.proofs.Common.{refl}
use Rattle.tcap_dialogues.proofs.HeldLaws.{nothing_held}
use Rattle.tcap_dialogues.proofs.cut.Cut.new.Goals as goal

pub returns : goal.returns
returns c = record {
  reuse_is = refl;
  count_is = refl;
  name = λ d. 0;
  held = nothing_held _ _ c.new.ensures.empty c.new-2.ensures.empty c.new-3.ensures;
}
