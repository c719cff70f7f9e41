use Rattle.std.proofs.Common.{ap, ◌∙◌}
use Rattle.tcap_dialogues.proofs.HeldLaws.{none_in_one}
use Rattle.tcap_dialogues.proofs.cut.Cut.take_or_new.Goals as goal

pub returns-in-None : goal.returns-in-None
returns-in-None c = λ live names apart are ends.
    let out = c.in-None.ensures live names apart are ends in record {
      lives = out.lives;
      overs = out.overs;
      one = none_in_one _ _ names c.new.result out.out c.new.ensures.0 (c.new.ensures.1 ∙ ap (λ k. k.count) out.rest);
      rest = out.rest;
    }
