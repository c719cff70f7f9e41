use Rattle.std.proofs.Common.{List, ◌∙◌, ◌++◌, ap, sym}
use Rattle.std.proofs.lemmas.List.{append-nil}
use Rattle.tcap_model.specs.World.{MessageInTransit}
use Rattle.tcap_model.specs.Run.{numbers_of, numbers_taken}
use Rattle.tcap_uses.proofs.model.all_taken.Goals as goal

pub returns : goal.returns
returns c table events w side runs none =
    sym (append-nil (numbers_taken side events))
    ∙ ap (λ (messages : List MessageInTransit). numbers_taken side events ++ numbers_of messages) (sym none)
    ∙ c.channels_are_whole.ensures table events w side runs
