use Rattle.std.proofs.Common.{◌++◌}
use Rattle.std.proofs.lemmas.Result.{IfOk-weaker}
use Rattle.tcap_dialogues.proofs.HeldLists.{appended_same}
use Rattle.tcap_dialogues.proofs.JoinedLaws.{joined_same}
use Rattle.tcap_dialogues.proofs.cut.Cut.join_two.Goals as goal

pub returns-then-len : goal.returns-then-len
returns-then-len c = λ ds es names one other owned.
    let self = c.args.self.now in
    IfOk-weaker c.join_to_first.result _ _
    (λ l is. joined_same self.count (es ++ ds) (ds ++ es) self c.join_to_first.new.self l (appended_same es ds) is)
    (c.join_to_first.ensures es ds names other one (λ d id has its. owned d id ((appended_same es ds).there d has) its))
