use Rattle.std.proofs.Common.{refl}
use Rattle.tcap_dialogues.proofs.JoinedLaws.{joined_in}
use Rattle.tcap_dialogues.proofs.cut.Cut.join_to_first.Goals as goal

pub returns : goal.returns
returns c = λ ds es names one other owned.
    let self = c.args.self.now in
    let more = c.in_ok-absorb.ensures ds es one.kept other.kept in
    joined_in self.count ds es names self (record self { ids = c.change_both.new.self }) c.args.one c.args.other one other owned
    c.in_ok-change_both.ensures refl c.absorb.new.self more.0 more.1
