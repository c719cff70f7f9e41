use Rattle.std.proofs.lemmas.Result.{on_ok_weaker}
use Rattle.tcap_dialogues.proofs.KnownLaws.{both_change}
use Rattle.tcap_dialogues.proofs.known_ids.Ids.change_both.Goals as goal

pub returns : goal.returns
returns c =
    on_ok_weaker c.change_all-2.result
    (both_change c.args.a.now c.args.b.now c.args.change c.args.self.now c.change_all.new.self c.change_all-2.new.self
    c.in_ok-change_all.ensures)
    c.change_all-2.ensures
