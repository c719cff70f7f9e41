use Rattle.std.proofs.Common.{rules, ◌≡◌, map}
use Rattle.std.proofs.lemmas.List.{map_push}
use Rattle.std.proofs.lemmas.Map.Iter.{iter_end}
use Rattle.tcap_dialogues.proofs.KnownLaws.{change_more}
use Rattle.tcap_dialogues.proofs.known_ids.Ids.change_all.Goals as goal

pub loop-id-preserved : goal.loop-id-preserved
loop-id-preserved c =
    rw (map_push (λ id. id.now) c.loop-id.yielded c.in-Some.id)
    (change_more c.args.end (map (λ id. id.now) c.loop-id.yielded) c.in-Some.id.now c.args.change c.args.self.now c.loop-id.self
    c.change.new.self c.loop-id.invariant (rw c.view.ensures at c.in_ok-change.ensures))

pub returns : goal.returns
returns c =
    let all : map (λ id. id.now) c.loop-id.yielded ≡ c.args.ids.now.keys = search (rules, iter_end) in
    rw (← all) c.loop-id.invariant
