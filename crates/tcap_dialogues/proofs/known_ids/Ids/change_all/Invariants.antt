-- The IDs so far are changed.
use Rattle.std.proofs.Common.{map}
use Rattle.tcap_dialogues.proofs.KnownLaws.{Changes, is_one}
use Rattle.tcap_dialogues.proofs.known_ids.Ids.change_all.Given as goal

abbrev pub invariant-loop-id : goal.invariant-loop-id
invariant-loop-id l = Changes (is_one l.end (map (λ id. id.now) l.yielded)) l.change l.fn.self l.self
