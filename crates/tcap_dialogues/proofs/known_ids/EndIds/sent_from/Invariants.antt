-- The IDs so far are added.
use Rattle.std.proofs.Common.{◌++◌, map}
use Rattle.std.specs.BTreeMap as tree
use Rattle.tcap_dialogues.proofs.KnownLaws.{AddsSent}
use Rattle.tcap_dialogues.proofs.known_ids.EndIds.sent_from.Given as goal

abbrev pub invariant-loop-id : goal.invariant-loop-id
invariant-loop-id l = AddsSent l.self (map (λ id. id.now) l.yielded) l.fn.ids l.ids

abbrev pub invariant-loop-id-2 : goal.invariant-loop-id-2
invariant-loop-id-2 l = AddsSent l.self (tree.keys l.self.live ++ map (λ id. id.now) l.yielded) l.fn.ids l.ids
