-- The IDs so far and those of the remaining messages are all.
use Rattle.tcap_evidence.proofs.Common.{◌≡◌, ◌||◌, ℕ, List, drop, list_any, is_id, octets_cmp, ended_to, messages_of}
use Rattle.std.specs.BTreeSet as set
use Rattle.tcap_evidence.proofs.mark.all_ended.Given as goal

abbrev pub invariant-loop-one : goal.invariant-loop-one
invariant-loop-one l =
    (id : List ℕ) → (set.contains octets_cmp l.ended id
    || list_any (λ m. is_id id (ended_to l.by_provider m)) (messages_of (drop l.one-index l.sent)))
    ≡ list_any (λ m. is_id id (ended_to l.by_provider m)) (messages_of l.sent)
