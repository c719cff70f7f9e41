use Rattle.std.proofs.Common.{◌≡◌, map}
use Rattle.serde_json.specs.View.{members_view}
use Rattle.tcap_end.specs.TableText.{has_only}
use Rattle.tcap_end.proofs.TableLaws.{are_keys}
use Rattle.tcap_end.proofs.table_text.has_only.Given as goal

-- the result is that of the remaining keys
abbrev pub invariant-loop-key : goal.invariant-loop-key
invariant-loop-key l = record {
  can : (goal.iterator-loop-key).can_next l.key-iterator;
  finite : (goal.iterator-loop-key).is_finite l.key-iterator;
  left : has_only (map (λ k. k.now) l.keys) (members_view l.members.entries) ≡ are_keys (map (λ k. k.now) l.keys) l.key-iterator;
}
