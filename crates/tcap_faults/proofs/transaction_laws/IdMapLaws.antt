-- Maps by transaction ID whose values summarize lists of messages, after one more message.
use Rattle.std.proofs.Common.{◌≡◌, ℕ, Bool, true, false, cond, List, [], ◌∷◌, ◌++◌, Option, Some, None, is_some, refl, sym, ap}
use Rattle.std.specs.BTreeMap.{BTreeMap, WritesThrough, is_at}
use Rattle.std.specs.Map.{lookup}
use Rattle.std.proofs.lemmas.List.{append-nil}
use Rattle.std.proofs.lemmas.Map.Lookups.{exact_bytes}
use Rattle.std.proofs.lemmas.Map.Views.{tells_apart}
use Rattle.tcap_msg.specs.declared.message.Message.{Message}
use Rattle.tcap_end.specs.Table.{octets_cmp}
use Rattle.tcap_faults.specs.History.{IsAt}
use Rattle.tcap_faults.specs.HistoryUpdate.{with_more, AreAt}
use Rattle.tcap_faults.proofs.transaction_laws.KeyLaws.{at_other}
use Rattle.tcap_faults.proofs.list_laws.OneMoreLaws.{something}

-- The value at one key changed.
abbrev pub Puts : {X : Type 0} → List (List ℕ × X) → List (List ℕ × X) → List ℕ → X → Type 0
Puts old new id s = (key : List ℕ)
    → lookup (is_at (octets_cmp key)) new
    ≡ cond (is_at (octets_cmp id) key) (Some s) (lookup (is_at (octets_cmp key)) old)

module _ {X : Type 0} (of : List Message → X → Type 0) (id_in : Message → Option (List ℕ)) (m : Message)
    (lists : List ℕ → List Message) (to : List ℕ) (it : id_in m ≡ Some to) where
  -- The lists of other IDs stay as they are.
  put : (old new : List (List ℕ × X)) (s : X) → Puts old new to s
      → ((id : List ℕ) → IsAt of (lists id) (lookup (is_at (octets_cmp id)) old))
      → of (lists to ++ m ∷ []) s
      → (id : List ℕ) → IsAt of (with_more id_in m lists id) (lookup (is_at (octets_cmp id)) new)
  put old new s puts are is id = rw (puts id, it, ← at_other to id) (by (is_at (octets_cmp to) id) refl)
    where
      by : (b : Bool) → is_at (octets_cmp to) id ≡ b
          → IsAt of (lists id ++ cond b (m ∷ []) []) (cond b (Some s) (lookup (is_at (octets_cmp id)) old))
      by true same =
          let one : to ≡ id = tells_apart exact_bytes to id same in
          rw (← one) (something (lists to) m, is)
      by false apart = rw (append-nil (lists id)) (are id)

  -- If something was kept of the ID, it is of the ID's messages, and was overwritten.
  pub was_kept : (old : List (List ℕ × X)) (was : X) → Some was ≡ lookup (is_at (octets_cmp to)) old
      → ((id : List ℕ) → IsAt of (lists id) (lookup (is_at (octets_cmp id)) old))
      → of (lists to) was
  was_kept old was there are = (rw (← there) at (are to)).1

  pub noted_written : (old new : BTreeMap (List ℕ) X) (was s : X)
      → Some was ≡ lookup (is_at (octets_cmp to)) old.entries
      → WritesThrough octets_cmp (octets_cmp to) old s new
      → AreAt of lists old
      → of (lists to ++ m ∷ []) s
      → AreAt of (with_more id_in m lists) new
  noted_written old new was s there writes are is =
      put old.entries new.entries s (writes.3 (sym (ap is_some there))).0 are is

  -- If nothing was kept of the ID, the new value is put there.
  pub noted_made : (old new : BTreeMap (List ℕ) X) (s : X) → None ≡ lookup (is_at (octets_cmp to)) old.entries
      → Puts old.entries new.entries to s
      → AreAt of lists old
      → of ([] ++ m ∷ []) s
      → AreAt of (with_more id_in m lists) new
  noted_made old new s nothing puts are is =
      let none : lists to ≡ [] = rw (← nothing) at (are to) in put old.entries new.entries s puts are (rw none is)
