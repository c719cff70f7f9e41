-- The loop over the entries for the messages of each end, which are those since the last quiet mark.
use Rattle.tcap_evidence.proofs.Common.{◌≡◌, ◌⊎◌, ℕ, ◌+◌, ◌<◌, ◌≤◌, arith, Bool, true, false, cond, List, [], ◌∷◌, ◌++◌, Result, Ok, Err, append_assoc, map, take, drop, get_or, length, refl, sym, ap, ◌∙◌, append-nil, Message, Side, Entry, other, Table, Reason, Item, Sent, item_of, sent_by, since_quiet, items_among, MessagesByEnd, mark_scene, AreMessagesByEnd, Numbered, numbered_of, sent_before}
use Rattle.std.proofs.Common.{length-take}
use Rattle.std.proofs.lemmas.List.{drop_more, get_or-take, map-append}
use Rattle.tcap_model.specs.World.{has_quiet, is_side}
use Rattle.tcap_evidence.specs.NumberedMessages.{with_entries, with_entry}

-- ---- entry by entry

module _ (side : Side) (entries : List Entry) (number : ℕ) where
  -- these messages, and those sent from entry `at` on
  abbrev pub sent_from : ℕ → List Numbered → List Numbered
  sent_from at sent = with_entries side at (map item_of (drop at (take number entries))) sent

  -- The next entry is taken.
  pub sent_next : (at : ℕ) (e : Entry) → at < length entries → e ≡ get_or entries at e → at < number
      → (sent more : List Numbered) → more ≡ with_entry side at (item_of e) sent
      → sent_from at sent ≡ sent_before side entries number → sent_from (at + 1) more ≡ sent_before side entries number
  sent_next at e within here below sent more is so_far =
      ap (sent_from (at + 1)) is
      ∙ ap (λ x. with_entries side (at + 1) (map item_of (drop (at + 1) xs)) (with_entry side at (item_of x) sent)) (sym it)
      ∙ ap (λ left. with_entries side at (map item_of left) sent) (sym (drop_more xs at e inside))
      ∙ so_far
    where
      xs : List Entry
      xs = take number entries

      inside : at < length xs
      inside = simp length-take (omega arith)

      it : get_or xs at e ≡ e
      it = get_or-take number entries at e below ∙ sym here

-- ---- since the last quiet mark

since_none : (items : List Item) → has_quiet items ≡ false → since_quiet items ≡ items
since_none [] none = refl
since_none (item ∷ items) none = rw none refl

module _ (side : Side) where
  -- the messages sent among these items, after the earlier ones
  abbrev behind : List Numbered → List Item → List Message
  behind sent items =
      cond (has_quiet items) (sent_by side (since_quiet items)) (map (λ n. n.1) sent ++ sent_by side items)

  behind_none : (items : List Item) → behind [] items ≡ sent_by side (since_quiet items)
  behind_none items = by (has_quiet items) refl
    where
      by : (b : Bool) → has_quiet items ≡ b → behind [] items ≡ sent_by side (since_quiet items)
      by true is = rw is refl
      by false is = rw is (ap (sent_by side) (sym (since_none items is)))

  behind_message : (number : ℕ) (sender : Side) (m : Message) (sent : List Numbered) (items : List Item)
      → behind (with_entry side number (Ok (Sent sender m)) sent) items ≡ behind sent (Sent sender m ∷ items)
  behind_message number sender m sent items = by (has_quiet items) refl
    where
      its : (b : Bool) → is_side side sender ≡ b
          → map (λ n. n.1) (with_entry side number (Ok (Sent sender m)) sent) ++ sent_by side items
          ≡ map (λ n. n.1) sent ++ sent_by side (Sent sender m ∷ items)
      its true is = rw (is, map-append (λ (n : Numbered). n.1) sent ((number, m) ∷ [])) (append_assoc _ (m ∷ []) _)
      its false is = rw is refl

      by : (b : Bool) → has_quiet items ≡ b
          → behind (with_entry side number (Ok (Sent sender m)) sent) items ≡ behind sent (Sent sender m ∷ items)
      by true is = rw is refl
      by false is = rw is (its (is_side side sender) refl)

  sent_behind : (number : ℕ) (es : List (Result Item Reason)) (sent : List Numbered)
      → map (λ n. n.1) (with_entries side number es sent) ≡ behind sent (items_among es)
  sent_behind number [] sent = sym (append-nil _)
  sent_behind number (Err reason ∷ more) sent = sent_behind (number + 1) more sent
  sent_behind number (Ok (Sent sender m) ∷ more) sent =
      sent_behind (number + 1) more (with_entry side number (Ok (Sent sender m)) sent)
      ∙ behind_message number sender m sent (items_among more)
  sent_behind number (Ok Item.Quiet ∷ more) sent =
      sent_behind (number + 1) more [] ∙ behind_none (items_among more)

  -- The messages of an end before an entry are those among the items since the last quiet mark.
  pub sent_since : (entries : List Entry) (number : ℕ)
      → map (λ n. n.1) (sent_before side entries number)
      ≡ sent_by side (since_quiet (items_among (map item_of (take number entries))))
  sent_since entries number =
      sent_behind 0 (map item_of (take number entries)) []
      ∙ behind_none (items_among (map item_of (take number entries)))

-- ---- scenes

-- The stored messages of each end before a quiet mark give the mark's scene.
pub stretch_at_mark : (table : Table) (side : Side) (entries : List Entry) (number : ℕ) (kept : MessagesByEnd)
    → (numbered_of kept.own.items ≡ sent_before side entries number)
    × (numbered_of kept.peer.items ≡ sent_before (other side) entries number)
    → AreMessagesByEnd (mark_scene table side entries number) kept
stretch_at_mark table side entries number kept are = record {
  own = are.0;
  peer = are.1;
  own_sent = sent_since side entries number;
  peer_sent = sent_since (other side) entries number;
}
