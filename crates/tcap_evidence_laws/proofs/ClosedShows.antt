-- If the half of a message was closed and the message has no ambiguous ID, the end's provider sent an Abort with cause
-- 1 to the destination ID.
use Rattle.tcap_evidence_laws.proofs.Common.{ℕ, ◌≡◌, ◌⊎◌, inl, inr, Bool, true, false, not, ◌&&◌, List, [], ◌∷◌, ◌++◌, Option, Some, None, append_assoc, append-nil, refl, sym, ap, subst, ◌∙◌, Contains, filter, list_any, and_from, and_parts, not-true, or_cases, Contains-append_left, Contains-append_right, filter_map-append, Message, cause_in, dtid_in, otid_in, Side, other, is_id, Item, Sent, is_side, id_is, peer_sent_from, has_a, is_a, message_of, sent_by, is_that_id, any_has, filter_has, filter_map_has, has_first, was_closed, is_continue_to, is_abort_with, is_cause, is_own_tangled, peers_of, any_is, filter_is, passes_not}
use Rattle.std.specs.Prelude.{filter_map}
use Rattle.tcap_faults.specs.ClosedHalves.{all_continue_to, shows_closed}
use Rattle.tcap_faults.specs.SentToId.{has_used, one_passes}
use Rattle.tcap_faults.proofs.transaction_laws.TangledLaws.{all_same}
use Rattle.tcap_msg.specs.declared.kind.Kind.TheVariants as forms

-- An item that passes has items before and after it.
passing : (passes : List Item → Item → Bool) (seen items : List Item) → one_passes passes seen items ≡ true
    → (before : List Item) × (item : Item) × (after : List Item)
    × (items ≡ before ++ item ∷ after) × (passes (seen ++ before) item ≡ true)
passing passes seen [] is = cc
passing passes seen (item ∷ items) is =
    by (or_cases (passes seen item) (one_passes passes (seen ++ item ∷ []) items) is) (passing passes (seen ++ item ∷ []) items)
  where
    by : (passes seen item ≡ true) ⊎ (one_passes passes (seen ++ item ∷ []) items ≡ true)
        → (one_passes passes (seen ++ item ∷ []) items ≡ true
        → (before : List Item) × (it : Item) × (after : List Item)
        × (items ≡ before ++ it ∷ after) × (passes ((seen ++ item ∷ []) ++ before) it ≡ true))
        → (before : List Item) × (it : Item) × (after : List Item)
        × (item ∷ items ≡ before ++ it ∷ after) × (passes (seen ++ before) it ≡ true)
    by (inl here) rest = ([], item, items, refl, ap (λ (xs : List Item). passes xs item) (append-nil seen) ∙ here)
    by (inr later) rest =
        let (before, it, after, are, so) = rest later in (
          item ∷ before,
          it,
          after,
          ap (λ (xs : List Item). item ∷ xs) are,
          ap (λ (xs : List Item). passes xs it) (sym (append_assoc seen (item ∷ []) before)) ∙ so,
        )

-- A message that was sent before is among all that were sent.
sent_still : (side : Side) (before after : List Item) (x : Message) → Contains (sent_by side before) x
    → Contains (sent_by side (before ++ after)) x
sent_still side before after x has =
    subst (λ (ms : List Message). Contains ms x) (sym (filter_map-append (message_of side) before after))
    (Contains-append_left (sent_by side before) (sent_by side after) x has)

module _ (side : Side) (items : List Item) (own id : List ℕ) (joined : Contains (peers_of side items own) id)
    (one : is_own_tangled side items own ≡ false) where
  -- A peer's ID from which the peer sent Continues to the own ID is the destination ID.
  same_peer : (before after : List Item) (other_id : List ℕ) → items ≡ before ++ after
      → all_continue_to own (peer_sent_from side other_id before) ≡ true → has_used side before own ≡ true → other_id ≡ id
  same_peer before after other_id are goes used =
      let (some, all) = and_parts (has_a forms.Continue (peer_sent_from side other_id before)) _ goes in
      let (x, has, going) = any_is (is_a forms.Continue) (peer_sent_from side other_id before) some in
      let (sent, from) = filter_is (λ m. is_id other_id (otid_in m)) (sent_by (other side) before) x has in
      let not_elsewhere : (is_a forms.Continue x && not (is_continue_to own x)) ≡ false =
      passes_not _ (peer_sent_from side other_id before) x has (not-true _ all) in
      let on : is_continue_to own x ≡ true = here x going not_elsewhere in
      let sent_there : Contains (sent_by (other side) items) x =
      subst (λ (xs : List Item). Contains (sent_by (other side) xs) x) (sym are)
      (sent_still (other side) before after x sent) in
      let kept = filter_has (is_continue_to own) (sent_by (other side) items) x sent_there on in
      let named = filter_map_has otid_in (filter (is_continue_to own) (sent_by (other side) items)) x other_id kept
      (id_is other_id (otid_in x) from) in
      all_same (peers_of side items own) other_id id one (peer_of named) joined
    where
      here : (x : Message) → is_a forms.Continue x ≡ true → (is_a forms.Continue x && not (is_continue_to own x)) ≡ false
          → is_continue_to own x ≡ true
      here x going apart =
          and_from (is_a forms.Continue x) (is_id own (dtid_in x)) going (by (is_id own (dtid_in x)) (rw going at apart))
        where
          by : (b : Bool) → (true && not (true && b)) ≡ false → b ≡ true
          by true so = refl
          by false so = cc

      used_still : has_used side items own ≡ true
      used_still =
          let (y, has, from) = any_is (λ m. is_id own (otid_in m)) (sent_by side before) used in
          any_has (λ m. is_id own (otid_in m)) (sent_by side items) y
          (subst (λ (xs : List Item). Contains (sent_by side xs) y) (sym are) (sent_still side before after y has)) from

      peer_of : Contains (filter_map otid_in (filter (is_continue_to own) (sent_by (other side) items))) other_id
          → Contains (peers_of side items own) other_id
      peer_of named = rw used_still (Contains-append_right _ _ other_id named)

  -- The item that shows that the half is closed is an Abort to the destination ID.
  closes : (before : List Item) (item : Item) (after : List Item) → items ≡ before ++ item ∷ after
      → shows_closed side own before item ≡ true → list_any (is_abort_with 1 id) (sent_by side items) ≡ true
  closes before Item.Quiet after are is = cc
  closes before (Sent sender m) after are is = by (dtid_in m) refl
    where
      there : (to : List ℕ) → is_side side sender ≡ true → is_cause 1 (cause_in m) ≡ true → dtid_in m ≡ Some to → to ≡ id
          → list_any (is_abort_with 1 id) (sent_by side items) ≡ true
      there to own_side caused goes same =
          let has : Contains (sent_by side (Sent sender m ∷ after)) m =
          rw own_side (has_first m (sent_by side after)) in
          let sent : Contains (sent_by side items) m =
          subst (λ (xs : List Item). Contains (sent_by side xs) m) (sym are)
          (subst (λ (ms : List Message). Contains ms m) (sym (filter_map-append (message_of side) before (Sent sender m ∷ after)))
          (Contains-append_right (sent_by side before) (sent_by side (Sent sender m ∷ after)) m has)) in
          any_has (is_abort_with 1 id) (sent_by side items) m sent
          (and_from (is_id id (dtid_in m)) (is_cause 1 (cause_in m)) (is_that_id id (dtid_in m) (goes ∙ ap Some same)) caused)

      by : (o : Option (List ℕ)) → dtid_in m ≡ o → list_any (is_abort_with 1 id) (sent_by side items) ≡ true
      by None goes =
          let so : (is_side side sender && is_cause 1 (cause_in m) && false && has_used side before own) ≡ true = rw goes at is in
          let first = (and_parts (is_side side sender && is_cause 1 (cause_in m) && false) _ so).0 in
          let bad : false ≡ true = (and_parts (is_side side sender && is_cause 1 (cause_in m)) false first).1 in cc
      by (Some to) goes =
          let so : (is_side side sender && is_cause 1 (cause_in m) && all_continue_to own (peer_sent_from side to before)
          && has_used side before own) ≡ true = rw goes at is in
          let (three, used) =
          and_parts (is_side side sender && is_cause 1 (cause_in m) && all_continue_to own (peer_sent_from side to before)) _ so in
          let (two, all) = and_parts (is_side side sender && is_cause 1 (cause_in m)) _ three in
          let (own_side, caused) = and_parts (is_side side sender) _ two in
          there to own_side caused goes (same_peer before (Sent sender m ∷ after) to are all used)

  pub closed_by : was_closed side items (Some own) ≡ true → list_any (is_abort_with 1 id) (sent_by side items) ≡ true
  closed_by is =
      let (before, item, after, are, so) = passing (shows_closed side own) [] items is in closes before item after are so
