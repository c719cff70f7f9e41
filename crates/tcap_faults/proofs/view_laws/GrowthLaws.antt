-- What the list has grows with it: what was sent, begun and heard.
use Rattle.std.proofs.Common.{◌≡◌, ◌⊎◌, inl, inr, Bool, true, false, cond, ℕ, List, [], ◌∷◌, ◌++◌, Option, Some, None, refl, sym, ap, ◌∙◌, arith}
use Rattle.std.specs.Prelude.{Contains, filter}
use Rattle.std.proofs.lemmas.List.{append-nil}
use Rattle.std.proofs.lemmas.List.Elements.{Contains-append_left, filter-append}
use Rattle.std.proofs.lemmas.List.Folds.{find-append}
use Rattle.tcap_msg.specs.declared.message.Message.{Message}
use Rattle.tcap_msg.specs.Parts.{otid_in}
use Rattle.tcap_record.specs.declared.entry.End.{End as Side}
use Rattle.tcap_record.specs.declared.entry.End.TheVariants as sides
use Rattle.tcap_end.specs.End.{is_id}
use Rattle.tcap_record.specs.Ends.{other}
use Rattle.tcap_model.specs.World.{Item, Sent, is_side}
use Rattle.tcap_model.proofs.ListLaws.{contains_first}
use Rattle.tcap_refute.specs.EarlierMessages.{peer_sent_from, sent_by}
use Rattle.tcap_model.specs.SinceMark.{is_begin_with_request}
use Rattle.tcap_refute.proofs.Members.{filter_has, has_later, has_not}
use Rattle.tcap_faults.specs.HalfByPeerId.{from_first, responds}
use Rattle.tcap_faults.specs.SentToId.{begin_from, is_continue_to, outgoing}
use Rattle.tcap_faults.proofs.run_laws.ItemLaws.{sent_other, sent_own}
use Rattle.tcap_faults.proofs.story_laws.Stories.{incoming_behind}
use Rattle.tcap_model.proofs.WorldLaws.{apart}

-- ---- what is heard

-- A message from the first that passes on is still so in a longer list.
first_still : (p : Message → Bool) (xs ys : List Message) (m : Message) → Contains (from_first p xs) m
    → Contains (from_first p (xs ++ ys)) m
first_still p [] ys m has = has_not m has
first_still p (x ∷ xs) ys m has = by (p x) has (first_still p xs ys m)
  where
    by : (b : Bool) → Contains (cond b (x ∷ xs) (from_first p xs)) m
        → (Contains (from_first p xs) m → Contains (from_first p (xs ++ ys)) m)
        → Contains (cond b (x ∷ xs ++ ys) (from_first p (xs ++ ys))) m
    by true has rest = Contains-append_left (x ∷ xs) ys m has
    by false has rest = rest has

-- A message that passes is among those from the first that passes on.
first_has : (p : Message → Bool) (xs : List Message) (m : Message) → Contains xs m → p m ≡ true
    → Contains (from_first p xs) m
first_has p [] m has so = has
first_has p (x ∷ xs) m has so = by (p x) refl (contains_first x xs m has) (first_has p xs m)
  where
    by : (b : Bool) → p x ≡ b → (x ≡ m) ⊎ Contains xs m
        → (Contains xs m → p m ≡ true → Contains (from_first p xs) m) → Contains (cond b (x ∷ xs) (from_first p xs)) m
    by true is there rest = has
    by false is (inl same) rest = let bad : false ≡ true = sym is ∙ ap p same ∙ so in cc
    by false is (inr there) rest = rest there so

-- Those from the first that passes on are among all.
first_among : (p : Message → Bool) (xs : List Message) (m : Message) → Contains (from_first p xs) m → Contains xs m
first_among p [] m has = has
first_among p (x ∷ xs) m has = by (p x) has (first_among p xs m)
  where
    by : (b : Bool) → Contains (cond b (x ∷ xs) (from_first p xs)) m → (Contains (from_first p xs) m → Contains xs m)
        → Contains (x ∷ xs) m
    by true has rest = has
    by false has rest = has_later x xs m (rest has)

pub incoming_among : (begin : Option Message) (xs : List Message) (m : Message) → Contains (incoming_behind begin xs) m
    → Contains xs m
incoming_among None xs m has = has_not m has
incoming_among (Some begin) xs m has = by (is_begin_with_request begin) has
  where
    by : (b : Bool) → Contains (cond b (from_first responds xs) xs) m → Contains xs m
    by true has = first_among responds xs m has
    by false has = has

-- ---- what was sent

pub not_other : (side : Side) → is_side (other side) side ≡ false
not_other side = grind arith

-- What the peer sends, the end does not send, and conversely.
pub own_same : (side : Side) (m : Message) (items : List Item)
    → sent_by side (items ++ Sent (other side) m ∷ []) ≡ sent_by side items
own_same side m items = sent_other side (other side) m items (apart side)

pub their_same : (side : Side) (m : Message) (items : List Item)
    → sent_by (other side) (items ++ Sent side m ∷ []) ≡ sent_by (other side) items
their_same side m items = sent_other (other side) side m items (not_other side)

-- ---- what grows

-- Each end sent these additional messages.
pub record Grows (side : Side) (items after : List Item) : Type 0 where
  pub mine : List Message
  pub theirs : List Message
  pub mine_is : sent_by side after ≡ sent_by side items ++ mine
  pub theirs_is : sent_by (other side) after ≡ sent_by (other side) items ++ theirs

abbrev pub grows_not : (side : Side) (items : List Item) → Grows side items items
grows_not side items = record {
  mine = [];
  theirs = [];
  mine_is = sym (append-nil (sent_by side items));
  theirs_is = sym (append-nil (sent_by (other side) items));
}

abbrev pub grows_own : (side : Side) (m : Message) (items : List Item) → Grows side items (items ++ Sent side m ∷ [])
grows_own side m items = record {
  mine = m ∷ [];
  theirs = [];
  mine_is = sent_own side m items;
  theirs_is = their_same side m items ∙ sym (append-nil (sent_by (other side) items));
}

abbrev pub grows_theirs : (side : Side) (m : Message) (items : List Item)
    → Grows side items (items ++ Sent (other side) m ∷ [])
grows_theirs side m items = record {
  mine = [];
  theirs = m ∷ [];
  mine_is = own_same side m items ∙ sym (append-nil (sent_by side items));
  theirs_is = sent_own (other side) m items;
}

module _ {side : Side} {items after : List Item} (grows : Grows side items after) where
  -- A message that was sent is still in the list.
  pub mine_still : (m : Message) → Contains (sent_by side items) m → Contains (sent_by side after) m
  mine_still m has = rw (grows.mine_is) (Contains-append_left (sent_by side items) grows.mine m has)

  pub theirs_still : (m : Message) → Contains (sent_by (other side) items) m → Contains (sent_by (other side) after) m
  theirs_still m has = rw (grows.theirs_is) (Contains-append_left (sent_by (other side) items) grows.theirs m has)

  -- A message from an ID, to an ID, or a Begin is still in the list.
  pub asked_more : (id : List ℕ)
      → peer_sent_from side id after ≡ peer_sent_from side id items ++ filter (λ m. is_id id (otid_in m)) grows.theirs
  asked_more id =
      rw (grows.theirs_is) (filter-append (λ m. is_id id (otid_in m)) (sent_by (other side) items) grows.theirs)

  pub asked_still : (id : List ℕ) (m : Message) → Contains (peer_sent_from side id items) m → Contains (peer_sent_from side id after) m
  asked_still id m has = rw (asked_more id) (Contains-append_left (peer_sent_from side id items) _ m has)

  pub outgoing_still : (id : List ℕ) (m : Message) → Contains (outgoing side id items) m → Contains (outgoing side id after) m
  outgoing_still id m has =
      rw (grows.mine_is, filter-append _ (sent_by side items) grows.mine)
      (Contains-append_left (outgoing side id items) _ m has)

  pub begin_still : (id : List ℕ) (begin : Message) → begin_from side id items ≡ Some begin
      → begin_from side id after ≡ Some begin
  begin_still id begin is = rw (grows.mine_is, find-append _ (sent_by side items) grows.mine, is) refl

  -- A message that a half heard after its Begin is still heard.
  pub incoming_still : (own id : List ℕ) (m : Message)
      → Contains (incoming_behind (begin_from side own items) (filter (is_continue_to own) (peer_sent_from side id items))) m
      → Contains (incoming_behind (begin_from side own after) (filter (is_continue_to own) (peer_sent_from side id after))) m
  incoming_still own id m has = by (begin_from side own items) refl has
    where
      more : List Message
      more = filter (is_continue_to own) (filter (λ n. is_id id (otid_in n)) grows.theirs)

      was : List Message
      was = filter (is_continue_to own) (peer_sent_from side id items)

      now : filter (is_continue_to own) (peer_sent_from side id after) ≡ was ++ more
      now = ap (filter (is_continue_to own)) (asked_more id) ∙ filter-append (is_continue_to own) (peer_sent_from side id items) _

      of : (b : Bool) → Contains (cond b (from_first responds was) was) m
          → Contains (cond b (from_first responds (was ++ more)) (was ++ more)) m
      of true has = first_still responds was more m has
      of false has = Contains-append_left was more m has

      by : (o : Option Message) → begin_from side own items ≡ o → Contains (incoming_behind o was) m
          → Contains (incoming_behind (begin_from side own after) (filter (is_continue_to own) (peer_sent_from side id after))) m
      by None none has = has_not m has
      by (Some begin) found has = rw (begin_still own begin found, now) (of (is_begin_with_request begin) has)

-- A Continue of the peer to an ID that the end began is heard, if it answers the request or there was none.
pub incoming_now : (side : Side) (items : List Item) (id own : List ℕ) (m begin : Message)
    → Contains (peer_sent_from side id items) m → is_continue_to own m ≡ true → begin_from side own items ≡ Some begin
    → (is_begin_with_request begin ≡ false) ⊎ (responds m ≡ true)
    → Contains (incoming_behind (begin_from side own items) (filter (is_continue_to own) (peer_sent_from side id items))) m
incoming_now side items id own m begin has goes began answers = rw began (by (is_begin_with_request begin) answers)
  where
    there : Contains (filter (is_continue_to own) (peer_sent_from side id items)) m
    there = filter_has (is_continue_to own) (peer_sent_from side id items) m has goes

    by : (b : Bool) → (b ≡ false) ⊎ (responds m ≡ true)
        → Contains (cond b (from_first responds (filter (is_continue_to own) (peer_sent_from side id items)))
        (filter (is_continue_to own) (peer_sent_from side id items))) m
    by false either = there
    by true (inl none) = cc
    by true (inr so) = first_has responds (filter (is_continue_to own) (peer_sent_from side id items)) m there so
