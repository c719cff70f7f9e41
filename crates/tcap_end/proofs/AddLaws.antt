-- A half is added: the slab fills a free number, a new place leads to it, and all other halves stay.
use Rattle.std.proofs.Common.{◌≡◌, ◌≢◌, ℕ, List, [], ◌∷◌, Option, Some, None, ◌⊎◌, inl, inr, refl, sym, ap, subst, ◌∙◌}
use Rattle.std.specs.declared.cmp.Ordering.{Ordering}
use Rattle.std.specs.declared.cmp.Ordering.TheVariants.{Less, Equal, Greater}
use Rattle.std.specs.Option.{option_map}
use Rattle.std.specs.BTreeMap.{BTreeMap, insert_entry}
use Rattle.std.specs.Ordering.{match_ordering}
use Rattle.std.proofs.lemmas.Map.Lookups.{exact_bytes}
use Rattle.slab.specs.Slab.{Slab, Updates, get}
use Rattle.tcap_end.specs.declared.half.Slot.{Slot}
use Rattle.tcap_end.specs.declared.half.Slot.TheVariants.{Begun, Accepted}
use Rattle.tcap_end.specs.declared.half_state.HalfState.{HalfState}
use Rattle.tcap_end.specs.declared.halves.Halves.{Halves}
use Rattle.tcap_end.specs.declared.halves.Place.{Place}
use Rattle.tcap_end.specs.declared.halves.Place.TheVariants.{Open, Closed}
use Rattle.tcap_end.specs.Table.{octets_cmp}
use Rattle.tcap_end.specs.Half.{Half}
use Rattle.tcap_end.specs.HalfState.{half_of, other_id}
use Rattle.tcap_end.specs.End.{End, put}
use Rattle.tcap_end.specs.ReachableEnd.{HasHalf, Rises, halves_of}
use Rattle.tcap_end.specs.Halves.{Indexes, IsAt, IsHeld, IsNew, IsOpen, end_of, half_at, half_in, halves_at, keyed_half, places_of}
use Rattle.tcap_lists.proofs.MapLaws.{found_inserted, found_other, kept_at, rises_inserted}
use Rattle.tcap_end.proofs.FoundLaws.{octets_total}
use Rattle.tcap_end.proofs.FindLaws.{half_there, has_there}
use Rattle.tcap_end.proofs.PlacedLaws.{elsewhere, entries_are, halves_placed, halves_same, over_slab, places_rise, put_is, slots_eq}

-- ---- the slab

-- Each filled number of the first slab has the same half in the second.
abbrev pub Stays : Slab HalfState → Slab HalfState → Type 0
Stays s t = (k : ℕ) (h : HalfState) → get s k ≡ Some h → get t k ≡ Some h

-- growing the slab
stays_grown : (s t : Slab HalfState) (n : ℕ) → t ≡ record s { capacity = n } → Stays s t
stays_grown s t n grown k h is = ap (λ (slab : Slab HalfState). get slab k) grown ∙ is

module _ (s : Slab HalfState) (m : ℕ) (free : get s m ≡ None) where
  taken_apart : (k : ℕ) (h : HalfState) → get s k ≡ Some h → k ≢ m
  taken_apart k h is same = let bad = sym is ∙ ap (get s) same ∙ free in cc

  -- filling a free number
  stays_taken : (t : Slab HalfState) (under : Option HalfState) → Updates s t m under → Stays s t
  stays_taken t under new k h is = new.others k (taken_apart k h is) ∙ is

  -- filling a free number, and freeing it again
  stays_freed : (t u : Slab HalfState) (under : Option HalfState) → Updates s t m under → Updates t u m None → Stays s u
  stays_freed t u under new old k h is = let apart = taken_apart k h is in old.others k apart ∙ new.others k apart ∙ is

-- ---- the halves at places

-- Inserting a place inserts its half.
halves_inserted : (slab : Slab HalfState) (slot : Slot) (key : List ℕ) (place : Place) (es : List (List ℕ × Place))
    → halves_at slab slot (insert_entry octets_cmp es key place)
    ≡ insert_entry octets_cmp (halves_at slab slot es) key (half_at slab slot key place)
halves_inserted slab slot key place [] = refl
halves_inserted slab slot key place (e ∷ es) = by (octets_cmp key e.0) refl (halves_inserted slab slot key place es)
  where
    by : (r : Ordering) → octets_cmp key e.0 ≡ r
        → halves_at slab slot (insert_entry octets_cmp es key place)
        ≡ insert_entry octets_cmp (halves_at slab slot es) key (half_at slab slot key place)
        → halves_at slab slot (match_ordering r ((key, place) ∷ e ∷ es) ((e.0, place) ∷ es) (e ∷ insert_entry octets_cmp es key place))
        ≡ match_ordering r ((key, half_at slab slot key place) ∷ (e.0, half_at slab slot e.0 e.1) ∷ halves_at slab slot es)
        ((e.0, half_at slab slot key place) ∷ halves_at slab slot es)
        ((e.0, half_at slab slot e.0 e.1) ∷ insert_entry octets_cmp (halves_at slab slot es) key (half_at slab slot key place))
    by Less is rest = refl
    by Equal is rest = ap (λ q. (e.0, half_at slab slot q place) ∷ halves_at slab slot es) (sym (exact_bytes key e.0 is))
    by Greater is rest = ap (λ hs. (e.0, half_at slab slot e.0 e.1) ∷ hs) rest

-- A half of the end has a place.
had_at : (s : Halves) (slot : Slot) (key : List ℕ) (h : Half) → HasHalf (end_of s) (keyed_half slot key h)
    → (p : Place) × IsAt slot key p s × (half_at s.slab slot key p ≡ h)
had_at s slot key h had = by (kept_at octets_cmp (places_of slot s) key) refl (sym (half_there s slot key) ∙ had)
  where
    by : (o : Option Place) → kept_at octets_cmp (places_of slot s) key ≡ o → option_map (half_at s.slab slot key) o ≡ Some h
        → (p : Place) × IsAt slot key p s × (half_at s.slab slot key p ≡ h)
    by None is bad = cc
    by (Some p) is half = (p, is, cc)

-- ---- halves at places of a slab that keeps its filled numbers

module _ {s : Halves} (held : IsHeld s) (t : Slab HalfState) (stays : Stays s.slab t) where
  half_stays : (slot : Slot) (q : List ℕ) (p : Place) → IsAt slot q p s → half_at t slot q p ≡ half_at s.slab slot q p
  half_stays slot q (Open k) there = let state = held.places slot q k there in ap half_in (stays k state.0 state.1 ∙ sym state.1)
  half_stays slot q (Closed other) there = refl

  halves_stay : (slot : Slot) → halves_at t slot (places_of slot s) ≡ halves_of slot (end_of s)
  halves_stay slot = halves_same s.slab t slot (places_of slot s) (places_rise s slot held) (half_stays slot) ∙ sym (halves_placed s slot)

open_stays : (s next : Halves) (slot : Slot) (key : List ℕ) (k : ℕ) → Stays s.slab next.slab → IsOpen slot key k s → IsOpen slot key k next
open_stays s next slot key k stays state = (state.0, stays k state.0 state.1, state.2, state.3, state.4)

-- ---- nothing is added

-- Places and indexes are unchanged, and all filled numbers stay.
pub record Same (s next : Halves) : Type 0 where
  pub slab : Stays s.slab next.slab
  pub places : (slot : Slot) → places_of slot next ≡ places_of slot s
  pub by_own : next.by_own.entries ≡ s.by_own.entries
  pub by_peer : next.by_peer.entries ≡ s.by_peer.entries

module _ {s next : Halves} (held : IsHeld s) (c : Same s next) where
  halves_are : (slot : Slot) → halves_of slot (end_of next) ≡ halves_of slot (end_of s)
  halves_are slot = halves_placed next slot ∙ ap (halves_at next.slab slot) (c.places slot) ∙ halves_stay held next.slab c.slab slot

  pub same_end : end_of next ≡ end_of s
  same_end =
      ap (λ hs. record { begun = hs; accepted = (end_of next).accepted }) (halves_are Begun)
      ∙ ap (λ hs. record { begun = (end_of s).begun; accepted = hs }) (halves_are Accepted)

  pub same_held : IsHeld next
  same_held = record {
    begun = rises Begun;
    accepted = rises Accepted;
    places = λ slot key k there.
        let was = subst (λ (es : List (List ℕ × Place)). kept_at octets_cmp es key ≡ Some (Open k)) (c.places slot) there in
        open_stays s next slot key k c.slab (held.places slot key k was);
    by_own = index (λ h. h.own) s.by_own.entries next.by_own.entries Accepted c.by_own held.by_own;
    by_peer = index (λ h. h.peer) s.by_peer.entries next.by_peer.entries Begun c.by_peer held.by_peer;
  }
    where
      rises : (slot : Slot) → Rises octets_cmp (places_of slot next)
      rises slot = subst (λ (es : List (List ℕ × Place)). Rises octets_cmp es) (sym (c.places slot)) (places_rise s slot held)

      index : (of : Half → Option (List ℕ)) (before after : List (List ℕ × List ℕ)) (at : Slot) → after ≡ before
          → Indexes before at of (end_of s) → Indexes after at of (end_of next)
      index of before after at entries serves =
          subst (λ (e : End). Indexes after at of e) (sym same_end)
          (subst (λ (es : List (List ℕ × List ℕ)). Indexes es at of (end_of s)) (sym entries) serves)

-- ---- a half is added

-- A new place leads to the half, under a number that was free.
pub record Adds (key : List ℕ) (m : ℕ) (h : HalfState) (s next : Halves) : Type 0 where
  pub slab : Stays s.slab next.slab
  pub under : get next.slab m ≡ Some h
  pub here : places_of h.slot next ≡ insert_entry octets_cmp (places_of h.slot s) key (Open m)
  pub there : (other : Slot) → other ≢ h.slot → places_of other next ≡ places_of other s
  pub by_own : next.by_own.entries ≡ s.by_own.entries
  pub by_peer : next.by_peer.entries ≡ s.by_peer.entries

module _ {s next : Halves} {key : List ℕ} {m : ℕ} {h : HalfState} (held : IsHeld s) (new : IsNew key h s) (c : Adds key m h s next) where
  halves_here : halves_of h.slot (end_of next) ≡ insert_entry octets_cmp (halves_of h.slot (end_of s)) key (half_of h)
  halves_here =
      halves_placed next h.slot ∙ ap (halves_at next.slab h.slot) c.here
      ∙ halves_inserted next.slab h.slot key (Open m) (places_of h.slot s)
      ∙ ap (λ hs. insert_entry octets_cmp hs key (half_in (get next.slab m))) (halves_stay held next.slab c.slab h.slot)
      ∙ ap (λ o. insert_entry octets_cmp (halves_of h.slot (end_of s)) key (half_in o)) c.under

  halves_elsewhere : (other : Slot) → other ≢ h.slot → halves_of other (end_of next) ≡ halves_of other (end_of s)
  halves_elsewhere other apart =
      halves_placed next other ∙ ap (halves_at next.slab other) (c.there other apart) ∙ halves_stay held next.slab c.slab other

  -- Adding the half puts it into the end.
  pub end_added : end_of next ≡ put (end_of s) h.slot key (half_of h)
  end_added = put_is h.slot key (half_of h) (end_of s) (end_of next) halves_here halves_elsewhere

  -- A place is the new one, or was there before.
  abbrev IsAdded : Slot → List ℕ → Type 0
  IsAdded other q = (other ≡ h.slot) × (q ≡ key)

  place_was : (other : Slot) (q : List ℕ) (p : Place) → IsAt other q p next → (IsAdded other q × (p ≡ Open m)) ⊎ IsAt other q p s
  place_was other q p found = by (slots_eq other h.slot)
    where
      added : other ≡ h.slot → ((q ≡ key) × (p ≡ Open m)) ⊎ (kept_at octets_cmp (places_of h.slot s) q ≡ Some p)
          → (IsAdded other q × (p ≡ Open m)) ⊎ IsAt other q p s
      added same (inl now) = inl ((same, now.0), now.1)
      added same (inr was) = inr (subst (λ (x : Slot). IsAt x q p s) (sym same) was)

      by : (other ≡ h.slot) ⊎ (other ≢ h.slot) → (IsAdded other q × (p ≡ Open m)) ⊎ IsAt other q p s
      by (inl same) = added same (found_inserted octets_total exact_bytes q key (Open m) p (places_of h.slot s)
          (subst (λ (es : List (List ℕ × Place)). kept_at octets_cmp es q ≡ Some p) c.here
          (subst (λ (x : Slot). IsAt x q p next) same found)))
      by (inr apart) = inr (subst (λ (es : List (List ℕ × Place)). kept_at octets_cmp es q ≡ Some p) (c.there other apart) found)

  -- A place that was there before stays.
  place_is : (other : Slot) (q : List ℕ) (p : Place) → IsAt other q p s → IsAt other q p next
  place_is other q p found = by (slots_eq other h.slot)
    where
      by : (other ≡ h.slot) ⊎ (other ≢ h.slot) → IsAt other q p next
      by (inl same) =
          let was : IsAt h.slot q p s = subst (λ (x : Slot). IsAt x q p s) same found in
          let apart : q ≢ key = λ is. let bad = sym was ∙ ap (kept_at octets_cmp (places_of h.slot s)) is ∙ new.free in cc in
          let now = found_other octets_total exact_bytes q key (Open m) p (places_of h.slot s) apart was in
          subst (λ (x : Slot). IsAt x q p next) (sym same)
          (subst (λ (es : List (List ℕ × Place)). kept_at octets_cmp es q ≡ Some p) (sym c.here) now)
      by (inr apart) = subst (λ (es : List (List ℕ × Place)). kept_at octets_cmp es q ≡ Some p) (sym (c.there other apart)) found

  -- A half is the new one, or was there before.
  had_was : (other : Slot) (q : List ℕ) (g : Half) → HasHalf (end_of next) (keyed_half other q g)
      → (IsAdded other q × (g ≡ half_of h)) ⊎ HasHalf (end_of s) (keyed_half other q g)
  had_was other q g had = let at = had_at next other q g had in by at.0 at.2 (place_was other q at.0 at.1)
    where
      by : (p : Place) → half_at next.slab other q p ≡ g → (IsAdded other q × (p ≡ Open m)) ⊎ IsAt other q p s
          → (IsAdded other q × (g ≡ half_of h)) ⊎ HasHalf (end_of s) (keyed_half other q g)
      by p half (inl now) = inl (now.0, sym half ∙ ap (half_at next.slab other q) now.1 ∙ ap half_in c.under)
      by p half (inr was) = inr (has_there s other q p was ∙ ap Some (sym (half_stays held next.slab c.slab other q p was) ∙ half))

  -- A half that was there before stays.
  had_is : (other : Slot) (q : List ℕ) (g : Half) → HasHalf (end_of s) (keyed_half other q g) → HasHalf (end_of next) (keyed_half other q g)
  had_is other q g had =
      let at = had_at s other q g had in
      has_there next other q at.0 (place_is other q at.0 at.1)
      ∙ ap Some (half_stays held next.slab c.slab other q at.0 at.1 ∙ at.2)

  -- The stored end is still sound.
  pub held_added : IsHeld next
  held_added = record {
    begun = rises Begun;
    accepted = rises Accepted;
    places = λ other q k found. open_at other q k (place_was other q (Open k) found);
    by_own = index (λ g. g.own) s.by_own.entries next.by_own.entries Accepted (alone Accepted) c.by_own held.by_own;
    by_peer = index (λ g. g.peer) s.by_peer.entries next.by_peer.entries Begun (alone Begun) c.by_peer held.by_peer;
  }
    where
      rises : (slot : Slot) → Rises octets_cmp (places_of slot next)
      rises slot = by (slots_eq slot h.slot)
        where
          by : (slot ≡ h.slot) ⊎ (slot ≢ h.slot) → Rises octets_cmp (places_of slot next)
          by (inl same) =
              subst (λ (x : Slot). Rises octets_cmp (places_of x next)) (sym same)
              (subst (λ (es : List (List ℕ × Place)). Rises octets_cmp es) (sym c.here)
              (rises_inserted octets_total (places_of h.slot s) key (Open m) (places_rise s h.slot held)))
          by (inr apart) = subst (λ (es : List (List ℕ × Place)). Rises octets_cmp es) (sym (c.there slot apart)) (places_rise s slot held)

      there : IsOpen h.slot key m next
      there = (h, c.under, refl, new.open_half, new.kept)

      open_at : (other : Slot) (q : List ℕ) (k : ℕ) → (IsAdded other q × (Open k ≡ Open m)) ⊎ IsAt other q (Open k) s
          → IsOpen other q k next
      open_at other q k (inl now) =
          let numbers : k ≡ m = cc in
          subst (λ (x : Slot). IsOpen x q k next) (sym now.0.0)
          (subst (λ (x : List ℕ). IsOpen h.slot x k next) (sym now.0.1)
          (subst (λ (n : ℕ). IsOpen h.slot key n next) (sym numbers) there))
      open_at other q k (inr was) = open_stays s next other q k c.slab (held.places other q k was)

      alone : (at : Slot) → at ≡ h.slot → other_id at (half_of h) ≡ None
      alone at same = subst (λ (x : Slot). other_id x (half_of h) ≡ None) (sym same) new.alone

      index : (of : Half → Option (List ℕ)) (before after : List (List ℕ × List ℕ)) (at : Slot) → (at ≡ h.slot → of (half_of h) ≡ None)
          → after ≡ before → Indexes before at of (end_of s) → Indexes after at of (end_of next)
      index of before after at none entries serves id q = (
        λ found.
            let was = (serves id q).0 (subst (λ (es : List (List ℕ × List ℕ)). kept_at octets_cmp es id ≡ Some q) entries found) in
            (was.0, had_is at q was.0 was.1, was.2),
        λ now.
            subst (λ (es : List (List ℕ × List ℕ)). kept_at octets_cmp es id ≡ Some q) (sym entries)
            ((serves id q).1 (before_it now.0 now.2 (had_was at q now.0 now.1))),
      )
        where
          before_it : (g : Half) → of g ≡ Some id → (IsAdded at q × (g ≡ half_of h)) ⊎ HasHalf (end_of s) (keyed_half at q g)
              → (g : Half) × HasHalf (end_of s) (keyed_half at q g) × (of g ≡ Some id)
          before_it g its (inl new_one) = let bad = sym its ∙ ap of new_one.1 ∙ none new_one.0.0 in cc
          before_it g its (inr was) = (g, was, its)

-- ---- what the calls on the slab and on the places do together

-- The slab grew, but did not take the half.
pub grown : (s : Halves) (t : Slab HalfState) (n : ℕ) → t ≡ record s.slab { capacity = n } → Same s (record s { slab = t })
grown s t n is = record { slab = stays_grown s.slab t n is; places = over_slab s t; by_own = refl; by_peer = refl }

module _ (s next : Halves) (t : Slab HalfState) (key : List ℕ) (m : ℕ) (h : HalfState)
    (free : get s.slab m ≡ None) (taken : Updates s.slab t m (Some h))
    (begun : h.slot ≢ Begun → next.begun ≡ s.begun) (accepted : h.slot ≢ Accepted → next.accepted ≡ s.accepted)
    (others : (next.slab ≡ t) × (next.by_own ≡ s.by_own) × (next.by_peer ≡ s.by_peer)) where
  -- The slab took the half, and the place was put.
  pub adds : places_of h.slot next ≡ insert_entry octets_cmp (places_of h.slot (record s { slab = t })) key (Open m) → Adds key m h s next
  adds put = record {
    slab = subst (λ (x : Slab HalfState). Stays s.slab x) (sym others.0) (stays_taken s.slab m free t (Some h) taken);
    under = ap (λ (x : Slab HalfState). get x m) others.0 ∙ taken.changed;
    here = put ∙ ap (λ es. insert_entry octets_cmp es key (Open m)) (over_slab s t h.slot);
    there = elsewhere s next h.slot begun accepted;
    by_own = ap (λ (index : BTreeMap (List ℕ) (List ℕ)). index.entries) others.1;
    by_peer = ap (λ (index : BTreeMap (List ℕ) (List ℕ)). index.entries) others.2;
  }

  -- The place was not put, and the number was freed.
  pub freed : (u : Slab HalfState) → Updates next.slab u m None → places_of h.slot next ≡ places_of h.slot (record s { slab = t })
      → Same s (record next { slab = u })
  freed u free_again kept = record {
    slab = stays_freed s.slab m free t u (Some h) taken (subst (λ (x : Slab HalfState). Updates x u m None) others.0 free_again);
    places = places h.slot begun accepted (kept ∙ over_slab s t h.slot);
    by_own = ap (λ (index : BTreeMap (List ℕ) (List ℕ)). index.entries) others.1;
    by_peer = ap (λ (index : BTreeMap (List ℕ) (List ℕ)). index.entries) others.2;
  }
    where
      places : (slot : Slot) → (slot ≢ Begun → next.begun ≡ s.begun) → (slot ≢ Accepted → next.accepted ≡ s.accepted)
          → places_of slot next ≡ places_of slot s → (other : Slot) → places_of other (record next { slab = u }) ≡ places_of other s
      places Begun begun accepted same Begun = same
      places Begun begun accepted same Accepted = entries_are (accepted (λ is. cc))
      places Accepted begun accepted same Begun = entries_are (begun (λ is. cc))
      places Accepted begun accepted same Accepted = same
