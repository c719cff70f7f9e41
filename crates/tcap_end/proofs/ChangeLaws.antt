-- One number of the slab and the place that leads to it change: the end after it, and why it is still sound.
use Rattle.std.proofs.Common.{◌≡◌, ◌≢◌, ℕ, false, List, Option, Some, None, Result, Ok, Err, ◌⊎◌, inl, inr, refl, sym, ap, subst, ◌∙◌}
use Rattle.std.specs.BTreeMap.{BTreeMap, insert_entry}
use Rattle.std.proofs.lemmas.Bool.{cases_eq}
use Rattle.std.proofs.lemmas.Map.Lookups.{exact_bytes}
use Rattle.slab.specs.Slab.{Slab, Updates, get, with_value}
use Rattle.slab.proofs.SlabLemmas.{Updates-with_value}
use Rattle.tcap_end.specs.declared.fault.EndFault.{EndFault}
use Rattle.tcap_end.specs.declared.half.Phase.TheVariants as phases
use Rattle.tcap_end.specs.declared.half.DialogueState.TheVariants as dialogue_states
use Rattle.tcap_end.specs.declared.half.Slot.{Slot}
use Rattle.tcap_end.specs.declared.half.Slot.TheVariants.{Begun, Accepted}
use Rattle.tcap_end.specs.declared.half_state.HalfState.{HalfState}
use Rattle.tcap_end.specs.declared.halves.Halves.{Halves}
use Rattle.tcap_end.specs.declared.halves.Place.{Place}
use Rattle.tcap_end.specs.declared.halves.Place.TheVariants.{Open, Closed}
use Rattle.tcap_end.specs.Step.{AnswersInMemory, ◌>>=◌}
use Rattle.tcap_end.specs.Table.{octets_cmp}
use Rattle.tcap_end.specs.Half.{Half, closed_half, fresh, is_closed}
use Rattle.tcap_end.specs.HalfState.{half_of}
use Rattle.tcap_end.specs.End.{End, put}
use Rattle.tcap_end.specs.ReachableEnd.{HasHalf, IsHalfKey, Rises, halves_of}
use Rattle.tcap_end.specs.Halves.{AnswersOver, Becomes, Indexes, IsAt, IsHeld, IsOpen, closed_at, end_of, half_at, half_in, halves_at, places_of, keyed_half}
use Rattle.tcap_lists.proofs.MapLaws.{found_inserted, found_new, insert_again, keys_eq, kept_at, rises_inserted}
use Rattle.tcap_end.proofs.FoundLaws.{octets_total}
use Rattle.tcap_end.proofs.HalfLaws.{Follows}
use Rattle.tcap_end.proofs.PlacedLaws.{elsewhere, slots_eq, halves_same, halves_put, halves_placed, places_rise, the_open, has_open, kept_by, one_place, put_is, indexes_put}

-- ---- a change

-- One number changes, and the place that led to it.
pub record Changes (slot : Slot) (key : List ℕ) (k : ℕ) (place : Place) (under : Option HalfState) (s next : Halves) : Type 0 where
  pub slab : Updates s.slab next.slab k under
  pub here : places_of slot next ≡ insert_entry octets_cmp (places_of slot s) key place
  pub there : (other : Slot) → other ≢ slot → places_of other next ≡ places_of other s
  pub by_own : next.by_own.entries ≡ s.by_own.entries
  pub by_peer : next.by_peer.entries ≡ s.by_peer.entries

-- A place that does not lead to the number keeps its half.
half_stays : (s t : Slab HalfState) (k : ℕ) (under : Option HalfState) (slot : Slot) (q : List ℕ) (p : Place)
    → Updates s t k under → p ≢ Open k → half_at t slot q p ≡ half_at s slot q p
half_stays s t k under slot q (Open j) up apart = ap half_in (up.others j (λ is. apart (ap (λ n. Open n) is)))
half_stays s t k under slot q (Closed other) up apart = refl

module _ {s next : Halves} {slot : Slot} {key : List ℕ} {k : ℕ} {place : Place} {under : Option HalfState}
    (held : IsHeld s) (is : IsAt slot key (Open k) s) (c : Changes slot key k place under s next) where
  -- The place that leads to the number is the one that changes.
  leads : (other : Slot) (q : List ℕ) (p : Place) → IsAt other q p s → p ≡ Open k → (other ≡ slot) × (q ≡ key)
  leads other q p too p_is = one_place s slot other key q k held is (subst (λ (x : Place). IsAt other q x s) p_is too)

  halves_here : halves_of slot (end_of next) ≡ insert_entry octets_cmp (halves_of slot (end_of s)) key (half_at next.slab slot key place)
  halves_here =
      halves_placed next slot ∙ ap (halves_at next.slab slot) c.here
      ∙ halves_put s.slab next.slab slot key (Open k) place (places_of slot s) (places_rise s slot held) is
      (λ q p apart too. half_stays s.slab next.slab k under slot q p c.slab (λ p_is. apart (leads slot q p too p_is).1))
      ∙ ap (λ hs. insert_entry octets_cmp hs key (half_at next.slab slot key place)) (sym (halves_placed s slot))

  halves_there : (other : Slot) → other ≢ slot → halves_of other (end_of next) ≡ halves_of other (end_of s)
  halves_there other apart =
      halves_placed next other ∙ ap (halves_at next.slab other) (c.there other apart)
      ∙ halves_same s.slab next.slab other (places_of other s) (places_rise s other held)
      (λ q p too. half_stays s.slab next.slab k under other q p c.slab (λ p_is. apart (leads other q p too p_is).0))
      ∙ sym (halves_placed s other)

  -- The half at the changed place is put into the end.
  pub end_changed : end_of next ≡ put (end_of s) slot key (half_at next.slab slot key place)
  end_changed = put_is slot key (half_at next.slab slot key place) (end_of s) (end_of next) halves_here halves_there

  next_rises : (other : Slot) → Rises octets_cmp (places_of other next)
  next_rises other = by (slots_eq other slot)
    where
      by : (other ≡ slot) ⊎ (other ≢ slot) → Rises octets_cmp (places_of other next)
      by (inl same) =
          let risen = rises_inserted octets_total (places_of slot s) key place (places_rise s slot held) in
          subst (λ (x : Slot). Rises octets_cmp (places_of x next)) (sym same)
          (subst (λ (es : List (List ℕ × Place)). Rises octets_cmp es) (sym c.here) risen)
      by (inr apart) = subst (λ (es : List (List ℕ × Place)). Rises octets_cmp es) (sym (c.there other apart)) (places_rise s other held)

  -- A place after the change is the new one, or another that was there before.
  abbrev IsNew : Slot → List ℕ → Place → Type 0
  IsNew other q p = (other ≡ slot) × (q ≡ key) × (p ≡ place)

  abbrev WasElsewhere : Slot → List ℕ → Place → Type 0
  WasElsewhere other q p = IsAt other q p s × (other ≡ slot → q ≢ key)

  place_was : (other : Slot) (q : List ℕ) (p : Place) → IsAt other q p next → IsNew other q p ⊎ WasElsewhere other q p
  place_was other q p found = by (slots_eq other slot)
    where
      inserted : other ≡ slot → kept_at octets_cmp (insert_entry octets_cmp (places_of slot s) key place) q ≡ Some p
      inserted same = subst (λ (es : List (List ℕ × Place)). kept_at octets_cmp es q ≡ Some p) c.here
          (subst (λ (x : Slot). IsAt x q p next) same found)

      old : other ≡ slot → q ≢ key → ((q ≡ key) × (p ≡ place)) ⊎ (kept_at octets_cmp (places_of slot s) q ≡ Some p)
          → IsNew other q p ⊎ WasElsewhere other q p
      old same apart (inl new) = absurd (apart new.0)
      old same apart (inr there) = inr (subst (λ (x : Slot). IsAt x q p s) (sym same) there, λ _. apart)

      keyed : other ≡ slot → (q ≡ key) ⊎ (q ≢ key) → IsNew other q p ⊎ WasElsewhere other q p
      keyed same (inl key_is) =
          let there =
          subst (λ (x : List ℕ). kept_at octets_cmp (insert_entry octets_cmp (places_of slot s) key place) x ≡ Some p) key_is
          (inserted same) in
          let new = found_new octets_total key place (places_of slot s) in
          let places : p ≡ place = cc in
          inl (same, key_is, places)
      keyed same (inr apart) = old same apart (found_inserted octets_total exact_bytes q key place p (places_of slot s) (inserted same))

      by : (other ≡ slot) ⊎ (other ≢ slot) → IsNew other q p ⊎ WasElsewhere other q p
      by (inl same) = keyed same (keys_eq octets_total exact_bytes q key)
      by (inr apart) =
          inr (
            subst (λ (es : List (List ℕ × Place)). kept_at octets_cmp es q ≡ Some p) (c.there other apart) found,
            λ same. absurd (apart same),
          )

  -- The stored end is still sound, if the new place has the IDs of the old half and leads to no number or to an open
  -- half.
  pub held_changed : (h : Half) → HasHalf (end_of s) (keyed_half slot key h)
      → (half_at next.slab slot key place).own ≡ h.own → (half_at next.slab slot key place).peer ≡ h.peer
      → ((j : ℕ) → place ≡ Open j → IsOpen slot key j next) → IsHeld next
  held_changed h had own peer opens = record {
    begun = next_rises Begun;
    accepted = next_rises Accepted;
    places = λ other q j found. open_at other q j (place_was other q (Open j) found);
    by_own = index (λ h. h.own) s.by_own.entries next.by_own.entries Accepted own c.by_own held.by_own;
    by_peer = index (λ h. h.peer) s.by_peer.entries next.by_peer.entries Begun peer c.by_peer held.by_peer;
  }
    where
      open_at : (other : Slot) (q : List ℕ) (j : ℕ) → IsNew other q (Open j) ⊎ WasElsewhere other q (Open j) → IsOpen other q j next
      open_at other q j (inl new) =
          subst (λ (x : Slot). IsOpen x q j next) (sym new.0)
          (subst (λ (x : List ℕ). IsOpen slot x j next) (sym new.1) (opens j (sym new.2)))
      open_at other q j (inr old) =
          let was = held.places other q j old.0 in
          let apart : j ≢ k = λ j_is. let one = leads other q (Open j) old.0 (ap (λ n. Open n) j_is) in old.1 one.0 one.1 in
          (was.0, c.slab.others j apart ∙ was.1, was.2, was.3, was.4)

      index : (of : Half → Option (List ℕ)) (before after : List (List ℕ × List ℕ)) (at : Slot)
          → of (half_at next.slab slot key place) ≡ of h → after ≡ before → Indexes before at of (end_of s)
          → Indexes after at of (end_of next)
      index of before after at same entries serves =
          let put_so = indexes_put of before (end_of s) slot at key h (half_at next.slab slot key place) had same serves in
          subst (λ (e : End). Indexes after at of e) (sym end_changed)
          (subst (λ (es : List (List ℕ × List ℕ)). Indexes es at of (put (end_of s) slot key (half_at next.slab slot key place)))
          (sym entries) put_so)

-- ---- an open half changes

-- the halves with another under a number
abbrev pub going_on : Halves → ℕ → HalfState → Halves
going_on s k g = record s { slab = with_value s.slab k g }

places_stay : (s : Halves) (k : ℕ) (g : HalfState) (slot : Slot) → places_of slot (going_on s k g) ≡ places_of slot s
places_stay s k g Begun = refl
places_stay s k g Accepted = refl

module _ (s : Halves) (slot : Slot) (key : List ℕ) (k : ℕ) (h : HalfState)
    (held : IsHeld s) (is : IsAt slot key (Open k) s) (was : get s.slab k ≡ Some h) where
  changes_on : (g : HalfState) → Changes slot key k (Open k) (Some g) s (going_on s k g)
  changes_on g = record {
    slab = Updates-with_value s.slab k g (rw was refl);
    here = places_stay s k g slot ∙ sym (insert_again octets_total key (Open k) (places_of slot s) (places_rise s slot held) is);
    there = λ other apart. places_stay s k g other;
    by_own = refl;
    by_peer = refl;
  }

  -- The changed half is put into the end.
  pub end_on : (g : HalfState) → end_of (going_on s k g) ≡ put (end_of s) slot key (half_of g)
  end_on g = end_changed held is (changes_on g) ∙ ap (λ o. put (end_of s) slot key (half_in o)) (changes_on g).slab.changed

  -- If the half means what it meant, the end is unchanged.
  pub kept_on : (g : HalfState) → half_of g ≡ half_of h → end_of (going_on s k g) ≡ end_of s
  kept_on g same =
      ap (λ hs. record { begun = hs; accepted = halves_at (with_value s.slab k g) Accepted s.accepted.entries })
      (halves_same s.slab (with_value s.slab k g) Begun s.begun.entries held.begun (λ q p found. stays Begun q p))
      ∙ ap (λ hs. record (end_of s) { accepted = hs })
      (halves_same s.slab (with_value s.slab k g) Accepted s.accepted.entries held.accepted (λ q p found. stays Accepted q p))
    where
      here : half_in (get (with_value s.slab k g) k) ≡ half_in (get s.slab k)
      here = ap half_in (changes_on g).slab.changed ∙ same ∙ ap half_in (sym was)

      by : (at : Slot) (q : List ℕ) (j : ℕ) → (j ≡ k) ⊎ (j ≢ k)
          → half_at (with_value s.slab k g) at q (Open j) ≡ half_at s.slab at q (Open j)
      by at q j (inl j_is) = subst (λ (n : ℕ). half_in (get (with_value s.slab k g) n) ≡ half_in (get s.slab n)) (sym j_is) here
      by at q j (inr apart) = ap half_in ((changes_on g).slab.others j apart)

      stays : (at : Slot) (q : List ℕ) (p : Place) → half_at (with_value s.slab k g) at q p ≡ half_at s.slab at q p
      stays at q (Open j) = by at q j (cases_eq j k)
      stays at q (Closed other) = refl

  -- The half becomes `change` of the earlier half.
  pub becomes_on : (g : HalfState) (change : Half → Half) → half_of g ≡ change (half_of h) → Becomes slot key change s (going_on s k g)
  becomes_on g change made x had =
      end_on g ∙ ap (put (end_of s) slot key) (made ∙ ap change (sym (the_open s slot key k x h is was had)))

  -- If the half changed as a step says, so did the end.
  pub answers_on : (g : HalfState) (step : Half → Result Half EndFault) (result : Result (Unit {0}) EndFault)
      → AnswersInMemory (step (half_of h)) result (half_of g) → AnswersOver slot key step result s (going_on s k g)
  answers_on g step result answers x had = rw (the_open s slot key k x h is was had, end_on g) (by result answers)
    where
      by : (r : Result (Unit {0}) EndFault) → AnswersInMemory (step (half_of h)) r (half_of g)
          → AnswersInMemory (step (half_of h) >>= λ y. Ok (put (end_of s) slot key y)) r (put (end_of s) slot key (half_of g))
      by (Ok done) made = rw made refl
      by (Err reason) refused = λ apart. rw (refused apart) refl

  -- The stored end is still sound.
  pub held_on : (g : HalfState) → g.slot ≡ h.slot → Follows (half_of h) (half_of g) → IsHeld (going_on s k g)
  held_on g slots follows =
      held_changed held is (changes_on g) (half_of h) (has_open s slot key k h is was)
      (ap (λ o. (half_in o).own) changed ∙ follows.own) (ap (λ o. (half_in o).peer) changed ∙ follows.peer) opens
    where
      changed : get (with_value s.slab k g) k ≡ Some g
      changed = (changes_on g).slab.changed

      kept : (at : Slot) → IsHalfKey at key (half_of h) → IsHalfKey at key (half_of g)
      kept Begun by_own = follows.own ∙ by_own
      kept Accepted by_peer = follows.peer ∙ by_peer

      open_on : IsOpen slot key k s → IsOpen slot key k (going_on s k g)
      open_on there =
          let same : there.0 ≡ h = cc in
          let shut = subst (λ (x : HalfState). is_closed x.phase ≡ false) same there.3 in (
            g,
            changed,
            slots ∙ ap (λ (x : HalfState). x.slot) (sym same) ∙ there.2,
            ap is_closed follows.phase ∙ shut,
            kept slot (kept_by s slot key k h held is was),
          )

      opens : (j : ℕ) → Open k ≡ Open j → IsOpen slot key j (going_on s k g)
      opens j same = let numbers : k ≡ j = cc in
          subst (λ (n : ℕ). IsOpen slot key n (going_on s k g)) numbers (open_on (held.places slot key k is))

-- ---- an open half closes

-- The half closes, and the stored end is still sound.
pub record Closes (slot : Slot) (key : List ℕ) (s next : Halves) : Type 0 where
  pub closed : Becomes slot key closed_half s next
  pub held : IsHeld next

-- The half's number is freed, and its place keeps its other ID.
closes : (s next : Halves) (slot : Slot) (key : List ℕ) (k : ℕ) (h : HalfState) (other : Option (List ℕ))
    → IsHeld s → IsAt slot key (Open k) s → get s.slab k ≡ Some h
    → Changes slot key k (Closed other) None s next → closed_at slot key other ≡ closed_half (half_of h) → Closes slot key s next
closes s next slot key k h other held is was c same = record {
  closed = λ x had.
      let halves = the_open s slot key k x h is was had in
      end_changed held is c ∙ ap (put (end_of s) slot key) (same ∙ ap closed_half (sym halves));
  held = held_changed held is c (half_of h) (has_open s slot key k h is was)
      (ap (λ (x : Half). x.own) same) (ap (λ (x : Half). x.peer) same) (λ j is_open. cc);
}

-- a half whose end sent the Begin
pub closes_begun : (s next : Halves) (slab : Slab HalfState) (begun : BTreeMap (List ℕ) Place) (slot : Slot) (key : List ℕ)
    (k : ℕ) (h : HalfState)
    → IsHeld s → IsAt slot key (Open k) s → get s.slab k ≡ Some h → Updates s.slab slab k None → slot ≡ Begun
    → begun.entries ≡ insert_entry octets_cmp s.begun.entries key (Closed h.peer)
    → next ≡ record s { slab = slab; begun = begun } → Closes slot key s next
closes_begun s next slab begun slot key k h held is was freed slot_is entries next_is =
    subst (λ (n : Halves). Closes slot key s n) (sym next_is) (subst (λ (x : Slot). Closes x key s after) (sym slot_is) closed)
  where
    after : Halves
    after = record s { slab = slab; begun = begun }

    there : (other : Slot) → other ≢ Begun → places_of other after ≡ places_of other s
    there = elsewhere s after Begun (λ apart. absurd (apart refl)) (λ _. refl)

    at_begun : IsAt Begun key (Open k) s
    at_begun = subst (λ (x : Slot). IsAt x key (Open k) s) slot_is is

    closed : Closes Begun key s after
    closed = closes s after Begun key k h h.peer held at_begun was
        (record { slab = freed; here = entries; there = there; by_own = refl; by_peer = refl })
        (ap (λ own. fresh phases.Closed own h.peer dialogue_states.Without) (sym (kept_by s Begun key k h held at_begun was)))

-- a half whose end received the Begin
pub closes_accepted : (s next : Halves) (slab : Slab HalfState) (accepted : BTreeMap (List ℕ) Place) (slot : Slot)
    (key : List ℕ) (k : ℕ) (h : HalfState)
    → IsHeld s → IsAt slot key (Open k) s → get s.slab k ≡ Some h → Updates s.slab slab k None → slot ≡ Accepted
    → accepted.entries ≡ insert_entry octets_cmp s.accepted.entries key (Closed h.own)
    → next ≡ record s { slab = slab; accepted = accepted } → Closes slot key s next
closes_accepted s next slab accepted slot key k h held is was freed slot_is entries next_is =
    subst (λ (n : Halves). Closes slot key s n) (sym next_is) (subst (λ (x : Slot). Closes x key s after) (sym slot_is) closed)
  where
    after : Halves
    after = record s { slab = slab; accepted = accepted }

    there : (other : Slot) → other ≢ Accepted → places_of other after ≡ places_of other s
    there = elsewhere s after Accepted (λ _. refl) (λ apart. absurd (apart refl))

    at_accepted : IsAt Accepted key (Open k) s
    at_accepted = subst (λ (x : Slot). IsAt x key (Open k) s) slot_is is

    closed : Closes Accepted key s after
    closed = closes s after Accepted key k h h.own held at_accepted was
        (record { slab = freed; here = entries; there = there; by_own = refl; by_peer = refl })
        (ap (λ peer. fresh phases.Closed h.own peer dialogue_states.Without) (sym (kept_by s Accepted key k h held at_accepted was)))
