-- After each change, every half in the slab still has a place; so an empty slab means that all halves are closed.
use Rattle.std.proofs.Common.{◌≡◌, ◌≢◌, ℕ, ◌==◌, Bool, true, false, ◌&&◌, cond, List, [], ◌∷◌, Option, Some, None, Contains, length, ◌⊎◌, inl, inr, refl, sym, ap, ap₂, subst, ◌∙◌, arith}
use Rattle.std.specs.BTreeMap.{BTreeMap, insert_entry, is_at}
use Rattle.std.proofs.Math.Bool.{and-false}
use Rattle.std.proofs.Math.Dec.{eqb-suc-zero}
use Rattle.std.proofs.lemmas.Bool.{cases_eq}
use Rattle.std.proofs.lemmas.Map.Lookups.{exact_bytes}
use Rattle.slab.specs.Slab.{Slab, Updates, entries, get, slab_len, with_value}
use Rattle.slab.proofs.SlabLemmas.{Contains-entries, Updates-with_value, length-entries}
use Rattle.tcap_end.specs.declared.half.Slot.{Slot}
use Rattle.tcap_end.specs.declared.half.Slot.TheVariants.{Begun, Accepted}
use Rattle.tcap_end.specs.declared.half_state.HalfState.{HalfState}
use Rattle.tcap_end.specs.declared.halves.Halves.{Halves}
use Rattle.tcap_end.specs.declared.halves.Place.{Place}
use Rattle.tcap_end.specs.declared.halves.Place.TheVariants.{Open, Closed}
use Rattle.tcap_end.specs.Table.{octets_cmp}
use Rattle.tcap_end.specs.Half.{Half, is_closed}
use Rattle.tcap_end.specs.HalfState.{half_of}
use Rattle.tcap_end.specs.End.{End, all_closed}
use Rattle.tcap_end.specs.ReachableEnd.{HasHalf}
use Rattle.tcap_end.specs.Halves.{AllPlaced, IsAt, IsHeld, IsOpen, end_of, half_at, half_in, halves_at, places_of, keyed_half}
use Rattle.tcap_lists.proofs.MapLaws.{found_new, found_other, kept_at}
use Rattle.tcap_end.proofs.FoundLaws.{octets_total}
use Rattle.tcap_end.proofs.PlacedLaws.{elsewhere, has_open, over_slab, slots_eq}
use Rattle.tcap_end.proofs.ChangeLaws.{going_on}

-- ---- no place changes

-- Each half under a number was there before, or a half of the same slot was.
pub placed_same : (s next : Halves) → ((slot : Slot) → places_of slot next ≡ places_of slot s)
    → ((k : ℕ) (h : HalfState) → get next.slab k ≡ Some h → (was : HalfState) × (get s.slab k ≡ Some was) × (was.slot ≡ h.slot))
    → AllPlaced s → AllPlaced next
placed_same s next places before placed k h taken =
    let old = before k h taken in
    let there = placed k old.0 old.1 in
    let here = subst (λ (es : List (List ℕ × Place)). kept_at octets_cmp es there.0 ≡ Some (Open k)) (sym (places old.0.slot)) there.1 in
    (there.0, subst (λ (x : Slot). IsAt x there.0 (Open k) next) old.2 here)

-- A half changes, but not its slot.
pub placed_on : (s : Halves) (k : ℕ) (h g : HalfState) → get s.slab k ≡ Some h → g.slot ≡ h.slot → AllPlaced s → AllPlaced (going_on s k g)
placed_on s k h g was slots =
    placed_same s (going_on s k g) (over_slab s (with_value s.slab k g)) (λ j x taken. by j x taken (cases_eq j k))
  where
    up : Updates s.slab (with_value s.slab k g) k (Some g)
    up = Updates-with_value s.slab k g (rw was refl)

    by : (j : ℕ) (x : HalfState) → get (with_value s.slab k g) j ≡ Some x → (j ≡ k) ⊎ (j ≢ k)
        → (old : HalfState) × (get s.slab j ≡ Some old) × (old.slot ≡ x.slot)
    by j x taken (inl same) =
        let under : Some g ≡ Some x = sym up.changed ∙ ap (get (with_value s.slab k g)) (sym same) ∙ taken in
        let halves : g ≡ x = cc in
        (h, ap (get s.slab) same ∙ was, sym slots ∙ ap (λ (y : HalfState). y.slot) halves)
    by j x taken (inr apart) = (x, sym (up.others j apart) ∙ taken, refl)

-- ---- one place changes

-- Only number `k` leads from the place; and a half under it is in the place's slot, and the place leads to it.
record Leads (slot : Slot) (key : List ℕ) (k : ℕ) (place : Place) (under : Option HalfState) (s : Halves) : Type 0 where
  alone : (j : ℕ) → IsAt slot key (Open j) s → j ≡ k
  new : (h : HalfState) → under ≡ Some h → (h.slot ≡ slot) × (place ≡ Open k)

-- a place that led to the number, and is now closed
leads_closed : (s : Halves) (slot : Slot) (key : List ℕ) (k : ℕ) (other : Option (List ℕ)) → IsAt slot key (Open k) s
    → Leads slot key k (Closed other) None s
leads_closed s slot key k other is = record {
  alone = λ j too. let places : Some (Open j) ≡ Some (Open k) = sym too ∙ is in cc;
  new = λ h some. cc;
}

-- a new place
leads_new : (s : Halves) (key : List ℕ) (k : ℕ) (h : HalfState) → kept_at octets_cmp (places_of h.slot s) key ≡ None
    → Leads h.slot key k (Open k) (Some h) s
leads_new s key k h free = record {
  alone = λ j is. let bad : None ≡ Some (Open j) = sym free ∙ is in cc;
  new = λ g some. let halves : g ≡ h = cc in (ap (λ (x : HalfState). x.slot) halves, refl);
}

module _ {s next : Halves} {slot : Slot} {key : List ℕ} {k : ℕ} {place : Place} {under : Option HalfState}
    (slab : Updates s.slab next.slab k under) (here : places_of slot next ≡ insert_entry octets_cmp (places_of slot s) key place)
    (there : (other : Slot) → other ≢ slot → places_of other next ≡ places_of other s) (leads : Leads slot key k place under s) where
  -- Any other place stays.
  place_stays : (other : Slot) (q : List ℕ) (p : Place) → (other ≡ slot → q ≢ key) → IsAt other q p s → IsAt other q p next
  place_stays other q p apart is = by (slots_eq other slot)
    where
      by : (other ≡ slot) ⊎ (other ≢ slot) → IsAt other q p next
      by (inl same) =
          let was : IsAt slot q p s = subst (λ (x : Slot). IsAt x q p s) same is in
          let found = found_other octets_total exact_bytes q key place p (places_of slot s) (apart same) was in
          subst (λ (x : Slot). IsAt x q p next) (sym same)
          (subst (λ (es : List (List ℕ × Place)). kept_at octets_cmp es q ≡ Some p) (sym here) found)
      by (inr differs) = subst (λ (es : List (List ℕ × Place)). kept_at octets_cmp es q ≡ Some p) (sym (there other differs)) is

  -- Every half in the slab still has a place.
  placed_changed : AllPlaced s → AllPlaced next
  placed_changed placed j h taken = by (cases_eq j k)
    where
      there_now : IsAt slot key place next
      there_now =
          subst (λ (es : List (List ℕ × Place)). kept_at octets_cmp es key ≡ Some place) (sym here)
          (found_new octets_total key place (places_of slot s))

      by : (j ≡ k) ⊎ (j ≢ k) → (q : List ℕ) × IsAt h.slot q (Open j) next
      by (inl same) =
          let new = leads.new h (sym slab.changed ∙ ap (get next.slab) (sym same) ∙ taken) in
          let at : IsAt slot key (Open j) next =
          subst (λ (p : Place). IsAt slot key p next) (new.1 ∙ ap (λ n. Open n) (sym same)) there_now in
          (key, subst (λ (x : Slot). IsAt x key (Open j) next) (sym new.0) at)
      by (inr apart) =
          let was = placed j h (sym (slab.others j apart) ∙ taken) in (
            was.0,
            place_stays h.slot was.0 (Open j)
                (λ slot_is key_is. apart (leads.alone j (subst (λ (q : List ℕ). IsAt slot q (Open j) s) key_is
                (subst (λ (x : Slot). IsAt x was.0 (Open j) s) slot_is was.1))))
                was.1,
          )

-- ---- an open half closes

-- a half whose end sent the Begin
pub placed_begun : (s next : Halves) (slab : Slab HalfState) (begun : BTreeMap (List ℕ) Place) (slot : Slot) (key : List ℕ) (k : ℕ)
    (other : Option (List ℕ)) → IsAt slot key (Open k) s → Updates s.slab slab k None → slot ≡ Begun
    → begun.entries ≡ insert_entry octets_cmp s.begun.entries key (Closed other)
    → next ≡ record s { slab = slab; begun = begun } → AllPlaced s → AllPlaced next
placed_begun s next slab begun slot key k other is freed slot_is entries next_is placed =
    subst (λ (n : Halves). AllPlaced n) (sym next_is)
    (placed_changed {next = after} freed entries (elsewhere s after Begun (λ apart. absurd (apart refl)) (λ _. refl))
    (leads_closed s Begun key k other (subst (λ (x : Slot). IsAt x key (Open k) s) slot_is is)) placed)
  where
    after : Halves
    after = record s { slab = slab; begun = begun }

-- a half whose end received the Begin
pub placed_accepted : (s next : Halves) (slab : Slab HalfState) (accepted : BTreeMap (List ℕ) Place) (slot : Slot) (key : List ℕ) (k : ℕ)
    (other : Option (List ℕ)) → IsAt slot key (Open k) s → Updates s.slab slab k None → slot ≡ Accepted
    → accepted.entries ≡ insert_entry octets_cmp s.accepted.entries key (Closed other)
    → next ≡ record s { slab = slab; accepted = accepted } → AllPlaced s → AllPlaced next
placed_accepted s next slab accepted slot key k other is freed slot_is entries next_is placed =
    subst (λ (n : Halves). AllPlaced n) (sym next_is)
    (placed_changed {next = after} freed entries (elsewhere s after Accepted (λ _. refl) (λ apart. absurd (apart refl)))
    (leads_closed s Accepted key k other (subst (λ (x : Slot). IsAt x key (Open k) s) slot_is is)) placed)
  where
    after : Halves
    after = record s { slab = slab; accepted = accepted }

-- ---- a half is added

-- The slab took the half, and a new place leads to it.
pub placed_added : (s next : Halves) (t : Slab HalfState) (key : List ℕ) (m : ℕ) (h : HalfState) → Updates s.slab t m (Some h)
    → (h.slot ≢ Begun → next.begun ≡ s.begun) → (h.slot ≢ Accepted → next.accepted ≡ s.accepted)
    → (next.slab ≡ t) × (next.by_own ≡ s.by_own) × (next.by_peer ≡ s.by_peer)
    → kept_at octets_cmp (places_of h.slot s) key ≡ None
    → places_of h.slot next ≡ insert_entry octets_cmp (places_of h.slot (record s { slab = t })) key (Open m) → AllPlaced s → AllPlaced next
placed_added s next t key m h taken begun accepted others unkept put =
    placed_changed (subst (λ (x : Slab HalfState). Updates s.slab x m (Some h)) (sym others.0) taken)
    (put ∙ ap (λ es. insert_entry octets_cmp es key (Open m)) (over_slab s t h.slot))
    (elsewhere s next h.slot begun accepted) (leads_new s key m h unkept)

-- ---- whether all halves are closed

-- If the slab is empty, the half of each place is closed.
shut_there : (slab : Slab HalfState) → ((k : ℕ) → get slab k ≡ None) → (slot : Slot) (q : List ℕ) (p : Place)
    → is_closed (half_at slab slot q p).phase ≡ true
shut_there slab none slot q (Open k) = ap (λ o. is_closed (half_in o).phase) (none k)
shut_there slab none Begun q (Closed other) = refl
shut_there slab none Accepted q (Closed other) = refl

-- If the slab is empty, all halves are closed.
all_shut : (slab : Slab HalfState) (slot : Slot) (es : List (List ℕ × Place)) → ((k : ℕ) → get slab k ≡ None)
    → all_closed (halves_at slab slot es) ≡ true
all_shut slab slot [] none = refl
all_shut slab slot (e ∷ es) none =
    ap (λ b. cond b (all_closed (halves_at slab slot es)) false) (shut_there slab none slot e.0 e.1) ∙ all_shut slab slot es none

-- If one half is open, not all are closed.
one_open : (key : List ℕ) (h : Half) (es : List (List ℕ × Half)) → kept_at octets_cmp es key ≡ Some h → is_closed h.phase ≡ false
    → all_closed es ≡ false
one_open key h [] found is_open = cc
one_open key h ((q, g) ∷ es) found is_open = by (is_at (octets_cmp key) q) found (λ later. one_open key h es later is_open)
  where
    behind : (b x : Bool) → x ≡ false → cond b x false ≡ false
    behind true x is = is
    behind false x is = refl

    by : (b : Bool) → cond b (Some g) (kept_at octets_cmp es key) ≡ Some h → (kept_at octets_cmp es key ≡ Some h → all_closed es ≡ false)
        → cond (is_closed g.phase) (all_closed es) false ≡ false
    by true is rest =
        let halves : g ≡ h = cc in
        ap (λ (x : Half). cond (is_closed x.phase) (all_closed es) false) halves ∙ ap (λ b. cond b (all_closed es) false) is_open
    by false is rest = behind (is_closed g.phase) (all_closed es) (rest is)

not_all : (e : End) (slot : Slot) (key : List ℕ) (h : Half) → HasHalf e (keyed_half slot key h) → is_closed h.phase ≡ false
    → all_closed e.begun && all_closed e.accepted ≡ false
not_all e Begun key h had is_open = ap (λ b. b && all_closed e.accepted) (one_open key h e.begun had is_open)
not_all e Accepted key h had is_open =
    ap (λ b. all_closed e.begun && b) (one_open key h e.accepted had is_open) ∙ and-false (all_closed e.begun)

none_taken : (s : Slab HalfState) → entries s ≡ [] → (k : ℕ) → get s k ≡ None
none_taken s none k = by (get s k) refl
  where
    by : (o : Option HalfState) → get s k ≡ o → get s k ≡ None
    by None is = is
    by (Some h) is =
        let listed : Contains [] (k, h) = subst (λ (es : List (ℕ × HalfState)). Contains es (k, h)) none ((Contains-entries s k h).1 is) in
        absurd (omega (arith, listed.1))

-- The slab is empty exactly if all halves are closed.
pub closed_where_empty : (s : Halves) → IsHeld s → AllPlaced s
    → (slab_len s.slab == 0) ≡ (all_closed (end_of s).begun && all_closed (end_of s).accepted)
closed_where_empty s held placed = by (entries s.slab) refl
  where
    open_at : (k : ℕ) (h : HalfState) → get s.slab k ≡ Some h → (key : List ℕ) × IsAt h.slot key (Open k) s
        → all_closed (end_of s).begun && all_closed (end_of s).accepted ≡ false
    open_at k h taken (key, is) =
        let state : IsOpen h.slot key k s = held.places h.slot key k is in
        let halves : state.0 ≡ h = cc in
        not_all (end_of s) h.slot key (half_of h) (has_open s h.slot key k h is taken)
        (subst (λ (x : HalfState). is_closed x.phase ≡ false) halves state.3)

    by : (es : List (ℕ × HalfState)) → entries s.slab ≡ es
        → (slab_len s.slab == 0) ≡ (all_closed (end_of s).begun && all_closed (end_of s).accepted)
    by [] none =
        let free = none_taken s.slab none in
        let begun = all_shut s.slab Begun s.begun.entries free in
        let accepted = all_shut s.slab Accepted s.accepted.entries free in
        ap (λ n. n == 0) (sym (length-entries s.slab) ∙ ap length none) ∙ sym (ap₂ ◌&&◌ begun accepted)
    by ((k, h) ∷ more) some =
        let listed : Contains (entries s.slab) (k, h) =
        subst (λ (es : List (ℕ × HalfState)). Contains es (k, h)) (sym some) (0, omega arith, refl) in
        let taken = (Contains-entries s.slab k h).0 listed in
        ap (λ n. n == 0) (sym (length-entries s.slab) ∙ ap length some) ∙ eqb-suc-zero (length more)
        ∙ sym (open_at k h taken (placed k h taken))
