-- A search for a half returns a kept half that passes the test, or shows that no half passes.
use Rattle.std.proofs.Common.{◌≡◌, ℕ, Bool, true, false, cond, List, [], ◌∷◌, Option, Some, None, refl, ap, subst, ◌∙◌}
use Rattle.std.specs.List.Sorted.{IsStrictlySortedBy}
use Rattle.std.specs.Map.{lookup}
use Rattle.std.specs.Cmp.{IsTotalOrder}
use Rattle.std.specs.Ordering.{is_eq}
use Rattle.std.specs.BTreeMap.{is_at}
use Rattle.std.proofs.lemmas.Cmp.{nat_list_cmp_total, tied_itself}
use Rattle.std.proofs.lemmas.Slice.Eq.{bytes_eq-Decides}
use Rattle.tcap_end.specs.declared.half.HalfName.{HalfName}
use Rattle.tcap_end.specs.declared.half.HalfName.TheVariants as names
use Rattle.tcap_end.specs.declared.half.Slot.{Slot}
use Rattle.tcap_end.specs.declared.half.Slot.TheVariants.{Begun, Accepted}
use Rattle.tcap_end.specs.Table.{octets_cmp}
use Rattle.tcap_end.specs.Half.{Half}
use Rattle.tcap_end.specs.End.{End, KeyedHalf, first_half, half_where, is_id, named, with_own, with_peer}
use Rattle.tcap_end.specs.ReachableEnd.{HasHalf, IsEnd, Rises, halves_of}
use Rattle.tcap_lists.proofs.MapLaws.{behind_first, kept_at}

pub octets_total : IsTotalOrder octets_cmp
octets_total = nat_list_cmp_total

-- the half that is kept by a key in a list
abbrev pub half_at : List (List ℕ × Half) → List ℕ → Option Half
half_at es key = kept_at octets_cmp es key

-- ---- among halves

-- A found half is in the list, and passes.
abbrev IsIn : (Half → Bool) → Slot → List (List ℕ × Half) → KeyedHalf → Type 0
IsIn passes slot es f = (f.slot ≡ slot) × (half_at es f.key ≡ Some f.half) × (passes f.half ≡ true)

first_in : (passes : Half → Bool) (slot : Slot) (es : List (List ℕ × Half)) (f : KeyedHalf) → Rises octets_cmp es
    → first_half passes slot es ≡ Some f → IsIn passes slot es f
unfolding IsStrictlySortedBy
first_in passes slot [] f rises is = cc
first_in passes slot ((key, half) ∷ es) f rises is = by (passes half) refl is (first_in passes slot es f rises.1)
  where
    first : KeyedHalf
    first = record { slot = slot; key = key; half = half }

    by : (b : Bool) → passes half ≡ b → cond b (Some first) (first_half passes slot es) ≡ Some f
        → (first_half passes slot es ≡ Some f → IsIn passes slot es f) → IsIn passes slot ((key, half) ∷ es) f
    by true so is rest =
        let here = ap (λ r. cond (is_eq r) (Some half) (half_at es key)) (tied_itself octets_total key) in
        let same : first ≡ f = cc in
        subst (λ (g : KeyedHalf). IsIn passes slot ((key, half) ∷ es) g) same (refl, here, so)
    by false so is rest =
        let later = rest is in
        let other = behind_first octets_total f.key (key, half) es f.half rises later.1 in
        (later.0, ap (λ b. cond b (Some half) (half_at es f.key)) other ∙ later.1, later.2)

-- If no half is found, none passes.
first_none : (passes : Half → Bool) (slot : Slot) (es : List (List ℕ × Half)) (test : List ℕ → Bool) (h : Half)
    → first_half passes slot es ≡ None → lookup test es ≡ Some h → passes h ≡ false
first_none passes slot [] test h none found = cc
first_none passes slot ((key, half) ∷ es) test h none found =
    by (passes half) refl none (test key) found (first_none passes slot es test h)
  where
    first : KeyedHalf
    first = record { slot = slot; key = key; half = half }

    by : (b : Bool) → passes half ≡ b → cond b (Some first) (first_half passes slot es) ≡ None
        → (t : Bool) → cond t (Some half) (lookup test es) ≡ Some h
        → (first_half passes slot es ≡ None → lookup test es ≡ Some h → passes h ≡ false) → passes h ≡ false
    by true so is t found rest = cc
    by false so is true found rest = let same : half ≡ h = cc in rw (← same) so
    by false so is false found rest = rest is found

-- ---- in an end

-- A found half is kept by the end, and passes.
found_has : (passes : Half → Bool) (e : End) → IsEnd e → (f : KeyedHalf) → half_where passes e ≡ Some f → HasHalf e f
found_has passes e sound f is = by (first_half passes Begun e.begun) refl
  where
    had : (slot : Slot) → IsIn passes slot (halves_of slot e) f → HasHalf e f
    had slot there = rw (there.0) (there.1)

    by : (o : Option KeyedHalf) → first_half passes Begun e.begun ≡ o → HasHalf e f
    by None none = had Accepted (first_in passes Accepted e.accepted f sound.accepted (rw none at is))
    by (Some g) some = had Begun (first_in passes Begun e.begun f sound.begun (let same = rw some at is in some ∙ same))

-- If no half is found, none passes.
found_none : (passes : Half → Bool) (e : End) (g : KeyedHalf) → half_where passes e ≡ None → HasHalf e g → passes g.half ≡ false
found_none passes e g is had = by (first_half passes Begun e.begun) refl
  where
    at : (slot : Slot) → first_half passes Begun e.begun ≡ None → first_half passes Accepted e.accepted ≡ None
        → half_at (halves_of slot e) g.key ≡ Some g.half → passes g.half ≡ false
    at Begun first second there = first_none passes Begun e.begun (is_at (octets_cmp g.key)) g.half first there
    at Accepted first second there = first_none passes Accepted e.accepted (is_at (octets_cmp g.key)) g.half second there

    by : (o : Option KeyedHalf) → first_half passes Begun e.begun ≡ o → passes g.half ≡ false
    by None none = at g.slot none (rw none at is) had
    by (Some f) some = let bad = rw some at is in cc

-- ---- searches by ID

-- A half found by its own ID, its peer's ID or its name is kept by the end.
pub own_has : (e : End) (id : List ℕ) → IsEnd e → (f : KeyedHalf) → with_own e id ≡ Some f → HasHalf e f
own_has e id = found_has (λ h. is_id id h.own) e

pub peer_has : (e : End) (id : List ℕ) → IsEnd e → (f : KeyedHalf) → with_peer e id ≡ Some f → HasHalf e f
peer_has e id = found_has (λ h. is_id id h.peer) e

pub named_has : (e : End) (name : HalfName) → IsEnd e → (f : KeyedHalf) → named e name ≡ Some f → HasHalf e f
named_has e (names.Own id) = own_has e id
named_has e (names.Peer id) = peer_has e id

-- An ID equals itself.
pub is_that_id : (id : List ℕ) (o : Option (List ℕ)) → o ≡ Some id → is_id id o ≡ true
is_that_id id o is = rw is ((bytes_eq-Decides id id).1 refl)

-- If no half is found by an own ID or a peer's ID, no half has it.
pub none_own : {P : Type 0} (e : End) (id : List ℕ) (g : KeyedHalf) → with_own e id ≡ None → HasHalf e g → g.half.own ≡ Some id → P
none_own e id g none had own =
    let fails = found_none (λ h. is_id id h.own) e g none had in
    let passes = is_that_id id g.half.own own in cc

pub none_peer : {P : Type 0} (e : End) (id : List ℕ) (g : KeyedHalf) → with_peer e id ≡ None → HasHalf e g → g.half.peer ≡ Some id → P
none_peer e id g none had peer =
    let fails = found_none (λ h. is_id id h.peer) e g none had in
    let passes = is_that_id id g.half.peer peer in cc
