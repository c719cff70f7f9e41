-- Removing an item from a place can be undone: laws of places, and of changes that are undone.
use Rattle.std.proofs.Common.{◌≡◌, ℕ, zero, suc, ◌<◌, ◌-◌, ℤ, Bool, true, false, List, [], ◌∷◌, ◌++◌, Option, Some, None, length, take, get_or, set, refl, sym, ap, ◌∙◌, arith, length-append}
use Rattle.std.specs.Prelude.{IsSome, is_some, cond, option_and_then, option_map}
use Rattle.std.specs.List.{list_any}
use Rattle.std.specs.Ordering.{int_cmp}
use Rattle.std.proofs.lemmas.Cmp.{int_cmp_total}
use Rattle.std.specs.Map.{lookup}
use Rattle.std.specs.BTreeMap.{insert_entry, is_at}
use Rattle.std.proofs.lemmas.Option.{none-some}
use Rattle.std.proofs.Math.Seq.{take-append_seam}
use Rattle.tcap_end.specs.Half.{listed, with_listed, with_newest, without_oldest}
use Rattle.tcap_lists.specs.Lists.{keep, one_less, with_place}
use Rattle.tcap_lists.specs.Row.{filled, fits_in}
use Rattle.tcap_end.specs.OldestPlace.{place_of}
use Rattle.tcap_parts.specs.declared.code.Code.{Code}
use Rattle.tcap_end.specs.declared.half.InvocationState.TheVariants as states
use Rattle.tcap_end.specs.declared.own_invocations.OwnInvocation.{OwnInvocation}
use Rattle.tcap_end.specs.declared.own_invocations.Outs.{Outs}
use Rattle.tcap_end.specs.OwnInvocations.{HasPlace, kept_outs, in_state, with_state, with_out}
use Rattle.tcap_lists.proofs.KeepLaws.{Whole, given_back, given_twice, listed_with, remove_absent}
use Rattle.tcap_lists.proofs.PlaceLaws.{any_filled}
use Rattle.tcap_lists.proofs.MapLaws.{found_new, insert_again, insert_twice, rises_inserted}
use Rattle.tcap_end.proofs.OutLaws.{puts, stands}

-- ---- the place of the oldest item that fits

-- If there is one, emptying it removes the oldest item that fits.
pub place_some : {A : Type 0} (fits : A → Bool) (places : List (Option A)) (at : ℕ) → place_of (fits_in fits) places ≡ Some at
    → (list_any fits (filled places) ≡ true) × IsSome (get_or places at None) × (without_oldest fits (filled places) ≡ filled (set places at None))
place_some {A} fits places at e = let there = stands places at e in (any_filled fits places ∙ ap is_some e, there.0, there.1)
  where
    stands : (places : List (Option A)) (at : ℕ) → place_of (fits_in fits) places ≡ Some at
        → IsSome (get_or places at None) × (without_oldest fits (filled places) ≡ filled (set places at None))
    stands [] at e = absurd (none-some at e)
    stands (None ∷ places) at e = by (place_of (fits_in fits) places) at e (stands places)
      where
        by : (rest : Option ℕ) (at : ℕ) → option_map suc rest ≡ Some at
            → ((n : ℕ) → rest ≡ Some n → IsSome (get_or places n None) × (without_oldest fits (filled places) ≡ filled (set places n None)))
            → IsSome (get_or (None ∷ places) at None) × (without_oldest fits (filled places) ≡ filled (set (None ∷ places) at None))
        by None at bad below = absurd (none-some at bad)
        by (Some n) zero bad below = let wrong : suc n ≡ 0 = cc in absurd (omega (arith, wrong))
        by (Some n) (suc at) e below = let same : n ≡ at = cc in below at (ap Some same)
    stands (Some item ∷ places) at e = by (fits item) (place_of (fits_in fits) places) at e (stands places)
      where
        by : (fit : Bool) (rest : Option ℕ) (at : ℕ) → cond fit (Some 0) (option_map suc rest) ≡ Some at
            → ((n : ℕ) → rest ≡ Some n → IsSome (get_or places n None) × (without_oldest fits (filled places) ≡ filled (set places n None)))
            → IsSome (get_or (Some item ∷ places) at None)
            × (cond fit (filled places) (item ∷ without_oldest fits (filled places)) ≡ filled (set (Some item ∷ places) at None))
        by true rest zero e below = (refl, refl)
        by true rest (suc at) bad below = let wrong : 0 ≡ suc at = cc in absurd (omega (arith, wrong))
        by false None at bad below = absurd (none-some at bad)
        by false (Some n) zero bad below = let wrong : suc n ≡ 0 = cc in absurd (omega (arith, wrong))
        by false (Some n) (suc at) e below = let same : n ≡ at = cc in
            let rest = below at (ap Some same) in (rest.0, ap (λ more. item ∷ more) rest.1)

-- ---- places of IDs

-- The ID of an own invocation has a place.
pub has_place : (id : ℤ) (o : Outs) (i : OwnInvocation) → lookup (is_at (int_cmp id)) (kept_outs o) ≡ Some i → HasPlace id o
has_place id o i there =
    by (lookup (is_at (int_cmp id)) o.places.items)
    (stands id o.places.items (lookup (is_at (int_cmp id)) o.places.items) o.ordered refl)
  where
    by : (found : Option (Option OwnInvocation)) → lookup (is_at (int_cmp id)) (kept_outs o) ≡ option_and_then (λ place. place) found
        → IsSome found
    by None e = absurd (none-some i (sym e ∙ there))
    by (Some place) e = refl

-- ---- items that are put back

-- The second of two items put in one place counts.
set_twice : {A : Type 0} (places : List A) (at : ℕ) (first second : A) → set (set places at first) at second ≡ set places at second
set_twice [] at first second = refl
set_twice (place ∷ places) zero first second = refl
set_twice (place ∷ places) (suc at) first second = ap (λ more. place ∷ more) (set_twice places at first second)

-- Putting an item where it already is changes nothing.
set_same : {A : Type 0} (places : List A) (at : ℕ) (d : A) → set places at (get_or places at d) ≡ places
set_same [] at d = refl
set_same (place ∷ places) zero d = refl
set_same (place ∷ places) (suc at) d = ap (λ more. place ∷ more) (set_same places at d)

pub none_set : {A : Type 0} (places : List (Option A)) (at : ℕ) → get_or (set places at None) at None ≡ None
none_set [] at = refl
none_set (place ∷ places) zero = refl
none_set (place ∷ places) (suc at) = none_set places at

pub some_within : {A : Type 0} (places : List (Option A)) (at : ℕ) → IsSome (get_or places at None) → at < length places
some_within [] at some = absurd (let bad : false ≡ true = some in cc)
some_within (place ∷ places) zero some = omega arith
some_within (place ∷ places) (suc at) some = omega (arith, some_within places at some)

-- Putting the item of an emptied place back undoes the emptying.
pub put_again : {A : Type 0} (id : ℤ) (at : ℕ) (item : Option A) (m : List (ℤ × List (Option A))) → Whole m
    → item ≡ get_or (listed id m) at None → with_place id at item (with_place id at None m) ≡ m
put_again {A} id at item m whole is =
    let places : List (Option A) = listed id m in
    let left : List (Option A) = set places at None in
    ap (λ now. with_listed id (set now at item) (with_listed id left m)) (listed_with id m whole left)
    ∙ given_twice id m whole left (set left at item)
    ∙ ap (λ now. with_listed id now m) (set_twice places at None item ∙ ap (set places at) is ∙ set_same places at None)
    ∙ given_back id m whole

-- Removing the newest item undoes adding it.
pub less_again : {A : Type 0} (id : ℤ) (item : A) (m : List (ℤ × List A)) → Whole m → one_less id (with_newest id item m) ≡ m
less_again {A} id item m whole =
    let items : List A = listed id m in
    let more : List A = items ++ item ∷ [] in
    ap (λ now. with_listed id (take (length now - 1) now) (with_listed id more m)) (listed_with id m whole more)
    ∙ given_twice id m whole more (take (length more - 1) more)
    ∙ ap (λ n. with_listed id (take n more) m) (count items)
    ∙ ap (λ now. with_listed id now m) (take-append_seam items (item ∷ []))
    ∙ given_back id m whole
  where
    count : (items : List A) → length (items ++ item ∷ []) - 1 ≡ length items
    count items = omega (arith, length-append items (item ∷ []))

-- ---- own invocations that change in turn

-- The second of two changes of an invocation counts.
pub out_twice : (id : ℤ) (a b : Option OwnInvocation) (o : Outs) → with_out id b (with_out id a (kept_outs o)) ≡ with_out id b (kept_outs o)
out_twice id a b o =
    let es : List (ℤ × Option OwnInvocation) = o.places.items in
    ap (with_out id b) (sym (puts id a es o.ordered))
    ∙ sym (puts id b (insert_entry int_cmp es id a) (rises_inserted int_cmp_total es id a o.ordered))
    ∙ ap (keep (λ place. place)) (insert_twice int_cmp_total id a b es)
    ∙ puts id b es o.ordered

-- the invocation of an ID after it was set
pub out_there : (id : ℤ) (x : Option OwnInvocation) (o : Outs) → lookup (is_at (int_cmp id)) (with_out id x (kept_outs o)) ≡ x
out_there id x o =
    let es : List (ℤ × Option OwnInvocation) = o.places.items in
    ap (lookup (is_at (int_cmp id))) (sym (puts id x es o.ordered))
    ∙ stands id (insert_entry int_cmp es id x) (Some x) (rises_inserted int_cmp_total es id x o.ordered) (found_new int_cmp_total id x es)

-- Putting the earlier invocation back undoes a change.
pub out_again : (id : ℤ) (x : Option OwnInvocation) (o : Outs)
    → with_out id (lookup (is_at (int_cmp id)) (kept_outs o)) (with_out id x (kept_outs o)) ≡ kept_outs o
out_again id x o =
    out_twice id x (lookup (is_at (int_cmp id)) (kept_outs o)) o
    ∙ by (lookup (is_at (int_cmp id)) o.places.items) refl
    (stands id o.places.items (lookup (is_at (int_cmp id)) o.places.items) o.ordered refl)
  where
    by : (found : Option (Option OwnInvocation)) → lookup (is_at (int_cmp id)) o.places.items ≡ found
        → lookup (is_at (int_cmp id)) (kept_outs o) ≡ option_and_then (λ place. place) found
        → with_out id (lookup (is_at (int_cmp id)) (kept_outs o)) (kept_outs o) ≡ kept_outs o
    by None is e = rw e (remove_absent id (kept_outs o) e)
    by (Some None) is e = rw e (remove_absent id (kept_outs o) e)
    by (Some (Some own_invocation)) is e =
        rw e (sym (puts id (Some own_invocation) o.places.items o.ordered)
        ∙ ap (keep (λ place. place)) (insert_again int_cmp_total id (Some own_invocation) o.places.items o.ordered is))

-- Moving an invocation to Wait for Reject and back changes nothing.
pub state_again : (id : ℤ) (code : Code) (o : Outs)
    → lookup (is_at (int_cmp id)) (kept_outs o) ≡ Some (record { code = code; state = states.OperationSent })
    → with_state id states.OperationSent (with_state id states.WaitForReject (kept_outs o)) ≡ kept_outs o
state_again id code o there =
    let waits : Option OwnInvocation = in_state states.WaitForReject (lookup (is_at (int_cmp id)) (kept_outs o)) in
    ap (λ now. with_out id (in_state states.OperationSent now) (with_out id waits (kept_outs o))) (out_there id waits o)
    ∙ ap (λ now. with_out id now (with_out id waits (kept_outs o)))
    (ap (λ was. in_state states.OperationSent (in_state states.WaitForReject was)) there ∙ sym there)
    ∙ out_again id waits o
