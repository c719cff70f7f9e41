-- Own invocations by invoke ID: reading and changing the place of an ID.
use Rattle.std.proofs.Common.{◌≡◌, ℕ, ℤ, List, [], Option, Some, None, IsSome, Result, Ok, Err, OnOk, OnErr, slice_index_or, slice_set, refl, sym, ap, subst, ◌∙◌}
use Rattle.std.specs.Prelude.{option_and_then}
use Rattle.std.proofs.lemmas.Cmp.{int_cmp_total}
use Rattle.std.specs.Ordering.{int_cmp}
use Rattle.std.specs.List.{insert}
use Rattle.std.specs.List.Sorted.{IsStrictlySortedBy}
use Rattle.std.specs.Map.{lookup}
use Rattle.std.specs.BTreeMap.{insert_entry, is_at}
use Rattle.tcap_end.specs.declared.own_invocations.OwnInvocation.{OwnInvocation}
use Rattle.tcap_end.specs.ReachableEnd.{Rises}
use Rattle.tcap_lists.specs.Lists.{keep}
use Rattle.tcap_end.specs.OwnInvocations.{found_at, with_out}
use Rattle.tcap_lists.proofs.KeepLaws.{insert_dropped, insert_keep, lookup_keep}
use Rattle.tcap_lists.proofs.MapLaws.{found_new, rises_inserted, still_found}
use Rattle.tcap_end.proofs.FoundAtLaws.{found_absent, found_there}

-- an empty list is sorted
pub none_rise : (A : Type 0) → Rises {A = A} int_cmp []
unfolding IsStrictlySortedBy
none_rise A = tt

-- the invocation of an ID, from the lookup of its place
pub stands : (id : ℤ) (places : List (ℤ × Option OwnInvocation)) (found : Option (Option OwnInvocation)) → Rises int_cmp places
    → lookup (is_at (int_cmp id)) places ≡ found
    → lookup (is_at (int_cmp id)) (keep (λ place. place) places) ≡ option_and_then (λ place. place) found
stands id places found rises e = lookup_keep (λ place. place) id places rises ∙ ap (option_and_then (λ place. place)) e

-- setting the place of an ID sets its invocation
pub puts : (id : ℤ) (own_invocation : Option OwnInvocation) (places : List (ℤ × Option OwnInvocation)) → Rises int_cmp places
    → keep (λ place. place) (insert_entry int_cmp places id own_invocation) ≡ with_out id own_invocation (keep (λ place. place) places)
puts id None places rises = insert_dropped (λ place. place) id None places rises refl
puts id (Some own_invocation) places rises = insert_keep (λ place. place) id (Some own_invocation) own_invocation places rises refl

-- The places after the place of an ID was set.
pub record Put (id : ℤ) (own_invocation : Option OwnInvocation) (places after : List (ℤ × Option OwnInvocation)) : Type 0 where
  pub rises : Rises int_cmp after
  pub kept : keep (λ place. place) after ≡ with_out id own_invocation (keep (λ place. place) places)
  pub made : IsSome (lookup (is_at (int_cmp id)) after)
  pub others : (other : ℤ) → IsSome (lookup (is_at (int_cmp other)) places) → IsSome (lookup (is_at (int_cmp other)) after)

put_is : (id : ℤ) (own_invocation : Option OwnInvocation) (places after : List (ℤ × Option OwnInvocation)) → Rises int_cmp places
    → insert_entry int_cmp places id own_invocation ≡ after → Put id own_invocation places after
put_is id own_invocation places after rises is = subst (Put id own_invocation places) is (record {
  rises = rises_inserted int_cmp_total places id own_invocation rises;
  kept = puts id own_invocation places rises;
  made = subst IsSome (sym (found_new int_cmp_total id own_invocation places)) refl;
  others = λ other there. still_found int_cmp_total other id own_invocation places there;
})

-- setting the place at the index of an ID
pub put_there : (id : ℤ) (own_invocation : Option OwnInvocation) (places : List (ℤ × Option OwnInvocation)) (at : ℕ)
    → Rises int_cmp places → found_at id places ≡ Ok at → (x : ℤ × Option OwnInvocation) → x ≡ slice_index_or places at x
    → (next : Option OwnInvocation) → next ≡ own_invocation
    → Put id own_invocation places (slice_set places at (x.0, next))
put_there id own_invocation places at rises found x here next is =
    rw is (put_is id own_invocation places (slice_set places at (x.0, own_invocation)) rises
    ((found_there id places at found).changes x own_invocation here))

-- the earlier invocation at the index of an ID
pub was_there : (id : ℤ) (places : List (ℤ × Option OwnInvocation)) (at : ℕ) → Rises int_cmp places → found_at id places ≡ Ok at
    → (x : ℤ × Option OwnInvocation) → x ≡ slice_index_or places at x
    → x.1 ≡ lookup (is_at (int_cmp id)) (keep (λ place. place) places)
was_there id places at rises found x here =
    sym (stands id places (Some x.1) rises ((found_there id places at found).stands x here))

-- an ID without a place has no invocation
pub was_absent : (id : ℤ) (places : List (ℤ × Option OwnInvocation)) (at : ℕ) → Rises int_cmp places → found_at id places ≡ Err at
    → None ≡ lookup (is_at (int_cmp id)) (keep (λ place. place) places)
was_absent id places at rises found = sym (stands id places None rises ((found_absent id places at found).nothing rises))

-- an ID with a place is found
pub not_absent : (id : ℤ) (places : List (ℤ × Option OwnInvocation)) (at : ℕ) → Rises int_cmp places → found_at id places ≡ Err at
    → IsSome (lookup (is_at (int_cmp id)) places) → ⊥
not_absent id places at rises found made =
    let none : IsSome {T = Option OwnInvocation} None = subst IsSome ((found_absent id places at found).nothing rises) made in cc

-- inserting a place for an ID without one
pub put_between : (id : ℤ) (own_invocation : Option OwnInvocation) (places after : List (ℤ × Option OwnInvocation)) (at : ℕ)
    → Rises int_cmp places → found_at id places ≡ Err at → after ≡ insert places at (id, own_invocation)
    → Put id own_invocation places after
put_between id own_invocation places after at rises found is =
    put_is id own_invocation places after rises ((found_absent id places at found).adds own_invocation ∙ sym is)

-- the places are sorted whether the place was inserted or memory ran out
pub rises_either : {U E : Type 0} (r : Result U E) (id : ℤ) (own_invocation : Option OwnInvocation)
    (places after : List (ℤ × Option OwnInvocation)) (at : ℕ) → Rises int_cmp places → found_at id places ≡ Err at
    → OnOk r (after ≡ insert places at (id, own_invocation)) → OnErr r (after ≡ places) → Rises int_cmp after
rises_either (Ok u) id own_invocation places after at rises found put kept =
    (put_between id own_invocation places after at rises found put).rises
rises_either (Err e) id own_invocation places after at rises found put kept = subst (Rises int_cmp) (sym kept) rises
