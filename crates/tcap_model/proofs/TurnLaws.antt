-- How one half turns, and how an end with that half moves.
use Rattle.std.proofs.Common.{◌≡◌, ◌≢◌, ◌⊎◌, inl, inr, ℤ, ℕ, Bool, true, false, cond, List, [], ◌∷◌, Option, Some, None, refl, sym, ap, subst, ◌∙◌}
use Rattle.std.specs.List.{AllByRecursion}
use Rattle.std.specs.Map.{keys_of, remove_entry}
use Rattle.std.specs.BTreeMap.{insert_entry, is_at}
use Rattle.std.specs.Ordering.{eq_by_cmp, int_cmp}
use Rattle.std.proofs.lemmas.Cmp.{eq_by_cmp_equiv, int_cmp_total}
use Rattle.std.proofs.lemmas.Map.{lookup-remove_entry}
use Rattle.std.proofs.lemmas.Map.Keys.{IsDistinct-from_sorted}
use Rattle.std.proofs.lemmas.Map.Lookups.{exact_bytes, exact_signed}
use Rattle.std.proofs.lemmas.Map.Views.{tells_apart}
use Rattle.std.proofs.lemmas.Slice.Eq.{bytes_eq-Decides}
use Rattle.tcap_msg.specs.declared.message.Message.{Message}
use Rattle.tcap_end.specs.declared.half.Slot.{Slot}
use Rattle.tcap_end.specs.declared.half.Slot.TheVariants.{Begun, Accepted}
use Rattle.tcap_end.specs.Half.{Half, closed_half, listed, listed_by, with_listed, without_oldest, without_oldest_of}
use Rattle.tcap_end.specs.End.{End, KeyedHalf, is_id, put}
use Rattle.tcap_end.specs.ReachableEnd.{HasHalf, Rises, halves_of}
use Rattle.tcap_end.proofs.FoundLaws.{half_at, octets_total}
use Rattle.tcap_end.proofs.MapLaws.{found_inserted, found_new, keys_eq, kept_at}
use Rattle.tcap_end.proofs.PlacedLaws.{slots_eq}
use Rattle.tcap_end.proofs.EndLaws.{IsThere, put_has, put_other}
use Rattle.tcap_model.proofs.Moves.{Moves, Turns, blank}

-- ---- transaction IDs

-- `is_id` decides equality.
pub id_is : (id : List ℕ) (o : Option (List ℕ)) → is_id id o ≡ true → o ≡ Some id
id_is id None is = cc
id_is id (Some other) is = ap Some (sym ((bytes_eq-Decides id other).0 is))

-- ---- lists by invoke ID

-- a property of all items of an ID still holds for the items left
abbrev pub Loses : {A : Type 0} → List (ℤ × List A) → List (ℤ × List A) → Type 1
Loses {A} items left = (id : ℤ) (P : A → Type 0) → AllByRecursion P (listed id items) → AllByRecursion P (listed id left)

-- An entry found after a removal was there before.
removed_was : {A : Type 0} (id q : ℤ) (v : A) (items : List (ℤ × A)) → Rises int_cmp items
    → kept_at int_cmp (remove_entry (is_at (int_cmp id)) items) q ≡ Some v → kept_at int_cmp items q ≡ Some v
removed_was id q v items rises found = by (is_at (int_cmp id) q) (sym left ∙ found)
  where
    one : (x y : ℤ) → is_at (int_cmp id) x ≡ true → is_at (int_cmp id) y ≡ eq_by_cmp int_cmp x y
    one x y is = rw (tells_apart exact_signed id x is) refl

    left : kept_at int_cmp (remove_entry (is_at (int_cmp id)) items) q ≡ cond (is_at (int_cmp id) q) None (kept_at int_cmp items q)
    left = lookup-remove_entry (eq_by_cmp_equiv int_cmp_total) (is_at (int_cmp id)) one q items
        (IsDistinct-from_sorted int_cmp (keys_of items) rises)

    by : (b : Bool) → cond b None (kept_at int_cmp items q) ≡ Some v → kept_at int_cmp items q ≡ Some v
    by true is = cc
    by false is = is

-- The list of one ID loses items.
pub listed_loses : {A : Type 0} (id : ℤ) (list : List A) (items : List (ℤ × List A)) → Rises int_cmp items
    → ((P : A → Type 0) → AllByRecursion P (listed id items) → AllByRecursion P list) → Loses items (with_listed id list items)
listed_loses {A} id [] items rises less q P all = by (kept_at int_cmp (remove_entry (is_at (int_cmp id)) items) q) refl
  where
    by : (o : Option (List A)) → kept_at int_cmp (remove_entry (is_at (int_cmp id)) items) q ≡ o → AllByRecursion P (listed_by o)
    by None is = tt
    by (Some v) is = rw (removed_was id q v items rises is) at all
listed_loses {A} id (first ∷ more) items rises less q P all = by (kept_at int_cmp (insert_entry int_cmp items id (first ∷ more)) q) refl
  where
    there : (v : List A) → ((q ≡ id) × (v ≡ first ∷ more)) ⊎ (kept_at int_cmp items q ≡ Some v) → AllByRecursion P v
    there v (inl new) = rw (new.1) (less P (subst (λ (x : ℤ). AllByRecursion P (listed x items)) (new.0) all))
    there v (inr old) = subst (λ (o : Option (List A)). AllByRecursion P (listed_by o)) old all

    by : (o : Option (List A)) → kept_at int_cmp (insert_entry int_cmp items id (first ∷ more)) q ≡ o → AllByRecursion P (listed_by o)
    by None is = tt
    by (Some v) is = there v (found_inserted int_cmp_total exact_signed q id (first ∷ more) v items is)

-- Taking the oldest that fits keeps a property of all items.
oldest_less : {A : Type 0} (fits : A → Bool) (P : A → Type 0) (list : List A)
    → AllByRecursion P list → AllByRecursion P (without_oldest fits list)
oldest_less fits P [] all = tt
oldest_less {A} fits P (item ∷ list) all = by (fits item) (oldest_less fits P list all.1)
  where
    by : (b : Bool) → AllByRecursion P (without_oldest fits list) → AllByRecursion P (cond b list (item ∷ without_oldest fits list))
    by true rest = all.1
    by false rest = (all.0, rest)

-- Taking the oldest that fits loses items.
pub taken_loses : {A : Type 0} (id : ℤ) (fits : A → Bool) (items : List (ℤ × List A)) → Rises int_cmp items
    → Loses items (without_oldest_of id fits items)
taken_loses id fits items rises =
    listed_loses id (without_oldest fits (listed id items)) items rises (λ P. oldest_less fits P (listed id items))

-- ---- halves

-- both lists of received items lose items, or stay
pub record Lists (h g : Half) : Type 1 where
  pub inn : Loses h.inn g.inn
  pub grants : Loses h.grants g.grants

-- They may stay.
pub lists_self : (h : Half) → Lists h h
lists_self h = record { inn = λ id P all. all; grants = λ id P all. all }

-- Two such changes in a row are one.
pub lists_then : (h g k : Half) → Lists h g → Lists g k → Lists h k
lists_then h g k first second = record {
  inn = λ id P all. second.inn id P (first.inn id P all);
  grants = λ id P all. second.grants id P (first.grants id P all);
}

-- The half keeps phase, IDs and dialogue state.
pub turns_kept : (came : Option Message) (h g : Half) → g.phase ≡ h.phase → g.own ≡ h.own → g.peer ≡ h.peer → g.dialogue_state ≡ h.dialogue_state
    → Lists h g → Turns came h g
turns_kept came h g phase own peer dialogue_state lists = record {
  own = λ id is. own ∙ is;
  peer = λ id is. peer ∙ is;
  learned = λ id is. inl (sym peer ∙ is);
  asked = λ received asked. inl (sym phase ∙ received, sym dialogue_state ∙ asked);
  closed = λ is. phase ∙ is;
  inn = λ id P all new. lists.inn id P all;
  grants = λ id P all new. lists.grants id P all;
}

-- The half stays.
pub turns_self : (came : Option Message) (h : Half) → Turns came h h
turns_self came h = turns_kept came h h refl refl refl refl (lists_self h)

-- The half closes, and keeps its IDs.
pub turns_closed : (came : Option Message) (h g : Half) → g.own ≡ h.own → g.peer ≡ h.peer → Turns came h (closed_half g)
turns_closed came h g own peer = record {
  own = λ id is. own ∙ is;
  peer = λ id is. peer ∙ is;
  learned = λ id is. inl (sym peer ∙ is);
  asked = λ received asked. cc;
  closed = λ is. refl;
  inn = λ id P all new. tt;
  grants = λ id P all new. tt;
}

-- ---- ends

-- An end has a half that is put in it.
pub put_there : (e : End) (slot : Slot) (key : List ℕ) (h : Half) → HasHalf (put e slot key h) (record { slot = slot; key = key; half = h })
put_there e Begun key h = found_new octets_total key h e.begun
put_there e Accepted key h = found_new octets_total key h e.accepted

-- Two places are equal or differ.
pub one_place : (f g : KeyedHalf) → ((f.slot ≡ g.slot) × (f.key ≡ g.key)) ⊎ (f.slot ≡ g.slot → f.key ≢ g.key)
one_place f g = by (slots_eq f.slot g.slot) (keys_eq octets_total exact_bytes f.key g.key)
  where
    by : (f.slot ≡ g.slot) ⊎ (f.slot ≢ g.slot) → (f.key ≡ g.key) ⊎ (f.key ≢ g.key)
        → ((f.slot ≡ g.slot) × (f.key ≡ g.key)) ⊎ (f.slot ≡ g.slot → f.key ≢ g.key)
    by (inl slots) (inl keys) = inl (slots, keys)
    by (inl slots) (inr apart) = inr (λ _. apart)
    by (inr apart) keys = inr (λ slots. absurd (apart slots))

-- The end stays.
pub moves_nowhere : (came : Option Message) (e : End) → Moves came e e
moves_nowhere came e = record {
  back = λ g had. (g.half, inl had, turns_self came g.half);
  forth = λ f had. (f.half, had, turns_self came f.half);
}

-- One half of the end turns.
pub put_moves : (came : Option Message) (e : End) (f : KeyedHalf) (h : Half) → HasHalf e f → Turns came f.half h
    → Moves came e (put e f.slot f.key h)
put_moves came e f h had turns = record {
  back = λ g in_g. back g (put_has e f.slot f.key h g in_g);
  forth = λ g in_g. forth g in_g (one_place g f);
}
  where
    back : (g : KeyedHalf) → IsThere f.slot f.key h g ⊎ HasHalf e g
        → (was : Half) × (HasHalf e (record g { half = was }) ⊎ (was ≡ blank)) × Turns came was g.half
    back g (inl new) = (f.half, inl (rw (new.0, new.1) had), rw (new.2) turns)
    back g (inr old) = (g.half, inl old, turns_self came g.half)

    forth : (g : KeyedHalf) → HasHalf e g → ((g.slot ≡ f.slot) × (g.key ≡ f.key)) ⊎ (g.slot ≡ f.slot → g.key ≢ f.key)
        → (now : Half) × HasHalf (put e f.slot f.key h) (record g { half = now }) × Turns came g.half now
    forth g in_g (inl same) =
        let there : half_at (halves_of f.slot e) f.key ≡ Some g.half = rw (same.0, same.1) at in_g in
        let one : f.half ≡ g.half = cc in
        (h, rw (same.0, same.1) (put_there e f.slot f.key h), rw (← one) turns)
    forth g in_g (inr apart) = (g.half, put_other e f.slot f.key h g apart in_g, turns_self came g.half)

-- A half is put where none was.
pub new_moves : (came : Option Message) (e : End) (slot : Slot) (key : List ℕ) (h : Half)
    → ((g : KeyedHalf) → HasHalf e g → g.slot ≡ slot → g.key ≢ key) → Turns came blank h → Moves came e (put e slot key h)
new_moves came e slot key h apart turns = record {
  back = λ g in_g. back g (put_has e slot key h g in_g);
  forth = λ g in_g. (g.half, put_other e slot key h g (apart g in_g) in_g, turns_self came g.half);
}
  where
    back : (g : KeyedHalf) → IsThere slot key h g ⊎ HasHalf e g
        → (was : Half) × (HasHalf e (record g { half = was }) ⊎ (was ≡ blank)) × Turns came was g.half
    back g (inl new) = (blank, inr refl, rw (new.2) turns)
    back g (inr old) = (g.half, inl old, turns_self came g.half)
