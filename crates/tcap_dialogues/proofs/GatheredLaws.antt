-- Dialogues that are handed over, and their representations.
use Rattle.std.proofs.Common.{arith, ◌≡◌, ◌⊎◌, inl, inr, ℕ, zero, suc, ◌+◌, true, List, [], ◌∷◌, ◌++◌, length, Some, sym, ◌∙◌, refl, subst}
use Rattle.std.specs.Prelude.{Contains, slice_get}
use Rattle.std.proofs.lemmas.List.Elements.{Contains-append_cases, Contains-append_left, Contains-append_right}
use Rattle.tcap_dialogues.specs.Course.{Course, has_entry}
use Rattle.tcap_dialogues.specs.CutDialogues.{AreCompleteDialogues, IsCompleteDialogue, names_entry}
use Rattle.tcap_dialogues.specs.declared.complete_dialogue.CompleteDialogue.{CompleteDialogue}
use Rattle.tcap_dialogues.proofs.CutLists.{first_in, in_cases, none_in}
use Rattle.tcap_dialogues.proofs.HeldLists.{AreSame}

-- An element of two joined lists is in the first, or in the second.
abbrev Place : {X : Type 0} → List X → List X → ℕ → X → Type 0
Place xs ys i x = (slice_get xs i ≡ Some x) ⊎ ((j : ℕ) × (i ≡ length xs + j) × (slice_get ys j ≡ Some x))

place : {X : Type 0} (xs ys : List X) (i : ℕ) (x : X) → slice_get (xs ++ ys) i ≡ Some x → Place xs ys i x
place [] ys i x is = inr (i, omega arith, is)
place (y ∷ xs) ys zero x is = inl is
place (y ∷ xs) ys (suc i) x is = by (place xs ys i x is)
  where
    by : (slice_get xs i ≡ Some x) ⊎ ((j : ℕ) × (i ≡ length xs + j) × (slice_get ys j ≡ Some x))
        → (slice_get xs i ≡ Some x) ⊎ ((j : ℕ) × (suc i ≡ suc (length xs) + j) × (slice_get ys j ≡ Some x))
    by (inl here) = inl here
    by (inr (j, at, there)) = inr (j, omega (arith, at), there)

-- The element at a place is in the list.
pub at_place : {X : Type 0} (xs : List X) (i : ℕ) (x : X) → slice_get xs i ≡ Some x → Contains xs x
at_place [] i x is = cc
at_place (y ∷ xs) zero x is = let same : y ≡ x = cc in subst (Contains (y ∷ xs)) same (first_in y xs)
at_place (y ∷ xs) (suc i) x is = let (k, less, so) = at_place xs i x is in (suc k, omega (arith, less), so)

-- ---- none, one, and more

pub none_gathered : (ds : List Course) → ((d : Course) → Contains ds d → ⊥) → AreCompleteDialogues ds []
none_gathered ds none = record {
  each = λ d has. absurd (none d has);
  all = λ g has. absurd (none_in g has);
  apart = λ i j n g h is so its hers. cc;
}

pub one_gathered : (ds : List Course) (d : Course) (g : CompleteDialogue) → Contains ds d → ((e : Course) → Contains ds e → e ≡ d)
    → IsCompleteDialogue d g → AreCompleteDialogues ds (g ∷ [])
one_gathered ds d g has only is = record {
  each = λ e there. (g, first_in g [], subst (λ x. IsCompleteDialogue x g) (sym (only e there)) is);
  all = λ f there. by f (in_cases g f [] there);
  apart = λ i j n f h at also its hers. same i j f h at also;
}
  where
    by : (f : CompleteDialogue) → (g ≡ f) ⊎ Contains [] f → (e : Course) × Contains ds e × IsCompleteDialogue e f
    by f (inl same) = (d, has, subst (IsCompleteDialogue d) same is)
    by f (inr bad) = absurd (none_in f bad)

    same : (i j : ℕ) (f h : CompleteDialogue) → slice_get (g ∷ []) i ≡ Some f → slice_get (g ∷ []) j ≡ Some h → i ≡ j
    same zero zero f h at also = refl
    same zero (suc j) f h at also = cc
    same (suc i) j f h at also = cc

-- the same dialogues in another order
pub same_gathered : (ds es : List Course) (gs : List CompleteDialogue) → AreSame ds es → AreCompleteDialogues ds gs → AreCompleteDialogues es gs
same_gathered ds es gs same are = record {
  each = λ d has. are.each d (same.back d has);
  all = λ g has. let (d, there, so) = are.all g has in (d, same.there d there, so);
  apart = are.apart;
}

-- more dialogues, which share no entry with these
pub more_gathered : (ds es : List Course) (gs hs : List CompleteDialogue)
    → ((d e : Course) (n : ℕ) → Contains ds d → Contains es e → has_entry d n ≡ true → has_entry e n ≡ true → ⊥)
    → AreCompleteDialogues ds gs → AreCompleteDialogues es hs → AreCompleteDialogues (ds ++ es) (gs ++ hs)
more_gathered ds es gs hs disjoint first second = record {
  each = λ d has. each_by d (Contains-append_cases ds es d has);
  all = λ g has. all_by g (Contains-append_cases gs hs g has);
  apart = λ i j n g h at also its hers. apart_by i j n g h its hers (place gs hs i g at) (place gs hs j h also);
}
  where
    each_by : (d : Course) → Contains ds d ⊎ Contains es d → (g : CompleteDialogue) × Contains (gs ++ hs) g × IsCompleteDialogue d g
    each_by d (inl has) = let (g, there, so) = first.each d has in (g, Contains-append_left gs hs g there, so)
    each_by d (inr has) = let (g, there, so) = second.each d has in (g, Contains-append_right gs hs g there, so)

    all_by : (g : CompleteDialogue) → Contains gs g ⊎ Contains hs g → (d : Course) × Contains (ds ++ es) d × IsCompleteDialogue d g
    all_by g (inl has) = let (d, there, so) = first.all g has in (d, Contains-append_left ds es d there, so)
    all_by g (inr has) = let (d, there, so) = second.all g has in (d, Contains-append_right ds es d there, so)

    bad : (i k n : ℕ) (g h : CompleteDialogue) → slice_get gs i ≡ Some g → slice_get hs k ≡ Some h → names_entry g n ≡ true → names_entry h n ≡ true → ⊥
    bad i k n g h at also its hers =
        let (d, has, is) = first.all g (at_place gs i g at) in
        let (e, there, so) = second.all h (at_place hs k h also) in
        disjoint d e n has there (sym (is.numbers n) ∙ its) (sym (so.numbers n) ∙ hers)

    apart_by : (i j n : ℕ) (g h : CompleteDialogue) → names_entry g n ≡ true → names_entry h n ≡ true → Place gs hs i g → Place gs hs j h → i ≡ j
    apart_by i j n g h its hers (inl at) (inl also) = first.apart i j n g h at also its hers
    apart_by i j n g h its hers (inl at) (inr (k, far, also)) = absurd (bad i k n g h at also its hers)
    apart_by i j n g h its hers (inr (k, far, at)) (inl also) = absurd (bad j k n h g also at hers its)
    apart_by i j n g h its hers (inr (k, far, at)) (inr (l, farther, also)) =
        let same = second.apart k l n g h at also its hers in omega (arith, far, farther, same)
