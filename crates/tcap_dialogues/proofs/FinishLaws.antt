-- At the end of the segment, all live dialogues are handed over.
use Rattle.std.proofs.Common.{arith, ◌≡◌, ◌⊎◌, inl, inr, ℕ, zero, suc, ◌<◌, ◌≤◌, Bool, true, false, cond, List, [], ◌∷◌, ◌++◌, length, get_or, Some, refl, sym, ap, subst, ◌∙◌}
use Rattle.std.specs.Prelude.{⊤, Contains, slice_get}
use Rattle.std.specs.BTreeMap as tree
use Rattle.std.specs.BTreeMap.{is_at}
use Rattle.std.specs.Cmp.{nat_cmp_is}
use Rattle.std.specs.Map.{lookup}
use Rattle.std.specs.Ordering.{nat_cmp}
use Rattle.std.specs.declared.cmp.Ordering.TheVariants.{Equal, Less}
use Rattle.std.proofs.lemmas.Bool.{cases_lt}
use Rattle.std.proofs.lemmas.Cmp.{nat_cmp_total}
use Rattle.std.proofs.lemmas.List.{append-nil, append_assoc}
use Rattle.std.proofs.lemmas.Map.Entries.{btree_map_get_place}
use Rattle.std.proofs.lemmas.Map.Keys.{Less-from_sorted}
use Rattle.std.proofs.lemmas.Option.{get_or_from_slice_get, slice_get-map, slice_get_within}
use Rattle.std.specs.Option.{option_map}
use Rattle.tcap_dialogues.specs.Course.{Course}
use Rattle.tcap_dialogues.specs.CutDialogues.{AreCompleteDialogues, HandsOver, IsCompleteDialogue}
use Rattle.tcap_dialogues.specs.CutState.{AreApart, HasValuesOf, HoldsLive}
use Rattle.tcap_dialogues.specs.declared.complete_dialogue.CompleteDialogue.{CompleteDialogue}
use Rattle.tcap_dialogues.specs.declared.live.LiveDialogue.{LiveDialogue}
use Rattle.tcap_dialogues.proofs.GatheredLaws.{at_place}

-- A gathered dialogue represents the dialogue that the live one keeps.
abbrev pub StandsFor : LiveDialogue → CompleteDialogue → Type 0
StandsFor l g = (d : Course) → HasValuesOf (d ∷ []) l → IsCompleteDialogue d g

-- These represent those, one by one.
pub Stand : List (ℕ × LiveDialogue) → List CompleteDialogue → Type 0
Stand [] [] = ⊤
Stand (e ∷ es) (g ∷ gs) = StandsFor e.1 g × Stand es gs
Stand [] (g ∷ gs) = ⊥
Stand (e ∷ es) [] = ⊥

pub stand_more : (es : List (ℕ × LiveDialogue)) (gs : List CompleteDialogue) (e : ℕ × LiveDialogue) (g : CompleteDialogue) → Stand es gs → StandsFor e.1 g
    → Stand (es ++ e ∷ []) (gs ++ g ∷ [])
unfolding Stand
stand_more [] [] e g so is = (is, tt)
stand_more (x ∷ es) (y ∷ gs) e g (first, so) is = (first, stand_more es gs e g so is)
stand_more [] (y ∷ gs) e g so is = absurd so
stand_more (x ∷ es) [] e g so is = absurd so

stand_back : (es : List (ℕ × LiveDialogue)) (gs : List CompleteDialogue) (i : ℕ) (g : CompleteDialogue) → Stand es gs → slice_get gs i ≡ Some g
    → (e : ℕ × LiveDialogue) × (slice_get es i ≡ Some e) × StandsFor e.1 g
unfolding Stand
stand_back [] [] i g so is = cc
stand_back (e ∷ es) (x ∷ gs) zero g (first, so) is = let same : x ≡ g = cc in (e, refl, subst (StandsFor e.1) same first)
stand_back (e ∷ es) (x ∷ gs) (suc i) g (first, so) is = stand_back es gs i g so is
stand_back [] (x ∷ gs) i g so is = absurd so
stand_back (e ∷ es) [] i g so is = absurd so

stand_there : (es : List (ℕ × LiveDialogue)) (gs : List CompleteDialogue) (i : ℕ) (e : ℕ × LiveDialogue) → Stand es gs → slice_get es i ≡ Some e
    → (g : CompleteDialogue) × (slice_get gs i ≡ Some g) × StandsFor e.1 g
unfolding Stand
stand_there [] [] i e so is = cc
stand_there (x ∷ es) (g ∷ gs) zero e (first, so) is = let same : x ≡ e = cc in (g, refl, subst (λ y. StandsFor y.1 g) same first)
stand_there (x ∷ es) (g ∷ gs) (suc i) e (first, so) is = stand_there es gs i e so is
stand_there [] (g ∷ gs) i e so is = absurd so
stand_there (x ∷ es) [] i e so is = absurd so

-- A value that is found is that of an entry.
found_place : (number : ℕ) (es : List (ℕ × LiveDialogue)) (l : LiveDialogue) → lookup (is_at (nat_cmp number)) es ≡ Some l
    → (i : ℕ) × (e : ℕ × LiveDialogue) × (slice_get es i ≡ Some e) × (e.1 ≡ l)
found_place number [] l is = cc
found_place number (e ∷ es) l is = by (is_at (nat_cmp number) e.0) is (λ more. found_place number es l more)
  where
    by : (b : Bool) → cond b (Some e.1) (lookup (is_at (nat_cmp number)) es) ≡ Some l
        → (lookup (is_at (nat_cmp number)) es ≡ Some l → (i : ℕ) × (x : ℕ × LiveDialogue) × (slice_get es i ≡ Some x) × (x.1 ≡ l))
        → (i : ℕ) × (x : ℕ × LiveDialogue) × (slice_get (e ∷ es) i ≡ Some x) × (x.1 ≡ l)
    by true here rest = let same : e.1 ≡ l = cc in (0, e, refl, same)
    by false more rest = let (i, x, at, so) = rest more in (suc i, x, at, so)

module _ (live : List Course) (names : Course → ℕ) (lives : tree.BTreeMap ℕ LiveDialogue) (apart : AreApart live) (are : HoldsLive live names lives)
    (ordered : tree.IsOrdered nat_cmp lives) (gs : List CompleteDialogue) (stand : Stand lives.entries gs) where
  -- the dialogue of an entry
  of_place : (i : ℕ) (e : ℕ × LiveDialogue) → slice_get lives.entries i ≡ Some e
      → (d : Course) × Contains live d × (names d ≡ e.0) × HasValuesOf (d ∷ []) e.1
  of_place i e at =
      let got : tree.get nat_cmp lives e.0 ≡ Some e.1 = btree_map_get_place nat_cmp_total lives i e.0 e.1 ordered at in
      let (d, has, named) = are.back e.0 e.1 got in
      let (l, there, name, kept) = are.there d has in
      let some : Some l ≡ Some e.1 = sym there ∙ ap (tree.get nat_cmp lives) named ∙ got in
      let same : l ≡ e.1 = cc in (d, has, named, subst (HasValuesOf (d ∷ [])) same kept)

  -- Keys at two places differ.
  before : (i j : ℕ) (e f : ℕ × LiveDialogue) → slice_get lives.entries i ≡ Some e → slice_get lives.entries j ≡ Some f → e.0 ≡ f.0 → i < j → ⊥
  before i j e f at also same less =
      let key : slice_get (tree.keys lives) i ≡ Some e.0 = slice_get-map (λ (x : ℕ × LiveDialogue). x.0) lives.entries i ∙ ap (option_map (λ (x : ℕ × LiveDialogue). x.0)) at in
      let key_too : slice_get (tree.keys lives) j ≡ Some f.0 = slice_get-map (λ (x : ℕ × LiveDialogue). x.0) lives.entries j ∙ ap (option_map (λ (x : ℕ × LiveDialogue). x.0)) also in
      let less_key = Less-from_sorted nat_cmp (tree.keys lives) i j 0 ordered less (slice_get_within (tree.keys lives) j f.0 key_too) in
      let one : nat_cmp e.0 f.0 ≡ Less =
      ap (λ k. nat_cmp k f.0) (sym (get_or_from_slice_get (tree.keys lives) i e.0 0 key))
      ∙ ap (nat_cmp (get_or (tree.keys lives) i 0)) (sym (get_or_from_slice_get (tree.keys lives) j f.0 0 key_too)) ∙ less_key in
      let equal : Equal ≡ nat_cmp e.0 f.0 = nat_cmp_is e.0 f.0 Equal same in
      let bad : Equal ≡ Less = equal ∙ one in cc

  one_place : (i j : ℕ) (e f : ℕ × LiveDialogue) → slice_get lives.entries i ≡ Some e → slice_get lives.entries j ≡ Some f → e.0 ≡ f.0 → i ≡ j
  one_place i j e f at also same = by (cases_lt i j) (cases_lt j i)
    where
      by : (i < j) ⊎ (j ≤ i) → (j < i) ⊎ (i ≤ j) → i ≡ j
      by (inl less) other = absurd (before i j e f at also same less)
      by (inr more) (inl less) = absurd (before j i f e also at (sym same) less)
      by (inr more) (inr less) = omega (arith, more, less)

  -- They represent all live dialogues.
  pub all_stand : AreCompleteDialogues live gs
  all_stand = record {
    each = λ d has.
        let (l, there, name, kept) = are.there d has in
        let (i, e, at, so) = found_place (names d) lives.entries l there in
        let (g, given, stands) = stand_there lives.entries gs i e stand at in
        (g, at_place gs i g given, stands d (subst (HasValuesOf (d ∷ [])) (sym so) kept));
    all = λ g (i, less, is).
        let (e, at, stands) = stand_back lives.entries gs i g stand (given_at i g less is) in
        let (d, has, named, kept) = of_place i e at in (d, has, stands d kept);
    apart = λ i j n g h at also its hers.
        let (e, there, stands) = stand_back lives.entries gs i g stand at in
        let (f, here, stand_too) = stand_back lives.entries gs j h stand also in
        let (d, has, named, kept) = of_place i e there in
        let (x, has_too, named_too, kept_too) = of_place j f here in
        let same : d ≡ x = apart.one_number d x n has has_too (sym ((stands d kept).numbers n) ∙ its) (sym ((stand_too x kept_too).numbers n) ∙ hers) in
        one_place i j e f there here (sym named ∙ ap names same ∙ named_too);
  }
    where
      given_at : (i : ℕ) (g : CompleteDialogue) → i < length gs → get_or gs i g ≡ g → slice_get gs i ≡ Some g
      given_at i g less is = Rattle.std.proofs.lemmas.Option.slice_get-get_or gs i g less ∙ ap (λ x. Some x) is

-- ---- in turn

-- the gathered dialogues that represent these are appended
abbrev pub Handed : List CompleteDialogue → List (ℕ × LiveDialogue) → List CompleteDialogue → Type 0
Handed old es now = (given : List CompleteDialogue) × (now ≡ old ++ given) × Stand es given

pub begins : (old : List CompleteDialogue) → Handed old [] old
unfolding Stand
begins old = ([], sym (append-nil old), tt)

pub stands_with : (old now new : List CompleteDialogue) (es : List (ℕ × LiveDialogue)) (e : ℕ × LiveDialogue) (g : CompleteDialogue) → Handed old es now
    → new ≡ now ++ g ∷ [] → StandsFor e.1 g → Handed old (es ++ e ∷ []) new
stands_with old now new es e g (given, items, stand) pushed is = (
  given ++ g ∷ [],
  pushed ∙ ap (λ xs. xs ++ g ∷ []) items ∙ append_assoc old given (g ∷ []),
  stand_more es given e g stand is,
)

pub all_handed : (live : List Course) (names : Course → ℕ) (lives : tree.BTreeMap ℕ LiveDialogue) → AreApart live → HoldsLive live names lives
    → tree.IsOrdered nat_cmp lives → (old now : List CompleteDialogue) (es : List (ℕ × LiveDialogue)) → es ≡ lives.entries → Handed old es now
    → HandsOver live old now
all_handed live names lives apart are ordered old now es same (given, items, stand) =
    (given, items, all_stand live names lives apart are ordered given (subst (λ xs. Stand xs given) same stand))
