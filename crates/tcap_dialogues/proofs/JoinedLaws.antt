-- Two live dialogues, or one, or none, joined into one.
use Rattle.std.proofs.Common.{◌≡◌, ◌⊎◌, inl, inr, ℕ, Bool, true, false, cond, List, ◌++◌, Some, refl, sym, ap, ◌∙◌}
use Rattle.std.specs.Prelude.{◌||◌, Contains}
use Rattle.std.specs.List.{list_any}
use Rattle.std.proofs.lemmas.Bool.{or_left}
use Rattle.std.proofs.lemmas.List.Elements.{Contains-append_left}
use Rattle.std.proofs.lemmas.List.Folds.{list_any-append}
use Rattle.tcap_dialogues.specs.Course.{Course, has_entry}
use Rattle.tcap_dialogues.specs.DialoguesOfList.{IdOf, is_among}
use Rattle.tcap_dialogues.specs.CutDialogues.{has_id}
use Rattle.tcap_dialogues.specs.CutState.{HasValuesOf, IsJoinedLive, changed, known_at}
use Rattle.tcap_dialogues.specs.CutUpdate.{IsJoined}
use Rattle.tcap_dialogues.specs.declared.cut.Cut.{Cut}
use Rattle.tcap_dialogues.specs.declared.known_ids.Change.TheVariants as changes
use Rattle.tcap_dialogues.specs.declared.known_ids.IdState.{IdState}
use Rattle.tcap_dialogues.specs.declared.live.LiveDialogue.{LiveDialogue}
use Rattle.tcap_dialogues.proofs.CutLists.{found}
use Rattle.tcap_dialogues.proofs.HeldLaws.{same_kept}
use Rattle.tcap_dialogues.proofs.HeldLists.{AreSame, any_same}

-- A change to the same dialogue changes nothing.
same_dialogue : (known : IdState) (name : ℕ) → known.dialogue ≡ Some name → known ≡ changed (changes.JoinTo name) known
same_dialogue known name is = ap (λ o. let it : IdState = record known { dialogue = o } in it) is

module _ (n : ℕ) (ds es : List Course) (names : Course → ℕ) (old new : Cut) (large small : LiveDialogue) (one : IsJoinedLive n ds names large)
    (other : IsJoinedLive n es names small)
    (owned : (d : Course) (id : IdOf) → Contains (ds ++ es) d → is_among d.ids id ≡ true → (known_at old.ids id).dialogue ≡ Some (names d))
    (ids : (id : IdOf) → known_at new.ids id
    ≡ cond (has_id small.a small.b id) (changed (changes.JoinTo large.name) (known_at old.ids id)) (known_at old.ids id))
    (rest : new ≡ record old { ids = new.ids }) where
  -- whether the larger one, or the smaller one, has an ID
  abbrev in_large : IdOf → Bool
  in_large id = list_any (λ d. is_among d.ids id) ds

  abbrev in_small : IdOf → Bool
  in_small id = list_any (λ d. is_among d.ids id) es

  -- The IDs of the larger one stay.
  stays : (id : IdOf) → in_large id ≡ true → known_at old.ids id ≡ changed (changes.JoinTo large.name) (known_at old.ids id)
  stays id is =
      let (d, has, its) = found (λ x. is_among x.ids id) ds is in
      same_dialogue (known_at old.ids id) large.name
      (owned d id (Contains-append_left ds es d has) its ∙ ap (λ x. Some x) (one.named d has))

  ids_now : (id : IdOf) → known_at new.ids id
      ≡ cond (list_any (λ d. is_among d.ids id) (ds ++ es)) (changed (changes.JoinTo large.name) (known_at old.ids id)) (known_at old.ids id)
  ids_now id =
      ids id ∙ ap (λ b. cond b (changed (changes.JoinTo large.name) (known_at old.ids id)) (known_at old.ids id)) (other.kept.ids id)
      ∙ by (in_large id) (in_small id) refl
      ∙ ap (λ b. cond b (changed (changes.JoinTo large.name) (known_at old.ids id)) (known_at old.ids id))
      (sym (list_any-append (λ d. is_among d.ids id) ds es))
    where
      by : (a b : Bool) → in_large id ≡ a
          → cond b (changed (changes.JoinTo large.name) (known_at old.ids id)) (known_at old.ids id)
          ≡ cond (a || b) (changed (changes.JoinTo large.name) (known_at old.ids id)) (known_at old.ids id)
      by true true is = refl
      by true false is = stays id is
      by false b is = refl

  pub joined_in : (l : LiveDialogue) → HasValuesOf (ds ++ es) l → l.name ≡ large.name → IsJoined n (ds ++ es) old new l
  joined_in l kept name = record {
    kept = kept;
    entry = by one.entry;
    ids = λ id. ids_now id
        ∙ ap (λ x. cond (list_any (λ d. is_among d.ids id) (ds ++ es)) (changed (changes.JoinTo x) (known_at old.ids id)) (known_at old.ids id))
        (sym name);
    rest = rest;
  }
    where
      by : (large.name ≡ n) ⊎ (list_any (λ d. has_entry d large.name) ds ≡ true)
          → (l.name ≡ n) ⊎ (list_any (λ d. has_entry d l.name) (ds ++ es) ≡ true)
      by (inl is) = inl (name ∙ is)
      by (inr is) =
          inr
          (ap (λ x. list_any (λ d. has_entry d x) (ds ++ es)) name
          ∙ list_any-append (λ d. has_entry d large.name) ds es ∙ or_left _ _ is)

-- the same dialogues in another order
pub joined_same : (n : ℕ) (ds es : List Course) (old new : Cut) (l : LiveDialogue) → AreSame ds es → IsJoined n ds old new l → IsJoined n es old new l
joined_same n ds es old new l same is = record {
  kept = same_kept ds es l same is.kept;
  entry = by is.entry;
  ids = λ id. is.ids id
      ∙ ap (λ b. cond b (changed (changes.JoinTo l.name) (known_at old.ids id)) (known_at old.ids id))
      (any_same (λ d. is_among d.ids id) ds es same);
  rest = is.rest;
}
  where
    by : (l.name ≡ n) ⊎ (list_any (λ d. has_entry d l.name) ds ≡ true) → (l.name ≡ n) ⊎ (list_any (λ d. has_entry d l.name) es ≡ true)
    by (inl so) = inl so
    by (inr so) = inr (sym (any_same (λ d. has_entry d l.name) ds es same) ∙ so)
