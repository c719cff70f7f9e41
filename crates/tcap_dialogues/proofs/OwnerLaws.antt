-- The live dialogue that has an ID of a heading.
use Rattle.std.proofs.Common.{◌≡◌, ℕ, Bool, true, false, List, [], ◌∷◌, Option, Some, None, is_some, refl, sym, subst, ◌∙◌}
use Rattle.std.specs.Prelude.{Contains}
use Rattle.std.specs.List.{flat_map}
use Rattle.std.proofs.lemmas.Bool.{false_from_ne_true, true≢false}
use Rattle.tcap_record.specs.declared.entry.End.{End as Side}
use Rattle.tcap_dialogues.specs.Course.{Course, Courses, firm_in, share_id}
use Rattle.tcap_dialogues.specs.DialoguesOfList.{IdOf, is_among}
use Rattle.tcap_dialogues.specs.CutState.{AreApart, IsIdState, IsOwned, known_at, known_of}
use Rattle.tcap_dialogues.specs.CutUpdate.{ids_at}
use Rattle.tcap_dialogues.specs.declared.known_ids.Ids.{Ids}
use Rattle.tcap_dialogues.specs.declared.known_ids.IdState.{IdState}
use Rattle.tcap_dialogues.proofs.CutLists.{finds, found}
use Rattle.tcap_dialogues.proofs.HeldLists.{or_none}

-- Two lists share an ID if one of them shares it with a part of the other.
pub have_more : (ids xs ys : List IdOf) → ((id : IdOf) → is_among xs id ≡ true → is_among ys id ≡ true) → share_id ids xs ≡ true
    → share_id ids ys ≡ true
have_more ids xs ys more is = let (id, has, so) = found (is_among xs) ids is in finds (is_among ys) ids id has (more id so)

-- No dialogue has one of these IDs.
abbrev pub IsNobodys : List Course → List IdOf → IdState → Type 0
IsNobodys live ids known = ((d : Course) → Contains live d → share_id ids d.ids ≡ false) × (known.begun ≡ false)

-- The dialogue with this name has one of these IDs,
pub record IsOwner (live : List Course) (names : Course → ℕ) (ids : List IdOf) (name : ℕ) (known : IdState) (d : Course) : Type 0 where
  pub listed : Contains live d
  pub has : share_id ids d.ids ≡ true
  pub named : names d ≡ name
  pub begun : known.begun ≡ share_id ids d.begun
  -- and no other has.
  pub only : (e : Course) → Contains live e → share_id ids e.ids ≡ true → e ≡ d

abbrev pub Owns : List Course → (Course → ℕ) → List IdOf → IdState → Option ℕ → Type 0
Owns live names ids known None = IsNobodys live ids known
Owns live names ids known (Some name) = (d : Course) × IsOwner live names ids name known d

-- the IDs of dialogues that are done, and which of them are firm
abbrev pub done_ids : Courses → List IdOf
done_ids s = flat_map (λ d. d.ids) s.done

abbrev pub firm_ids : Courses → List IdOf
firm_ids s = flat_map firm_in s.done

pub record IsOf (s : Courses) (names : Course → ℕ) (ids : List IdOf) (known : IdState) : Type 0 where
  pub owns : Owns s.live names ids known known.dialogue
  pub came : is_some known.last ≡ share_id ids (done_ids s)
  pub firm_is : known.firm ≡ share_id ids (firm_ids s)

module _ (s : Courses) (names : Course → ℕ) (sent : IdOf → Bool) (apart : AreApart s.live) where
  of_one : (id : IdOf) (known : IdState) → IsIdState s names sent id known → IsOf s names (id ∷ []) known
  of_one id known is = record {
    owns = by known.dialogue is.owned;
    came = is.came ∙ sym (or_none (is_among (done_ids s) id));
    firm_is = is.firm_is ∙ sym (or_none (is_among (firm_ids s) id));
  }
    where
      by : (o : Option ℕ) → IsOwned s.live names id o known.used known.begun → Owns s.live names (id ∷ []) known o
      by None (nobody, unused, unbegun) = (λ d has. or_none (is_among d.ids id) ∙ nobody d has, unbegun)
      by (Some name) (d, listed, its, named, used_is, begun_is) = (
        d,
        record {
          listed = listed;
          has = or_none (is_among d.ids id) ∙ its;
          named = named;
          begun = begun_is ∙ sym (or_none (is_among d.begun id));
          only = λ e hers so. apart.one_id e d id hers listed (sym (or_none (is_among e.ids id)) ∙ so) its;
        },
      )

  -- So it is with what is known of the ID of an end.
  pub known_ids : (ids : Ids) → ((id : IdOf) → IsIdState s names sent id (known_at ids id)) → (end : Side) (octets : Option (List ℕ))
      → IsOf s names (ids_at end octets) (known_of ids end octets)
  known_ids ids are end None = record { owns = (λ d has. refl, refl); came = refl; firm_is = refl }
  known_ids ids are end (Some octets) =
      let id : IdOf = record { end = end; octets = octets } in of_one id (known_at ids id) (are id)

  pub known_is : (ids : Ids) → ((id : IdOf) → IsIdState s names sent id (known_at ids id)) → (end : Side) (octets : Option (List ℕ))
      (known : IdState) → known ≡ known_of ids end octets → IsOf s names (ids_at end octets) known
  known_is ids are end octets known is = subst (IsOf s names (ids_at end octets)) (sym is) (known_ids ids are end octets)

module _ (s : Courses) (names : Course → ℕ) (ids : List IdOf) (known : IdState) (of : IsOf s names ids known) where
  -- the dialogue with this name, or none
  pub owner_of : (name : ℕ) → known.dialogue ≡ Some name → (d : Course) × IsOwner s.live names ids name known d
  owner_of name is = subst (Owns s.live names ids known) is of.owns

  pub nobody_of : known.dialogue ≡ None → IsNobodys s.live ids known
  nobody_of is = subst (Owns s.live names ids known) is of.owns

module _ (live : List Course) (names : Course → ℕ) (ids : List IdOf) (known : IdState) (apart : AreApart live) where
  -- If no dialogue has one of these IDs, none began from one.
  pub nobody_begun : IsNobodys live ids known → (d : Course) → Contains live d → share_id ids d.begun ≡ false
  nobody_begun nobody d has =
      false_from_ne_true _
      (λ is. true≢false (sym (have_more ids d.begun d.ids (λ id. apart.begun_in d id has) is) ∙ nobody.0 d has))

  -- If a dialogue has one, no other began from one.
  pub begun_only : (name : ℕ) (d : Course) → IsOwner live names ids name known d → (e : Course) → Contains live e
      → share_id ids e.begun ≡ true → e ≡ d
  begun_only name d owner e has is = owner.only e has (have_more ids e.begun e.ids (λ id. apart.begun_in e id has) is)
