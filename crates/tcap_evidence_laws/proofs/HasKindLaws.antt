-- The test that holds if a message has a kind.
use Rattle.tcap_evidence_laws.proofs.Common.{◌≡◌, inl, inr, ℕ, Bool, true, false, not, ◌||◌, List, Option, Some, None, refl, sym, ◌∙◌, and_parts, not-true, or_cases, Message, cause_in, dtid_in, Side, Table, Item, Kind, is_fault, is_of_half_kind, HalfMessages, half_of, goes_over_tangled, HasKind}
use Rattle.std.proofs.Common.{⊎_elim}
use Rattle.tcap_refute.specs.FirstKinds.{is_of_first_kind}
use Rattle.tcap_refute.specs.Kind.{is_of_kind}
use Rattle.tcap_faults.specs.Fault.{is_of_alone_kind, is_of_further_kind, is_of_kind_to, is_of_reply_kind}
use Rattle.tcap_refute.specs.declared.kind.Kind.TheVariants as kinds
use Rattle.tcap_evidence.specs.EvidenceWords.{is_of_half}

-- What follows from each of two tests follows if one of them holds.
pub either : {A : Type 0} (a b : Bool) → (a || b) ≡ true → (a ≡ true → A) → (b ≡ true → A) → A
either a b is first second = ⊎_elim first second (or_cases a b is)

-- F2 to F4, F6 and F7, which are the same for one end and for both
abbrev is_early : Kind → Bool
is_early kinds.UnknownTransaction = true
is_early kinds.ReusedId = true
is_early kinds.AfterEnd = true
is_early kinds.WrongOperation = true
is_early kinds.MisplacedDialogue = true
is_early kind = false

-- F8 to F14
abbrev is_further : Kind → Bool
is_further kinds.WrongReply = true
is_further kind = is_of_half kind

-- those of F8 to F14 that a message without a destination ID never has
abbrev is_never_alone : Kind → Bool
is_never_alone kinds.WrongHalf = true
is_never_alone kinds.WrongDialogue = true
is_never_alone kinds.AnsweredAlready = true
is_never_alone kinds.RejectNotAllowed = true
is_never_alone kinds.WrongReply = true
is_never_alone kind = false

-- ---- F2 to F7

module _ (table : Table) (side : Side) (items : List Item) (m : Message) where
  -- F2 to F7, none of which is one of F8 to F14
  abbrev is_first : Kind → Bool
  is_first kinds.AnswersNothing = true
  is_first kind = is_early kind

  not_to : (id : List ℕ) (cause : Option ℕ) (kind : Kind) → is_first kind ≡ true
      → is_of_kind_to table side id items m cause kind ≡ false
  not_to id None kinds.UnknownTransaction early = refl
  not_to id (Some cause) kinds.UnknownTransaction early = refl
  not_to id cause kind early = cc

  not_further : (o : Option (List ℕ)) (kind : Kind) → is_first kind ≡ true
      → is_of_further_kind table side items m o kind ≡ false
  not_further None kinds.UnknownTransaction early = refl
  not_further None kind early = cc
  not_further (Some id) kind early = not_to id (cause_in m) kind early

  -- If one of these is blamed on an end, the end's test for it holds.
  pub first_where : (kind : Kind) → is_first kind ≡ true → is_fault table side items m kind ≡ true
      → is_of_first_kind table side items m kind ≡ true
  first_where kind early is =
      either _ _ (and_parts (not (goes_over_tangled side items m)) _ is).1 (λ first. first)
      (λ further. let bad : false ≡ true = sym (not_further (dtid_in m) kind early) ∙ further in cc)

  -- F2 to F4, F6 and F7 have the same test for one end as for both.
  asked_alike : (kind : Kind) → is_early kind ≡ true
      → is_of_first_kind table side items m kind ≡ is_of_kind table side items m kind
  asked_alike kinds.UnknownTransaction early = refl
  asked_alike kind early = cc

  early_first : (kind : Kind) → is_early kind ≡ true → is_first kind ≡ true
  early_first kinds.UnknownTransaction early = refl
  early_first kind early = cc

  pub kind_so : (kind : Kind) → is_early kind ≡ true → HasKind table side items m kind
      → is_of_kind table side items m kind ≡ true
  kind_so kind early (inl is) = is
  kind_so kind early (inr is) = sym (asked_alike kind early) ∙ first_where kind (early_first kind early) is

-- ---- F8 to F14

module _ (table : Table) (side : Side) (items : List Item) (m : Message) where
  -- None of these kinds refutes a record.
  not_refuting : (kind : Kind) → is_further kind ≡ true → is_of_kind table side items m kind ≡ false
  not_refuting kinds.WrongHalf late = refl
  not_refuting kind late = cc

  not_first : (kind : Kind) → is_further kind ≡ true → is_of_first_kind table side items m kind ≡ false
  not_first kinds.WrongHalf late = refl
  not_first kind late = cc

  pub further_so : (kind : Kind) → is_further kind ≡ true → HasKind table side items m kind
      → (goes_over_tangled side items m ≡ false) × (is_of_further_kind table side items m (dtid_in m) kind ≡ true)
  further_so kind late (inl is) = let bad : false ≡ true = sym (not_refuting kind late) ∙ is in cc
  further_so kind late (inr is) =
      let (untangled, some) = and_parts (not (goes_over_tangled side items m)) _ is in
      (not-true (goes_over_tangled side items m) untangled, rw (not_first kind late) at some)

  -- A message with one of these kinds has a destination ID, except for F10 and F11.
  not_alone : (kind : Kind) → is_never_alone kind ≡ true → is_of_alone_kind m kind ≡ false
  not_alone kinds.WrongHalf never = refl
  not_alone kind never = cc

  never_further : (kind : Kind) → is_never_alone kind ≡ true → is_further kind ≡ true
  never_further kinds.WrongHalf never = refl
  never_further kind never = cc

  pub goes_so : (kind : Kind) → is_never_alone kind ≡ true → HasKind table side items m kind
      → (id : List ℕ) × (dtid_in m ≡ Some id)
  goes_so kind never has = by (dtid_in m) refl
    where
      by : (o : Option (List ℕ)) → dtid_in m ≡ o → (id : List ℕ) × (dtid_in m ≡ Some id)
      by None to =
          let so : is_of_alone_kind m kind ≡ true = rw to at ((further_so kind (never_further kind never) has).1) in
          let bad : false ≡ true = sym (not_alone kind never) ∙ so in cc
      by (Some id) to = (id, to)

  -- A message to this ID.
  module _ (id : List ℕ) (to : dtid_in m ≡ Some id) where
    to_so : (kind : Kind) → is_further kind ≡ true → HasKind table side items m kind
        → is_of_kind_to table side id items m (cause_in m) kind ≡ true
    to_so kind late has = rw to at ((further_so kind late has).1)

    -- F14 is a kind of an Abort with a cause.
    pub reply_so : HasKind table side items m kinds.WrongReply
        → (cause : ℕ) × (cause_in m ≡ Some cause)
        × (is_of_reply_kind table side id items (half_of side items id) cause kinds.WrongReply ≡ true)
    reply_so has = by (cause_in m) refl (to_so kinds.WrongReply refl has)
      where
        by : (o : Option ℕ) → cause_in m ≡ o → is_of_kind_to table side id items m o kinds.WrongReply ≡ true
            → (cause : ℕ) × (cause_in m ≡ Some cause)
            × (is_of_reply_kind table side id items (half_of side items id) cause kinds.WrongReply ≡ true)
        by None is so = cc
        by (Some cause) is so = (cause, is, so)

    -- F8 to F13 are not kinds of such an Abort.
    not_reply : (h : HalfMessages) (cause : ℕ) (kind : Kind) → is_of_half kind ≡ true
        → is_of_reply_kind table side id items h cause kind ≡ false
    not_reply h cause kinds.WrongHalf late = refl
    not_reply h cause kind late = cc

    half_further : (kind : Kind) → is_of_half kind ≡ true → is_further kind ≡ true
    half_further kinds.WrongHalf late = refl
    half_further kind late = cc

    pub half_so : (kind : Kind) → is_of_half kind ≡ true → HasKind table side items m kind
        → is_of_half_kind table side id items m (half_of side items id) kind ≡ true
    half_so kind late has = by (cause_in m) (to_so kind (half_further kind late) has)
      where
        by : (o : Option ℕ) → is_of_kind_to table side id items m o kind ≡ true
            → is_of_half_kind table side id items m (half_of side items id) kind ≡ true
        by None so = so
        by (Some cause) so =
            let bad : false ≡ true = sym (not_reply (half_of side items id) cause kind late) ∙ so in cc
