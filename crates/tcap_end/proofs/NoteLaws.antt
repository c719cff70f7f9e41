-- A change is noted, or undone at once.
use Rattle.std.proofs.Common.{◌≡◌, ℤ, List, ◌∷◌, Option, Result, Ok, Err, OnOk, OnErr, refl, ap, ◌∙◌}
use Rattle.tcap_end.specs.declared.half_state.HalfState.{HalfState}
use Rattle.tcap_end.specs.declared.half_state.Change.{Change}
use Rattle.tcap_end.specs.declared.half_state.Change.TheVariants.{InnJoined, GrantJoined}
use Rattle.tcap_lists.specs.declared.lists.Lists.{Lists}
use Rattle.tcap_end.specs.declared.own_invocations.Outs.{Outs}
use Rattle.tcap_end.specs.Half.{Answer, Invocation, with_newest}
use Rattle.tcap_lists.specs.Lists.{HasRow, KeepsRows, one_less, rows_of}
use Rattle.tcap_end.specs.OwnInvocations.{HasPlace}
use Rattle.tcap_end.specs.HalfState.{CanUndo, IsUndone, KeepsParts, StillUndoes, kept_of, undone}
use Rattle.tcap_end.proofs.BackLaws.{less_again}
use Rattle.tcap_lists.proofs.ListLaws.{whole_rows}
use Rattle.tcap_end.proofs.UndoLaws.{keeps_then, undoes_more, undoes_too}

-- rows keep what they have
pub keeps_all : {K : Type 0} (l : Lists K) → KeepsRows l l
keeps_all l = record { rows = λ id has. has; kinds = λ id number some. refl }

pub keeps_out : (h : HalfState) (out : Outs) → ((id : ℤ) → HasPlace id h.out → HasPlace id out) → KeepsParts h (record h { out = out })
keeps_out h out has = record { slot = refl; out = has; inn = keeps_all h.inn; grants = keeps_all h.grants }

pub keeps_inn : (h : HalfState) (inn : Lists Invocation) → KeepsRows h.inn inn → KeepsParts h (record h { inn = inn })
keeps_inn h inn has = record { slot = refl; out = λ id there. there; inn = has; grants = keeps_all h.grants }

pub keeps_grants : (h : HalfState) (grants : Lists Answer) → KeepsRows h.grants grants → KeepsParts h (record h { grants = grants })
keeps_grants h grants has = record { slot = refl; out = λ id there. there; inn = keeps_all h.inn; grants = has }

-- Whether a change was noted or undone, the changes still undo what they undid.
pub still_noted : {A E : Type 0} (r : Result A E) (change : Change) (changes more : List Change) (h mid next : HalfState)
    → undone change mid ≡ kept_of h → KeepsParts h mid → CanUndo change mid
    → OnOk r ((next ≡ mid) × (more ≡ change ∷ changes)) → OnErr r (IsUndone change mid next × (more ≡ changes))
    → StillUndoes changes h more next
still_noted (Ok _) change changes more h mid next back keeps can ok err =
    λ start u. rw (ok.0, ok.1) (undoes_more change changes h mid start back keeps can u)
still_noted (Err _) change changes more h mid next back keeps can ok err =
    λ start u. rw (err.1) (undoes_too changes h next start (err.0.0 ∙ back) (keeps_then h mid next keeps err.0.1) u)

-- a value read from the half after the change was noted
pub read_noted : {A E B : Type 0} (r : Result A E) (changes more : List Change) (mid next : HalfState) (read : HalfState → B) (b : B)
    → OnOk r ((next ≡ mid) × (more ≡ changes)) → read mid ≡ b → OnOk r (read next ≡ b)
read_noted (Ok _) changes more mid next read b ok same = ap read ok.0 ∙ same
read_noted (Err _) changes more mid next read b ok same = tt

-- The stored parts did not change.
pub still_same : (changes : List Change) (h next : HalfState) → kept_of next ≡ kept_of h → KeepsParts h next → StillUndoes changes h changes next
still_same changes h next same keeps = λ start u. undoes_too changes h next start same keeps u

-- ---- a change of one part, noted or undone

module _ {A E : Type 0} (r : Result A E) (changes more : List Change) (h next : HalfState) where
  pub out_noted : (change : Change) (out : Outs) → undone change (record h { out = out }) ≡ kept_of h
      → ((id : ℤ) → HasPlace id h.out → HasPlace id out) → CanUndo change (record h { out = out })
      → OnOk r ((next ≡ record h { out = out }) × (more ≡ change ∷ changes))
      → OnErr r (IsUndone change (record h { out = out }) next × (more ≡ changes)) → StillUndoes changes h more next
  out_noted change out back has can ok err =
      still_noted r change changes more h (record h { out = out }) next back (keeps_out h out has) can ok err

  -- an invocation was added
  pub inn_noted : (id : ℤ) (item : Option Invocation) (inn : Lists Invocation) → rows_of inn ≡ with_newest id item (rows_of h.inn)
      → KeepsRows h.inn inn → HasRow id inn
      → OnOk r ((next ≡ record h { inn = inn }) × (more ≡ InnJoined id ∷ changes))
      → OnErr r (IsUndone (InnJoined id) (record h { inn = inn }) next × (more ≡ changes)) → StillUndoes changes h more next
  inn_noted id item inn joined has can ok err =
      still_noted r (InnJoined id) changes more h (record h { inn = inn }) next
      (ap (λ inn. record (kept_of h) { inn = inn }) (ap (one_less id) joined ∙ less_again id item (rows_of h.inn) (whole_rows h.inn)))
      (keeps_inn h inn has) can ok err

  -- an answer was added
  pub grant_noted : (id : ℤ) (item : Option Answer) (grants : Lists Answer) → rows_of grants ≡ with_newest id item (rows_of h.grants)
      → KeepsRows h.grants grants → HasRow id grants
      → OnOk r ((next ≡ record h { grants = grants }) × (more ≡ GrantJoined id ∷ changes))
      → OnErr r (IsUndone (GrantJoined id) (record h { grants = grants }) next × (more ≡ changes)) → StillUndoes changes h more next
  grant_noted id item grants joined has can ok err =
      still_noted r (GrantJoined id) changes more h (record h { grants = grants }) next
      (ap (λ grants. record (kept_of h) { grants = grants })
      (ap (one_less id) joined ∙ less_again id item (rows_of h.grants) (whole_rows h.grants)))
      (keeps_grants h grants has)
      can ok err
