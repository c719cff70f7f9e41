-- Which half a stored state means, and what it means to undo changes.
use Rattle.std.specs.Prelude.{◌≡◌, ℕ, ℤ, ◌<◌, List, [], ◌∷◌, Option, None, IsSome, length, slice_index_or}
use Rattle.tcap_end.specs.declared.half_state.HalfState.{HalfState}
use Rattle.tcap_end.specs.declared.half_state.Change.{Change}
use Rattle.tcap_end.specs.declared.half_state.Change.TheVariants.{Out, Waits, InnTaken, GrantTaken, InnJoined, GrantJoined}
use Rattle.tcap_end.specs.declared.half.InvocationState.TheVariants as states
use Rattle.tcap_end.specs.declared.half.Phase.{Phase}
use Rattle.tcap_end.specs.declared.half.Slot.{Slot}
use Rattle.tcap_end.specs.declared.half.Slot.TheVariants.{Begun, Accepted}
use Rattle.tcap_end.specs.declared.half.DialogueState.{DialogueState}
use Rattle.tcap_lists.specs.declared.lists.Lists.{Lists}
use Rattle.tcap_end.specs.declared.own_invocations.OwnInvocation.{OwnInvocation}
use Rattle.tcap_end.specs.Half.{Answer, Half, Invocation, listed}
use Rattle.tcap_lists.specs.Lists.{HasRow, KeepsRows, items_of, kind_of, one_less, rows_of, with_place}
use Rattle.tcap_end.specs.OwnInvocations.{HasPlace, kept_outs, with_state, with_out}

-- The stored parts of a half. The rows of `inn` and `grants` still have the empty places of removed items.
pub record StoredHalf : Type 0 where
  pub phase : Phase
  pub own : Option (List ℕ)
  pub peer : Option (List ℕ)
  pub dialogue_state : DialogueState
  pub out : List (ℤ × OwnInvocation)
  pub inn : List (ℤ × List (Option Invocation))
  pub grants : List (ℤ × List (Option Answer))

-- the stored parts of a state
abbrev pub kept_of : HalfState → StoredHalf
kept_of h = record {
  phase = h.phase;
  own = h.own;
  peer = h.peer;
  dialogue_state = h.dialogue_state;
  out = kept_outs h.out;
  inn = rows_of h.inn;
  grants = rows_of h.grants;
}

-- the half that these parts mean: without the empty places
abbrev pub half_in : StoredHalf → Half
half_in kept = record {
  phase = kept.phase;
  own = kept.own;
  peer = kept.peer;
  dialogue_state = kept.dialogue_state;
  out = kept.out;
  inn = items_of kept.inn;
  grants = items_of kept.grants;
}

-- the half that a state means
abbrev pub half_of : HalfState → Half
half_of h = half_in (kept_of h)

-- All places, rows and kinds of the first state are in the second, and both have the same slot.
pub record KeepsParts (h next : HalfState) : Type 0 where
  pub slot : next.slot ≡ h.slot
  pub out : (id : ℤ) → HasPlace id h.out → HasPlace id next.out
  pub inn : KeepsRows h.inn next.inn
  pub grants : KeepsRows h.grants next.grants

-- the stored parts before a change
abbrev pub undone : Change → HalfState → StoredHalf
undone (Out id was) h = record (kept_of h) { out = with_out id was (kept_outs h.out) }
undone (Waits id) h = record (kept_of h) { out = with_state id states.OperationSent (kept_outs h.out) }
undone (InnTaken id at kind) h = record (kept_of h) { inn = with_place id at (kind_of id kind h.inn) (rows_of h.inn) }
undone (GrantTaken id at kind) h =
    record (kept_of h) { grants = with_place id at (kind_of id kind h.grants) (rows_of h.grants) }
undone (InnJoined id) h = record (kept_of h) { inn = one_less id (rows_of h.inn) }
undone (GrantJoined id) h = record (kept_of h) { grants = one_less id (rows_of h.grants) }

-- An item of this kind can go back to its place. The place is in the row of this ID and is empty, and the row still
-- has the kind.
pub record GoesBack {K : Type 0} (id : ℤ) (at kind : ℕ) (l : Lists K) : Type 0 where
  pub within : at < length (listed id (rows_of l))
  pub empty : slice_index_or (listed id (rows_of l)) at None ≡ None
  pub there : IsSome (kind_of id kind l)

-- The change can be undone.
abbrev pub CanUndo : Change → HalfState → Type 0
CanUndo (Out id was) h = HasPlace id h.out
CanUndo (Waits id) h = HasPlace id h.out
CanUndo (InnTaken id at kind) h = GoesBack id at kind h.inn
CanUndo (GrantTaken id at kind) h = GoesBack id at kind h.grants
CanUndo (InnJoined id) h = HasRow id h.inn
CanUndo (GrantJoined id) h = HasRow id h.grants

-- The change was undone in the second state.
abbrev pub IsUndone : Change → HalfState → HalfState → Type 0
IsUndone change h next = (kept_of next ≡ undone change h) × KeepsParts h next

-- The changes can be undone, the latest first, and undoing all of them leads to that half.
abbrev pub Undoes : List Change → HalfState → Half → Type 0
Undoes [] h start = half_of h ≡ start
Undoes (change ∷ changes) h start = CanUndo change h
    × ((next : HalfState) → IsUndone change h next → Undoes changes next start)

-- If `changes` lead back from h to a half, then `more` lead back from next to that half.
abbrev pub StillUndoes : List Change → HalfState → List Change → HalfState → Type 0
StillUndoes changes h more next = (start : Half) → Undoes changes h start → Undoes more next start

-- the parts with a place of an ID's row of received invocations empty
abbrev pub without_inn : ℤ → ℕ → StoredHalf → StoredHalf
without_inn id at kept = record kept { inn = with_place id at None kept.inn }

-- the parts with a place of an ID's row of received answers empty
abbrev pub without_grant : ℤ → ℕ → StoredHalf → StoredHalf
without_grant id at kept = record kept { grants = with_place id at None kept.grants }

-- the transaction ID of a half in that slot that is not its key
abbrev pub other_id : Slot → Half → Option (List ℕ)
other_id Begun h = h.peer
other_id Accepted h = h.own

-- the transaction ID by which a half in that slot is kept
abbrev pub kept_id : Slot → Half → Option (List ℕ)
kept_id Begun = λ h. h.own
kept_id Accepted = λ h. h.peer

-- the half with this ID as that other one
abbrev pub with_other_id : Slot → Option (List ℕ) → Half → Half
with_other_id Begun id h = record h { peer = id }
with_other_id Accepted id h = record h { own = id }
