-- What one end knows of a transaction: a half (Q.774 3.2, component sub-layer; 3.3, transaction sub-layer).
use Rattle.std.specs.Prelude.{ℕ, ℤ, Bool, true, false, List, [], ◌∷◌, Option, ◌==◌, cond}
use Rattle.tcap_parts.specs.declared.code.Code.{Code}
use Rattle.tcap_end.specs.declared.half.Phase.{Phase}
use Rattle.tcap_end.specs.declared.half.Phase.TheVariants as phases
use Rattle.tcap_end.specs.declared.half.DialogueState.{DialogueState}
use Rattle.tcap_end.specs.declared.half.DialogueState.TheVariants as dialogue_states
use Rattle.tcap_end.specs.declared.own_invocations.OwnInvocation.{OwnInvocation}
pub use Rattle.tcap_lists.specs.Items.{listed, listed_by, one_fits, with_listed, with_newest, without_oldest, without_oldest_of}

-- a received invocation: its operation, and the invoke problems with which it may be rejected
pub record Invocation : Type 0 where
  pub code : Code
  pub problems : List ℕ

-- a received answer: whether it is a Return Result, and the problems with which it may be rejected
pub record Answer : Type 0 where
  pub is_result : Bool
  pub problems : List ℕ

-- The state of a half: phase, own and peer's transaction ID, dialogue state, own invocations (`out`), received
-- invocations (`inn`) and received answers (`grants`). The lists are in the order of the invoke IDs; the items of one
-- ID are oldest first.
pub record Half : Type 0 where
  pub phase : Phase
  pub own : Option (List ℕ)
  pub peer : Option (List ℕ)
  pub dialogue_state : DialogueState
  pub out : List (ℤ × OwnInvocation)
  pub inn : List (ℤ × List Invocation)
  pub grants : List (ℤ × List Answer)

-- a half with no invocations and no answers
abbrev pub fresh : Phase → Option (List ℕ) → Option (List ℕ) → DialogueState → Half
fresh phase own peer dialogue_state =
    record { phase = phase; own = own; peer = peer; dialogue_state = dialogue_state; out = []; inn = []; grants = [] }

-- A closed half keeps only its transaction IDs.
abbrev pub closed_half : Half → Half
closed_half h = fresh phases.Closed h.own h.peer dialogue_states.Without

-- whether a phase is Closed
abbrev pub is_closed : Phase → Bool
is_closed phases.Closed = true
is_closed _ = false

-- whether a number is in a list
abbrev pub is_one_of : ℕ → List ℕ → Bool
is_one_of n [] = false
is_one_of n (first ∷ more) = cond (n == first) true (is_one_of n more)
