-- Which own invocations a half has. Empty places of the stored list do not count.
use Rattle.std.specs.Prelude.{ℕ, suc, ℤ, List, [], ◌∷◌, Option, Some, None, IsSome, Result, Ok, Err}
use Rattle.std.specs.Ordering.{int_cmp, match_ordering}
use Rattle.std.specs.Map.{lookup, remove_entry}
use Rattle.std.specs.BTreeMap.{insert_entry, is_at}
use Rattle.tcap_end.specs.declared.half.InvocationState.{InvocationState}
use Rattle.tcap_end.specs.declared.own_invocations.OwnInvocation.{OwnInvocation}
use Rattle.tcap_end.specs.declared.own_invocations.Outs.{Outs}
use Rattle.tcap_lists.specs.Lists.{keep}

-- the own invocations of the filled places
abbrev pub kept_outs : Outs → List (ℤ × OwnInvocation)
kept_outs o = keep (λ place. place) o.places.items

-- an index one higher, found or not
abbrev pub one_on : Result ℕ ℕ → Result ℕ ℕ
one_on (Ok at) = Ok (suc at)
one_on (Err at) = Err (suc at)

-- the index of an ID in a sorted list, or as an error the index at which it would be inserted
abbrev pub found_at : {A : Type 0} → ℤ → List (ℤ × A) → Result ℕ ℕ
found_at id [] = Err 0
found_at id (place ∷ places) = match_ordering (int_cmp id place.0) (Err 0) (Ok 0) (one_on (found_at id places))

-- There is a place for this ID, filled or empty.
abbrev pub HasPlace : ℤ → Outs → Type 0
HasPlace id o = IsSome (lookup (is_at (int_cmp id)) o.places.items)

-- the list with this invocation, or none, under an ID
abbrev pub with_out : ℤ → Option OwnInvocation → List (ℤ × OwnInvocation) → List (ℤ × OwnInvocation)
with_out id None outs = remove_entry (is_at (int_cmp id)) outs
with_out id (Some own) outs = insert_entry int_cmp outs id own

-- the invocation, if there is one, in that state
abbrev pub in_state : InvocationState → Option OwnInvocation → Option OwnInvocation
in_state state None = None
in_state state (Some own) = Some (record own { state = state })

-- the list with the invocation under an ID moved to this state
abbrev pub with_state : ℤ → InvocationState → List (ℤ × OwnInvocation) → List (ℤ × OwnInvocation)
with_state id state outs = with_out id (in_state state (lookup (is_at (int_cmp id)) outs)) outs
