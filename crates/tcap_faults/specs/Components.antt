-- What comes before a component of a message, which problems concern a link, and what does a linked Invoke name
-- (Q.773 4.2.2)?
use Rattle.std.specs.Prelude.{ℕ, ℤ, Bool, true, false, List, [], ◌∷◌, ◌++◌, Some, ◌==◌, ◌&&◌, ◌||◌, nat_le}
use Rattle.std.specs.List.{list_any}
use Rattle.tcap_parts.specs.declared.code.Code.{Code}
use Rattle.tcap_parts.specs.declared.component.Component.{Component}
use Rattle.tcap_parts.specs.declared.component.Component.TheVariants.{Invoke}
use Rattle.tcap_end.specs.Table.{Table, linked_of}
use Rattle.tcap_refute.specs.EarlierMessages.{invokes, is_invoke_id}
use Rattle.tcap_faults.specs.Counts.{invokes_where, is_nothing}

-- ---- a message

-- Whether a component passes a test. The test gets the components before it in the message, and all that were sent
-- before it.
abbrev pub has_component : (List Component → List Component → Component → Bool) → List Component → List Component
    → List Component → Bool
has_component is_so own before [] = false
has_component is_so own before (c ∷ more) =
    is_so own before c || has_component is_so (own ++ c ∷ []) (before ++ c ∷ []) more

-- A linked Invoke.
abbrev pub is_linked : Component → Bool
is_linked (Invoke id (Some linked) code parameter) = true
is_linked _ = false

-- An Invoke with the ID of an Invoke before it in the message.
abbrev pub invokes_again : List Component → List Component → Component → Bool
invokes_again own before (Invoke id linked code parameter) = list_any (invokes id) own
invokes_again own before _ = false

-- ---- links

abbrev pub is_problem : ℕ → ℕ → Bool
is_problem problem n = n == problem

-- The problems that concern a link: unrecognizedLinkedID (5), linkedResponseUnexpected (6), unexpectedLinkedOperation
-- (7).
abbrev pub is_of_link : ℕ → Bool
is_of_link n = nat_le 5 n && nat_le n 7

-- A linked Invoke with this ID whose linked ID is that of an own invocation. The operations of the invocation and of
-- the Invoke pass a test.
abbrev pub is_linked_to : (Code → Code → Bool) → List Component → ℤ → Component → Bool
is_linked_to passes invoked id (Invoke other (Some linked) code parameter) =
    is_invoke_id id other && list_any (invokes_where linked (λ to. passes to code)) invoked
is_linked_to passes invoked id _ = false

-- Whether an operation lists no linked operations.
abbrev pub lists_nothing : Table → Code → Bool
lists_nothing table to = is_nothing (linked_of table to)
