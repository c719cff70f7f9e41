-- Test vectors: the invocations on whose operations and links a fault depends.
use Rattle.std.specs.Prelude.{◌≡◌, ℕ, ℤ, pos, true, List, [], ◌∷◌, map, Option, Some, None, refl}
use Rattle.tcap_parts.specs.declared.code.Code.TheVariants.{Local}
use Rattle.tcap_parts.specs.declared.component.Component.{Component}
use Rattle.tcap_parts.specs.declared.component.Component.TheVariants.{Invoke, Reject}
use Rattle.tcap_parts.specs.declared.problem.Problem.TheVariants as problems
use Rattle.tcap_record.specs.declared.entry.End.{End as Side}
use Rattle.tcap_record.specs.declared.entry.End.TheVariants.{A, B}
use Rattle.tcap_end.specs.Table.{Table}
use Rattle.tcap_model.specs.World.{Item, Sent}
use Rattle.tcap_model.specs.Entries.{entry_of}
use Rattle.tcap_model.specs.WorkedItems.{answer, begin, end_to, further, invoke, lasting, rejects_result, result, table}
use Rattle.tcap_refute.specs.declared.kind.Kind.{Kind}
use Rattle.tcap_refute.specs.declared.kind.Kind.TheVariants as kinds
use Rattle.tcap_evidence.specs.declared.operations.Invocation.{Invocation}
use Rattle.tcap_evidence.specs.Operations.{invocations_at}

-- the invocations for an entry that is blamed on that end for that kind
abbrev found : Table → List Item → Side → ℕ → Kind → List Invocation
found given items side entry kind =
    invocations_at true given side (map entry_of items) (record { entry = entry; kind = kind })

-- an invocation in that entry, with its operation and linked ID
abbrev invoked : ℕ → ℕ → Option ℤ → Invocation
invoked entry code linked = record { entry = entry; code = Local (pos code); linked = linked }

abbrev begins : List Component → Item
begins cs = Sent A (begin None (Some cs))

abbrev answers : List Component → Item
answers cs = Sent B (answer None (Some cs))

abbrev ends : List Component → Item
ends cs = Sent B (end_to 1 (Some cs))

-- an Invoke with ID 2 of operation 48, linked to that ID; and below it a Reject of this Invoke with that problem
abbrev linked_to : ℕ → Component
linked_to id = Invoke (pos 2) (Some (pos id)) (Local (pos 48)) None

abbrev rejects_link : ℕ → Component
rejects_link problem = Reject (Some (pos 2)) (problems.Invoke problem)

-- F6: operations of class 2 and 4 allow no Return Result. Invokes of another ID do not count.
pub of_an_answer : found table
    (begins (invoke 46 ∷ linked_to 7 ∷ []) ∷ Sent B (answer None None) ∷ Sent A (further (invoke 48))
    ∷ ends (result ∷ []) ∷ [])
    B 3 kinds.WrongOperation ≡ invoked 0 46 None ∷ invoked 2 48 None ∷ []
of_an_answer = refl

-- F6 of an Invoke: the table does not have the operation, so no earlier Invoke counts
pub of_an_invoke : found table (begins (invoke 46 ∷ []) ∷ answers (invoke 49 ∷ []) ∷ []) B 1 kinds.WrongOperation ≡ []
of_an_invoke = refl

-- F10: the first invocation of the ID has not ended
pub in_use : found lasting (begins (invoke 45 ∷ []) ∷ Sent B (answer None None) ∷ Sent A (further (invoke 45)) ∷ []) A 2
    kinds.InvokeIdBusy
    ≡ invoked 0 45 None ∷ []
in_use = refl

-- F11: operation 48 may not be linked to 45, and no invocation has the ID 7
pub of_a_link : (found table (begins (invoke 45 ∷ []) ∷ answers (linked_to 1 ∷ []) ∷ []) B 1 kinds.BadLink
    ≡ invoked 0 45 None ∷ [])
    × (found table (begins (invoke 45 ∷ []) ∷ answers (linked_to 7 ∷ []) ∷ []) B 1 kinds.BadLink ≡ [])
of_a_link = (refl, refl)

-- F12: one invocation is answered twice
pub answered : found table (begins (invoke 45 ∷ []) ∷ ends (result ∷ result ∷ []) ∷ []) B 1 kinds.AnsweredAlready
    ≡ invoked 0 45 None ∷ []
answered = refl

-- F12: A sends a Continue before its Begin, but the half hears the Begin first; the invocations are in the order of
-- the entries
pub in_order : found table
    (Sent A (further (invoke 46)) ∷ begins (invoke 45 ∷ []) ∷ answers [] ∷ ends (result ∷ result ∷ result ∷ []) ∷ [])
    B 3 kinds.AnsweredAlready ≡ invoked 0 46 None ∷ invoked 1 45 None ∷ []
in_order = refl

-- F13: two Rejects of one link; and two Rejects of one Return Result, with the own invocation that it answers
pub rejected : (found table
    (begins (invoke 50 ∷ []) ∷ answers (linked_to 1 ∷ []) ∷ Sent A (further (rejects_link 5))
    ∷ Sent A (further (rejects_link 7)) ∷ [])
    A 3 kinds.RejectNotAllowed ≡ invoked 1 48 (Some (pos 1)) ∷ [])
    × (found table
    (begins (invoke 45 ∷ []) ∷ answers (result ∷ []) ∷ Sent A (further (rejects_result 1))
    ∷ Sent A (further (rejects_result 2)) ∷ [])
    A 3 kinds.RejectNotAllowed ≡ invoked 0 45 None ∷ [])
rejected = (refl, refl)

-- another kind and a quiet mark have no invocations
pub of_none : (found table (begins (invoke 45 ∷ []) ∷ ends [] ∷ ends [] ∷ []) B 2 kinds.AfterEnd ≡ [])
    × (found table (begins (invoke 45 ∷ []) ∷ answers [] ∷ Item.Quiet ∷ []) B 2 kinds.OpenAtMark ≡ [])
of_none = (refl, refl)
