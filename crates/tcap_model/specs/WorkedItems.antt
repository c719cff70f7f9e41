-- Example lists of messages that two ends may have sent, with their operation table.
use Rattle.std.specs.Prelude.{ℕ, pos, Bool, true, false, List, [], ◌∷◌, Option, Some, None}
use Rattle.tcap_parts.specs.declared.code.Code.TheVariants.{Local}
use Rattle.tcap_parts.specs.declared.problem.Problem.TheVariants as problems
use Rattle.tcap_parts.specs.declared.component.Component.{Component}
use Rattle.tcap_parts.specs.declared.component.Component.TheVariants.{Invoke, ReturnResult, Reject}
use Rattle.tcap_parts.specs.declared.dialogue.Dialogue.{Dialogue}
use Rattle.tcap_parts.specs.declared.dialogue.Dialogue.TheVariants.{Request, Response}
use Rattle.tcap_parts.specs.declared.dialogue.Source.TheVariants.{User}
use Rattle.tcap_msg.specs.declared.message.Message.{Message}
use Rattle.tcap_msg.specs.declared.message.Message.TheVariants.{Begin, Continue, End as EndMessage}
use Rattle.tcap_record.specs.declared.entry.End.TheVariants.{A, B}
use Rattle.tcap_end.specs.Table.{Table, Operation}
use Rattle.tcap_model.specs.World.{Item, Sent}
use Rattle.tcap_model.specs.Run.{provider_abort}

-- ---- the operation table, and messages

-- an operation of this class without linked operations
abbrev operation : ℕ → Bool → Operation
operation class expires = record { class = class; linked = []; expires = expires }

-- operations 45 (class 1), 46 (class 2), 47 (class 3), 48 (class 4) and 50 (class 1, with 48 as a linked operation);
-- the parameter says whether invocations of 45 expire
abbrev table_with : Bool → Table
table_with expires = record {
  operations =
      (Local (pos 45), operation 1 expires) ∷ (Local (pos 46), operation 2 true) ∷ (Local (pos 47), operation 3 true)
      ∷ (Local (pos 48), operation 4 true)
      ∷ (Local (pos 50), record (operation 1 true) { linked = (Local (pos 48), tt) ∷ [] }) ∷ [];
  prearranged = false;
}

-- a table in which invocations of 45 expire
abbrev pub table : Table
table = table_with true

-- a table in which invocations of 45 do not expire during the record
abbrev pub lasting : Table
lasting = table_with false

-- a table with prearranged end, otherwise like `table`
abbrev pub prearranged : Table
prearranged = record table { prearranged = true }

-- a transaction ID of one octet
abbrev pub id : ℕ → List ℕ
id octet = octet ∷ []

-- an Invoke with invoke ID 1 of this operation
abbrev pub invoke : ℕ → Component
invoke code = Invoke (pos 1) None (Local (pos code)) None

-- a Return Result Last with invoke ID 1
abbrev pub result : Component
result = ReturnResult true (pos 1) None

-- a Reject of the Return Result with invoke ID 1, with this problem
abbrev pub rejects_result : ℕ → Component
rejects_result problem = Reject (Some (pos 1)) (problems.ReturnResult problem)

-- the application context of the worked dialogues
abbrev context : List ℕ
context = 4 ∷ 0 ∷ 0 ∷ 1 ∷ 0 ∷ 19 ∷ 2 ∷ []

-- A's Begin from ID 01
abbrev pub begin : Option Dialogue → Option (List Component) → Message
begin dialogue components = Begin (id 1) dialogue components

-- B's Continue from ID 02 to ID 01
abbrev pub answer : Option Dialogue → Option (List Component) → Message
answer dialogue components = Continue (id 2) (id 1) dialogue components

-- A's Continue from ID 01 to ID 02
abbrev pub further : Component → Message
further component = Continue (id 1) (id 2) None (Some (component ∷ []))

-- an End to this transaction ID
abbrev pub end_to : ℕ → Option (List Component) → Message
end_to octet components = EndMessage (id octet) None components

-- a dialogue request (AARQ)
abbrev pub request : Option Dialogue
request = Some (Request context None)

-- a dialogue response (AARE) that accepts the dialogue
abbrev pub accepting : Option Dialogue
accepting = Some (Response context 0 (User 0) None)

-- ---- lists of items

-- a dialogue: a Begin requests it, a Continue accepts it, an End ends it
abbrev pub dialogue_items : List Item
dialogue_items = Sent A (begin request (Some (invoke 45 ∷ []))) ∷ Sent B (answer accepting (Some (result ∷ [])))
    ∷ Sent A (end_to 2 None) ∷ []

-- A's End and B's Continue cross, and A's provider answers the Continue with an Abort of cause 1
abbrev pub crossing_items : List Item
crossing_items =
    Sent A (begin None None) ∷ Sent B (answer None None) ∷ Sent A (end_to 2 None) ∷ Sent B (answer None None)
    ∷ Sent A (provider_abort (id 2) 1) ∷ []

-- after a quiet mark, A uses its transaction ID 01 again
abbrev pub over_a_mark_items : List Item
over_a_mark_items = Sent A (begin None (Some (invoke 45 ∷ []))) ∷ Sent B (end_to 1 (Some (result ∷ []))) ∷ Item.Quiet
    ∷ Sent A (begin None (Some (invoke 45 ∷ []))) ∷ Sent B (end_to 1 (Some (result ∷ []))) ∷ []
