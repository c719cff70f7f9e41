-- What a sweep over gaps and entries keeps: for each transaction, end and invoke ID, the last Invoke so far and the
-- last answers delivered.
use Rattle.std.specs.Prelude.{ℕ, ℤ, Bool, true, false, List, [], ◌∷◌, slice_get, Option, Some, None, ◌&&◌, cond, option_map}
use Rattle.std.specs.Option.{option_or}
use Rattle.std.specs.List.{list_any}
use Rattle.tcap_parts.specs.declared.component.Component.{Component}
use Rattle.tcap_msg.specs.declared.message.Message.{Message}
use Rattle.tcap_msg.specs.Parts.{components_in}
use Rattle.tcap_record.specs.declared.entry.End.{End as Side}
use Rattle.tcap_record.specs.declared.entry.Entry.{Entry}
use Rattle.tcap_record.specs.Ends.{other}
use Rattle.tcap_model.specs.Run.{only_if}
use Rattle.tcap_search.specs.declared.sweep.Answer.{Answer}
use Rattle.tcap_search.specs.declared.sweep.Sweep.{Sweep}
use Rattle.tcap_search.specs.SegmentEntries.{Line, message_of}
use Rattle.tcap_search.specs.ProposedCertificate.{invocation_at, is_answer_of, last_invoke, may_invoke}
use Rattle.tcap_search.specs.InvocationMap.{kept_at}
use Rattle.tcap_search.specs.Fates.{is_line_of, is_of}

-- the last value that `f` gives for the elements of a list
abbrev pub last_given : {A B : Type 0} → (A → Option B) → List A → Option B
last_given f [] = None
last_given f (x ∷ more) = option_or (last_given f more) (f x)

-- the components of a message, or none if there is no message
abbrev pub message_components : Option Message → List Component
message_components None = []
message_components (Some message) = components_in message

-- the components of an entry; none if it is no message
abbrev pub components_of : Entry → List Component
components_of e = message_components (message_of e)

-- ---- invocations

-- the last Invoke of the ID in an entry: the entry's number, and the place of the Invoke
abbrev pub invoked_by : ℕ → Entry → ℤ → Option (ℕ × ℕ)
invoked_by number e id = cond (may_invoke (message_of e))
    (option_map (λ place. (number, place)) (last_invoke id 0 (components_of e))) None

-- the last Invoke of the ID in those of these lines that are from this end and in this transaction
abbrev pub invoked_in : List Line → ℕ → Side → ℤ → Option (ℕ × ℕ)
invoked_in lines transaction side id =
    last_given (λ y. only_if (is_line_of side transaction y) (invocation_at id y)) lines

-- ---- answers

-- the last answer to an invoke ID of this end in this transaction: a Return Result (if true), or a Return Error
abbrev pub answer_kept : Bool → ℕ → Side → ℤ → Sweep → Option Answer
answer_kept true transaction side id sweep = kept_at transaction side id sweep.results
answer_kept false transaction side id sweep = kept_at transaction side id sweep.errors

-- an answer delivered in this gap, with the last Invoke of its ID before
abbrev pub answer_at : ℕ → Option (ℕ × ℕ) → Answer
answer_at gap invoked = record { gap = gap; invoked = invoked }

-- whether an entry has such an answer to this end in this transaction
abbrev pub answers : Bool → ℕ → Side → ℤ → Entry → Option ℕ → Bool
answers is_result transaction side id e o =
    is_of (other side) transaction e o && list_any (is_answer_of is_result id) (components_of e)

-- whether this entry, in this transaction, has such an answer
abbrev pub answers_in : Bool → ℕ → Side → ℤ → Option Entry → Option (Option ℕ) → Bool
answers_in is_result transaction side id (Some e) (Some o) = answers is_result transaction side id e o
answers_in is_result transaction side id _ _ = false

-- whether the entry with this number has such an answer
abbrev pub answers_at : List Entry → List (Option ℕ) → Bool → ℕ → Side → ℤ → ℕ → Bool
answers_at entries transactions is_result transaction side id number =
    answers_in is_result transaction side id (slice_get entries number) (slice_get transactions number)

-- the answer that a component rejects as unrecognized, if one was delivered
abbrev pub answer_rejected : Sweep → ℕ → Side → Option (Bool × ℤ) → Option Answer
answer_rejected sweep transaction side None = None
answer_rejected sweep transaction side (Some (is_result, id)) = answer_kept is_result transaction side id sweep
