-- Which entries an Abort may still answer: the numbers of untied entries, newest first, by end, originating ID and
-- cause.
use Rattle.std.specs.Prelude.{◌≡◌, ℕ, Bool, false, List, [], ◌∷◌, map, filter, reverse, Option, Some, None, Vec, ◌==◌, ◌&&◌, not, cond}
use Rattle.std.specs.Str.{bytes_eq}
use Rattle.std.specs.Map.{lookup}
use Rattle.std.specs.BTreeMap.{is_at}
use Rattle.tcap_msg.specs.declared.message.AbortReason.TheVariants.{Cause}
use Rattle.tcap_msg.specs.declared.message.Message.{Message}
use Rattle.tcap_msg.specs.declared.message.Message.TheVariants.{Abort}
use Rattle.tcap_record.specs.declared.entry.End.{End as Side}
use Rattle.tcap_record.specs.declared.entry.End.TheVariants as sides
use Rattle.tcap_record.specs.declared.entry.Entry.{Entry}
use Rattle.tcap_end.specs.Table.{octets_cmp}
use Rattle.tcap_record.specs.Ends.{other, is_entry_of}
use Rattle.tcap_search.specs.declared.stacks.Stacks.{Stacks}
use Rattle.tcap_search.specs.declared.candidates.Candidates.{Candidates}
use Rattle.tcap_search.specs.declared.tie.Tie.{Tie}
use Rattle.tcap_search.specs.SegmentEntries.{Line, is_from, message_of}
use Rattle.tcap_search.specs.ProposedCertificate.{is_answered_by, is_tied}

-- ---- stacks

-- the numbers of a stack from its top, which is the end of the list
abbrev pub numbers_of : {A : Type 0} → Option (Vec ℕ A) → List ℕ
numbers_of None = []
numbers_of (Some list) = reverse list.items

-- the stack of an ID
abbrev pub stack_in : {A : Type 0} → List ℕ → List (List ℕ × Vec ℕ A) → List ℕ
stack_in id stacks = numbers_of (lookup (is_at (octets_cmp id)) stacks)

-- the stack of an ID of an end
abbrev pub stack_at : Side → List ℕ → Stacks → List ℕ
stack_at sides.A id s = stack_in id s.a.entries
stack_at sides.B id s = stack_in id s.b.entries

-- the top of a stack
abbrev pub top : List ℕ → Option ℕ
top [] = None
top (number ∷ numbers) = Some number

-- the stack without its top
abbrev pub under_top : List ℕ → List ℕ
under_top [] = []
under_top (number ∷ numbers) = numbers

-- whether this number is on top
abbrev pub is_top : ℕ → List ℕ → Bool
is_top number [] = false
is_top number (first ∷ numbers) = first == number

-- the stack without this number, if it is on top
abbrev pub without : ℕ → List ℕ → List ℕ
without number numbers = cond (is_top number numbers) (under_top numbers) numbers

-- ---- candidates

-- the candidates from this end and ID for an Abort with this cause
abbrev pub candidates_at : Side → List ℕ → ℕ → Candidates → List ℕ
candidates_at side id cause c =
    cond (cause == 1) (stack_at side id c.continues) (cond (cause == 4) (stack_at side id c.begins) [])

-- whether an entry is from this end and ID, and answered with this cause
abbrev pub is_candidate : Side → List ℕ → ℕ → Entry → Bool
is_candidate side id cause e = is_entry_of side e.side && is_from id e && is_answered_by cause (message_of e)

-- whether an entry is an Abort with this cause to this end and ID
abbrev pub asks_by : Side → List ℕ → ℕ → Option Side → Option Message → Bool
asks_by side id cause sender (Some (Abort dtid (Some (Cause given)))) =
    is_entry_of (other side) sender && bytes_eq id dtid && (cause == given)
asks_by side id cause sender _ = false

-- whether an entry is an Abort with this cause to this end and ID
abbrev pub asks : Side → List ℕ → ℕ → Entry → Bool
asks side id cause e = asks_by side id cause e.side (message_of e)

-- the newest candidate for an Abort from this end, to this ID, with this cause
abbrev pub newest_of : Candidates → Option Side → List ℕ → ℕ → Option ℕ
newest_of c None id cause = None
newest_of c (Some side) id cause = top (candidates_at (other side) id cause c)

-- the newest candidate that an Abort may answer
abbrev pub answered_by : Candidates → Option Side → Option Message → Option ℕ
answered_by c side (Some (Abort dtid (Some (Cause given)))) = newest_of c side dtid given
answered_by c side _ = None

-- the newest candidate that an entry, if it is an Abort, may answer
abbrev pub answered_of : Candidates → Entry → Option ℕ
answered_of c e = answered_by c e.side (message_of e)

-- the numbers of the untied candidates among these lines
abbrev pub untied : Side → List ℕ → ℕ → List Tie → List Line → List ℕ
untied side id cause ties lines =
    map (λ x. x.number) (filter (λ x. is_candidate side id cause x.entry && not (is_tied ties x)) lines)

-- The candidates kept are those of these lines, which are in newest-first order.
abbrev pub AreUntied : List Tie → List Line → Candidates → Type 0
AreUntied ties lines c =
    (side : Side) (id : List ℕ) (cause : ℕ) → candidates_at side id cause c ≡ untied side id cause ties lines
