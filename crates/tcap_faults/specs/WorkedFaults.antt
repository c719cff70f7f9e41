-- Which entry of each end in a worked record is blamed, and which kinds does it have? tests/cases/faults.json has
-- more records, which the program judges.
use Rattle.std.specs.Prelude.{◌≡◌, ℕ, ◌+◌, List, [], ◌∷◌, ◌++◌, map, filter, ◌&&◌, cond, not, Option, Some, None, pos, true, refl}
use Rattle.std.specs.List.{find}
use Rattle.tcap_msg.specs.declared.message.Message.{Message}
use Rattle.tcap_record.specs.declared.entry.End.{End as Side}
use Rattle.tcap_record.specs.declared.entry.End.TheVariants.{A, B}
use Rattle.tcap_end.specs.Table.{Table}
use Rattle.tcap_model.specs.World.{Item, Sent, is_side}
use Rattle.tcap_model.specs.Entries.{entry_of}
use Rattle.tcap_refute.specs.declared.kind.Kind.{Kind}
use Rattle.tcap_refute.specs.declared.kind.Refutation.{Refutation}
use Rattle.tcap_refute.specs.EarlierMessages.{since_quiet}
use Rattle.tcap_refute.specs.Kind.{kind_number}
use Rattle.tcap_refute.specs.FirstKinds.{first_kinds}
use Rattle.tcap_faults.specs.Fault.{blamed, further_kinds, is_fault, is_open_at_mark}
use Rattle.tcap_faults.specs.UsedAgain.{has_used_again}
use Rattle.tcap_parts.specs.declared.code.Code.TheVariants.{Local}
use Rattle.tcap_parts.specs.declared.component.Component.TheVariants.{Invoke, ReturnResult, Reject}
use Rattle.tcap_parts.specs.declared.dialogue.Dialogue.TheVariants as dialogues
use Rattle.tcap_parts.specs.declared.problem.Problem.TheVariants as problems
use Rattle.tcap_msg.specs.declared.message.AbortReason.TheVariants as aborts
use Rattle.tcap_msg.specs.declared.message.Message.TheVariants.{Begin, Continue, End as EndMessage, Abort}
use Rattle.tcap_refute.specs.WorkedTables.{all_expire}

-- ---- what is blamed

-- The entry, the number of its lowest kind of F2 to F7, if it has one, and the numbers of its further kinds; or
-- nothing.
pub data Blaming : Type 0 where
  Blamed : ℕ → List ℕ → Blaming
  Unblamed : Blaming

abbrev lowest_number : Option Kind → List ℕ
lowest_number None = []
lowest_number (Some kind) = kind_number kind ∷ []

abbrev numbers_of : Table → Side → List Item → Message → List ℕ
numbers_of table side items m =
    lowest_number (find (is_fault table side items m) first_kinds)
    ++ map kind_number (filter (is_fault table side items m) further_kinds)

-- The numbers of an item's kinds for this end, after these items since the last mark.
abbrev numbers_since : Table → Side → List Item → Item → List ℕ
numbers_since table side items (Sent sender m) =
    cond (is_side side sender && not (has_used_again table side (items ++ Sent sender m ∷ [])))
    (numbers_of table side items m) []
numbers_since table side items Item.Quiet =
    cond (not (has_used_again table side items) && is_open_at_mark table side items) (15 ∷ []) []

abbrev first_at : ℕ → List ℕ → Blaming → Blaming
first_at n [] more = more
first_at n (k ∷ ks) more = Blamed n (k ∷ ks)

abbrev blaming_from : Table → Side → List Item → ℕ → List Item → Blaming
blaming_from table side before n [] = Unblamed
blaming_from table side before n (item ∷ items) =
    first_at n (numbers_since table side (since_quiet before) item)
    (blaming_from table side (before ++ item ∷ []) (n + 1) items)

-- `blamed` returns this entry with the lowest of these kinds, or nothing.
abbrev Names : Option Refutation → Blaming → Type 0
Names None Unblamed = Unit {0}
Names (Some r) (Blamed entry (first ∷ more)) = (r.entry ≡ entry) × (kind_number r.kind ≡ first)
Names found blaming = ⊥

abbrev IsBlamedOf : Table → List Item → Side → Blaming → Type 0
IsBlamedOf table items side blaming =
    (blaming_from table side [] 0 items ≡ blaming) × Names (blamed table side (map entry_of items)) blaming

-- `of_a` is blamed on A, and `of_b` on B.
abbrev pub IsBlamed : Table → List Item → Blaming → Blaming → Type 0
IsBlamed table items of_a of_b = IsBlamedOf table items A of_a × IsBlamedOf table items B of_b

-- ---- worked records

-- F8: A goes on with a transaction that it began, before the peer's Continue came to it.
pub wrong_half : IsBlamed all_expire
    (Sent A (Begin (1 ∷ []) None None)
    ∷ Sent B (Begin (7 ∷ []) None None)
    ∷ Sent A (Continue (1 ∷ []) (7 ∷ []) None None) ∷ [])
    (Blamed 2 (8 ∷ []))
    Unblamed
wrong_half = ((refl, (refl, refl)), (refl, tt))

-- A may do so after the peer's Continue.
pub right_half : IsBlamed all_expire
    (Sent A (Begin (1 ∷ []) None None)
    ∷ Sent B (Continue (7 ∷ []) (1 ∷ []) None None)
    ∷ Sent A (Continue (1 ∷ []) (7 ∷ []) None None) ∷ [])
    Unblamed
    Unblamed
right_half = ((refl, tt), (refl, tt))

-- F9: A does not answer a dialogue request.
pub wrong_dialogue : IsBlamed all_expire
    (Sent B (Begin (7 ∷ []) (Some (dialogues.Request (4 ∷ 0 ∷ 0 ∷ 1 ∷ 0 ∷ 19 ∷ 2 ∷ []) None)) None)
    ∷ Sent A (Continue (1 ∷ []) (7 ∷ []) None None) ∷ [])
    (Blamed 1 (9 ∷ []))
    Unblamed
wrong_dialogue = ((refl, (refl, refl)), (refl, tt))

-- F10: one invoke ID twice in a Begin.
pub invoke_id_busy : IsBlamed all_expire
    (Sent A (Begin (1 ∷ []) None
    (Some (Invoke (pos 1) None (Local (pos 45)) None ∷ Invoke (pos 1) None (Local (pos 46)) None ∷ []))) ∷ [])
    (Blamed 0 (10 ∷ []))
    Unblamed
invoke_id_busy = ((refl, (refl, refl)), (refl, tt))

-- F11: a linked ID in a Begin.
pub bad_link : IsBlamed all_expire
    (Sent A (Begin (1 ∷ []) None (Some (Invoke (pos 1) (Some (pos 1)) (Local (pos 48)) None ∷ []))) ∷ [])
    (Blamed 0 (11 ∷ []))
    Unblamed
bad_link = ((refl, (refl, refl)), (refl, tt))

-- F12: A answers one invocation twice.
pub answered_already : IsBlamed all_expire
    (Sent B (Begin (7 ∷ []) None (Some (Invoke (pos 1) None (Local (pos 45)) None ∷ [])))
    ∷ Sent A (EndMessage (7 ∷ []) None (Some (ReturnResult true (pos 1) None ∷ ReturnResult true (pos 1) None ∷ [])))
    ∷ [])
    (Blamed 1 (12 ∷ []))
    Unblamed
answered_already = ((refl, (refl, refl)), (refl, tt))

-- F13: A rejects one result twice.
pub reject_not_allowed : IsBlamed all_expire
    (Sent A (Begin (1 ∷ []) None (Some (Invoke (pos 1) None (Local (pos 45)) None ∷ [])))
    ∷ Sent B (Continue (7 ∷ []) (1 ∷ []) None (Some (ReturnResult true (pos 1) None ∷ [])))
    ∷ Sent A (Continue (1 ∷ []) (7 ∷ []) None (Some (Reject (Some (pos 1)) (problems.ReturnResult 2) ∷ [])))
    ∷ Sent A (EndMessage (7 ∷ []) None (Some (Reject (Some (pos 1)) (problems.ReturnResult 0) ∷ []))) ∷ [])
    (Blamed 3 (13 ∷ []))
    Unblamed
reject_not_allowed = ((refl, (refl, refl)), (refl, tt))

-- F14: A answers a Continue to an open half as if its transaction were unknown.
pub wrong_reply : IsBlamed all_expire
    (Sent B (Begin (7 ∷ []) None None)
    ∷ Sent A (Continue (1 ∷ []) (7 ∷ []) None None)
    ∷ Sent B (Continue (7 ∷ []) (1 ∷ []) None None)
    ∷ Sent A (Abort (7 ∷ []) (Some (aborts.Cause 1))) ∷ [])
    (Blamed 3 (14 ∷ []))
    Unblamed
wrong_reply = ((refl, (refl, refl)), (refl, tt))

-- F15: A quiet mark comes while A has an open half.
pub open_at_mark : IsBlamed all_expire
    (Sent B (Begin (7 ∷ []) None None)
    ∷ Sent A (Continue (1 ∷ []) (7 ∷ []) None None)
    ∷ Item.Quiet ∷ [])
    (Blamed 2 (15 ∷ []))
    Unblamed
open_at_mark = ((refl, (refl, refl)), (refl, tt))
