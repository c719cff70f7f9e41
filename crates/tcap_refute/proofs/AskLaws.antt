-- The kinds that the notes give are the kinds that the list gives.
use Rattle.std.proofs.Common.{◌≡◌, ℕ, Bool, true, false, cond, ◌&&◌, ◌||◌, List, [], ◌∷◌, Option, Some, None, refl, sym, ap, ◌∙◌, arith}
use Rattle.std.specs.Option.{option_or}
use Rattle.std.proofs.Math.Path.{fun_ext}
use Rattle.std.specs.List.{find, list_any}
use Rattle.tcap_msg.specs.declared.kind.Kind.TheVariants as forms
use Rattle.tcap_msg.specs.declared.message.Message.{Message}
use Rattle.tcap_msg.specs.declared.message.Message.TheVariants.{Unidirectional, Begin, Continue, End as EndMessage, Abort}
use Rattle.tcap_msg.specs.declared.message.AbortReason.TheVariants as reasons
use Rattle.tcap_msg.specs.Parts.{cause_in, dialogue_in, dtid_in, kind_in, otid_in}
use Rattle.tcap_record.specs.declared.entry.End.{End as Side}
use Rattle.tcap_end.specs.End.{is_id}
use Rattle.tcap_end.specs.Table.{Table}
use Rattle.tcap_record.specs.Ends.{other}
use Rattle.tcap_model.specs.World.{Item, Sent}
use Rattle.tcap_refute.specs.declared.kind.Kind.{Kind}
use Rattle.tcap_refute.specs.declared.kind.Kind.TheVariants as kinds
use Rattle.tcap_refute.specs.declared.sent_from_id.FromId.{FromId}
use Rattle.tcap_refute.specs.declared.notes.Notes.{Notes}
use Rattle.tcap_refute.specs.EarlierMessages.{peer_sent_from, sent_by, since_quiet}
use Rattle.tcap_refute.specs.Kind.{goes_elsewhere, is_after_end, is_misplaced_dialogue, is_reused, is_unasked, is_unknown_transaction, is_wrong_operation, lowest_kind}
use Rattle.tcap_model.specs.SinceMark.{is_begin_with_request}
use Rattle.tcap_refute.specs.FirstKinds.{first_kinds, is_of_first_kind}
use Rattle.tcap_refute.specs.FirstComponent.{first_component}
use Rattle.tcap_refute.specs.Facts.{FromFact, Spoke, Asked, WentElsewhere, From, Ended, shows_from, fact_since_mark}
use Rattle.tcap_refute.specs.KeptFacts.{AreNotesOf, kept_from, notes_at, end_fact_noted, fact_by_from}
use Rattle.tcap_refute.specs.KindsByFacts.{AreOfIds, comes_after_end, component_by, dialogue_is_misplaced, id_is_reused, kind_by, fact_ended, fact_from, transaction_is_unknown, was_not_asked}
use Rattle.tcap_refute.proofs.TestLaws.{and_false}
use Rattle.tcap_refute.proofs.ToldLaws.{answering, component_told, from_id, nothing_of, same_any, there, told_is, told_of, wrong}

-- ---- F2

-- A message with this originating ID is a Begin or a Continue.
spoke : (table : Table) (id : List ℕ) (m : Message) → is_id id (otid_in m) ≡ true → shows_from table Spoke m ≡ true
spoke table id m is = grind (arith, is)

-- If there is a message from the ID, `Spoke` holds.
spoke_where : (table : Table) (id : List ℕ) (xs : List Message) (m : Message) (ms : List Message)
    → from_id id xs ≡ m ∷ ms → told_of table (m ∷ ms) Spoke ≡ true
spoke_where table id [] m ms is = cc
spoke_where table id (x ∷ xs) m ms is = grind (arith, is, spoke_where table id xs m ms)

not_asked : (table : Table) (id : List ℕ) (xs : List Message) (cause : Option ℕ)
    → was_not_asked (told_of table (from_id id xs)) cause ≡ is_unasked cause (from_id id xs)
not_asked table id xs cause = by (from_id id xs) refl cause
  where
    by : (ms : List Message) → from_id id xs ≡ ms → (cause : Option ℕ)
        → was_not_asked (told_of table ms) cause ≡ is_unasked cause ms
    by [] is None = refl
    by [] is (Some cause) = refl
    by (m ∷ ms) is None = rw (spoke_where table id xs m ms is) refl
    by (m ∷ ms) is (Some cause) = rw (spoke_where table id xs m ms is) refl

unasked : (table : Table) (items : List Item) (side : Side) (dtid : List ℕ) (cause : Option ℕ)
    → was_not_asked (fact_from (fact_since_mark table items (other side)) (Some dtid)) cause
    ≡ is_unasked cause (peer_sent_from side dtid (since_quiet items))
unasked table items side dtid cause =
    ap (λ told. was_not_asked told cause) (told_is table items (other side) dtid)
    ∙ not_asked table dtid (sent_by (other side) (since_quiet items)) cause

transaction : (table : Table) (items : List Item) (side : Side) (m : Message)
    → transaction_is_unknown (fact_from (fact_since_mark table items (other side)) (dtid_in m)) m
    ≡ is_unknown_transaction side (since_quiet items) m
transaction table items side (Continue otid dtid dialogue components) = unasked table items side dtid None
transaction table items side (EndMessage dtid dialogue components) = unasked table items side dtid None
transaction table items side (Abort dtid reason) = unasked table items side dtid (cause_in (Abort dtid reason))
transaction table items side m = refl

-- ---- F3

begin_reused : (table : Table) (id : List ℕ) (m : Message)
    → (is_id id (otid_in m) && shows_from table Spoke m) ≡ is_id id (otid_in m)
begin_reused table id m = grind arith

continue_reused : (table : Table) (id dtid : List ℕ) (m : Message)
    → (is_id id (otid_in m) && shows_from table (WentElsewhere dtid) m) ≡ goes_elsewhere id dtid m
continue_reused table id dtid m = grind arith

reused : (table : Table) (items : List Item) (side : Side) (m : Message)
    → id_is_reused (fact_from (fact_since_mark table items side) (otid_in m)) (dtid_in m) (kind_in m)
    ≡ is_reused side (since_quiet items) m
reused table items side (Begin otid dialogue components) =
    same_any _ _ (sent_by side (since_quiet items)) (begin_reused table otid)
reused table items side (Continue otid dtid dialogue components) =
    same_any _ _ (sent_by side (since_quiet items)) (continue_reused table otid dtid)
reused table items side m = refl

-- ---- F4

after_end : (table : Table) (items : List Item) (side : Side) (m : Message)
    → comes_after_end (fact_ended (fact_since_mark table items side) (dtid_in m)) (cause_in m)
    ≡ is_after_end side (since_quiet items) m
after_end table items side m = grind arith

-- ---- F7

module _ (table : Table) (items : List Item) (side : Side) where
  asks : (m : Message) → shows_from table Asked m ≡ is_begin_with_request m
  asks m = grind arith

  asked_there : (dtid : List ℕ) → fact_from (fact_since_mark table items (other side)) (Some dtid) Asked
      ≡ list_any is_begin_with_request (peer_sent_from side dtid (since_quiet items))
  asked_there dtid =
      ap (λ told. told Asked) (told_is table items (other side) dtid)
      ∙ same_any _ _ (peer_sent_from side dtid (since_quiet items)) asks

  misplaced : (m : Message)
      → dialogue_is_misplaced (there table items side m Asked) (kind_in m) (dialogue_in m)
      ≡ is_misplaced_dialogue side (since_quiet items) m
  misplaced (Continue otid dtid dialogue components) =
      ap (λ b. dialogue_is_misplaced b forms.Continue dialogue) (asked_there dtid)
  misplaced (EndMessage dtid dialogue components) =
      ap (λ b. dialogue_is_misplaced b forms.End dialogue) (asked_there dtid)
  misplaced (Abort dtid reason) =
      ap (λ b. dialogue_is_misplaced b forms.Abort (dialogue_in (Abort dtid reason))) (asked_there dtid)
  misplaced m = refl

-- ---- the lowest kind

chained : {A : Type 0} (a b c : Bool) (x y z : A) (rest : Option A)
    → option_or (cond a (Some x) (cond b (Some y) (cond c (Some z) None))) rest
    ≡ cond a (Some x) (cond b (Some y) (cond c (Some z) rest))
chained a b c x y z rest = grind arith

-- The lowest kind by the list, for one end or for both.
abbrev kind_found : Bool → Table → List Item → Side → Message → Option Kind
kind_found false table items side m = lowest_kind table items (Sent side m)
kind_found true table items side m = find (is_of_first_kind table side (since_quiet items) m) first_kinds

-- The lowest kind by the list, of F2 to F7 in order.
abbrev kind_chosen : Bool → Table → List Item → Side → Message → Option Kind
kind_chosen of_one table items side m =
    cond (is_unknown_transaction side (since_quiet items) m) (Some kinds.UnknownTransaction)
    (cond (is_reused side (since_quiet items) m) (Some kinds.ReusedId)
    (cond (is_after_end side (since_quiet items) m) (Some kinds.AfterEnd)
    (cond (nothing_of of_one side (since_quiet items) m) (Some kinds.AnswersNothing)
    (cond (is_wrong_operation table side (since_quiet items) m) (Some kinds.WrongOperation)
    (cond (is_misplaced_dialogue side (since_quiet items) m) (Some kinds.MisplacedDialogue) None)))))

found : (of_one : Bool) (table : Table) (items : List Item) (side : Side) (m : Message)
    → kind_chosen of_one table items side m ≡ kind_found of_one table items side m
found of_one table items side m = grind arith

-- The kind from the facts in the list is the lowest kind.
kind_by_list : (of_one : Bool) (table : Table) (items : List Item) (side : Side) (m : Message)
    → kind_by of_one table (fact_from (fact_since_mark table items side) (otid_in m)) (there table items side m)
    (fact_ended (fact_since_mark table items side) (dtid_in m)) m
    ≡ kind_found of_one table items side m
kind_by_list of_one table items side m =
    chained (transaction_is_unknown (there table items side m) m)
    (id_is_reused (fact_from (fact_since_mark table items side) (otid_in m)) (dtid_in m) (kind_in m))
    (comes_after_end (fact_ended (fact_since_mark table items side) (dtid_in m)) (cause_in m))
    kinds.UnknownTransaction kinds.ReusedId kinds.AfterEnd _
    ∙ rw (
      transaction table items side m,
      reused table items side m,
      after_end table items side m,
      answering table items side m of_one,
      wrong table items side m of_one,
      misplaced table items side m,
    ) refl
    ∙ found of_one table items side m

-- The kind from what is kept of the message's IDs is the lowest kind.
pub kind_kept : (of_one : Bool) (table : Table) (items : List Item) (side : Side) (m : Message) (own there : Option FromId)
    (ended : Bool) → AreOfIds table items side m own there ended
    → kind_by of_one table (fact_by_from own) (fact_by_from there) ended m ≡ kind_found of_one table items side m
kind_kept of_one table items side m own there ended are =
    ap (λ told. kind_by of_one table told (fact_by_from there) ended m) (fun_ext are.from_own)
    ∙ ap (λ told. kind_by of_one table (fact_from (fact_since_mark table items side) (otid_in m)) told ended m)
    (fun_ext are.from_peers)
    ∙ ap (λ b. kind_by of_one table (fact_from (fact_since_mark table items side) (otid_in m))
    (fact_from (fact_since_mark table items (other side)) (dtid_in m)) b m) are.has_ended
    ∙ kind_by_list of_one table items side m

-- The component from what is kept is the component that the definitions give.
pub component_kept : (of_one : Bool) (table : Table) (items : List Item) (side : Side) (m : Message) (kind : Kind)
    (there : Option FromId)
    → ((fact : FromFact) → fact_by_from there fact ≡ fact_from (fact_since_mark table items (other side)) (dtid_in m) fact)
    → component_by of_one table (fact_by_from there) m kind
    ≡ first_component of_one table side (since_quiet items) m kind
component_kept of_one table items side m kind there told =
    ap (λ told. component_by of_one table told m kind) (fun_ext told) ∙ component_told table items side of_one m kind

-- ---- the notes on items agree with the items

module _ (table : Table) (items : List Item) (notes : Notes) (are : AreNotesOf table items notes) (side : Side) where
  noted_from : (id : Option (List ℕ)) (fact : FromFact)
      → fact_by_from (kept_from id (notes_at side notes)) fact ≡ fact_from (fact_since_mark table items side) id fact
  noted_from None fact = refl
  noted_from (Some id) fact = are.facts side (From id fact)

  noted_ended : (id : Option (List ℕ))
      → fact_ended (λ fact. end_fact_noted fact (notes_at side notes)) id ≡ fact_ended (fact_since_mark table items side) id
  noted_ended None = refl
  noted_ended (Some id) = are.facts side (Ended id)

pub noted_of_ids : (table : Table) (items : List Item) (notes : Notes) → AreNotesOf table items notes → (side : Side)
    (m : Message) (own there : Option FromId) (ended : Bool) → own ≡ kept_from (otid_in m) (notes_at side notes)
    → there ≡ kept_from (dtid_in m) (notes_at (other side) notes)
    → ended ≡ fact_ended (λ fact. end_fact_noted fact (notes_at side notes)) (dtid_in m)
    → AreOfIds table items side m own there ended
noted_of_ids table items notes are side m own there ended is_own is_there is_ended = record {
  from_own = λ fact. ap (λ kept. fact_by_from kept fact) is_own ∙ noted_from table items notes are side (otid_in m) fact;
  from_peers = λ fact. ap (λ kept. fact_by_from kept fact) is_there
      ∙ noted_from table items notes are (other side) (dtid_in m) fact;
  has_ended = is_ended ∙ noted_ended table items notes are side (dtid_in m);
}
