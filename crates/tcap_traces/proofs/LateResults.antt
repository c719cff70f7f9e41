-- An unreadable entry after all entries of a dialogue changes no result for an end.
use Rattle.std.proofs.Common.{arith, ◌≡◌, ◌⊎◌, inl, inr, ℕ, ◌+◌, ◌<◌, ◌≤◌, Bool, false, cond, List, [], ◌∷◌, ◌++◌, length, map, Option, Some, None, refl, sym, ap, ◌∙◌}
use Rattle.std.specs.Prelude.{nat_le, nat_lt, not, ◌&&◌, take, Result, Ok, Err, slice_get, option_map}
use Rattle.std.proofs.lemmas.List.{length-append, length-map, length-take}
use Rattle.std.proofs.lemmas.Bool.{lt-leb}
use Rattle.tcap_record.specs.declared.entry.End.{End as Side}
use Rattle.tcap_record.specs.declared.entry.End.TheVariants as sides
use Rattle.tcap_record.specs.declared.entry.Entry.{Entry}
use Rattle.tcap_end.specs.Table.{Table}
use Rattle.tcap_model.specs.World.{Item}
use Rattle.tcap_model.specs.Entries.{item_of}
use Rattle.tcap_model.specs.declared.reason.Reason.{Reason}
use Rattle.tcap_refute.specs.declared.kind.Kind.{Kind}
use Rattle.tcap_refute.specs.declared.kind.Refutation.{Refutation}
use Rattle.std.specs.Option.{option_or}
use Rattle.tcap_refute.specs.Kind.{refutation_at}
use Rattle.tcap_refute.specs.EarlierMessages.{since_quiet}
use Rattle.tcap_faults.specs.Fault.{blamed, blamed_after, bad_entry_of, fault_since}
use Rattle.tcap_books.specs.Book.{NamedTable}
use Rattle.tcap_judge.specs.declared.findings.Finding.{Finding}
use Rattle.tcap_judge.specs.declared.findings.Finding.TheVariants as findings
use Rattle.tcap_judge.specs.declared.outcome.Outcome.{Outcome}
use Rattle.tcap_judge.specs.declared.outcome.Outcome.TheVariants as outcomes
use Rattle.tcap_judge.specs.BlameOutcome.{finding, finding_by, items_before}
use Rattle.tcap_judge.specs.LawfulOutcome.{replayed_by}
use Rattle.tcap_judge.specs.Verdict.{proposed_by, verdict_by, verdict_for}
use Rattle.tcap_certificate.specs.declared.fault.CheckFault.{CheckFault}
use Rattle.tcap_model.specs.Run.{Event}
use Rattle.tcap_traces.specs.declared.end_result.Circumstances.{Circumstances}
use Rattle.tcap_traces.specs.declared.end_result.Doubt.{Doubt}
use Rattle.tcap_traces.specs.declared.end_result.Doubt.TheVariants as doubts
use Rattle.tcap_traces.specs.declared.end_result.EndResult.{EndResult}
use Rattle.tcap_traces.specs.Verdict.{doubt_of, fails, found_before, is_begun_by_peer, is_from, is_of_mark, may_be_over, no_message_at, depends_on_lack, depends_on_table, result_by, result_of}
use Rattle.tcap_traces.specs.Dialogue.{Dialogue, Question, begun_by, comes_after, comes_again, ends_by, ends_on, entry_of, first_after, first_heading, goes_to_one, is_long, is_marked, is_open, judged_entries, most, quiet_mark}
use Rattle.tcap_traces.specs.TableChoice.{Choice, choice}

-- ---- the entry at fault is one of the entries

refutation_entry : (n : ℕ) (kind : Option Kind) (r : Refutation) → refutation_at n kind ≡ Some r → r.entry ≡ n
refutation_entry n None r is = cc
refutation_entry n (Some kind) r is = let same : record { entry = n; kind = kind } ≡ r = cc in sym (ap (λ (x : Refutation). x.entry) same)

either : (one other : Option Refutation) (r : Refutation) → option_or one other ≡ Some r → (one ≡ Some r) ⊎ (other ≡ Some r)
either None other r is = inr is
either (Some x) other r is = inl is

blamed_within : (table : Table) (side : Side) (items : List Item) (n : ℕ) (xs : List (Option Side × Result Item Reason)) (r : Refutation)
    → blamed_after table side items n xs ≡ Some r → r.entry < n + length xs
blamed_within table side items n [] r is = cc
blamed_within table side items n ((sender, Err reason) ∷ xs) r is =
    let at = refutation_entry n (bad_entry_of side sender reason) r is in omega (at, arith)
blamed_within table side items n ((sender, Ok item) ∷ xs) r is =
    by (either (refutation_at n (fault_since table side (since_quiet items) item)) (blamed_after table side (items ++ item ∷ []) (n + 1) xs) r is)
    (blamed_within table side (items ++ item ∷ []) (n + 1) xs r)
  where
    by : (refutation_at n (fault_since table side (since_quiet items) item) ≡ Some r)
        ⊎ (blamed_after table side (items ++ item ∷ []) (n + 1) xs ≡ Some r)
        → (blamed_after table side (items ++ item ∷ []) (n + 1) xs ≡ Some r → r.entry < (n + 1) + length xs)
        → r.entry < n + length ((sender, Ok item) ∷ xs)
    by (inl here) rest = let at = refutation_entry n (fault_since table side (since_quiet items) item) r here in omega (at, arith)
    by (inr later) rest = let at = rest later in omega (at, arith)

found_blamed : (count : ℕ) (outcome : Outcome) (r : Refutation) → finding_by count outcome ≡ findings.Blamed r → outcome ≡ outcomes.Refuted r
found_blamed count (outcomes.Refuted s) r is = let same : s ≡ r = cc in ap outcomes.Refuted same
found_blamed count (outcomes.LawfulFor all unheard) r is = cc
found_blamed count (outcomes.Lawful all) r is = cc
found_blamed count (outcomes.NotShown fault) r is = cc
found_blamed count (outcomes.Undecided fault) r is = cc
found_blamed count (outcomes.Faulty number place) r is = cc

refuted_by : (side : Side) (count : ℕ) (found : Option Refutation) (replay : Result (List Event) CheckFault) (r : Refutation)
    → verdict_by (Some side) count found replay ≡ outcomes.Refuted r → found ≡ Some r
refuted_by side count (Some s) replay r is = let same : s ≡ r = cc in ap Some same
refuted_by side count None (Ok events) r is = cc
refuted_by side count None (Err fault) r is = cc

-- The entry at fault of an end is one of the entries.
pub at_fault_within : (table : Table) (entries : List Entry) (side : Side) (r : Refutation)
    → finding table entries side ≡ findings.Blamed r → r.entry < length entries
at_fault_within table entries side r is =
    let headed : List (Option Side × Result Item Reason) = map (λ (e : Entry). (e.side, item_of e)) entries in
    let outcome = found_blamed (items_before (map item_of entries)) (verdict_for side table entries) r is in
    let found = refuted_by side (length entries) (blamed table side entries) (replayed_by (Some side) table (proposed_by (Some side) entries) entries) r outcome in
    let within = blamed_within table side [] 0 headed r found in
    let same : length headed ≡ length entries = length-map entries (λ (e : Entry). (e.side, item_of e)) in
    omega (within, same, arith)

-- ---- an unreadable entry after all entries changes nothing

-- the doubt, given whether an unreadable entry comes before the entry at fault
abbrev doubt_with : Table → Circumstances → Side → List Entry → Refutation → Bool → Option Doubt
doubt_with table c side entries r unread =
    cond c.under_way (Some doubts.UnderWay)
    (cond c.early_mark (Some doubts.EarlyMark)
    (cond (is_of_mark r.kind) (Some doubts.AtMark)
    (cond (depends_on_lack table side entries r) (Some doubts.LackingOperation)
    (cond (may_be_over table side entries r) (Some doubts.MaybeOver)
    (cond (c.unsure && depends_on_table r.kind) (Some doubts.UnsureTable)
    (cond c.again (Some doubts.CameAgain)
    (cond (is_begun_by_peer c.began side) (Some doubts.UsedBefore)
    (cond unread (Some doubts.Unread) None))))))))

module _ (table : Table) (c : Circumstances) (none : c.unread_from ≡ None) (entries : List Entry) (n : ℕ) (most : length entries ≤ n) (side : Side) where
  -- the circumstances with that unreadable entry
  abbrev late : Circumstances
  late = record c { unread_from = Some n }

  pub same_doubt : (r : Refutation) → r.entry < length entries → doubt_of table late side entries r ≡ doubt_of table c side entries r
  same_doubt r within =
      let above : nat_le n r.entry ≡ false = lt-leb n r.entry (omega (within, most, arith)) in
      ap (λ b. doubt_with table c side entries r b) (above ∙ sym (ap (λ o. is_from o r.entry) none))

  same_by : (found : Finding) (earlier : Option Finding) → ((r : Refutation) → found ≡ findings.Blamed r → r.entry < length entries)
      → result_by table late side entries found earlier ≡ result_by table c side entries found earlier
  same_by (findings.Blamed r) earlier within = ap (fails r) (same_doubt r (within r refl))
  same_by (findings.Lawful count unheard) earlier within = refl
  same_by (findings.NotBlamed count) None within = refl
  same_by (findings.NotBlamed count) (Some (findings.Blamed r)) within = refl
  same_by (findings.NotBlamed count) (Some (findings.Lawful all unheard)) within = refl
  same_by (findings.NotBlamed count) (Some (findings.NotBlamed all)) within = refl

  pub said_late : result_of table late entries side ≡ result_of table c entries side
  said_late =
      same_by (finding table entries side) (found_before table entries side (no_message_at (finding table entries side) (length entries)))
      (at_fault_within table entries side)
