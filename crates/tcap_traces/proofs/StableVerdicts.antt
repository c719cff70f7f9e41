-- The verdict on a dialogue that is over does not change with the entries after it.
use Rattle.std.proofs.Common.{arith, ◌≡◌, ◌⊎◌, inl, inr, ℕ, ◌+◌, ◌<◌, ◌≤◌, Bool, false, cond, List, [], ◌∷◌, ◌++◌, length, map, Option, Some, None, refl, sym, ap, ◌∙◌}
use Rattle.std.specs.Prelude.{nat_le, nat_lt, not, ◌&&◌, take, Result, Ok, Err, slice_get, option_map}
use Rattle.std.proofs.lemmas.List.{length-append, length-map, length-take}
use Rattle.std.proofs.lemmas.Bool.{lt-leb}
use Rattle.tcap_record.specs.declared.entry.End.{End as Side}
use Rattle.tcap_record.specs.declared.entry.End.TheVariants as sides
use Rattle.tcap_record.specs.declared.entry.Entry.{Entry}
use Rattle.tcap_end.specs.Table.{Table}
use Rattle.tcap_model.specs.World.{Item}
use Rattle.tcap_model.specs.Entries.{item_of}
use Rattle.tcap_model.specs.declared.reason.Reason.{Reason}
use Rattle.tcap_refute.specs.declared.kind.Kind.{Kind}
use Rattle.tcap_refute.specs.declared.kind.Refutation.{Refutation}
use Rattle.std.specs.Option.{option_or}
use Rattle.tcap_refute.specs.Kind.{refutation_at}
use Rattle.tcap_refute.specs.EarlierMessages.{since_quiet}
use Rattle.tcap_faults.specs.Fault.{blamed, blamed_after, bad_entry_of, fault_since}
use Rattle.tcap_books.specs.Book.{NamedTable}
use Rattle.tcap_judge.specs.declared.findings.Finding.{Finding}
use Rattle.tcap_judge.specs.declared.findings.Finding.TheVariants as findings
use Rattle.tcap_judge.specs.declared.outcome.Outcome.{Outcome}
use Rattle.tcap_judge.specs.declared.outcome.Outcome.TheVariants as outcomes
use Rattle.tcap_judge.specs.BlameOutcome.{finding, finding_by, items_before}
use Rattle.tcap_judge.specs.LawfulOutcome.{replayed_by}
use Rattle.tcap_judge.specs.Verdict.{proposed_by, verdict_by, verdict_for}
use Rattle.tcap_certificate.specs.declared.fault.CheckFault.{CheckFault}
use Rattle.tcap_model.specs.Run.{Event}
use Rattle.tcap_traces.specs.declared.end_result.Circumstances.{Circumstances}
use Rattle.tcap_traces.specs.declared.end_result.Doubt.{Doubt}
use Rattle.tcap_traces.specs.declared.end_result.Doubt.TheVariants as doubts
use Rattle.tcap_traces.specs.declared.end_result.EndResult.{EndResult}
use Rattle.tcap_traces.specs.Verdict.{doubt_of, fails, found_before, is_begun_by_peer, is_from, is_of_mark, may_be_over, no_message_at, depends_on_lack, depends_on_table, result_by, result_of}
use Rattle.tcap_traces.specs.Dialogue.{Dialogue, Question, begun_by, comes_after, comes_again, ends_by, ends_on, entry_of, first_after, first_heading, goes_to_one, is_long, is_marked, is_open, judged_entries, most, quiet_mark}
use Rattle.tcap_traces.specs.TableChoice.{Choice, choice}
use Rattle.tcap_traces.specs.Reaction.{judged_result}
use Rattle.tcap_traces.proofs.LateReactions.{judged_late}
use Rattle.tcap_traces.proofs.SegmentLaws.{grown}

-- ---- what comes after a dialogue changes nothing

-- the circumstances, given whether the dialogue comes after the directive, and the first entry after an unreadable one
abbrev circumstances_by : Question → Choice → Dialogue → Bool → Option ℕ → Circumstances
circumstances_by q c d after_directive unread = record {
  again = comes_again q d;
  under_way = after_directive && not d.again && goes_to_one (slice_get (judged_entries d) 0);
  early_mark = not d.again && d.in_use;
  began = cond (not q.settled && after_directive) (begun_by (first_heading d)) None;
  unsure = c.unsure;
  unread_from = unread;
  cut = is_long d;
  «open» = q.complete && is_open d c.table;
  heard = q.heard;
}

-- It is the same entry; or there was none, and it comes after all entries of the dialogue.
abbrev pub IsLate : Dialogue → Option ℕ → Type 0
IsLate d unread =
    (unread ≡ d.unread) ⊎ ((d.unread ≡ None) × ((k : ℕ) × (unread ≡ Some k) × (first_after d.numbers k ≡ length d.entries)))

few_judged : (d : Dialogue) → is_marked d.after ≡ false → length (judged_entries d) ≤ length d.entries
few_judged d no_mark =
    let made = map entry_of (take most d.entries) in
    let same : judged_entries d ≡ made ++ [] =
    ap (λ b. made ++ cond (b && nat_lt (length d.entries) most) (quiet_mark ∷ []) []) no_mark in
    let as_many = length-map (take most d.entries) entry_of in
    let taken = length-take most d.entries in
    omega (ap length same, length-append made [], as_many, taken, arith)

late_ends : (table : Option Table) (q : Question) (c : Choice) (d : Dialogue) (after_directive : Bool) (n : ℕ)
    → length (judged_entries d) ≤ n
    → ends_by table (circumstances_by q c d after_directive (Some n)) d.entries (judged_entries d)
    ≡ ends_by table (circumstances_by q c d after_directive None) d.entries (judged_entries d)
late_ends None q c d after_directive n most = refl
late_ends (Some table) q c d after_directive n most =
    let without = circumstances_by q c d after_directive None in
    let entries = judged_entries d in
    ap (λ (said : EndResult).
    Some (record { a = said; b = judged_result table (circumstances_by q c d after_directive (Some n)) d.entries entries sides.B }))
    (judged_late table without refl n sides.A d.entries entries most)
    ∙ ap (λ (said : EndResult). Some (record { a = judged_result table without d.entries entries sides.A; b = said }))
    (judged_late table without refl n sides.B d.entries entries most)

-- The verdict on a dialogue does not change with a directive or an unreadable entry after it.
pub ends_stay : (tables : List NamedTable) (q : Question) (d : Dialogue) (under_way unread : Option ℕ) → is_marked d.after ≡ false
    → comes_after under_way (slice_get d.numbers 0) ≡ comes_after d.under_way (slice_get d.numbers 0) → IsLate d unread
    → ends_on tables q (grown d under_way unread) ≡ ends_on tables q d
ends_stay tables q d under_way unread no_mark same late =
    ap (λ b. ends_by table (circumstances_by q c d b (option_map (first_after d.numbers) unread)) d.entries (judged_entries d)) same ∙ by late
  where
    c : Choice
    c = choice tables (judged_entries d)

    table : Option Table
    table = option_map (λ (t : NamedTable). t.table) c.table

    after_directive : Bool
    after_directive = comes_after d.under_way (slice_get d.numbers 0)

    by : IsLate d unread → ends_by table (circumstances_by q c d after_directive (option_map (first_after d.numbers) unread)) d.entries (judged_entries d)
        ≡ ends_by table (circumstances_by q c d after_directive (option_map (first_after d.numbers) d.unread)) d.entries (judged_entries d)
    by (inl is) = ap (λ o. ends_by table (circumstances_by q c d after_directive (option_map (first_after d.numbers) o)) d.entries (judged_entries d)) is
    by (inr (none, (k, is, all))) =
        ap (λ o. ends_by table (circumstances_by q c d after_directive (option_map (first_after d.numbers) o)) d.entries (judged_entries d)) is
        ∙ ap (λ n. ends_by table (circumstances_by q c d after_directive (Some n)) d.entries (judged_entries d)) all
        ∙ late_ends table q c d after_directive (length d.entries) (few_judged d no_mark)
        ∙ ap (λ o. ends_by table (circumstances_by q c d after_directive (option_map (first_after d.numbers) o)) d.entries (judged_entries d)) (sym none)
