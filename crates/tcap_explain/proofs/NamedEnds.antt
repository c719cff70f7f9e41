-- A finding on an end blames an entry of that end. If no finding blames an entry up to a refuted one, nobody is blamed
-- for the refuted one.
use Rattle.std.proofs.Common.{◌≡◌, inl, inr, ℕ, ◌<◌, true, false, ◌||◌, List, map, Option, Some, None, Result, Ok, Err, refl, sym, ap, ◌∙◌, leb-false}
use Rattle.std.specs.Prelude.{length, slice_get}
use Rattle.tcap_record.specs.declared.entry.End.{End as Side}
use Rattle.tcap_record.specs.declared.entry.End.TheVariants as sides
use Rattle.tcap_record.specs.declared.entry.Entry.{Entry}
use Rattle.tcap_end.specs.Table.{Table}
use Rattle.tcap_certificate.specs.declared.fault.CheckFault.{CheckFault}
use Rattle.tcap_model.specs.declared.reason.Reason.{Reason}
use Rattle.tcap_model.specs.declared.reason.Reason.TheVariants.{BadMessage}
use Rattle.tcap_model.specs.Run.{Event}
use Rattle.tcap_model.specs.World.{Item, Sent}
use Rattle.tcap_model.specs.Entries.{item_of}
use Rattle.tcap_model.proofs.WorldLaws.{itself}
use Rattle.tcap_refute.specs.declared.kind.Refutation.{Refutation}
use Rattle.tcap_refute.specs.Kind.{refuted}
use Rattle.tcap_refute.specs.Unsendable.{IsAtFault}
use Rattle.tcap_refute.proofs.RefutedLaws.{at_fault}
use Rattle.tcap_faults.specs.Fault.{blamed}
use Rattle.tcap_evidence.specs.Unblamed.{IsUnblamed}
use Rattle.tcap_evidence.specs.EvidenceWords.{is_for}
use Rattle.tcap_evidence.proofs.NamedLaws.{entry_at, item_at}
use Rattle.tcap_judge.specs.declared.findings.Ends.{Ends}
use Rattle.tcap_judge.specs.declared.findings.Finding.TheVariants as findings
use Rattle.tcap_judge.specs.BlameOutcome.{ends_of, finding, finding_by, items_before}
use Rattle.tcap_judge.specs.LawfulOutcome.{replayed_by}
use Rattle.tcap_judge.specs.Verdict.{proposed_by, verdict_by}
use Rattle.tcap_explain.specs.RefutedLines.{is_blamed_by, sender_at}

-- ---- a finding on an end

module _ (table : Table) (side : Side) (entries : List Entry) where
  abbrev count : ℕ
  count = items_before (map item_of entries)

  pub found_blamed : (r : Refutation) → finding table entries side ≡ findings.Blamed r → blamed table side entries ≡ Some r
  found_blamed r is = by (blamed table side entries) (replayed_by (Some side) table (proposed_by (Some side) entries) entries) is
    where
      by : (o : Option Refutation) (replay : Result (List Event) CheckFault)
          → finding_by count (verdict_by (Some side) (length entries) o replay) ≡ findings.Blamed r → o ≡ Some r
      by (Some s) replay is = let same : s ≡ r = cc in ap (λ (x : Refutation). Some x) same
      by None (Ok events) is = cc
      by None (Err fault) is = cc

  -- If the finding does not blame an entry up to `number`, the first blamed entry comes later.
  not_before : (number : ℕ) → is_blamed_by number (finding table entries side) ≡ false → (r : Refutation)
      → blamed table side entries ≡ Some r → number < r.entry
  not_before number not r is =
      let found : finding table entries side ≡ findings.Blamed r = rw is refl in
      leb-false r.entry number (sym (ap (is_blamed_by number) found) ∙ not)

module _ (table : Table) (entries : List Entry) (ends : Ends) (are : ends ≡ ends_of table entries) where
  pub named_a : (r : Refutation) → ends.a ≡ findings.Blamed r → blamed table sides.A entries ≡ Some r
  named_a r is = found_blamed table sides.A entries r (sym (ap (λ (x : Ends). x.a) are) ∙ is)

  pub named_b : (r : Refutation) → ends.b ≡ findings.Blamed r → blamed table sides.B entries ≡ Some r
  named_b r is = found_blamed table sides.B entries r (sym (ap (λ (x : Ends). x.b) are) ∙ is)

-- ---- an entry that is refuted

-- An item is one of its `sender_at`, or of neither end.
sender_for : (entries : List Entry) (n : ℕ) (x : Result Item Reason) → slice_get (map item_of entries) n ≡ Some x
    → is_for (sender_at entries n) (slice_get entries n) ≡ true
sender_for entries n x is = let (e, there, item) = entry_at entries n x is in of e there
  where
    of : (e : Entry) → slice_get entries n ≡ Some e → is_for (sender_at entries n) (slice_get entries n) ≡ true
    of e there = by e.side refl
      where
        by : (o : Option Side) → e.side ≡ o → is_for (sender_at entries n) (slice_get entries n) ≡ true
        by None is = rw (there, is) refl
        by (Some side) is = rw (there, is) (itself side)

pub refuted_for : (table : Table) (entries : List Entry) (r : Refutation) → refuted table (map item_of entries) ≡ Some r
    → is_for (sender_at entries r.entry) (slice_get entries r.entry) ≡ true
refuted_for table entries r is = by (at_fault table (map item_of entries) r is)
  where
    by : IsAtFault table (map item_of entries) r → is_for (sender_at entries r.entry) (slice_get entries r.entry) ≡ true
    by (inl (kind, bad)) = sender_for entries r.entry (Err (BadMessage bad.fault)) bad.there
    by (inr f) =
        sender_for entries r.entry (Ok (Sent f.side f.message))
        (rw (f.are, ← f.counted) (item_at f.before (Ok (Sent f.side f.message)) f.more))

-- If neither finding blames an entry up to the refuted one, nobody is blamed for it.
pub is_unblamed : (table : Table) (entries : List Entry) (r : Refutation) → refuted table (map item_of entries) ≡ Some r
    → (ends : Ends) → ends ≡ ends_of table entries → is_blamed_by r.entry ends.a ≡ false → is_blamed_by r.entry ends.b ≡ false
    → IsUnblamed table (sender_at entries r.entry) entries r.entry
is_unblamed table entries r is ends are not_a not_b = record {
  of_end = refuted_for table entries r is;
  is_refuted = (r, is, refl);
  none = none;
}
  where
    none : (end : Side) (b : Refutation) → blamed table end entries ≡ Some b → r.entry < b.entry
    none sides.A b of = not_before table sides.A entries r.entry (sym (ap (λ (x : Ends). is_blamed_by r.entry x.a) are) ∙ not_a) b of
    none sides.B b of = not_before table sides.B entries r.entry (sym (ap (λ (x : Ends). is_blamed_by r.entry x.b) are) ∙ not_b) b of
