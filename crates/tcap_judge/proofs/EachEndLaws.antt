-- The findings on each end if a certificate gives a run of both.
use Rattle.std.proofs.Common.{◌≡◌, ◌<◌, ℕ, ◌+◌, Bool, true, false, List, [], ◌∷◌, map, length, cond, arith, refl, sym, ap, ap₂, subst, ◌∙◌}
use Rattle.std.specs.Prelude.{Option, Some, None, Ok}
use Rattle.tcap_record.specs.declared.entry.Entry.{Entry}
use Rattle.tcap_record.specs.declared.entry.End.{End as Side}
use Rattle.tcap_end.specs.Table.{Table}
use Rattle.tcap_certificate.specs.declared.certificate.Fate.{Fate}
use Rattle.tcap_certificate.specs.declared.certificate.Fate.TheVariants.{Gap, Lost, By}
use Rattle.tcap_certificate.specs.LossCounts.{unheard_of}
use Rattle.tcap_certificate.specs.Certificate.{Certificate}
use Rattle.tcap_model.specs.Entries.{AreItems, item_of}
use Rattle.tcap_certificate.specs.DescribedRun.{lost_from}
use Rattle.tcap_certificate.specs.Replay.{replayed_by}
use Rattle.tcap_model.specs.Run.{Event}
use Rattle.tcap_record.specs.Ends.{other}
use Rattle.tcap_model.specs.World.{Item, Sent, is_side}
use Rattle.tcap_check.proofs.one_end_lemmas.AloneBoth.{both_give}
use Rattle.tcap_check.proofs.one_end_lemmas.AloneRuns.{gives_for, unheard_are_lost}
use Rattle.tcap_check.proofs.given_run_lemmas.GivenRuns.{gives}
use Rattle.tcap_faults.specs.Fault.{blamed}
use Rattle.tcap_refute.specs.declared.kind.Refutation.{Refutation}
use Rattle.tcap_search.specs.ProposedCertificate.{proposed_for}
use Rattle.tcap_judge.specs.BlameOutcome.{finding, finding_by, items_before}
use Rattle.tcap_judge.specs.declared.findings.Finding.TheVariants as findings
use Rattle.tcap_judge.specs.EndFindings.{lost_by, lost_of}
use Rattle.tcap_judge.specs.LawfulOutcome.{AreLawfulUnheard}
use Rattle.tcap_judge.specs.Verdict.{verdict_by}

-- ---- nothing is blamed

-- what is needed of `blamed_is_never_given`
abbrev pub IsNeverGiven : Type 0
IsNeverGiven = (table : Table) (side : Side) (c : Certificate) (entries : List Entry) (r : Refutation) (events : List Event)
    → blamed table side entries ≡ Some r → replayed_by (Some side) table c entries ≡ Ok events → ⊥

pub none_blamed : IsNeverGiven → (side : Side) (table : Table) (c : Certificate) (entries : List Entry) (own : List Event)
    → replayed_by (Some side) table c entries ≡ Ok own → blamed table side entries ≡ None
none_blamed never side table c entries own given = by (blamed table side entries) refl
  where
    by : (named : Option Refutation) → blamed table side entries ≡ named → named ≡ None
    by None is = refl
    by (Some r) is = absurd (never table side c entries r own is given)

-- ---- losses

lost_one : (side sender : Side) (n : ℕ) (numbers : List ℕ) (sent : Option Side) → sent ≡ Some sender
    → length (cond (is_side side sender) (n ∷ numbers) numbers) ≡ lost_by side Lost sent + length numbers
lost_one side sender n numbers sent is = rw is (by (is_side side sender))
  where
    by : (mine : Bool) → length (cond mine (n ∷ numbers) numbers) ≡ cond mine 1 0 + length numbers
    by true = omega arith
    by false = omega arith

none_more : (k : ℕ) → k ≡ 0 + k
none_more k = omega arith

pub lost_are : (side : Side) (n : ℕ) (fates : List Fate) (entries : List Entry) (items : List Item)
    → AreItems entries items → length (lost_from side n fates items) ≡ lost_of side fates entries
lost_are side n [] [] [] are = refl
lost_are side n [] [] (item ∷ items) are = absurd are
lost_are side n [] (entry ∷ entries) items are = by items
  where
    by : (xs : List Item) → length (lost_from side n [] xs) ≡ 0
    by [] = refl
    by (x ∷ xs) = refl
lost_are side n (fate ∷ fates) [] [] are = by fate
  where
    by : (f : Fate) → length (lost_from side n (f ∷ fates) []) ≡ 0
    by Lost = refl
    by (Gap g) = refl
    by (By r) = refl
lost_are side n (fate ∷ fates) [] (item ∷ items) are = absurd are
lost_are side n (fate ∷ fates) (entry ∷ entries) [] are = absurd are
lost_are side n (Lost ∷ fates) (entry ∷ entries) (Sent sender message ∷ items) are =
    lost_one side sender n (lost_from side (n + 1) fates items) entry.side are.0.0
    ∙ ap (λ (k : ℕ). lost_by side Lost entry.side + k) (lost_are side (n + 1) fates entries items are.1)
lost_are side n (Lost ∷ fates) (entry ∷ entries) (Item.Quiet ∷ items) are =
    lost_are side (n + 1) fates entries items are.1 ∙ none_more (lost_of side fates entries)
    ∙ ap (λ (s : Option Side). lost_by side Lost s + lost_of side fates entries) (sym are.0.0)
lost_are side n (Gap g ∷ fates) (entry ∷ entries) (item ∷ items) are =
    lost_are side (n + 1) fates entries items are.1 ∙ none_more (lost_of side fates entries)
lost_are side n (By r ∷ fates) (entry ∷ entries) (item ∷ items) are =
    lost_are side (n + 1) fates entries items are.1 ∙ none_more (lost_of side fates entries)

-- ---- both ends

pub found_alike : IsNeverGiven → (side : Side) (table : Table) (c : Certificate) (entries : List Entry)
    → (events : List Event) × (replayed_by None table c entries ≡ Ok events) → c ≡ proposed_for side entries
    → (count unheard : ℕ) → count ≡ length entries → unheard ≡ lost_of (other side) c.fates entries
    → (findings.Lawful count unheard ≡ finding table entries side) × AreLawfulUnheard (Some side) table entries unheard
found_alike never side table c entries (events, is) alike count lost count_is lost_is =
    let both = gives table c entries events is in
    let (own, given, losses, none) = both_give side table c entries both.items events both.are is in
    let mine = gives_for side table c entries own given in
    let unheard_is : unheard_of side own ≡ lost_of (other side) c.fates entries =
    unheard_are_lost side own ∙ ap length losses ∙ lost_are (other side) 0 c.fates entries both.items both.are in
    let proposed : replayed_by (Some side) table (proposed_for side entries) entries ≡ Ok own =
    subst (λ (d : Certificate). replayed_by (Some side) table d entries ≡ Ok own) alike given in (
      ap₂ findings.Lawful count_is lost_is
          ∙ sym (ap₂ (λ named replay. finding_by (items_before (map item_of entries)) (verdict_by (Some side) (length entries) named replay))
          (none_blamed never side table c entries own given) proposed
          ∙ ap (λ (k : ℕ). findings.Lawful (length entries) k) unheard_is),
      (mine.items, mine.are, (own, mine.run.0, mine.run.1, mine.run.2, mine.keeps, mine.left, unheard_is ∙ sym lost_is)),
    )

-- no entry is left
pub lost_none : (side : Side) (fates : List Fate) (entries : List Entry) → length entries < 1 → lost_of side fates entries ≡ 0
lost_none side [] entries none = refl
lost_none side (fate ∷ fates) [] none = refl
lost_none side (fate ∷ fates) (entry ∷ entries) none = absurd (omega (arith, none))

pub none_blamed_by_both : IsNeverGiven → (side : Side) (table : Table) (c : Certificate) (entries : List Entry)
    → (events : List Event) × (replayed_by None table c entries ≡ Ok events) → blamed table side entries ≡ None
none_blamed_by_both never side table c entries (events, is) =
    let both = gives table c entries events is in
    let (own, given, losses, none) = both_give side table c entries both.items events both.are is in
    none_blamed never side table c entries own given
