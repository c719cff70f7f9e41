-- The result for an end holds if the findings hold.
use Rattle.std.proofs.Common.{◌≡◌, inl, inr, ℕ, Bool, true, false, cond, ◌==◌, ◌&&◌, List, drop, length, map, take, Option, Some, None, Result, Ok, Err, refl, sym, ap, ◌∙◌, subst}
use Rattle.std.specs.Option.{option_or}
use Rattle.std.specs.Prelude.{is_some, nat_lt}
use Rattle.std.specs.List.{list_any}
use Rattle.tcap_record.specs.declared.entry.End.{End as Side}
use Rattle.tcap_record.specs.declared.entry.End.TheVariants as sides
use Rattle.tcap_record.specs.declared.entry.Entry.{Entry}
use Rattle.tcap_end.specs.Table.{Table}
use Rattle.tcap_certificate.specs.declared.fault.CheckFault.{CheckFault}
use Rattle.tcap_model.specs.Run.{Event}
use Rattle.tcap_model.specs.Entries.{item_of}
use Rattle.tcap_refute.specs.declared.kind.Refutation.{Refutation}
use Rattle.tcap_faults.specs.BlameMeaning.{IsAtFaultOf}
use Rattle.tcap_faults.specs.Fault.{blamed}
use Rattle.tcap_judge.specs.declared.findings.Finding.{Finding}
use Rattle.tcap_judge.specs.declared.findings.Finding.TheVariants.{Blamed, Lawful, NotBlamed}
use Rattle.tcap_judge.specs.BlameOutcome.{IsFound, finding, finding_by, items_before}
use Rattle.tcap_judge.specs.LawfulOutcome.{AreLawfulUnheard, replayed_by}
use Rattle.tcap_judge.specs.Verdict.{proposed_by, verdict_by}
use Rattle.tcap_judge.proofs.BlamedLaws.{are_lawful}
use Rattle.tcap_traces.specs.declared.end_result.Circumstances.{Circumstances}
use Rattle.tcap_traces.specs.declared.end_result.Doubt.{Doubt}
use Rattle.tcap_traces.specs.declared.end_result.EndResult.{EndResult}
use Rattle.tcap_traces.specs.declared.end_result.EndResult.TheVariants as end_results
use Rattle.tcap_traces.specs.ResultMeaning.{IsFoundBefore, IsNoMessage, IsTrueResult, MayHaveSentUnheard}
use Rattle.tcap_traces.specs.Verdict.{doubt_of, fails, found_before, is_of, no_message_at, passes, result_before, result_by}
use Rattle.tcap_traces.proofs.JudgingLaws.{counted, no_message, number_in, or_before, or_behind}

-- ---- blame

abbrev pub named_in : Finding → Option Refutation
named_in (Blamed r) = Some r
named_in found = None

named_by_all : (side : Side) (count all : ℕ) (named : Option Refutation) (replay : Result (List Event) CheckFault)
    → named_in (finding_by count (verdict_by (Some side) all named replay)) ≡ named
named_by_all side count all (Some r) replay = refl
named_by_all side count all None (Ok events) = refl
named_by_all side count all None (Err fault) = refl

pub named_is : (table : Table) (entries : List Entry) (side : Side)
    → named_in (finding table entries side) ≡ blamed table side entries
named_is table entries side =
    named_by_all side (items_before (map item_of entries)) (length entries) (blamed table side entries)
    (replayed_by (Some side) table (proposed_by (Some side) entries) entries)

-- ---- results

-- The finding on the entries before this number holds. It is there only if this is not the number of all entries.
abbrev pub IsEarlier : Side → Table → List Entry → ℕ → Option Finding → ℕ → Type 0
IsEarlier side table entries all earlier number =
    IsFoundBefore side table entries (Some number) earlier × (is_some earlier ≡ true → (number == all) ≡ false)

module _ (table : Table) (c : Circumstances) (entries : List Entry) (side : Side) where
  passes_so : (under_way early_mark cut unsure over missed : Bool) (unheard : ℕ)
      → MayHaveSentUnheard side table entries unheard
      → IsTrueResult side table entries
      (cond under_way end_results.UnderWay
      (cond early_mark end_results.EarlyMark
      (cond cut end_results.TooLong
      (cond unsure end_results.UnsureTable
      (cond over end_results.Open (cond missed (end_results.Unheard unheard) (end_results.Pass unheard)))))))
  passes_so true early_mark cut unsure over missed unheard may = (unheard, may)
  passes_so false true cut unsure over missed unheard may = (unheard, may)
  passes_so false false true unsure over missed unheard may = (unheard, may)
  passes_so false false false true over missed unheard may = (unheard, may)
  passes_so false false false false true missed unheard may = (unheard, may)
  passes_so false false false false false true unheard may = may
  passes_so false false false false false false unheard may = may

  fails_so : (r : Refutation) (doubt : Option Doubt) → IsAtFaultOf table side entries r
      → IsTrueResult side table entries (fails r doubt)
  fails_so r None at_fault = at_fault
  fails_so r (Some doubt) at_fault = at_fault

  behind_so : (number unheard : ℕ) (own : Bool) → list_any (is_of side) (drop number entries) ≡ own
      → IsNoMessage entries number → AreLawfulUnheard (Some side) table (take number entries) unheard
      → IsTrueResult side table entries (cond own (end_results.AfterBadEntry number) (passes c unheard))
  behind_so number unheard true is bad lawful = are_lawful (Some side) table (take number entries) unheard lawful
  behind_so number unheard false is bad lawful = passes_so c.under_way c.early_mark c.cut c.unsure c.open (c.heard && nat_lt 0 unheard) unheard (inr (number, bad, lawful, is))

  before_so : (number : ℕ) (earlier : Option Finding) → IsFoundBefore side table entries (Some number) earlier
      → (is_some earlier ≡ true → IsNoMessage entries number)
      → IsTrueResult side table entries (result_before c side entries number earlier)
  before_so number None so bad = tt
  before_so number (Some (Blamed r)) so bad = tt
  before_so number (Some (NotBlamed n)) so bad = tt
  before_so number (Some (Lawful n unheard)) so bad =
      behind_so number unheard (list_any (is_of side) (drop number entries)) refl (bad refl) so

  -- The result holds by the findings on all entries, and on those before the first that is no message.
  pub said_so : ((r : Refutation) → blamed table side entries ≡ Some r → IsAtFaultOf table side entries r)
      → (found : Finding) → found ≡ finding table entries side → IsFound side table entries found
      → (earlier : Option Finding)
      → ((n : ℕ) → found ≡ NotBlamed n → IsEarlier side table entries (length entries) earlier n)
      → IsTrueResult side table entries (result_by table c side entries found earlier)
  said_so at_fault (Blamed r) is so earlier are =
      fails_so r (doubt_of table c side entries r)
      (at_fault r (sym (named_is table entries side) ∙ sym (ap named_in is)))
  said_so at_fault (Lawful n unheard) is so earlier are = passes_so c.under_way c.early_mark c.cut c.unsure c.open (c.heard && nat_lt 0 unheard) unheard (inl so)
  said_so at_fault (NotBlamed n) is so earlier are =
      let (holds, differs) = are n refl in
      let count : n ≡ items_before (map item_of entries) =
      ap (number_in (items_before (map item_of entries))) is ∙ counted table entries side in
      before_so n earlier holds (λ some.
      subst (IsNoMessage entries) (sym count)
      (no_message entries (subst (λ k. (k == length entries) ≡ false) count (differs some))))

-- ---- the entries before the first that is no message, for both ends

module _ (table : Table) (entries : List Entry) (side : Side) (earlier : Option Finding) where
  at_number : (all n : ℕ) (is_all : Bool) → (n == all) ≡ is_all
      → earlier ≡ found_before table entries side (cond is_all None (Some n))
      → IsFoundBefore side table entries (cond is_all None (Some n)) earlier
      → IsEarlier side table entries all earlier n
  at_number all n true same is so = subst (λ o. IsEarlier side table entries all o n) (sym is) (tt, λ some. cc)
  at_number all n false same is so = (so, λ some. same)

  module _ (count all : ℕ) (a b : Finding) (of_a : number_in count a ≡ count) (of_b : number_in count b ≡ count)
      (is : earlier ≡ found_before table entries side (option_or (no_message_at a all) (no_message_at b all)))
      (so : IsFoundBefore side table entries (option_or (no_message_at a all) (no_message_at b all)) earlier) where
    at_own : (n : ℕ) → option_or (no_message_at a all) (no_message_at b all) ≡ cond (n == all) None (Some n)
        → IsEarlier side table entries all earlier n
    at_own n own =
        at_number all n (n == all) refl (is ∙ ap (found_before table entries side) own)
        (subst (λ o. IsFoundBefore side table entries o earlier) own so)

    pub first_so : (n : ℕ) → a ≡ NotBlamed n → IsEarlier side table entries all earlier n
    first_so n found =
        let same : count ≡ n = sym of_a ∙ ap (number_in count) found in
        at_own n
        (ap (λ x. option_or (no_message_at x all) (no_message_at b all)) found
        ∙ or_behind n all b (subst (λ k. number_in k b ≡ k) same of_b))

    pub second_so : (n : ℕ) → b ≡ NotBlamed n → IsEarlier side table entries all earlier n
    second_so n found =
        let same : count ≡ n = sym of_b ∙ ap (number_in count) found in
        at_own n
        (ap (λ x. option_or (no_message_at a all) (no_message_at x all)) found
        ∙ or_before n all a (subst (λ k. number_in k a ≡ k) same of_a))

module _ (at_fault : (table : Table) (side : Side) (entries : List Entry) (r : Refutation)
    → blamed table side entries ≡ Some r → IsAtFaultOf table side entries r)
    (table : Table) (c : Circumstances) (entries now : List Entry) (a b : Finding) (number : Option ℕ) where
  -- the result for A holds
  pub so_of_a : now ≡ entries → a ≡ finding table entries sides.A → b ≡ finding table entries sides.B
      → IsFound sides.A table entries a
      → number ≡ option_or (no_message_at a (length entries)) (no_message_at b (length entries))
      → (earlier : Option Finding) → earlier ≡ found_before table entries sides.A number
      → IsFoundBefore sides.A table entries number earlier
      → (said : EndResult) → said ≡ result_by table c sides.A now a earlier → IsTrueResult sides.A table entries said
  so_of_a stays of_a of_b so is earlier is_earlier earlier_so said said_is =
      subst (IsTrueResult sides.A table entries)
      (sym (said_is ∙ ap (λ es. result_by table c sides.A es a earlier) stays))
      (said_so table c entries sides.A (at_fault table sides.A entries) a of_a so earlier
      (first_so table entries sides.A earlier (items_before (map item_of entries)) (length entries) a b
      (ap (number_in (items_before (map item_of entries))) of_a ∙ counted table entries sides.A)
      (ap (number_in (items_before (map item_of entries))) of_b ∙ counted table entries sides.B)
      (is_earlier ∙ ap (found_before table entries sides.A) is)
      (subst (λ o. IsFoundBefore sides.A table entries o earlier) is earlier_so)))

  -- the result for B holds
  pub so_of_b : now ≡ entries → a ≡ finding table entries sides.A → b ≡ finding table entries sides.B
      → IsFound sides.B table entries b
      → number ≡ option_or (no_message_at a (length entries)) (no_message_at b (length entries))
      → (earlier : Option Finding) → earlier ≡ found_before table entries sides.B number
      → IsFoundBefore sides.B table entries number earlier
      → (said : EndResult) → said ≡ result_by table c sides.B now b earlier → IsTrueResult sides.B table entries said
  so_of_b stays of_a of_b so is earlier is_earlier earlier_so said said_is =
      subst (IsTrueResult sides.B table entries)
      (sym (said_is ∙ ap (λ es. result_by table c sides.B es b earlier) stays))
      (said_so table c entries sides.B (at_fault table sides.B entries) b of_b so earlier
      (second_so table entries sides.B earlier (items_before (map item_of entries)) (length entries) a b
      (ap (number_in (items_before (map item_of entries))) of_a ∙ counted table entries sides.A)
      (ap (number_in (items_before (map item_of entries))) of_b ∙ counted table entries sides.B)
      (is_earlier ∙ ap (found_before table entries sides.B) is)
      (subst (λ o. IsFoundBefore sides.B table entries o earlier) is earlier_so)))
