-- Both ends have the same first entry that is no message, so the entries before it are judged once for both.
use Rattle.std.proofs.Common.{arith, ◌≡◌, ℕ, suc, ◌+◌, ◌==◌, false, cond, List, [], ◌∷◌, length, map, Option, Some, None, Result, Ok, Err, refl, sym, ap, subst, ◌∙◌}
use Rattle.std.specs.Prelude.{slice_get}
use Rattle.std.specs.Option.{option_or}
use Rattle.std.proofs.lemmas.Bool.{eqb-false}
use Rattle.tcap_record.specs.declared.entry.End.{End as Side}
use Rattle.tcap_record.specs.declared.entry.End.TheVariants as sides
use Rattle.tcap_record.specs.declared.entry.Entry.{Entry}
use Rattle.tcap_end.specs.Table.{Table}
use Rattle.tcap_model.specs.declared.reason.Reason.{Reason}
use Rattle.tcap_model.specs.World.{Item}
use Rattle.tcap_model.specs.Entries.{item_of}
use Rattle.tcap_judge.specs.declared.findings.Finding.{Finding}
use Rattle.tcap_judge.specs.declared.findings.Finding.TheVariants.{Blamed, Lawful, NotBlamed}
use Rattle.tcap_judge.specs.declared.outcome.Outcome.{Outcome}
use Rattle.tcap_judge.specs.declared.outcome.Outcome.TheVariants as outcomes
use Rattle.tcap_judge.specs.BlameOutcome.{finding, finding_by, items_before}
use Rattle.tcap_judge.specs.Verdict.{verdict_for}
use Rattle.tcap_traces.specs.declared.end_result.Circumstances.{Circumstances}
use Rattle.tcap_traces.specs.declared.end_result.EndResult.{EndResult}
use Rattle.tcap_traces.specs.ResultMeaning.{IsNoMessage}
use Rattle.tcap_traces.specs.Verdict.{found_before, no_message_at, result_by, result_of}

-- ---- an end that is not blamed: the number of entries before the first that is no message

abbrev pub number_in : ℕ → Finding → ℕ
number_in count (NotBlamed n) = n
number_in count found = count

counted_by : (count : ℕ) (outcome : Outcome) → number_in count (finding_by count outcome) ≡ count
counted_by count (outcomes.Lawful all) = refl
counted_by count (outcomes.LawfulFor all unheard) = refl
counted_by count (outcomes.NotShown fault) = refl
counted_by count (outcomes.Refuted r) = refl
counted_by count (outcomes.Undecided fault) = refl
counted_by count (outcomes.Faulty number place) = refl

pub counted : (table : Table) (entries : List Entry) (side : Side)
    → number_in (items_before (map item_of entries)) (finding table entries side) ≡ items_before (map item_of entries)
counted table entries side = counted_by (items_before (map item_of entries)) (verdict_for side table entries)

-- If this is not the number of all entries, the entry with this number is no message.
pub no_message : (entries : List Entry) → (items_before (map item_of entries) == length entries) ≡ false
    → IsNoMessage entries (items_before (map item_of entries))
no_message entries differs = from entries (eqb-false (items_before (map item_of entries)) (length entries) differs)
  where
    from : (more : List Entry) → (items_before (map item_of more) ≡ length more → ⊥)
        → IsNoMessage more (items_before (map item_of more))
    from [] differs = absurd (differs refl)
    from (entry ∷ more) differs = by (item_of entry) refl (from more) differs
      where
        by : (item : Result Item Reason) → item_of entry ≡ item
            → ((items_before (map item_of more) ≡ length more → ⊥) → IsNoMessage more (items_before (map item_of more)))
            → (items_before (item ∷ map item_of more) ≡ suc (length more) → ⊥)
            → IsNoMessage (entry ∷ more) (items_before (item ∷ map item_of more))
        by (Ok item) is later differs =
            let n = items_before (map item_of more) in
            let (found, reason, has, bad) = later (λ (same : n ≡ length more). differs (omega (same, arith))) in
            let next : suc n ≡ 1 + n = omega arith in
            (found, reason, subst (λ k. slice_get (entry ∷ more) k ≡ Some found) next has, bad)
        by (Err reason) is later differs = (entry, reason, refl, is)

-- ---- the number for both ends

or_none : (o : Option ℕ) → option_or o None ≡ o
or_none None = refl
or_none (Some n) = refl

or_same : (o : Option ℕ) → option_or o o ≡ o
or_same None = refl
or_same (Some n) = refl

module _ (n all : ℕ) where
  pub or_behind : (found : Finding) → number_in n found ≡ n
      → option_or (cond (n == all) None (Some n)) (no_message_at found all) ≡ cond (n == all) None (Some n)
  or_behind (Blamed r) is = or_none (cond (n == all) None (Some n))
  or_behind (Lawful count unheard) is = or_none (cond (n == all) None (Some n))
  or_behind (NotBlamed m) is =
      ap (λ k. option_or (cond (n == all) None (Some n)) (cond (k == all) None (Some k))) is
      ∙ or_same (cond (n == all) None (Some n))

  pub or_before : (found : Finding) → number_in n found ≡ n
      → option_or (no_message_at found all) (cond (n == all) None (Some n)) ≡ cond (n == all) None (Some n)
  or_before (Blamed r) is = refl
  or_before (Lawful count unheard) is = refl
  or_before (NotBlamed m) is =
      ap (λ k. option_or (cond (k == all) None (Some k)) (cond (n == all) None (Some n))) is
      ∙ or_same (cond (n == all) None (Some n))

-- ---- results

module _ (table : Table) (c : Circumstances) (entries : List Entry) (side : Side) where
  abbrev with_number : Finding → Option ℕ → EndResult
  with_number found number = result_by table c side entries found (found_before table entries side number)

  with_behind : (count all : ℕ) (a b : Finding) → number_in count a ≡ count → number_in count b ≡ count
      → with_number a (option_or (no_message_at a all) (no_message_at b all)) ≡ with_number a (no_message_at a all)
  with_behind count all (Blamed r) b of_a of_b = refl
  with_behind count all (Lawful n unheard) b of_a of_b = refl
  with_behind count all (NotBlamed n) b of_a of_b =
      ap (with_number (NotBlamed n)) (or_behind n all b (rw (sym of_a) at of_b))

  with_before : (count all : ℕ) (a b : Finding) → number_in count a ≡ count → number_in count b ≡ count
      → with_number b (option_or (no_message_at a all) (no_message_at b all)) ≡ with_number b (no_message_at b all)
  with_before count all a (Blamed r) of_a of_b = refl
  with_before count all a (Lawful n unheard) of_a of_b = refl
  with_before count all a (NotBlamed n) of_a of_b =
      ap (with_number (NotBlamed n)) (or_before n all a (rw (sym of_b) at of_a))

module _ (table : Table) (c : Circumstances) (entries now : List Entry) (a b : Finding) (number : Option ℕ) where
  -- the result for A, by the number for both ends
  pub says_of_a : now ≡ entries → a ≡ finding table entries sides.A → b ≡ finding table entries sides.B
      → number ≡ option_or (no_message_at a (length entries)) (no_message_at b (length entries))
      → (earlier : Option Finding) → earlier ≡ found_before table entries sides.A number
      → result_by table c sides.A now a earlier ≡ result_of table c entries sides.A
  says_of_a stays of_a of_b is earlier is_earlier =
      rw (is_earlier, is, stays, of_a, of_b)
      (with_behind table c entries sides.A (items_before (map item_of entries)) (length entries)
      (finding table entries sides.A) (finding table entries sides.B) (counted table entries sides.A)
      (counted table entries sides.B))

  -- the result for B, by the number for both ends
  pub says_of_b : now ≡ entries → a ≡ finding table entries sides.A → b ≡ finding table entries sides.B
      → number ≡ option_or (no_message_at a (length entries)) (no_message_at b (length entries))
      → (earlier : Option Finding) → earlier ≡ found_before table entries sides.B number
      → result_by table c sides.B now b earlier ≡ result_of table c entries sides.B
  says_of_b stays of_a of_b is earlier is_earlier =
      rw (is_earlier, is, stays, of_a, of_b)
      (with_before table c entries sides.B (items_before (map item_of entries)) (length entries)
      (finding table entries sides.A) (finding table entries sides.B) (counted table entries sides.A)
      (counted table entries sides.B))
