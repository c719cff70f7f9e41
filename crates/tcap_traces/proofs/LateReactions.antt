-- An unreadable entry after all entries of a dialogue changes no result for an end whose peer sent a malformed message.
use Rattle.std.proofs.Common.{arith, ◌≡◌, ◌⊎◌, inl, inr, ℕ, zero, suc, ◌+◌, ◌<◌, ◌≤◌, Bool, true, false, cond, List, [], ◌∷◌, drop, drop_of_length-le, length, length-drop, length-take, take, Option, Some, None, refl, sym, ap, ◌∙◌, subst}
use Rattle.std.specs.Prelude.{◌&&◌, is_some, nat_le, nat_lt, not, option_map, slice_get}
use Rattle.std.specs.List.{find, list_all, position_from, prefix_len}
use Rattle.std.proofs.lemmas.Bool.{leb-false, leb-true, lt-leb}
use Rattle.tcap_record.specs.declared.entry.End.{End as Side}
use Rattle.tcap_record.specs.declared.entry.Entry.{Entry}
use Rattle.tcap_record.specs.Ends.{other}
use Rattle.tcap_end.specs.Table.{Table}
use Rattle.tcap_refute.specs.declared.kind.Refutation.{Refutation}
use Rattle.tcap_readings.specs.declared.malformed.Malformed.{Malformed}
use Rattle.tcap_readings.specs.declared.reactions.Reaction.TheVariants as reactions
use Rattle.tcap_readings.specs.Malformed.{first_malformed, is_over_limit, next_malformed, within_limits}
use Rattle.tcap_readings.specs.Reactions.{answer, goes_on_at, is_sole, is_wrong_at, reacts}
use Rattle.tcap_judge.specs.declared.findings.Finding.{Finding}
use Rattle.tcap_judge.specs.declared.findings.Finding.TheVariants as findings
use Rattle.tcap_judge.specs.BlameOutcome.{finding}
use Rattle.tcap_traces.specs.declared.end_result.Circumstances.{Circumstances}
use Rattle.tcap_traces.specs.declared.end_result.Doubt.{Doubt}
use Rattle.tcap_traces.specs.declared.end_result.Doubt.TheVariants as doubts
use Rattle.tcap_traces.specs.declared.end_result.EndResult.{EndResult}
use Rattle.tcap_traces.specs.declared.end_result.EndResult.TheVariants as end_results
use Rattle.tcap_traces.specs.declared.end_result.ReactionFault.{ReactionFault}
use Rattle.tcap_traces.specs.declared.end_result.ReactionFault.TheVariants.{GoesOn, Wrong}
use Rattle.tcap_traces.specs.declared.reaction.ReadingResult.{ReadingResult}
use Rattle.tcap_traces.specs.declared.reaction.Wanted.TheVariants as wanted
use Rattle.tcap_traces.specs.Pieces.{TraceEntry}
use Rattle.tcap_traces.specs.Verdict.{fails, is_begun_by_peer, is_from}
use Rattle.tcap_traces.specs.Reaction.{blame_in, blamed_by_all, fails_by, fails_with, goes_on, goes_on_after, is_wanted, is_wrong as is_wrong_result, is_wrong_blame, judged_by, judged_result, last_blame, later, result_after_by, result_by_found, result_from, result_from_by, results_of}
use Rattle.tcap_traces.specs.ReactionMeaning.{malformed_in}
use Rattle.tcap_traces.proofs.LateResults.{at_fault_within, said_late, same_doubt}
use Rattle.tcap_traces.proofs.ReactionLaws.{both_of}

-- ---- numbers of entries

position_within : (test : Entry → Bool) (n : ℕ) (entries : List Entry) (k : ℕ) → position_from test n entries ≡ Some k
    → k < n + length entries
position_within test n [] k is = cc
position_within test n (entry ∷ entries) k is = by (test entry) is (position_within test (n + 1) entries k)
  where
    by : (passes : Bool) → cond passes (Some n) (position_from test (n + 1) entries) ≡ Some k
        → (position_from test (n + 1) entries ≡ Some k → k < (n + 1) + length entries) → k < n + length (entry ∷ entries)
    by true found rest = let same : n ≡ k = cc in omega (same, arith)
    by false found rest = let more = rest found in omega (more, arith)

position_behind : (test : Entry → Bool) (n : ℕ) (entries : List Entry) (k : ℕ) → position_from test n (drop n entries) ≡ Some k
    → k < length entries
position_behind test n entries k is = by (nat_le n (length entries)) refl
  where
    by : (some : Bool) → nat_le n (length entries) ≡ some → k < length entries
    by true le =
        let most = leb-true n (length entries) le in
        let within = position_within test n (drop n entries) k is in
        let rest = length-drop n entries in
        omega (most, within, rest, arith)
    by false le =
        let more = leb-false n (length entries) le in
        let none : drop n entries ≡ [] = drop_of_length-le entries {i = n} (omega (more, arith)) in
        let found : position_from test n [] ≡ Some k = sym (ap (position_from test n) none) ∙ is in
        cc

within_few : (entries : List Entry) → length (within_limits entries) ≤ length entries
within_few entries =
    let taken = length-take (prefix_len (λ entry. not (is_over_limit entry)) entries) entries in omega (taken, arith)

get_beyond : (n : ℕ) (entries : List Entry) → length entries ≤ n → slice_get entries n ≡ None
get_beyond n [] le = refl
get_beyond zero (entry ∷ entries) le = absurd (omega (le, arith))
get_beyond (suc n) (entry ∷ entries) le = get_beyond n entries (omega (le, arith))

wrong_beyond : (m : Malformed) (n : ℕ) (entries : List Entry) → slice_get entries n ≡ None → is_wrong_at m n entries ≡ false
wrong_beyond m n entries none = rw none refl

wrong_within : (m : Malformed) (n : ℕ) (entries : List Entry) → is_wrong_at m n entries ≡ true → n < length entries
wrong_within m n entries is = by (nat_le (length entries) n) refl
  where
    by : (beyond : Bool) → nat_le (length entries) n ≡ beyond → n < length entries
    by true le =
        let no = wrong_beyond m n entries (get_beyond n entries (leb-true (length entries) n le)) in
        let both : false ≡ true = sym no ∙ is in
        cc
    by false le = let more = leb-false (length entries) n le in omega (more, arith)

-- ---- the last blame is one of the blames

module _ (m : Malformed) (entries : List Entry) where
  abbrev IsWrong : Option Refutation → Type 0
  IsWrong None = Unit {0}
  IsWrong (Some r) = is_wrong_at m r.entry entries ≡ true

  later_wrong : (one two : Option Refutation) → IsWrong one → IsWrong two → IsWrong (later one two)
  later_wrong None two so also = also
  later_wrong (Some a) None so also = so
  later_wrong (Some a) (Some b) so also = by (nat_lt a.entry b.entry)
    where
      by : (less : Bool) → IsWrong (cond less (Some b) (Some a))
      by true = also
      by false = so

  blame_wrong : (o : Option Refutation) → is_wrong_blame m entries o ≡ true → IsWrong o
  blame_wrong None is = tt
  blame_wrong (Some r) is = is

  last_wrong : (last : Option Refutation) (xs : List ReadingResult) → IsWrong last → list_all (is_wrong_result m entries) xs ≡ true
      → IsWrong (last_blame last xs)
  last_wrong last [] so all = so
  last_wrong last (x ∷ xs) so all =
      let (first, more) = both_of (is_wrong_result m entries x) (list_all (is_wrong_result m entries) xs) all in
      last_wrong (later last (blame_in x)) xs (later_wrong last (blame_in x) so (blame_wrong (blame_in x) first)) more

-- ---- the result

module _ (table : Table) (c : Circumstances) (none : c.unread_from ≡ None) (n : ℕ) (side : Side) where
  abbrev late : Circumstances
  late = record c { unread_from = Some n }

  abbrev doubt_with : Bool → Option Doubt
  doubt_with unread =
      cond c.under_way (Some doubts.UnderWay)
      (cond c.early_mark (Some doubts.EarlyMark)
      (cond c.again (Some doubts.CameAgain)
      (cond (is_begun_by_peer c.began side) (Some doubts.UsedBefore)
      (cond unread (Some doubts.Unread) None))))

  fault_late : (fault : ReactionFault) (entry : ℕ) → entry < n → fails_by late side fault entry ≡ fails_by c side fault entry
  fault_late fault entry below =
      let above : nat_le n entry ≡ false = lt-leb n entry below in
      ap (λ b. fails_with fault (doubt_with b)) (above ∙ sym (ap (λ o. is_from o entry) none))

  module _ (sent : List TraceEntry) (entries : List Entry) (few : length entries ≤ n) where
    abbrev within : List Entry
    within = within_limits entries

    blames_late : (m : Malformed) (last : Option Refutation) (all : Bool)
        → last_blame None (results_of table c side m within) ≡ last
        → list_all (is_wrong_result m within) (results_of table c side m within) ≡ all
        → blamed_by_all late side m last all ≡ blamed_by_all c side m last all
    blames_late m None all is are = refl
    blames_late m (Some r) false is are = refl
    blames_late m (Some r) true is are =
        let wrong : IsWrong m within (Some r) = subst (IsWrong m within) is (last_wrong m within None (results_of table c side m within) tt are) in
        let below = wrong_within m r.entry within wrong in
        fault_late (Wrong r) r.entry (omega (below, within_few entries, few, arith))

    found_late : (m : Malformed) (pass sure : Option ReadingResult) (lawful : Bool)
        → result_by_found late side m entries (results_of table c side m within) pass sure lawful
        ≡ result_by_found c side m entries (results_of table c side m within) pass sure lawful
    found_late m (Some x) sure lawful = refl
    found_late m None (Some x) lawful = refl
    found_late m None None true = refl
    found_late m None None false =
        ap (cond (is_some (find (is_wanted wanted.Unclear) (results_of table c side m within))) (end_results.UnclearReading m.number))
        (blames_late m (last_blame None (results_of table c side m within))
        (list_all (is_wrong_result m within) (results_of table c side m within)) refl refl)

    on_within : (m : Malformed) (sole : Bool) (o : Option ℕ) (found : ℕ × ℕ)
        → cond sole (goes_on_after m within o) None ≡ Some found → found.1 < length within
    on_within m false o found is = cc
    on_within m true None found is = cc
    on_within m true (Some at) found is = by (goes_on_at m at within) refl is
      where
        by : (k : Option ℕ) → goes_on_at m at within ≡ k → option_map (λ entry. (at, entry)) k ≡ Some found → found.1 < length within
        by None none so = cc
        by (Some k) some so =
            let same : (at, k) ≡ found = cc in
            let below = position_behind (reacts reactions.GoingOn m) (suc at) within k some in
            subst (λ (f : ℕ × ℕ). f.1 < length within) same below

    after_late : (m : Malformed) (found : Option (ℕ × ℕ)) → goes_on m within ≡ found
        → result_after_by table late side m entries found ≡ result_after_by table c side m entries found
    after_late m (Some found) is =
        let below = on_within m (is_sole m within) (answer m within) found is in
        fault_late (GoesOn found.0 found.1) found.1 (omega (below, within_few entries, few, arith))
    after_late m None is =
        found_late m (find (is_wanted wanted.Pass) (results_of table c side m within))
        (find (is_wanted wanted.SurelyLawful) (results_of table c side m within))
        (is_some (find (is_wanted wanted.Lawful) (results_of table c side m within)))

    from_late : (number : ℕ) (found : Finding) → found ≡ finding table (take number entries) side → (second : Option ℕ)
        → result_from_by table late side sent entries number found second
        ≡ result_from_by table c side sent entries number found second
    from_late number (findings.Blamed r) is second =
        let below = at_fault_within table (take number entries) side r (sym is) in
        let taken = length-take number entries in
        ap (fails r) (same_doubt table c none (take number entries) n (omega (taken, few, arith)) side r below)
    from_late number (findings.Lawful all unheard) is (Some second) = refl
    from_late number (findings.NotBlamed all) is (Some second) = refl
    from_late number (findings.Lawful all unheard) is None = after_late (malformed_in side sent number) (goes_on (malformed_in side sent number) within) refl
    from_late number (findings.NotBlamed all) is None = after_late (malformed_in side sent number) (goes_on (malformed_in side sent number) within) refl

    -- The result for an end does not change with an unreadable entry after all entries.
    pub judged_late : judged_result table late sent entries side ≡ judged_result table c sent entries side
    judged_late = by (first_malformed (other side) within)
      where
        by : (number : Option ℕ)
            → judged_by table late sent entries side (option_map (result_from table late side sent entries) number)
            ≡ judged_by table c sent entries side (option_map (result_from table c side sent entries) number)
        by None = said_late table c none entries n few side
        by (Some number) =
            from_late number (finding table (take number entries) side) refl (next_malformed (other side) number within)
