-- What the verdicts `pass` and `fail` on a trace mean, by their definitions alone.
use Rattle.std.proofs.Common.{arith, ◌≡◌, ◌⊎◌, inl, inr, ℕ, suc, ◌+◌, ◌≤◌, Bool, true, false, cond, List, [], ◌∷◌, ◌++◌, length, map, take, take_all, Option, Some, None, refl, sym, ap, subst, ◌∙◌}
use Rattle.std.specs.Prelude.{◌==◌, ◌&&◌, ◌||◌, All, Contains, filter, is_some, nat_le, nat_lt, option_map}
use Rattle.std.specs.List.{AllByRecursion, list_any}
use Rattle.std.proofs.lemmas.Bool.{eqb-false, leb-false, leb-true, lt-ltb, ltb-false, or_parts}
use Rattle.std.proofs.lemmas.List.Elements.{All-append, All-contains, All-from_recursion, All-nil}
use Rattle.tcap_record.specs.declared.entry.End.{End as Side}
use Rattle.tcap_record.specs.declared.entry.End.TheVariants as sides
use Rattle.tcap_record.specs.declared.entry.Entry.{Entry as JudgedEntry}
use Rattle.tcap_books.specs.Book.{NamedTable}
use Rattle.tcap_certificate.specs.Replay.{is_judged}
use Rattle.tcap_dialogues.specs.Course.{Course}
use Rattle.tcap_dialogues.proofs.CutLists.{first_in, later_in, none_in}
use Rattle.tcap_refute.specs.declared.kind.Refutation.{Refutation}
use Rattle.tcap_traces.specs.declared.judging.Ends.{Ends}
use Rattle.tcap_traces.specs.declared.end_result.Circumstances.{Circumstances}
use Rattle.tcap_traces.specs.declared.end_result.EndResult.{EndResult}
use Rattle.tcap_traces.specs.declared.end_result.EndResult.TheVariants as end_results
use Rattle.tcap_traces.specs.declared.pieces.FormRule.{FormRule}
use Rattle.tcap_traces.specs.declared.verdict.Verdict.{Verdict}
use Rattle.tcap_traces.specs.declared.verdict.Verdict.TheVariants as verdicts
use Rattle.tcap_traces.specs.Pieces.{Entry, TraceEntry, pieces_of}
use Rattle.tcap_traces.specs.TableChoice.{Choice, choice}
use Rattle.tcap_traces.specs.Dialogue.{Dialogue, EndAfter, circumstances, ends_by, ends_on, entry_of, is_marked, is_open, judged_ends, judged_entries, most, quiet_mark, verdict_by}
use Rattle.tcap_traces.specs.Segments.{Before, Segment, before_next, courses_in, dialogue_of, empty, nothing_before, segments_of}
use Rattle.tcap_faults.specs.BlameMeaning.{IsAtFaultOf}
use Rattle.tcap_traces.specs.declared.end_result.Taken.{Taken}
use Rattle.tcap_traces.specs.Reaction.{judged_result}
use Rattle.tcap_traces.specs.ReactionMeaning.{IsTrueJudgement, MayHaveReacted}
use Rattle.tcap_traces.specs.ResultMeaning.{MayHaveSentUnheard}
use Rattle.tcap_traces.specs.ResultOfEnd.{result_at}
use Rattle.tcap_traces.specs.Verdict.{rank, verdict_asked, verdict_of, worse}
use Rattle.tcap_traces.specs.JudgedTrace.{Asked, JudgedDialogue, all_in, breaks_off, end_of, is_reported, judged, judged_trace, readable_in, reported_from, reported_in, verdict_on, worst}
use Rattle.tcap_traces.specs.TraceMeaning.{IsAtFaultIn, IsFailure, MayHaveSentPart, MeansFail, MeansPass, all_entries, blamed_by}
use Rattle.tcap_traces.proofs.ReactionLaws.{IsSureIfPass, judged_true}
use Rattle.tcap_traces.proofs.ResultLaws.{IsSure}
use Rattle.tcap_traces.proofs.TraceEntriesLaws.{IsReadable, IsReportedIn, are_whole, from_segment, in_segment, in_some, some_readable}

-- ---- the worst verdict

least : (verdict : Verdict) → rank verdict ≡ 0 → verdict ≡ verdicts.Pass
least verdicts.Pass is = refl
least verdicts.Inconclusive is = cc
least verdicts.Fail is = cc
least verdicts.Error is = cc

both_pass : (a b : Verdict) → worse a b ≡ verdicts.Pass → (a ≡ verdicts.Pass) × (b ≡ verdicts.Pass)
both_pass a b is = by (nat_le (rank a) (rank b)) refl is
  where
    by : (below : Bool) → nat_le (rank a) (rank b) ≡ below → cond below b a ≡ verdicts.Pass → (a ≡ verdicts.Pass) × (b ≡ verdicts.Pass)
    by true below so =
        let none : rank b ≡ 0 = ap rank so in
        let most = leb-true (rank a) (rank b) below in
        (least a (omega (none, most, arith)), so)
    by false below so =
        let none : rank a ≡ 0 = ap rank so in
        let more = leb-false (rank a) (rank b) below in
        absurd (omega (none, more, arith))

-- the worse of two verdicts is one of them
one_of : (a b : Verdict) → (worse a b ≡ a) ⊎ (worse a b ≡ b)
one_of a b = by (nat_le (rank a) (rank b))
  where
    by : (less : Bool) → (cond less b a ≡ a) ⊎ (cond less b a ≡ b)
    by true = inr refl
    by false = inl refl

module _ (asked : Asked) where
  each_passes : (js : List JudgedDialogue) → worst (map (verdict_on asked) js) ≡ verdicts.Pass
      → AllByRecursion (λ j. verdict_on asked j ≡ verdicts.Pass) js
  each_passes [] is = tt
  each_passes (j ∷ js) is =
      let both = both_pass (verdict_on asked j) (worst (map (verdict_on asked) js)) is in (both.0, each_passes js both.1)

  some_fails : (js : List JudgedDialogue) → worst (map (verdict_on asked) js) ≡ verdicts.Fail
      → (j : JudgedDialogue) × Contains js j × (verdict_on asked j ≡ verdicts.Fail)
  some_fails [] is = cc
  some_fails (j ∷ js) is = by (one_of (verdict_on asked j) (worst (map (verdict_on asked) js))) (some_fails js)
    where
      by : (worse (verdict_on asked j) (worst (map (verdict_on asked) js)) ≡ verdict_on asked j)
          ⊎ (worse (verdict_on asked j) (worst (map (verdict_on asked) js)) ≡ worst (map (verdict_on asked) js))
          → (worst (map (verdict_on asked) js) ≡ verdicts.Fail → (x : JudgedDialogue) × Contains js x × (verdict_on asked x ≡ verdicts.Fail))
          → (x : JudgedDialogue) × Contains (j ∷ js) x × (verdict_on asked x ≡ verdicts.Fail)
      by (inl same) rest = (j, first_in j js, sym same ∙ is)
      by (inr same) rest = let (x, has, so) = rest (sym same ∙ is) in (x, later_in j x js has, so)

-- the verdict is no error
not_error : (faulty broken none : Bool) (all said : Verdict) → (said ≡ verdicts.Error → ⊥)
    → cond ((faulty || broken) || none) verdicts.Error all ≡ said
    → (faulty ≡ false) × (broken ≡ false) × (none ≡ false) × (all ≡ said)
not_error true broken none all said other is = absurd (other (sym is))
not_error false true none all said other is = absurd (other (sym is))
not_error false false true all said other is = absurd (other (sym is))
not_error false false false all said other is = (refl, refl, refl, is)

pass_other : verdicts.Pass ≡ verdicts.Error → ⊥
pass_other is = cc

fail_other : verdicts.Fail ≡ verdicts.Error → ⊥
fail_other is = cc

no_fault : (fault : Option FormRule) → is_some fault ≡ false → fault ≡ None
no_fault None is = refl
no_fault (Some rule) is = cc

-- ---- the judged ends

-- each judged end passes
asked_passes : (asked : Option Side) (ends : Ends) → verdict_asked asked ends.a ends.b ≡ verdicts.Pass → (side : Side)
    → is_judged asked side ≡ true → verdict_of (result_at side ends) ≡ verdicts.Pass
asked_passes None ends is sides.A so = (both_pass (verdict_of ends.a) (verdict_of ends.b) is).0
asked_passes None ends is sides.B so = (both_pass (verdict_of ends.a) (verdict_of ends.b) is).1
asked_passes (Some sides.A) ends is sides.A so = is
asked_passes (Some sides.A) ends is sides.B so = cc
asked_passes (Some sides.B) ends is sides.A so = cc
asked_passes (Some sides.B) ends is sides.B so = is

-- a judged end fails
asked_fails : (asked : Option Side) (ends : Ends) → verdict_asked asked ends.a ends.b ≡ verdicts.Fail
    → (side : Side) × (is_judged asked side ≡ true) × (verdict_of (result_at side ends) ≡ verdicts.Fail)
asked_fails None ends is = by (one_of (verdict_of ends.a) (verdict_of ends.b))
  where
    by : (worse (verdict_of ends.a) (verdict_of ends.b) ≡ verdict_of ends.a)
        ⊎ (worse (verdict_of ends.a) (verdict_of ends.b) ≡ verdict_of ends.b)
        → (side : Side) × (is_judged None side ≡ true) × (verdict_of (result_at side ends) ≡ verdicts.Fail)
    by (inl same) = (sides.A, refl, sym same ∙ is)
    by (inr same) = (sides.B, refl, sym same ∙ is)
asked_fails (Some sides.A) ends is = (sides.A, refl, is)
asked_fails (Some sides.B) ends is = (sides.B, refl, is)

-- a dialogue whose verdict is no error has results
has_results : (of : Option Side) (ends : Option Ends) (said : Verdict) → (said ≡ verdicts.Error → ⊥) → verdict_by of ends ≡ said
    → (results : Ends) × (ends ≡ Some results) × (verdict_asked of results.a results.b ≡ said)
has_results of None said other is = absurd (other (sym is))
has_results of (Some results) said other is = (results, refl, is)

-- ---- the results of a dialogue

-- the result for an end is that of the table that the entries choose
of_table : (o : Option NamedTable) (c : Circumstances) (sent : List TraceEntry) (entries : List JudgedEntry) (ends : Ends)
    → ends_by (option_map (λ table. table.table) o) c sent entries ≡ Some ends → (side : Side)
    → (table : NamedTable) × (o ≡ Some table) × (result_at side ends ≡ judged_result table.table c sent entries side)
of_table None c sent entries ends is side = cc
of_table (Some table) c sent entries ends is side =
    let same : both ≡ ends = cc in
    (table, refl, by side same)
  where
    both : Ends
    both = judged_ends table.table c sent entries

    by : (s : Side) → both ≡ ends → result_at s ends ≡ judged_result table.table c sent entries s
    by sides.A same = sym (ap (result_at sides.A) same)
    by sides.B same = sym (ap (result_at sides.B) same)

-- the judged entries of a dialogue that is not cut are all its entries
all_judged : (entries : List TraceEntry) (marked : Bool) (n : ℕ)
    → (nat_lt n (length entries) || (marked && length entries == n)) ≡ false
    → map entry_of (take n entries) ++ cond (marked && nat_lt (length entries) n) (quiet_mark ∷ []) []
    ≡ map entry_of entries ++ cond marked (quiet_mark ∷ []) []
all_judged entries marked n is =
    let (few, other) = or_parts (nat_lt n (length entries)) (marked && length entries == n) is in
    let within : length entries ≤ n = ltb-false n (length entries) few in
    ap (λ es. map entry_of es ++ cond (marked && nat_lt (length entries) n) (quiet_mark ∷ []) []) (take_all n entries within)
    ∙ ap (λ b. map entry_of entries ++ cond b (quiet_mark ∷ []) []) (by marked other within)
  where
    by : (m : Bool) → (m && length entries == n) ≡ false → length entries ≤ n → (m && nat_lt (length entries) n) ≡ m
    by false differs within = refl
    by true differs within =
        let other : length entries ≡ n → ⊥ = eqb-false (length entries) n differs in
        lt-ltb (length entries) n (omega (other, within, arith))

module _ (asked : Asked) (d : Dialogue) where
  abbrev found : Choice
  found = choice asked.tables (judged_entries d)

  abbrev under : Circumstances
  under = circumstances asked.question found d

  -- the result for an end is true
  abbrev IsTrueFor : NamedTable → Side → EndResult → Type 0
  IsTrueFor table side said = IsTrueJudgement side table.table d.entries (judged_entries d) said × IsSureIfPass under said

  true_for : (ends : Ends) (side : Side) → ends_on asked.tables asked.question d ≡ Some ends
      → (table : NamedTable) × (found.table ≡ Some table) × IsTrueFor table side (result_at side ends)
  true_for ends side is =
      let (table, chosen, said) = of_table found.table under d.entries (judged_entries d) ends is side in
      (table, chosen, subst (IsTrueFor table side) (sym said) (judged_true side table.table d.entries under (judged_entries d)))

  -- an end that is blamed is at fault
  blame_so : (table : NamedTable) → found.table ≡ Some table → (side : Side) (r : Refutation) (said : EndResult)
      → IsTrueFor table side said → blamed_by said ≡ Some r → IsAtFaultIn asked d side r
  blame_so table chosen side r (end_results.Fail at) so is =
      let same : at ≡ r = cc in
      record { table = table; chosen = chosen; at_fault = subst (IsAtFaultOf table.table side (judged_entries d)) same so.0 }
  blame_so table chosen side r (end_results.Doubtful at doubt) so is =
      let same : at ≡ r = cc in
      record { table = table; chosen = chosen; at_fault = subst (IsAtFaultOf table.table side (judged_entries d)) same so.0 }
  blame_so table chosen side r said so is = cc

  pub is_at_fault : (ends : Ends) (side : Side) (r : Refutation) → ends_on asked.tables asked.question d ≡ Some ends
      → blamed_by (result_at side ends) ≡ Some r → IsAtFaultIn asked d side r
  is_at_fault ends side r is blames =
      let (table, chosen, so) = true_for ends side is in blame_so table chosen side r (result_at side ends) so blames

  -- an end that fails is at fault, or its reaction is
  failure_so : (table : NamedTable) → found.table ≡ Some table → (side : Side) (said : EndResult)
      → IsTrueFor table side said → verdict_of said ≡ verdicts.Fail → IsFailure asked d side said
  failure_so table chosen side (end_results.Fail r) so is = record { table = table; chosen = chosen; at_fault = so.0 }
  failure_so table chosen side (end_results.FailBy fault) so is = record { table = table; chosen = chosen; faulty = so.0 }
  failure_so table chosen side said so is = cc

  pub is_failure : (ends : Ends) (side : Side) → ends_on asked.tables asked.question d ≡ Some ends
      → verdict_of (result_at side ends) ≡ verdicts.Fail → IsFailure asked d side (result_at side ends)
  is_failure ends side is fails =
      let (table, chosen, so) = true_for ends side is in failure_so table chosen side (result_at side ends) so fails

  none_below : (n : ℕ) → nat_lt 0 n ≡ false → n ≡ 0
  none_below n is = let few = ltb-false 0 n is in omega (few, arith)

  -- the end may have sent its part of these entries, or of a reading of them
  abbrev IsSent : Side → NamedTable → ℕ → List JudgedEntry → Type 0
  IsSent side table unheard entries = MayHaveSentUnheard side table.table entries unheard
      ⊎ ((taken : Taken) × MayHaveReacted side table.table d.entries entries taken unheard)

  part_by : (entries : List JudgedEntry) → entries ≡ all_entries d → (side : Side) (table : NamedTable)
      → (choice asked.tables entries).table ≡ Some table → (choice asked.tables entries).unsure ≡ false
      → (unheard : ℕ) → IsSent side table unheard entries → (asked.question.heard && nat_lt 0 unheard) ≡ false
      → (asked.question.complete && is_open d (choice asked.tables entries).table) ≡ false → MayHaveSentPart asked d side
  part_by entries is side table chosen sure unheard sent heard over = record {
    table = table;
    chosen = subst (λ es. (choice asked.tables es).table ≡ Some table) is chosen;
    sure = subst (λ es. (choice asked.tables es).unsure ≡ false) is sure;
    unheard = unheard;
    sent = subst (IsSent side table unheard) is sent;
    heard = λ should. none_below unheard (sym (ap (λ b. b && nat_lt 0 unheard) should) ∙ heard);
    complete = λ should. sym (ap (λ b. b && is_open d (Some table)) should) ∙ sym (ap (λ t. asked.question.complete && is_open d t) chosen) ∙ over;
  }

  -- an end that passes may have sent its part
  pass_so : (table : NamedTable) → found.table ≡ Some table → (side : Side) (unheard : ℕ) → IsSure under unheard
      → IsSent side table unheard (judged_entries d) → MayHaveSentPart asked d side
  pass_so table chosen side unheard sure sent =
      part_by (judged_entries d) (all_judged d.entries (is_marked d.after) most sure.not_cut) side table chosen sure.sure
      unheard sent sure.heard sure.over

  lawful_so : (table : NamedTable) → found.table ≡ Some table → (side : Side) (said : EndResult)
      → IsTrueFor table side said → verdict_of said ≡ verdicts.Pass → MayHaveSentPart asked d side
  lawful_so table chosen side (end_results.Pass unheard) so is = pass_so table chosen side unheard so.1 (inl so.0)
  lawful_so table chosen side (end_results.PassBy taken unheard) so is =
      pass_so table chosen side unheard so.1 (inr (taken, so.0))
  lawful_so table chosen side said so is = cc

  pub is_lawful : (ends : Ends) (side : Side) → ends_on asked.tables asked.question d ≡ Some ends
      → verdict_of (result_at side ends) ≡ verdicts.Pass → MayHaveSentPart asked d side
  is_lawful ends side is passes =
      let (table, chosen, so) = true_for ends side is in lawful_so table chosen side (result_at side ends) so passes

-- ---- the dialogues of a trace

-- the results of a judged dialogue are those by definition
abbrev IsJudged : Asked → JudgedDialogue → Type 0
IsJudged asked j = j.ends ≡ ends_on asked.tables asked.question j.dialogue

module _ (asked : Asked) where
  judged_in : (before : Before) (count : ℕ) (s : Segment) (ds : List Course)
      → AllByRecursion (IsJudged asked) (filter (is_reported asked) (map (λ d. judged asked count (dialogue_of before s d)) ds))
  judged_in before count s [] = tt
  judged_in before count s (d ∷ ds) = by (is_reported asked (judged asked count (dialogue_of before s d))) (judged_in before count s ds)
    where
      rest : List JudgedDialogue
      rest = filter (is_reported asked) (map (λ x. judged asked count (dialogue_of before s x)) ds)

      by : (b : Bool) → AllByRecursion (IsJudged asked) rest
          → AllByRecursion (IsJudged asked) (cond b (judged asked count (dialogue_of before s d) ∷ rest) rest)
      by true more = (refl, more)
      by false more = more

  are_judged : (segments : List Segment) (before : Before) (count : ℕ) → All (IsJudged asked) (reported_from asked before count segments)
  are_judged [] before count = All-nil (IsJudged asked)
  are_judged (s ∷ segments) before count =
      All-append (IsJudged asked) (reported_in asked before count s)
      (reported_from asked (before_next before s (all_in (courses_in asked.reuse before s))) (count + suc (length s.entries)) segments)
      (All-from_recursion (IsJudged asked) (reported_in asked before count s) (judged_in before count s (all_in (courses_in asked.reuse before s))))
      (are_judged segments (before_next before s (all_in (courses_in asked.reuse before s))) (count + suc (length s.entries)))

  -- ---- the laws

  module _ (octets : List ℕ) where
    is_judged_so : (j : JudgedDialogue) → Contains (judged_trace asked octets).dialogues j → IsJudged asked j
    unfolding judged_trace
    is_judged_so j has =
        All-contains (IsJudged asked) (judged_trace asked octets).dialogues j
        (are_judged (segments_of (end_of (pieces_of octets).fault) (pieces_of octets).pieces) nothing_before 0) has

    pub each_at_fault : (j : JudgedDialogue) (ends : Ends) (side : Side) (r : Refutation)
        → Contains (judged_trace asked octets).dialogues j → j.ends ≡ Some ends
        → blamed_by (result_at side ends) ≡ Some r → IsAtFaultIn asked j.dialogue side r
    each_at_fault j ends side r has is blames = is_at_fault asked j.dialogue ends side r (sym (is_judged_so j has) ∙ is) blames

    -- the verdict is no error
    abbrev IsNoError : Verdict → Type 0
    IsNoError said = ((pieces_of octets).fault ≡ None) × (list_any breaks_off (pieces_of octets).pieces ≡ false)
        × ((readable_in (segments_of (end_of (pieces_of octets).fault) (pieces_of octets).pieces) == 0) ≡ false)
        × (worst (map (verdict_on asked) (judged_trace asked octets).dialogues) ≡ said)

    no_error : (said : Verdict) → (said ≡ verdicts.Error → ⊥) → (judged_trace asked octets).verdict ≡ said → IsNoError said
    unfolding judged_trace
    no_error said other is =
        let (faulty, broken, none, all) = not_error (is_some (pieces_of octets).fault) (list_any breaks_off (pieces_of octets).pieces)
        (readable_in (segments_of (end_of (pieces_of octets).fault) (pieces_of octets).pieces) == 0)
        (worst (map (verdict_on asked) (judged_trace asked octets).dialogues)) said other is in
        (no_fault (pieces_of octets).fault faulty, broken, none, all)

    each_lawful : (j : JudgedDialogue) (side : Side) → IsJudged asked j → verdict_on asked j ≡ verdicts.Pass
        → is_judged asked.question.of side ≡ true → MayHaveSentPart asked j.dialogue side
    each_lawful j side so is asked_of =
        let (ends, has, said) = has_results asked.question.of j.ends verdicts.Pass pass_other is in
        is_lawful asked j.dialogue ends side (sym so ∙ has) (asked_passes asked.question.of ends said side asked_of)

    abbrev all_segments : List Segment
    all_segments = segments_of EndAfter (pieces_of octets).pieces

    of_pieces : (entry : TraceEntry) → Contains (pieces_of octets).pieces (Entry entry) ⊎ Contains [] entry
        → Contains (pieces_of octets).pieces (Entry entry)
    of_pieces entry (inl has) = has
    of_pieces entry (inr none) = absurd (none_in entry none)

    readable_one : (readable_in all_segments == 0) ≡ false
        → (entry : TraceEntry) × Contains (pieces_of octets).pieces (Entry entry) × IsReadable entry
    readable_one some =
        let (entry, (s, has, own), so) = some_readable all_segments some in
        (entry, of_pieces entry (from_segment EndAfter entry (pieces_of octets).pieces (empty EndAfter) s has own), so)

    is_whole : (pieces_of octets).fault ≡ None → (entry : TraceEntry) → Contains (pieces_of octets).pieces (Entry entry)
        → IsReportedIn entry (judged_trace asked octets).dialogues
    unfolding judged_trace
    is_whole formed entry has =
        subst (λ f. IsReportedIn entry (reported_from asked nothing_before 0 (segments_of (end_of f) (pieces_of octets).pieces))) (sym formed)
        (in_some asked entry all_segments nothing_before 0 (are_whole (pieces_of octets).pieces (empty EndAfter))
        (in_segment EndAfter entry (pieces_of octets).pieces (empty EndAfter) (inl has)))

    pub pass_means : (judged_trace asked octets).verdict ≡ verdicts.Pass → MeansPass asked octets
    pass_means is =
        let (formed, unbroken, some, all) = no_error verdicts.Pass pass_other is in
        record {
          formed = formed;
          unbroken = unbroken;
          readable = readable_one (subst (λ f. (readable_in (segments_of (end_of f) (pieces_of octets).pieces) == 0) ≡ false) formed some);
          whole = is_whole formed;
          lawful = λ j side has asked_of.
              each_lawful j side (is_judged_so j has)
              (All-contains (λ x. verdict_on asked x ≡ verdicts.Pass) (judged_trace asked octets).dialogues j
              (All-from_recursion (λ x. verdict_on asked x ≡ verdicts.Pass) (judged_trace asked octets).dialogues
              (each_passes asked (judged_trace asked octets).dialogues all)) has) asked_of;
        }

    pub fail_means : (judged_trace asked octets).verdict ≡ verdicts.Fail → MeansFail asked octets
    fail_means is =
        let (formed, unbroken, some, all) = no_error verdicts.Fail fail_other is in
        let (j, has, fails) = some_fails asked (judged_trace asked octets).dialogues all in
        let (ends, results, said) = has_results asked.question.of j.ends verdicts.Fail fail_other fails in
        let (side, asked_of, failed) = asked_fails asked.question.of ends said in
        record {
          judged = j;
          has = has;
          side = side;
          is_asked = asked_of;
          ends = ends;
          results = results;
          fails = is_failure asked j.dialogue ends side (sym (is_judged_so j has) ∙ results) failed;
        }
