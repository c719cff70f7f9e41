-- The result for an end of a dialogue is true, by its definition alone, even if its peer sent malformed messages.
use Rattle.std.proofs.Common.{◌≡◌, inl, inr, ℕ, zero, suc, Bool, true, false, cond, List, [], ◌∷◌, ◌++◌, drop, length, map, take, take-append-drop, Option, Some, None, Result, Ok, refl, sym, ap, ◌∙◌, subst}
use Rattle.std.specs.Prelude.{◌&&◌, filter_map, is_some, nat_lt, not, option_map, slice_get}
use Rattle.std.specs.List.{AllByRecursion, cons_option, find, list_all, list_any}
use Rattle.std.proofs.lemmas.List.{append_assoc, map-append}
use Rattle.tcap_record.specs.declared.entry.End.{End as Side}
use Rattle.tcap_record.specs.declared.entry.Entry.{Entry}
use Rattle.tcap_record.specs.Ends.{other}
use Rattle.tcap_end.specs.Table.{Table}
use Rattle.tcap_model.specs.declared.reason.Reason.{Reason}
use Rattle.tcap_model.specs.World.{Item, Sent}
use Rattle.tcap_model.specs.Entries.{item_of}
use Rattle.tcap_refute.specs.declared.kind.Refutation.{Refutation}
use Rattle.tcap_readings.specs.declared.malformed.Malformed.{Malformed}
use Rattle.tcap_readings.specs.declared.way.Way.{Way}
use Rattle.tcap_readings.specs.declared.way.Way.TheVariants as ways
use Rattle.tcap_readings.specs.Malformed.{first_malformed, next_malformed, within_limits}
use Rattle.tcap_readings.specs.Reactions.{is_wrong_at}
use Rattle.tcap_readings.specs.Readings.{Reading, number_in_dialogue, reading_by}
use Rattle.tcap_faults.specs.BlameMeaning.{IsAtFaultOf, IsBadEntryOf, IsFalseMark, IsFaultOf}
use Rattle.tcap_faults.proofs.kind_laws.BlamedLaws.{blamed_at_fault}
use Rattle.tcap_judge.specs.declared.findings.Finding.{Finding}
use Rattle.tcap_judge.specs.declared.findings.Finding.TheVariants.{Blamed, Lawful, NotBlamed}
use Rattle.tcap_judge.specs.BlameOutcome.{IsFound, finding}
use Rattle.tcap_traces.specs.declared.end_result.Circumstances.{Circumstances}
use Rattle.tcap_traces.specs.declared.end_result.Doubt.{Doubt}
use Rattle.tcap_traces.specs.declared.end_result.EndResult.{EndResult}
use Rattle.tcap_traces.specs.declared.end_result.EndResult.TheVariants as end_results
use Rattle.tcap_traces.specs.declared.end_result.ReactionFault.{ReactionFault}
use Rattle.tcap_traces.specs.declared.end_result.ReactionFault.TheVariants.{GoesOn, Wrong}
use Rattle.tcap_traces.specs.declared.end_result.Taken.{Taken}
use Rattle.tcap_traces.specs.declared.reaction.ReadingResult.{ReadingResult}
use Rattle.tcap_traces.specs.declared.reaction.Wanted.TheVariants as wanted
use Rattle.tcap_traces.specs.Pieces.{TraceEntry}
use Rattle.tcap_traces.specs.Verdict.{doubt_of, fails, is_of, passes, result_of}
use Rattle.tcap_traces.specs.Reaction.{all_ways, blame_of, blamed_by_all, doubt_of_reaction, fails_with, goes_on, in_dialogue, in_reading, is_lawful, is_pass, is_wanted, is_wrong, is_wrong_blame, judged_by, judged_result, last_blame, reading_result, result_after_by, result_by_found, result_by_way, result_from, result_from_by, result_with, results_of, taken_so, unheard_by}
use Rattle.tcap_traces.specs.ResultMeaning.{IsTrueResult}
use Rattle.tcap_traces.specs.ReactionMeaning.{IsAtFaultBy, IsFaultyReaction, IsFirst, IsTrueJudgement, MayHaveReacted, malformed_in}
use Rattle.tcap_traces.proofs.ResultLaws.{IsSure, found_holds, of_sure, passes_sure, result_holds}
use Rattle.tcap_traces.proofs.ShownLaws.{named_in, named_is}

-- ---- lists

pub both_of : (a b : Bool) → (a && b) ≡ true → (a ≡ true) × (b ≡ true)
both_of true b is = (refl, is)
both_of false b is = cc

get_take : (n k : ℕ) (entries : List Entry) (entry : Entry) → slice_get (take n entries) k ≡ Some entry
    → slice_get entries k ≡ Some entry
get_take zero k entries entry is = cc
get_take (suc n) k [] entry is = is
get_take (suc n) zero (one ∷ entries) entry is = is
get_take (suc n) (suc k) (one ∷ entries) entry is = get_take n k entries entry is

found_in : {X : Type 0} (P : X → Type 0) (test : X → Bool) (xs : List X) (x : X) → AllByRecursion P xs
    → find test xs ≡ Some x → P x × (test x ≡ true)
found_in P test [] x all is = cc
found_in P test (y ∷ ys) x (so, more) is = by (test y) refl is (found_in P test ys x more)
  where
    by : (passes : Bool) → test y ≡ passes → cond passes (Some y) (find test ys) ≡ Some x
        → (find test ys ≡ Some x → P x × (test x ≡ true)) → P x × (test x ≡ true)
    by true passed found rest = let same : y ≡ x = cc in (subst P same so, subst (λ z. test z ≡ true) same passed)
    by false passed found rest = rest found

-- If all results of a map pass a test, then each does.
abbrev Passes : {X Y : Type 0} → (X → Option Y) → (Y → Bool) → X → Type 0
Passes {X} {Y} f test x = (y : Y) → f x ≡ Some y → test y ≡ true

all_of : {X Y : Type 0} (f : X → Option Y) (test : Y → Bool) (xs : List X) → list_all test (filter_map f xs) ≡ true
    → AllByRecursion (Passes f test) xs
all_of f test [] is = tt
all_of {X} {Y} f test (x ∷ xs) is = by (f x) refl is (all_of f test xs)
  where
    by : (o : Option Y) → f x ≡ o → list_all test (cons_option o (filter_map f xs)) ≡ true
        → (list_all test (filter_map f xs) ≡ true → AllByRecursion (Passes f test) xs)
        → AllByRecursion (Passes f test) (x ∷ xs)
    by None none so rest = ((λ y some. let other : None ≡ Some y = sym none ∙ some in cc), rest so)
    by (Some z) some so rest =
        let (first, more) = both_of (test z) (list_all test (filter_map f xs)) so in (
          (λ y is_y. let same : Some z ≡ Some y = sym some ∙ is_y in let eq : z ≡ y = cc in subst (λ v. test v ≡ true) eq first),
          rest more,
        )

-- ---- an end that is blamed by the entries before a number

module _ (side : Side) (table : Table) (n : ℕ) (entries : List Entry) (r : Refutation) where
  joined : (before more : List (Result Item Reason)) → map item_of (take n entries) ≡ before ++ more
      → map item_of entries ≡ before ++ (more ++ map item_of (drop n entries))
  joined before more are =
      sym (ap (map item_of) (take-append-drop n entries)) ∙ map-append item_of (take n entries) (drop n entries)
      ∙ ap (λ xs. xs ++ map item_of (drop n entries)) are ∙ append_assoc before more (map item_of (drop n entries))

  -- An entry that is at fault in a beginning of the entries is at fault in all.
  fault_in_all : IsAtFaultOf table side (take n entries) r → IsAtFaultOf table side entries r
  fault_in_all (inl (kind, bad)) = inl (
    kind,
    record {
      entry = bad.entry;
      fault = bad.fault;
      there = get_take n r.entry entries bad.entry bad.there;
      side_is = bad.side_is;
      body_is = bad.body_is;
      no_limit = bad.no_limit;
    },
  )
  fault_in_all (inr (inl f)) = inr (inl (record {
    before = f.before;
    message = f.message;
    more = f.more ++ map item_of (drop n entries);
    are = joined (map (λ item. Ok item) f.before) (Ok (Sent side f.message) ∷ f.more) f.are;
    counted = f.counted;
    has_kind = f.has_kind;
    unsendable = f.unsendable;
  }))
  fault_in_all (inr (inr f)) = inr (inr (record {
    before = f.before;
    more = f.more ++ map item_of (drop n entries);
    are = joined (map (λ item. Ok item) f.before) (Ok Item.Quiet ∷ f.more) f.are;
    counted = f.counted;
    has_kind = f.has_kind;
    none = f.none;
  }))

-- the end is at fault if the finding blames it
blame_holds : (side : Side) (table : Table) (entries : List Entry) (r : Refutation)
    → Blamed r ≡ finding table entries side → IsAtFaultOf table side entries r
blame_holds side table entries r is =
    blamed_at_fault table side entries r (sym (named_is table entries side) ∙ sym (ap named_in is))

-- ---- the result by a reading

-- If an end passes by this result, no circumstance keeps it from it.
abbrev pub IsSureIfPass : Circumstances → EndResult → Type 0
IsSureIfPass c (end_results.Pass unheard) = IsSure c unheard
IsSureIfPass c (end_results.PassBy taken unheard) = IsSure c unheard
IsSureIfPass c said = Unit {0}

-- A pass without a reading is none with one.
no_reading : (under_way early_mark cut unsure over missed : Bool) (unheard : ℕ) (t : Taken) (u : ℕ)
    → cond under_way end_results.UnderWay
    (cond early_mark end_results.EarlyMark
    (cond cut end_results.TooLong
    (cond unsure end_results.UnsureTable
    (cond over end_results.Open (cond missed (end_results.Unheard unheard) (end_results.Pass unheard))))))
    ≡ end_results.PassBy t u → ⊥
no_reading true early_mark cut unsure over missed unheard t u is = cc
no_reading false true cut unsure over missed unheard t u is = cc
no_reading false false true unsure over missed unheard t u is = cc
no_reading false false false true over missed unheard t u is = cc
no_reading false false false false true missed unheard t u is = cc
no_reading false false false false false true unheard t u is = cc
no_reading false false false false false false unheard t u is = cc

sure_taken : (c : Circumstances) (t : Taken) (unheard : ℕ) (said : EndResult) → passes c unheard ≡ said
    → IsSureIfPass c (taken_so t said)
sure_taken c t unheard (end_results.Pass u) is = passes_sure c u unheard is
sure_taken c t unheard (end_results.PassBy other u) is =
    absurd (no_reading c.under_way c.early_mark c.cut c.unsure c.open (c.heard && nat_lt 0 unheard) unheard other u is)
sure_taken c t unheard said is = tt

-- No circumstance makes a pass a blame.
no_blame : (under_way early_mark cut unsure over missed : Bool) (t : Taken) (unheard : ℕ)
    → blame_of (taken_so t
    (cond under_way end_results.UnderWay
    (cond early_mark end_results.EarlyMark
    (cond cut end_results.TooLong
    (cond unsure end_results.UnsureTable
    (cond over end_results.Open (cond missed (end_results.Unheard unheard) (end_results.Pass unheard))))))))
    ≡ None
no_blame true early_mark cut unsure over missed t unheard = refl
no_blame false true cut unsure over missed t unheard = refl
no_blame false false true unsure over missed t unheard = refl
no_blame false false false true over missed t unheard = refl
no_blame false false false false true missed t unheard = refl
no_blame false false false false false true t unheard = refl
no_blame false false false false false false t unheard = refl

module _ (side : Side) (table : Table) (sent : List TraceEntry) (c : Circumstances) (entries : List Entry) (number : ℕ)
    (first : IsFirst side entries number) where
  abbrev within : List Entry
  within = within_limits entries

  abbrev m : Malformed
  m = malformed_in side sent number

  abbrev IsTrue : EndResult → Type 0
  IsTrue said = IsTrueJudgement side table sent entries said × IsSureIfPass c said

  abbrev HasEnded : Type 0
  HasEnded = list_any (is_of side) (drop (length within) entries) ≡ false

  module _ (way : Way) (reading : Reading) (is_reading : reading_by way m within ≡ Some reading) where
    abbrev taken : Taken
    taken = record { entry = number; way = way }

    taken_true : (under_way early_mark cut unsure over missed : Bool) (unheard : ℕ)
        → MayHaveReacted side table sent entries taken unheard
        → IsTrueJudgement side table sent entries (taken_so taken
        (cond under_way end_results.UnderWay
        (cond early_mark end_results.EarlyMark
        (cond cut end_results.TooLong
        (cond unsure end_results.UnsureTable
        (cond over end_results.Open (cond missed (end_results.Unheard unheard) (end_results.Pass unheard))))))))
    taken_true true early_mark cut unsure over missed unheard so = tt
    taken_true false true cut unsure over missed unheard so = tt
    taken_true false false true unsure over missed unheard so = tt
    taken_true false false false true over missed unheard so = tt
    taken_true false false false false true missed unheard so = tt
    taken_true false false false false false true unheard so = tt
    taken_true false false false false false false unheard so = so

    fails_unlawful : (r : Refutation) (doubt : Option Doubt) → is_lawful (fails r doubt) ≡ true → IsTrue (fails r doubt)
    fails_unlawful r None is = cc
    fails_unlawful r (Some doubt) is = cc

    reading_true : (found : Finding) → found ≡ finding table reading.entries side → IsFound side table reading.entries found
        → is_lawful (reading_result table c side taken reading found) ≡ true → HasEnded
        → IsTrue (reading_result table c side taken reading found)
    reading_true (Blamed at) is so lawful ended =
        fails_unlawful (in_dialogue reading at) (doubt_of table (in_reading c) side reading.entries at) lawful
    reading_true (Lawful n unheard) is so lawful ended = (
      taken_true c.under_way c.early_mark c.cut c.unsure c.open (c.heard && nat_lt 0 (unheard_by way unheard)) (unheard_by way unheard)
          (record { first = first; reading = reading; is_reading = is_reading; count = unheard; lawful = so; heard = refl; ended = ended }),
      sure_taken c taken (unheard_by way unheard) (passes c (unheard_by way unheard)) refl,
    )
    reading_true (NotBlamed n) is so lawful ended = cc

    -- An end that is blamed by the reading for a wrong entry is at fault by it.
    fails_wrong : (at : Refutation) (doubt : Option Doubt) → Blamed at ≡ finding table reading.entries side
        → is_wrong_blame m within (blame_of (fails (in_dialogue reading at) doubt)) ≡ true
        → IsAtFaultBy side table sent entries number reading
    fails_wrong at None is wrong =
        record { fault = at; at_fault = blame_holds side table reading.entries at is; wrong = wrong }
    fails_wrong at (Some doubt) is wrong = cc

    wrong_at_fault : (found : Finding) → found ≡ finding table reading.entries side
        → is_wrong_blame m within (blame_of (reading_result table c side taken reading found)) ≡ true
        → IsAtFaultBy side table sent entries number reading
    wrong_at_fault (Blamed at) is wrong = fails_wrong at (doubt_of table (in_reading c) side reading.entries at) is wrong
    wrong_at_fault (Lawful n unheard) is wrong =
        let none : is_wrong_blame m within None ≡ true =
        sym (ap (is_wrong_blame m within)
        (no_blame c.under_way c.early_mark c.cut c.unsure c.open (c.heard && nat_lt 0 (unheard_by way unheard)) taken (unheard_by way unheard)))
        ∙ wrong in
        cc
    wrong_at_fault (NotBlamed n) is wrong = cc

  -- ---- the results by all readings

  abbrev result_in : Way → Option ReadingResult
  result_in = result_by_way table c side m within

  abbrev Holds : ReadingResult → Type 0
  Holds x = is_lawful x.result ≡ true → HasEnded → IsTrue x.result

  each_true : (some : List Way) → AllByRecursion Holds (filter_map result_in some)
  each_true [] = tt
  each_true (way ∷ more) = by (reading_by way m within) refl (each_true more)
    where
      by : (o : Option Reading) → reading_by way m within ≡ o → AllByRecursion Holds (filter_map result_in more)
          → AllByRecursion Holds (cons_option (option_map (result_with table c side m within way) o) (filter_map result_in more))
      by None none rest = rest
      by (Some reading) some rest =
          ((λ lawful ended. reading_true way reading some (finding table reading.entries side) refl (found_holds side table reading.entries) lawful ended), rest)

  pick : (P : Way → Type 0) → AllByRecursion P all_ways → (way : Way) → P way
  pick P all ways.Dropped = all.0
  pick P all ways.Closed = all.1.0
  pick P all ways.InPart = all.1.1.0
  pick P all ways.Rejected = all.1.1.1.0
  pick P all ways.Aborted = all.1.1.1.1.0
  pick P all ways.Refused = all.1.1.1.1.1.0

  each_wrong : list_all (is_wrong m within) (results_of table c side m within) ≡ true
      → (way : Way) (reading : Reading) → reading_by way m within ≡ Some reading → IsAtFaultBy side table sent entries number reading
  each_wrong all way reading is =
      wrong_at_fault way reading is (finding table reading.entries side) refl
      (pick (Passes result_in (is_wrong m within)) (all_of result_in (is_wrong m within) all_ways all) way
      (result_with table c side m within way reading) (ap (option_map (result_with table c side m within way)) is))

  -- ---- the result

  fails_true : (fault : ReactionFault) (doubt : Option Doubt) → IsFaultyReaction side table sent entries fault
      → IsTrue (fails_with fault doubt)
  fails_true fault None so = (so, tt)
  fails_true fault (Some doubt) so = (so, tt)

  ended_true : (said : EndResult) (after : Bool) → list_any (is_of side) (drop (length within) entries) ≡ after
      → (HasEnded → IsTrue said) → IsTrue (cond after (end_results.AfterBadEntry (length within)) said)
  ended_true said true is so = (tt, tt)
  ended_true said false is so = so is

  wanted_lawful : (said : EndResult) → is_pass said ≡ true → is_lawful said ≡ true
  wanted_lawful (end_results.PassBy t unheard) is = refl
  wanted_lawful said is = cc

  blames_true : (unclear : Bool) (last : Option Refutation) (all : Bool)
      → list_all (is_wrong m within) (results_of table c side m within) ≡ all
      → IsTrue (cond unclear (end_results.UnclearReading number) (blamed_by_all c side m last all))
  blames_true true last all is = (tt, tt)
  blames_true false None all is = (tt, tt)
  blames_true false (Some r) false is = (tt, tt)
  blames_true false (Some r) true is = fails_true (Wrong r) (doubt_of_reaction c side r.entry) (number, first, each_wrong is)

  readings_true : (pass sure : Option ReadingResult) (lawful : Bool)
      → find (is_wanted wanted.Pass) (results_of table c side m within) ≡ pass
      → find (is_wanted wanted.SurelyLawful) (results_of table c side m within) ≡ sure
      → IsTrue (result_by_found c side m entries (results_of table c side m within) pass sure lawful)
  readings_true (Some x) sure lawful is is_sure =
      let (so, test) = found_in Holds (is_wanted wanted.Pass) (results_of table c side m within) x (each_true all_ways) is in
      ended_true x.result (list_any (is_of side) (drop (length within) entries)) refl
      (so (wanted_lawful x.result (both_of (not x.in_doubt) (is_pass x.result) test).1))
  readings_true None (Some x) lawful is is_sure =
      let (so, test) = found_in Holds (is_wanted wanted.SurelyLawful) (results_of table c side m within) x (each_true all_ways) is_sure in
      ended_true x.result (list_any (is_of side) (drop (length within) entries)) refl
      (so (both_of (not x.in_doubt) (is_lawful x.result) test).1)
  readings_true None None true is is_sure = (tt, tt)
  readings_true None None false is is_sure =
      blames_true (is_some (find (is_wanted wanted.Unclear) (results_of table c side m within)))
      (last_blame None (results_of table c side m within)) _ refl

  after_true : (found : Option (ℕ × ℕ)) → goes_on m within ≡ found → IsTrue (result_after_by table c side m entries found)
  after_true (Some found) is = fails_true (GoesOn found.0 found.1) (doubt_of_reaction c side found.1) (number, first, is)
  after_true None is =
      readings_true (find (is_wanted wanted.Pass) (results_of table c side m within))
      (find (is_wanted wanted.SurelyLawful) (results_of table c side m within))
      (is_some (find (is_wanted wanted.Lawful) (results_of table c side m within))) refl refl

  from_true : (found : Finding) → found ≡ finding table (take number entries) side → (second : Option ℕ)
      → IsTrue (result_from_by table c side sent entries number found second)
  from_true (Blamed r) is second =
      fails_blamed r (doubt_of table c side (take number entries) r)
      (fault_in_all side table number entries r (blame_holds side table (take number entries) r is))
    where
      fails_blamed : (r : Refutation) (doubt : Option Doubt) → IsAtFaultOf table side entries r → IsTrue (fails r doubt)
      fails_blamed r None so = (so, tt)
      fails_blamed r (Some doubt) so = (so, tt)
  from_true (Lawful n unheard) is (Some second) = (tt, tt)
  from_true (NotBlamed n) is (Some second) = (tt, tt)
  from_true (Lawful n unheard) is None = after_true (goes_on m within) refl
  from_true (NotBlamed n) is None = after_true (goes_on m within) refl

-- ---- the result for an end

true_of_dialogue : (side : Side) (table : Table) (sent : List TraceEntry) (entries : List Entry) (said : EndResult)
    → IsTrueResult side table entries said → IsTrueJudgement side table sent entries said
true_of_dialogue side table sent entries (end_results.Pass unheard) so = so
true_of_dialogue side table sent entries (end_results.Fail r) so = so
true_of_dialogue side table sent entries (end_results.Doubtful r doubt) so = so
true_of_dialogue side table sent entries (end_results.PassBy t unheard) so = absurd so
true_of_dialogue side table sent entries (end_results.FailBy fault) so = absurd so
true_of_dialogue side table sent entries (end_results.DoubtfulBy fault doubt) so = absurd so
true_of_dialogue side table sent entries said so = tt

sure_of_dialogue : (side : Side) (table : Table) (c : Circumstances) (entries : List Entry) (said : EndResult)
    → result_of table c entries side ≡ said → IsTrueResult side table entries said → IsSureIfPass c said
sure_of_dialogue side table c entries (end_results.Pass unheard) is so = of_sure c unheard table entries side is
sure_of_dialogue side table c entries (end_results.PassBy t unheard) is so = absurd so
sure_of_dialogue side table c entries said is so = tt

-- The result for an end of a dialogue is true, and no circumstance keeps an end that passes from it.
pub judged_true : (side : Side) (table : Table) (sent : List TraceEntry) (c : Circumstances) (entries : List Entry)
    → IsTrueJudgement side table sent entries (judged_result table c sent entries side)
    × IsSureIfPass c (judged_result table c sent entries side)
judged_true side table sent c entries = by (first_malformed (other side) (within_limits entries)) refl
  where
    by : (number : Option ℕ) → first_malformed (other side) (within_limits entries) ≡ number
        → IsTrueJudgement side table sent entries
        (judged_by table c sent entries side (option_map (result_from table c side sent entries) number))
        × IsSureIfPass c (judged_by table c sent entries side (option_map (result_from table c side sent entries) number))
    by None is = (
      true_of_dialogue side table sent entries (result_of table c entries side) (result_holds side table c entries),
      sure_of_dialogue side table c entries (result_of table c entries side) refl (result_holds side table c entries),
    )
    by (Some number) is =
        from_true side table sent c entries number is (finding table (take number entries) side) refl
        (next_malformed (other side) number (within_limits entries))
