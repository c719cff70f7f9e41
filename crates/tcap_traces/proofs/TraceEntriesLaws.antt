-- If the form of a trace has no fault, each entry of the trace is in a dialogue that is reported.
use Rattle.std.proofs.Common.{arith, ◌≡◌, ◌⊎◌, inl, inr, ℕ, zero, suc, ◌+◌, ◌<◌, Bool, true, false, cond, List, [], ◌∷◌, ◌++◌, length, map, Option, Some, None, refl, sym, ap, subst, ◌∙◌}
use Rattle.std.specs.Prelude.{◌==◌, ◌||◌, not, All, Contains, is_some, slice_index_or}
use Rattle.std.specs.List.{count_by}
use Rattle.std.proofs.lemmas.Bool.{eqb-true, false≢true}
use Rattle.std.proofs.lemmas.List.Sums.{sum_by-cons}
use Rattle.std.proofs.lemmas.List.Elements.{All-cons, All-head, All-nil, All-tail, Contains-append_left, Contains-append_right, Contains-push, Contains-push_cases}
use Rattle.tcap_dialogues.specs.Course.{Course, has_entry}
use Rattle.tcap_dialogues.proofs.CourseEnds.{entry_has_one}
use Rattle.tcap_dialogues.proofs.CutLists.{first_in, in_cases, later_in, left_in, none_in}
use Rattle.tcap_traces.specs.Directive.{BrokenOff, About, UnderWay, Unknown}
use Rattle.tcap_traces.specs.Pieces.{Piece, Entry, Mark, Stated, TraceEntry}
use Rattle.tcap_traces.specs.Dialogue.{After, EndAfter, MarkAfter, heading_in}
use Rattle.tcap_traces.specs.Segments.{Before, Segment, after_it, before_next, courses_in, dialogue_of, empty, entries_in, headings_in, segments_after, with_one, with_under_way}
use Rattle.tcap_traces.specs.JudgedTrace.{Asked, JudgedDialogue, all_in, is_broken, is_fail, is_reported, judged, readable_in, reported_from, reported_in, verdict_on}
use Rattle.tcap_traces.proofs.SegmentLaws.{headings_length}

-- ---- lists

mapped : {X Y : Type 0} (f : X → Y) (xs : List X) (x : X) → Contains xs x → Contains (map f xs) (f x)
mapped f [] x has = absurd (none_in x has)
mapped f (y ∷ xs) x has = by (in_cases y x xs has) (mapped f xs x)
  where
    by : (y ≡ x) ⊎ Contains xs x → (Contains xs x → Contains (map f xs) (f x)) → Contains (map f (y ∷ xs)) (f x)
    by (inl same) rest = subst (λ z. Contains (f y ∷ map f xs) (f z)) same (first_in (f y) (map f xs))
    by (inr there) rest = later_in (f y) (f x) (map f xs) (rest there)

-- If a count is not 0, an element passes.
passes_one : {X : Type 0} (test : X → Bool) (xs : List X) → (count_by test xs == 0) ≡ false → (x : X) × Contains xs x × (test x ≡ true)
passes_one test [] some = absurd (false≢true (sym some))
passes_one {X} test (y ∷ xs) some = by (test y) refl (sum_by-cons (λ x. cond (test x) 1 0) y xs) (passes_one test xs)
  where
    by : (b : Bool) → test y ≡ b → count_by test (y ∷ xs) ≡ cond b 1 0 + count_by test xs
        → ((count_by test xs == 0) ≡ false → (x : X) × Contains xs x × (test x ≡ true)) → (x : X) × Contains (y ∷ xs) x × (test x ≡ true)
    by true is counted rest = (y, first_in y xs, is)
    by false is counted rest =
        let same : count_by test xs ≡ count_by test (y ∷ xs) = omega (counted, arith) in
        let (x, has, so) = rest (ap (λ n. n == 0) same ∙ some) in (x, later_in y x xs has, so)

-- ---- the segments of the pieces

-- whether an entry is in a segment
abbrev pub IsIn : TraceEntry → List Segment → Type 0
IsIn entry segments = (s : Segment) × Contains segments s × Contains s.entries entry

module _ (end : After) (entry : TraceEntry) where
  -- The entry is one of these pieces or of this segment.
  abbrev pub IsAmong : List Piece → Segment → Type 0
  IsAmong pieces front = Contains pieces (Entry entry) ⊎ Contains front.entries entry

  -- the pieces after the first
  abbrev InRest : List Piece → Type 0
  InRest pieces = (front : Segment) → IsAmong pieces front → IsIn entry (segments_after front end pieces)

  after_piece : (piece : Piece) (pieces : List Piece) (front : Segment) → InRest pieces
      → (piece ≡ Entry entry) ⊎ IsAmong pieces front → IsIn entry (segments_after front end (piece ∷ pieces))
  after_piece (Entry e) pieces front rest (inl same) =
      let is : e ≡ entry = cc in
      rest (with_one e front) (inr (subst (Contains (front.entries ++ e ∷ [])) is (Contains-push front.entries e)))
  after_piece (Entry e) pieces front rest (inr (inl has)) = rest (with_one e front) (inl has)
  after_piece (Entry e) pieces front rest (inr (inr has)) =
      rest (with_one e front) (inr (Contains-append_left front.entries (e ∷ []) entry has))
  after_piece (Mark line) pieces front rest (inl same) = cc
  after_piece (Mark line) pieces front rest (inr (inl has)) =
      let (s, there, is) = rest (empty end) (inl has) in
      (s, later_in (record front { end = MarkAfter }) s (segments_after (empty end) end pieces) there, is)
  after_piece (Mark line) pieces front rest (inr (inr has)) =
      (record front { end = MarkAfter }, first_in (record front { end = MarkAfter }) (segments_after (empty end) end pieces), has)
  after_piece (Stated line statement) pieces front rest (inl same) = cc
  after_piece (Stated line UnderWay) pieces front rest (inr has) = rest (with_under_way front) has
  after_piece (Stated line (BrokenOff missing)) pieces front rest (inr has) = rest front has
  after_piece (Stated line (About side text)) pieces front rest (inr has) = rest front has
  after_piece (Stated line Unknown) pieces front rest (inr has) = rest front has

  first_or_later : (piece : Piece) (pieces : List Piece) (front : Segment) → IsAmong (piece ∷ pieces) front
      → (piece ≡ Entry entry) ⊎ IsAmong pieces front
  first_or_later piece pieces front (inr has) = inr (inr has)
  first_or_later piece pieces front (inl has) = by (in_cases piece (Entry entry) pieces has)
    where
      by : (piece ≡ Entry entry) ⊎ Contains pieces (Entry entry) → (piece ≡ Entry entry) ⊎ IsAmong pieces front
      by (inl same) = inl same
      by (inr there) = inr (inl there)

  -- Each entry is in a segment.
  pub in_segment : (pieces : List Piece) (front : Segment) → IsAmong pieces front → IsIn entry (segments_after front end pieces)
  in_segment [] front (inl has) = absurd (none_in (Entry entry) has)
  in_segment [] front (inr has) = (record front { end = end }, first_in (record front { end = end }) [], has)
  in_segment (piece ∷ pieces) front has =
      after_piece piece pieces front (in_segment pieces) (first_or_later piece pieces front has)

  -- an entry of the rest is one of all
  further : (piece : Piece) (pieces : List Piece) (front : Segment) → IsAmong pieces front → IsAmong (piece ∷ pieces) front
  further piece pieces front (inl has) = inl (later_in piece (Entry entry) pieces has)
  further piece pieces front (inr has) = inr has

  -- an entry of the segment before the first of these pieces is one of all
  before_entry : (e : TraceEntry) (pieces : List Piece) (front : Segment) → IsAmong pieces (with_one e front)
      → IsAmong (Entry e ∷ pieces) front
  before_entry e pieces front (inl has) = inl (later_in (Entry e) (Entry entry) pieces has)
  before_entry e pieces front (inr has) = by (Contains-push_cases front.entries e entry has)
    where
      by : Contains front.entries entry ⊎ (e ≡ entry) → IsAmong (Entry e ∷ pieces) front
      by (inl there) = inr there
      by (inr same) = inl (subst (λ x. Contains (Entry e ∷ pieces) (Entry x)) same (first_in (Entry e) pieces))

  before_mark : (line : ℕ) (pieces : List Piece) (front s : Segment) → Contains s.entries entry
      → (record front { end = MarkAfter } ≡ s) ⊎ IsAmong pieces (empty end) → IsAmong (Mark line ∷ pieces) front
  before_mark line pieces front s is (inl same) = inr (subst (λ (x : Segment). Contains x.entries entry) (sym same) is)
  before_mark line pieces front s is (inr (inl has)) = inl (later_in (Mark line) (Entry entry) pieces has)
  before_mark line pieces front s is (inr (inr has)) = absurd (none_in entry has)

  -- Each entry of a segment is one of the pieces.
  pub from_segment : (pieces : List Piece) (front s : Segment) → Contains (segments_after front end pieces) s
      → Contains s.entries entry → IsAmong pieces front
  from_segment [] front s has is = by (in_cases (record front { end = end }) s [] has)
    where
      by : (record front { end = end } ≡ s) ⊎ Contains [] s → IsAmong [] front
      by (inl same) = inr (subst (λ (x : Segment). Contains x.entries entry) (sym same) is)
      by (inr none) = absurd (none_in s none)
  from_segment (Entry e ∷ pieces) front s has is = before_entry e pieces front (from_segment pieces (with_one e front) s has is)
  from_segment (Mark line ∷ pieces) front s has is =
      by (in_cases (record front { end = MarkAfter }) s (segments_after (empty end) end pieces) has)
      (λ there. from_segment pieces (empty end) s there is)
    where
      by : (record front { end = MarkAfter } ≡ s) ⊎ Contains (segments_after (empty end) end pieces) s
          → (Contains (segments_after (empty end) end pieces) s → IsAmong pieces (empty end)) → IsAmong (Mark line ∷ pieces) front
      by (inl same) rest = before_mark line pieces front s is (inl same)
      by (inr there) rest = before_mark line pieces front s is (inr (rest there))
  from_segment (Stated line UnderWay ∷ pieces) front s has is =
      further (Stated line UnderWay) pieces front (from_segment pieces (with_under_way front) s has is)
  from_segment (Stated line (BrokenOff missing) ∷ pieces) front s has is =
      further (Stated line (BrokenOff missing)) pieces front (from_segment pieces front s has is)
  from_segment (Stated line (About side text) ∷ pieces) front s has is =
      further (Stated line (About side text)) pieces front (from_segment pieces front s has is)
  from_segment (Stated line Unknown ∷ pieces) front s has is =
      further (Stated line Unknown) pieces front (from_segment pieces front s has is)

-- ---- no segment ends at a fault

abbrev pub IsWhole : Segment → Type 0
IsWhole s = is_broken s.end ≡ false

-- If the trace ends without a fault, no segment ends at one.
pub are_whole : (pieces : List Piece) (front : Segment) → All IsWhole (segments_after front EndAfter pieces)
are_whole [] front = All-cons IsWhole (record front { end = EndAfter }) [] refl (All-nil IsWhole)
are_whole (Entry e ∷ pieces) front = are_whole pieces (with_one e front)
are_whole (Mark line ∷ pieces) front =
    All-cons IsWhole (record front { end = MarkAfter }) (segments_after (empty EndAfter) EndAfter pieces) refl
    (are_whole pieces (empty EndAfter))
are_whole (Stated line UnderWay ∷ pieces) front = are_whole pieces (with_under_way front)
are_whole (Stated line (BrokenOff missing) ∷ pieces) front = are_whole pieces front
are_whole (Stated line (About side text) ∷ pieces) front = are_whole pieces front
are_whole (Stated line Unknown ∷ pieces) front = are_whole pieces front

-- a dialogue of such a segment is reported
module _ (asked : Asked) where
  not_broken : (over : Option ℕ) (end : After) → is_broken end ≡ false → is_broken (after_it over end) ≡ false
  not_broken None end is = is
  not_broken (Some number) end is = refl

  reported : (before : Before) (count : ℕ) (s : Segment) (d : Course) → IsWhole s
      → is_reported asked (judged asked count (dialogue_of before s d)) ≡ true
  reported before count s d is =
      ap (λ b. not b || is_fail (verdict_on asked (judged asked count (dialogue_of before s d)))) (not_broken d.over s.end is)

-- ---- the dialogues of a segment

-- The entry with number n + k of a segment is one of the entries of a dialogue with this number.
in_part : (d : Course) (entry : TraceEntry) (k n : ℕ) (entries : List TraceEntry) → has_entry d (n + k) ≡ true
    → k < length entries → slice_index_or entries k entry ≡ entry → Contains (entries_in d n entries) entry
in_part d entry k n [] has less is = absurd (omega (less, arith))
in_part d entry zero n (e ∷ entries) has less is =
    subst (λ b. Contains (cond b (e ∷ entries_in d (suc n) entries) (entries_in d (suc n) entries)) entry) (sym here)
    (subst (Contains (e ∷ entries_in d (suc n) entries)) is (first_in e (entries_in d (suc n) entries)))
  where
    same : n ≡ n + 0
    same = omega arith

    here : has_entry d n ≡ true
    here = ap (has_entry d) same ∙ has
in_part d entry (suc k) n (e ∷ entries) has less is =
    by (has_entry d n) (in_part d entry k (suc n) entries (ap (has_entry d) same ∙ has) (omega (less, arith)) is)
  where
    same : suc n + k ≡ n + suc k
    same = omega arith

    by : (b : Bool) → Contains (entries_in d (suc n) entries) entry
        → Contains (cond b (e ∷ entries_in d (suc n) entries) (entries_in d (suc n) entries)) entry
    by true there = later_in e entry (entries_in d (suc n) entries) there
    by false there = there

-- the entry is in one of these dialogues
abbrev pub IsReportedIn : TraceEntry → List JudgedDialogue → Type 0
IsReportedIn entry js = (j : JudgedDialogue) × Contains js j × Contains j.dialogue.entries entry

module _ (asked : Asked) (entry : TraceEntry) where
  in_reported : (before : Before) (count : ℕ) (s : Segment) → IsWhole s → Contains s.entries entry
      → IsReportedIn entry (reported_in asked before count s)
  in_reported before count s whole (k, less, is) =
      let many : k < length (headings_in before s) = omega (less, headings_length before s, arith) in
      let (d, has, own, alone) = entry_has_one asked.reuse (headings_in before s) k many in
      let zeroed : 0 + k ≡ k = omega arith in (
        judged asked count (dialogue_of before s d),
        left_in (is_reported asked) (map (λ x. judged asked count (dialogue_of before s x)) (all_in (courses_in asked.reuse before s)))
            (judged asked count (dialogue_of before s d))
            (mapped (λ x. judged asked count (dialogue_of before s x)) (all_in (courses_in asked.reuse before s)) d has)
            (reported asked before count s d whole),
        in_part d entry k 0 s.entries (ap (has_entry d) zeroed ∙ own) less is,
      )

  -- If an entry is in a segment, and no segment ends at a fault, the entry is in a dialogue that is reported.
  pub in_some : (segments : List Segment) (before : Before) (count : ℕ) → All IsWhole segments → IsIn entry segments
      → IsReportedIn entry (reported_from asked before count segments)
  in_some [] before count whole (s, has, is) = absurd (none_in s has)
  in_some (first ∷ segments) before count whole (s, has, is) =
      by (in_cases first s segments has)
      (λ there. in_some segments (before_next before first (all_in (courses_in asked.reuse before first)))
      (count + suc (length first.entries)) (All-tail IsWhole first segments whole) (s, there, is))
    where
      here : List JudgedDialogue
      here = reported_in asked before count first

      later : List JudgedDialogue
      later = reported_from asked (before_next before first (all_in (courses_in asked.reuse before first)))
          (count + suc (length first.entries)) segments

      by : (first ≡ s) ⊎ Contains segments s → (Contains segments s → IsReportedIn entry later) → IsReportedIn entry (here ++ later)
      by (inl same) rest =
          let (j, there, own) = in_reported before count first (All-head IsWhole first segments whole)
          (subst (λ (x : Segment). Contains x.entries entry) (sym same) is) in
          (j, Contains-append_left here later j there, own)
      by (inr there) rest = let (j, more, own) = rest there in (j, Contains-append_right here later j more, own)

-- ---- an entry whose kind can be read

abbrev pub IsReadable : TraceEntry → Type 0
IsReadable entry = is_some (heading_in entry).kind ≡ true

-- If some entry is counted as readable, there is one.
pub some_readable : (segments : List Segment) → (readable_in segments == 0) ≡ false
    → (entry : TraceEntry) × IsIn entry segments × IsReadable entry
some_readable [] some = absurd (false≢true (sym some))
some_readable (s ∷ segments) some = by (count_by (λ entry. is_some (heading_in entry).kind) s.entries == 0) refl (some_readable segments)
  where
    here : ℕ
    here = count_by (λ entry. is_some (heading_in entry).kind) s.entries

    by : (none : Bool) → (here == 0) ≡ none
        → ((readable_in segments == 0) ≡ false → (entry : TraceEntry) × IsIn entry segments × IsReadable entry)
        → (entry : TraceEntry) × IsIn entry (s ∷ segments) × IsReadable entry
    by false is rest = let (entry, has, so) = passes_one (λ x. is_some (heading_in x).kind) s.entries is in
        (entry, (s, first_in s segments, has), so)
    by true is rest =
        let none : here ≡ 0 = eqb-true here 0 is in
        let same : readable_in segments ≡ here + readable_in segments = omega (none, arith) in
        let (entry, (x, has, own), so) = rest (ap (λ n. n == 0) same ∙ some) in
        (entry, (x, later_in s x segments has, own), so)
