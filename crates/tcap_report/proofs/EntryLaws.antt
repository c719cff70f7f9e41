-- What is kept of a trace stays right when an entry or a directive comes.
use Rattle.std.specs.BTreeMap as tree
use Rattle.std.specs.Ordering.{nat_cmp}
use Rattle.std.proofs.Common.{arith, ◌≡◌, ◌⊎◌, inl, inr, ℕ, suc, ◌+◌, ◌<◌, Bool, true, false, cond, List, [], ◌∷◌, ◌++◌, length, map, refl, sym, ap, subst, ◌∙◌}
use Rattle.std.specs.Prelude.{◌==◌, ◌&&◌, ◌||◌, Contains, None, Option, Some, Result, Ok, Err, OnOk, count_by, filter, is_err, is_some, not, slice_get, unwrap_or}
use Rattle.std.specs.List.{AllByRecursion, list_any}
use Rattle.std.specs.Option.{option_or}
use Rattle.std.proofs.lemmas.Bool.{and_left, and_parts, eq-eqb, eqb-true, false≢true, lt-leb, not-true, true≢false}
use Rattle.std.proofs.lemmas.List.{length_push, map-append}
use Rattle.std.proofs.lemmas.List.Elements.{Contains-append_cases, Contains-append_left, Contains-append_right}
use Rattle.std.proofs.lemmas.List.Sums.{sum_by_push}
use Rattle.tcap_record.specs.declared.entry.End.{End as Side}
use Rattle.tcap_record.specs.declared.entry.End.TheVariants as sides
use Rattle.tcap_dialogues.specs.Course.{Course, Courses, Heading, begins_new, courses_after, courses_so_far, earlier_in, has_entry, ids_in, is_alone, is_continue, is_free, share_id, with_entry}
use Rattle.tcap_dialogues.specs.CutDialogues.{AreCompleteDialogues}
use Rattle.tcap_dialogues.specs.CutState.{IsCut}
use Rattle.tcap_dialogues.specs.DialoguesOfList.{IdOf, is_among}
use Rattle.tcap_dialogues.specs.declared.complete_dialogue.CompleteDialogue.{CompleteDialogue}
use Rattle.tcap_dialogues.specs.declared.reuse.Reuse.{Reuse}
use Rattle.tcap_dialogues.proofs.CourseStretch.{so_far_more}
use Rattle.tcap_dialogues.proofs.CutLists.{finds, found, kept_in}
use Rattle.tcap_dialogues.proofs.Joins.{Hit, IsJoin, number_of, which}
use Rattle.tcap_traces.specs.declared.before_marks.BeforeMarks.{BeforeMarks}
use Rattle.tcap_traces.specs.declared.before_marks.EndMarks.{EndMarks}
use Rattle.tcap_traces.specs.declared.judging.Ends.{Ends}
use Rattle.tcap_traces.specs.declared.verdict.Verdict.{Verdict}
use Rattle.tcap_traces.specs.Dialogue.{After, Dialogue, More, comes_after, ends_on, heading_in, is_marked, verdict_by}
use Rattle.tcap_traces.specs.IdsBeforeMarks.{is_sent_to}
use Rattle.tcap_traces.specs.JudgedTrace.{JudgedDialogue, is_broken, is_fail, is_reported, judged, verdict_on}
use Rattle.tcap_traces.specs.Pieces.{TraceEntry}
use Rattle.tcap_traces.specs.Segments.{after_it, dialogue_with, entries_in, is_under_way, is_uni, is_unreadable, may_go_on, numbers_in, with_one, with_under_way}
use Rattle.tcap_traces.specs.TraceProgress.{AreMarked, AreNoted, AreTracked, IsMarked, any_goes, any_stays}
use Rattle.tcap_traces.specs.TraceState.{State}
use Rattle.tcap_traces.specs.UnreadableEntries.{after_entry, notes_in}
use Rattle.tcap_traces.proofs.CaseFacts.{sent_to_is}
use Rattle.tcap_traces.proofs.SegmentLaws.{IsLater, directive_grows, entry_grows, entry_late, free_is_over, headings_length, headings_push, headings_same, next_heading}
use Rattle.tcap_traces.proofs.SegmentState.{below_all, tracked_more}
use Rattle.tcap_traces.proofs.StableVerdicts.{IsLate, ends_stay}
use Rattle.tcap_traces.proofs.TakenEntries.{all_below, as_many}
use Rattle.tcap_traces.proofs.UnreadLaws.{begun_with, noted_more}
use Rattle.tcap_report.proofs.AgreeLists.{any_agree, count_below, kept_agree, last_at, others_at}
use Rattle.tcap_report.specs.Counts.{more}
use Rattle.tcap_report.specs.declared.trace.Trace.{Trace}
use Rattle.tcap_report.specs.declared.trace.TraceOptions.{TraceOptions}
use Rattle.tcap_report.specs.KeptState.{HoldsEntry, IsReading, Keeps, asked_of, counts_of, courses_at, dialogue_at, headings_of, no_id, reported_of, with_next}

-- What a success implies holds if there is no error.
pub ok_of : {T E : Type 0} (result : Result T E) (P : Type 0) → is_err result ≡ false → OnOk result P → P
ok_of (Ok x) P is so = so
ok_of (Err f) P is so = absurd (true≢false is)

-- ---- numbers

one_more : (a n : ℕ) → more (more a n) 1 ≡ more a (n + 1)
one_more a n = omega arith

readable_push : (a : ℕ) (p : TraceEntry → Bool) (es : List TraceEntry) (e : TraceEntry)
    → cond (p e) (more (more a (count_by p es)) 1) (more a (count_by p es)) ≡ more a (count_by p (es ++ e ∷ []))
readable_push a p es e = by (p e) (count_by p es) ∙ ap (more a) (sym (sum_by_push (λ (x : TraceEntry). cond (p x) 1 0) es e))
  where
    by : (b : Bool) (n : ℕ) → cond b (more (more a n) 1) (more a n) ≡ more a (n + cond b 1 0)
    by true n = one_more a n
    by false n = omega arith

-- ---- marks

module _ (sent «open» : List IdOf) (goes stays : Course → Bool) (names : IdOf → Bool) (ds : List Course)
    (agree : (d : Course) → Contains ds d → goes d ≡ stays d) where
  goes_agree : (id : IdOf) → any_goes goes ds id ≡ any_goes stays ds id
  goes_agree id =
      any_agree (λ d. goes d && is_among d.ids id) (λ d. stays d && is_among d.ids id) ds
      (λ d has. ap (λ b. b && is_among d.ids id) (agree d has))

  stays_agree : (id : IdOf) → any_stays goes ds id ≡ any_stays stays ds id
  stays_agree id =
      any_agree (λ d. not (goes d) && is_among d.ids id) (λ d. not (stays d) && is_among d.ids id) ds
      (λ d has. ap (λ b. not b && is_among d.ids id) (agree d has))

  end_agrees : (side : Side) (m : EndMarks) → IsMarked sent «open» (any_goes goes ds) (any_stays goes ds) names side m
      → IsMarked sent «open» (any_goes stays ds) (any_stays stays ds) names side m
  end_agrees side m is = record {
    known = is.known;
    opened = λ o. is.opened o ∙ goes_agree (record { end = side; octets = o });
    closed = λ o.
        is.closed o
        ∙ ap (λ b. b && is_among «open» (record { end = side; octets = o })) (stays_agree (record { end = side; octets = o }));
    named = is.named;
  }

  -- What is noted of IDs is right for each test that agrees on the dialogues.
  pub marks_agree : (m : BeforeMarks) → AreMarked sent «open» goes names ds m → AreMarked sent «open» stays names ds m
  marks_agree m are = record { a = end_agrees sides.A m.a are.a; b = end_agrees sides.B m.b are.b }

-- ---- verdicts

module _ (options : TraceOptions) where
  -- the result for each end of a dialogue in a state
  abbrev ends_at : State → Course → Option Ends
  ends_at s d = ends_on (asked_of options).tables (asked_of options).question (dialogue_at s d)

  -- The verdicts of these dialogues are the same in both states.
  pub verdicts_agree : (s t : State) (ds : List Course) → s.segment.end ≡ t.segment.end
      → ((d : Course) → Contains ds d → ends_at s d ≡ ends_at t d)
      → map (verdict_on (asked_of options)) (reported_of options s ds) ≡ map (verdict_on (asked_of options)) (reported_of options t ds)
  verdicts_agree s t ds end same =
      kept_agree (is_reported (asked_of options)) (verdict_on (asked_of options)) (λ d. judged (asked_of options) s.count (dialogue_at s d))
      (λ d. judged (asked_of options) t.count (dialogue_at t d)) ds
      (λ d has. let verdict = ap (verdict_by options.of) (same d has) in (told d verdict, verdict))
    where
      told : (d : Course) → verdict_by options.of (ends_at s d) ≡ verdict_by options.of (ends_at t d)
          → is_reported (asked_of options) (judged (asked_of options) s.count (dialogue_at s d))
          ≡ is_reported (asked_of options) (judged (asked_of options) t.count (dialogue_at t d))
      told d verdict =
          ap (λ a. not (is_broken (after_it d.over a)) || is_fail (verdict_by options.of (ends_at s d))) end
          ∙ ap (λ v. not (is_broken (after_it d.over t.segment.end)) || is_fail v) verdict

  -- So are the counts, if the reported dialogues before them are the same.
  pub counts_agree : (s t : State) (ds : List Course) → s.reported ≡ t.reported → s.segment.end ≡ t.segment.end
      → ((d : Course) → Contains ds d → ends_at s d ≡ ends_at t d)
      → counts_of (map (verdict_on (asked_of options)) (s.reported ++ reported_of options s ds))
      ≡ counts_of (map (verdict_on (asked_of options)) (t.reported ++ reported_of options t ds))
  counts_agree s t ds reported end same =
      ap counts_of
      (map-append verdict s.reported (reported_of options s ds)
      ∙ ap (λ l. map verdict s.reported ++ l) (verdicts_agree s t ds end same)
      ∙ ap (λ l. map verdict l ++ map verdict (reported_of options t ds)) reported
      ∙ sym (map-append verdict t.reported (reported_of options t ds)))
    where
      verdict : JudgedDialogue → Verdict
      verdict = verdict_on (asked_of options)

-- ---- dialogues that are over

over_more : (o : Option ℕ) (end : After) → is_some o ≡ true → after_it o end ≡ More
over_more None end is = absurd (false≢true is)
over_more (Some n) end is = refl

over_unmarked : (o : Option ℕ) (end : After) → is_some o ≡ true → is_marked (after_it o end) ≡ false
over_unmarked o end is = ap is_marked (over_more o end is)

-- A number that comes after all numbers comes after all entries.
late_of : (d : Dialogue) (unread : Option ℕ) → length d.numbers ≡ length d.entries → IsLater d unread → IsLate d unread
late_of d unread same (inl is) = inl is
late_of d unread same (inr (none, (k, is, below))) = inr (none, (k, is, count_below k d.numbers below ∙ same))

module _ (s : State) (d : Course) (below : (n : ℕ) → has_entry d n ≡ true → n < length s.segment.entries) where
  module _ (options : TraceOptions) (over : is_some d.over ≡ true) where
    -- The verdict stays when an entry comes.
    entry_ends : (e : TraceEntry) → ends_at options s d ≡ ends_at options (with_next options s e) d
    entry_ends e =
        sym
        (ap (ends_on (asked_of options).tables (asked_of options).question) (entry_grows s.before s.segment d below e)
        ∙ ends_stay (asked_of options).tables (asked_of options).question (dialogue_at s d) s.segment.under_way unread
        (over_unmarked d.over s.segment.end over) refl
        (late_of (dialogue_at s d) unread (as_many d 0 s.segment.entries) (entry_late s.before s.segment d below e)))
      where
        unread : Option ℕ
        unread = (dialogue_with s.before (with_one e s.segment) d (entries_in d 0 s.segment.entries) (numbers_in d 0 s.segment.entries)).unread

    -- It stays when the directive comes.
    directive_ends : ends_at options s d ≡ ends_at options (record s { segment = with_under_way s.segment }) d
    directive_ends =
        sym
        (ap (ends_on (asked_of options).tables (asked_of options).question) (directive_grows s.before s.segment d below)
        ∙ ends_stay (asked_of options).tables (asked_of options).question (dialogue_at s d)
        (option_or s.segment.under_way (Some (length s.segment.entries))) (dialogue_at s d).unread
        (over_unmarked d.over s.segment.end over) (same s.segment.under_way) (inl refl))
      where
        first : (ns : List ℕ) → AllByRecursion (λ n. n < length s.segment.entries) ns
            → comes_after (Some (length s.segment.entries)) (slice_get ns 0) ≡ false
        first [] all = refl
        first (n ∷ ns) (less, all) = lt-leb (length s.segment.entries) n less

        same : (o : Option ℕ) → comes_after (option_or o (Some (length s.segment.entries))) (slice_get (numbers_in d 0 s.segment.entries) 0)
            ≡ comes_after o (slice_get (numbers_in d 0 s.segment.entries) 0)
        same None = first (numbers_in d 0 s.segment.entries) (all_below d 0 (length s.segment.entries) s.segment.entries (omega arith))
        same (Some k) = refl

  -- It is the same whether the dialogue may go on.
  entry_goes : (options : TraceOptions) (e : TraceEntry) → may_go_on (dialogue_at s d) ≡ may_go_on (dialogue_at (with_next options s e) d)
  entry_goes options e = sym (ap may_go_on (entry_grows s.before s.segment d below e))

  directive_goes : may_go_on (dialogue_at s d) ≡ may_go_on (dialogue_at (record s { segment = with_under_way s.segment }) d)
  directive_goes = sym (ap may_go_on (directive_grows s.before s.segment d below))

-- ---- the dialogues after an entry

module _ (reuse : Reuse) (n : ℕ) (h : Heading) (c : Courses) where
  abbrev free : Course → Bool
  free = is_free reuse n c h

  abbrev left_then : List Course
  left_then = filter (λ d. not (free d)) c.live

  -- the dialogue that the entry joins or begins
  abbrev new : Course
  new = with_entry (earlier_in (c.done ++ filter free c.live)) n h (filter (λ d. share_id (ids_in h) d.ids) left_then)

  made : IsJoin (λ (d : Course). d.numbers) (λ (d : Course). d.ids) n (ids_in h) left_then new
  made = record { numbers_are = refl; ids_are = refl }

  -- Another entry of a dialogue that waits is one of a dialogue that was live.
  waited : (k : ℕ) → (n ≡ k → ⊥) → list_any (λ d. has_entry d k) (filter free c.live ++ (courses_after reuse n h c).live) ≡ true
      → list_any (λ d. has_entry d k) c.live ≡ true
  waited k other is =
      let (d, has, so) = found (λ d. has_entry d k) (filter free c.live ++ (courses_after reuse n h c).live) is in
      by d so (Contains-append_cases (filter free c.live) (courses_after reuse n h c).live d has)
    where
      was_live : (d : Course) → Contains c.live d → has_entry d k ≡ true → list_any (λ d. has_entry d k) c.live ≡ true
      was_live d has so = finds (λ d. has_entry d k) c.live d has so

      left : (d : Course) → Contains left_then d → has_entry d k ≡ true → list_any (λ d. has_entry d k) c.live ≡ true
      left d has so = was_live d (kept_in (λ d. not (free d)) c.live d has).0 so

      by_new : ((d : Course) × Hit made d × (has_entry d k ≡ true)) ⊎ (n ≡ k) → list_any (λ d. has_entry d k) c.live ≡ true
      by_new (inl (d, hit, so)) = left d hit.listed so
      by_new (inr same) = absurd (other same)

      by_live : (d : Course) → has_entry d k ≡ true → (Contains left_then d × (share_id (ids_in h) d.ids ≡ false)) ⊎ (new ≡ d)
          → list_any (λ d. has_entry d k) c.live ≡ true
      by_live d so (inl (has, misses)) = left d has so
      by_live d so (inr same) = by_new (number_of made k (ap (λ x. has_entry x k) same ∙ so))

      by : (d : Course) → has_entry d k ≡ true → Contains (filter free c.live) d ⊎ Contains (courses_after reuse n h c).live d
          → list_any (λ d. has_entry d k) c.live ≡ true
      by d so (inl has) = was_live d (kept_in free c.live d has).0 so
      by d so (inr has) = by_live d so (which made d has)

-- A heading that begins a dialogue with IDs can be read.
begins_readable : (reuse : Reuse) (n : ℕ) (c : Courses) (h : Heading) (begins : Bool) → begins ≡ begins_new reuse n c h → begins ≡ true
    → is_unreadable h ≡ false
begins_readable reuse n c h begins is so =
    and_left (is_alone h) (not (is_uni h.kind))
    (not-true (is_alone h)
    (and_parts (not (is_alone h)) (not (list_any (λ d. share_id (ids_in h) d.ids && not (is_free reuse n c h d)) c.live)) (sym is ∙ so)).0)

module _ (options : TraceOptions) (s : State) where
  -- The numbers of the dialogues that are done are below that of the next entry.
  below_next : (d : Course) → Contains (courses_at options s).done d → (n : ℕ) → has_entry d n ≡ true → n < length s.segment.entries
  below_next d has n is =
      let c = courses_at options s in
      let less = below_all options.reuse (headings_of s) d n (Contains-append_left c.done c.live d has) is in
      let same = headings_length s.before s.segment in
      omega (less, same, arith)

  -- The heading that is made of the next entry is right.
  pub heading_made : (e : TraceEntry) (t : Trace) (h : Heading) → IsReading options s t
      → h ≡ record (heading_in e) {
        under_way = is_under_way t.under_way t.count;
        known = is_continue (heading_in e).kind && is_sent_to t.marks (heading_in e);
      } → h ≡ next_heading s.before s.segment e
  heading_made e t h reading is =
      is ∙ ap (λ o. by (is_under_way o t.count) (is_sent_to t.marks (heading_in e))) reading.keeps.under_way
      ∙ ap (λ n. by (is_under_way s.segment.under_way n) (is_sent_to t.marks (heading_in e))) reading.count
      ∙ ap (by (is_under_way s.segment.under_way (length s.segment.entries)))
      (sent_to_is s.before t.marks reading.keeps.marks.a.known reading.keeps.marks.b.known (heading_in e))
    where
      by : Bool → Bool → Heading
      by under_way sent = record (heading_in e) { under_way = under_way; known = is_continue (heading_in e).kind && sent }

  -- An entry is held. `h` is its heading.
  pub entry_held : (e : TraceEntry) (h : Heading) (begins : Bool) (given : List CompleteDialogue) (t u : Trace) → h ≡ next_heading s.before s.segment e
      → IsReading options s t → begins ≡ begins_new options.reuse (length (headings_of s)) (courses_at options s) h
      → AreCompleteDialogues (filter (is_free options.reuse (length (headings_of s)) (courses_at options s) h) (courses_at options s).live) given
      → IsCut options.reuse (headings_of s ++ h ∷ []) u.cut
      → notes_in u.unread ≡ after_entry t.count (is_unreadable h) begins (notes_in t.unread)
      → ((n : ℕ) → tree.get nat_cmp u.held n ≡ cond (t.count == n) (Some e) (tree.get nat_cmp t.held n))
      → u.messages ≡ more t.messages 1 → u.readable ≡ cond (is_some h.kind) (more t.readable 1) t.readable → u.count ≡ suc t.count
      → u ≡ record t { cut = u.cut; unread = u.unread; held = u.held; messages = u.messages; readable = u.readable; count = u.count }
      → HoldsEntry options s e given u
  entry_held e h begins given t u heading reading is_begins frees cut notes held messages readable count same = record {
    freed = freed;
    done = ap (λ (x : Courses). x.done) courses_then;
    over = λ d has. free_is_over options.reuse (length hs) c h d (kept_in (is_free options.reuse (length hs) c h) c.live d has).1;
    are = frees;
    keeps = record {
      asks = ap (λ (x : Trace). x.options) same ∙ k.asks;
      counts = ap (λ (x : Trace). x.dialogues) same ∙ k.counts
          ∙ counts_agree options s next c.done refl refl
          (λ d has. entry_ends s d (below_next d has) options (k.tracked.over d has) e);
      messages = messages ∙ ap (λ n. more n 1) k.messages ∙ one_more s.messages (length s.segment.entries)
          ∙ ap (more s.messages) (sym (length_push s.segment.entries e));
      readable = readable ∙ ap (λ (x : Heading). cond (is_some x.kind) (more t.readable 1) t.readable) heading
          ∙ ap (λ n. cond (is_some (heading_in e).kind) (more n 1) n) k.readable
          ∙ readable_push s.readable (λ entry. is_some (heading_in entry).kind) s.segment.entries e;
      broken_off = ap (λ (x : Trace). is_some x.broken_off) same ∙ k.broken_off;
      under_way = ap (λ (x : Trace). x.under_way) same ∙ k.under_way;
      held = λ n has. held n ∙ by_held n (t.count == n) refl has;
      marks = subst (AreMarked s.before.sent s.before.open (λ d. may_go_on (dialogue_at next d)) no_id c.done)
          (sym (ap (λ (x : Trace). x.marks) same))
          (marks_agree s.before.sent s.before.open (λ d. may_go_on (dialogue_at s d)) (λ d. may_go_on (dialogue_at next d)) no_id c.done
          (λ d has. entry_goes s d (below_next d has) options e) t.marks k.marks);
      begun = begun;
      noted = subst (λ l. AreNoted l begun (notes_in u.unread)) (sym headings_then)
          (subst (AreNoted (hs ++ h ∷ []) begun)
          (sym (notes ∙ ap (λ n. after_entry n (is_unreadable h) begins (notes_in t.unread)) count_is))
          (noted_more hs h k.begun (notes_in t.unread) begins (begins_readable options.reuse (length hs) c h begins is_begins)
          k.tracked.begun_below k.noted));
      tracked = subst (λ l. AreTracked options.reuse l begun) (sym headings_then)
          (tracked_more options.reuse hs h k.begun begins is_begins k.tracked);
    };
    cut = subst (λ l. IsCut options.reuse l u.cut) (sym headings_then) cut;
    count = let longer = length_push s.segment.entries e in let before = reading.count in omega (count, before, longer, arith);
  }
    where
      k : Keeps options s (courses_at options s).done (courses_at options s).live no_id t
      k = reading.keeps

      hs : List Heading
      hs = headings_of s

      c : Courses
      c = courses_at options s

      next : State
      next = with_next options s e

      freed : List Course
      freed = filter (is_free options.reuse (length hs) c h) c.live

      begun : ℕ → Bool
      begun = begun_with k.begun (length hs) begins

      count_is : t.count ≡ length hs
      count_is = reading.count ∙ sym (headings_length s.before s.segment)

      headings_then : headings_of next ≡ hs ++ h ∷ []
      headings_then = headings_push s.before s.segment e ∙ ap (λ x. hs ++ x ∷ []) (sym heading)

      courses_then : courses_at options next ≡ courses_after options.reuse (length hs) h c
      courses_then = ap (courses_so_far options.reuse) headings_then ∙ so_far_more options.reuse hs h

      by_held : (n : ℕ) (b : Bool) → (t.count == n) ≡ b
          → list_any (λ d. has_entry d n) (freed ++ (courses_at options next).live) ≡ true
          → cond (t.count == n) (Some e) (tree.get nat_cmp t.held n) ≡ slice_get (s.segment.entries ++ e ∷ []) n
      by_held n true eq has =
          ap (λ b. cond b (Some e) (tree.get nat_cmp t.held n)) eq
          ∙ sym (last_at s.segment.entries e) ∙ ap (slice_get (s.segment.entries ++ e ∷ [])) (sym reading.count ∙ eqb-true t.count n eq)
      by_held n false eq has =
          ap (λ b. cond b (Some e) (tree.get nat_cmp t.held n)) eq
          ∙ k.held n was ∙ sym (others_at s.segment.entries e n within)
        where
          other : length hs ≡ n → ⊥
          other at = false≢true (sym eq ∙ eq_here (count_is ∙ at))
            where
              eq_here : t.count ≡ n → (t.count == n) ≡ true
              eq_here is = eq-eqb t.count n is

          was : list_any (λ d. has_entry d n) c.live ≡ true
          was =
              waited options.reuse (length hs) h c n other
              (subst (λ (x : Courses). list_any (λ d. has_entry d n) (freed ++ x.live) ≡ true) courses_then has)

          within : n < length s.segment.entries
          within =
              let (d, there, so) = found (λ d. has_entry d n) c.live was in
              let less = below_all options.reuse hs d n (Contains-append_right c.done c.live d there) so in
              let same = headings_length s.before s.segment in
              omega (less, same, arith)

  -- The directive `under way` comes.
  pub directive_read : (t u : Trace) → IsReading options s t → u ≡ record t { under_way = Some (unwrap_or t.under_way t.count) }
      → IsReading options (record s { segment = with_under_way s.segment }) u
  directive_read t u reading same = record {
    keeps = subst (λ (x : Courses). Keeps options next x.done x.live no_id u) (sym courses_same)
        (record {
          asks = ap (λ (x : Trace). x.options) same ∙ k.asks;
          counts = ap (λ (x : Trace). x.dialogues) same ∙ k.counts
              ∙ counts_agree options s next c.done refl refl (λ d has. directive_ends s d (below_next d has) options (k.tracked.over d has));
          messages = ap (λ (x : Trace). x.messages) same ∙ k.messages;
          readable = ap (λ (x : Trace). x.readable) same ∙ k.readable;
          broken_off = ap (λ (x : Trace). is_some x.broken_off) same ∙ k.broken_off;
          under_way = ap (λ (x : Trace). x.under_way) same ∙ ap (λ o. Some (unwrap_or o t.count)) k.under_way
              ∙ ap (λ n. Some (unwrap_or s.segment.under_way n)) reading.count ∙ either s.segment.under_way (length s.segment.entries);
          held = λ n has. ap (λ (x : Trace). tree.get nat_cmp x.held n) same ∙ k.held n has;
          marks = subst (AreMarked s.before.sent s.before.open (λ d. may_go_on (dialogue_at next d)) no_id c.done)
              (sym (ap (λ (x : Trace). x.marks) same))
              (marks_agree s.before.sent s.before.open (λ d. may_go_on (dialogue_at s d)) (λ d. may_go_on (dialogue_at next d)) no_id c.done
              (λ d has. directive_goes s d (below_next d has)) t.marks k.marks);
          begun = k.begun;
          noted = subst (λ l. AreNoted l k.begun (notes_in u.unread)) (sym (headings_same s.before s.segment))
              (subst (AreNoted (headings_of s) k.begun) (sym (ap (λ (x : Trace). notes_in x.unread) same)) k.noted);
          tracked = subst (λ l. AreTracked options.reuse l k.begun) (sym (headings_same s.before s.segment)) k.tracked;
        });
    cut = subst (λ l. IsCut options.reuse l u.cut) (sym (headings_same s.before s.segment))
        (subst (IsCut options.reuse (headings_of s)) (sym (ap (λ (x : Trace). x.cut) same)) reading.cut);
    count = ap (λ (x : Trace). x.count) same ∙ reading.count;
  }
    where
      k : Keeps options s (courses_at options s).done (courses_at options s).live no_id t
      k = reading.keeps

      c : Courses
      c = courses_at options s

      next : State
      next = record s { segment = with_under_way s.segment }

      courses_same : courses_at options next ≡ c
      courses_same = ap (courses_so_far options.reuse) (headings_same s.before s.segment)

      either : (o : Option ℕ) (n : ℕ) → Some (unwrap_or o n) ≡ option_or o (Some n)
      either None n = refl
      either (Some m) n = refl

  -- A directive comes that is about the trace or an end.
  pub said_read : (t u : Trace) (so : Bool) → IsReading options s t → u ≡ record t { broken_off = u.broken_off; names = u.names }
      → is_some u.broken_off ≡ so → IsReading options (record s { broken_off = so }) u
  said_read t u so reading same broken = record {
    keeps = record {
      asks = ap (λ (x : Trace). x.options) same ∙ k.asks;
      counts = ap (λ (x : Trace). x.dialogues) same ∙ k.counts;
      messages = ap (λ (x : Trace). x.messages) same ∙ k.messages;
      readable = ap (λ (x : Trace). x.readable) same ∙ k.readable;
      broken_off = broken;
      under_way = ap (λ (x : Trace). x.under_way) same ∙ k.under_way;
      held = λ n has. ap (λ (x : Trace). tree.get nat_cmp x.held n) same ∙ k.held n has;
      marks = subst (AreMarked s.before.sent s.before.open (λ d. may_go_on (dialogue_at s d)) no_id c.done)
          (sym (ap (λ (x : Trace). x.marks) same)) k.marks;
      begun = k.begun;
      noted = subst (AreNoted (headings_of s) k.begun) (sym (ap (λ (x : Trace). notes_in x.unread) same)) k.noted;
      tracked = k.tracked;
    };
    cut = subst (IsCut options.reuse (headings_of s)) (sym (ap (λ (x : Trace). x.cut) same)) reading.cut;
    count = ap (λ (x : Trace). x.count) same ∙ reading.count;
  }
    where
      k : Keeps options s (courses_at options s).done (courses_at options s).live no_id t
      k = reading.keeps

      c : Courses
      c = courses_at options s
