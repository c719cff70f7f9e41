-- The case of a gathered dialogue describes the dialogue that it represents, and its verdict is counted.
use Rattle.std.specs.BTreeMap as tree
use Rattle.std.specs.Ordering.{nat_cmp}
use Rattle.std.specs.List.{cons_option, filter_map, list_any}
use Rattle.std.specs.List.Sorted.{IsNonDecreasing, IsStrictlySortedBy}
use Rattle.std.proofs.Common.{arith, ◌≡◌, ◌⊎◌, inl, inr, ℕ, zero, suc, ◌+◌, ◌<◌, ◌≤◌, Bool, true, false, cond, List, [], ◌∷◌, ◌++◌, length, map, refl, sym, ap, subst, ◌∙◌, append_assoc}
use Rattle.std.specs.Prelude.{◌==◌, ◌&&◌, ◌||◌, Contains, Err, None, Ok, OnOk, Option, Result, Some, filter, is_some, not, option_map, slice_get}
use Rattle.std.proofs.lemmas.Bool.{eq-eqb, false_from_ne_true, false≢true, or_left, or_right}
use Rattle.std.proofs.lemmas.List.{map-append}
use Rattle.std.proofs.lemmas.List.Elements.{filter-append}
use Rattle.tcap_dialogues.specs.Course.{Course, Heading, has_entry}
use Rattle.tcap_dialogues.specs.CutDialogues.{IsCompleteDialogue}
use Rattle.tcap_dialogues.specs.DialoguesOfList.{IdOf, is_among, is_same}
use Rattle.tcap_dialogues.specs.declared.complete_dialogue.CompleteDialogue.{CompleteDialogue}
use Rattle.tcap_dialogues.proofs.CutIds.{is_itself}
use Rattle.tcap_dialogues.proofs.CutLists.{first_in, found, later_in}
use Rattle.tcap_traces.specs.declared.case.Case.{Case}
use Rattle.tcap_traces.specs.declared.case.NextItem.{NextItem}
use Rattle.tcap_traces.specs.declared.case.NextItem.TheVariants as items
use Rattle.tcap_traces.specs.declared.verdict.Verdict.{Verdict}
use Rattle.tcap_traces.specs.Case.{after_of, dialogue_in, gathered_as, question_by, question_in, unread_after, unread_by}
use Rattle.tcap_traces.specs.Dialogue.{Dialogue, begun_by, heading_in, verdict_on}
use Rattle.tcap_traces.specs.IdsBeforeMarks.{Notes, is_in_use as is_in_use_of}
use Rattle.tcap_traces.specs.JudgedTrace.{JudgedDialogue, all_in, is_broken, is_fail, is_reported, judged, verdict_on as verdict_of}
use Rattle.tcap_traces.specs.Segments.{after_it, entries_in, headings_in, is_in_use, least_unread, may_go_on, numbers_in, unreadable_from}
use Rattle.tcap_traces.specs.TraceProgress.{AreNoted, IsFirst}
use Rattle.tcap_traces.specs.TraceState.{State}
use Rattle.tcap_traces.specs.UnreadableEntries.{first_above, notes_in}
use Rattle.tcap_traces.proofs.CaseFacts.{has_ids_is, in_use_is as marks_tell}
use Rattle.tcap_traces.proofs.DialogueFacts.{entries_same, facts_same, first_entry, unread_same}
use Rattle.tcap_traces.proofs.DialoguePairs.{AreEntered}
use Rattle.tcap_traces.proofs.MarkLaws.{noted as ids_noted}
use Rattle.tcap_traces.proofs.SegmentLaws.{headings_length}
use Rattle.tcap_traces.proofs.SegmentState.{below_all, entered_all}
use Rattle.tcap_traces.proofs.TakenEntries.{entries_at}
use Rattle.tcap_report.proofs.CountsLaws.{each_append}
use Rattle.tcap_report.specs.Counts.{no_counts, with_each, with_one}
use Rattle.tcap_report.specs.declared.sum.Counts.{Counts}
use Rattle.tcap_report.specs.declared.trace.Trace.{Trace}
use Rattle.tcap_report.specs.declared.trace.TraceOptions.{TraceOptions}
use Rattle.tcap_report.specs.KeptState.{AreSeparate, IsBefore, Keeps, asked_of, counts_of, courses_at, dialogue_at, headings_of, reported_of}
use Rattle.tcap_report.specs.NotedCase.{is_in_use_by}

-- Two functions that agree on these numbers find the same.
same_found : {Y : Type 0} (f h : ℕ → Option Y) (ns : List ℕ) → ((n : ℕ) → list_any (λ i. i == n) ns ≡ true → f n ≡ h n)
    → filter_map f ns ≡ filter_map h ns
same_found f h [] same = refl
same_found f h (n ∷ ns) same =
    ap (λ o. cons_option o (filter_map f ns)) (same n (or_left (n == n) (list_any (λ i. i == n) ns) (eq-eqb n n refl)))
    ∙ ap (cons_option (h n)) (same_found f h ns (λ m has. same m (or_right (n == m) (list_any (λ i. i == m) ns) has)))

-- A dialogue with an entry has a first one.
first_of : (d : Course) (n : ℕ) → has_entry d n ≡ true → (m : ℕ) × IsFirst d m
first_of d n has = from 0 n (omega arith) (λ i is. omega arith)
  where
    from : (k more : ℕ) → k + more ≡ n → ((i : ℕ) → has_entry d i ≡ true → k ≤ i) → (m : ℕ) × IsFirst d m
    from k zero at least =
        let same : k ≡ n = omega (at, arith) in
        (k, record { has = ap (has_entry d) same ∙ has; least = least })
    from k (suc more) at least = by (has_entry d k) refl (λ next. from (suc k) more (omega (at, arith)) next)
      where
        by : (b : Bool) → has_entry d k ≡ b → (((i : ℕ) → has_entry d i ≡ true → suc k ≤ i) → (m : ℕ) × IsFirst d m)
            → (m : ℕ) × IsFirst d m
        by true is rest = (k, record { has = is; least = least })
        by false is rest =
            rest
            (λ i so.
            let most = least i so in
            let other : k ≡ i → ⊥ = λ eq. false≢true (sym is ∙ ap (has_entry d) eq ∙ so) in omega (most, other, arith))

module _ (options : TraceOptions) (s : State) (done waiting : List Course) (names : IdOf → Bool) (d : Course) (t : Trace) (case : Case)
    (next : NextItem) (are : IsCompleteDialogue d case.gathered) (separate : AreSeparate options s (d ∷ waiting)) (before : IsBefore next s d)
    (keeps : Keeps options s done (d ∷ waiting) names t)
    (next_is : case.next ≡ cond (is_some case.gathered.over) items.More next)
    (question_is : question_by case.rules ≡ (asked_of t.options).question)
    (directive_is : case.under_way ≡ t.under_way)
    (entries_are : case.entries.items ≡ filter_map (tree.get nat_cmp t.held) case.gathered.numbers.items)
    (in_use_is : is_some case.in_use ≡ is_in_use_by t.marks case.gathered (option_map heading_in (slice_get case.entries.items 0)))
    (unread_is : case.unread ≡ unread_by (notes_in t.unread).0 case.gathered (option_map heading_in (slice_get case.entries.items 0))) where
  abbrev g : CompleteDialogue
  g = case.gathered

  -- the heading of the dialogue's first entry
  abbrev first : Option Heading
  first = option_map heading_in (slice_get (entries_in d 0 s.segment.entries) 0)

  inside : Contains (all_in (courses_at options s)) d
  inside = separate.inside d (first_in d waiting)

  below : (n : ℕ) → has_entry d n ≡ true → n < length s.segment.entries
  below n has = subst (λ k. n < k) (headings_length s.before s.segment) (below_all options.reuse (headings_of s) d n inside has)

  -- The entries that are taken are those of the dialogue.
  taken_same : case.entries.items ≡ entries_at s.segment.entries g.numbers.items
  taken_same =
      entries_are
      ∙ same_found (tree.get nat_cmp t.held) (slice_get s.segment.entries) g.numbers.items
      (λ n has. keeps.held n (or_left (has_entry d n) (list_any (λ e. has_entry e n) waiting) (sym (are.numbers n) ∙ has)))

  first_same : option_map heading_in (slice_get case.entries.items 0) ≡ first
  first_same = ap (λ es. option_map heading_in (slice_get es 0)) (taken_same ∙ entries_same s.before s.segment d g are below)

  after_same : after_of case.next ≡ after_it d.over s.segment.end
  after_same = ap after_of next_is ∙ ap (λ o. after_of (cond (is_some o) items.More next)) are.over ∙ by d.over before
    where
      by : (o : Option ℕ) → (is_some o ≡ true) ⊎ (s.segment.end ≡ after_of next)
          → after_of (cond (is_some o) items.More next) ≡ after_it o s.segment.end
      by (Some n) either = refl
      by None (inl none) = absurd (false≢true none)
      by None (inr is) = sym is

  has_first : (h : Heading) × (first ≡ Some h)
  has_first =
      let (k, has) = keeps.tracked.entered d inside in
      let (n, is_first) = first_of d k has in
      first_entry s.before s.segment d g are below n is_first

  in_use_same : is_some case.in_use ≡ (not d.again && is_in_use s.before first d.ids)
  in_use_same = by has_first
    where
      by : (h : Heading) × (first ≡ Some h) → is_some case.in_use ≡ (not d.again && is_in_use s.before first d.ids)
      by (h, is) =
          in_use_is ∙ ap (is_in_use_by t.marks g) (first_same ∙ is)
          ∙ ap (λ b. not b && is_in_use_of t.marks h g) are.again
          ∙ ap (λ b. not d.again && b) (marks_tell s.before t.marks keeps.marks.a.known keeps.marks.b.known d g h are)
          ∙ ap (λ f. not d.again && is_in_use s.before f d.ids) (sym is)

  -- the unreadable entry that may belong to the dialogue, if the dialogue has these IDs
  abbrev unread_with : List IdOf → Option ℕ
  unread_with ids =
      cond (is_some (slice_get ids 0))
      (unreadable_from (least_unread first (slice_get (numbers_in d 0 s.segment.entries) 0)) 0 (headings_in s.before s.segment)) None

  unread_right : case.unread ≡ unread_with d.ids
  unread_right = unread_is ∙ ap (unread_by (notes_in t.unread).0 g) first_same ∙ by d.ids refl
    where
      by : (ids : List IdOf) → d.ids ≡ ids → unread_by (notes_in t.unread).0 g first ≡ unread_with d.ids
      by [] is =
          ap (λ b. cond b (first_above (unread_after (begun_by first) (slice_get g.numbers.items 0)) (notes_in t.unread).0) None)
          (has_ids_is d g are ∙ ap (λ l. is_some (slice_get l 0)) is)
          ∙ sym (ap unread_with is)
      by (id ∷ ids) is =
          let has : is_among d.ids id ≡ true = ap (λ l. is_among l id) is ∙ or_left (is_same id id) (is_among ids id) (is_itself id) in
          let (n, is_first, begins) = keeps.tracked.well d inside id has in
          unread_same s.before s.segment d g are below n is_first keeps.begun (notes_in t.unread) keeps.noted begins

  -- The case describes the dialogue.
  pub case_is : dialogue_in case ≡ dialogue_at s d
  case_is =
      ap (λ es. gathered_as g es (after_of case.next) case.under_way (is_some case.in_use) case.unread) taken_same
      ∙ ap (λ o. gathered_as g (entries_at s.segment.entries g.numbers.items) (after_of case.next) o (is_some case.in_use) case.unread)
      (directive_is ∙ keeps.under_way)
      ∙ facts_same s.before s.segment d g are below (after_of case.next) (is_some case.in_use) case.unread after_same in_use_same unread_right

  -- ---- its verdict is counted

  abbrev one : JudgedDialogue
  one = judged (asked_of options) s.count (dialogue_at s d)

  abbrev verdicts : List JudgedDialogue → List Verdict
  verdicts js = map (verdict_of (asked_of options)) js

  -- the counts before it
  abbrev counted_before : Counts
  counted_before = counts_of (verdicts (s.reported ++ reported_of options s done))

  -- the counts with a verdict, if it is reported
  abbrev counted_if : Bool → Verdict → Counts → Counts
  counted_if b verdict c = cond b (with_one verdict c) c

  verdict_same : (verdict : Verdict) → verdict ≡ verdict_on t.options.book.now (question_in case) (dialogue_in case)
      → verdict ≡ verdict_of (asked_of options) one
  verdict_same verdict is =
      is ∙ ap (λ q. verdict_on t.options.book.now q (dialogue_in case)) question_is
      ∙ ap (λ (o : TraceOptions). verdict_on o.book.now (asked_of o).question (dialogue_in case)) keeps.asks
      ∙ ap (verdict_on options.book.now (asked_of options).question) case_is

  reported_more : reported_of options s (done ++ d ∷ []) ≡ reported_of options s done ++ reported_of options s (d ∷ [])
  reported_more =
      ap (filter (is_reported (asked_of options))) (map-append (λ e. judged (asked_of options) s.count (dialogue_at s e)) done (d ∷ []))
      ∙ filter-append (is_reported (asked_of options)) (map (λ e. judged (asked_of options) s.count (dialogue_at s e)) done) (one ∷ [])

  counted_more : counts_of (verdicts (s.reported ++ reported_of options s (done ++ d ∷ [])))
      ≡ counted_if (is_reported (asked_of options) one) (verdict_of (asked_of options) one) counted_before
  counted_more =
      ap (λ l. counts_of (verdicts (s.reported ++ l))) reported_more
      ∙ ap (λ l. counts_of (verdicts l)) (sym (append_assoc s.reported (reported_of options s done) (reported_of options s (d ∷ []))))
      ∙ ap counts_of (map-append (verdict_of (asked_of options)) (s.reported ++ reported_of options s done) (reported_of options s (d ∷ [])))
      ∙ each_append (verdicts (s.reported ++ reported_of options s done)) (verdicts (reported_of options s (d ∷ []))) no_counts
      ∙ by (is_reported (asked_of options) one)
    where
      by : (b : Bool) → with_each (verdicts (cond b (one ∷ []) [])) counted_before ≡ counted_if b (verdict_of (asked_of options) one) counted_before
      by true = refl
      by false = refl

  counts_then : (u : Trace) (verdict : Verdict) → verdict ≡ verdict_on t.options.book.now (question_in case) (dialogue_in case)
      → u.dialogues ≡ cond (not (is_broken (after_of case.next)) || is_fail verdict) (with_one verdict t.dialogues) t.dialogues
      → u.dialogues ≡ counts_of (verdicts (s.reported ++ reported_of options s (done ++ d ∷ [])))
  counts_then u verdict verdict_is counted =
      counted ∙ ap (λ v. counted_if (not (is_broken (after_of case.next)) || is_fail v) v t.dialogues) (verdict_same verdict verdict_is)
      ∙ ap (λ (x : Dialogue). counted_if (not (is_broken x.after) || is_fail (verdict_of (asked_of options) one))
      (verdict_of (asked_of options) one) t.dialogues) case_is
      ∙ ap (counted_if (is_reported (asked_of options) one) (verdict_of (asked_of options) one)) keeps.counts
      ∙ sym counted_more

  -- ---- the others wait

  entered : AreEntered (d ∷ waiting)
  entered = entered_all options.reuse (headings_of s) keeps.begun (d ∷ waiting) keeps.tracked separate.inside

  -- An entry of a dialogue that waits is no entry of this one.
  apart : (e : Course) (n : ℕ) → Contains waiting e → has_entry e n ≡ true → has_entry d n ≡ false
  apart e n has is =
      false_from_ne_true _
      (λ its. separate.differ.0 (subst (Contains waiting) (sym (entered.one d e n (first_in d waiting) (later_in d e waiting has) its is)) has))

  held_then : (u : Trace) → ((n : ℕ) → list_any (λ i. i == n) g.numbers.items ≡ false → tree.get nat_cmp u.held n ≡ tree.get nat_cmp t.held n)
      → (n : ℕ) → list_any (λ e. has_entry e n) waiting ≡ true → tree.get nat_cmp u.held n ≡ slice_get s.segment.entries n
  held_then u others n has =
      let (e, there, is) = found (λ e. has_entry e n) waiting has in
      others n (are.numbers n ∙ apart e n there is) ∙ keeps.held n (or_right (has_entry d n) (list_any (λ e. has_entry e n) waiting) has)

  -- The dialogue is judged: its verdict is counted if it is reported, and its IDs are noted.
  pub judged_kept : (u : Trace) (verdict : Verdict) → verdict ≡ verdict_on t.options.book.now (question_in case) (dialogue_in case)
      → u.dialogues ≡ cond (not (is_broken (after_of case.next)) || is_fail verdict) (with_one verdict t.dialogues) t.dialogues
      → Notes (may_go_on (dialogue_in case)) case.gathered t.marks u.marks
      → ((n : ℕ) → list_any (λ i. i == n) case.gathered.numbers.items ≡ false → tree.get nat_cmp u.held n ≡ tree.get nat_cmp t.held n)
      → u ≡ record t { held = u.held; marks = u.marks; dialogues = u.dialogues; unheard = u.unheard }
      → Keeps options s (done ++ d ∷ []) waiting names u
  judged_kept u verdict verdict_is counted noted held same = record {
    asks = ap (λ (x : Trace). x.options) same ∙ keeps.asks;
    counts = counts_then u verdict verdict_is counted;
    messages = ap (λ (x : Trace). x.messages) same ∙ keeps.messages;
    readable = ap (λ (x : Trace). x.readable) same ∙ keeps.readable;
    broken_off = ap (λ (x : Trace). is_some x.broken_off) same ∙ keeps.broken_off;
    under_way = ap (λ (x : Trace). x.under_way) same ∙ keeps.under_way;
    held = held_then u held;
    marks = ids_noted s.before.sent s.before.open (λ e. may_go_on (dialogue_at s e)) names done d g t.marks u.marks (may_go_on (dialogue_in case))
        are (ap may_go_on case_is) keeps.marks noted;
    begun = keeps.begun;
    noted = subst (λ (x : Trace). AreNoted (headings_of s) keeps.begun (notes_in x.unread)) (sym same) keeps.noted;
    tracked = keeps.tracked;
  }

-- A dialogue was taken out of `old`, which gave `mid` and this case, and judged, which gave `new`.
pub case_judged : {T E : Type 0} (r : Result T E) (options : TraceOptions) (s : State) (done waiting : List Course) (names : IdOf → Bool)
    (d : Course) (old mid new : Trace) (case : Case) (next : NextItem) (g : CompleteDialogue) (verdict : Verdict)
    → IsCompleteDialogue d g → AreSeparate options s (d ∷ waiting) → IsBefore next s d → Keeps options s done (d ∷ waiting) names old
    → (case.gathered ≡ g) × (case.next ≡ cond (is_some g.over) items.More next)
    × (question_by case.rules ≡ (asked_of old.options).question) × (case.under_way ≡ old.under_way)
    → (IsStrictlySortedBy nat_cmp g.numbers.items → case.entries.items ≡ filter_map (tree.get nat_cmp old.held) g.numbers.items)
    → is_some case.in_use ≡ is_in_use_by old.marks g (option_map heading_in (slice_get case.entries.items 0))
    → (IsNonDecreasing (notes_in old.unread).0 → case.unread
    ≡ unread_by (notes_in old.unread).0 g (option_map heading_in (slice_get case.entries.items 0)))
    → ((n : ℕ) → list_any (λ i. i == n) g.numbers.items ≡ false → tree.get nat_cmp mid.held n ≡ tree.get nat_cmp old.held n)
    → mid ≡ record old { held = mid.held } → verdict ≡ verdict_on mid.options.book.now (question_in case) (dialogue_in case)
    → OnOk r (new.dialogues ≡ cond (not (is_broken (after_of case.next)) || is_fail verdict) (with_one verdict mid.dialogues) mid.dialogues)
    → OnOk r (Notes (may_go_on (dialogue_in case)) case.gathered mid.marks new.marks)
    → OnOk r (new ≡ record mid { marks = new.marks; dialogues = new.dialogues; unheard = new.unheard })
    → OnOk r (Keeps options s (done ++ d ∷ []) waiting names new)
case_judged (Err e) options s done waiting names d old mid new case next g verdict are separate before keeps is entries in_use unread others rest
    verdict_is counted noted same = tt
case_judged (Ok x) options s done waiting names d old mid new case next g verdict are separate before keeps is entries in_use unread others rest
    verdict_is counted noted same =
    let those : g ≡ case.gathered = sym is.0 in
    let first = option_map heading_in (slice_get case.entries.items 0) in
    judged_kept options s done waiting names d old case next (subst (IsCompleteDialogue d) those are) separate before keeps
    (is.1 ∙ ap (λ (k : CompleteDialogue). cond (is_some k.over) items.More next) those) is.2 is.3
    (entries are.ascending ∙ ap (λ (k : CompleteDialogue). filter_map (tree.get nat_cmp old.held) k.numbers.items) those)
    (in_use ∙ ap (λ k. is_in_use_by old.marks k first) those)
    (unread keeps.noted.sorted ∙ ap (λ k. unread_by (notes_in old.unread).0 k first) those) new verdict
    (verdict_is ∙ ap (λ (t : Trace). verdict_on t.options.book.now (question_in case) (dialogue_in case)) rest)
    (counted
    ∙ ap (λ (t : Trace). cond (not (is_broken (after_of case.next)) || is_fail verdict) (with_one verdict t.dialogues) t.dialogues) rest)
    (subst (λ (t : Trace). Notes (may_go_on (dialogue_in case)) case.gathered t.marks new.marks) rest noted)
    (λ n none.
    ap (λ (t : Trace). tree.get nat_cmp t.held n) same
    ∙ others n (ap (λ (k : CompleteDialogue). list_any (λ i. i == n) k.numbers.items) those ∙ none))
    (same ∙ ap (λ (t : Trace). record t { marks = new.marks; dialogues = new.dialogues; unheard = new.unheard }) rest
    ∙ ap (λ h. record old { held = h; marks = new.marks; dialogues = new.dialogues; unheard = new.unheard }) (sym (ap (λ (t : Trace). t.held) same)))
