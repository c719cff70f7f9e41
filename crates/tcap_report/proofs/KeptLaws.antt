-- What is kept of a trace stays right when a segment ends, and when dialogues are taken in another order.
use Rattle.std.proofs.Common.{arith, ◌≡◌, ℕ, ◌+◌, Bool, true, false, List, [], ◌++◌, length, map, refl, sym, ap, subst, ◌∙◌}
use Rattle.std.specs.Prelude.{◌&&◌, Contains, None, Option, Some, filter, is_some, not}
use Rattle.std.specs.List.{flat_map, list_any}
use Rattle.std.proofs.lemmas.Bool.{false≢true}
use Rattle.std.proofs.lemmas.List.{append-nil}
use Rattle.tcap_record.specs.declared.entry.End.{End as Side}
use Rattle.tcap_record.specs.declared.entry.End.TheVariants as sides
use Rattle.tcap_dialogues.specs.Course.{Course, has_entry, own_ids}
use Rattle.tcap_dialogues.specs.CutState.{IsCut}
use Rattle.tcap_dialogues.specs.DialoguesOfList.{IdOf, is_among}
use Rattle.tcap_traces.specs.declared.before_marks.BeforeMarks.{BeforeMarks}
use Rattle.tcap_traces.specs.declared.before_marks.EndMarks.{EndMarks}
use Rattle.tcap_traces.specs.declared.verdict.Verdict.{Verdict}
use Rattle.tcap_traces.specs.Dialogue.{After, MarkAfter}
use Rattle.tcap_traces.specs.IdsBeforeMarks.{IsNew, Passes, Sends, sent_in}
use Rattle.tcap_traces.specs.JudgedTrace.{JudgedDialogue, all_in, is_reported, judged, verdict_on}
use Rattle.tcap_traces.specs.Segments.{after_it, may_go_on}
use Rattle.tcap_traces.specs.TraceProgress.{AreMarked, AreNoted, IsMarked, any_goes, any_stays, id_of}
use Rattle.tcap_traces.specs.TraceState.{State, ended, readable_of, start}
use Rattle.tcap_traces.specs.UnreadableEntries.{notes_in}
use Rattle.tcap_traces.proofs.DialoguePairs.{IsShuffled, shuffled_any}
use Rattle.tcap_traces.proofs.MarkLaws.{end_passed, sends_noted}
use Rattle.tcap_traces.proofs.SegmentState.{nothing_tracked}
use Rattle.tcap_traces.proofs.UnreadLaws.{nothing_noted}
use Rattle.tcap_report.specs.declared.trace.Trace.{Trace}
use Rattle.tcap_report.specs.declared.trace.TraceOptions.{TraceOptions}
use Rattle.tcap_report.specs.Counts.{more, no_counts}
use Rattle.tcap_report.specs.KeptState.{IsAt, IsOver, IsReading, Keeps, asked_of, before_item, counts_of, courses_at, dialogue_at, headings_of, no_id, reported_of}
use Rattle.tcap_report.proofs.CountsLaws.{each_shuffled}
use Rattle.tcap_report.proofs.ShuffledLists.{any_agrees, map_agrees, shuffled_behind, shuffled_filter, shuffled_map}

-- ---- counts

more_then : (a n : ℕ) → more a n ≡ more (a + n) 0
more_then a n = omega arith

-- ---- the IDs in use

-- The same is noted for other dialogues with the same IDs that go on and that stay.
module _ (sent «open» : List IdOf) (goes then : Course → Bool) (names : IdOf → Bool) (ds es : List Course)
    (same_goes : (id : IdOf) → any_goes goes ds id ≡ any_goes then es id) (same_stays : (id : IdOf) → any_stays goes ds id ≡ any_stays then es id) where
  end_same : (side : Side) (m : EndMarks) → IsMarked sent «open» (any_goes goes ds) (any_stays goes ds) names side m
      → IsMarked sent «open» (any_goes then es) (any_stays then es) names side m
  end_same side m is = record {
    known = is.known;
    opened = λ o. is.opened o ∙ same_goes (id_of side o);
    closed = λ o. is.closed o ∙ ap (λ b. b && is_among «open» (id_of side o)) (same_stays (id_of side o));
    named = is.named;
  }

  marked_same : (m : BeforeMarks) → AreMarked sent «open» goes names ds m → AreMarked sent «open» then names es m
  marked_same m are = record { a = end_same sides.A m.a are.a; b = end_same sides.B m.b are.b }

-- No ID is in use before the first quiet mark.
end_new : (goes : Course → Bool) (side : Side) (m : EndMarks) → IsNew m → IsMarked [] [] (any_goes goes []) (any_stays goes []) no_id side m
end_new goes side m (known, fresh) = record {
  known = known;
  opened = λ o. (fresh o).0;
  closed = λ o. (fresh o).1;
  named = λ o. (fresh o).2;
}

-- Nothing is kept of the trace before its first piece.
pub nothing_kept : (options : TraceOptions) (t : Trace) → t.options ≡ options → t.dialogues ≡ no_counts → t.messages ≡ 0 → t.readable ≡ 0
    → t.broken_off ≡ None → t.under_way ≡ None → t.count ≡ 0 → notes_in t.unread ≡ ([], true) → IsNew t.marks.a × IsNew t.marks.b
    → IsCut options.reuse [] t.cut → IsReading options start t
nothing_kept options t asks counts messages readable broken under_way count unread marks cut = record {
  keeps = record {
    asks = asks;
    counts = counts;
    messages = messages;
    readable = readable;
    broken_off = ap is_some broken;
    under_way = under_way;
    held = λ n is. absurd (false≢true is);
    marks = record { a = end_new goes sides.A t.marks.a marks.0; b = end_new goes sides.B t.marks.b marks.1 };
    begun = λ n. false;
    noted = subst (AreNoted [] (λ n. false)) (sym unread) (nothing_noted (λ n. false));
    tracked = nothing_tracked options.reuse;
  };
  cut = cut;
  count = count;
}
  where
    goes : Course → Bool
    goes d = may_go_on (dialogue_at start d)

module _ (options : TraceOptions) (s : State) where
  -- a dialogue of the segment, judged; and the verdicts that are counted
  abbrev judged_at : Course → JudgedDialogue
  judged_at d = judged (asked_of options) s.count (dialogue_at s d)

  abbrev verdicts_at : List Course → List Verdict
  verdicts_at ds = map (verdict_on (asked_of options)) (s.reported ++ reported_of options s ds)

  abbrev goes_on : Course → Bool
  goes_on d = may_go_on (dialogue_at s d)

  -- Dialogues were judged in another order.
  pub keeps_shuffled : (done fs es waiting : List Course) (names : IdOf → Bool) (t : Trace) → IsShuffled fs es
      → Keeps options s (done ++ es) waiting names t → Keeps options s (done ++ fs) waiting names t
  keeps_shuffled done fs es waiting names t shuffled keeps = record {
    asks = keeps.asks;
    counts = keeps.counts ∙ each_shuffled (verdicts_at (done ++ fs)) (verdicts_at (done ++ es)) no_counts verdicts;
    messages = keeps.messages;
    readable = keeps.readable;
    broken_off = keeps.broken_off;
    under_way = keeps.under_way;
    held = keeps.held;
    marks = marked_same s.before.sent s.before.open goes_on goes_on names (done ++ es) (done ++ fs)
        (λ id. any (λ d. goes_on d && is_among d.ids id)) (λ id. any (λ d. not (goes_on d) && is_among d.ids id)) t.marks keeps.marks;
    begun = keeps.begun;
    noted = keeps.noted;
    tracked = keeps.tracked;
  }
    where
      all : IsShuffled (done ++ fs) (done ++ es)
      all = shuffled_behind done fs es shuffled

      reported : IsShuffled (reported_of options s (done ++ fs)) (reported_of options s (done ++ es))
      reported =
          shuffled_filter (is_reported (asked_of options)) (map judged_at (done ++ fs)) (map judged_at (done ++ es))
          (shuffled_map judged_at (done ++ fs) (done ++ es) all)

      verdicts : IsShuffled (verdicts_at (done ++ fs)) (verdicts_at (done ++ es))
      verdicts =
          shuffled_map (verdict_on (asked_of options)) (s.reported ++ reported_of options s (done ++ fs)) (s.reported ++ reported_of options s (done ++ es))
          (shuffled_behind s.reported (reported_of options s (done ++ fs)) (reported_of options s (done ++ es)) reported)

      any : (p : Course → Bool) → list_any p (done ++ es) ≡ list_any p (done ++ fs)
      any p = shuffled_any p (done ++ fs) (done ++ es) all

  -- Fewer entries wait.
  pub keeps_waiting : (done waiting fewer : List Course) (names : IdOf → Bool) (t : Trace)
      → ((n : ℕ) → list_any (λ d. has_entry d n) fewer ≡ true → list_any (λ d. has_entry d n) waiting ≡ true)
      → Keeps options s done waiting names t → Keeps options s done fewer names t
  keeps_waiting done waiting fewer names t within keeps = record {
    asks = keeps.asks;
    counts = keeps.counts;
    messages = keeps.messages;
    readable = keeps.readable;
    broken_off = keeps.broken_off;
    under_way = keeps.under_way;
    held = λ n is. keeps.held n (within n is);
    marks = keeps.marks;
    begun = keeps.begun;
    noted = keeps.noted;
    tracked = keeps.tracked;
  }

  -- A dialogue that is over is the same no matter what comes after the segment.
  dialogue_before : (end : After) (d : Course) → is_some d.over ≡ true → dialogue_at s d ≡ dialogue_at (before_item end s) d
  dialogue_before end d over = ap (λ after. record (dialogue_at s d) { after = after }) (by d.over over)
    where
      by : (o : Option ℕ) → is_some o ≡ true → after_it o s.segment.end ≡ after_it o end
      by None none = absurd (false≢true none)
      by (Some n) some = refl

  -- Dialogues that are over do not depend on what comes after the segment.
  pub keeps_before : (end : After) (done waiting : List Course) (names : IdOf → Bool) (t : Trace)
      → ((d : Course) → Contains done d → is_some d.over ≡ true)
      → Keeps options s done waiting names t → Keeps options (before_item end s) done waiting names t
  keeps_before end done waiting names t over keeps = record {
    asks = keeps.asks;
    counts = keeps.counts
        ∙ ap (λ js. counts_of (map (verdict_on (asked_of options)) (s.reported ++ filter (is_reported (asked_of options)) js)))
        (map_agrees judged_at judged_then done (λ d has. ap (judged (asked_of options) s.count) (same d has)));
    messages = keeps.messages;
    readable = keeps.readable;
    broken_off = keeps.broken_off;
    under_way = keeps.under_way;
    held = keeps.held;
    marks = marked_same s.before.sent s.before.open goes_on goes_then names done done
        (λ id. any_agrees (λ d. goes_on d && is_among d.ids id) (λ d. goes_then d && is_among d.ids id) done
        (λ d has. ap (λ a. may_go_on a && is_among d.ids id) (same d has)))
        (λ id. any_agrees (λ d. not (goes_on d) && is_among d.ids id) (λ d. not (goes_then d) && is_among d.ids id) done
        (λ d has. ap (λ a. not (may_go_on a) && is_among d.ids id) (same d has))) t.marks keeps.marks;
    begun = keeps.begun;
    noted = keeps.noted;
    tracked = keeps.tracked;
  }
    where
      same : (d : Course) → Contains done d → dialogue_at s d ≡ dialogue_at (before_item end s) d
      same d has = dialogue_before end d (over d has)

      judged_then : Course → JudgedDialogue
      judged_then d = judged (asked_of options) s.count (dialogue_at (before_item end s) d)

      goes_then : Course → Bool
      goes_then d = may_go_on (dialogue_at (before_item end s) d)

  -- The IDs from which the ends sent are noted.
  pub keeps_names : (done waiting : List Course) (t u : Trace) → u ≡ record t { marks = u.marks }
      → Sends (sent_in (headings_of s) sides.A) t.marks.a u.marks.a → Sends (sent_in (headings_of s) sides.B) t.marks.b u.marks.b
      → Keeps options s done waiting no_id t → Keeps options s done waiting (is_among (flat_map own_ids (headings_of s))) u
  keeps_names done waiting t u same a b keeps =
      subst (Keeps options s done waiting (is_among (flat_map own_ids (headings_of s)))) (sym same) (record {
        asks = keeps.asks;
        counts = keeps.counts;
        messages = keeps.messages;
        readable = keeps.readable;
        broken_off = keeps.broken_off;
        under_way = keeps.under_way;
        held = keeps.held;
        marks = record {
          a = sends_noted s.before.sent s.before.open goes_on done (headings_of s) sides.A t.marks.a u.marks.a keeps.marks.a a;
          b = sends_noted s.before.sent s.before.open goes_on done (headings_of s) sides.B t.marks.b u.marks.b keeps.marks.b b;
        };
        begun = keeps.begun;
        noted = keeps.noted;
        tracked = keeps.tracked;
      })

  -- The next segment begins.
  pub mark_passed : (t u : Trace) → Keeps options (before_item MarkAfter s) (all_in (courses_at options s)) [] (is_among (flat_map own_ids (headings_of s))) t
      → IsCut options.reuse [] t.cut
      → u ≡ record t { marks = u.marks; before = u.before; count = 0; unread = u.unread; under_way = None }
      → notes_in u.unread ≡ ([], true) → Passes t.marks.a u.marks.a → Passes t.marks.b u.marks.b
      → IsReading options (ended (asked_of options) MarkAfter s) u
  mark_passed t u keeps cut same noted a b = subst (IsReading options (ended (asked_of options) MarkAfter s)) (sym same) (record {
    keeps = record {
      asks = keeps.asks;
      counts = keeps.counts ∙ ap (λ js. counts_of (map (verdict_on (asked_of options)) js)) (sym (append-nil next.reported));
      messages = keeps.messages ∙ more_then s.messages (length s.segment.entries);
      readable = keeps.readable ∙ more_then s.readable (readable_of s.segment);
      broken_off = keeps.broken_off;
      under_way = refl;
      held = λ n is. absurd (false≢true is);
      marks = record {
        a = end_passed s.before.sent s.before.open goes_then all (headings_of s) sides.A t.marks.a u.marks.a keeps.marks.a a.0 a.1 goes_next;
        b = end_passed s.before.sent s.before.open goes_then all (headings_of s) sides.B t.marks.b u.marks.b keeps.marks.b b.0 b.1 goes_next;
      };
      begun = λ n. false;
      noted = subst (AreNoted [] (λ n. false)) (sym noted) (nothing_noted (λ n. false));
      tracked = nothing_tracked options.reuse;
    };
    cut = cut;
    count = refl;
  })
    where
      next : State
      next = ended (asked_of options) MarkAfter s

      all : List Course
      all = all_in (courses_at options s)

      goes_then : Course → Bool
      goes_then d = may_go_on (dialogue_at (before_item MarkAfter s) d)

      goes_next : Course → Bool
      goes_next d = may_go_on (dialogue_at next d)

  -- A quiet mark comes: the IDs from which the ends sent are noted.
  pub mark_noted : (t u : Trace) → IsReading options s t → u ≡ record t { marks = u.marks }
      → Sends (sent_in (headings_of s) sides.A) t.marks.a u.marks.a × Sends (sent_in (headings_of s) sides.B) t.marks.b u.marks.b
      → IsAt options s (is_among (flat_map own_ids (headings_of s))) u
  mark_noted t u reading same (a, b) = record {
    keeps = keeps_names (courses_at options s).done (courses_at options s).live t u same a b reading.keeps;
    cut = subst (λ (x : Trace). IsCut options.reuse (headings_of s) x.cut) (sym same) reading.cut;
    count = ap (λ (x : Trace). x.count) same ∙ reading.count;
  }

  -- Then the live dialogues are judged, the next segment begins, and the IDs before it are known.
  pub mark_read : (old t one u : Trace) → IsReading options s old
      → Keeps options (before_item MarkAfter s) (all_in (courses_at options s)) [] (is_among (flat_map own_ids (headings_of s))) t
      → IsCut old.options.reuse [] t.cut → one ≡ record t { before = one.before; count = 0; unread = one.unread; under_way = None }
      → notes_in one.unread ≡ ([], true) → u ≡ record one { marks = u.marks } → Passes one.marks.a u.marks.a × Passes one.marks.b u.marks.b
      → IsReading options (ended (asked_of options) MarkAfter s) u
  mark_read old t one u reading keeps cut begun noted same (a, b) =
      mark_passed t u keeps (subst (λ (o : TraceOptions). IsCut o.reuse [] t.cut) reading.keeps.asks cut)
      (next_is u same)
      (ap (λ (x : Trace). notes_in x.unread) same ∙ noted)
      (subst (λ (x : Trace). Passes x.marks.a u.marks.a) begun a)
      (subst (λ (x : Trace). Passes x.marks.b u.marks.b) begun b)
    where
      next_is : (v : Trace) → v ≡ record one { marks = v.marks }
          → v ≡ record t { marks = v.marks; before = v.before; count = 0; unread = v.unread; under_way = None }
      next_is v is =
          is ∙ ap (λ (x : Trace). record x { marks = v.marks }) begun
          ∙ ap (λ (x : Trace). record t { marks = v.marks; before = x.before; count = 0; unread = x.unread; under_way = None }) (sym is)

  -- The trace ends, or a fault ends it.
  pub trace_over : (end : After) (names : IdOf → Bool) (t : Trace)
      → Keeps options (before_item end s) (all_in (courses_at options s)) [] names t → IsOver options (ended (asked_of options) end s) t
  trace_over end names t keeps = record {
    counts = keeps.counts;
    messages = keeps.messages ∙ more_then s.messages (length s.segment.entries);
    readable = keeps.readable ∙ more_then s.readable (readable_of s.segment);
    broken_off = keeps.broken_off;
  }
