-- The dialogues of a segment as its entries come: each has an entry, no two are the same, and those that are done are over.
use Rattle.std.proofs.Common.{arith, ◌≡◌, ◌⊎◌, inl, inr, ℕ, suc, ◌<◌, Bool, true, false, cond, List, [], ◌∷◌, ◌++◌, refl, sym, subst, ◌∙◌, length}
use Rattle.std.specs.Prelude.{◌==◌, not, is_some, Contains, filter}
use Rattle.std.proofs.lemmas.Bool.{eq-eqb, eqb-true, false≢true, or_left}
use Rattle.std.proofs.lemmas.List.{length-append}
use Rattle.std.proofs.lemmas.List.Elements.{Contains-append_cases, Contains-append_left, Contains-append_right}
use Rattle.tcap_dialogues.specs.Course.{Course, Courses, Heading, begins_new, courses_after, courses_so_far, earlier_in, has_entry, share_id, ids_in, is_free, with_entry}
use Rattle.tcap_dialogues.specs.declared.reuse.Reuse.{Reuse}
use Rattle.tcap_dialogues.proofs.CourseLaws.{Among}
use Rattle.tcap_dialogues.proofs.CourseStretch.{so_far_more, well_so_far}
use Rattle.tcap_dialogues.proofs.CutLists.{finds_last, in_cases, kept_in, none_in}
use Rattle.tcap_traces.specs.TraceProgress.{AllDiffer, AreTracked, BeginWell, all_of}
use Rattle.tcap_traces.proofs.DialoguePairs.{AreEntered, differ_then}
use Rattle.tcap_traces.proofs.FirstEntries.{begin_well_then}
use Rattle.tcap_traces.proofs.SegmentLaws.{free_is_over}
use Rattle.tcap_traces.proofs.UnreadLaws.{begun_with}

pub nothing_tracked : (reuse : Reuse) → AreTracked reuse [] (λ n. false)
nothing_tracked reuse = record {
  begun_below = λ n is. absurd (false≢true is);
  well = λ d has id its. absurd (none_in d has);
  differ = tt;
  over = λ d has. absurd (none_in d has);
  entered = λ d has. absurd (none_in d has);
}

among_of : (done live : List Course) (d : Course) → Contains (done ++ live) d → Among done live d
among_of done live d has = Contains-append_cases done live d has

-- The numbers of the dialogues are below the number of entries.
pub below_all : (reuse : Reuse) (hs : List Heading) (d : Course) (i : ℕ) → Contains (all_of reuse hs) d → has_entry d i ≡ true → i < length hs
below_all reuse hs d i has is =
    (well_so_far reuse hs).courses.below d i (among_of (courses_so_far reuse hs).done (courses_so_far reuse hs).live d has) is

-- They are apart, each with an entry.
pub entered_all : (reuse : Reuse) (hs : List Heading) (begun : ℕ → Bool) (ds : List Course) → AreTracked reuse hs begun
    → ((d : Course) → Contains ds d → Contains (all_of reuse hs) d) → AreEntered ds
entered_all reuse hs begun ds are from = record {
  some = λ d has. are.entered d (from d has);
  one = λ d e n has hers is so.
      let s = courses_so_far reuse hs in
      (well_so_far reuse hs).courses.one_number d e n (among_of s.done s.live d (from d has)) (among_of s.done s.live e (from e hers)) is so;
}

module _ (reuse : Reuse) (n : ℕ) (h : Heading) (s : Courses) where
  abbrev free : Course → Bool
  free = is_free reuse n s h

  abbrev done_then : List Course
  done_then = s.done ++ filter free s.live

  abbrev left_then : List Course
  left_then = filter (λ e. not (free e)) s.live

  abbrev new : Course
  new = with_entry (earlier_in done_then) n h (filter (λ e. share_id (ids_in h) e.ids) left_then)

  abbrev stays : Course → Bool
  stays e = not (share_id (ids_in h) e.ids)

  over_then : ((d : Course) → Contains s.done d → is_some d.over ≡ true) → (d : Course) → Contains (courses_after reuse n h s).done d → is_some d.over ≡ true
  over_then over d has = by (Contains-append_cases s.done (filter free s.live) d has)
    where
      by : Contains s.done d ⊎ Contains (filter free s.live) d → is_some d.over ≡ true
      by (inl old) = over d old
      by (inr there) = free_is_over reuse n s h d (kept_in free s.live d there).1

  entered_then : ((d : Course) → Contains (s.done ++ s.live) d → (k : ℕ) × (has_entry d k ≡ true)) → (d : Course)
      → Contains ((courses_after reuse n h s).done ++ (courses_after reuse n h s).live) d → (k : ℕ) × (has_entry d k ≡ true)
  entered_then entered d has = by (Contains-append_cases done_then (filter stays left_then ++ new ∷ []) d has)
    where
      by_done : Contains s.done d ⊎ Contains (filter free s.live) d → (k : ℕ) × (has_entry d k ≡ true)
      by_done (inl old) = entered d (Contains-append_left s.done s.live d old)
      by_done (inr there) = entered d (Contains-append_right s.done s.live d (kept_in free s.live d there).0)

      is_new : (new ≡ d) ⊎ Contains [] d → (k : ℕ) × (has_entry d k ≡ true)
      is_new (inl same) = (
        n,
        subst (λ e. has_entry e n ≡ true) same
            (finds_last (λ k. k == n) (λ (e : Course). e.numbers) (filter (λ e. share_id (ids_in h) e.ids) left_then) (n ∷ []) (or_left _ _ (eq-eqb n n refl))),
      )
      is_new (inr none) = absurd (none_in d none)

      by_live : Contains (filter stays left_then) d ⊎ Contains (new ∷ []) d → (k : ℕ) × (has_entry d k ≡ true)
      by_live (inl there) =
          entered d (Contains-append_right s.done s.live d (kept_in (λ e. not (free e)) s.live d (kept_in stays left_then d there).0).0)
      by_live (inr there) = is_new (in_cases new d [] there)

      by : Contains done_then d ⊎ Contains (filter stays left_then ++ new ∷ []) d → (k : ℕ) × (has_entry d k ≡ true)
      by (inl there) = by_done (Contains-append_cases s.done (filter free s.live) d there)
      by (inr there) = by_live (Contains-append_cases (filter stays left_then) (new ∷ []) d there)

-- After one more heading they are still tracked.
pub tracked_more : (reuse : Reuse) (hs : List Heading) (h : Heading) (begun : ℕ → Bool) (begins : Bool)
    → begins ≡ begins_new reuse (length hs) (courses_so_far reuse hs) h → AreTracked reuse hs begun
    → AreTracked reuse (hs ++ h ∷ []) (begun_with begun (length hs) begins)
tracked_more reuse hs h begun begins is are = record {
  begun_below = λ k so. by_begun k (length hs == k) refl so;
  well = subst (λ s. BeginWell (begun_with begun (length hs) begins) (s.done ++ s.live)) (sym more)
      (subst (λ b. BeginWell (begun_with begun (length hs) b) ((courses_after reuse (length hs) h s).done ++ (courses_after reuse (length hs) h s).live)) (sym is)
      (begin_well_then reuse (length hs) h s begun (below_all reuse hs) are.well));
  differ = subst (λ s. AllDiffer (s.done ++ s.live)) (sym more) (differ_then reuse (length hs) h s (below_all reuse hs) are.differ);
  over = subst (λ s. (d : Course) → Contains s.done d → is_some d.over ≡ true) (sym more) (over_then reuse (length hs) h s are.over);
  entered = subst (λ s. (d : Course) → Contains (s.done ++ s.live) d → (k : ℕ) × (has_entry d k ≡ true)) (sym more)
      (entered_then reuse (length hs) h s are.entered);
}
  where
    s : Courses
    s = courses_so_far reuse hs

    more : courses_so_far reuse (hs ++ h ∷ []) ≡ courses_after reuse (length hs) h s
    more = so_far_more reuse hs h

    longer : length (hs ++ h ∷ []) ≡ suc (length hs)
    longer = length-append hs (h ∷ []) ∙ omega arith

    by_begun : (k : ℕ) (same : Bool) → (length hs == k) ≡ same → cond same begins (begun k) ≡ true → k < length (hs ++ h ∷ [])
    by_begun k true eq so = let e : length hs ≡ k = eqb-true (length hs) k eq in omega (e, longer, arith)
    by_begun k false eq so = let less = are.begun_below k so in omega (less, longer, arith)
