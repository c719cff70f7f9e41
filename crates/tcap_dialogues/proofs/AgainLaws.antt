-- If an ID of a dialogue came again, a dialogue that is done has this ID.
use Rattle.std.proofs.Common.{◌≡◌, ◌⊎◌, inl, inr, ℕ, ◌+◌, Bool, true, false, List, [], ◌∷◌, Some, refl, sym, ap, subst, ◌∙◌}
use Rattle.std.specs.Prelude.{not, Contains, filter, slice_get}
use Rattle.std.specs.List.{flat_map, list_any}
use Rattle.std.proofs.lemmas.Bool.{false_from_ne_true, or_cases}
use Rattle.std.proofs.lemmas.List.Elements.{Contains-append_left}
use Rattle.tcap_dialogues.specs.Course.{Course, Courses, Heading, courses_after, courses_behind, courses_of, has_entry, share_id, ids_in, is_free}
use Rattle.tcap_dialogues.specs.declared.reuse.Reuse.{Reuse}
use Rattle.tcap_dialogues.specs.DialoguesOfList.{IdOf, is_among, is_same}
use Rattle.tcap_dialogues.proofs.CourseEnds.{among, ended_with, listed}
use Rattle.tcap_dialogues.proofs.CourseStretch.{one_more}
use Rattle.tcap_dialogues.proofs.CourseJoins.{IsNew, hit_by, ids_more}
use Rattle.tcap_dialogues.proofs.Joins.{id_comes, id_stays, joins, number_comes, which, with_new}
use Rattle.tcap_dialogues.proofs.CourseLaws.{Among, AreCourses, among_from, courses_then, done_then, left_then, no_courses}
use Rattle.tcap_dialogues.proofs.CourseMore.{courses_more}
use Rattle.tcap_dialogues.proofs.CutIds.{among_in, in_among, one_of}
use Rattle.tcap_dialogues.proofs.CutLists.{first_left, found, found_of, kept_in, later_left, none_in}
use Rattle.tcap_dialogues.proofs.PartLists.{from_zero}

-- a dialogue that is done and shares an ID with d, and an entry of it that is not in d
pub record Sharer (done : List Course) (d : Course) : Type 0 where
  pub course : Course
  pub listed : Contains done course
  pub entry : ℕ
  pub has : has_entry course entry ≡ true
  pub lacks : has_entry d entry ≡ false
  pub id : IdOf
  pub its : is_among d.ids id ≡ true
  pub hers : is_among course.ids id ≡ true

-- two more properties of the dialogues so far
pub record AreShared (done live : List Course) : Type 0 where
  -- Each dialogue has an entry.
  pub entered : (d : Course) → Among done live d → (i : ℕ) × (has_entry d i ≡ true)
  -- Each dialogue with a reused ID shares one with a dialogue that is done.
  pub shares : (d : Course) → Among done live d → d.again ≡ true → Sharer done d

-- They hold without dialogues.
none_shared : AreShared [] []
none_shared = record { entered = λ d has. absurd (none d has); shares = λ d has so. absurd (none d has) }
  where
    none : (d : Course) → Among [] [] d → ⊥
    none d (inl has) = none_in d has
    none d (inr has) = none_in d has

-- They hold after live dialogues are done.
shared_then : (headings : List Heading) (n : ℕ) (s : Courses) (c : AreCourses headings n s.done s.live) (free : Course → Bool)
    → AreShared s.done s.live
    → AreShared (done_then headings n s.done s.live c free) (left_then headings n s.done s.live c free)
shared_then headings n s c free a = record {
  entered = λ d has. a.entered d (among_from headings n s.done s.live c free d has);
  shares = λ d has so. still d (a.shares d (among_from headings n s.done s.live c free d has) so);
}
  where
    still : (d : Course) → Sharer s.done d → Sharer (done_then headings n s.done s.live c free) d
    still d w = record {
      course = w.course;
      listed = Contains-append_left s.done (filter free s.live) w.course w.listed;
      entry = w.entry;
      has = w.has;
      lacks = w.lacks;
      id = w.id;
      its = w.its;
      hers = w.hers;
    }

module _ (headings : List Heading) (n : ℕ) (h : Heading) (here : slice_get headings n ≡ Some h) (done left : List Course)
    (c : AreCourses headings n done left) (new : Course) (made : IsNew (flat_map (λ d. d.ids) done) n h left new)
    (a : AreShared done left) where
  -- the IDs of dialogues that are done
  abbrev earlier : List IdOf
  earlier = flat_map (λ d. d.ids) done

  -- the live dialogues after one more entry
  abbrev more : List Course
  more = with_new made.joins

  -- A dialogue that is done and shares an ID with the new one has an entry that the new one has not.
  with_id : (e : Course) (id : IdOf) → Contains done e → is_among new.ids id ≡ true → is_among e.ids id ≡ true → Sharer done new
  with_id e id old its hers =
      let (i, has) = a.entered e (inl old) in
      record {
        course = e;
        listed = old;
        entry = i;
        has = has;
        lacks = false_from_ne_true (has_entry new i)
            (λ bad. (courses_more headings n h here done left c new made).no_number e new i old (joins made.joins) has bad);
        id = id;
        its = its;
        hers = hers;
      }

  -- The new dialogue shares an ID if a dialogue that it joins does, or if an ID of its entry is an earlier one.
  new_shares : new.again ≡ true → Sharer done new
  new_shares so = by (or_cases _ _ (sym made.again_is ∙ so))
    where
      by : (list_any (λ d. d.again) (hit_by h left) ≡ true) ⊎ (share_id (ids_more h left) earlier ≡ true) → Sharer done new
      by (inl some) =
          let (x, hit, again) = found (λ d. d.again) (hit_by h left) some in
          let (there, one) = kept_in (λ d. share_id (ids_in h) d.ids) left x hit in
          let w = a.shares x (inr there) again in
          with_id w.course w.id w.listed
          (id_stays made.joins x w.id (record { listed = there; hit = one }) w.its) w.hers
      by (inr one) =
          let (id, its, was) = one_of (ids_more h left) earlier one in
          let (e, old, hers) = found_of (is_same id) (λ d. d.ids) done was in
          let (entry_has, _) = kept_in (λ i. not (list_any (λ d. is_among d.ids i) (hit_by h left))) (ids_in h) id
          (among_in (ids_more h left) id its) in
          with_id e id old (id_comes made.joins id (in_among (ids_in h) id entry_has)) hers

  -- They hold after one more entry.
  shared_more : AreShared done more
  shared_more = record { entered = entered_more; shares = shares_more }
    where
      entered_by : (d : Course) → (Contains left d × (share_id (ids_in h) d.ids ≡ false)) ⊎ (new ≡ d) → (i : ℕ) × (has_entry d i ≡ true)
      entered_by d (inl (there, misses)) = a.entered d (inr there)
      entered_by d (inr same) = (n, ap (λ e. has_entry e n) (sym same) ∙ number_comes made.joins)

      entered_more : (d : Course) → Among done more d → (i : ℕ) × (has_entry d i ≡ true)
      entered_more d (inl old) = a.entered d (inl old)
      entered_more d (inr has) = entered_by d (which made.joins d has)

      shares_by : (d : Course) → (Contains left d × (share_id (ids_in h) d.ids ≡ false)) ⊎ (new ≡ d) → d.again ≡ true → Sharer done d
      shares_by d (inl (there, misses)) so = a.shares d (inr there) so
      shares_by d (inr same) so = subst (Sharer done) same (new_shares (ap (λ e. e.again) same ∙ so))

      shares_more : (d : Course) → Among done more d → d.again ≡ true → Sharer done d
      shares_more d (inl old) so = a.shares d (inl old) so
      shares_more d (inr has) so = shares_by d (which made.joins d has) so

-- They hold for a whole segment, if they hold for the entries before.
shared_behind : (reuse : Reuse) (headings left : List Heading) (n : ℕ) (s : Courses) → ((k : ℕ) → slice_get left k ≡ slice_get headings (n + k))
    → AreCourses headings n s.done s.live → AreShared s.done s.live
    → AreShared (courses_behind reuse s n left).done (courses_behind reuse s n left).live
shared_behind reuse headings [] n s same c a = a
shared_behind reuse headings (h ∷ left) n s same c a =
    let here : slice_get headings n ≡ Some h = first_left headings left n h same in
    shared_behind reuse headings left (n + 1) (courses_after reuse n h s) (later_left headings left n h same) (one_more reuse headings n h s here c)
    (shared_more headings n h here _ _ (courses_then headings n s.done s.live c (is_free reuse n s h)) _
    (record { joins = record { numbers_are = refl; ids_are = refl }; again_is = refl }) (shared_then headings n s c (is_free reuse n s h) a))

-- A dialogue with a reused ID shares it with another dialogue of the segment, which has an entry that the first has
-- not.
pub shared_again : (reuse : Reuse) (headings : List Heading) (d : Course) → Contains (courses_of reuse headings) d → d.again ≡ true
    → (e : Course) × Contains (courses_of reuse headings) e
    × ((n : ℕ) × (has_entry e n ≡ true) × (has_entry d n ≡ false))
    × ((id : IdOf) × (is_among d.ids id ≡ true) × (is_among e.ids id ≡ true))
shared_again reuse headings d has so =
    let a : AreShared (ended_with reuse headings).done (ended_with reuse headings).live =
    shared_behind reuse headings headings 0 (record { done = []; live = [] }) (λ k. ap (slice_get headings) (sym (from_zero k)))
    (no_courses headings) none_shared in
    let w = a.shares d (among reuse headings d has) so in
    (w.course, listed reuse headings w.course (inl w.listed), (w.entry, w.has, w.lacks), (w.id, w.its, w.hers))
