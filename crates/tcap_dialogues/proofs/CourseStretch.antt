-- The invariant of the dialogues of a segment so far, with reused IDs.
use Rattle.std.proofs.Common.{arith, ◌≡◌, ◌⊎◌, inl, inr, ℕ, ◌+◌, Bool, true, false, cond, List, [], ◌∷◌, ◌++◌, length, Option, Some, None, refl, sym, ap, subst, ◌∙◌}
use Rattle.std.specs.Prelude.{◌||◌, Contains, filter, not, slice_get}
use Rattle.std.specs.List.{flat_map}
use Rattle.std.proofs.lemmas.Bool.{ltb-false, or_left, or_parts}
use Rattle.std.proofs.lemmas.List.Folds.{list_any-append}
use Rattle.tcap_dialogues.specs.Course.{Course, Courses, Earlier, Heading, begun_by, courses_after, courses_behind, courses_so_far, first_over, has_entry, share_id, ids_in, is_begin, is_free, over_by, own_ids, peer_ids, with_entry}
use Rattle.tcap_dialogues.specs.DialoguesOfList.{IdOf, is_among, is_same}
use Rattle.tcap_dialogues.specs.CutState.{AreApart, Lingers, is_given_up, is_past_by}
use Rattle.tcap_dialogues.specs.declared.reuse.Reuse.{Reuse}
use Rattle.tcap_dialogues.specs.declared.reuse.Reuse.TheVariants as reuses
use Rattle.tcap_dialogues.proofs.CourseJoins.{IsNew, hit_by}
use Rattle.tcap_dialogues.proofs.Joins.{Hit, id_comes, id_stays, in_hit, number_comes, number_stays, which}
use Rattle.tcap_dialogues.proofs.CourseLaws.{AreCourses, courses_then, left_from, no_courses}
use Rattle.tcap_dialogues.proofs.CourseMore.{courses_more}
use Rattle.tcap_dialogues.proofs.CutLists.{first_left, found_more, later_left, none_in}
use Rattle.tcap_dialogues.proofs.HeldOvers.{lower_is, over_of}

-- One more entry keeps the invariant.
pub one_more : (reuse : Reuse) (headings : List Heading) (n : ℕ) (h : Heading) (s : Courses) → slice_get headings n ≡ Some h
    → AreCourses headings n s.done s.live → AreCourses headings (n + 1) (courses_after reuse n h s).done (courses_after reuse n h s).live
one_more reuse headings n h s here c =
    courses_more headings n h here _ _ (courses_then headings n s.done s.live c (is_free reuse n s h)) _
    (record { joins = record { numbers_are = refl; ids_are = refl }; again_is = refl })

-- ---- a live dialogue

-- The values of a live dialogue are those of its entries and IDs, and it has not been over for longer than its IDs
-- linger.
pub record IsSound (reuse : Reuse) (n : ℕ) (d : Course) : Type 0 where
  pub over_in : (number : ℕ) → d.over ≡ Some number → has_entry d number ≡ true
  pub used_in : (id : IdOf) → is_among d.used id ≡ true → is_among d.ids id ≡ true
  pub begun_in : (id : IdOf) → is_among d.begun id ≡ true → is_among d.ids id ≡ true
  pub lingers : Lingers reuse n d.over

-- Its IDs are free by age, or because one of them is reused.
pub free_is : (reuse : Reuse) (n : ℕ) (s : Courses) (h : Heading) (d : Course)
    → is_free reuse n s h d ≡ (is_past_by reuse n d || is_given_up reuse s h d)
free_is reuses.Once n s h d = refl
free_is (reuses.Again linger) n s h d = refl

-- A dialogue that is not free lingers for one more entry.
lingers_on : (reuse : Reuse) (n : ℕ) (s : Courses) (h : Heading) (d : Course) → is_free reuse n s h d ≡ false
    → Lingers reuse (n + 1) d.over
lingers_on reuses.Once n s h d kept = tt
lingers_on (reuses.Again linger) n s h d kept = by d.over (or_parts _ _ kept).0
  where
    by : (over : Option ℕ) → Rattle.tcap_dialogues.specs.Course.is_past linger n over ≡ false → Lingers (reuses.Again linger) (n + 1) over
    by None is = tt
    by (Some number) is = let more = ltb-false (number + linger) n is in omega (arith, more)

-- So does one that is over now.
lingers_new : (reuse : Reuse) (n : ℕ) → Lingers reuse (n + 1) (Some n)
lingers_new reuses.Once n = tt
lingers_new (reuses.Again linger) n = omega arith

lingers_none : (reuse : Reuse) (n : ℕ) → Lingers reuse n None
lingers_none reuses.Once n = tt
lingers_none (reuses.Again linger) n = tt

-- a dialogue is over with the number of the entry
over_is : (n number : ℕ) (h : Heading) → over_by n h ≡ Some number → n ≡ number
over_is n number h is = by (Rattle.tcap_dialogues.specs.Course.is_last h.kind || Rattle.tcap_dialogues.specs.Course.is_alone h) is
  where
    by : (b : Bool) → cond b (Some n) None ≡ Some number → n ≡ number
    by true so = cc
    by false so = cc

-- the IDs of a Begin are among the entry's IDs
begun_own : (h : Heading) (id : IdOf) → is_among (begun_by h) id ≡ true → is_among (ids_in h) id ≡ true
begun_own h id is = by (is_begin h.kind) is
  where
    by : (b : Bool) → is_among (cond b (own_ids h) []) id ≡ true → is_among (ids_in h) id ≡ true
    by true so = list_any-append (is_same id) (own_ids h) (peer_ids h) ∙ or_left _ _ so
    by false so = cc

module _ (reuse : Reuse) (n : ℕ) (h : Heading) (earlier : Earlier) (left : List Course)
    (sound : (d : Course) → Contains left d → IsSound reuse (n + 1) d) where
  -- the new dialogue
  new : Course
  new = with_entry earlier n h (hit_by h left)

  made : IsNew earlier.ids n h left new
  unfolding new
  made = record { joins = record { numbers_are = refl; ids_are = refl }; again_is = refl }

  Hits : Course → Type 0
  Hits = Hit made.joins

  over_from : (number : ℕ) → new.over ≡ Some number → ((d : Course) × Hits d × (d.over ≡ Some number)) ⊎ (n ≡ number)
  unfolding new Hits
  over_from number is = by (lower_is (first_over (hit_by h left)) (over_by n h) number is)
    where
      by : (first_over (hit_by h left) ≡ Some number) ⊎ (over_by n h ≡ Some number)
          → ((d : Course) × Hit made.joins d × (d.over ≡ Some number)) ⊎ (n ≡ number)
      by (inl old) = let (d, has, so) = over_of (hit_by h left) number old in inl (d, in_hit made.joins d has, so)
      by (inr now) = inr (over_is n number h now)

  -- Its lists of IDs are among its IDs.
  part_in : (part : Course → List IdOf) (more : List IdOf) → ((d : Course) (id : IdOf) → Contains left d → is_among (part d) id ≡ true → is_among d.ids id ≡ true)
      → ((id : IdOf) → is_among more id ≡ true → is_among (ids_in h) id ≡ true) → (id : IdOf)
      → is_among (flat_map part (hit_by h left) ++ more) id ≡ true → is_among new.ids id ≡ true
  unfolding new
  part_in part more old now id is = by (found_more (is_same id) part (hit_by h left) more is)
    where
      by : ((d : Course) × Contains (hit_by h left) d × (is_among (part d) id ≡ true)) ⊎ (is_among more id ≡ true) → is_among new.ids id ≡ true
      by (inl (d, has, so)) =
          let hit = in_hit made.joins d has in
          id_stays made.joins d id hit (old d id hit.listed so)
      by (inr its) = id_comes made.joins id (now id its)

  new_sound : IsSound reuse (n + 1) new
  unfolding new Hits
  new_sound = record {
    over_in = λ number is. over_by_cases number (over_from number is);
    used_in = part_in (λ d. d.used) (own_ids h) (λ d id has so. (sound d has).used_in id so)
        (λ id its. list_any-append (is_same id) (own_ids h) (peer_ids h) ∙ or_left _ _ its);
    begun_in = part_in (λ d. d.begun) (begun_by h) (λ d id has so. (sound d has).begun_in id so) (begun_own h);
    lingers = lingers_by new.over over_from;
  }
    where
      over_by_cases : (number : ℕ) → ((d : Course) × Hit made.joins d × (d.over ≡ Some number)) ⊎ (n ≡ number) → has_entry new number ≡ true
      over_by_cases number (inl (d, hit, so)) =
          number_stays made.joins d number hit ((sound d hit.listed).over_in number so)
      over_by_cases number (inr now) = ap (has_entry new) (sym now) ∙ number_comes made.joins

      lingers_by : (over : Option ℕ)
          → ((number : ℕ) → over ≡ Some number → ((d : Course) × Hit made.joins d × (d.over ≡ Some number)) ⊎ (n ≡ number))
          → Lingers reuse (n + 1) over
      lingers_by None from = lingers_none reuse (n + 1)
      lingers_by (Some number) from = at (from number refl)
        where
          at : ((d : Course) × Hit made.joins d × (d.over ≡ Some number)) ⊎ (n ≡ number) → Lingers reuse (n + 1) (Some number)
          at (inl (d, hit, so)) = subst (Lingers reuse (n + 1)) so (sound d hit.listed).lingers
          at (inr now) = subst (λ k. Lingers reuse (n + 1) (Some k)) now (lingers_new reuse n)

  -- Each live dialogue is sound after the entry.
  all_sound : (d : Course) → Contains (filter (λ e. not (share_id (ids_in h) e.ids)) left ++ with_entry earlier n h (hit_by h left) ∷ []) d
      → IsSound reuse (n + 1) d
  unfolding new
  all_sound d has = by (which made.joins d has)
    where
      by : (Contains left d × (share_id (ids_in h) d.ids ≡ false)) ⊎ (new ≡ d) → IsSound reuse (n + 1) d
      by (inl (there, misses)) = sound d there
      by (inr same) = subst (IsSound reuse (n + 1)) same new_sound

-- Each dialogue that stays lingers for one more entry.
left_sound : (reuse : Reuse) (headings : List Heading) (n : ℕ) (h : Heading) (s : Courses) → AreCourses headings n s.done s.live
    → ((d : Course) → Contains s.live d → IsSound reuse n d) → (d : Course)
    → Contains (filter (λ e. not (is_free reuse n s h e)) s.live) d → IsSound reuse (n + 1) d
left_sound reuse headings n h s c sound d has =
    let (there, kept) = left_from headings n s.done s.live c (is_free reuse n s h) d has in
    let is = sound d there in record {
      over_in = is.over_in;
      used_in = is.used_in;
      begun_in = is.begun_in;
      lingers = lingers_on reuse n s h d kept;
    }

-- ---- the segment so far

-- both invariants
pub record AreWell (reuse : Reuse) (headings : List Heading) (n : ℕ) (s : Courses) : Type 0 where
  pub courses : AreCourses headings n s.done s.live
  pub sound : (d : Course) → Contains s.live d → IsSound reuse n d

well_more : (reuse : Reuse) (headings : List Heading) (n : ℕ) (h : Heading) (s : Courses) → slice_get headings n ≡ Some h
    → AreWell reuse headings n s → AreWell reuse headings (n + 1) (courses_after reuse n h s)
well_more reuse headings n h s here well = record {
  courses = one_more reuse headings n h s here well.courses;
  sound = all_sound reuse n h _ _ (left_sound reuse headings n h s well.courses well.sound);
}

well_behind : (reuse : Reuse) (headings left : List Heading) (n : ℕ) (s : Courses) → ((k : ℕ) → slice_get left k ≡ slice_get headings (n + k))
    → AreWell reuse headings n s → AreWell reuse headings (n + length left) (courses_behind reuse s n left)
well_behind reuse headings [] n s same well = let at : n ≡ n + 0 = omega arith in subst (λ k. AreWell reuse headings k s) at well
well_behind reuse headings (h ∷ left) n s same well =
    let at : (n + 1) + length left ≡ n + length (h ∷ left) = omega arith in
    subst (λ k. AreWell reuse headings k (courses_behind reuse (courses_after reuse n h s) (n + 1) left)) at
    (well_behind reuse headings left (n + 1) (courses_after reuse n h s) (later_left headings left n h same)
    (well_more reuse headings n h s (first_left headings left n h same) well))

pub well_so_far : (reuse : Reuse) (headings : List Heading) → AreWell reuse headings (length headings) (courses_so_far reuse headings)
well_so_far reuse headings =
    let at : 0 + length headings ≡ length headings = omega arith in
    subst (λ k. AreWell reuse headings k (courses_so_far reuse headings)) at
    (well_behind reuse headings headings 0 (record { done = []; live = [] }) (λ k. ap (slice_get headings) (from_nothing k))
    (record { courses = no_courses headings; sound = λ d has. absurd (none_in d has) }))
  where
    from_nothing : (k : ℕ) → k ≡ 0 + k
    from_nothing k = omega arith

-- The live dialogues are apart.
pub apart_so_far : (reuse : Reuse) (headings : List Heading) → AreApart (courses_so_far reuse headings).live
apart_so_far reuse headings =
    let well = well_so_far reuse headings in record {
      one_id = well.courses.one_id;
      one_number = λ d e i has hers is so. well.courses.one_number d e i (inr has) (inr hers) is so;
      over_in = λ d number has so. (well.sound d has).over_in number so;
      used_in = λ d id has so. (well.sound d has).used_in id so;
      begun_in = λ d id has so. (well.sound d has).begun_in id so;
    }

-- So are some of them.
pub left_apart : (live left : List Course) → ((d : Course) → Contains left d → Contains live d) → AreApart live → AreApart left
left_apart live left from apart = record {
  one_id = λ d e id has hers is so. apart.one_id d e id (from d has) (from e hers) is so;
  one_number = λ d e i has hers is so. apart.one_number d e i (from d has) (from e hers) is so;
  over_in = λ d number has so. apart.over_in d number (from d has) so;
  used_in = λ d id has so. apart.used_in d id (from d has) so;
  begun_in = λ d id has so. apart.begun_in d id (from d has) so;
}

-- one more heading
behind_more : (reuse : Reuse) (s : Courses) (n : ℕ) (hs : List Heading) (h : Heading)
    → courses_behind reuse s n (hs ++ h ∷ []) ≡ courses_after reuse (n + length hs) h (courses_behind reuse s n hs)
behind_more reuse s n [] h = let at : n ≡ n + 0 = omega arith in ap (λ k. courses_after reuse k h s) at
behind_more reuse s n (g ∷ hs) h =
    let at : (n + 1) + length hs ≡ n + length (g ∷ hs) = omega arith in
    behind_more reuse (courses_after reuse n g s) (n + 1) hs h
    ∙ ap (λ k. courses_after reuse k h (courses_behind reuse (courses_after reuse n g s) (n + 1) hs)) at

pub so_far_more : (reuse : Reuse) (hs : List Heading) (h : Heading)
    → courses_so_far reuse (hs ++ h ∷ []) ≡ courses_after reuse (length hs) h (courses_so_far reuse hs)
so_far_more reuse hs h =
    let at : 0 + length hs ≡ length hs = omega arith in
    behind_more reuse (record { done = []; live = [] }) 0 hs h ∙ ap (λ k. courses_after reuse k h (courses_so_far reuse hs)) at
