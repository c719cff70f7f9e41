-- The invariant of the dialogues of a segment with reused IDs is kept by one more entry.
use Rattle.std.proofs.Common.{arith, ◌≡◌, ◌⊎◌, inl, inr, ℕ, ◌+◌, ◌<◌, ◌≤◌, true, false, List, Some, sym, ap, ◌∙◌}
use Rattle.std.specs.Prelude.{Contains, slice_get}
use Rattle.std.specs.List.{flat_map}
use Rattle.std.proofs.lemmas.Bool.{cases_Bool, cases_lt}
use Rattle.tcap_dialogues.specs.Course.{Course, Heading, has_entry, share_id, ids_in}
use Rattle.tcap_dialogues.specs.DialoguesOfList.{IdOf, is_among, is_same}
use Rattle.tcap_dialogues.proofs.CourseJoins.{IsNew, had_by, none_again}
use Rattle.tcap_dialogues.proofs.Joins.{Hit, below_more, id_comes, id_from, id_stays, joins, number_comes, number_of, number_stays, one_id_more, one_number_more, stays, which, with_new}
use Rattle.tcap_dialogues.proofs.CourseLaws.{Among, AreCourses, InOrBehind, Owner}
use Rattle.tcap_dialogues.proofs.CutLists.{finds_of}

module _ (headings : List Heading) (n : ℕ) (h : Heading) (here : slice_get headings n ≡ Some h) (done left : List Course)
    (c : AreCourses headings n done left) (new : Course) (made : IsNew (flat_map (λ d. d.ids) done) n h left new) where
  -- the IDs of dialogues that are done
  abbrev earlier : List IdOf
  earlier = flat_map (λ d. d.ids) done

  -- the live dialogues with the new one
  abbrev more : List Course
  more = with_new made.joins

  -- a dialogue that the entry joins
  abbrev Joins : Course → Type 0
  Joins = Hit made.joins

  -- ---- the entries

  -- The dialogue of an entry stays, or is joined.
  owner_stays : (i : ℕ) (ids : List IdOf) → Owner done left i ids → Owner done more i ids
  owner_stays i ids o = at o.listed
    where
      by : Contains left o.course → (share_id (ids_in h) o.course.ids ≡ true) ⊎ (share_id (ids_in h) o.course.ids ≡ false) → Owner done more i ids
      by there (inl hits) =
          let j : Joins o.course = record { listed = there; hit = hits } in
          record {
            course = new;
            listed = inr (joins made.joins);
            has = number_stays made.joins o.course i j o.has;
            all = λ id is. id_stays made.joins o.course id j (o.all id is);
          }
      by there (inr misses) =
          record { course = o.course; listed = inr (stays made.joins o.course there misses); has = o.has; all = o.all }

      at : Among done left o.course → Owner done more i ids
      at (inl old) = record { course = o.course; listed = inl old; has = o.has; all = o.all }
      at (inr there) = by there (cases_Bool (share_id (ids_in h) o.course.ids))

  -- Each entry is in a dialogue, the new entry in the new one.
  owner_more : (i : ℕ) (g : Heading) → slice_get headings i ≡ Some g → i < n + 1 → Owner done more i (ids_in g)
  owner_more i g is less = by (cases_lt i n)
    where
      by : (i < n) ⊎ (n ≤ i) → Owner done more i (ids_in g)
      by (inl old) = owner_stays i (ids_in g) (c.owner i g is old)
      by (inr past) =
          let at : n ≡ i = omega arith in
          let some : Some h ≡ Some g = sym here ∙ ap (slice_get headings) at ∙ is in
          let same : h ≡ g = cc in
          record {
            course = new;
            listed = inr (joins made.joins);
            has = ap (has_entry new) (sym at) ∙ number_comes made.joins;
            all = λ id its. id_comes made.joins id (ap (λ x. is_among (ids_in x) id) same ∙ its);
          }

  -- All numbers are below the next.
  below_then : (d : Course) (i : ℕ) → Among done more d → has_entry d i ≡ true → i < n + 1
  below_then d i (inl old) is = let less = c.below d i (inl old) is in omega (arith, less)
  below_then d i (inr has) is = below_more made.joins (λ e k there so. c.below e k (inr there) so) d i has is

  -- A dialogue that is done shares no number with a live one.
  no_number : (d e : Course) (i : ℕ) → Contains done d → Contains more e → has_entry d i ≡ true → has_entry e i ≡ true → ⊥
  no_number d e i has hers is so = by (which made.joins e hers)
    where
      joined : ((x : Course) × Joins x × (has_entry x i ≡ true)) ⊎ (n ≡ i) → ⊥
      joined (inl (x, j, its)) = c.no_number d x i has j.listed is its
      joined (inr at) = let less = c.below d i (inl has) is in absurd (omega (arith, less))

      by : (Contains left e × (share_id (ids_in h) e.ids ≡ false)) ⊎ (new ≡ e) → ⊥
      by (inl (there, misses)) = c.no_number d e i has there is so
      by (inr same) = joined (number_of made.joins i (ap (λ x. has_entry x i) same ∙ so))

  -- Two dialogues with one number are equal.
  one_number : (d e : Course) (i : ℕ) → Among done more d → Among done more e → has_entry d i ≡ true → has_entry e i ≡ true → d ≡ e
  one_number d e i (inl old) (inl older) is so = c.one_number d e i (inl old) (inl older) is so
  one_number d e i (inl old) (inr has) is so = absurd (no_number d e i old has is so)
  one_number d e i (inr has) (inl old) is so = absurd (no_number e d i old has so is)
  one_number d e i (inr has) (inr hers) is so =
      one_number_more made.joins (λ x k there its. c.below x k (inr there) its)
      (λ x y k there too. c.one_number x y k (inr there) (inr too)) d e i has hers is so

  -- ---- reused IDs

  -- The new dialogue, without reused IDs, shares none with one that is done.
  new_fresh : (e : Course) (id : IdOf) → new.again ≡ false → Contains done e → is_among new.ids id ≡ true → is_among e.ids id ≡ true → ⊥
  new_fresh e id anew hers is so = by (id_from made.joins id is)
    where
      joined : (x : Course) × Joins x × (is_among x.ids id ≡ true) → ⊥
      joined (x, j, its) = c.fresh x e id j.listed (none_again earlier n h left new made x anew j) hers its so

      by : ((x : Course) × Joins x × (is_among x.ids id ≡ true)) ⊎ (is_among (ids_in h) id ≡ true) → ⊥
      by (inl old) = joined old
      by (inr its) = joined (had_by earlier n h left new made id anew its (finds_of (is_same id) (λ d. d.ids) done e hers so))

  -- So does no live dialogue.
  fresh_more : (d e : Course) (id : IdOf) → Contains more d → d.again ≡ false → Contains done e → is_among d.ids id ≡ true
      → is_among e.ids id ≡ true → ⊥
  fresh_more d e id has anew hers is so = by (which made.joins d has)
    where
      by : (Contains left d × (share_id (ids_in h) d.ids ≡ false)) ⊎ (new ≡ d) → ⊥
      by (inl (old, misses)) = c.fresh d e id old anew hers is so
      by (inr same) = new_fresh e id (ap (λ x. x.again) same ∙ anew) hers (ap (λ x. is_among x.ids id) same ∙ is) so

  -- The entry comes after each entry of a dialogue that is done.
  behind_more : (d : Course) (j : ℕ) (g : Heading) (id : IdOf) → Contains done d → d.again ≡ false → slice_get headings j ≡ Some g
      → j < n + 1 → is_among (ids_in g) id ≡ true → is_among d.ids id ≡ true → InOrBehind d j
  behind_more d j g id has anew is less its so = by (cases_lt j n)
    where
      by : (j < n) ⊎ (n ≤ j) → InOrBehind d j
      by (inl old) = c.behind d j g id has anew is old its so
      by (inr past) = inr (λ i of_it. let lower = c.below d i (inl has) of_it in omega (arith, lower, past))

  -- The invariant holds with the entry.
  pub courses_more : AreCourses headings (n + 1) done more
  courses_more = record {
    owner = owner_more;
    below = below_then;
    one_number = one_number;
    no_number = no_number;
    one_id = one_id_more made.joins c.one_id;
    fresh = fresh_more;
    behind = behind_more;
  }
