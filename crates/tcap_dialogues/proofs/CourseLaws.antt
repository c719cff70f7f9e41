-- The invariant of the dialogues of a segment with reused IDs: each entry has one, two live ones share no ID, and an
-- entry that shares an ID with a dialogue that is done, without reused IDs, comes after it. It still holds after live
-- dialogues are done.
use Rattle.std.proofs.Common.{arith, ◌≡◌, ◌⊎◌, inl, inr, ℕ, ◌<◌, Bool, true, false, List, [], ◌++◌, Some, sym, ap, ◌∙◌}
use Rattle.std.specs.Prelude.{not, Contains, filter, slice_get}
use Rattle.std.proofs.lemmas.Bool.{cases_Bool, not-true, not_from_false, true≢false}
use Rattle.std.proofs.lemmas.List.Elements.{Contains-append_cases, Contains-append_left, Contains-append_right}
use Rattle.tcap_dialogues.specs.Course.{Course, Heading, has_entry, ids_in}
use Rattle.tcap_dialogues.specs.DialoguesOfList.{IdOf, is_among}
use Rattle.tcap_dialogues.proofs.CutLists.{kept_in, left_in, none_in}

-- a dialogue that is done or live
abbrev pub Among : List Course → List Course → Course → Type 0
Among done live d = Contains done d ⊎ Contains live d

-- the dialogue of an entry, which has its IDs
pub record Owner (done live : List Course) (i : ℕ) (ids : List IdOf) : Type 0 where
  pub course : Course
  pub listed : Among done live course
  pub has : has_entry course i ≡ true
  pub all : (id : IdOf) → is_among ids id ≡ true → is_among course.ids id ≡ true

-- The entry is in the dialogue, or after each of its entries.
abbrev pub InOrBehind : Course → ℕ → Type 0
InOrBehind d j = (has_entry d j ≡ true) ⊎ ((i : ℕ) → has_entry d i ≡ true → i < j)

-- The invariant of the dialogues of the first n entries of a segment.
pub record AreCourses (headings : List Heading) (n : ℕ) (done live : List Course) : Type 0 where
  -- Each entry is in a dialogue, which has all its IDs.
  pub owner : (i : ℕ) (h : Heading) → slice_get headings i ≡ Some h → i < n → Owner done live i (ids_in h)
  -- All numbers are below n.
  pub below : (d : Course) (i : ℕ) → Among done live d → has_entry d i ≡ true → i < n
  -- Two dialogues with one number are equal.
  pub one_number : (d e : Course) (i : ℕ) → Among done live d → Among done live e → has_entry d i ≡ true → has_entry e i ≡ true → d ≡ e
  -- A dialogue that is done shares no number with a live one.
  pub no_number : (d e : Course) (i : ℕ) → Contains done d → Contains live e → has_entry d i ≡ true → has_entry e i ≡ true → ⊥
  -- Two live dialogues with one ID are equal.
  pub one_id : (d e : Course) (id : IdOf) → Contains live d → Contains live e → is_among d.ids id ≡ true → is_among e.ids id ≡ true → d ≡ e
  -- A live dialogue without reused IDs shares none with one that is done.
  pub fresh : (d e : Course) (id : IdOf) → Contains live d → d.again ≡ false → Contains done e → is_among d.ids id ≡ true
      → is_among e.ids id ≡ true → ⊥
  -- An entry with an ID of a dialogue that is done, without reused IDs, is in it or after it.
  pub behind : (d : Course) (j : ℕ) (h : Heading) (id : IdOf) → Contains done d → d.again ≡ false → slice_get headings j ≡ Some h → j < n
      → is_among (ids_in h) id ≡ true → is_among d.ids id ≡ true → InOrBehind d j

-- It holds without entries.
pub no_courses : (headings : List Heading) → AreCourses headings 0 [] []
no_courses headings = record {
  owner = λ i h is less. absurd (omega (arith, less));
  below = λ d i has is. absurd (none d has);
  one_number = λ d e i has hers is so. absurd (none d has);
  no_number = λ d e i has hers is so. none_in d has;
  one_id = λ d e id has hers is so. absurd (none_in d has);
  fresh = λ d e id has anew hers is so. none_in d has;
  behind = λ d j h id has anew is less its so. absurd (none_in d has);
}
  where
    none : (d : Course) → Among [] [] d → ⊥
    none d (inl has) = none_in d has
    none d (inr has) = none_in d has

module _ (headings : List Heading) (n : ℕ) (done live : List Course) (c : AreCourses headings n done live) where
  -- An entry with an ID of a live dialogue without reused IDs is in it.
  live_has : (d : Course) (j : ℕ) (h : Heading) (id : IdOf) → Contains live d → d.again ≡ false → slice_get headings j ≡ Some h → j < n
      → is_among (ids_in h) id ≡ true → is_among d.ids id ≡ true → has_entry d j ≡ true
  live_has d j h id has anew is less its so = by o.listed
    where
      o : Owner done live j (ids_in h)
      o = c.owner j h is less

      by : Among done live o.course → has_entry d j ≡ true
      by (inl old) = absurd (c.fresh d o.course id has anew old so (o.all id its))
      by (inr there) = ap (λ e. has_entry e j) (c.one_id d o.course id has there so (o.all id its)) ∙ o.has

  -- An entry with an ID of any dialogue without reused IDs is in it or after it.
  pub each_behind : (d : Course) (j : ℕ) (h : Heading) (id : IdOf) → Among done live d → d.again ≡ false → slice_get headings j ≡ Some h
      → j < n → is_among (ids_in h) id ≡ true → is_among d.ids id ≡ true → InOrBehind d j
  each_behind d j h id (inl old) anew is less its so = c.behind d j h id old anew is less its so
  each_behind d j h id (inr there) anew is less its so = inl (live_has d j h id there anew is less its so)

  -- ---- live dialogues that are done now

  module _ (free : Course → Bool) where
    -- the dialogues that are done then, and those that are live
    abbrev pub done_then : List Course
    done_then = done ++ filter free live

    abbrev pub left_then : List Course
    left_then = filter (λ d. not (free d)) live

    -- Those left were live, and are not free.
    pub left_from : (d : Course) → Contains left_then d → Contains live d × (free d ≡ false)
    left_from d has = let (there, so) = kept_in (λ e. not (free e)) live d has in (there, not-true (free d) so)

    -- Those done were done, or live and free.
    done_from : (d : Course) → Contains done_then d → Contains done d ⊎ (Contains live d × (free d ≡ true))
    done_from d has = by (Contains-append_cases done (filter free live) d has)
      where
        by : Contains done d ⊎ Contains (filter free live) d → Contains done d ⊎ (Contains live d × (free d ≡ true))
        by (inl old) = inl old
        by (inr there) = inr (kept_in free live d there)

    -- All were there before.
    pub among_from : (d : Course) → Among done_then left_then d → Among done live d
    among_from d (inr has) = inr (left_from d has).0
    among_from d (inl has) = by (done_from d has)
      where
        by : Contains done d ⊎ (Contains live d × (free d ≡ true)) → Among done live d
        by (inl old) = inl old
        by (inr (there, so)) = inr there

    -- None is lost.
    among_then : (d : Course) → Among done live d → Among done_then left_then d
    among_then d (inl has) = inl (Contains-append_left done (filter free live) d has)
    among_then d (inr has) = by (cases_Bool (free d))
      where
        by : (free d ≡ true) ⊎ (free d ≡ false) → Among done_then left_then d
        by (inl is) = inl (Contains-append_right done (filter free live) d (left_in free live d has is))
        by (inr is) = inr (left_in (λ e. not (free e)) live d has (not_from_false (free d) is))

    -- The invariant holds then.
    pub courses_then : AreCourses headings n done_then left_then
    courses_then = record {
      owner = λ i h is less.
          let o = c.owner i h is less in
          record { course = o.course; listed = among_then o.course o.listed; has = o.has; all = o.all };
      below = λ d i has is. c.below d i (among_from d has) is;
      one_number = λ d e i has hers is so. c.one_number d e i (among_from d has) (among_from e hers) is so;
      no_number = λ d e i has hers is so. no_both d e i (done_from d has) (left_from e hers) is so;
      one_id = λ d e id has hers is so. c.one_id d e id (left_from d has).0 (left_from e hers).0 is so;
      fresh = λ d e id has anew hers is so. apart d e id (left_from d has) anew (done_from e hers) is so;
      behind = λ d j h id has anew is less its so. follows d j h id (done_from d has) anew is less its so;
    }
      where
        no_both : (d e : Course) (i : ℕ) → Contains done d ⊎ (Contains live d × (free d ≡ true)) → Contains live e × (free e ≡ false)
            → has_entry d i ≡ true → has_entry e i ≡ true → ⊥
        no_both d e i (inl old) (there, kept) is so = c.no_number d e i old there is so
        no_both d e i (inr (live_too, gone)) (there, kept) is so =
            true≢false (sym gone ∙ ap free (c.one_number d e i (inr live_too) (inr there) is so) ∙ kept)

        apart : (d e : Course) (id : IdOf) → Contains live d × (free d ≡ false) → d.again ≡ false
            → Contains done e ⊎ (Contains live e × (free e ≡ true)) → is_among d.ids id ≡ true → is_among e.ids id ≡ true → ⊥
        apart d e id (there, kept) anew (inl old) is so = c.fresh d e id there anew old is so
        apart d e id (there, kept) anew (inr (live_too, gone)) is so =
            true≢false (sym gone ∙ sym (ap free (c.one_id d e id there live_too is so)) ∙ kept)

        follows : (d : Course) (j : ℕ) (h : Heading) (id : IdOf) → Contains done d ⊎ (Contains live d × (free d ≡ true)) → d.again ≡ false
            → slice_get headings j ≡ Some h → j < n → is_among (ids_in h) id ≡ true → is_among d.ids id ≡ true → InOrBehind d j
        follows d j h id (inl old) anew is less its so = c.behind d j h id old anew is less its so
        follows d j h id (inr (there, gone)) anew is less its so = inl (live_has d j h id there anew is less its so)
