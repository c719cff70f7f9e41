-- If IDs are not reused, the dialogues of a segment are those of the list of its messages: no ID is ever free, so a
-- message joins the same dialogues in both.
use Rattle.std.proofs.Common.{◌≡◌, ℕ, ◌+◌, Bool, true, false, cond, List, [], ◌∷◌, ◌++◌, map, refl, sym, ap, ◌∙◌}
use Rattle.std.specs.Prelude.{filter, not}
use Rattle.std.specs.List.{flat_map}
use Rattle.std.proofs.lemmas.Bool.{true≢false}
use Rattle.std.proofs.lemmas.List.{map-append}
use Rattle.std.proofs.lemmas.List.Folds.{flat_map-map}
use Rattle.tcap_model.specs.World.{Item, Sent, has_quiet}
use Rattle.tcap_dialogues.specs.DialoguesOfList.{Dialogue, dialogues_behind, dialogues_of, has_id_among, joined, with_message}
use Rattle.tcap_dialogues.specs.Course.{Course, Courses, Heading, bare, courses_after, courses_behind, courses_of, heading_of, headings_of, ids_in}
use Rattle.tcap_dialogues.specs.declared.reuse.Reuse.TheVariants as reuses

-- ---- lists

-- `filter` and `map` commute.
map_filter : {X Y : Type 0} (f : X → Y) (test : Y → Bool) (xs : List X) → map f (filter (λ x. test (f x)) xs) ≡ filter test (map f xs)
map_filter f test [] = refl
map_filter {X} {Y} f test (x ∷ xs) = by (test (f x)) (map_filter f test xs)
  where
    by : (b : Bool) → map f (filter (λ y. test (f y)) xs) ≡ filter test (map f xs)
        → map f (cond b (x ∷ filter (λ y. test (f y)) xs) (filter (λ y. test (f y)) xs))
        ≡ cond b (f x ∷ filter test (map f xs)) (filter test (map f xs))
    by true rest = ap (λ ys. f x ∷ ys) rest
    by false rest = rest

-- If no element passes, none is left.
none_passes : {X : Type 0} (xs : List X) → filter (λ x. false) xs ≡ []
none_passes [] = refl
none_passes (x ∷ xs) = none_passes xs

-- If all elements pass, all are left.
all_pass : {X : Type 0} (xs : List X) → filter (λ x. true) xs ≡ xs
all_pass [] = refl
all_pass (x ∷ xs) = ap (λ ys. x ∷ ys) (all_pass xs)

-- ---- one more message

-- the numbers and IDs of a course
abbrev forget : Course → Dialogue
forget d = record { numbers = d.numbers; ids = d.ids }

-- live courses, with none done
abbrev only : List Course → Courses
only live = record { done = []; live = live }

module _ (n : ℕ) (h : Heading) (live : List Course) where
  -- the courses after the entry
  abbrev after : List Course
  after = (courses_after reuses.Once n h (only live)).live

  -- None of them is done.
  none_done : courses_after reuses.Once n h (only live) ≡ only after
  none_done = ap (λ ds. let s : Courses = record { done = ds; live = after } in s) (none_passes live)

  -- The courses with one of the entry's IDs are the dialogues with one.
  joins_same : map forget (filter (λ d. has_id_among (ids_in h) (forget d)) live) ≡ filter (has_id_among (ids_in h)) (map forget live)
  joins_same = map_filter forget (has_id_among (ids_in h)) live

  -- So are those with none.
  stays_same : map forget (filter (λ d. not (has_id_among (ids_in h) (forget d))) live)
      ≡ filter (λ d. not (has_id_among (ids_in h) d)) (map forget live)
  stays_same = map_filter forget (λ d. not (has_id_among (ids_in h) d)) live

  -- the dialogue of these courses and the message
  abbrev of_one : List Course → Dialogue
  of_one ds = record { numbers = flat_map (λ d. d.numbers) ds ++ n ∷ []; ids = flat_map (λ d. d.ids) ds ++ ids_in h }

  -- It has their numbers and IDs.
  one_same : (ds : List Course) → joined (map forget ds) n (ids_in h) ≡ of_one ds
  one_same ds = rw (flat_map-map (λ (d : Dialogue). d.numbers) forget ds, flat_map-map (λ (d : Dialogue). d.ids) forget ds) refl

  -- the dialogues after the message, with these courses left
  abbrev of_left : List Course → List Dialogue
  of_left left =
      map forget (filter (λ d. not (has_id_among (ids_in h) (forget d))) left) ++ of_one (filter (λ d. has_id_among (ids_in h) (forget d)) left) ∷ []

  -- No course is free, so all are left.
  after_left : map forget after ≡ of_left live
  after_left = map-append forget _ _ ∙ ap of_left (all_pass live)

  -- The message joins the same ones.
  after_same : map forget after ≡ with_message n (ids_in h) (map forget live)
  after_same =
      after_left
      ∙ ap (λ ds. ds ++ of_one (filter (λ d. has_id_among (ids_in h) (forget d)) live) ∷ []) stays_same
      ∙ ap (λ d. filter (λ e. not (has_id_among (ids_in h) e)) (map forget live) ++ d ∷ [])
      (sym (one_same (filter (λ d. has_id_among (ids_in h) (forget d)) live)) ∙ ap (λ ds. joined ds n (ids_in h)) joins_same)

-- ---- the list

-- the dialogues after these courses
abbrev behind : List Heading → ℕ → Courses → List Dialogue
behind hs n s = let more = courses_behind reuses.Once s n hs in map forget (more.done ++ more.live)

-- They are those after the dialogues of the courses.
behind_same : (items : List Item) (hs : List Heading) (n : ℕ) (live : List Course) → has_quiet items ≡ false
    → map bare hs ≡ headings_of items → behind hs n (only live) ≡ dialogues_behind (map forget live) n items
behind_same [] [] n live none same = refl
behind_same [] (h ∷ hs) n live none same = cc
behind_same (Sent side m ∷ items) [] n live none same = cc
behind_same (Sent side m ∷ items) (h ∷ hs) n live none same =
    let first : bare h ≡ heading_of side m = cc in
    let rest : map bare hs ≡ headings_of items = cc in
    ap (behind hs (n + 1)) (none_done n h live)
    ∙ behind_same items hs (n + 1) (after n h live) none rest
    ∙ ap (λ ds. dialogues_behind ds (n + 1) items)
    (after_same n h live ∙ ap (λ x. with_message n (ids_in x) (map forget live)) first)
behind_same (Item.Quiet ∷ items) hs n live none same = absurd (true≢false none)

-- The dialogues of the segment are those of the list.
pub is_the_cut : (items : List Item) (headings : List Heading) → has_quiet items ≡ false → map bare headings ≡ headings_of items
    → map (λ d. record { numbers = d.numbers; ids = d.ids }) (courses_of reuses.Once headings) ≡ dialogues_of items
is_the_cut items headings none same = behind_same items headings 0 [] none same
