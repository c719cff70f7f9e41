-- Gathered dialogues, one for each dialogue of a segment, in another order.
use Rattle.std.proofs.Common.{arith, ◌≡◌, ◌⊎◌, inl, inr, ℕ, zero, suc, ◌<◌, ◌≤◌, Bool, true, false, cond, List, [], ◌∷◌, ◌++◌, Some, refl, sym, ap, subst, ◌∙◌, length}
use Rattle.std.specs.Prelude.{◌==◌, ◌||◌, not, Contains, filter, slice_get}
use Rattle.std.specs.List.{list_any}
use Rattle.std.proofs.lemmas.List.Folds.{list_any-append}
use Rattle.std.proofs.lemmas.Bool.{eq-eqb, or_left, true≢false}
use Rattle.std.proofs.lemmas.List.Elements.{Contains-append_cases, Contains-append_left, Contains-append_right}
use Rattle.tcap_dialogues.specs.Course.{Course, Courses, Heading, courses_after, has_entry, share_id, ids_in, is_free, earlier_in, with_entry}
use Rattle.tcap_dialogues.specs.CutDialogues.{AreCompleteDialogues, IsCompleteDialogue, names_entry}
use Rattle.tcap_dialogues.specs.declared.complete_dialogue.CompleteDialogue.{CompleteDialogue}
use Rattle.tcap_dialogues.specs.declared.reuse.Reuse.{Reuse}
use Rattle.tcap_traces.specs.TraceProgress.{AllDiffer, AreAligned}
use Rattle.tcap_dialogues.proofs.CutLists.{finds_last, first_in, in_cases, kept_in, later_in, none_in}

-- ---- lists whose elements differ

pub differ_both : {X : Type 0} (xs ys : List X) → AllDiffer xs → AllDiffer ys → ((x : X) → Contains xs x → Contains ys x → ⊥) → AllDiffer (xs ++ ys)
differ_both [] ys one two apart = two
differ_both {X} (x ∷ xs) ys (new, one) two apart = (
  λ has. by (Contains-append_cases xs ys x has),
  differ_both xs ys one two (λ y has also. apart y (later_in x y xs has) also),
)
  where
    by : Contains xs x ⊎ Contains ys x → ⊥
    by (inl has) = new has
    by (inr has) = apart x (first_in x xs) has

pub differ_left : {X : Type 0} (xs ys : List X) → AllDiffer (xs ++ ys) → AllDiffer xs
differ_left [] ys all = tt
differ_left (x ∷ xs) ys (new, all) = (λ has. new (Contains-append_left xs ys x has), differ_left xs ys all)

pub differ_right : {X : Type 0} (xs ys : List X) → AllDiffer (xs ++ ys) → AllDiffer ys
differ_right [] ys all = all
differ_right (x ∷ xs) ys (new, all) = differ_right xs ys all

pub differ_apart : {X : Type 0} (xs ys : List X) → AllDiffer (xs ++ ys) → (x : X) → Contains xs x → Contains ys x → ⊥
differ_apart [] ys all x has also = none_in x has
differ_apart {X} (y ∷ xs) ys (new, all) x has also = by (in_cases y x xs has) (λ there. differ_apart xs ys all x there also)
  where
    by : (y ≡ x) ⊎ Contains xs x → (Contains xs x → ⊥) → ⊥
    by (inl same) rest = new (Contains-append_right xs ys y (subst (Contains ys) (sym same) also))
    by (inr there) rest = rest there

pub differ_filter : {X : Type 0} (p : X → Bool) (xs : List X) → AllDiffer xs → AllDiffer (filter p xs)
differ_filter p [] all = tt
differ_filter p (x ∷ xs) (new, all) = by (p x) (differ_filter p xs all)
  where
    by : (b : Bool) → AllDiffer (filter p xs) → AllDiffer (cond b (x ∷ filter p xs) (filter p xs))
    by true rest = (λ has. new (kept_in p xs x has).0, rest)
    by false rest = rest

-- ---- the dialogues of a segment differ

-- After one more entry they still do, since no dialogue before had an entry with its number.
pub differ_then : (reuse : Reuse) (n : ℕ) (h : Heading) (s : Courses)
    → ((d : Course) (i : ℕ) → Contains (s.done ++ s.live) d → has_entry d i ≡ true → i < n)
    → AllDiffer (s.done ++ s.live) → AllDiffer ((courses_after reuse n h s).done ++ (courses_after reuse n h s).live)
differ_then reuse n h s below all =
    differ_both done live
    (differ_both s.done (filter free s.live) (differ_left s.done s.live all) (differ_filter free s.live lives) (λ d has also. apart d has (kept_in free s.live d also).0))
    (differ_both (filter stays left) (one ∷ []) (differ_filter stays left (differ_filter stays_live s.live lives)) (λ has. none_in one has, tt)
    (λ d has also. bad_one d (from_left d has) (in_cases one d [] also)))
    (λ d has also. both d (Contains-append_cases s.done (filter free s.live) d has) (Contains-append_cases (filter stays left) (one ∷ []) d also))
  where
    free : Course → Bool
    free = is_free reuse n s h

    stays_live : Course → Bool
    stays_live d = not (free d)

    done : List Course
    done = s.done ++ filter free s.live

    left : List Course
    left = filter stays_live s.live

    stays : Course → Bool
    stays d = not (share_id (ids_in h) d.ids)

    joined : List Course
    joined = filter (λ d. share_id (ids_in h) d.ids) left

    one : Course
    one = with_entry (earlier_in done) n h joined

    live : List Course
    live = filter stays left ++ one ∷ []

    lives : AllDiffer s.live
    lives = differ_right s.done s.live all

    apart : (d : Course) → Contains s.done d → Contains s.live d → ⊥
    apart = differ_apart s.done s.live all

    from_left : (d : Course) → Contains (filter stays left) d → Contains (s.done ++ s.live) d
    from_left d has = Contains-append_right s.done s.live d (kept_in stays_live s.live d (kept_in stays left d has).0).0

    -- the new one has the new number
    has_new : has_entry one n ≡ true
    has_new = finds_last (λ k. k == n) (λ (e : Course). e.numbers) joined (n ∷ []) (or_left _ _ (eq-eqb n n refl))

    bad : (d : Course) → Contains (s.done ++ s.live) d → one ≡ d → ⊥
    bad d has same = let less = below d n has (subst (λ e. has_entry e n ≡ true) same has_new) in absurd (omega (less, arith))

    bad_one : (d : Course) → Contains (s.done ++ s.live) d → (one ≡ d) ⊎ Contains [] d → ⊥
    bad_one d has (inl same) = bad d has same
    bad_one d has (inr none) = none_in d none

    not_both : (b : Bool) → b ≡ true → not b ≡ true → ⊥
    not_both true is so = true≢false (sym so)
    not_both false is so = true≢false (sym is)

    both : (d : Course) → Contains s.done d ⊎ Contains (filter free s.live) d → Contains (filter stays left) d ⊎ Contains (one ∷ []) d → ⊥
    both d (inl old) (inl has) = apart d old (kept_in stays_live s.live d (kept_in stays left d has).0).0
    both d (inr old) (inl has) = not_both (free d) (kept_in free s.live d old).1 (kept_in stays_live s.live d (kept_in stays left d has).0).1
    both d (inl old) (inr new) = bad_one d (Contains-append_left s.done s.live d old) (in_cases one d [] new)
    both d (inr old) (inr new) = bad_one d (Contains-append_right s.done s.live d (kept_in free s.live d old).0) (in_cases one d [] new)

-- ---- the dialogues in the order of the gathered ones

-- The second list has the elements of the first, in some order.
abbrev pub IsShuffled : {X : Type 0} → List X → List X → Type 0
IsShuffled [] ys = ys ≡ []
IsShuffled {X} (x ∷ xs) ys = (front : List X) × (back : List X) × (ys ≡ front ++ x ∷ back) × IsShuffled xs (front ++ back)

-- dialogues that are aligned with two lists
record Divided (ds : List Course) (gs hs : List CompleteDialogue) : Type 0 where
  front : List Course
  back : List Course
  joined : ds ≡ front ++ back
  first : AreAligned front gs
  second : AreAligned back hs

aligned_parts : (ds : List Course) (gs hs : List CompleteDialogue) → AreAligned ds (gs ++ hs) → Divided ds gs hs
aligned_parts ds [] hs are = record { front = []; back = ds; joined = refl; first = tt; second = are }
aligned_parts [] (g ∷ gs) hs are = absurd are
aligned_parts (d ∷ ds) (g ∷ gs) hs (is, are) =
    let parts = aligned_parts ds gs hs are in record {
      front = d ∷ parts.front;
      back = parts.back;
      joined = ap (λ l. d ∷ l) parts.joined;
      first = (is, parts.first);
      second = parts.second;
    }

pub aligned_both : (ds es : List Course) (gs hs : List CompleteDialogue) → AreAligned ds gs → AreAligned es hs → AreAligned (ds ++ es) (gs ++ hs)
aligned_both [] es [] hs one two = two
aligned_both [] es (g ∷ gs) hs one two = absurd one
aligned_both (d ∷ ds) es [] hs one two = absurd one
aligned_both (d ∷ ds) es (g ∷ gs) hs (is, one) two = (is, aligned_both ds es gs hs one two)

-- a list, divided at one of its elements
pub divided : {X : Type 0} (xs : List X) (x : X) → Contains xs x → (front : List X) × (back : List X) × (xs ≡ front ++ x ∷ back)
divided [] x has = absurd (none_in x has)
divided {X} (y ∷ xs) x has = by (in_cases y x xs has) (λ there. divided xs x there)
  where
    by : (y ≡ x) ⊎ Contains xs x → (Contains xs x → (front : List X) × (back : List X) × (xs ≡ front ++ x ∷ back))
        → (front : List X) × (back : List X) × (y ∷ xs ≡ front ++ x ∷ back)
    by (inl same) rest = ([], xs, ap (λ z. z ∷ xs) same)
    by (inr there) rest = let (front, back, is) = rest there in (y ∷ front, back, ap (λ l. y ∷ l) is)

-- the place of an element
place_of : {X : Type 0} (xs : List X) (x : X) → Contains xs x → (i : ℕ) × (slice_get xs i ≡ Some x)
place_of [] x has = absurd (none_in x has)
place_of {X} (y ∷ xs) x has = by (in_cases y x xs has) (λ there. place_of xs x there)
  where
    by : (y ≡ x) ⊎ Contains xs x → (Contains xs x → (i : ℕ) × (slice_get xs i ≡ Some x)) → (i : ℕ) × (slice_get (y ∷ xs) i ≡ Some x)
    by (inl same) rest = (zero, ap Some same)
    by (inr there) rest = let (i, is) = rest there in (suc i, is)

-- the place of an element in the longer list
abbrev Farther : {X : Type 0} → List X → X → List X → ℕ → X → Type 0
Farther front x back i y = (k : ℕ) × (slice_get (front ++ x ∷ back) k ≡ Some y) × ((k ≡ i) × (i < length front) ⊎ (k ≡ suc i) × (length front ≤ i))

farther : {X : Type 0} (front : List X) (x : X) (back : List X) (i : ℕ) (y : X) → slice_get (front ++ back) i ≡ Some y → Farther front x back i y
farther [] x back i y at = (suc i, at, inr (refl, omega arith))
farther (z ∷ front) x back zero y at = (zero, at, inl (refl, omega arith))
farther (z ∷ front) x back (suc i) y at = by (farther front x back i y at)
  where
    by : Farther front x back i y → Farther (z ∷ front) x back (suc i) y
    by (k, there, inl (same, less)) = (suc k, there, inl (ap suc same, omega (less, arith)))
    by (k, there, inr (same, most)) = (suc k, there, inr (ap suc same, omega (most, arith)))

middle : {X : Type 0} (front : List X) (x : X) (back : List X) → slice_get (front ++ x ∷ back) (length front) ≡ Some x
middle [] x back = refl
middle (y ∷ front) x back = middle front x back

-- an element of the shorter list is in the longer one
in_longer : {X : Type 0} (front : List X) (x : X) (back : List X) (y : X) → Contains (front ++ back) y → Contains (front ++ x ∷ back) y
in_longer {X} front x back y has = by (Contains-append_cases front back y has)
  where
    by : Contains front y ⊎ Contains back y → Contains (front ++ x ∷ back) y
    by (inl there) = Contains-append_left front (x ∷ back) y there
    by (inr there) = Contains-append_right front (x ∷ back) y (later_in x y back there)

-- an element of the longer list is x, or in the shorter one
from_longer : {X : Type 0} (front : List X) (x : X) (back : List X) (y : X) → Contains (front ++ x ∷ back) y
    → (x ≡ y) ⊎ Contains (front ++ back) y
from_longer {X} front x back y has = by (Contains-append_cases front (x ∷ back) y has)
  where
    later : (x ≡ y) ⊎ Contains back y → (x ≡ y) ⊎ Contains (front ++ back) y
    later (inl same) = inl same
    later (inr there) = inr (Contains-append_right front back y there)

    by : Contains front y ⊎ Contains (x ∷ back) y → (x ≡ y) ⊎ Contains (front ++ back) y
    by (inl there) = inr (Contains-append_left front back y there)
    by (inr there) = later (in_cases x y back there)

-- Each of these dialogues has an entry, and those with a common entry are equal.
pub record AreEntered (ds : List Course) : Type 0 where
  pub some : (d : Course) → Contains ds d → (n : ℕ) × (has_entry d n ≡ true)
  pub one : (d e : Course) (n : ℕ) → Contains ds d → Contains ds e → has_entry d n ≡ true → has_entry e n ≡ true → d ≡ e

pub entered_later : (d : Course) (ds : List Course) → AreEntered (d ∷ ds) → AreEntered ds
entered_later d ds are = record {
  some = λ e has. are.some e (later_in d e ds has);
  one = λ e f n has hers is so. are.one e f n (later_in d e ds has) (later_in d f ds hers) is so;
}

-- The others represent the other dialogues.
rest_gathered : (d : Course) (ds : List Course) (front : List CompleteDialogue) (g : CompleteDialogue) (back : List CompleteDialogue) → (Contains ds d → ⊥)
    → AreEntered (d ∷ ds) → IsCompleteDialogue d g → AreCompleteDialogues (d ∷ ds) (front ++ g ∷ back) → AreCompleteDialogues ds (front ++ back)
rest_gathered d ds front g back new entered is are = record { each = each; all = all; apart = apart }
  where
    -- a dialogue that g represents is d
    same : (e : Course) → Contains (d ∷ ds) e → IsCompleteDialogue e g → d ≡ e
    same e has so =
        let (n, its) = entered.some d (first_in d ds) in
        entered.one d e n (first_in d ds) has its (sym (so.numbers n) ∙ is.numbers n ∙ its)

    each_by : (e : Course) → Contains ds e → (h : CompleteDialogue) → (g ≡ h) ⊎ Contains (front ++ back) h → IsCompleteDialogue e h
        → (h : CompleteDialogue) × Contains (front ++ back) h × IsCompleteDialogue e h
    each_by e has h (inl hers) so =
        absurd (new (subst (Contains ds) (sym (same e (later_in d e ds has) (subst (IsCompleteDialogue e) (sym hers) so))) has))
    each_by e has h (inr there) so = (h, there, so)

    each : (e : Course) → Contains ds e → (h : CompleteDialogue) × Contains (front ++ back) h × IsCompleteDialogue e h
    each e has =
        let (h, there, so) = are.each e (later_in d e ds has) in
        each_by e has h (from_longer front g back h there) so

    apart : (i j n : ℕ) (f h : CompleteDialogue) → slice_get (front ++ back) i ≡ Some f → slice_get (front ++ back) j ≡ Some h
        → names_entry f n ≡ true → names_entry h n ≡ true → i ≡ j
    apart i j n f h at also its hers = by (farther front g back i f at) (farther front g back j h also)
      where
        by : Farther front g back i f → Farther front g back j h → i ≡ j
        by (k, here, inl (a, less)) (l, there, inl (b, fewer)) = let e = are.apart k l n f h here there its hers in omega (a, b, e, arith)
        by (k, here, inl (a, less)) (l, there, inr (b, fewer)) = let e = are.apart k l n f h here there its hers in omega (a, b, e, less, fewer, arith)
        by (k, here, inr (a, less)) (l, there, inl (b, fewer)) = let e = are.apart k l n f h here there its hers in omega (a, b, e, less, fewer, arith)
        by (k, here, inr (a, less)) (l, there, inr (b, fewer)) = let e = are.apart k l n f h here there its hers in omega (a, b, e, arith)

    -- no other gathered dialogue represents d
    not_d : (h : CompleteDialogue) → Contains (front ++ back) h → IsCompleteDialogue d h → ⊥
    not_d h has so =
        let (i, at) = place_of (front ++ back) h has in
        let (n, its) = entered.some d (first_in d ds) in
        by (farther front g back i h at) n (so.numbers n ∙ its) (is.numbers n ∙ its)
      where
        by : {i : ℕ} → Farther front g back i h → (n : ℕ) → names_entry h n ≡ true → names_entry g n ≡ true → ⊥
        by (k, there, inl (a, less)) n its hers =
            let e = are.apart k (length front) n h g there (middle front g back) its hers in absurd (omega (a, e, less, arith))
        by (k, there, inr (a, most)) n its hers =
            let e = are.apart k (length front) n h g there (middle front g back) its hers in absurd (omega (a, e, most, arith))

    all_by : (h : CompleteDialogue) → Contains (front ++ back) h → (e : Course) → (d ≡ e) ⊎ Contains ds e → IsCompleteDialogue e h
        → (e : Course) × Contains ds e × IsCompleteDialogue e h
    all_by h has e (inl hers) so = absurd (not_d h has (subst (λ c. IsCompleteDialogue c h) (sym hers) so))
    all_by h has e (inr there) so = (e, there, so)

    all : (h : CompleteDialogue) → Contains (front ++ back) h → (e : Course) × Contains ds e × IsCompleteDialogue e h
    all h has =
        let (e, there, so) = are.all h (in_longer front g back h has) in
        all_by h has e (in_cases d e ds there) so

-- The dialogues in the order of the gathered ones that represent them, one for one.
pub in_order : (ds : List Course) (gs : List CompleteDialogue) → AllDiffer ds → AreEntered ds → AreCompleteDialogues ds gs
    → (es : List Course) × AreAligned es gs × IsShuffled ds es
in_order [] [] differ entered are = ([], tt, refl)
in_order [] (g ∷ gs) differ entered are = let (d, has, is) = are.all g (first_in g gs) in absurd (none_in d has)
in_order (d ∷ ds) gs (new, differ) entered are =
    let (g, has, is) = are.each d (first_in d ds) in
    let (front, back, joined) = divided gs g has in
    let (es, aligned, shuffled) =
    in_order ds (front ++ back) differ (entered_later d ds entered)
    (rest_gathered d ds front g back new entered is (subst (AreCompleteDialogues (d ∷ ds)) joined are)) in
    let parts = aligned_parts es front back aligned in (
      parts.front ++ d ∷ parts.back,
      subst (AreAligned (parts.front ++ d ∷ parts.back)) (sym joined)
          (aligned_both parts.front (d ∷ parts.back) front (g ∷ back) parts.first (is, parts.second)),
      (parts.front, parts.back, refl, subst (IsShuffled ds) parts.joined shuffled),
    )

-- ---- lists in another order

-- Each element is in the other list.
pub shuffled_in : {X : Type 0} (xs ys : List X) (x : X) → IsShuffled xs ys → Contains ys x → Contains xs x
shuffled_in [] ys x is has = subst (λ l. Contains l x) is has
shuffled_in {X} (z ∷ xs) ys x (front, back, joined, rest) has = by (from_longer front z back x (subst (λ l. Contains l x) joined has))
    (λ there. shuffled_in xs (front ++ back) x rest there)
  where
    by : (z ≡ x) ⊎ Contains (front ++ back) x → (Contains (front ++ back) x → Contains xs x) → Contains (z ∷ xs) x
    by (inl same) later = subst (Contains (z ∷ xs)) same (first_in z xs)
    by (inr there) later = later_in z x xs (later there)

-- A test passes for an element of both, or of neither.
pub shuffled_any : {X : Type 0} (p : X → Bool) (xs ys : List X) → IsShuffled xs ys → list_any p ys ≡ list_any p xs
shuffled_any p [] ys is = ap (list_any p) is
shuffled_any p (x ∷ xs) ys (front, back, joined, rest) =
    ap (list_any p) joined ∙ list_any-append p front (x ∷ back) ∙ turned (list_any p front) (p x) (list_any p back)
    ∙ ap (λ b. p x || b) (sym (list_any-append p front back) ∙ shuffled_any p xs (front ++ back) rest)
  where
    turned : (a b c : Bool) → (a || (b || c)) ≡ (b || (a || c))
    turned true true c = refl
    turned true false c = refl
    turned false b c = refl
