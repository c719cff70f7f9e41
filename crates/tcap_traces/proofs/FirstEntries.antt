-- A dialogue with transaction IDs begins with an entry that began a dialogue with IDs.
use Rattle.std.proofs.Common.{arith, ◌≡◌, ◌⊎◌, inl, inr, ℕ, zero, suc, ◌<◌, ◌≤◌, Bool, true, false, cond, List, [], ◌∷◌, ◌++◌, Option, Some, None, refl, sym, ap, subst, ◌∙◌}
use Rattle.std.specs.Prelude.{◌==◌, ◌&&◌, ◌||◌, not, Contains, filter, is_none, map}
use Rattle.std.specs.List.{flat_map, list_any}
use Rattle.std.specs.Option.{option_to_list}
use Rattle.tcap_record.specs.Ends.{other}
use Rattle.std.proofs.lemmas.Bool.{eq-eqb, eqb-true, false≢true, ne_eqb, or_cases, or_left, or_right}
use Rattle.std.proofs.lemmas.List.Elements.{Contains-append_cases, Contains-append_left, Contains-append_right}
use Rattle.std.proofs.lemmas.List.Folds.{list_any-append}
use Rattle.tcap_dialogues.specs.Course.{Course, Courses, Heading, begins_new, courses_after, earlier_in, has_entry, share_id, ids_in, is_alone, is_free, with_entry}
use Rattle.tcap_dialogues.specs.DialoguesOfList.{IdOf, is_among}
use Rattle.tcap_dialogues.specs.declared.reuse.Reuse.{Reuse}
use Rattle.tcap_dialogues.proofs.CutLists.{first_in, in_cases, kept_in, later_in, none_in}
use Rattle.tcap_traces.specs.TraceProgress.{BeginWell, IsFirst}
use Rattle.tcap_traces.proofs.UnreadLaws.{begun_with}

-- ---- joined dialogues

abbrev among : List ℕ → ℕ → Bool
among ns n = list_any (λ i. i == n) ns

-- The least of the numbers of these dialogues is that of one of them.
record LeastOf (begun : ℕ → Bool) (ds : List Course) (n : ℕ) : Type 0 where
  has : among (flat_map (λ d. d.numbers) ds) n ≡ true
  least : (i : ℕ) → among (flat_map (λ d. d.numbers) ds) i ≡ true → n ≤ i
  is_begun : begun n ≡ true

least_of : (begun : ℕ → Bool) (d : Course) (ds : List Course)
    → ((e : Course) → Contains (d ∷ ds) e → (n : ℕ) × IsFirst e n × (begun n ≡ true)) → (n : ℕ) × LeastOf begun (d ∷ ds) n
least_of begun d [] firsts =
    let (n, is, so) = firsts d (first_in d []) in (
      n,
      record {
        has = only d n ∙ is.has;
        least = λ i has. is.least i (sym (only d i) ∙ has);
        is_begun = so;
      },
    )
  where
    only : (d : Course) (n : ℕ) → among (d.numbers ++ []) n ≡ has_entry d n
    only d n = list_any-append (λ i. i == n) d.numbers [] ∙ or_no (has_entry d n)
      where
        or_no : (b : Bool) → (b || false) ≡ b
        or_no true = refl
        or_no false = refl
least_of begun d (e ∷ ds) firsts =
    let (n, is, so) = firsts d (first_in d (e ∷ ds)) in
    let (m, rest) = least_of begun e ds (λ x has. firsts x (later_in d x (e ∷ ds) has)) in
    by n m is so rest (less_or n m)
  where
    others : List ℕ
    others = flat_map (λ (x : Course). x.numbers) (e ∷ ds)

    both : (i : ℕ) → among (d.numbers ++ others) i ≡ (has_entry d i || among others i)
    both i = list_any-append (λ k. k == i) d.numbers others

    less_or : (n m : ℕ) → (n ≤ m) ⊎ (m ≤ n)
    less_or zero m = inl (omega arith)
    less_or (suc n) zero = inr (omega arith)
    less_or (suc n) (suc m) = up (less_or n m)
      where
        up : (n ≤ m) ⊎ (m ≤ n) → (suc n ≤ suc m) ⊎ (suc m ≤ suc n)
        up (inl less) = inl (omega (less, arith))
        up (inr less) = inr (omega (less, arith))

    by : (n m : ℕ) → IsFirst d n → begun n ≡ true → LeastOf begun (e ∷ ds) m → (n ≤ m) ⊎ (m ≤ n) → (n : ℕ) × LeastOf begun (d ∷ e ∷ ds) n
    by n m is so rest (inl most) = (
      n,
      record {
        has = both n ∙ or_left (has_entry d n) (among others n) is.has;
        least = λ i has. at i (or_cases (has_entry d i) (among others i) (sym (both i) ∙ has));
        is_begun = so;
      },
    )
      where
        at : (i : ℕ) → (has_entry d i ≡ true) ⊎ (among others i ≡ true) → n ≤ i
        at i (inl has) = is.least i has
        at i (inr has) = let more = rest.least i has in omega (more, most, arith)
    by n m is so rest (inr most) = (
      m,
      record {
        has = both m ∙ or_right (has_entry d m) (among others m) rest.has;
        least = λ i has. at i (or_cases (has_entry d i) (among others i) (sym (both i) ∙ has));
        is_begun = rest.is_begun;
      },
    )
      where
        at : (i : ℕ) → (has_entry d i ≡ true) ⊎ (among others i ≡ true) → m ≤ i
        at i (inl has) = let more = is.least i has in omega (more, most, arith)
        at i (inr has) = rest.least i has

-- ---- one more entry

shared_id : (ids those : List IdOf) → share_id ids those ≡ true → (id : IdOf) × (is_among those id ≡ true)
shared_id [] those is = absurd (false≢true is)
shared_id (id ∷ ids) those is = by (or_cases (is_among those id) (share_id ids those) is) (shared_id ids those)
  where
    by : (is_among those id ≡ true) ⊎ (share_id ids those ≡ true) → (share_id ids those ≡ true → (id : IdOf) × (is_among those id ≡ true))
        → (id : IdOf) × (is_among those id ≡ true)
    by (inl has) rest = (id, has)
    by (inr more) rest = rest more

any_filtered : {X : Type 0} (p q : X → Bool) (xs : List X) → list_any (λ x. p x && q x) xs ≡ list_any p (filter q xs)
any_filtered p q [] = refl
any_filtered {X} p q (x ∷ xs) = by (q x) (any_filtered p q xs)
  where
    both : (a c : Bool) → ((a && true) || c) ≡ (a || c)
    both true c = refl
    both false c = refl

    neither : (a c : Bool) → ((a && false) || c) ≡ c
    neither true c = refl
    neither false c = refl

    by : (b : Bool) → list_any (λ x. p x && q x) xs ≡ list_any p (filter q xs)
        → ((p x && b) || list_any (λ x. p x && q x) xs) ≡ list_any p (cond b (x ∷ filter q xs) (filter q xs))
    by true rest = both (p x) (list_any (λ x. p x && q x) xs) ∙ ap (λ c. p x || c) rest
    by false rest = neither (p x) (list_any (λ x. p x && q x) xs) ∙ rest

none_left : {X : Type 0} (p : X → Bool) (xs : List X) → filter p xs ≡ [] → list_any p xs ≡ false
none_left p [] is = refl
none_left {X} p (x ∷ xs) is = by (p x) is (none_left p xs)
  where
    by : (b : Bool) → cond b (x ∷ filter p xs) (filter p xs) ≡ [] → (filter p xs ≡ [] → list_any p xs ≡ false) → (b || list_any p xs) ≡ false
    by true bad rest = cc
    by false none rest = rest none

not_alone : (h : Heading) (id : IdOf) → is_among (ids_in h) id ≡ true → is_alone h ≡ false
not_alone h id is = by h.otid h.dtid is
  where
    by : (o d : Option (List ℕ))
        → is_among (map (λ octets. record { end = h.sender; octets = octets }) (option_to_list o) ++ map (λ octets. record { end = other h.sender; octets = octets }) (option_to_list d)) id ≡ true
        → (is_none o && is_none d) ≡ false
    by None None none = absurd (false≢true none)
    by None (Some octets) some = refl
    by (Some octets) d some = refl

-- A number of some dialogues is below n if those of each are.
smaller : (k n : ℕ) (xs : List Course) → ((x : Course) → Contains xs x → has_entry x k ≡ true → k < n)
    → among (flat_map (λ (x : Course). x.numbers) xs) k ≡ true → k < n
smaller k n [] below none = absurd (false≢true none)
smaller k n (x ∷ xs) below some =
    by (or_cases (has_entry x k) (among (flat_map (λ (y : Course). y.numbers) xs) k)
    (sym (list_any-append (λ i. i == k) x.numbers (flat_map (λ (y : Course). y.numbers) xs)) ∙ some))
    (smaller k n xs (λ y has. below y (later_in x y xs has)))
  where
    by : (has_entry x k ≡ true) ⊎ (among (flat_map (λ (y : Course). y.numbers) xs) k ≡ true)
        → (among (flat_map (λ (y : Course). y.numbers) xs) k ≡ true → k < n) → k < n
    by (inl it) rest = below x (first_in x xs) it
    by (inr there) rest = rest there

-- The dialogues after one more entry begin well, too.
pub begin_well_then : (reuse : Reuse) (n : ℕ) (h : Heading) (s : Courses) (begun : ℕ → Bool)
    → ((d : Course) (i : ℕ) → Contains (s.done ++ s.live) d → has_entry d i ≡ true → i < n)
    → BeginWell begun (s.done ++ s.live)
    → BeginWell (begun_with begun n (begins_new reuse n s h)) ((courses_after reuse n h s).done ++ (courses_after reuse n h s).live)
begin_well_then reuse n h s begun below well d has id its =
    by (Contains-append_cases done (filter stays left ++ one ∷ []) d has)
  where
    free : Course → Bool
    free = is_free reuse n s h

    done : List Course
    done = s.done ++ filter free s.live

    left : List Course
    left = filter (λ e. not (free e)) s.live

    stays : Course → Bool
    stays e = not (share_id (ids_in h) e.ids)

    joined : List Course
    joined = filter (λ e. share_id (ids_in h) e.ids) left

    one : Course
    one = with_entry (earlier_in done) n h joined

    then : ℕ → Bool
    then = begun_with begun n (begins_new reuse n s h)

    -- a beginning before this entry is still one
    still : (k : ℕ) → k < n → begun k ≡ true → then k ≡ true
    still k less is =
        let other : n ≡ k → ⊥ = λ eq. absurd (omega (less, eq, arith)) in
        ap (λ b. cond b (begins_new reuse n s h) (begun k)) (ne_eqb n k other) ∙ is

    old : (e : Course) → Contains (s.done ++ s.live) e → is_among e.ids id ≡ true → (k : ℕ) × IsFirst e k × (then k ≡ true)
    old e there so =
        let (k, first, is) = well e there id so in
        (k, first, still k (below e k there first.has) is)

    from_live : (e : Course) → Contains left e → Contains (s.done ++ s.live) e
    from_live e there = Contains-append_right s.done s.live e (kept_in (λ x. not (free x)) s.live e there).0

    from_done : (e : Course) → Contains s.done e ⊎ Contains (filter free s.live) e → Contains (s.done ++ s.live) e
    from_done e (inl there) = Contains-append_left s.done s.live e there
    from_done e (inr there) = Contains-append_right s.done s.live e (kept_in free s.live e there).0

    -- the new dialogue, if it joins none
    alone : (es : List Course) → joined ≡ es → es ≡ [] → is_among one.ids id ≡ true → (k : ℕ) × IsFirst one k × (then k ≡ true)
    alone es is none so = (n, record { has = has_n; least = least }, begins)
      where
        nothing : joined ≡ []
        nothing = is ∙ none

        has_n : has_entry one n ≡ true
        has_n = ap (λ l. among (flat_map (λ (e : Course). e.numbers) l ++ n ∷ []) n) nothing ∙ or_left (n == n) false (eq-eqb n n refl)

        least : (i : ℕ) → has_entry one i ≡ true → n ≤ i
        least i it =
            let same : n ≡ i = eqb-true n i (sym (or_no (n == i)) ∙ sym (ap (λ l. among (flat_map (λ (e : Course). e.numbers) l ++ n ∷ []) i) nothing) ∙ it) in
            omega (same, arith)
          where
            or_no : (b : Bool) → (b || false) ≡ b
            or_no true = refl
            or_no false = refl

        own : is_among (ids_in h) id ≡ true
        own = sym (ap (λ l. is_among (flat_map (λ (e : Course). e.ids) l ++ ids_in h) id) nothing) ∙ so

        begins_now : begins_new reuse n s h ≡ true
        begins_now =
            ap (λ b. not b && not (list_any (λ e. share_id (ids_in h) e.ids && not (free e)) s.live)) (not_alone h id own)
            ∙ ap not (any_filtered (λ e. share_id (ids_in h) e.ids) (λ e. not (free e)) s.live ∙ none_left (λ e. share_id (ids_in h) e.ids) left nothing)

        begins : then n ≡ true
        begins = ap (λ b. cond b (begins_new reuse n s h) (begun n)) (eq-eqb n n refl) ∙ begins_now

    -- and if it joins some
    together : (e : Course) (es : List Course) → joined ≡ e ∷ es → (k : ℕ) × IsFirst one k × (then k ≡ true)
    together e es is = by_least (least_of then e es firsts)
      where
        firsts : (x : Course) → Contains (e ∷ es) x → (k : ℕ) × IsFirst x k × (then k ≡ true)
        firsts x there =
            let (from, shares) = kept_in (λ y. share_id (ids_in h) y.ids) left x (subst (λ l. Contains l x) (sym is) there) in
            let (shared, so) = shared_id (ids_in h) x.ids shares in
            let (k, first, is_begun) = well x (from_live x from) shared so in
            (k, first, still k (below x k (from_live x from) first.has) is_begun)

        numbers_are : (i : ℕ) → has_entry one i ≡ (among (flat_map (λ (x : Course). x.numbers) (e ∷ es)) i || (n == i || false))
        numbers_are i =
            ap (λ l. among (flat_map (λ (x : Course). x.numbers) l ++ n ∷ []) i) is
            ∙ list_any-append (λ k. k == i) (flat_map (λ (x : Course). x.numbers) (e ∷ es)) (n ∷ [])

        by_least : (k : ℕ) × LeastOf then (e ∷ es) k → (k : ℕ) × IsFirst one k × (then k ≡ true)
        by_least (k, l) = (k, record { has = numbers_are k ∙ or_left (among (flat_map (λ (x : Course). x.numbers) (e ∷ es)) k) (n == k || false) l.has; least = least }, l.is_begun)
          where
            least : (i : ℕ) → has_entry one i ≡ true → k ≤ i
            least i it = at (or_cases (among (flat_map (λ (x : Course). x.numbers) (e ∷ es)) i) (n == i || false) (sym (numbers_are i) ∙ it))
              where
                below_n : k < n
                below_n =
                    smaller k n (e ∷ es)
                    (λ x there. below x k (from_live x (kept_in (λ y. share_id (ids_in h) y.ids) left x (subst (λ z. Contains z x) (sym is) there)).0))
                    l.has

                at : (among (flat_map (λ (x : Course). x.numbers) (e ∷ es)) i ≡ true) ⊎ ((n == i || false) ≡ true) → k ≤ i
                at (inl it) = l.least i it
                at (inr same) = let eq : n ≡ i = eqb-true n i (sym (or_no (n == i)) ∙ same) in omega (below_n, eq, arith)
                  where
                    or_no : (b : Bool) → (b || false) ≡ b
                    or_no true = refl
                    or_no false = refl

    new_one : (es : List Course) → joined ≡ es → is_among one.ids id ≡ true → (k : ℕ) × IsFirst one k × (then k ≡ true)
    new_one [] is so = alone [] is refl so
    new_one (e ∷ es) is so = together e es is

    by_live : Contains (filter stays left) d ⊎ Contains (one ∷ []) d → (k : ℕ) × IsFirst d k × (then k ≡ true)
    by_live (inl there) = old d (from_live d (kept_in stays left d there).0) its
    by_live (inr there) = is_one (in_cases one d [] there)
      where
        is_one : (one ≡ d) ⊎ Contains [] d → (k : ℕ) × IsFirst d k × (then k ≡ true)
        is_one (inl same) = subst (λ x. (k : ℕ) × IsFirst x k × (then k ≡ true)) same (new_one joined refl (subst (λ x. is_among x.ids id ≡ true) (sym same) its))
        is_one (inr none) = absurd (none_in d none)

    by : Contains done d ⊎ Contains (filter stays left ++ one ∷ []) d → (k : ℕ) × IsFirst d k × (then k ≡ true)
    by (inl there) = old d (from_done d (Contains-append_cases s.done (filter free s.live) d there)) its
    by (inr there) = by_live (Contains-append_cases (filter stays left) (one ∷ []) d there)
