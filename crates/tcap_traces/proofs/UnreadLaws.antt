-- The noted unreadable entries of a segment give the first unreadable entry after the beginning of each dialogue.
use Rattle.std.proofs.Common.{arith, ◌≡◌, ◌⊎◌, inl, inr, ℕ, zero, suc, ◌+◌, ◌<◌, ◌≤◌, Bool, true, false, cond, List, [], ◌∷◌, ◌++◌, length, Option, Some, None, is_some, refl, sym, ap, ◌∙◌}
use Rattle.std.specs.Prelude.{◌&&◌, ◌||◌, ◌==◌, ◌-◌, nat_le, nat_lt, slice_get}
use Rattle.std.specs.Option.{option_or}
use Rattle.std.proofs.lemmas.List.Sorted.{IsNonDecreasingBy-push}
use Rattle.std.proofs.Math.ListN.{get_or}
use Rattle.std.specs.List.{find, list_any}
use Rattle.std.proofs.lemmas.Bool.{eq-eqb, eqb-true, false≢true, lt-leb, le-leb, le-ltb, lt-ltb, or_cases, or_left, or_right}
use Rattle.std.proofs.lemmas.List.{length-append}
use Rattle.std.proofs.lemmas.List.Folds.{find-append, list_any-append}
use Rattle.tcap_dialogues.specs.Course.{Heading}
use Rattle.tcap_traces.specs.Segments.{is_unreadable, unreadable_from}
use Rattle.tcap_traces.specs.UnreadableEntries.{Notes, after_entry, first_above}
use Rattle.tcap_traces.specs.TraceProgress.{AreNoted}

-- ---- the first unreadable heading

-- There is none from after the last.
none_from : (least n : ℕ) (hs : List Heading) → n + length hs ≤ least → unreadable_from least n hs ≡ None
none_from least n [] most = refl
none_from least n (h ∷ hs) most =
    let before : nat_le least n ≡ false = lt-leb least n (omega (most, arith)) in
    ap (λ b. cond (b && is_unreadable h) (Some n) (unreadable_from least (suc n) hs)) before
    ∙ none_from least (suc n) hs (omega (most, arith))

-- One more heading.
pub unreadable_push : (least n : ℕ) (hs : List Heading) (h : Heading)
    → unreadable_from least n (hs ++ h ∷ [])
    ≡ option_or (unreadable_from least n hs) (cond (nat_le least (n + length hs) && is_unreadable h) (Some (n + length hs)) None)
unreadable_push least n [] h =
    let at : n ≡ n + 0 = omega arith in
    ap (λ k. cond (nat_le least k && is_unreadable h) (Some k) None) at
unreadable_push least n (x ∷ hs) h = by (nat_le least n && is_unreadable x) (unreadable_push least (suc n) hs h)
  where
    at : suc n + length hs ≡ n + length (x ∷ hs)
    at = omega arith

    by : (b : Bool) → unreadable_from least (suc n) (hs ++ h ∷ [])
        ≡ option_or (unreadable_from least (suc n) hs) (cond (nat_le least (suc n + length hs) && is_unreadable h) (Some (suc n + length hs)) None)
        → cond b (Some n) (unreadable_from least (suc n) (hs ++ h ∷ []))
        ≡ option_or (cond b (Some n) (unreadable_from least (suc n) hs))
        (cond (nat_le least (n + length (x ∷ hs)) && is_unreadable h) (Some (n + length (x ∷ hs))) None)
    by true rest = refl
    by false rest =
        rest
        ∙ ap (λ k. option_or (unreadable_from least (suc n) hs) (cond (nat_le least k && is_unreadable h) (Some k) None)) at

-- ---- the notes

-- the least number of an unreadable entry that is looked for
abbrev pub least_after : Option ℕ → ℕ
least_after None = 0
least_after (Some n) = suc n

pub nothing_noted : (begun : ℕ → Bool) → AreNoted [] begun ([], true)
nothing_noted begun = record {
  all = refl;
  above = λ n is. refl;
  below = λ n is. absurd (false≢true is);
  sorted = λ i j d most less. absurd (omega (less, arith));
  whole = λ is. cc;
  wholes = λ is. cc;
}

-- the beginnings with one more
abbrev pub begun_with : (ℕ → Bool) → ℕ → Bool → ℕ → Bool
begun_with begun k begins n = cond (k == n) begins (begun n)

or_none : (o : Option ℕ) → option_or o None ≡ o
or_none None = refl
or_none (Some n) = refl

or_some : (o p : Option ℕ) → is_some o ≡ true → option_or o p ≡ o
or_some None p is = absurd (false≢true is)
or_some (Some n) p is = refl

-- All noted numbers are at most n, so none is above.
none_above : (n : ℕ) (ns : List ℕ) → ((i : ℕ) → list_any (λ k. k == i) ns ≡ true → i ≤ n) → find (λ other. nat_lt n other) ns ≡ None
none_above n [] below = refl
none_above n (m ∷ ns) below =
    let first : nat_lt n m ≡ false = le-ltb n m (below m (or_left (m == m) (list_any (λ k. k == m) ns) (eq-eqb m m refl))) in
    ap (λ b. cond b (Some m) (find (λ other. nat_lt n other) ns)) first
    ∙ none_above n ns (λ i is. below i (or_right (m == i) (list_any (λ k. k == i) ns) is))

-- The number at a place is one of them.
at_is : (ns : List ℕ) (i d : ℕ) → i < length ns → list_any (λ k. k == get_or ns i d) ns ≡ true
at_is [] i d less = absurd (omega (less, arith))
at_is (n ∷ ns) zero d less = or_left (n == n) (list_any (λ k. k == n) ns) (eq-eqb n n refl)
at_is (n ∷ ns) (suc i) d less =
    or_right (n == get_or ns i d) (list_any (λ k. k == get_or ns i d) ns) (at_is ns i d (omega (less, arith)))

first_push : (ns : List ℕ) (k : ℕ) → slice_get (ns ++ k ∷ []) 0 ≡ option_or (slice_get ns 0) (Some k)
first_push [] k = refl
first_push (n ∷ ns) k = refl

-- The heading of the next entry.
module _ (hs : List Heading) (h : Heading) (begun : ℕ → Bool) (numbers : List ℕ) where
  abbrev k : ℕ
  k = length hs

  -- the first unreadable heading, with one more that is readable
  readable : is_unreadable h ≡ false → (least : ℕ) → unreadable_from least 0 (hs ++ h ∷ []) ≡ unreadable_from least 0 hs
  readable is least =
      unreadable_push least 0 hs h
      ∙ ap (λ b. option_or (unreadable_from least 0 hs) (cond (nat_le least (0 + k) && b) (Some (0 + k)) None)) is
      ∙ ap (option_or (unreadable_from least 0 hs)) (no_more (nat_le least (0 + k))) ∙ or_none (unreadable_from least 0 hs)
    where
      no_more : (b : Bool) → cond (b && false) (Some (0 + k)) None ≡ None
      no_more true = refl
      no_more false = refl

  unreadable : is_unreadable h ≡ true → (least : ℕ) → least ≤ k
      → unreadable_from least 0 (hs ++ h ∷ []) ≡ option_or (unreadable_from least 0 hs) (Some k)
  unreadable is least most =
      let at : 0 + k ≡ k = omega arith in
      let far : nat_le least (0 + k) ≡ true = le-leb least (0 + k) (omega (most, arith)) in
      unreadable_push least 0 hs h
      ∙ ap (λ b. option_or (unreadable_from least 0 hs) (cond (b && is_unreadable h) (Some (0 + k)) None)) far
      ∙ ap (λ b. option_or (unreadable_from least 0 hs) (cond b (Some (0 + k)) None)) is
      ∙ ap (λ n. option_or (unreadable_from least 0 hs) (Some n)) at

  longer : length (hs ++ h ∷ []) ≡ suc k
  longer = length-append hs (h ∷ []) ∙ omega arith

  later : (ns : List ℕ) → ((n : ℕ) → list_any (λ i. i == n) ns ≡ true → n < k) → (n : ℕ) → list_any (λ i. i == n) ns ≡ true
      → n < length (hs ++ h ∷ [])
  later ns below n is = let less = below n is in omega (less, longer, arith)

  -- It begins a dialogue with IDs, so it can be read.
  begins_more : (b : Bool) → is_unreadable h ≡ false → AreNoted hs begun (numbers, b)
      → AreNoted (hs ++ h ∷ []) (begun_with begun k true) (numbers, true)
  begins_more b is are = record {
    all = are.all ∙ sym (readable is 0);
    above = λ n so. by n (k == n) refl so;
    below = later numbers are.below;
    sorted = are.sorted;
    whole = λ no. cc;
    wholes = λ no. cc;
  }
    where
      by : (n : ℕ) (same : Bool) → (k == n) ≡ same → cond same true (begun n) ≡ true
          → first_above (Some n) numbers ≡ unreadable_from (suc n) 0 (hs ++ h ∷ [])
      by n true same so =
          let e : k ≡ n = eqb-true k n same in
          none_above n numbers (λ i has. let less = are.below i has in omega (less, e, arith))
          ∙ sym (none_from (suc n) 0 (hs ++ h ∷ []) (omega (longer, e, arith)))
      by n false same so = are.above n so ∙ sym (readable is (suc n))

  -- It begins none.
  old_begun : (n : ℕ) → cond (k == n) false (begun n) ≡ true → begun n ≡ true
  old_begun n = by (k == n)
    where
      by : (b : Bool) → cond b false (begun n) ≡ true → begun n ≡ true
      by true so = absurd (false≢true so)
      by false so = so

  readable_more : (b : Bool) → is_unreadable h ≡ false → AreNoted hs begun (numbers, b)
      → AreNoted (hs ++ h ∷ []) (begun_with begun k false) (numbers, b)
  readable_more b is are = record {
    all = are.all ∙ sym (readable is 0);
    above = λ n so. are.above n (old_begun n so) ∙ sym (readable is (suc n));
    below = later numbers are.below;
    sorted = are.sorted;
    whole = are.whole;
    wholes = λ no n so. are.wholes no n (old_begun n so);
  }

  known_more : is_unreadable h ≡ true → ((n : ℕ) → begun n ≡ true → n < k) → AreNoted hs begun (numbers, false)
      → AreNoted (hs ++ h ∷ []) (begun_with begun k false) (numbers, false)
  known_more is begun_below are = record {
    all = are.all ∙ sym (or_some (unreadable_from 0 0 hs) (Some k) (ap is_some (sym are.all) ∙ are.whole refl)) ∙ sym (unreadable is 0 (omega arith));
    above = λ n so. by n (old_begun n so);
    below = later numbers are.below;
    sorted = are.sorted;
    whole = are.whole;
    wholes = λ no n so. are.wholes no n (old_begun n so);
  }
    where
      by : (n : ℕ) → begun n ≡ true → first_above (Some n) numbers ≡ unreadable_from (suc n) 0 (hs ++ h ∷ [])
      by n so =
          are.above n so
          ∙ sym (or_some (unreadable_from (suc n) 0 hs) (Some k) (ap is_some (sym (are.above n so)) ∙ are.wholes refl n so))
          ∙ sym (unreadable is (suc n) (let less = begun_below n so in omega (less, arith)))

  new_more : is_unreadable h ≡ true → ((n : ℕ) → begun n ≡ true → n < k) → AreNoted hs begun (numbers, true)
      → AreNoted (hs ++ h ∷ []) (begun_with begun k false) (numbers ++ k ∷ [], false)
  new_more is begun_below are = record {
    all = first_push numbers k ∙ ap (λ o. option_or o (Some k)) are.all ∙ sym (unreadable is 0 (omega arith));
    above = λ n so. by n (old_begun n so);
    below = λ n has. below n (or_cases (list_any (λ i. i == n) numbers) (k == n || false) (sym (list_any-append (λ i. i == n) numbers (k ∷ [])) ∙ has));
    sorted = IsNonDecreasingBy-push (λ x. x) numbers k are.sorted (λ d some. last_below d (are.below (get_or numbers (length numbers - 1) d) (at_is numbers (length numbers - 1) d (omega (some, arith)))));
    whole = λ no. ap is_some (first_push numbers k) ∙ some_last (slice_get numbers 0);
    wholes = λ no n so. ap is_some (found n (old_begun n so)) ∙ some_last (first_above (Some n) numbers);
  }
    where
      last_below : (d : ℕ) → get_or numbers (length numbers - 1) d < k → get_or numbers (length numbers - 1) d ≤ k
      last_below d less = omega (less, arith)

      some_last : (o : Option ℕ) → is_some (option_or o (Some k)) ≡ true
      some_last None = refl
      some_last (Some n) = refl

      found : (n : ℕ) → begun n ≡ true → first_above (Some n) (numbers ++ k ∷ []) ≡ option_or (first_above (Some n) numbers) (Some k)
      found n so =
          let less = begun_below n so in
          find-append (λ other. nat_lt n other) numbers (k ∷ [])
          ∙ ap (λ b. option_or (first_above (Some n) numbers) (cond b (Some k) None)) (lt-ltb n k less)

      by : (n : ℕ) → begun n ≡ true → first_above (Some n) (numbers ++ k ∷ []) ≡ unreadable_from (suc n) 0 (hs ++ h ∷ [])
      by n so =
          found n so ∙ ap (λ o. option_or o (Some k)) (are.above n so)
          ∙ sym (unreadable is (suc n) (let less = begun_below n so in omega (less, arith)))

      below : (n : ℕ) → (list_any (λ i. i == n) numbers ≡ true) ⊎ (k == n || false ≡ true) → n < length (hs ++ h ∷ [])
      below n (inl has) = later numbers are.below n has
      below n (inr same) = let e : k ≡ n = eqb-true k n (sym (or_no (k == n)) ∙ same) in omega (e, longer, arith)
        where
          or_no : (b : Bool) → (b || false) ≡ b
          or_no true = refl
          or_no false = refl

-- After one more entry the notes are still right.
pub noted_more : (hs : List Heading) (h : Heading) (begun : ℕ → Bool) (notes : Notes) (begins : Bool)
    → (begins ≡ true → is_unreadable h ≡ false) → ((n : ℕ) → begun n ≡ true → n < length hs) → AreNoted hs begun notes
    → AreNoted (hs ++ h ∷ []) (begun_with begun (length hs) begins) (after_entry (length hs) (is_unreadable h) begins notes)
noted_more hs h begun (numbers, b) true read begun_below are = begins_more hs h begun numbers b (read refl) are
noted_more hs h begun (numbers, b) false read begun_below are = by (is_unreadable h) refl b are
  where
    by : (u : Bool) → is_unreadable h ≡ u → (b : Bool) → AreNoted hs begun (numbers, b)
        → AreNoted (hs ++ h ∷ []) (begun_with begun (length hs) false) (after_entry (length hs) u false (numbers, b))
    by false is true noted = readable_more hs h begun numbers true is noted
    by false is false noted = readable_more hs h begun numbers false is noted
    by true is true noted = new_more hs h begun numbers is begun_below noted
    by true is false noted = known_more hs h begun numbers is begun_below noted
