-- A segment with one more entry, or with the directive `under way`: its headings, and its dialogues that are over.
use Rattle.std.proofs.Common.{arith, ◌≡◌, ◌⊎◌, inl, inr, ℕ, suc, ◌+◌, ◌<◌, ◌≤◌, Bool, true, false, cond, List, [], ◌∷◌, ◌++◌, Option, Some, None, refl, sym, ap, ◌∙◌, length}
use Rattle.std.specs.Prelude.{◌&&◌, ◌||◌, is_some, nat_le, option_map, slice_get}
use Rattle.std.specs.Option.{option_or}
use Rattle.std.specs.List.{AllByRecursion}
use Rattle.std.proofs.lemmas.Bool.{false≢true, lt-leb}
use Rattle.tcap_dialogues.specs.Course.{Course, Courses, Heading, begins_from, gives_to_another, goes_on_with_another, has_entry, is_free, is_past}
use Rattle.tcap_dialogues.specs.declared.reuse.Reuse.{Reuse}
use Rattle.tcap_dialogues.specs.declared.reuse.Reuse.TheVariants as reuses
use Rattle.tcap_traces.specs.Pieces.{TraceEntry}
use Rattle.tcap_traces.specs.Dialogue.{Dialogue, comes_after, heading_in}
use Rattle.tcap_traces.specs.Segments.{Before, Segment, dialogue_of, dialogue_with, entries_in, heading_with, headings_from, headings_in, is_unreadable, least_unread, numbers_in, unreadable_from, with_one, with_under_way}
use Rattle.tcap_traces.specs.TraceProgress.{IsFirst}
use Rattle.tcap_traces.proofs.TakenEntries.{all_below, entries_push, first_is, numbers_push}
use Rattle.tcap_traces.proofs.UnreadLaws.{unreadable_push}

-- ---- headings

headings_more : (before : Before) (first : Option ℕ) (n : ℕ) (es : List TraceEntry) (e : TraceEntry)
    → headings_from before first n (es ++ e ∷ [])
    ≡ headings_from before first n es ++ heading_with before first (n + length es) (heading_in e) ∷ []
headings_more before first n [] e =
    let at : n ≡ n + 0 = omega arith in ap (λ k. heading_with before first k (heading_in e) ∷ []) at
headings_more before first n (x ∷ es) e =
    let at : suc n + length es ≡ n + length (x ∷ es) = omega arith in
    ap (λ l. heading_with before first n (heading_in x) ∷ l)
    (headings_more before first (suc n) es e
    ∙ ap (λ k. headings_from before first (suc n) es ++ heading_with before first k (heading_in e) ∷ []) at)

-- the heading of the next entry of a segment
abbrev pub next_heading : Before → Segment → TraceEntry → Heading
next_heading before s e = heading_with before s.under_way (length s.entries) (heading_in e)

pub headings_push : (before : Before) (s : Segment) (e : TraceEntry)
    → headings_in before (with_one e s) ≡ headings_in before s ++ next_heading before s e ∷ []
headings_push before s e = headings_more before s.under_way 0 s.entries e ∙ at
  where
    at : headings_from before s.under_way 0 s.entries ++ heading_with before s.under_way (0 + length s.entries) (heading_in e) ∷ []
        ≡ headings_in before s ++ next_heading before s e ∷ []
    at = let same : 0 + length s.entries ≡ length s.entries = omega arith in
        ap (λ k. headings_from before s.under_way 0 s.entries ++ heading_with before s.under_way k (heading_in e) ∷ []) same

as_many_headings : (before : Before) (first : Option ℕ) (n : ℕ) (es : List TraceEntry) → length (headings_from before first n es) ≡ length es
as_many_headings before first n [] = refl
as_many_headings before first n (e ∷ es) = ap suc (as_many_headings before first (suc n) es)

pub headings_length : (before : Before) (s : Segment) → length (headings_in before s) ≡ length s.entries
headings_length before s = as_many_headings before s.under_way 0 s.entries

-- A directive after all entries changes no heading.
before_directive : (before : Before) (k n : ℕ) (es : List TraceEntry) → n + length es ≤ k
    → headings_from before (Some k) n es ≡ headings_from before None n es
before_directive before k n [] most = refl
before_directive before k n (e ∷ es) most =
    let less : nat_le k n ≡ false = lt-leb k n (omega (most, arith)) in
    ap (λ b. headed b ∷ headings_from before (Some k) (suc n) es) less
    ∙ ap (λ l. headed false ∷ l) (before_directive before k (suc n) es (omega (most, arith)))
  where
    headed : Bool → Heading
    headed b = record (heading_with before None n (heading_in e)) { under_way = b }

pub headings_same : (before : Before) (s : Segment) → headings_in before (with_under_way s) ≡ headings_in before s
headings_same before s = by s.under_way refl
  where
    by : (o : Option ℕ) → s.under_way ≡ o → headings_from before (option_or s.under_way (Some (length s.entries))) 0 s.entries ≡ headings_from before s.under_way 0 s.entries
    by None is =
        ap (λ x. headings_from before (option_or x (Some (length s.entries))) 0 s.entries) is
        ∙ before_directive before (length s.entries) 0 s.entries (omega arith) ∙ sym (ap (λ x. headings_from before x 0 s.entries) is)
    by (Some k) is =
        ap (λ x. headings_from before (option_or x (Some (length s.entries))) 0 s.entries) is ∙ sym (ap (λ x. headings_from before x 0 s.entries) is)

-- ---- dialogues that are done are over

pub free_is_over : (reuse : Reuse) (n : ℕ) (s : Courses) (h : Heading) (d : Course) → is_free reuse n s h d ≡ true → is_some d.over ≡ true
free_is_over reuses.Once n s h d is = absurd (false≢true is)
free_is_over (reuses.Again linger) n s h d is = by d.over refl is
  where
    by : (o : Option ℕ) → d.over ≡ o → is_free (reuses.Again linger) n s h d ≡ true → is_some d.over ≡ true
    by None none free = absurd (false≢true (sym (ap (λ o. is_past linger n o || (is_some o && used)) none) ∙ free))
      where
        used : Bool
        used = begins_from h d.ids || gives_to_another s.live h d || goes_on_with_another s h d
    by (Some k) some free = ap is_some some

-- ---- dialogues that are over

-- the dialogue with another directive, and another unreadable entry
abbrev pub grown : Dialogue → Option ℕ → Option ℕ → Dialogue
grown d under_way unread = record d { under_way = under_way; unread = unread }

-- It is the same entry; or there was none, and it comes after all entries of the dialogue.
abbrev pub IsLater : Dialogue → Option ℕ → Type 0
IsLater d unread = (unread ≡ d.unread) ⊎ ((d.unread ≡ None) × ((k : ℕ) × (unread ≡ Some k) × AllByRecursion (λ n. n < k) d.numbers))

module _ (before : Before) (s : Segment) (d : Course) (below : (n : ℕ) → has_entry d n ≡ true → n < length s.entries) where
  not_next : has_entry d (0 + length s.entries) ≡ false
  not_next = by (has_entry d (0 + length s.entries)) refl
    where
      by : (b : Bool) → has_entry d (0 + length s.entries) ≡ b → has_entry d (0 + length s.entries) ≡ false
      by true has = let less = below (0 + length s.entries) has in absurd (omega (less, arith))
      by false none = none

  -- the dialogue in a segment that differs in its headings and its directive
  abbrev dialogue_by : Segment → Dialogue
  dialogue_by t = dialogue_with before t d (entries_in d 0 s.entries) (numbers_in d 0 s.entries)

  module _ (e : TraceEntry) where
    entry_same : dialogue_of before (with_one e s) d ≡ dialogue_by (with_one e s)
    entry_same =
        ap (λ es. dialogue_with before (with_one e s) d es (numbers_in d 0 (s.entries ++ e ∷ []))) (entries_push d 0 s.entries e not_next)
        ∙ ap (dialogue_with before (with_one e s) d (entries_in d 0 s.entries)) (numbers_push d 0 s.entries e not_next)

    -- After one more entry that is not of the dialogue, at most a later unreadable entry is noted of it.
    pub entry_grows : dialogue_of before (with_one e s) d ≡ grown (dialogue_of before s d) s.under_way (dialogue_by (with_one e s)).unread
    entry_grows = entry_same

    pub entry_late : IsLater (dialogue_of before s d) (dialogue_by (with_one e s)).unread
    entry_late = by (is_some (slice_get d.ids 0)) (unreadable_from least 0 (headings_in before s)) refl refl
      where
        least : ℕ
        least = least_unread (option_map heading_in (slice_get (entries_in d 0 s.entries) 0)) (slice_get (numbers_in d 0 s.entries) 0)

        h : Heading
        h = next_heading before s e

        len : ℕ
        len = 0 + length (headings_in before s)

        then_is : unreadable_from least 0 (headings_in before (with_one e s))
            ≡ option_or (unreadable_from least 0 (headings_in before s)) (cond (nat_le least len && is_unreadable h) (Some len) None)
        then_is = ap (unreadable_from least 0) (headings_push before s e) ∙ unreadable_push least 0 (headings_in before s) h

        same_length : len ≡ length s.entries
        same_length = let same = headings_length before s in omega (same, arith)

        numbers_below : AllByRecursion (λ n. n < len) (numbers_in d 0 s.entries)
        numbers_below = all_below d 0 len s.entries (omega (same_length, arith))

        last : (c : Bool) → unreadable_from least 0 (headings_in before (with_one e s)) ≡ cond c (Some len) None
            → (has : Bool) → has ≡ true → (dialogue_by (with_one e s)).unread ≡ cond has (unreadable_from least 0 (headings_in before (with_one e s))) None
            → (dialogue_of before s d).unread ≡ None → IsLater (dialogue_of before s d) (dialogue_by (with_one e s)).unread
        last true is has so then none =
            inr (none, (len, then ∙ ap (λ b. cond b (unreadable_from least 0 (headings_in before (with_one e s))) None) so ∙ is, numbers_below))
        last false is has so then none =
            inl (then ∙ ap (λ b. cond b (unreadable_from least 0 (headings_in before (with_one e s))) None) so ∙ is ∙ sym none)

        by : (has : Bool) (found : Option ℕ) → is_some (slice_get d.ids 0) ≡ has → unreadable_from least 0 (headings_in before s) ≡ found
            → IsLater (dialogue_of before s d) (dialogue_by (with_one e s)).unread
        by false found lacks is =
            inl (ap (λ b. cond b (unreadable_from least 0 (headings_in before (with_one e s))) None) lacks
            ∙ sym (ap (λ b. cond b (unreadable_from least 0 (headings_in before s)) None) lacks))
        by true (Some k) owns is =
            inl (ap (λ b. cond b (unreadable_from least 0 (headings_in before (with_one e s))) None) owns
            ∙ then_is ∙ ap (λ o. option_or o (cond (nat_le least len && is_unreadable h) (Some len) None)) is
            ∙ sym (ap (λ b. cond b (unreadable_from least 0 (headings_in before s)) None) owns ∙ is))
        by true None owns is =
            last (nat_le least len && is_unreadable h)
            (then_is ∙ ap (λ o. option_or o (cond (nat_le least len && is_unreadable h) (Some len) None)) is)
            (is_some (slice_get d.ids 0)) owns refl
            (ap (λ b. cond b (unreadable_from least 0 (headings_in before s)) None) owns ∙ is)

  -- The directive changes the facts of later dialogues only.
  pub directive_grows : dialogue_of before (with_under_way s) d
      ≡ grown (dialogue_of before s d) (option_or s.under_way (Some (length s.entries))) (dialogue_of before s d).unread
  directive_grows =
      ap (λ hs. grown (dialogue_of before s d) (option_or s.under_way (Some (length s.entries)))
      (cond (is_some (slice_get d.ids 0))
      (unreadable_from (least_unread (option_map heading_in (slice_get (entries_in d 0 s.entries) 0)) (slice_get (numbers_in d 0 s.entries) 0)) 0 hs) None))
      (headings_same before s)

  pub directive_after : (n : ℕ) → IsFirst d n
      → comes_after (option_or s.under_way (Some (length s.entries))) (slice_get (numbers_in d 0 s.entries) 0)
      ≡ comes_after s.under_way (slice_get (numbers_in d 0 s.entries) 0)
  directive_after n is = by s.under_way
    where
      number : slice_get (numbers_in d 0 s.entries) 0 ≡ Some n
      number = first_is d 0 s.entries n is.has (omega arith) (let less = below n is.has in omega (less, arith)) is.least

      by : (o : Option ℕ) → comes_after (option_or o (Some (length s.entries))) (slice_get (numbers_in d 0 s.entries) 0)
          ≡ comes_after o (slice_get (numbers_in d 0 s.entries) 0)
      by None = ap (comes_after (Some (length s.entries))) number ∙ lt-leb (length s.entries) n (below n is.has)
      by (Some k) = refl
