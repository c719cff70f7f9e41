-- Laws of the kinds of a row's places, and of chains.
use Rattle.std.proofs.Common.{◌≡◌, ◌≢◌, ◌⊎◌, inl, inr, ℕ, zero, suc, ◌+◌, ◌<◌, ◌≤◌, Bool, true, false, List, [], ◌∷◌, ◌++◌, Option, Some, None, length, take, refl, sym, ap, ◌∙◌, arith, get_or, set}
use Rattle.std.proofs.lemmas.Bool.{cases_eq}
use Rattle.std.proofs.lemmas.Bool.Decides.{nat_tests}
use Rattle.std.proofs.lemmas.Grind.{get_or-set_at}
use Rattle.std.proofs.lemmas.List.{get_or-set_other}
use Rattle.std.proofs.lemmas.Option.{none-some}
use Rattle.std.specs.Prelude.{◌==◌, cond}
use Rattle.std.specs.List.{slice_get}
use Rattle.tcap_lists.specs.declared.chains.Mark.{Mark}
use Rattle.tcap_lists.specs.Chains.{AreBefore, AreEnds, AreMarked, kinds_in}
use Rattle.tcap_lists.specs.Row.{is_wanted, kind_at}
use Rattle.tcap_lists.proofs.ItemLaws.{get_front}

-- ---- the kinds of marks

pub kind_got : (marks : List Mark) (n : ℕ) (mark : Mark) → slice_get marks n ≡ Some mark → slice_get (kinds_in marks) n ≡ Some mark.kind
kind_got [] n mark e = absurd (none-some mark e)
kind_got (first ∷ marks) zero mark e = let same : first ≡ mark = cc in rw same refl
kind_got (first ∷ marks) (suc n) mark e = kind_got marks n mark e

pub mark_got : (marks : List Mark) (n kind : ℕ) → slice_get (kinds_in marks) n ≡ Some kind
    → (mark : Mark) × (slice_get marks n ≡ Some mark) × (mark.kind ≡ kind)
mark_got [] n kind e = absurd (none-some kind e)
mark_got (first ∷ marks) zero kind e = let same : first.kind ≡ kind = cc in (first, refl, same)
mark_got (first ∷ marks) (suc n) kind e = mark_got marks n kind e

pub kinds_length : (marks : List Mark) → length (kinds_in marks) ≡ length marks
kinds_length [] = refl
kinds_length (mark ∷ marks) = ap suc (kinds_length marks)

pub kinds_append : (marks more : List Mark) → kinds_in (marks ++ more) ≡ kinds_in marks ++ kinds_in more
kinds_append [] more = refl
kinds_append (mark ∷ marks) more = ap (λ kinds. mark.kind ∷ kinds) (kinds_append marks more)

-- An item of a list with one more is in the list, or is the new one.
pub got_more : {A : Type 0} (items : List A) (new item : A) (n : ℕ) → slice_get (items ++ new ∷ []) n ≡ Some item
    → (slice_get items n ≡ Some item) ⊎ ((n ≡ length items) × (item ≡ new))
got_more [] new item zero e = let same : item ≡ new = cc in inr (refl, same)
got_more [] new item (suc n) e = absurd (none-some item e)
got_more (first ∷ items) new item zero e = inl e
got_more (first ∷ items) new item (suc n) e = by (got_more items new item n e)
  where
    by : (slice_get items n ≡ Some item) ⊎ ((n ≡ length items) × (item ≡ new))
        → (slice_get items n ≡ Some item) ⊎ ((suc n ≡ suc (length items)) × (item ≡ new))
    by (inl there) = inl there
    by (inr last) = inr (ap suc last.0, last.1)

pub some_within : {A : Type 0} (items : List A) (n : ℕ) (item : A) → slice_get items n ≡ Some item → n < length items
some_within [] n item e = absurd (none-some item e)
some_within (first ∷ items) zero item e = omega arith
some_within (first ∷ items) (suc n) item e = omega (arith, some_within items n item e)

pub some_front : {A : Type 0} (items more : List A) (n : ℕ) (item : A) → slice_get items n ≡ Some item → slice_get (items ++ more) n ≡ Some item
some_front items more n item e = get_front items more n (some_within items n item e) ∙ e

-- ---- the known kinds of places

-- No place of the kind is between the two.
pub is_next : (marks : List Mark) (at kind to : ℕ) (mark : Mark) → AreBefore marks → slice_get marks to ≡ Some mark → mark.kind ≡ kind
    → mark.before ≤ at + 1 → (n : ℕ) → at < n → n < to → slice_get (kinds_in marks) n ≢ Some kind
is_next marks at kind to mark before is its_kind bound n behind less here =
    let there = mark_got marks n kind here in
    let under = before n to mark there.0 is there.1 less (there.2 ∙ sym its_kind) in
    omega (arith, under, bound, behind)

pub is_under : (marks : List Mark) (ends : List ℕ) (kind : ℕ) → AreEnds marks ends → (at : ℕ) → slice_get (kinds_in marks) at ≡ Some kind
    → at < get_or ends kind 0
is_under marks ends kind ended at here = let there = mark_got marks at kind here in
    rw (there.2) at (ended at there.0 there.1)

-- ---- ends

pub pad_same : (ends : List ℕ) (n : ℕ) → get_or (ends ++ 0 ∷ []) n 0 ≡ get_or ends n 0
pad_same [] zero = refl
pad_same [] (suc n) = refl
pad_same (end ∷ ends) zero = refl
pad_same (end ∷ ends) (suc n) = pad_same ends n

pub padded_ends : (marks : List Mark) (ends other : List ℕ) → ((n : ℕ) → get_or other n 0 ≡ get_or ends n 0) → AreEnds marks ends
    → AreEnds marks other
padded_ends marks ends other same ended = λ at mark is. rw (same mark.kind) (ended at mark is)

-- The end of one kind is set.
pub set_ends : (marks : List Mark) (ends : List ℕ) (kind end : ℕ) → kind < length ends
    → ((at : ℕ) → slice_get (kinds_in marks) at ≡ Some kind → at < end) → AreEnds marks ends → AreEnds marks (set ends kind end)
set_ends marks ends kind end within under ended = λ at mark is. by at mark is (cases_eq mark.kind kind)
  where
    by : (at : ℕ) (mark : Mark) → slice_get marks at ≡ Some mark → (mark.kind ≡ kind) ⊎ (mark.kind ≡ kind → ⊥)
        → at < get_or (set ends kind end) mark.kind 0
    by at mark is (inl same) =
        rw (get_or-set_at ends kind mark.kind end 0 same within) (under at (kind_got marks at mark is ∙ ap Some same))
    by at mark is (inr apart) = rw (get_or-set_other ends kind mark.kind end 0 apart) (ended at mark is)

-- ---- a mark is added

pub more_before : (marks : List Mark) (new : Mark) → AreBefore marks
    → ((at : ℕ) → slice_get (kinds_in marks) at ≡ Some new.kind → at < new.before) → AreBefore (marks ++ new ∷ [])
more_before marks new before under = λ n at mark other is there less same.
    by n at mark other less same (got_more marks new mark at is) (got_more marks new other n there)
  where
    by : (n at : ℕ) (mark other : Mark) → n < at → other.kind ≡ mark.kind
        → (slice_get marks at ≡ Some mark) ⊎ ((at ≡ length marks) × (mark ≡ new))
        → (slice_get marks n ≡ Some other) ⊎ ((n ≡ length marks) × (other ≡ new)) → n < mark.before
    by n at mark other less same (inl is) (inl there) = before n at mark other is there less same
    by n at mark other less same (inl is) (inr last) =
        let below = some_within marks at mark is in absurd (let e = last.0 in omega (arith, less, below, e))
    by n at mark other less same (inr new_one) (inl there) =
        rw (new_one.1) (under n (kind_got marks n other there ∙ ap Some (same ∙ ap (λ (m : Mark). m.kind) new_one.1)))
    by n at mark other less same (inr new_one) (inr last) = absurd (let e = last.0 in let f = new_one.0 in omega (arith, less, e, f))

pub more_ends : (marks : List Mark) (ends : List ℕ) (new : Mark) → AreEnds marks ends → length marks < get_or ends new.kind 0
    → AreEnds (marks ++ new ∷ []) ends
more_ends marks ends new ended under = λ at mark is. by at mark (got_more marks new mark at is)
  where
    by : (at : ℕ) (mark : Mark) → (slice_get marks at ≡ Some mark) ⊎ ((at ≡ length marks) × (mark ≡ new)) → at < get_or ends mark.kind 0
    by at mark (inl is) = ended at mark is
    by at mark (inr last) = rw (last.0, last.1) under

-- Nothing is added if memory runs out.
pub pushed_before : (pushed : Bool) (marks : List Mark) (new : Mark) → AreBefore marks
    → ((at : ℕ) → slice_get (kinds_in marks) at ≡ Some new.kind → at < new.before) → AreBefore (cond pushed (marks ++ new ∷ []) marks)
pushed_before true marks new before under = more_before marks new before under
pushed_before false marks new before under = before

pub pushed_ends : (pushed : Bool) (marks : List Mark) (ends : List ℕ) (new : Mark) → AreEnds marks ends
    → length marks < get_or ends new.kind 0 → AreEnds (cond pushed (marks ++ new ∷ []) marks) ends
pushed_ends true marks ends new ended under = more_ends marks ends new ended under
pushed_ends false marks ends new ended under = ended

pub kind_within : (marks : List Mark) (n kind : ℕ) → slice_get (kinds_in marks) n ≡ Some kind → n < length marks
kind_within marks n kind is = let there = mark_got marks n kind is in some_within marks n there.0 there.1

-- ---- the last mark is removed

pub less_kinds : (marks more : List Mark) (at kind : ℕ) → slice_get (kinds_in marks) at ≡ Some kind
    → slice_get (kinds_in (marks ++ more)) at ≡ Some kind
less_kinds marks more at kind is = rw (kinds_append marks more) (some_front (kinds_in marks) (kinds_in more) at kind is)

-- ---- places and their known kinds

stood_within : (places : List (Option ℕ)) (at kind : ℕ) → kind_at places at ≡ Some kind → at < length places
stood_within [] at kind is = absurd (none-some kind is)
stood_within (place ∷ places) zero kind is = omega arith
stood_within (place ∷ places) (suc at) kind is = omega (arith, stood_within places at kind is)

-- An item is removed.
pub marked_taken : (places : List (Option ℕ)) (kinds : List ℕ) (at : ℕ) → at < length places → AreMarked places kinds
    → AreMarked (set places at None) kinds
marked_taken places kinds at within marked = λ n other known is there. by n other known is there (cases_eq n at)
  where
    by : (n other known : ℕ) → kind_at (set places at None) n ≡ Some other → slice_get kinds n ≡ Some known
        → (n ≡ at) ⊎ (n ≡ at → ⊥) → known ≡ other
    by n other known is there (inl same) =
        absurd (none-some other (sym (get_or-set_at places at n None None same within) ∙ is))
    by n other known is there (inr apart) = marked n other known (sym (get_or-set_other places at n None None apart) ∙ is) there

stood_more : (places : List (Option ℕ)) (n kind : ℕ) → kind_at (places ++ None ∷ []) n ≡ Some kind → kind_at places n ≡ Some kind
stood_more [] zero kind bad = bad
stood_more [] (suc n) kind bad = bad
stood_more (place ∷ places) zero kind is = is
stood_more (place ∷ places) (suc n) kind is = stood_more places n kind is

-- An empty place is appended.
pub marked_grown : (places : List (Option ℕ)) (kinds : List ℕ) → AreMarked places kinds → AreMarked (places ++ None ∷ []) kinds
marked_grown places kinds marked = λ n other known is there. marked n other known (stood_more places n other is) there

-- Nothing is appended if memory runs out.
pub marked_pushed : (pushed : Bool) (places : List (Option ℕ)) (kinds : List ℕ) → AreMarked places kinds
    → AreMarked (cond pushed (places ++ None ∷ []) places) kinds
marked_pushed true places kinds marked = marked_grown places kinds marked
marked_pushed false places kinds marked = marked

stood_less : (places : List (Option ℕ)) (count n kind : ℕ) → kind_at (take count places) n ≡ Some kind → kind_at places n ≡ Some kind
stood_less [] zero n kind bad = bad
stood_less [] (suc count) n kind bad = bad
stood_less (place ∷ places) zero n kind bad = absurd (none-some kind bad)
stood_less (place ∷ places) (suc count) zero kind is = is
stood_less (place ∷ places) (suc count) (suc n) kind is = stood_less places count n kind is

-- The last places are removed, and no other place becomes known.
pub marked_less : (places : List (Option ℕ)) (kinds fewer : List ℕ) (count : ℕ)
    → ((at kind : ℕ) → slice_get fewer at ≡ Some kind → slice_get kinds at ≡ Some kind) → AreMarked places kinds
    → AreMarked (take count places) fewer
marked_less places kinds fewer count so marked = λ n other known is there. marked n other known (stood_less places count n other is) (so n known there)

-- ---- stretches without items of a kind

some_kind : (kinds : List ℕ) (n : ℕ) → n < length kinds → (known : ℕ) × (slice_get kinds n ≡ Some known)
some_kind [] n below = absurd (omega (arith, below))
some_kind (kind ∷ kinds) zero below = (kind, refl)
some_kind (kind ∷ kinds) (suc n) below = some_kind kinds n (omega (arith, below))

equal_kinds : (known kind : ℕ) → (known == kind) ≡ true → known ≡ kind
equal_kinds known kind e = grind (arith, nat_tests)

false_unless : (b : Bool) → (b ≡ true → ⊥) → b ≡ false
false_unless true not = absurd (not refl)
false_unless false not = refl

pub not_wanted : (places : List (Option ℕ)) (kinds : List ℕ) (kind n : ℕ) → AreMarked places kinds → length places ≤ length kinds
    → slice_get kinds n ≢ Some kind → is_wanted (Some kind) (kind_at places n) ≡ false
not_wanted places kinds kind n marked all apart = false_unless (is_wanted (Some kind) (kind_at places n)) (λ want. by (kind_at places n) refl want)
  where
    by : (o : Option ℕ) → kind_at places n ≡ o → is_wanted (Some kind) o ≡ true → ⊥
    by None is bad = let wrong : false ≡ true = bad in cc
    by (Some other) is want =
        let there = some_kind kinds n (omega (arith, all, stood_within places n other is)) in
        apart (there.1 ∙ ap Some (marked n other there.0 is there.1 ∙ equal_kinds other kind want))

-- ---- reading a list

pub got_past : {A : Type 0} (items : List A) (n : ℕ) (d : A) → length items ≤ n → get_or items n d ≡ d
got_past [] n d past = refl
got_past (first ∷ items) zero d past = absurd (omega (arith, past))
got_past (first ∷ items) (suc n) d past = got_past items n d (omega (arith, past))
