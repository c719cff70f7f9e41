-- A quiet mark before which the open halves close: if each may close, none is left and the mark is possible.
use Rattle.std.proofs.Common.{◌≡◌, ℕ, suc, ◌+◌, Bool, true, false, cond, List, [], ◌∷◌, ◌++◌, Option, Some, None, Result, Ok, Err, length, refl, sym, ap, ap₂, subst, ◌∙◌, arith, add-one}
use Rattle.std.specs.Prelude.{map, option_map}
use Rattle.std.specs.declared.cmp.Ordering.{Ordering}
use Rattle.std.specs.declared.cmp.Ordering.TheVariants.{Less, Equal, Greater}
use Rattle.std.specs.BTreeMap.{insert_entry}
use Rattle.std.specs.List.Sorted.{IsStrictlySortedBy}
use Rattle.std.specs.Ordering.{match_ordering}
use Rattle.std.proofs.lemmas.Cmp.{tied_itself}
use Rattle.std.proofs.lemmas.List.{length-map, map-append}
use Rattle.tcap_end.specs.declared.fault.EndFault.{EndFault}
use Rattle.tcap_end.specs.declared.fault.EndFault.TheVariants as faults
use Rattle.tcap_end.specs.declared.half.HalfName.{HalfName}
use Rattle.tcap_end.specs.declared.half.Slot.{Slot}
use Rattle.tcap_end.specs.declared.half.Slot.TheVariants.{Begun, Accepted}
use Rattle.tcap_end.specs.Table.{Table, octets_cmp}
use Rattle.tcap_end.specs.Half.{Half, closed_half, is_closed}
use Rattle.tcap_end.specs.End.{End, KeyedHalf, all_closed, named, nothing, put, quiet}
use Rattle.tcap_end.specs.Step.{◌>>=◌}
use Rattle.tcap_end.specs.HiddenSteps.{close_each, may_close, open_halves, open_names, quiet_after_closings}
use Rattle.tcap_end.specs.Halves.{closing, keyed_half, name_in}
use Rattle.tcap_end.specs.ReachableEnd.{HasHalf, IsEnd, Rises}
use Rattle.tcap_lists.proofs.MapLaws.{behind_first, below_first, found_first, found_later}
use Rattle.tcap_end.proofs.FoundLaws.{half_at, octets_total}
use Rattle.tcap_end.proofs.FindLaws.{id_finds, is_its}
use Rattle.tcap_end.proofs.HiddenLaws.{half_closes, stays_open}
use Rattle.tcap_lists.proofs.PlaceLaws.{shifted}
use Rattle.tcap_end.proofs.StepLaws.{closes}

-- ---- open halves

-- the open halves of a list
abbrev open_of : Slot → List (List ℕ × Half) → List KeyedHalf
open_of slot [] = []
open_of slot ((key, half) ∷ es) =
    cond (is_closed half.phase) (open_of slot es) (keyed_half slot key half ∷ open_of slot es)

abbrev all_open : End → List KeyedHalf
all_open e = open_of Begun e.begun ++ open_of Accepted e.accepted

-- the name of a half by the ID by which it is kept
abbrev name_of : KeyedHalf → HalfName
name_of f = name_in f.slot f.key

names_are : (slot : Slot) (es : List (List ℕ × Half)) → open_names (name_in slot) es ≡ map name_of (open_of slot es)
names_are slot [] = refl
names_are slot ((key, half) ∷ es) = by (is_closed half.phase) (names_are slot es)
  where
    by : (b : Bool) → open_names (name_in slot) es ≡ map name_of (open_of slot es)
        → cond b (open_names (name_in slot) es) (name_in slot key ∷ open_names (name_in slot) es)
        ≡ map name_of (cond b (open_of slot es) (keyed_half slot key half ∷ open_of slot es))
    by true rest = rest
    by false rest = ap (λ ns. name_in slot key ∷ ns) rest

open_are : (e : End) → open_halves e ≡ map name_of (all_open e)
open_are e = ap₂ ◌++◌ (names_are Begun e.begun) (names_are Accepted e.accepted)
    ∙ sym (map-append name_of (open_of Begun e.begun) (open_of Accepted e.accepted))

-- A half is found by its name.
named_is : (e : End) (f : KeyedHalf) → IsEnd e → HasHalf e f → named e (name_of f) ≡ Some f
named_is e f sound had =
    let finds = id_finds f.slot e f.key sound in
    let it = finds.one f had (is_its f.slot f.key f.half (sound.kept f had)) in
    let there = (finds.had (keyed_half f.slot f.key it.0) it.1).0 in
    let same : it.0 ≡ f.half = cc in
    it.1 ∙ ap (λ (h : Half). Some (keyed_half f.slot f.key h)) same

-- ---- the first open half closes

-- A key that is found after the first is above it.
above_first : (q : List ℕ) (e : List ℕ × Half) (es : List (List ℕ × Half)) (h : Half) → Rises octets_cmp (e ∷ es)
    → half_at es q ≡ Some h → octets_cmp q e.0 ≡ Greater
above_first q e es h rises found = by (octets_cmp q e.0) refl
  where
    by : (r : Ordering) → octets_cmp q e.0 ≡ r → octets_cmp q e.0 ≡ Greater
    by Less is = below_first octets_total q e es h rises is found
    by Equal is = let apart = behind_first octets_total q e es h rises found in let same = rw is at apart in cc
    by Greater is = is

-- The half is the first open one of a list; closing it leaves the others open.
record IsFirst (slot : Slot) (es : List (List ℕ × Half)) (f : KeyedHalf) (more : List KeyedHalf) : Type 0 where
  at : f.slot ≡ slot
  found : half_at es f.key ≡ Some f.half
  left : open_of slot (insert_entry octets_cmp es f.key (closed_half f.half)) ≡ more

is_first : (slot : Slot) (es : List (List ℕ × Half)) (f : KeyedHalf) (more : List KeyedHalf) → Rises octets_cmp es
    → open_of slot es ≡ f ∷ more → IsFirst slot es f more
unfolding IsStrictlySortedBy
is_first slot [] f more rises is = cc
is_first slot ((key, half) ∷ es) f more rises is = by (is_closed half.phase) refl is (is_first slot es f more rises.1)
  where
    put_at : List ℕ → Half → Ordering → List KeyedHalf
    put_at q h r = open_of slot
        (match_ordering r ((q, h) ∷ (key, half) ∷ es) ((key, h) ∷ es) ((key, half) ∷ insert_entry octets_cmp es q h))

    by : (b : Bool) → is_closed half.phase ≡ b
        → cond b (open_of slot es) (keyed_half slot key half ∷ open_of slot es) ≡ f ∷ more
        → (open_of slot es ≡ f ∷ more → IsFirst slot es f more) → IsFirst slot ((key, half) ∷ es) f more
    by true shut is rest = let later = rest is in record {
      at = later.at;
      found = found_later octets_total (key, half) es f.key f.half rises later.found;
      left = ap (put_at f.key (closed_half f.half)) (above_first f.key (key, half) es f.half rises later.found)
          ∙ ap (λ b. cond b (open_of slot (insert_entry octets_cmp es f.key (closed_half f.half)))
          (keyed_half slot key half ∷ open_of slot (insert_entry octets_cmp es f.key (closed_half f.half)))) shut
          ∙ later.left;
    }
    by false is_open is rest =
        let first : keyed_half slot key half ≡ f = cc in
        let others : open_of slot es ≡ more = cc in
        subst (λ (g : KeyedHalf). IsFirst slot ((key, half) ∷ es) g more) first (record {
          at = refl;
          found = found_first octets_total (key, half) es;
          left = ap (put_at key (closed_half half)) (tied_itself octets_total key) ∙ others;
        })

-- The half is the first open one of an end.
record IsFirstOf (e : End) (f : KeyedHalf) (more : List KeyedHalf) : Type 0 where
  had : HasHalf e f
  left : all_open (put e f.slot f.key (closed_half f.half)) ≡ more

first_begun : (e : End) (f : KeyedHalf) (more : List KeyedHalf) → IsFirst Begun e.begun f more
    → IsFirstOf e f (more ++ open_of Accepted e.accepted)
first_begun e f more first = record {
  had = rw (first.at) (first.found);
  left = rw (first.at) (ap (λ fs. fs ++ open_of Accepted e.accepted) first.left);
}

first_accepted : (e : End) (f : KeyedHalf) (more : List KeyedHalf) → open_of Begun e.begun ≡ []
    → IsFirst Accepted e.accepted f more → IsFirstOf e f more
first_accepted e f more none first = record {
  had = rw (first.at) (first.found);
  left = rw (first.at) (ap₂ ◌++◌ none first.left);
}

first_of : (e : End) (f : KeyedHalf) (more : List KeyedHalf) → IsEnd e → all_open e ≡ f ∷ more → IsFirstOf e f more
first_of e f more sound is = by (open_of Begun e.begun) refl is
  where
    by : (fs : List KeyedHalf) → open_of Begun e.begun ≡ fs → fs ++ open_of Accepted e.accepted ≡ f ∷ more
        → IsFirstOf e f more
    by [] none is = first_accepted e f more none (is_first Accepted e.accepted f more sound.accepted is)
    by (g ∷ fs) some is =
        let first : g ≡ f = cc in
        let others : fs ++ open_of Accepted e.accepted ≡ more = cc in
        let found = is_first Begun e.begun f fs sound.begun (some ∙ ap (λ (x : KeyedHalf). x ∷ fs) first) in
        subst (λ (gs : List KeyedHalf). IsFirstOf e f gs) others (first_begun e f fs found)

-- ---- none is open

none_open : (slot : Slot) (es : List (List ℕ × Half)) → open_of slot es ≡ [] → all_closed es ≡ true
none_open slot [] none = refl
none_open slot ((key, half) ∷ es) none = by (is_closed half.phase) none (none_open slot es)
  where
    by : (b : Bool) → cond b (open_of slot es) (keyed_half slot key half ∷ open_of slot es) ≡ []
        → (open_of slot es ≡ [] → all_closed es ≡ true) → cond b (all_closed es) false ≡ true
    by true none rest = rest none
    by false none rest = cc

quiet_none : (e : End) → all_open e ≡ [] → quiet e ≡ Ok nothing
quiet_none e none = by (open_of Begun e.begun) refl none
  where
    by : (fs : List KeyedHalf) → open_of Begun e.begun ≡ fs → fs ++ open_of Accepted e.accepted ≡ []
        → quiet e ≡ Ok nothing
    by [] begun accepted = rw (none_open Begun e.begun begun, none_open Accepted e.accepted accepted) refl
    by (f ∷ fs) begun accepted = cc

-- ---- all open halves close

-- the number of halves, or None if one may not close
abbrev count : Table → List KeyedHalf → Option ℕ
count table [] = Some 0
count table (f ∷ fs) = cond (may_close table f.half.phase) (option_map suc (count table fs)) None

-- the result of a quiet mark, from that number
abbrev Marks : Result End EndFault → Option ℕ → Type 0
Marks answer None = answer ≡ Err faults.CannotClose
Marks answer (Some n) = answer ≡ Ok nothing

marks_next : (answer : Result End EndFault) (o : Option ℕ) → Marks answer o → Marks answer (option_map suc o)
marks_next answer None marks = marks
marks_next answer (Some n) marks = marks

each_closes : (table : Table) (fs : List KeyedHalf) (e : End) → IsEnd e → all_open e ≡ fs
    → Marks (close_each table (map name_of fs) e >>= quiet) (count table fs)
each_closes table [] e sound none = quiet_none e none
each_closes table (f ∷ fs) e sound is = by (may_close table f.half.phase) refl (each_closes table fs next)
  where
    next : End
    next = put e f.slot f.key (closed_half f.half)

    first : IsFirstOf e f fs
    first = first_of e f fs sound is

    found : named e (name_of f) ≡ Some f
    found = named_is e f sound first.had

    goes_on : Result End EndFault → Result End EndFault
    goes_on r = r >>= close_each table (map name_of fs) >>= quiet

    by : (b : Bool) → may_close table f.half.phase ≡ b
        → (IsEnd next → all_open next ≡ fs → Marks (close_each table (map name_of fs) next >>= quiet) (count table fs))
        → Marks (close_each table (name_of f ∷ map name_of fs) e >>= quiet)
        (cond b (option_map suc (count table fs)) None)
    by false may_not rest = ap goes_on (stays_open table e (name_of f) found may_not)
    by true may rest =
        let closed = half_closes table e (name_of f) found may in
        subst (λ (r : Result End EndFault). Marks (goes_on r) (option_map suc (count table fs))) (sym closed)
        (marks_next (goes_on (Ok next)) (count table fs)
        (rest (closes table e next (name_of f) sound closed).sound first.left))

-- ---- the number of open halves

count_is : (table : Table) (slot : Slot) (es : List (List ℕ × Half)) → closing table es ≡ count table (open_of slot es)
count_is table slot [] = refl
count_is table slot ((key, half) ∷ es) = by (is_closed half.phase) (count_is table slot es)
  where
    by : (b : Bool) → closing table es ≡ count table (open_of slot es)
        → cond b (closing table es) (cond (may_close table half.phase) (option_map suc (closing table es)) None)
        ≡ count table (cond b (open_of slot es) (keyed_half slot key half ∷ open_of slot es))
    by true rest = rest
    by false rest = ap (λ o. cond (may_close table half.phase) (option_map suc o) None) rest

-- the sum of two such numbers
abbrev joined : Option ℕ → Option ℕ → Option ℕ
joined None o = None
joined (Some n) o = shifted n o

joined_next : (o p : Option ℕ) → option_map suc (joined o p) ≡ joined (option_map suc o) p
joined_next None p = refl
joined_next (Some n) None = refl
joined_next (Some n) (Some m) = ap Some (omega (arith, add-one n, add-one (n + m)))

count_both : (table : Table) (fs gs : List KeyedHalf) → count table (fs ++ gs) ≡ joined (count table fs) (count table gs)
count_both table [] gs = by (count table gs)
  where
    by : (o : Option ℕ) → o ≡ shifted 0 o
    by None = refl
    by (Some n) = ap Some (omega arith)
count_both table (f ∷ fs) gs = by (may_close table f.half.phase) (count_both table fs gs)
  where
    by : (b : Bool) → count table (fs ++ gs) ≡ joined (count table fs) (count table gs)
        → cond b (option_map suc (count table (fs ++ gs))) None
        ≡ joined (cond b (option_map suc (count table fs)) None) (count table gs)
    by true rest = ap (option_map suc) rest ∙ joined_next (count table fs) (count table gs)
    by false rest = refl

count_length : (table : Table) (fs : List KeyedHalf) (n : ℕ) → count table fs ≡ Some n → n ≡ length fs
count_length table [] n is = cc
count_length table (f ∷ fs) n is = by (may_close table f.half.phase) (count table fs) is (count_length table fs)
  where
    by : (b : Bool) (o : Option ℕ) → cond b (option_map suc o) None ≡ Some n → ((m : ℕ) → o ≡ Some m → m ≡ length fs)
        → n ≡ length (f ∷ fs)
    by true None is rest = cc
    by true (Some m) is rest =
        let same : suc m ≡ n = cc in omega (arith, same, rest m refl, add-one (length fs), add-one m)
    by false o is rest = cc

-- ---- the result of a quiet mark

module _ (table : Table) (e : End) (sound : IsEnd e) where
  counted : joined (closing table e.begun) (closing table e.accepted) ≡ count table (all_open e)
  counted = ap₂ joined (count_is table Begun e.begun) (count_is table Accepted e.accepted)
      ∙ sym (count_both table (open_of Begun e.begun) (open_of Accepted e.accepted))

  marked : (o p : Option ℕ) → o ≡ closing table e.begun → p ≡ closing table e.accepted
      → Marks (quiet_after_closings table e) (joined o p)
  marked o p begun accepted =
      subst (λ (q : Option ℕ). Marks (quiet_after_closings table e) q) (sym (ap₂ joined begun accepted ∙ counted))
      (subst (λ (ns : List HalfName). Marks (close_each table ns e >>= quiet) (count table (all_open e)))
      (sym (open_are e)) (each_closes table (all_open e) e sound refl))

  -- A half whose Begin this end sent may not close.
  pub begun_stays : None ≡ closing table e.begun → quiet_after_closings table e ≡ Err faults.CannotClose
  begun_stays begun = marked None (closing table e.accepted) begun refl

  -- A half whose Begin this end received may not close.
  pub accepted_stays : (n : ℕ) → Some n ≡ closing table e.begun → None ≡ closing table e.accepted
      → quiet_after_closings table e ≡ Err faults.CannotClose
  accepted_stays n begun accepted = marked (Some n) None begun accepted

  -- All halves may close.
  pub all_close : (n m : ℕ) → Some n ≡ closing table e.begun → Some m ≡ closing table e.accepted
      → (quiet_after_closings table e ≡ Ok nothing) × (n + m ≡ length (open_halves e))
  all_close n m begun accepted = (
    marked (Some n) (Some m) begun accepted,
    count_length table (all_open e) (n + m) (sym (ap₂ joined begun accepted ∙ counted))
        ∙ sym (ap length (open_are e) ∙ length-map (all_open e) name_of),
  )
