-- The last element of a list that passes a test, the last value that a function gives, and the map of the lines so far.
use Rattle.std.proofs.Common.{◌≡◌, Bool, true, false, List, [], ◌∷◌, Option, Some, None, refl, ap, subst, ◌∙◌, ℕ, zero, suc, ◌+◌, ◌≤◌, ◌++◌, take, sym, arith, cond, length, map, get_or, ◌<◌}
use Rattle.std.specs.Option.{option_or}
use Rattle.std.specs.List.{AllByRecursion}
use Rattle.std.proofs.lemmas.Option.{none-some, same_Some}
use Rattle.tcap_model.specs.Run.{only_if, option_then}
use Rattle.tcap_search.specs.SegmentEntries.{last, Line, is_from, line_after, lines_of, message_of, transaction_by, transaction_from}
use Rattle.std.specs.Prelude.{◌&&◌, is_some, nat_lt}
use Rattle.std.proofs.lemmas.Bool.{false≢true, le-ltb, lt-ltb}
use Rattle.tcap_search.specs.Sweep.{last_given}
use Rattle.tcap_search.proofs.LineLaws.{AreNumbered, count_taken, last_none, last_push, lines_more}
use Rattle.std.specs.BTreeMap.{is_at}
use Rattle.std.specs.Map.{lookup}
use Rattle.std.specs.Str.{bytes_eq}
use Rattle.std.proofs.lemmas.List.{map_push}
use Rattle.tcap_msg.specs.declared.message.Message.{Message}
use Rattle.tcap_msg.specs.declared.message.Message.TheVariants.{Unidirectional, Begin, Continue, End as EndMessage, Abort}
use Rattle.tcap_record.specs.declared.entry.End.{End as Side}
use Rattle.tcap_record.specs.declared.entry.End.TheVariants as sides
use Rattle.tcap_record.specs.declared.entry.Entry.{Entry}
use Rattle.tcap_end.specs.Table.{octets_cmp}
use Rattle.tcap_record.specs.Ends.{other, is_entry_of}
use Rattle.tcap_model.specs.World.{is_side}
use Rattle.tcap_search.specs.declared.transactions.Latest.{Latest}
use Rattle.tcap_search.specs.LastEntries.{belongs, belongs_by, latest_of_peer, latest_at, latest_of}
use Rattle.tcap_search.proofs.TestLaws.{same_id}

-- None is a right unit of `option_or`.
pub or_none : {A : Type 0} (o : Option A) → option_or o None ≡ o
or_none None = refl
or_none (Some a) = refl

-- `option_or` is associative.
pub or_or : {A : Type 0} (o p q : Option A) → option_or (option_or o p) q ≡ option_or o (option_or p q)
or_or None p q = refl
or_or (Some a) p q = refl

-- Tests that agree have the same last.
pub last_same : {A : Type 0} (P Q : A → Bool) → ((x : A) → P x ≡ Q x) → (xs : List A) → last P xs ≡ last Q xs
last_same P Q same [] = refl
last_same P Q same (x ∷ xs) =
    ap (λ b. option_or (last P xs) (only_if b (Some x))) (same x)
    ∙ ap (λ o. option_or o (only_if (Q x) (Some x))) (last_same P Q same xs)

-- A property of all elements holds for the last.
pub last_among : {A : Type 0} (P : A → Type 0) (passes : A → Bool) (xs : List A) (x : A)
    → AllByRecursion P xs → last passes xs ≡ Some x → P x
last_among P passes [] x all found = absurd (none-some x found)
last_among {A = A} P passes (a ∷ xs) x all found =
    by (last passes xs) (last_among P passes xs x all.1) (passes a) found
  where
    by : (o : Option A) → (o ≡ Some x → P x) → (b : Bool) → option_or o (only_if b (Some a)) ≡ Some x → P x
    by None more false is = absurd (none-some x is)
    by None more true is = subst P (same_Some a x is) all.0
    by (Some y) more b is = more is

-- The last passes the test.
pub last_passes : {A : Type 0} (passes : A → Bool) (xs : List A) (x : A) → last passes xs ≡ Some x → passes x ≡ true
last_passes passes [] x found = absurd (none-some x found)
last_passes {A = A} passes (a ∷ xs) x found =
    by (last passes xs) (last_passes passes xs x) (passes a) refl found
  where
    by : (o : Option A) → (o ≡ Some x → passes x ≡ true) → (b : Bool) → passes a ≡ b
        → option_or o (only_if b (Some a)) ≡ Some x → passes x ≡ true
    by None more false test is = absurd (none-some x is)
    by None more true test is = subst (λ (y : A). passes y ≡ true) (same_Some a x is) test
    by (Some y) more b test is = more is

-- If no element passes, there is no last.
pub last_never : {A : Type 0} (passes : A → Bool) (xs : List A) → ((x : A) → passes x ≡ false) → last passes xs ≡ None
last_never passes [] never = refl
last_never passes (x ∷ xs) never = rw (last_never passes xs never, never x) refl

-- ---- the last value that a function gives for the elements of a list

-- A further element comes first.
pub given_more : {A B : Type 0} (f : A → Option B) (xs : List A) (x : A)
    → last_given f (xs ++ x ∷ []) ≡ option_or (f x) (last_given f xs)
given_more f [] x = sym (or_none (f x))
given_more f (y ∷ xs) x =
    ap (λ o. option_or o (f y)) (given_more f xs x) ∙ or_or (f x) (last_given f xs) (f y)

-- Equal functions give equal values.
pub given_same : {A B : Type 0} (f g : A → Option B) → ((x : A) → f x ≡ g x)
    → (xs : List A) → last_given f xs ≡ last_given g xs
given_same f g same [] = refl
given_same f g same (x ∷ xs) =
    ap (λ o. option_or o (f x)) (given_same f g same xs) ∙ ap (option_or (last_given g xs)) (same x)

or_some : {B : Type 0} (o p q : Option B) → is_some o ≡ true → o ≡ p → o ≡ option_or p q
or_some None p q some is = absurd (false≢true some)
or_some (Some b) p q some is = rw (← is) refl

-- `last` and then a function, if the function gives a value for each element that passes.
pub given_is : {A B : Type 0} (passes : A → Bool) (f : A → Option B)
    → ((x : A) → passes x ≡ true → is_some (f x) ≡ true)
    → (xs : List A) → option_then (last passes xs) f ≡ last_given (λ x. only_if (passes x) (f x)) xs
given_is passes f gives [] = refl
given_is {A = A} {B = B} passes f gives (x ∷ xs) =
    by (last passes xs) (last_passes passes xs) (given_is passes f gives xs)
  where
    alone : (b : Bool) → option_then (only_if b (Some x)) f ≡ only_if b (f x)
    alone true = refl
    alone false = refl

    by : (o : Option A) → ((y : A) → o ≡ Some y → passes y ≡ true)
        → option_then o f ≡ last_given (λ x. only_if (passes x) (f x)) xs
        → option_then (option_or o (only_if (passes x) (Some x))) f
        ≡ option_or (last_given (λ x. only_if (passes x) (f x)) xs) (only_if (passes x) (f x))
    by None test is = rw (← is) (alone (passes x))
    by (Some y) test is =
        or_some (f y) (last_given (λ x. only_if (passes x) (f x)) xs) (only_if (passes x) (f x))
        (gives y (test y refl)) is

-- ---- earlier lines

never_late : (k n : ℕ) (lines : List Line) (passes : Line → Bool) → AreNumbered n lines → k ≤ n
    → last (λ y. nat_lt y.number k && passes y) lines ≡ None
never_late k n [] passes are past = refl
never_late k n (x ∷ lines) passes are past =
    let late : nat_lt x.number k ≡ false = le-ltb x.number k (omega (arith, are.0)) in
    rw (never_late k (n + 1) lines passes are.1 (omega arith), late) refl

earlier_from : (i k n : ℕ) (lines : List Line) (passes : Line → Bool) → AreNumbered n lines → k ≡ n + i
    → last (λ y. nat_lt y.number k && passes y) lines ≡ last passes (take i lines)
earlier_from zero k n lines passes are is = never_late k n lines passes are (omega arith)
earlier_from (suc i) k n [] passes are is = refl
earlier_from (suc i) k n (x ∷ lines) passes are is =
    let early : nat_lt x.number k ≡ true = lt-ltb x.number k (omega (arith, are.0)) in
    rw (earlier_from i k (n + 1) lines passes are.1 (omega arith), early) refl

-- The last earlier line that passes is the last that passes among the first lines.
pub last_earlier : (k : ℕ) (lines : List Line) (passes : Line → Bool) → AreNumbered 0 lines
    → last (λ y. nat_lt y.number k && passes y) lines ≡ last passes (take k lines)
last_earlier k lines passes are = earlier_from k k 0 lines passes are (omega arith)

-- ---- one more entry in a map

put_in : (transaction : Option ℕ) (b c : Bool) (old new : Option (Option ℕ)) → b ≡ c
    → new ≡ cond b (Some transaction) old → option_then new (λ t. t) ≡ cond c transaction (option_then old (λ t. t))
put_in transaction true true old new same is = ap (λ (o : Option (Option ℕ)). option_then o (λ t. t)) is
put_in transaction false false old new same is = ap (λ (o : Option (Option ℕ)). option_then o (λ t. t)) is
put_in transaction true false old new same is = cc
put_in transaction false true old new same is = cc

-- the transactions of one end, with one more
pub put_is : (side : Side) (id : List ℕ) (transaction : Option ℕ) (old new : Latest)
    → ((key : List ℕ) → lookup (is_at (octets_cmp key)) (latest_of side new)
    ≡ cond (is_at (octets_cmp id) key) (Some transaction) (lookup (is_at (octets_cmp key)) (latest_of side old)))
    → latest_of (other side) new ≡ latest_of (other side) old
    → (at : Side) (key : List ℕ)
    → latest_at at key new ≡ cond (is_side at side && bytes_eq key id) transaction (latest_at at key old)
put_is sides.A id transaction old new put kept sides.A key =
    put_in transaction (is_at (octets_cmp id) key) (bytes_eq key id) (lookup (is_at (octets_cmp key)) old.a.entries)
    (lookup (is_at (octets_cmp key)) new.a.entries) (same_id id key) (put key)
put_is sides.A id transaction old new put kept sides.B key =
    ap (λ (es : List (List ℕ × Option ℕ)). option_then (lookup (is_at (octets_cmp key)) es) (λ t. t)) kept
put_is sides.B id transaction old new put kept sides.A key =
    ap (λ (es : List (List ℕ × Option ℕ)). option_then (lookup (is_at (octets_cmp key)) es) (λ t. t)) kept
put_is sides.B id transaction old new put kept sides.B key =
    put_in transaction (is_at (octets_cmp id) key) (bytes_eq key id) (lookup (is_at (octets_cmp key)) old.b.entries)
    (lookup (is_at (octets_cmp key)) new.b.entries) (same_id id key) (put key)

-- ---- the map

-- the transaction of the last of these lines that is from this end and ID
abbrev last_from : List Line → Side → List ℕ → Option ℕ
last_from lines side id =
    option_then (last (λ f. is_entry_of side f.entry.side && is_from id f.entry) lines) (λ f. f.transaction)

-- The map is that of these lines.
abbrev pub IsLatest : List Line → Latest → Type 0
IsLatest lines latest = (side : Side) (id : List ℕ) → latest_at side id latest ≡ last_from lines side id

-- ---- the transaction of the next entry

asked_is : (lines : List Line) (latest : Latest) → IsLatest lines latest → (e : Entry) (dtid : Option (List ℕ))
    → latest_of_peer e.side dtid latest ≡ transaction_from lines e dtid
asked_is lines latest is e dtid = by e.side dtid
  where
    by : (side : Option Side) (dtid : Option (List ℕ))
        → latest_of_peer side dtid latest ≡ transaction_from lines (record e { side = side }) dtid
    by None None = refl
    by (Some side) None = refl
    by None (Some id) = sym (ap (λ (o : Option Line). option_then o (λ f. f.transaction)) (last_none lines))
    by (Some side) (Some id) = is (other side) id

pub belongs_is : (lines : List Line) (latest : Latest) (number : ℕ) (e : Entry) → IsLatest lines latest
    → length lines ≡ number → belongs number e latest ≡ (line_after lines e).transaction
belongs_is lines latest number e is counted = by (message_of e)
  where
    by : (message : Option Message) → belongs_by number e latest message ≡ transaction_by lines e message
    by None = refl
    by (Some (Unidirectional dialogue components)) = asked_is lines latest is e None
    by (Some (Begin otid dialogue components)) = ap (λ (n : ℕ). Some n) (sym counted)
    by (Some (Continue otid dtid dialogue components)) = asked_is lines latest is e (Some dtid)
    by (Some (EndMessage dtid dialogue components)) = asked_is lines latest is e (Some dtid)
    by (Some (Abort dtid reason)) = asked_is lines latest is e (Some dtid)

-- ---- one more line

chosen : (b : Bool) (x : Line) (o : Option Line)
    → cond b x.transaction (option_then o (λ f. f.transaction)) ≡ option_then (cond b (Some x) o) (λ f. f.transaction)
chosen true x o = refl
chosen false x o = refl

pub latest_more : (lines : List Line) (old new : Latest) (e : Entry) (transaction : Option ℕ) → IsLatest lines old
    → transaction ≡ (line_after lines e).transaction
    → ((side : Side) (id : List ℕ) → latest_at side id new
    ≡ cond (is_entry_of side e.side && is_from id e) transaction (latest_at side id old))
    → IsLatest (lines ++ line_after lines e ∷ []) new
latest_more lines old new e transaction is has noted side id =
    let passes : Line → Bool = λ (f : Line). is_entry_of side f.entry.side && is_from id f.entry in
    let x : Line = line_after lines e in
    noted side id
    ∙ (ap (λ (t : Option ℕ). cond (passes x) t (latest_at side id old)) has
    ∙ (ap (λ (t : Option ℕ). cond (passes x) x.transaction t) (is side id)
    ∙ (chosen (passes x) x (last passes lines)
    ∙ sym (ap (λ (o : Option Line). option_then o (λ f. f.transaction)) (last_push passes lines x)))))

-- ---- the transactions so far

pub record Noted (entries : List Entry) (count : ℕ) (l : Latest) (found : List (Option ℕ)) : Type 0 where
  pub latest : IsLatest (lines_of (take count entries)) l
  pub transactions : found ≡ map (λ x. x.transaction) (lines_of (take count entries))

pub belongs_next : (entries : List Entry) (i : ℕ) (latest : Latest) (transactions : List (Option ℕ)) (e : Entry)
    → i < length entries → Noted entries i latest transactions
    → belongs i e latest ≡ (line_after (lines_of (take i entries)) e).transaction
belongs_next entries i latest transactions e below noted =
    belongs_is (lines_of (take i entries)) latest i e noted.latest (count_taken entries i (omega arith))

pub noted_more : (entries : List Entry) (i : ℕ) (old new : Latest) (transactions : List (Option ℕ)) (e : Entry)
    (transaction : Option ℕ) → i < length entries → e ≡ get_or entries i e → Noted entries i old transactions
    → transaction ≡ belongs i e old
    → ((side : Side) (id : List ℕ) → latest_at side id new
    ≡ cond (is_entry_of side e.side && is_from id e) transaction (latest_at side id old))
    → Noted entries (i + 1) new (transactions ++ transaction ∷ [])
noted_more entries i old new transactions e transaction below is noted has says = record {
  latest = rw (lines_more entries i e below is)
      (latest_more lines old new e transaction noted.latest whose says);
  transactions =
      rw (lines_more entries i e below is) (ap (λ (ts : List (Option ℕ)). ts ++ transaction ∷ []) noted.transactions
      ∙ (ap (λ (t : Option ℕ). map (λ (x : Line). x.transaction) lines ++ t ∷ []) whose
      ∙ sym (map_push (λ (x : Line). x.transaction) lines (line_after lines e))));
}
  where
    lines : List Line
    lines = lines_of (take i entries)

    whose : transaction ≡ (line_after (lines_of (take i entries)) e).transaction
    whose = has ∙ belongs_next entries i old transactions e below noted
