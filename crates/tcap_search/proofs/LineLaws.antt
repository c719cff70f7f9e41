-- The lines of entries: one for each, in order, numbered from 0, and their transactions.
use Rattle.std.proofs.Common.{◌≡◌, ℕ, zero, suc, ◌+◌, ◌<◌, ◌≤◌, Bool, true, false, cond, List, [], ◌∷◌, ◌++◌, length, take, get_or, reverse, Option, Some, None, refl, sym, ap, ◌∙◌, arith, map, append_assoc}
use Rattle.std.specs.Option.{option_or}
use Rattle.std.specs.Prelude.{IfSome, slice_get, option_map}
use Rattle.std.specs.List.{AllByRecursion}
use Rattle.std.proofs.lemmas.List.{length-take-le, length_push, reverse-append, take_more, length-map, append-nil, get_or-map, map-append}
use Rattle.tcap_msg.specs.declared.message.Message.{Message}
use Rattle.tcap_msg.specs.declared.message.Message.TheVariants.{Unidirectional, Begin, Continue, End as EndMessage, Abort}
use Rattle.tcap_record.specs.declared.entry.Entry.{Entry}
use Rattle.tcap_model.specs.Run.{only_if}
use Rattle.tcap_model.proofs.ListLaws.{all_more}
use Rattle.tcap_search.specs.SegmentEntries.{Line, is_peer_message_from, last, line_after, lines_after, lines_of, message_of, transaction_by, transaction_from}
use Rattle.tcap_search.specs.SegmentLists.{AreTransactions}
use Rattle.std.proofs.lemmas.Option.{get_or_from_slice_get, slice_get-map, slice_get_read, none-some, same_Some}

-- ---- one more entry

pub lines_push : (earlier : List Line) (es : List Entry) (e : Entry)
    → lines_after earlier (es ++ e ∷ []) ≡ lines_after earlier es ++ line_after (lines_after earlier es) e ∷ []
lines_push earlier [] e = refl
lines_push earlier (f ∷ es) e = lines_push (earlier ++ line_after earlier f ∷ []) es e

pub lines_more : (es : List Entry) (i : ℕ) (e : Entry) → i < length es → e ≡ get_or es i e
    → lines_of (take (i + 1) es) ≡ lines_of (take i es) ++ line_after (lines_of (take i es)) e ∷ []
lines_more es i e below is =
    ap lines_of (take_more es i e below)
    ∙ (ap (λ (d : Entry). lines_of (take i es ++ d ∷ [])) (sym is) ∙ lines_push [] (take i es) e)

pub reverse_push : {A : Type 0} (xs : List A) (x : A) → reverse (xs ++ x ∷ []) ≡ x ∷ reverse xs
reverse_push xs x = reverse-append xs (x ∷ [])

-- ---- their number

pub count_behind : (earlier : List Line) (es : List Entry)
    → length (lines_after earlier es) ≡ length earlier + length es
count_behind earlier [] = omega arith
count_behind earlier (e ∷ es) =
    let one : length (earlier ++ line_after earlier e ∷ []) ≡ length earlier + 1 =
    length_push earlier (line_after earlier e) in
    let rest = count_behind (earlier ++ line_after earlier e ∷ []) es in
    omega arith

pub count_lines : (es : List Entry) → length (lines_of es) ≡ length es
count_lines es = let counted = count_behind [] es in omega arith

pub count_taken : (es : List Entry) (i : ℕ) → i ≤ length es → length (lines_of (take i es)) ≡ i
count_taken es i within = count_lines (take i es) ∙ length-take-le i es within

-- ---- the line of an entry

get_push : (xs : List Line) (x : Line) (k : ℕ) → k < length xs → slice_get (xs ++ x ∷ []) k ≡ slice_get xs k
get_push [] x k below = absurd (omega arith)
get_push (y ∷ xs) x zero below = refl
get_push (y ∷ xs) x (suc k) below = get_push xs x k (omega arith)

get_pushed : (xs : List Line) (x : Line) → slice_get (xs ++ x ∷ []) (length xs) ≡ Some x
get_pushed [] x = refl
get_pushed (y ∷ xs) x = get_pushed xs x

kept_line : (earlier : List Line) (es : List Entry) (k : ℕ) → k < length earlier
    → slice_get (lines_after earlier es) k ≡ slice_get earlier k
kept_line earlier [] k below = refl
kept_line earlier (e ∷ es) k below =
    let one : length (earlier ++ line_after earlier e ∷ []) ≡ length earlier + 1 =
    length_push earlier (line_after earlier e) in
    kept_line (earlier ++ line_after earlier e ∷ []) es k (omega arith)
    ∙ get_push earlier (line_after earlier e) k below

line_from : (earlier : List Line) (es : List Entry) (i : ℕ) (e : Entry) → slice_get es i ≡ Some e
    → slice_get (lines_after earlier es) (length earlier + i) ≡ Some (line_after (lines_after earlier (take i es)) e)
line_from earlier [] i e is = cc
line_from earlier (f ∷ es) zero e is =
    let one : length (earlier ++ line_after earlier f ∷ []) ≡ length earlier + 1 =
    length_push earlier (line_after earlier f) in
    let here : length earlier + 0 ≡ length earlier = omega arith in
    let same : f ≡ e = cc in
    ap (slice_get (lines_after (earlier ++ line_after earlier f ∷ []) es)) here
    ∙ (kept_line (earlier ++ line_after earlier f ∷ []) es (length earlier) (omega arith)
    ∙ (get_pushed earlier (line_after earlier f) ∙ ap (λ (d : Entry). Some (line_after earlier d)) same))
line_from earlier (f ∷ es) (suc i) e is =
    let one : length (earlier ++ line_after earlier f ∷ []) ≡ length earlier + 1 =
    length_push earlier (line_after earlier f) in
    let here : length earlier + suc i ≡ length (earlier ++ line_after earlier f ∷ []) + i = omega arith in
    ap (slice_get (lines_after (earlier ++ line_after earlier f ∷ []) es)) here
    ∙ line_from (earlier ++ line_after earlier f ∷ []) es i e is

pub entry_line : (es : List Entry) (i : ℕ) (e : Entry) → slice_get es i ≡ Some e
    → slice_get (lines_of es) i ≡ Some (line_after (lines_of (take i es)) e)
entry_line es i e is =
    let here : i ≡ 0 + i = omega arith in
    ap (slice_get (lines_of es)) here ∙ line_from [] es i e is

-- ---- the last line that passes

pub last_push : {A : Type 0} (passes : A → Bool) (xs : List A) (x : A)
    → last passes (xs ++ x ∷ []) ≡ cond (passes x) (Some x) (last passes xs)
last_push passes [] x = refl
last_push {A} passes (y ∷ xs) x =
    ap (λ (o : Option A). option_or o (only_if (passes y) (Some y))) (last_push passes xs x)
    ∙ by (passes x)
  where
    by : (b : Bool) → option_or (cond b (Some x) (last passes xs)) (only_if (passes y) (Some y))
        ≡ cond b (Some x) (option_or (last passes xs) (only_if (passes y) (Some y)))
    by true = refl
    by false = refl

pub last_none : {A : Type 0} (xs : List A) → last (λ x. false) xs ≡ None
last_none [] = refl
last_none {A} (x ∷ xs) = ap (λ (o : Option A). option_or o None) (last_none xs)

-- A property of all lines holds for the last.
last_holds : {A : Type 0} (P : A → Type 0) (passes : A → Bool) (xs : List A) → AllByRecursion P xs
    → IfSome (last passes xs) P
last_holds P passes [] all = tt
last_holds {A} P passes (x ∷ xs) all = by (last passes xs) (last_holds P passes xs all.1)
  where
    here : (b : Bool) → IfSome (only_if b (Some x)) P
    here true = all.0
    here false = tt

    by : (o : Option A) → IfSome o P → IfSome (option_or o (only_if (passes x) (Some x))) P
    by None later = here (passes x)
    by (Some y) later = later

pub at_holds : {A : Type 0} (P : A → Type 0) (xs : List A) (k : ℕ) (x : A) → AllByRecursion P xs
    → slice_get xs k ≡ Some x → P x
at_holds P [] k x all is = cc
at_holds {A} P (y ∷ xs) zero x all is = let same : y ≡ x = cc in rw (← same) all.0
at_holds P (y ∷ xs) (suc k) x all is = at_holds P xs k x all.1 is

-- ---- transactions are numbers of entries

abbrev IsNumber : ℕ → Option ℕ → Type 0
IsNumber count None = Unit {0}
IsNumber count (Some transaction) = transaction < count

number_after : (count : ℕ) (earlier : List Line) (e : Entry) (message : Option Message) → length earlier < count
    → AllByRecursion (λ x. IsNumber count x.transaction) earlier → IsNumber count (transaction_by earlier e message)
number_after count earlier e message room all = by message
  where
    found : (o : Option Line) → IfSome o (λ x. IsNumber count x.transaction)
        → IsNumber count (elim o as (λ o. Option ℕ) [ None ↦ None | Some x ↦ x.transaction ])
    found None last = tt
    found (Some x) last = last

    from : (dtid : Option (List ℕ)) → IsNumber count (transaction_from earlier e dtid)
    from None = tt
    from (Some id) =
        found (last (λ f. is_peer_message_from e id f.entry) earlier)
        (last_holds (λ (x : Line). IsNumber count x.transaction) (λ f. is_peer_message_from e id f.entry) earlier all)

    by : (message : Option Message) → IsNumber count (transaction_by earlier e message)
    by None = tt
    by (Some (Unidirectional dialogue components)) = tt
    by (Some (Begin otid dialogue components)) = room
    by (Some (Continue otid dtid dialogue components)) = from (Some dtid)
    by (Some (EndMessage dtid dialogue components)) = from (Some dtid)
    by (Some (Abort dtid reason)) = from (Some dtid)

numbers_behind : (count : ℕ) (earlier : List Line) (es : List Entry) → length earlier + length es ≤ count
    → AllByRecursion (λ x. IsNumber count x.transaction) earlier
    → AllByRecursion (λ x. IsNumber count x.transaction) (lines_after earlier es)
numbers_behind count earlier [] room all = all
numbers_behind count earlier (e ∷ es) room all =
    let one : length (earlier ++ line_after earlier e ∷ []) ≡ length earlier + 1 =
    length_push earlier (line_after earlier e) in
    numbers_behind count (earlier ++ line_after earlier e ∷ []) es (omega arith)
    (all_more (λ (x : Line). IsNumber count x.transaction) earlier (line_after earlier e) all
    (number_after count earlier e (message_of e) (omega arith) all))

pub transaction_below : (es : List Entry) (k : ℕ) (x : Line) (transaction : ℕ) → slice_get (lines_of es) k ≡ Some x
    → x.transaction ≡ Some transaction → transaction < length es
transaction_below es k x transaction is has =
    let all = numbers_behind (length es) [] es (omega arith) tt in
    rw has at (at_holds (λ (x : Line). IsNumber (length es) x.transaction) (lines_of es) k x all is)

-- ---- the transactions of entries

pub count_transactions : (entries : List Entry) (transactions : List (Option ℕ)) → AreTransactions entries transactions
    → length transactions ≡ length entries
count_transactions entries transactions are =
    ap (length {A = Option ℕ}) are
    ∙ (length-map (lines_of entries) (λ (x : Line). x.transaction) ∙ count_lines entries)

pub transaction_is : (entries : List Entry) (transactions : List (Option ℕ)) (i : ℕ) (e : Entry)
    → AreTransactions entries transactions → i < length entries → e ≡ get_or entries i e
    → get_or transactions i None ≡ (line_after (lines_of (take i entries)) e).transaction
transaction_is entries transactions i e are below read =
    let there = entry_line entries i e (slice_get_read entries (length entries) i e refl below read) in
    get_or_from_slice_get transactions i (line_after (lines_of (take i entries)) e).transaction None
    (ap (λ (ts : List (Option ℕ)). slice_get ts i) are
    ∙ (slice_get-map (λ (x : Line). x.transaction) (lines_of entries) i
    ∙ ap (option_map (λ (x : Line). x.transaction)) there))

-- ---- entries

-- the entries of the lines
lines_entries : (earlier : List Line) (entries : List Entry)
    → map (λ x. x.entry) (lines_after earlier entries) ≡ map (λ x. x.entry) earlier ++ entries
lines_entries earlier [] = sym (append-nil (map (λ x. x.entry) earlier))
lines_entries earlier (e ∷ entries) =
    lines_entries (earlier ++ line_after earlier e ∷ []) entries
    ∙ ap (λ es. es ++ entries) (map-append (λ x. x.entry) earlier (line_after earlier e ∷ []))
    ∙ append_assoc (map (λ x. x.entry) earlier) (e ∷ []) entries

pub entries_of_lines : (entries : List Entry) → map (λ x. x.entry) (lines_of entries) ≡ entries
entries_of_lines entries = lines_entries [] entries

-- ---- numbers

-- The lines are numbered from n.
abbrev pub AreNumbered : ℕ → List Line → Type 0
AreNumbered n [] = Unit {0}
AreNumbered n (x ∷ lines) = (x.number ≡ n) × AreNumbered (n + 1) lines

numbered_more : (n : ℕ) (lines : List Line) (x : Line) → AreNumbered n lines → x.number ≡ n + length lines
    → AreNumbered n (lines ++ x ∷ [])
numbered_more n [] x are is = (omega arith, tt)
numbered_more n (y ∷ lines) x are is = (are.0, numbered_more (n + 1) lines x are.1 (omega arith))

numbered_behind : (earlier : List Line) (entries : List Entry) → AreNumbered 0 earlier
    → AreNumbered 0 (lines_after earlier entries)
numbered_behind earlier [] are = are
numbered_behind earlier (e ∷ entries) are =
    numbered_behind (earlier ++ line_after earlier e ∷ []) entries
    (numbered_more 0 earlier (line_after earlier e) are (omega arith))

-- The lines of entries are numbered from 0.
pub lines_numbered : (entries : List Entry) → AreNumbered 0 (lines_of entries)
lines_numbered entries = numbered_behind [] entries tt

number_at : (n : ℕ) (lines : List Line) (i : ℕ) (d : Line) → AreNumbered n lines → i < length lines
    → (get_or lines i d).number ≡ n + i
number_at n [] i d are within = absurd (omega arith)
number_at n (x ∷ lines) zero d are within = omega (arith, are.0)
number_at n (x ∷ lines) (suc i) d are within =
    let next : (get_or lines i d).number ≡ (n + 1) + i =
    number_at (n + 1) lines i d are.1 (omega arith) in omega (arith, next)

-- ---- the line at a place

abbrev pub line_at : ℕ → Entry → Option ℕ → Line
line_at number e transaction = record { number = number; entry = e; transaction = transaction }

line_is : (x : Line) (n : ℕ) (e : Entry) (t : Option ℕ) → x.number ≡ n → x.entry ≡ e → x.transaction ≡ t
    → x ≡ line_at n e t
line_is x n e t p q r = λ i. record { number = p i; entry = q i; transaction = r i }

module _ (entries : List Entry) (transactions : List (Option ℕ)) (are : AreTransactions entries transactions)
    (i : ℕ) (within : i < length entries) (e : Entry) (t : Option ℕ)
    (is_entry : e ≡ get_or entries i e) (is_transaction : t ≡ get_or transactions i t) where
  there : Line
  there = get_or (lines_of entries) i (line_at i e t)

  within_lines : i < length (lines_of entries)
  within_lines = let n : length (lines_of entries) ≡ length entries = count_lines entries in omega arith

  -- The line at a place has this number, entry and transaction.
  pub line_there : get_or (lines_of entries) i (line_at i e t) ≡ line_at i e t
  line_there = line_is (get_or (lines_of entries) i (line_at i e t)) i e t
      (number_at 0 (lines_of entries) i (line_at i e t) (lines_numbered entries) within_lines ∙ omega arith)
      (sym (get_or-map (λ x. x.entry) (lines_of entries) i (line_at i e t) e within_lines)
      ∙ ap (λ (es : List Entry). get_or es i e) (entries_of_lines entries) ∙ sym is_entry)
      (sym (get_or-map (λ x. x.transaction) (lines_of entries) i (line_at i e t) t within_lines)
      ∙ ap (λ (ts : List (Option ℕ)). get_or ts i t) (sym are) ∙ sym is_transaction)

  -- One more line.
  pub line_more : take (i + 1) (lines_of entries) ≡ take i (lines_of entries) ++ line_at i e t ∷ []
  line_more = take_more (lines_of entries) i (line_at i e t) within_lines
      ∙ ap (λ (x : Line). take i (lines_of entries) ++ x ∷ []) line_there

-- ---- transactions are numbers of entries

-- Each transaction is the number of an entry.
pub transaction_within : (entries : List Entry) (transactions : List (Option ℕ)) → AreTransactions entries transactions
    → (i t : ℕ) → i < length entries → Some t ≡ get_or transactions i (Some t) → t < length entries
transaction_within entries transactions are i t within is = by (slice_get (lines_of entries) i) refl there
  where
    count : length transactions ≡ length entries
    count = count_transactions entries transactions are

    there : option_map (λ (x : Line). x.transaction) (slice_get (lines_of entries) i) ≡ Some (Some t)
    there = sym (slice_get-map (λ (x : Line). x.transaction) (lines_of entries) i)
        ∙ ap (λ (ts : List (Option ℕ)). slice_get ts i) (sym are)
        ∙ slice_get_read transactions (length transactions) i (Some t) refl (omega (arith, count)) is

    by : (o : Option Line) → slice_get (lines_of entries) i ≡ o
        → option_map (λ (x : Line). x.transaction) o ≡ Some (Some t) → t < length entries
    by None at has = absurd (none-some (Some t) has)
    by (Some x) at has = transaction_below entries i x t at (same_Some x.transaction (Some t) has)
