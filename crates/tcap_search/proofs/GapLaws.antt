-- First fates, from the gap after the last entry of each end in each transaction, and the gap after the last reply so
-- far.
use Rattle.std.proofs.Common.{◌≡◌, ℕ, zero, suc, ◌+◌, ◌<◌, ◌≤◌, max, ◌==◌, Bool, true, false, cond, List, [], ◌∷◌, ◌++◌, take, Option, Some, None, refl, sym, ap, subst, ◌∙◌, arith}
use Rattle.std.specs.Option.{option_or}
use Rattle.std.specs.Prelude.{◌&&◌, nat_lt, option_map}
use Rattle.std.proofs.lemmas.Bool.{le-ltb, lt-ltb, ltb-false, ltb-true}
use Rattle.std.proofs.lemmas.Option.{none-some, same_Some}
use Rattle.tcap_msg.specs.declared.message.Message.{Message}
use Rattle.tcap_msg.specs.declared.message.Message.TheVariants.{Unidirectional, Begin, Continue, End, Abort}
use Rattle.tcap_record.specs.declared.entry.End.{End as Side}
use Rattle.tcap_record.specs.Ends.{other, is_entry_of}
use Rattle.tcap_model.specs.Run.{only_if}
use Rattle.tcap_certificate.specs.declared.certificate.Fate.TheVariants.{Gap}
use Rattle.tcap_search.specs.declared.tie.Tie.{Tie}
use Rattle.tcap_search.specs.SegmentEntries.{Line, is_of_peer, last, message_of, share_transaction}
use Rattle.tcap_search.specs.ProposedCertificate.{fate_by, fate_of, first_gap, first_gap_by, gap_after, gap_after_reply, holds_back, last_of_receiver, raised, reply_of}
use Rattle.tcap_search.specs.Fates.{earliest, fate_from, gap_after_last, gap_after_line, highest, holds_back_in, is_line_of, is_of, untied_fate}
use Rattle.tcap_search.proofs.LatestLaws.{last_never, last_same}
use Rattle.tcap_search.proofs.LineLaws.{last_push, AreNumbered}
use Rattle.tcap_search.proofs.TestLaws.{of_peer, of_peer_none, one_end, one_end_none, and_and, and_false, and_swap}

-- ---- ends and transactions

-- A line of this end in the transaction of x.
pub of_both : (side : Side) (t : ℕ) (x y : Line) → x.transaction ≡ Some t
    → (is_entry_of side y.entry.side && share_transaction x y) ≡ is_line_of side t y
of_both side t x y is = by y.transaction refl
  where
    by : (o : Option ℕ) → y.transaction ≡ o
        → (is_entry_of side y.entry.side && share_transaction x y) ≡ is_of side t y.entry o
    by None at = rw (is, at) (and_false (is_entry_of side y.entry.side))
    by (Some u) at = rw (is, at) refl

-- A line without transaction shares none.
pub shares_none : (x y : Line) → x.transaction ≡ None → share_transaction x y ≡ false
shares_none x y is = rw is refl

-- ---- the last later line

-- The last of lines numbered from n has at least this number.
last_number : (n : ℕ) (lines : List Line) (passes : Line → Bool) (x : Line) → AreNumbered n lines
    → last passes lines ≡ Some x → n ≤ x.number
last_number n [] passes x are is = absurd (none-some x is)
last_number n (y ∷ lines) passes x are is =
    by (last passes lines) (last_number (n + 1) lines passes x are.1) (passes y) is
  where
    by : (o : Option Line) → (o ≡ Some x → n + 1 ≤ x.number) → (b : Bool) → option_or o (only_if b (Some y)) ≡ Some x
        → n ≤ x.number
    by None later false found = absurd (none-some x found)
    by None later true found = subst (λ (z : Line). n ≤ z.number) (same_Some y x found) (omega (arith, are.0))
    by (Some z) later b found = let more = later found in omega (arith, more)

-- the line, if it is later than this number
abbrev if_later : ℕ → Option Line → Option Line
if_later k None = None
if_later k (Some x) = only_if (nat_lt k x.number) (Some x)

-- The last later line that passes is the last that passes, if it is later.
last_later : (k n : ℕ) (lines : List Line) (passes : Line → Bool) → AreNumbered n lines
    → last (λ y. nat_lt k y.number && passes y) lines ≡ if_later k (last passes lines)
last_later k n [] passes are = refl
last_later k n (x ∷ lines) passes are = by (last passes lines) refl (last_later k (n + 1) lines passes are.1)
  where
    alone : (b : Bool) → only_if (nat_lt k x.number && b) (Some x) ≡ if_later k (only_if b (Some x))
    alone true = by_test (nat_lt k x.number)
      where
        by_test : (c : Bool) → only_if (c && true) (Some x) ≡ only_if c (Some x)
        by_test true = refl
        by_test false = refl
    alone false = ap (λ (c : Bool). only_if c (Some x)) (and_false (nat_lt k x.number))

    behind : (z : Line) → n < z.number → (b c : Bool) → nat_lt k z.number ≡ b
        → option_or (only_if b (Some z)) (only_if (nat_lt k x.number && c) (Some x)) ≡ only_if b (Some z)
    behind z after true c test = refl
    behind z after false c test =
        let none : nat_lt k x.number ≡ false = le-ltb k x.number (omega (arith, are.0, ltb-false k z.number test)) in
        ap (λ (b : Bool). only_if (b && c) (Some x)) none

    by : (o : Option Line) → last passes lines ≡ o
        → last (λ y. nat_lt k y.number && passes y) lines ≡ if_later k o
        → option_or (last (λ y. nat_lt k y.number && passes y) lines) (only_if (nat_lt k x.number && passes x) (Some x))
        ≡ if_later k (option_or o (only_if (passes x) (Some x)))
    by None at is = rw is (alone (passes x))
    by (Some z) at is =
        let after : n + 1 ≤ z.number = last_number (n + 1) lines passes z are.1 at in
        rw is (behind z (omega arith) (nat_lt k z.number) (passes x) refl)

-- The gap after it, or after x, is the greater of both.
gap_is : (x : Line) (o : Option Line) → gap_after x (if_later x.number o) ≡ max (x.number + 1) (gap_after_line o)
gap_is x None = omega arith
gap_is x (Some y) = by (nat_lt x.number y.number) refl
  where
    by : (b : Bool) → nat_lt x.number y.number ≡ b
        → gap_after x (only_if b (Some y)) ≡ max (x.number + 1) (y.number + 1)
    by true test = omega (arith, ltb-true x.number y.number test)
    by false test = omega (arith, ltb-false x.number y.number test)

abbrev pub gap_of_receiver : Option Side → List Line → Option Side → Option ℕ → ℕ
gap_of_receiver judged lines (Some side) (Some t) = gap_after_last judged (other side) t lines
gap_of_receiver judged lines _ _ = 0

-- The same for the last later line of the receiver in the transaction.
pub receiver_gap_is : (judged : Option Side) (lines : List Line) (x : Line) → AreNumbered 0 lines
    → gap_after x (last_of_receiver judged lines x)
    ≡ max (x.number + 1) (gap_of_receiver judged lines x.entry.side x.transaction)
receiver_gap_is judged lines x are =
    ap (gap_after x) later ∙ gap_is x (last passes lines)
    ∙ ap (λ (n : ℕ). max (x.number + 1) n) (by x.entry.side refl x.transaction refl)
  where
    holds : Line → Bool
    holds y = holds_back judged (message_of y.entry)

    passes : Line → Bool
    passes y = is_of_peer x.entry y.entry && share_transaction x y && holds y

    later : last_of_receiver judged lines x ≡ if_later x.number (last passes lines)
    later = last_same
        (λ y. nat_lt x.number y.number && is_of_peer x.entry y.entry && share_transaction x y && holds y)
        (λ y. nat_lt x.number y.number && passes y)
        (λ y. ap (λ (b : Bool). b && holds y)
        (and_and (nat_lt x.number y.number) (is_of_peer x.entry y.entry) (share_transaction x y))
        ∙ and_and (nat_lt x.number y.number) (is_of_peer x.entry y.entry && share_transaction x y) (holds y)) lines
        ∙ last_later x.number 0 lines passes are

    none : ((y : Line) → passes y ≡ false) → gap_after_line (last passes lines) ≡ 0
    none never = ap gap_after_line (last_never passes lines never)

    by : (s : Option Side) → x.entry.side ≡ s → (o : Option ℕ) → x.transaction ≡ o
        → gap_after_line (last passes lines) ≡ gap_of_receiver judged lines s o
    by None at o is = none (λ y. ap (λ (b : Bool). b && share_transaction x y && holds y)
        (of_peer_none x.entry y.entry at))
    by (Some side) at None is = none (λ y. ap (λ (b : Bool). b && holds y)
        (ap (λ (b : Bool). is_of_peer x.entry y.entry && b) (shares_none x y is)
        ∙ and_false (is_of_peer x.entry y.entry)))
    by (Some side) at (Some t) is = ap gap_after_line (last_same passes (holds_back_in judged (other side) t)
        (λ y. ap (λ (b : Bool). b && holds y)
        (ap (λ (b : Bool). b && share_transaction x y) (of_peer x.entry y.entry side at)
        ∙ of_both (other side) t x y is)
        ∙ and_swap (is_line_of (other side) t y) (holds y))
        lines)

-- ---- raised gaps

raise_step : (b : Bool) (gap reply high : ℕ)
    → max (cond b (max gap reply) gap) high ≡ max gap (max (cond b reply 0) high)
raise_step true gap reply high = omega arith
raise_step false gap reply high = omega arith

abbrev pub gap_so_far : List Line → List Tie → Option Side → ℕ
gap_so_far lines ties None = 0
gap_so_far lines ties (Some side) = highest side lines ties

-- Later lines do not raise the gap of x.
raised_late : (n : ℕ) (lines : List Line) (ties : List Tie) (x : Line) (gap : ℕ) → AreNumbered n lines → x.number ≤ n
    → raised lines ties x gap ≡ gap
raised_late n [] ties x gap are after = refl
raised_late n (y ∷ lines) ties x gap are after =
    let not_before : nat_lt y.number x.number ≡ false = le-ltb y.number x.number (omega (arith, are.0)) in
    rw not_before (raised_late (n + 1) lines ties x gap are.1 (omega arith))

-- Each earlier line of its end raises it.
raised_of : (side : Side) (n : ℕ) (lines : List Line) (ties : List Tie) (x : Line) (i gap : ℕ)
    → x.entry.side ≡ Some side
    → AreNumbered n lines → x.number ≡ n + i → raised lines ties x gap ≡ max gap (highest side (take i lines) ties)
raised_of side n [] ties x zero gap at are is = omega arith
raised_of side n [] ties x (suc i) gap at are is = omega arith
raised_of side n (y ∷ lines) ties x zero gap at are is =
    raised_late n (y ∷ lines) ties x gap are (omega arith) ∙ omega arith
raised_of side n (y ∷ lines) ties x (suc i) gap at are is =
    let before : nat_lt y.number x.number ≡ true = lt-ltb y.number x.number (omega (arith, are.0)) in
    let reply = gap_after_reply (reply_of ties y.number) in
    rw (before, one_end x.entry y.entry side at)
    (raised_of side (n + 1) lines ties x i (cond (is_entry_of side y.entry.side) (max gap reply) gap) at are.1 (omega arith)
    ∙ raise_step (is_entry_of side y.entry.side) gap reply (highest side (take i lines) ties))

raised_none : (lines : List Line) (ties : List Tie) (x : Line) (gap : ℕ) → x.entry.side ≡ None
    → raised lines ties x gap ≡ gap
raised_none [] ties x gap at = refl
raised_none (y ∷ lines) ties x gap at =
    rw (one_end_none x.entry y.entry at, and_false (nat_lt y.number x.number)) (raised_none lines ties x gap at)

raised_is : (lines : List Line) (ties : List Tie) (x : Line) (gap : ℕ) → AreNumbered 0 lines
    → raised lines ties x gap ≡ max gap (gap_so_far (take x.number lines) ties x.entry.side)
raised_is lines ties x gap are = by x.entry.side refl
  where
    by : (s : Option Side) → x.entry.side ≡ s
        → raised lines ties x gap ≡ max gap (gap_so_far (take x.number lines) ties s)
    by None at = raised_none lines ties x gap at ∙ omega arith
    by (Some side) at = raised_of side 0 lines ties x x.number gap at are (omega arith)

-- ---- first fates

earliest_is : (judged : Option Side) (lines : List Line) (x : Line) (m : Message) → AreNumbered 0 lines
    → first_gap_by judged lines x (Some m)
    ≡ earliest x.number m (gap_of_receiver judged lines x.entry.side x.transaction)
earliest_is judged lines x (Unidirectional dialogue components) are = refl
earliest_is judged lines x (Begin otid dialogue components) are = refl
earliest_is judged lines x (Continue otid dtid dialogue components) are = refl
earliest_is judged lines x (End dtid dialogue components) are = receiver_gap_is judged lines x are
earliest_is judged lines x (Abort dtid reason) are = receiver_gap_is judged lines x are

-- The first fate of a line is given by the gaps kept.
pub fate_is : (judged : Option Side) (lines : List Line) (ties : List Tie) (x : Line) → AreNumbered 0 lines
    → fate_of judged lines ties x
    ≡ fate_from x.number x.entry (reply_of ties x.number) (gap_of_receiver judged lines x.entry.side x.transaction)
    (gap_so_far (take x.number lines) ties x.entry.side)
fate_is judged lines ties x are = by (reply_of ties x.number) (message_of x.entry) refl
  where
    behind : ℕ
    behind = gap_of_receiver judged lines x.entry.side x.transaction

    high : ℕ
    high = gap_so_far (take x.number lines) ties x.entry.side

    untied : (m : Option Message) → message_of x.entry ≡ m
        → fate_by judged lines ties x None m ≡ untied_fate x.number m behind high
    untied None at = refl
    untied (Some m) at = ap Gap (raised_is lines ties x (first_gap judged lines x) are
        ∙ ap (λ (gap : ℕ). max gap high) (ap (first_gap_by judged lines x) at ∙ earliest_is judged lines x m are))

    by : (o : Option ℕ) (m : Option Message) → message_of x.entry ≡ m
        → fate_by judged lines ties x o m ≡ fate_from x.number x.entry o behind high
    by (Some reply) m at = refl
    by None m at = untied m at ∙ ap (λ (m : Option Message). untied_fate x.number m behind high) (sym at)

-- ---- one more line

-- the highest gap, with one more line
pub highest_more : (side : Side) (lines : List Line) (x : Line) (ties : List Tie)
    → highest side (lines ++ x ∷ []) ties
    ≡ cond (is_entry_of side x.entry.side) (max (highest side lines ties) (gap_after_reply (reply_of ties x.number)))
    (highest side lines ties)
highest_more side [] x ties = by (is_entry_of side x.entry.side)
  where
    by : (b : Bool) → max (cond b (gap_after_reply (reply_of ties x.number)) 0) 0
        ≡ cond b (max 0 (gap_after_reply (reply_of ties x.number))) 0
    by true = omega arith
    by false = omega arith
highest_more side (y ∷ lines) x ties =
    ap (λ (n : ℕ). max (cond (is_entry_of side y.entry.side) (gap_after_reply (reply_of ties y.number)) 0) n)
    (highest_more side lines x ties)
    ∙ by (is_entry_of side x.entry.side) (cond (is_entry_of side y.entry.side) (gap_after_reply (reply_of ties y.number)) 0)
    (highest side lines ties) (gap_after_reply (reply_of ties x.number))
  where
    by : (b : Bool) (first high reply : ℕ)
        → max first (cond b (max high reply) high) ≡ cond b (max (max first high) reply) (max first high)
    by true first high reply = omega arith
    by false first high reply = refl

-- the gap after the last, with one more line
pub gap_more : (judged : Option Side) (side : Side) (t : ℕ) (lines : List Line) (x : Line)
    → gap_after_last judged side t (lines ++ x ∷ [])
    ≡ cond (holds_back_in judged side t x) (x.number + 1) (gap_after_last judged side t lines)
gap_more judged side t lines x =
    ap gap_after_line (last_push (holds_back_in judged side t) lines x) ∙ by (holds_back_in judged side t x)
  where
    by : (b : Bool) → gap_after_line (cond b (Some x) (last (holds_back_in judged side t) lines))
        ≡ cond b (x.number + 1) (gap_after_last judged side t lines)
    by true = refl
    by false = refl

-- ---- replies

-- the reply, with one more tie
pub reply_more : (ties : List Tie) (t : Tie) (number : ℕ)
    → reply_of (ties ++ t ∷ []) number ≡ cond (t.entry == number) (Some t.reply) (reply_of ties number)
reply_more ties t number = ap (option_map (λ (t : Tie). t.reply)) (last_push (λ t. t.entry == number) ties t)
    ∙ by (t.entry == number)
  where
    by : (b : Bool) → option_map (λ (t : Tie). t.reply) (cond b (Some t) (last (λ t. t.entry == number) ties))
        ≡ cond b (Some t.reply) (reply_of ties number)
    by true = refl
    by false = refl
