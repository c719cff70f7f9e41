-- The halves that ties show to have closed, by what ended and what was delivered before, and the list of closings.
use Rattle.std.proofs.Common.{◌≡◌, ℕ, ◌+◌, ◌<◌, ◌≤◌, ◌&&◌, ◌||◌, Bool, true, false, cond, List, length, take, get_or, Option, sym, ap, ◌∙◌, arith, [], ◌∷◌, ◌++◌, Some, None, refl, ◌==◌, not, drop, is_some}
use Rattle.std.specs.Prelude.{nat_lt, nat_le, option_map, slice_get}
use Rattle.std.proofs.lemmas.List.{take_all, length-take-le, take_more, drop_more}
use Rattle.tcap_record.specs.declared.entry.End.{End as Side}
use Rattle.tcap_record.specs.declared.entry.Entry.{Entry}
use Rattle.tcap_record.specs.Ends.{other, is_entry_of}
use Rattle.tcap_search.specs.declared.leasts.Leasts.{Leasts}
use Rattle.tcap_search.specs.LeastNumbers.{HasRoom, is_below, is_transaction, least_at, lesser, is_within}
use Rattle.tcap_search.specs.SegmentEntries.{Line, is_of_peer, line_after, lines_of, message_of, share_transaction, are_of_one_end}
use Rattle.tcap_search.specs.ProposedCertificate.{ends, was_ended, Fated, fated, is_delivered_by, is_end_or_abort, was_end_delivered, closing_by, closings_from, closings_of, is_closing_of, is_continue, with_closing}
use Rattle.tcap_search.specs.ClosedByTie.{KeepsEnded, KeepsDelivered, end_delivery_gap, KeepsListed, both_of, shown_by}
use Rattle.tcap_search.proofs.LineLaws.{count_taken, lines_more, count_lines, entry_line, transaction_below, transaction_is}
use Rattle.tcap_search.proofs.NotedLaws.{any_push, below_lesser, same_tests, shares, test_noted, turned_tests, within_lesser, eqb_turned}
use Rattle.tcap_search.proofs.TestLaws.{of_peer, one_end, and_false, or_false}
use Rattle.std.proofs.lemmas.Option.{cond_some, same_Some, slice_get_past, slice_get_read}
use Rattle.tcap_certificate.specs.declared.certificate.Fate.{Fate}
use Rattle.tcap_certificate.specs.declared.certificate.Fate.TheVariants.{Gap, Lost, By}
use Rattle.std.specs.List.{list_any}
use Rattle.tcap_model.specs.World.{is_side}
use Rattle.tcap_certificate.specs.declared.certificate.Closing.{Closing}
use Rattle.tcap_search.specs.declared.tie.Tie.{Tie}
use Rattle.tcap_search.specs.SegmentLists.{AreTransactions}

-- ---- entries that end transactions

-- the numbers noted for the first entries
pub record Ended (entries : List Entry) (count : ℕ) (l : Leasts) : Type 0 where
  pub room : HasRoom (length entries) l
  pub kept : KeepsEnded (length entries) (lines_of (take count entries)) l

pub ended_all : (entries : List Entry) (count : ℕ) (ended : Leasts) → length entries ≤ count → Ended entries count ended
    → KeepsEnded (length entries) (lines_of entries) ended
ended_all entries count ended all so_far = rw (take_all count entries all) at so_far.kept

module _ (entries : List Entry) (i : ℕ) (old : Leasts) (e : Entry) (below : i < length entries)
    (is : e ≡ get_or entries i e) (so_far : Ended entries i old) where
  -- the line of the next entry
  abbrev next : Line
  next = line_after (lines_of (take i entries)) e

  abbrev was : Line → ℕ → Bool
  was x limit = was_ended (lines_of (take i entries)) x limit

  abbrev ends_it : Line → ℕ → Bool
  ends_it x limit =
      nat_lt next.number limit && is_of_peer x.entry e && share_transaction x next && ends (message_of e)

  ended_next : (x : Line) (limit : ℕ)
      → was_ended (lines_of (take (i + 1) entries)) x limit ≡ (was x limit || ends_it x limit)
  ended_next x limit =
      ap (λ (lines : List Line). was_ended lines x limit) (lines_more entries i e below is)
      ∙ any_push (λ y. nat_lt y.number limit && is_of_peer x.entry y.entry && share_transaction x y
      && ends (message_of y.entry))
      (lines_of (take i entries)) next

  pub ended_other : ends (message_of e) ≡ false → Ended entries (i + 1) old
  ended_other not_ends = record {
    room = so_far.room;
    kept = λ x side transaction limit sent has within.
        let fails : ends_it x limit ≡ false =
        ap (λ (b : Bool). nat_lt next.number limit && is_of_peer x.entry e && share_transaction x next && b) not_ends
        ∙ and_false (nat_lt next.number limit && is_of_peer x.entry e && share_transaction x next) in
        so_far.kept x side transaction limit sent has within
        ∙ sym (ended_next x limit ∙ (ap (λ (b : Bool). was x limit || b) fails ∙ or_false (was x limit)));
  }

  pub ended_more : (new : Leasts) (transaction : Option ℕ) → transaction ≡ next.transaction → ends (message_of e) ≡ true
      → HasRoom (length entries) new
      → ((side : Side) (t : ℕ) → t < length entries → least_at side t new
      ≡ cond (is_entry_of side e.side && is_transaction t transaction) (lesser i (least_at side t old))
      (least_at side t old))
      → Ended entries (i + 1) new
  ended_more new transaction has is_ending room noted = record {
    room = room;
    kept = λ x side t limit sent belongs within.
        let number : nat_lt next.number limit ≡ nat_lt i limit =
        ap (λ (n : ℕ). nat_lt n limit) (count_taken entries i (omega arith)) in
        let first : is_of_peer x.entry e ≡ is_entry_of (other side) e.side = of_peer x.entry e side sent in
        let second : share_transaction x next ≡ is_transaction t transaction =
        shares x next t belongs ∙ ap (is_transaction t) (sym has) in
        let here : ends_it x limit ≡ (nat_lt i limit && is_entry_of (other side) e.side && is_transaction t transaction) =
        same_tests (nat_lt next.number limit) (is_of_peer x.entry e) (share_transaction x next) (ends (message_of e))
        (nat_lt i limit) (is_entry_of (other side) e.side) (is_transaction t transaction) number first second is_ending in
        test_noted (is_below limit) (is_entry_of (other side) e.side) (is_transaction t transaction) (nat_lt i limit)
        (least_at (other side) t new) (least_at (other side) t old) (lesser i (least_at (other side) t old))
        (below_lesser limit i (least_at (other side) t old)) (noted (other side) t within)
        ∙ (ap (λ (b : Bool). b || (nat_lt i limit && is_entry_of (other side) e.side && is_transaction t transaction))
        (so_far.kept x side t limit sent belongs within)
        ∙ sym (ended_next x limit ∙ ap (λ (b : Bool). was x limit || b) here));
  }

-- ---- lines and their fates

fated_push : (lines : List Line) (fates : List Fate) (x : Line) (fate : Fate) → length fates ≡ length lines
    → fated (lines ++ x ∷ []) (fates ++ fate ∷ []) ≡ fated lines fates ++ record { line = x; fate = fate } ∷ []
fated_push [] [] x fate same = refl
fated_push [] (f ∷ fates) x fate same = cc
fated_push (y ∷ lines) [] x fate same = cc
fated_push (y ∷ lines) (f ∷ fates) x fate same =
    ap (λ (more : List Fated). record { line = y; fate = f } ∷ more) (fated_push lines fates x fate (omega arith))

-- ---- Ends and Aborts

pub record Delivered (entries : List Entry) (fates : List Fate) (count : ℕ) (delivered : Leasts) : Type 0 where
  pub room : HasRoom (length entries) delivered
  pub kept : KeepsDelivered (length entries) (fated (lines_of (take count entries)) (take count fates)) delivered

pub delivered_all : (entries : List Entry) (fates : List Fate) (count : ℕ) (delivered : Leasts)
    → length fates ≡ length entries → length entries ≤ count → Delivered entries fates count delivered
    → KeepsDelivered (length entries) (fated (lines_of entries) fates) delivered
delivered_all entries fates count delivered counted all so_far =
    rw (take_all count entries all, take_all count fates (omega arith)) at so_far.kept

module _ (entries : List Entry) (fates : List Fate) (i : ℕ) (old : Leasts) (e : Entry) (other_fate fate : Fate)
    (below : i < length entries) (counted : length fates ≡ length entries) (is : e ≡ get_or entries i e)
    (is_fate : fate ≡ get_or fates i other_fate) (so_far : Delivered entries fates i old) where
  abbrev next_line : Line
  next_line = line_after (lines_of (take i entries)) e

  abbrev fated_so_far : List Fated
  fated_so_far = fated (lines_of (take i entries)) (take i fates)

  abbrev tells_it : Line → ℕ → Bool
  tells_it x limit =
      are_of_one_end x.entry e && share_transaction x next_line && is_end_or_abort (message_of e)
      && is_delivered_by limit fate

  delivered_next : (x : Line) (limit : ℕ)
      → was_end_delivered (fated (lines_of (take (i + 1) entries)) (take (i + 1) fates)) x limit
      ≡ (was_end_delivered fated_so_far x limit || tells_it x limit)
  delivered_next x limit =
      let within : i < length fates = omega arith in
      let fates_more : take (i + 1) fates ≡ take i fates ++ fate ∷ [] =
      take_more fates i other_fate within ∙ ap (λ (f : Fate). take i fates ++ f ∷ []) (sym is_fate) in
      let counts : length (take i fates) ≡ length (lines_of (take i entries)) =
      length-take-le i fates (omega arith) ∙ sym (count_taken entries i (omega arith)) in
      ap (λ (lines : List Line). was_end_delivered (fated lines (take (i + 1) fates)) x limit) (lines_more entries i e below is)
      ∙ (ap (λ (fs : List Fate). was_end_delivered (fated (lines_of (take i entries) ++ next_line ∷ []) fs) x limit) fates_more
      ∙ (ap (λ (all : List Fated). was_end_delivered all x limit)
      (fated_push (lines_of (take i entries)) (take i fates) next_line fate counts)
      ∙ any_push (λ y. are_of_one_end x.entry y.line.entry && share_transaction x y.line
      && is_end_or_abort (message_of y.line.entry) && is_delivered_by limit y.fate) fated_so_far
      (record { line = next_line; fate = fate })))

  delivered_same : ((x : Line) (limit : ℕ) → tells_it x limit ≡ false) → Delivered entries fates (i + 1) old
  delivered_same fails = record {
    room = so_far.room;
    kept = λ x side transaction limit sent has within.
        so_far.kept x side transaction limit sent has within
        ∙ sym (delivered_next x limit
        ∙ (ap (λ (b : Bool). was_end_delivered fated_so_far x limit || b) (fails x limit)
        ∙ or_false (was_end_delivered fated_so_far x limit)));
  }

  pub delivered_other : end_delivery_gap (message_of e) fate ≡ None → Delivered entries fates (i + 1) old
  delivered_other none = delivered_same (λ x limit. by x limit fate none)
    where
      so : (b : Bool) (gap : ℕ) → cond b (Some gap) None ≡ None → b ≡ false
      so true gap none = cc
      so false gap none = refl

      by : (x : Line) (limit : ℕ) (f : Fate) → end_delivery_gap (message_of e) f ≡ None
          → (are_of_one_end x.entry e && share_transaction x next_line && is_end_or_abort (message_of e)
          && is_delivered_by limit f)
          ≡ false
      by x limit (Gap gap) none =
          ap (λ (b : Bool). are_of_one_end x.entry e && share_transaction x next_line && b
          && is_delivered_by limit (Gap gap))
          (so (is_end_or_abort (message_of e)) gap none)
          ∙ ap (λ (b : Bool). b && is_delivered_by limit (Gap gap))
          (and_false (are_of_one_end x.entry e && share_transaction x next_line))
      by x limit Lost none =
          and_false (are_of_one_end x.entry e && share_transaction x next_line && is_end_or_abort (message_of e))
      by x limit (By reply) none =
          and_false (are_of_one_end x.entry e && share_transaction x next_line && is_end_or_abort (message_of e))

  delivered_gap : (gap : ℕ) (f : Fate) → end_delivery_gap (message_of e) f ≡ Some gap
      → (is_end_or_abort (message_of e) ≡ true) × (f ≡ Gap gap)
  delivered_gap gap (Gap g) is = let parts = cond_some (is_end_or_abort (message_of e)) g gap is in (parts.0, ap Gap parts.1)
  delivered_gap gap Lost is = cc
  delivered_gap gap (By reply) is = cc

  pub delivered_more : (new : Leasts) (transaction : Option ℕ) (gap : ℕ) → transaction ≡ next_line.transaction
      → end_delivery_gap (message_of e) fate ≡ Some gap → HasRoom (length entries) new
      → ((side : Side) (t : ℕ) → t < length entries → least_at side t new
      ≡ cond (is_entry_of side e.side && is_transaction t transaction) (lesser gap (least_at side t old))
      (least_at side t old))
      → Delivered entries fates (i + 1) new
  delivered_more new transaction gap has is_delivery room noted = record {
    room = room;
    kept = λ x side t limit sent belongs within.
        let first : are_of_one_end x.entry e ≡ is_entry_of side e.side = one_end x.entry e side sent in
        let second : share_transaction x next_line ≡ is_transaction t transaction =
        shares x next_line t belongs ∙ ap (is_transaction t) (sym has) in
        let parts = delivered_gap gap fate is_delivery in
        let delivered : is_delivered_by limit fate ≡ nat_le gap limit = ap (is_delivered_by limit) parts.1 in
        let here : tells_it x limit ≡ (nat_le gap limit && is_entry_of side e.side && is_transaction t transaction) =
        turned_tests (are_of_one_end x.entry e) (share_transaction x next_line) (is_end_or_abort (message_of e))
        (is_delivered_by limit fate) (is_entry_of side e.side) (is_transaction t transaction) (nat_le gap limit)
        first second parts.0 delivered in
        test_noted (is_within limit) (is_entry_of side e.side) (is_transaction t transaction) (nat_le gap limit)
        (least_at side t new) (least_at side t old) (lesser gap (least_at side t old))
        (within_lesser limit gap (least_at side t old)) (noted side t within)
        ∙ (ap (λ (b : Bool). b || (nat_le gap limit && is_entry_of side e.side && is_transaction t transaction))
        (so_far.kept x side t limit sent belongs within)
        ∙ sym (delivered_next x limit ∙ ap (λ (b : Bool). was_end_delivered fated_so_far x limit || b) here));
  }

-- ---- the half that a tie shows to have closed

abbrev half_shown : List Entry → List Fated → ℕ → ℕ → Option (Side × ℕ)
half_shown entries all k reply = shown_by all (lines_of entries) reply (slice_get (lines_of entries) k)

-- There is no such entry.
pub no_entry : (entries : List Entry) (all : List Fated) (k reply : ℕ) → length entries ≤ k
    → None ≡ half_shown entries all k reply
no_entry entries all k reply past =
    let counted = count_lines entries in
    sym (ap (shown_by all (lines_of entries) reply) (slice_get_past (lines_of entries) k (omega arith)))

both_same : {A : Type 0} (b : Bool) (x : A) → cond b x x ≡ x
both_same true x = refl
both_same false x = refl

module _ (entries : List Entry) (transactions : List (Option ℕ)) (all : List Fated) (k reply : ℕ) (e : Entry)
    (are : AreTransactions entries transactions) (below : k < length entries) (read : e ≡ get_or entries k e) where
  abbrev line : Line
  line = line_after (lines_of (take k entries)) e

  there : slice_get (lines_of entries) k ≡ Some line
  there = entry_line entries k e (slice_get_read entries (length entries) k e refl below read)

  has : get_or transactions k None ≡ line.transaction
  has = transaction_is entries transactions k e are below read

  abbrev shows_closing : Bool
  shows_closing =
      is_continue (message_of e) && not (was_ended (lines_of entries) line reply) && not (was_end_delivered all line reply)

  abbrev half_of : Option Side → Option ℕ → Option (Side × ℕ)
  half_of side transaction = cond shows_closing (both_of (option_map other side) transaction) None

  half_is : half_of e.side line.transaction ≡ half_shown entries all k reply
  half_is = sym (ap (shown_by all (lines_of entries) reply) there)

  -- The entry has no end, or no transaction.
  pub no_side : e.side ≡ None → None ≡ half_shown entries all k reply
  no_side none =
      sym (ap (λ (s : Option Side). half_of s line.transaction) none ∙ both_same shows_closing None) ∙ half_is

  pub no_transaction : (side : Side) → e.side ≡ Some side → get_or transactions k None ≡ None
      → None ≡ half_shown entries all k reply
  no_transaction side sent none =
      sym (ap (λ (s : Option Side). half_of s line.transaction) sent
      ∙ (ap (half_of (Some side)) (sym has ∙ none) ∙ both_same shows_closing None))
      ∙ half_is

  -- The entry has both, and the numbers kept decide whether the half had closed.
  pub shown_is : (ended delivered : Leasts) (side : Side) (transaction : ℕ) (unseen : Bool) → e.side ≡ Some side
      → get_or transactions k None ≡ Some transaction → KeepsEnded (length entries) (lines_of entries) ended
      → KeepsDelivered (length entries) all delivered
      → unseen ≡ (is_continue (message_of e) && not (is_below reply (least_at (other side) transaction ended))
      && not (is_within reply (least_at side transaction delivered)))
      → cond unseen (Some (other side, transaction)) None ≡ half_shown entries all k reply
  shown_is ended delivered side transaction unseen sent belongs ended_is delivered_is is =
      let belongs_line : line.transaction ≡ Some transaction = sym has ∙ belongs in
      let below = transaction_below entries k line transaction there belongs_line in
      let so : unseen ≡ shows_closing =
      is
      ∙ (ap (λ (b : Bool). is_continue (message_of e) && not b
      && not (is_within reply (least_at side transaction delivered)))
      (ended_is line side transaction reply sent belongs_line below)
      ∙ ap (λ (b : Bool). is_continue (message_of e) && not (was_ended (lines_of entries) line reply) && not b)
      (delivered_is line side transaction reply sent belongs_line below)) in
      ap (λ (b : Bool). cond b (Some (other side, transaction)) None) so
      ∙ (sym (ap (λ (s : Option Side). half_of s line.transaction) sent ∙ ap (half_of (Some side)) belongs_line)
      ∙ half_is)

-- The transaction shown is in range.
pub shown_below : (entries : List Entry) (all : List Fated) (k reply : ℕ) (side : Side) (transaction : ℕ)
    → half_shown entries all k reply ≡ Some (side, transaction)
    → transaction < length entries
shown_below entries all k reply side transaction is = by (slice_get (lines_of entries) k) refl is
  where
    by : (o : Option Line) → slice_get (lines_of entries) k ≡ o
        → shown_by all (lines_of entries) reply o ≡ Some (side, transaction) → transaction < length entries
    by None found is = cc
    by (Some x) found is =
        transaction_below entries k x transaction found
        (of_both (is_continue (message_of x.entry) && not (was_ended (lines_of entries) x reply)
        && not (was_end_delivered all x reply))
        (option_map other x.entry.side) x.transaction is)
      where
        of_both : (b : Bool) (s : Option Side) (t : Option ℕ) → cond b (both_of s t) None ≡ Some (side, transaction)
            → t ≡ Some transaction
        of_both true (Some s) (Some t) is = ap (λ (p : Side × ℕ). Some p.1) (same_Some (s, t) (side, transaction) is)
        of_both true (Some s) None is = cc
        of_both true None t is = cc
        of_both false s t is = cc

-- ---- the list

-- the list with the half shown, unless it is listed
abbrev with_shown : List Closing → ℕ → Option (Side × ℕ) → List Closing
with_shown listed reply None = listed
with_shown listed reply (Some (side, transaction)) =
    cond (list_any (is_closing_of side transaction) listed) listed
    (listed ++ record { gap = reply; side = side; entry = transaction } ∷ [])

closing_is : (all : List Fated) (lines : List Line) (listed : List Closing) (reply : ℕ) (o : Option Line)
    → closing_by all lines listed reply o ≡ with_shown listed reply (shown_by all lines reply o)
closing_is all lines listed reply None = refl
closing_is all lines listed reply (Some x) =
    by (is_continue (message_of x.entry) && not (was_ended lines x reply)
    && not (was_end_delivered all x reply)) x.entry.side x.transaction
  where
    by : (b : Bool) (s : Option Side) (t : Option ℕ)
        → cond b (with_closing listed (option_map other s) reply t) listed
        ≡ with_shown listed reply (cond b (both_of (option_map other s) t) None)
    by true None t = refl
    by true (Some s) None = refl
    by true (Some s) (Some t) = refl
    by false s t = refl

-- The list so far, to which the rest of the ties add the rest.
pub record ExpiryList (all : List Fated) (lines : List Line) (ties : List Tie) (count i : ℕ) (listed : List Closing)
    (l : Leasts) : Type 0 where
  pub room : HasRoom count l
  pub kept : KeepsListed count listed l
  pub left : closings_from all lines (drop i ties) listed ≡ closings_of all lines ties

module _ (all : List Fated) (lines : List Line) (ties : List Tie) (count i : ℕ) (listed : List Closing) (old : Leasts)
    (other_tie t : Tie) (below : i < length ties) (is : t ≡ get_or ties i other_tie)
    (so_far : ExpiryList all lines ties count i listed old) where
  abbrev shown : Option (Side × ℕ)
  shown = shown_by all lines t.reply (slice_get lines t.entry)

  one_more : (o : Option (Side × ℕ)) → shown ≡ o
      → closings_from all lines (drop (i + 1) ties) (with_shown listed t.reply o) ≡ closings_of all lines ties
  one_more o is_shown =
      sym (ap (λ (left : List Tie). closings_from all lines left listed)
      (drop_more ties i other_tie below ∙ ap (λ (first : Tie). first ∷ drop (i + 1) ties) (sym is))
      ∙ (ap (closings_from all lines (drop (i + 1) ties))
      (closing_is all lines listed t.reply (slice_get lines t.entry))
      ∙ ap (λ (s : Option (Side × ℕ)). closings_from all lines (drop (i + 1) ties)
      (with_shown listed t.reply s)) is_shown))
      ∙ so_far.left

  pub listed_same : shown ≡ None → ExpiryList all lines ties count (i + 1) listed old
  listed_same is_shown = record { room = so_far.room; kept = so_far.kept; left = one_more None is_shown }

  module _ (side : Side) (transaction : ℕ) (is_shown : shown ≡ Some (side, transaction))
      (within : transaction < count) where
    known : (b : Bool) → is_some (least_at side transaction old) ≡ b
        → closings_from all lines (drop (i + 1) ties)
        (cond b listed (listed ++ record { gap = t.reply; side = side; entry = transaction } ∷ []))
        ≡ closings_of all lines ties
    known b known_is =
        ap (λ (c : Bool). closings_from all lines (drop (i + 1) ties)
        (cond c listed (listed ++ record { gap = t.reply; side = side; entry = transaction } ∷ [])))
        (sym known_is ∙ so_far.kept side transaction within)
        ∙ one_more (Some (side, transaction)) is_shown

    pub listed_again : is_some (least_at side transaction old) ≡ true → ExpiryList all lines ties count (i + 1) listed old
    listed_again known_is = record { room = so_far.room; kept = so_far.kept; left = known true known_is }

    pub listed_more : (new : Leasts) → is_some (least_at side transaction old) ≡ false → HasRoom count new
        → ((at : Side) (u : ℕ) → u < count → least_at at u new
        ≡ cond (is_side at side && (u == transaction)) (lesser t.reply (least_at at u old)) (least_at at u old))
        → ExpiryList all lines ties count (i + 1)
        (listed ++ record { gap = t.reply; side = side; entry = transaction } ∷ []) new
    listed_more new new_is room noted = record {
      room = room;
      kept = λ at u fits.
          ap is_some (noted at u fits)
          ∙ (one (is_side at side) (u == transaction) (least_at at u old)
          ∙ (ap (λ (b : Bool). b || (is_side at side && (u == transaction))) (so_far.kept at u fits)
          ∙ (ap (λ (b : Bool). list_any (is_closing_of at u) listed || (is_side at side && b))
          (eqb_turned u transaction)
          ∙ sym (any_push (is_closing_of at u) listed (record { gap = t.reply; side = side; entry = transaction })))));
      left = known false new_is;
    }
      where
        one : (a b : Bool) (o : Option ℕ)
            → is_some (cond (a && b) (lesser t.reply o) o) ≡ (is_some o || (a && b))
        one true true None = refl
        one true true (Some n) = refl
        one true false o = sym (or_false (is_some o))
        one false b o = sym (or_false (is_some o))
