-- The loops that find fates: one more entry, or one more tie.
use Rattle.std.proofs.Common.{◌≡◌, ℕ, ◌+◌, ◌<◌, ◌≤◌, List, [], ◌∷◌, ◌++◌, reverse, length, Option, Some, None, refl, sym, subst, arith, ◌^◌, max, Bool, true, false, cond, map, take, drop, set, get_or, ap, ◌∙◌, append_assoc}
use Rattle.std.specs.Prelude.{◌==◌, option_map, ◌&&◌, slice_get}
use Rattle.std.specs.List.{AllByRecursion}
use Rattle.std.proofs.lemmas.List.{reverse-append, drop_all, drop_more, get_or-map, get_or-take, get_or_append_left, get_or_default, length-take-le, map-append, set_at, take_all, take_more}
use Rattle.tcap_msg.specs.declared.message.AbortReason.TheVariants.{Cause, Dialogue}
use Rattle.tcap_msg.specs.declared.message.Message.{Message}
use Rattle.tcap_msg.specs.declared.message.Message.TheVariants.{Unidirectional, Begin, Continue, End, Abort}
use Rattle.tcap_record.specs.declared.entry.Entry.{Entry}
use Rattle.tcap_model.proofs.ListLaws.{all_more}
use Rattle.tcap_search.specs.declared.tie.Tie.{Tie}
use Rattle.tcap_search.specs.SegmentEntries.{Line, last, lines_of, message_of}
use Rattle.tcap_search.specs.ProposedCertificate.{answered_line, gap_after_reply, reply_of, ties_from, with_tie_by, Fated, fate_before, fate_of, fated, holds_back, with_losses}
use Rattle.tcap_search.specs.SegmentLists.{AreTies, AreTransactions}
use Rattle.tcap_search.proofs.LatestLaws.{last_among}
use Rattle.tcap_search.proofs.LineLaws.{count_lines, count_transactions, AreNumbered, lines_numbered, entries_of_lines, line_at, line_more, transaction_within}
use Rattle.std.proofs.lemmas.Option.{get_or_from_slice_get}
use Rattle.tcap_record.specs.declared.entry.End.{End as Side}
use Rattle.tcap_record.specs.Ends.{other, is_entry_of}
use Rattle.tcap_certificate.specs.declared.certificate.Fate.{Fate}
use Rattle.tcap_certificate.specs.declared.certificate.Fate.TheVariants.{Gap}
use Rattle.tcap_certificate.specs.Replay.{time_of}
use Rattle.tcap_search.specs.declared.end_values.PerEnd.{PerEnd}
use Rattle.tcap_search.specs.EndValues.{at_end}
use Rattle.tcap_search.specs.Fates.{fate_after_least, fate_from, gap_after_last, gap_kept, gap_raised, highest, is_of, least_time, receiver_gap, sooner, time_kept}
use Rattle.tcap_search.proofs.GapLaws.{fate_is, gap_more, gap_of_receiver, gap_so_far, highest_more, reply_more}
use Rattle.tcap_search.proofs.LossLaws.{count_fated, entries_fated, fate_before_is, fates_fated, least_so_far}

abbrev pub RepliesBelow : ℕ → List Tie → Type 0
RepliesBelow n ties = AllByRecursion (λ t. t.reply < n) ties

with_below : (n : ℕ) (earlier : List Line) (ties : List Tie) (x : Line) (m : Option Message) → x.number < n
    → RepliesBelow n ties → RepliesBelow n (with_tie_by earlier ties x m)
with_below n earlier ties x None within all = all
with_below n earlier ties x (Some (Unidirectional dialogue components)) within all = all
with_below n earlier ties x (Some (Begin otid dialogue components)) within all = all
with_below n earlier ties x (Some (Continue otid dtid dialogue components)) within all = all
with_below n earlier ties x (Some (End dtid dialogue components)) within all = all
with_below n earlier ties x (Some (Abort dtid None)) within all = all
with_below n earlier ties x (Some (Abort dtid (Some (Dialogue dialogue)))) within all = all
with_below n earlier ties x (Some (Abort dtid (Some (Cause cause)))) within all =
    by (answered_line earlier ties x.entry dtid cause) refl
  where
    by : (o : Option Line) → answered_line earlier ties x.entry dtid cause ≡ o
        → RepliesBelow n (with_tie_by earlier ties x (Some (Abort dtid (Some (Cause cause)))))
    by None at = rw at all
    by (Some answered) at = rw at (within, all)

from_below : (n : ℕ) (lines : List Line) (ties : List Tie) → AllByRecursion (λ x. x.number < n) lines
    → RepliesBelow n ties → RepliesBelow n (ties_from lines ties)
from_below n [] ties numbers all = all
from_below n (x ∷ lines) ties numbers all = from_below n lines (with_tie_by (reverse lines) ties x (message_of x.entry))
    numbers.1 (with_below n (reverse lines) ties x (message_of x.entry) numbers.0 all)

pub numbers_below : (n k : ℕ) (lines : List Line) → AreNumbered k lines → k + length lines ≤ n
    → AllByRecursion (λ x. x.number < n) lines
numbers_below n k [] are within = tt
numbers_below n k (x ∷ lines) are within =
    (omega (arith, are.0), numbers_below n (k + 1) lines are.1 (omega arith))

reversed : (x : Line) (lines : List Line) → reverse (x ∷ lines) ≡ reverse lines ++ x ∷ []
reversed x lines = reverse-append (x ∷ []) lines

all_reversed : (P : Line → Type 0) (lines : List Line) → AllByRecursion P lines → AllByRecursion P (reverse lines)
all_reversed P [] all = tt
all_reversed P (x ∷ lines) all = subst (λ (xs : List Line). AllByRecursion P xs) (sym (reversed x lines))
    (all_more P (reverse lines) x (all_reversed P lines all.1) all.0)

-- The reply of each tie is the number of an entry.
pub replies_below : (entries : List Entry) (ties : List Tie) → AreTies entries ties → RepliesBelow (length entries) ties
replies_below entries ties are =
    let count : length (lines_of entries) ≡ length entries = count_lines entries in
    subst (λ (ts : List Tie). RepliesBelow (length entries) ts) (sym are)
    (from_below (length entries) (reverse (lines_of entries)) []
    (all_reversed (λ x. x.number < length entries) (lines_of entries)
    (numbers_below (length entries) 0 (lines_of entries) (lines_numbered entries) (omega arith))) tt)

-- The gap after a reply is one of the segment.
pub behind_reply : (n : ℕ) (ties : List Tie) (number : ℕ) → RepliesBelow n ties
    → gap_after_reply (reply_of ties number) ≤ n
behind_reply n ties number below = by (last (λ t. t.entry == number) ties) refl
  where
    by : (o : Option Tie) → last (λ t. t.entry == number) ties ≡ o → gap_after_reply (option_map (λ t. t.reply) o) ≤ n
    by None at = omega arith
    by (Some t) at =
        let reply : t.reply < n = last_among (λ t. t.reply < n) (λ t. t.entry == number) ties t below at in omega arith

-- ---- replies

pub reply_step : (ties : List Tie) (i number : ℕ) (d : Tie) (old : Option (Option ℕ)) → i < length ties
    → old ≡ Some (reply_of (take i ties) number)
    → cond ((get_or ties i d).entry == number) (Some (Some (get_or ties i d).reply)) old
    ≡ Some (reply_of (take (i + 1) ties) number)
reply_step ties i number d old within is = rw is
    (by ((get_or ties i d).entry == number)
    ∙ ap Some (sym (reply_more (take i ties) (get_or ties i d) number))
    ∙ ap (λ (ts : List Tie). Some (reply_of ts number)) (sym (take_more ties i d within)))
  where
    by : (b : Bool) → cond b (Some (Some (get_or ties i d).reply)) (Some (reply_of (take i ties) number))
        ≡ Some (cond b (Some (get_or ties i d).reply) (reply_of (take i ties) number))
    by true = refl
    by false = refl

-- ---- entries, from the first on

-- the gaps kept are those of these entries
abbrev pub KeepsGaps : Option Side → List Entry → List (PerEnd ℕ) → Type 0
KeepsGaps judged entries gaps = (side : Side) (t : ℕ) → t < length entries
    → gap_kept side t gaps ≡ gap_after_last judged side t (lines_of entries)

module _ (entries : List Entry) (transactions : List (Option ℕ)) (are : AreTransactions entries transactions)
    (i : ℕ) (within : i < length entries) (e : Entry) (is_entry : e ≡ get_or entries i e) where
  -- The lines are one more.
  pub lines_more : take (i + 1) (lines_of entries)
      ≡ take i (lines_of entries) ++ line_at i e (get_or transactions i None) ∷ []
  lines_more =
      let count : length transactions ≡ length entries = count_transactions entries transactions are in
      line_more entries transactions are i within e (get_or transactions i None) is_entry
      (get_or_default transactions i None (get_or transactions i None) (omega arith))

  pub gap_step : (judged : Option Side) (side : Side) (t old : ℕ)
      → old ≡ gap_after_last judged side t (take i (lines_of entries))
      → cond (holds_back judged (message_of e) && is_of side t e (get_or transactions i None)) (i + 1) old
      ≡ gap_after_last judged side t (take (i + 1) (lines_of entries))
  gap_step judged side t old is = rw is
      (sym (gap_more judged side t (take i (lines_of entries)) (line_at i e (get_or transactions i None))))
      ∙ ap (gap_after_last judged side t) (sym lines_more)

  pub highest_step : (ties : List Tie) (side : Side) (old : ℕ) → old ≡ highest side (take i (lines_of entries)) ties
      → cond (is_entry_of side e.side) (max old (gap_after_reply (reply_of ties i))) old
      ≡ highest side (take (i + 1) (lines_of entries)) ties
  highest_step ties side old is = rw is
      (sym (highest_more side (take i (lines_of entries)) (line_at i e (get_or transactions i None)) ties))
      ∙ ap (λ (lines : List Line). highest side lines ties) (sym lines_more)

  -- The gap kept for the receiver is that after its last entry in the transaction.
  receiver_is : (judged : Option Side) (gaps : List (PerEnd ℕ)) → KeepsGaps judged entries gaps
      → receiver_gap gaps e.side (get_or transactions i None)
      ≡ gap_of_receiver judged (lines_of entries) e.side (get_or transactions i None)
  receiver_is judged gaps kept = by e.side (get_or transactions i None) refl
    where
      by : (s : Option Side) (o : Option ℕ) → get_or transactions i None ≡ o
          → receiver_gap gaps s o ≡ gap_of_receiver judged (lines_of entries) s o
      by None o at = refl
      by (Some side) None at = refl
      by (Some side) (Some t) at =
          let count : length transactions ≡ length entries = count_transactions entries transactions are in
          let there : Some t ≡ get_or transactions i (Some t) =
          sym at ∙ get_or_default transactions i None (Some t) (omega arith) in
          kept (other side) t (transaction_within entries transactions are i t within there)

  -- The fate found is the first fate of the line.
  pub fate_step : (judged : Option Side) (ties : List Tie) (gaps : List (PerEnd ℕ)) (raised : PerEnd ℕ)
      → KeepsGaps judged entries gaps
      → ((side : Side) → at_end side raised ≡ highest side (take i (lines_of entries)) ties)
      → (fates : List Fate) → fates ≡ map (fate_of judged (lines_of entries) ties) (take i (lines_of entries))
      → fates ++ fate_from i e (reply_of ties i) (receiver_gap gaps e.side (get_or transactions i None))
      (gap_raised raised e.side) ∷ []
      ≡ map (fate_of judged (lines_of entries) ties) (take (i + 1) (lines_of entries))
  fate_step judged ties gaps raised kept high fates are_fates =
      rw (are_fates, receiver_is judged gaps kept, raised_is e.side)
      (ap (λ (fate : Fate). map (fate_of judged (lines_of entries) ties) (take i (lines_of entries)) ++ fate ∷ [])
      (sym (fate_is judged (lines_of entries) ties (line_at i e (get_or transactions i None)) (lines_numbered entries)))
      ∙ sym (map-append (fate_of judged (lines_of entries) ties) (take i (lines_of entries))
      (line_at i e (get_or transactions i None) ∷ []))
      ∙ ap (map (fate_of judged (lines_of entries) ties)) (sym lines_more))
    where
      raised_is : (s : Option Side) → gap_raised raised s ≡ gap_so_far (take i (lines_of entries)) ties s
      raised_is None = refl
      raised_is (Some side) = high side

-- At the end, all lines are done.
pub all_lines : (entries : List Entry) (i : ℕ) → length entries ≤ i → take i (lines_of entries) ≡ lines_of entries
all_lines entries i past =
    let count : length (lines_of entries) ≡ length entries = count_lines entries in
    take_all i (lines_of entries) (omega arith)

-- ---- a reply that is looked up

pub reply_read : (replies : List (Option ℕ)) (i : ℕ) (reply : Option ℕ) (ties : List Tie)
    → slice_get replies i ≡ Some (reply_of ties i) → reply ≡ get_or replies i reply → reply ≡ reply_of ties i
reply_read replies i reply ties there is = is ∙ get_or_from_slice_get replies i (reply_of ties i) reply there

pub reply_fits : (entries : List Entry) (ties : List Tie) (i : ℕ) → AreTies entries ties → length entries ≤ 100000
    → gap_after_reply (reply_of ties i) < 2 ^ 32
reply_fits entries ties i are few =
    let below : gap_after_reply (reply_of ties i) ≤ length entries =
    behind_reply (length entries) ties i (replies_below entries ties are) in
    omega arith

-- ---- losses, from the last entry on

module _ (entries : List Entry) (old : List Fate) (same : length old ≡ length entries)
    (k n : ℕ) (next : n ≡ k + 1) (within : k < length entries) (e : Entry) (is_entry : e ≡ get_or entries k e) where
  -- the entry at this place, with a fate
  abbrev d : Fated
  d = record { line = line_at k e None; fate = Gap 0 }

  abbrev all : List Fated
  all = fated (lines_of entries) old

  abbrev here : Fated
  here = get_or all k d

  abbrev later : List Fated
  later = with_losses (drop n all)

  same_lines : length old ≡ length (lines_of entries)
  same_lines = same ∙ sym (count_lines entries)

  within_all : k < length all
  within_all = let count : length all ≡ length old = count_fated (lines_of entries) old same_lines in omega arith

  pub entry_here : here.line.entry ≡ e
  entry_here = sym (get_or-map (λ (x : Fated). x.line.entry) all k d e within_all)
      ∙ ap (λ (es : List Entry). get_or es k e) (entries_fated (lines_of entries) old same_lines
      ∙ entries_of_lines entries)
      ∙ sym is_entry

  pub fate_here : here.fate ≡ get_or old k (Gap 0)
  fate_here = sym (get_or-map (λ (x : Fated). x.fate) all k d (Gap 0) within_all)
      ∙ ap (λ (fs : List Fate). get_or fs k (Gap 0)) (fates_fated (lines_of entries) old same_lines)

  drop_here : drop k all ≡ here ∷ drop n all
  drop_here = drop_more all k d within_all ∙ ap (λ (m : ℕ). here ∷ drop m all) (sym next)

  losses_here : with_losses (drop k all) ≡ (let x : Fated = record here { fate = fate_before later here } in x) ∷ later
  losses_here = ap with_losses drop_here

  -- The fate looked up is the first fate of the line.
  fate_read : (fates : List Fate) → fates ≡ take n old ++ map (λ x. x.fate) later
      → get_or fates k (Gap 0) ≡ get_or old k (Gap 0)
  fate_read fates are = rw are
      (get_or_append_left (take n old) (map (λ x. x.fate) later) (Gap 0) k
      (let count : length (take n old) ≡ n = length-take-le n old (omega arith) in omega arith)
      ∙ get_or-take n old k (Gap 0) (omega arith))

  module _ (fates : List Fate) (least : PerEnd (Option ℕ)) (made : Fate)
      (are : fates ≡ take n old ++ map (λ x. x.fate) later)
      (times : (side : Side) → at_end side least ≡ least_time side later)
      (is : made ≡ fate_after_least e (get_or fates k (Gap 0)) (time_kept least e.side)) where
    kept : (s : Option Side) → time_kept least s ≡ least_so_far later s
    kept None = refl
    kept (Some side) = times side

    -- The new fate is that after losses.
    loss_is : made ≡ fate_before later here
    loss_is = is
        ∙ ap (λ (f : Fate). fate_after_least e f (time_kept least e.side)) (fate_read fates are ∙ sym fate_here)
        ∙ ap (fate_after_least e here.fate) (kept e.side)
        ∙ ap (λ (x : Entry). fate_after_least x here.fate (least_so_far later x.side)) (sym entry_here)
        ∙ sym (fate_before_is later here)

    pub losses_step : set fates k made ≡ take k old ++ map (λ x. x.fate) (with_losses (drop k all))
    losses_step = rw are
        (ap (λ (fs : List Fate). set (fs ++ map (λ x. x.fate) later) k made)
        (ap (λ (m : ℕ). take m old) next ∙ take_more old k (Gap 0) (omega arith))
        ∙ ap (λ (fs : List Fate). set fs k made)
        (append_assoc (take k old) (get_or old k (Gap 0) ∷ []) (map (λ x. x.fate) later))
        ∙ set_at (take k old) (get_or old k (Gap 0)) (map (λ x. x.fate) later) made k
        (length-take-le k old (omega arith))
        ∙ ap (λ (f : Fate). take k old ++ f ∷ map (λ x. x.fate) later) loss_is
        ∙ ap (λ (xs : List Fated). take k old ++ map (λ x. x.fate) xs) (sym losses_here))

    pub least_step : (side : Side)
        → cond (is_entry_of side e.side) (sooner (time_of made) (at_end side least)) (at_end side least)
        ≡ least_time side (with_losses (drop k all))
    least_step side = rw (times side, loss_is)
        (ap (λ (x : Entry). cond (is_entry_of side x.side)
        (sooner (time_of (fate_before later here)) (least_time side later))
        (least_time side later)) (sym entry_here)
        ∙ ap (least_time side) (sym losses_here))

-- At the start nothing is lost.
pub losses_start : (entries : List Entry) (old : List Fate) → length old ≡ length entries
    → drop (length entries) (fated (lines_of entries) old) ≡ []
losses_start entries old same =
    let lines : length (lines_of entries) ≡ length entries = count_lines entries in
    let count : length (fated (lines_of entries) old) ≡ length old = count_fated (lines_of entries) old (omega arith) in
    drop_all (length entries) (fated (lines_of entries) old) (omega arith)
