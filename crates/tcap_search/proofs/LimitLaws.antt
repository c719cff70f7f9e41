-- A segment's certificate has one fate for each entry, and its numbers are gaps and entries of the segment.
use Rattle.std.proofs.Common.{◌≡◌, ℕ, ℤ, ◌+◌, ◌≤◌, ◌<◌, arith, max, Bool, true, false, cond, List, [], ◌∷◌, ◌++◌, map, length, Option, Some, None, option_map, slice_get, refl, sym, ap, subst, ◌∙◌}
use Rattle.std.specs.Option.{option_or}
use Rattle.std.specs.Prelude.{◌&&◌, not, nat_le, nat_lt, is_some}
use Rattle.std.specs.List.{AllByRecursion, list_any}
use Rattle.std.proofs.lemmas.Bool.{leb-true}
use Rattle.tcap_parts.specs.declared.component.Component.{Component}
use Rattle.tcap_msg.specs.declared.message.Message.{Message}
use Rattle.tcap_msg.specs.declared.message.Message.TheVariants.{Unidirectional, Begin, Continue, End, Abort}
use Rattle.tcap_record.specs.declared.entry.End.{End as Side}
use Rattle.tcap_record.specs.declared.entry.Entry.{Entry}
use Rattle.tcap_record.specs.Ends.{other, is_entry_of}
use Rattle.tcap_model.specs.Run.{option_then, only_if}
use Rattle.tcap_certificate.specs.declared.certificate.Closing.{Closing}
use Rattle.tcap_certificate.specs.declared.certificate.Expiry.{Expiry}
use Rattle.tcap_certificate.specs.declared.certificate.Fate.{Fate}
use Rattle.tcap_certificate.specs.declared.certificate.Fate.TheVariants.{Gap, Lost, By}
use Rattle.tcap_certificate.specs.Certificate.{ClosingFits, ExpiryFits, FateFits}
use Rattle.tcap_model.proofs.ListLaws.{all_more, all_weaker}
use Rattle.tcap_model.proofs.RunLaws.{map_some, then_some}
use Rattle.tcap_search.specs.declared.tie.Tie.{Tie}
use Rattle.tcap_search.specs.SegmentEntries.{Line, are_of_one_end, lines_of, message_of}
use Rattle.tcap_search.specs.ProposedCertificate.{Fated, all_fated, closing_after, closing_by, closings_from, expiries_by, expiries_from, expiry_after, expiry_by, expiry_in, fate_before, fate_after, fate_by, fate_of, fated, first_fates, first_gap, first_gap_by, gap_after, gap_after_reply, gap_in, invocation_at, is_closing_of, is_continue, is_expiry_of, is_gap, is_invoke_of, is_overtaken, is_unanswered, last_invocation, last_invoke, last_of_receiver, may_invoke, components_at, number_limit, of_segment, raised, rejected_line, reply_of, ties_of, unrecognized, was_ended, was_end_delivered, with_closing, with_expiry, with_losses, without_unanswered}
use Rattle.tcap_search.specs.SegmentLists.{AreFates}
use Rattle.tcap_search.proofs.LatestLaws.{last_among}
use Rattle.tcap_search.proofs.LossLaws.{before_losses, count_fates}
use Rattle.tcap_search.proofs.LineLaws.{lines_numbered, count_lines, transaction_below}
use Rattle.tcap_search.proofs.FateSteps.{RepliesBelow, behind_reply, numbers_below, replies_below}
use Rattle.tcap_search.proofs.SweepLaws.{first_invoke}

-- ---- numbers within a segment

abbrev pub FateWithin : ℕ → Fate → Type 0
FateWithin n (Gap gap) = gap ≤ n
FateWithin n (By reply) = reply ≤ n
FateWithin n Lost = Unit {0}

abbrev pub ExpiryWithin : ℕ → Expiry → Type 0
ExpiryWithin n x = (x.gap ≤ n) × (x.component ≤ number_limit) × (x.entry ≤ n)

abbrev pub ClosingWithin : ℕ → Closing → Type 0
ClosingWithin n x = (x.gap ≤ n) × (x.entry ≤ n)

-- ---- fates

all_mapped : {A B : Type 0} (P : B → Type 0) (f : A → B) (xs : List A) → AllByRecursion (λ x. P (f x)) xs
    → AllByRecursion P (map f xs)
all_mapped P f [] all = tt
all_mapped P f (x ∷ xs) all = (all.0, all_mapped P f xs all.1)

module _ (judged : Option Side) (n : ℕ) (lines : List Line) (numbers : AllByRecursion (λ x. x.number < n) lines)
    (ties : List Tie) (replies : RepliesBelow n ties) where
  behind_within : (x : Line) (o : Option Line) → x.number < n → last_of_receiver judged lines x ≡ o → gap_after x o ≤ n
  behind_within x None within is = omega (arith, within)
  behind_within x (Some y) within is =
      let there : y.number < n = last_among (λ z. z.number < n) _ lines y numbers is in omega (arith, there)

  first_within : (x : Line) (m : Option Message) → x.number < n → first_gap_by judged lines x m ≤ n
  first_within x None within = omega (arith, within)
  first_within x (Some (Unidirectional dialogue components)) within = omega (arith, within)
  first_within x (Some (Begin otid dialogue components)) within = omega (arith, within)
  first_within x (Some (Continue otid dtid dialogue components)) within = omega (arith, within)
  first_within x (Some (End dtid dialogue components)) within =
      behind_within x (last_of_receiver judged lines x) within refl
  first_within x (Some (Abort dtid reason)) within = behind_within x (last_of_receiver judged lines x) within refl

  raised_within : (some : List Line) (x : Line) (gap : ℕ) → gap ≤ n → raised some ties x gap ≤ n
  raised_within [] x gap within = within
  raised_within (y ∷ some) x gap within =
      raised_within some x _
      (by (nat_lt y.number x.number && are_of_one_end x.entry y.entry) (behind_reply n ties y.number replies))
    where
      by : (b : Bool) → gap_after_reply (reply_of ties y.number) ≤ n
          → cond b (max gap (gap_after_reply (reply_of ties y.number))) gap ≤ n
      by true reply = omega (arith, within, reply)
      by false reply = within

  fate_within : (x : Line) (o : Option ℕ) (m : Option Message) → x.number < n → reply_of ties x.number ≡ o
      → FateWithin n (fate_by judged lines ties x o m)
  fate_within x (Some reply) m within is =
      let below : gap_after_reply (reply_of ties x.number) ≤ n = behind_reply n ties x.number replies in
      let so : reply + 1 ≤ n = rw is at below in omega (arith, so)
  fate_within x None None within is = omega (arith, within)
  fate_within x None (Some m) within is =
      raised_within lines x (first_gap judged lines x) (first_within x (message_of x.entry) within)

  fates_within : (some : List Line) → AllByRecursion (λ x. x.number < n) some
      → AllByRecursion (FateWithin n) (map (fate_of judged lines ties) some)
  fates_within [] all = tt
  fates_within (x ∷ some) all =
      (fate_within x (reply_of ties x.number) (message_of x.entry) all.0 refl, fates_within some all.1)

-- The fate of each line is within.
fated_within : (n : ℕ) (lines : List Line) (fates : List Fate) → AllByRecursion (FateWithin n) fates
    → AllByRecursion (λ x. FateWithin n x.fate) (fated lines fates)
fated_within n [] fates all = tt
fated_within n (line ∷ lines) [] all = tt
fated_within n (line ∷ lines) (fate ∷ fates) all = (all.0, fated_within n lines fates all.1)

-- A loss has no number.
lost_within : (n : ℕ) (later : List Fated) (x : Fated) → FateWithin n x.fate → FateWithin n (fate_before later x)
lost_within n later x within =
    by (is_gap x.fate && is_some (message_of x.line.entry) && list_any (is_overtaken x) later)
  where
    by : (b : Bool) → FateWithin n (cond b Lost x.fate)
    by true = tt
    by false = within

losses_within : (n : ℕ) (all : List Fated) → AllByRecursion (λ x. FateWithin n x.fate) all
    → AllByRecursion (λ x. FateWithin n x.fate) (with_losses all)
losses_within n [] within = tt
losses_within n (x ∷ all) within =
    (lost_within n (with_losses all) x within.0, losses_within n all within.1)

unanswered_within : (n : ℕ) (judged : Option Side) (marked : Bool) (lines : List Line) (all : List Fated)
    → AllByRecursion (λ x. FateWithin n x.fate) all
    → AllByRecursion (λ x. FateWithin n x.fate) (without_unanswered judged marked lines all)
unanswered_within n None marked lines all within = within
unanswered_within n (Some side) false lines all within = within
unanswered_within n (Some side) true lines [] within = tt
unanswered_within n (Some side) true lines (x ∷ all) within = (
  by (is_gap x.fate && is_entry_of (other side) x.line.entry.side && is_unanswered side lines (message_of x.line.entry)),
  unanswered_within n (Some side) true lines all within.1,
)
  where
    by : (b : Bool) → FateWithin n (cond b Lost x.fate)
    by true = tt
    by false = within.0

-- ---- a segment

module _ (judged : Option Side) (marked : Bool) (entries : List Entry) where
  abbrev lines : List Line
  lines = lines_of entries

  abbrev all_of : List Fated
  all_of = all_fated judged marked lines

  numbers : AllByRecursion (λ x. x.number < length entries) lines
  numbers = numbers_below (length entries) 0 lines (lines_numbered entries)
      (let count : length lines ≡ length entries = count_lines entries in omega (arith, count))

  replies : RepliesBelow (length entries) (ties_of lines)
  replies = replies_below entries (ties_of lines) refl

  all_within : AllByRecursion (λ x. FateWithin (length entries) x.fate) all_of
  all_within =
      losses_within (length entries) (before_losses judged marked lines)
      (unanswered_within (length entries) judged marked lines (fated lines (first_fates judged lines (ties_of lines)))
      (fated_within (length entries) lines (first_fates judged lines (ties_of lines))
      (fates_within judged (length entries) lines numbers (ties_of lines) replies lines numbers)))

  pub fates_of_segment : AllByRecursion (FateWithin (length entries)) ((of_segment judged marked entries).fates)
  fates_of_segment = all_mapped (FateWithin (length entries)) (λ (x : Fated). x.fate) all_of all_within

  pub count_of_segment : length ((of_segment judged marked entries).fates) ≡ length entries
  count_of_segment = count_fates judged marked entries (map (λ x. x.fate) all_of) refl

  -- ---- expiries

  expiry_added : (listed : List Expiry) (side : Option Side) (gap : ℕ) (o : Option (ℕ × ℕ)) → gap ≤ length entries
      → ((entry component : ℕ) → o ≡ Some (entry, component) → (entry < length entries) × (component ≤ number_limit))
      → AllByRecursion (ExpiryWithin (length entries)) listed
      → AllByRecursion (ExpiryWithin (length entries)) (with_expiry listed side gap o)
  expiry_added listed None gap o gap_in_it so all = all
  expiry_added listed (Some side) gap None gap_in_it so all = all
  expiry_added listed (Some side) gap (Some (entry, component)) gap_in_it so all =
      by (list_any (is_expiry_of (entry, component)) listed) (so entry component refl)
    where
      added : Expiry
      added = record { gap = gap; component = component; side = side; entry = entry }

      by : (b : Bool) → (entry < length entries) × (component ≤ number_limit)
          → AllByRecursion (ExpiryWithin (length entries)) (cond b listed (listed ++ added ∷ []))
      by true within = all
      by false within =
          all_more (ExpiryWithin (length entries)) listed added all
          (gap_in_it, within.1, omega (arith, within.0))

  -- The place of an Invoke is within the limit.
  place_within : (id : ℤ) (place : ℕ) (components : List Component) (found : ℕ)
      → last_invoke id place components ≡ Some found
      → found ≤ number_limit
  place_within id place [] found is = cc
  place_within id place (c ∷ more) found is =
      by (last_invoke id (place + 1) more) (place_within id (place + 1) more found)
      (sym (first_invoke id place c more) ∙ is)
    where
      leave : (a b : Bool) → only_if (a && b) (Some place) ≡ Some found → (b ≡ true) × (place ≡ found)
      leave true true is = (refl, cc)
      leave true false is = cc
      leave false b is = cc

      by : (o : Option ℕ) → (o ≡ Some found → found ≤ number_limit)
          → option_or o (only_if (is_invoke_of id c && nat_le place number_limit) (Some place)) ≡ Some found
          → found ≤ number_limit
      by (Some later) on is = on is
      by None on is =
          let (small, same) = leave (is_invoke_of id c) (nat_le place number_limit) is in
          let within : place ≤ number_limit = leb-true place number_limit small in
          omega (arith, within, same)

  -- Its entry is in the segment.
  invocation_within : (x : Line) (id : ℤ) (below entry component : ℕ)
      → last_invocation lines x id below ≡ Some (entry, component)
      → (entry < length entries) × (component ≤ number_limit)
  invocation_within x id below entry component is =
      let (y, found, at) = then_some _ (invocation_at id) (entry, component) is in
      let there : y.number < length entries = last_among (λ z. z.number < length entries) _ lines y numbers found in
      at_line y there (may_invoke (message_of y.entry)) at
    where
      at_line : (y : Line) → y.number < length entries → (b : Bool)
          → cond b (option_map {U = ℕ × ℕ} (λ place. (y.number, place)) (last_invoke id 0 (components_at y))) None
          ≡ Some (entry, component)
          → (entry < length entries) × (component ≤ number_limit)
      at_line y there false is = cc
      at_line y there true is =
          let (place, found, made) = map_some {B = ℕ × ℕ} (λ place. (y.number, place))
          (last_invoke id 0 (components_at y)) (entry, component) is in
          let same : y.number ≡ entry = ap (λ (p : ℕ × ℕ). p.0) made in
          let also : place ≡ component = ap (λ (p : ℕ × ℕ). p.1) made in
          (rw (← same) there, rw (← also) (place_within id 0 (components_at y) place found))

  -- The expiry that a component adds is within.
  rejects_within : (x : Line) (listed : List Expiry) (o : Option (Bool × ℤ))
      → AllByRecursion (ExpiryWithin (length entries)) listed
      → AllByRecursion (ExpiryWithin (length entries)) (expiry_by all_of lines x listed o)
  rejects_within x listed None all = all
  rejects_within x listed (Some (is_result, id)) all =
      by (option_then (rejected_line all_of x (is_result, id)) (λ y. gap_in y.fate)) refl
    where
      gap_within : (y : Fated) (gap : ℕ) (fate : Fate) → y.fate ≡ fate → FateWithin (length entries) y.fate
          → gap_in fate ≡ Some gap → gap ≤ length entries
      gap_within y gap (Gap g) is within at =
          let there : g ≤ length entries = rw is at within in
          let same : g ≡ gap = cc in omega (arith, there, same)
      gap_within y gap (By reply) is within at = cc
      gap_within y gap Lost is within at = cc

      by : (o : Option ℕ) → option_then (rejected_line all_of x (is_result, id)) (λ y. gap_in y.fate) ≡ o
          → AllByRecursion (ExpiryWithin (length entries)) (expiry_in lines x listed id o)
      by None is = all
      by (Some gap) is =
          let (y, found, at) = then_some (rejected_line all_of x (is_result, id))
          (λ y. gap_in y.fate) gap is in
          let within : FateWithin (length entries) y.fate =
          last_among (λ z. FateWithin (length entries) z.fate) _ all_of y all_within found in
          expiry_added listed x.entry.side gap (last_invocation lines x id gap) (gap_within y gap y.fate refl within at)
          (invocation_within x id gap) all

  rejecting_within : (x : Line) (components : List Component) (listed : List Expiry)
      → AllByRecursion (ExpiryWithin (length entries)) listed
      → AllByRecursion (ExpiryWithin (length entries)) (expiries_by all_of lines x listed components)
  rejecting_within x [] listed all = all
  rejecting_within x (c ∷ more) listed all =
      rejecting_within x more (expiry_by all_of lines x listed (unrecognized c))
      (rejects_within x listed (unrecognized c) all)

  listing_within : (some : List Line) (listed : List Expiry) → AllByRecursion (ExpiryWithin (length entries)) listed
      → AllByRecursion (ExpiryWithin (length entries)) (expiries_from all_of lines some listed)
  listing_within [] listed all = all
  listing_within (x ∷ some) listed all =
      listing_within some (expiries_by all_of lines x listed (components_at x))
      (rejecting_within x (components_at x) listed all)

  pub expiries_of_segment : AllByRecursion (ExpiryWithin (length entries)) ((of_segment judged marked entries).expire)
  expiries_of_segment = listing_within lines [] tt

  -- ---- closings

  closing_added : (listed : List Closing) (side : Option Side) (gap : ℕ) (o : Option ℕ) → gap ≤ length entries
      → ((t : ℕ) → o ≡ Some t → t < length entries) → AllByRecursion (ClosingWithin (length entries)) listed
      → AllByRecursion (ClosingWithin (length entries)) (with_closing listed side gap o)
  closing_added listed None gap o gap_in_it so all = all
  closing_added listed (Some side) gap None gap_in_it so all = all
  closing_added listed (Some side) gap (Some t) gap_in_it so all =
      by (list_any (is_closing_of side t) listed) (so t refl)
    where
      added : Closing
      added = record { gap = gap; side = side; entry = t }

      by : (b : Bool) → t < length entries
          → AllByRecursion (ClosingWithin (length entries)) (cond b listed (listed ++ added ∷ []))
      by true within = all
      by false within =
          all_more (ClosingWithin (length entries)) listed added all (gap_in_it, omega (arith, within))

  tie_within : (listed : List Closing) (entry reply : ℕ) (o : Option Line) → reply ≤ length entries
      → slice_get lines entry ≡ o → AllByRecursion (ClosingWithin (length entries)) listed
      → AllByRecursion (ClosingWithin (length entries)) (closing_by all_of lines listed reply o)
  tie_within listed entry reply None within is all = all
  tie_within listed entry reply (Some x) within is all =
      by (is_continue (message_of x.entry) && not (was_ended lines x reply) && not (was_end_delivered all_of x reply))
    where
      by : (b : Bool) → AllByRecursion (ClosingWithin (length entries))
          (cond b (with_closing listed (option_map other x.entry.side) reply x.transaction) listed)
      by true =
          closing_added listed (option_map other x.entry.side) reply x.transaction within
          (λ t at. transaction_below entries entry x t is at) all
      by false = all

  closing_within : (ties : List Tie) (listed : List Closing) → RepliesBelow (length entries) ties
      → AllByRecursion (ClosingWithin (length entries)) listed
      → AllByRecursion (ClosingWithin (length entries)) (closings_from all_of lines ties listed)
  closing_within [] listed below all = all
  closing_within (t ∷ ties) listed below all =
      closing_within ties (closing_by all_of lines listed t.reply (slice_get lines t.entry)) below.1
      (tie_within listed t.entry t.reply (slice_get lines t.entry)
      (let within : t.reply < length entries = below.0 in omega (arith, within)) refl all)

  pub closings_of_segment : AllByRecursion (ClosingWithin (length entries)) ((of_segment judged marked entries).close)
  closings_of_segment = closing_within (ties_of lines) [] replies tt

-- ---- the limits of a certificate

fate_fits : (first n : ℕ) (fate : Fate) → first + n ≤ number_limit
    → FateWithin n fate → FateFits (fate_after first fate)
fate_fits first n (Gap gap) few within = omega (arith, few, within)
fate_fits first n (By reply) few within = omega (arith, few, within)
fate_fits first n Lost few within = tt

module _ (judged : Option Side) (marked : Bool) (first : ℕ) (entries : List Entry)
    (few : first + length entries ≤ number_limit) where
  -- The numbers are within the limits after `first` entries.
  pub fates_fit : (fates : List Fate) → AreFates judged marked entries fates
      → AllByRecursion FateFits (map (fate_after first) fates)
  fates_fit fates are =
      all_mapped FateFits (fate_after first) fates
      (all_weaker (FateWithin (length entries)) (λ fate. FateFits (fate_after first fate)) fates
      (λ fate within. fate_fits first (length entries) fate few within)
      (subst (λ (x : List Fate). AllByRecursion (FateWithin (length entries)) x) (sym are)
      (fates_of_segment judged marked entries)))

  pub expiries_fit : (listed : List Expiry) → listed ≡ (of_segment judged marked entries).expire
      → AllByRecursion ExpiryFits (map (expiry_after first) listed)
  expiries_fit listed are =
      all_mapped ExpiryFits (expiry_after first) listed
      (all_weaker (ExpiryWithin (length entries)) (λ x. ExpiryFits (expiry_after first x)) listed
      (λ x within. (omega (arith, few, within.0), within.1, omega (arith, few, within.2)))
      (subst (λ (xs : List Expiry). AllByRecursion (ExpiryWithin (length entries)) xs) (sym are)
      (expiries_of_segment judged marked entries)))

  pub closings_fit : (listed : List Closing) → listed ≡ (of_segment judged marked entries).close
      → AllByRecursion ClosingFits (map (closing_after first) listed)
  closings_fit listed are =
      all_mapped ClosingFits (closing_after first) listed
      (all_weaker (ClosingWithin (length entries)) (λ x. ClosingFits (closing_after first x)) listed
      (λ x within. (omega (arith, few, within.0), omega (arith, few, within.1)))
      (subst (λ (xs : List Closing). AllByRecursion (ClosingWithin (length entries)) xs) (sym are)
      (closings_of_segment judged marked entries)))

fate_small : (n : ℕ) (fate : Fate) → n ≤ number_limit → FateWithin n fate → FateFits fate
fate_small n (Gap gap) few within = omega (arith, few, within)
fate_small n (By reply) few within = omega (arith, few, within)
fate_small n Lost few within = tt

module _ (judged : Option Side) (marked : Bool) (entries : List Entry) (few : length entries ≤ number_limit) where
  -- They are within the limits without entries before.
  pub fates_small : (fates : List Fate) → AreFates judged marked entries fates → AllByRecursion FateFits fates
  fates_small fates are =
      all_weaker (FateWithin (length entries)) FateFits fates
      (λ fate within. fate_small (length entries) fate few within)
      (subst (λ (x : List Fate). AllByRecursion (FateWithin (length entries)) x) (sym are)
      (fates_of_segment judged marked entries))

  pub expiries_small : (listed : List Expiry) → listed ≡ (of_segment judged marked entries).expire
      → AllByRecursion ExpiryFits listed
  expiries_small listed are =
      all_weaker (ExpiryWithin (length entries)) ExpiryFits listed
      (λ x within. (omega (arith, few, within.0), within.1, omega (arith, few, within.2)))
      (subst (λ (xs : List Expiry). AllByRecursion (ExpiryWithin (length entries)) xs) (sym are)
      (expiries_of_segment judged marked entries))

  pub closings_small : (listed : List Closing) → listed ≡ (of_segment judged marked entries).close
      → AllByRecursion ClosingFits listed
  closings_small listed are =
      all_weaker (ClosingWithin (length entries)) ClosingFits listed
      (λ x within. (omega (arith, few, within.0), omega (arith, few, within.1)))
      (subst (λ (xs : List Closing). AllByRecursion (ClosingWithin (length entries)) xs) (sym are)
      (closings_of_segment judged marked entries))
