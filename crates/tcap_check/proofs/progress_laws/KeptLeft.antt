-- What a refused entry leaves is what is kept of the replay up to the first step that cannot happen.
use Rattle.std.proofs.Common.{◌≡◌, ℕ, zero, suc, true, false, ◌+◌, ◌^◌, ◌≤◌, ◌<◌, List, [], ◌∷◌, length, drop, get_or, Option, Result, Ok, Err, refl, ap, ◌∙◌, arith, ◌==◌, Bool, cond, Some, None, sym, ap₂}
use Rattle.tcap_record.specs.declared.entry.End.{End as Side}
use Rattle.tcap_certificate.specs.declared.fault.CheckFault.{CheckFault}
use Rattle.tcap_check.specs.declared.progress.Progress.{Progress}
use Rattle.tcap_end.specs.Table.{Table}
use Rattle.tcap_check.specs.declared.outline.Outline.{Outline}
use Rattle.tcap_certificate.specs.Replay.{is_judged, Replay, closed_at_mark, fault_at, gap_by, is_gap, is_received_from, is_nothing, is_overtaking, lost_from_front, lost_last, next_entry, received, stepped, tied, due_in}
use Rattle.tcap_check.specs.Progress.{HasNoMore, end_moved, front_lost, last_lost, overtakes, side_at, all_kept, listed_kept}
use Rattle.tcap_check.specs.ReplaySteps.{deliveries_kept, delivery_kept, halves_shut}
use Rattle.tcap_check.specs.PartialReplay.{behind_or, deliveries_so_far, fated_so_far, gap_so_far, halves_so_far, item_so_far, mark_so_far, message_so_far, next_so_far, quiet_so_far, sending_so_far, listed_so_far}
use Rattle.tcap_check.specs.declared.listed_steps.ListedStep.{ListedStep}
use Rattle.tcap_check.specs.ListedSteps.{listed_judged, side_of, all_replayed, listed_for, listed_replayed}
use Rattle.std.specs.Prelude.{◌||◌, not, ok_or, slice_get}
use Rattle.std.specs.List.{AllByRecursion}
use Rattle.tcap_msg.specs.declared.message.AbortReason.TheVariants.{Cause, Dialogue as ByDialogue}
use Rattle.tcap_msg.specs.declared.message.Message.{Message}
use Rattle.tcap_msg.specs.declared.message.Message.TheVariants.{Unidirectional, Begin, Continue, End as EndMessage, Abort}
use Rattle.tcap_record.specs.declared.entry.End.TheVariants as sides
use Rattle.tcap_record.specs.Ends.{other}
use Rattle.tcap_end.specs.declared.half.HalfName.{HalfName}
use Rattle.tcap_end.specs.End.{End}
use Rattle.tcap_end.specs.HiddenSteps.{close, open_halves}
use Rattle.tcap_end.specs.Step.{◌>>=◌}
use Rattle.tcap_model.specs.declared.reason.Reason.{Reason}
use Rattle.tcap_model.specs.declared.reason.Reason.TheVariants.{NotQuiet}
use Rattle.tcap_model.specs.World.{Item, Sent, end_at}
use Rattle.tcap_model.specs.Run.{Closes}
use Rattle.tcap_certificate.specs.declared.certificate.Fate.{Fate}
use Rattle.tcap_certificate.specs.declared.certificate.Fate.TheVariants.{Gap, Lost, By}
use Rattle.tcap_certificate.specs.Certificate.{Certificate}
use Rattle.tcap_certificate.specs.DescribedRun.{invoking_half, sending_by}
use Rattle.tcap_check.specs.CheckerMeaning.{gap_before, is_alone, kept_of, map_ok, progress_of, tied_now}
use Rattle.tcap_check.specs.RefusedReplay.{deliveries_left, end_left, entry_left, fated_left, gap_left, halves_left, item_left, mark_left, message_left, quiet_left, listed_left, taken_left}
use Rattle.tcap_check.specs.EntryOutlines.{outlines_from, since_from}
use Rattle.tcap_check.proofs.progress_laws.KeptBasics.{end_kept, front_is, last_is, ok_behind, then_is}
use Rattle.tcap_check.proofs.progress_laws.KeptDeliveries.{StandsFrom, delivered_is, due_is, first_stands, none_next, stands_next}
use Rattle.tcap_check.proofs.progress_laws.KeptEntries.{gap_sends, tied_is, tied_still}
use Rattle.tcap_check.proofs.progress_laws.KeptGaps.{gap_is, end_is, outlines_count, IsNamed, listed_are, listed_named, one_is, one_sends}
use Rattle.tcap_check.proofs.progress_laws.KeptMessages.{over_is}
use Rattle.tcap_check.proofs.progress_laws.KeptSends.{overtakes_is}

-- The items from this index on have the same result from here as all items from the start, and there is room to count
-- them.
pub record Going {X : Type 0} (all : List X → Progress → Result Progress CheckFault) (first : Progress) (xs : List X)
    (p : Progress) (index : ℕ) : Type 0 where
  pub same : all xs first ≡ all (drop index xs) p
  pub room : p.moves + length (drop index xs) < 2 ^ 128

-- The deliveries from this index on have the same result from here as all deliveries from the start.
pub record Listening (judged : Option Side) (table : Table) (entries : List Outline) (first : Progress) (numbers : List ℕ)
    (p : Progress) (index : ℕ) : Type 0 where
  pub same : deliveries_kept judged table entries numbers first ≡ deliveries_kept judged table entries (drop index numbers) p
  pub grown : HasNoMore first p

pub next_left : {A : Type 0} (xs : List A) (i : ℕ) (default : A) → i < length xs → drop i xs ≡ get_or xs i default ∷ drop (i + 1) xs
next_left [] i default less = absurd (omega (arith, less))
next_left (x ∷ xs) zero default less = refl
next_left (x ∷ xs) (suc i) default less =
    let behind : suc i + 1 ≡ suc (i + 1) = omega arith in
    rw behind (next_left xs i default (omega (arith, less)))

-- The equation still holds after the item at this index.
pub same_next : {X B : Type 0} (all : List X → Progress → B) (first : Progress) (xs : List X) (p q : Progress)
    (i : ℕ) (default : X) → all xs first ≡ all (drop i xs) p → i < length xs
    → all (get_or xs i default ∷ drop (i + 1) xs) p ≡ all (drop (i + 1) xs) q
    → all xs first ≡ all (drop (i + 1) xs) q
same_next all first xs p q i default same less step = same ∙ ap (λ left. all left p) (next_left xs i default less) ∙ step

-- There is still room for the items that are left.
pub going_next : {X : Type 0} (all : List X → Progress → Result Progress CheckFault) (first : Progress) (xs : List X) (p q : Progress)
    (i : ℕ) (default : X) → Going all first xs p i → i < length xs
    → all (get_or xs i default ∷ drop (i + 1) xs) p ≡ all (drop (i + 1) xs) q → q.moves ≤ p.moves + 1
    → Going all first xs q (i + 1)
going_next all first xs p q i default going less step grows =
    let left = ap length (next_left xs i default less) in
    let room = going.room in
    record {
      same = same_next all first xs p q i default going.same less step;
      room = omega (arith, left, room, grows);
    }

-- ---- listed events

-- The first listed event counts if its end is judged, and is skipped if not.
module _ (judged : Option Side) (x : ListedStep) (more : List ListedStep) where
  pub listed_first : is_judged judged (side_of x) ≡ true → listed_judged judged (x ∷ more) ≡ x ∷ listed_judged judged more
  listed_first is = rw is refl

  pub listed_none : is_judged judged (side_of x) ≡ false → listed_judged judged (x ∷ more) ≡ listed_judged judged more
  listed_none is = rw is refl

pub left_behind : {A F : Type 0} (o : Result A F) (left next : A) (on : A → A) → o ≡ Ok next → behind_or o left on ≡ on next
left_behind (Ok x) left next on is = let same : x ≡ next = cc in ap on same
left_behind (Err fault) left next on is = cc

-- ---- a gap that is refused

-- A step and what follows it, over what is kept, for `behind_or`.
behind_is : {A B F : Type 0} (f : A → B) (o : Result A F) (kept : Result B F) (left : A) (left_kept : B) (on : A → A) (on_kept : B → B)
    → kept ≡ map_ok f o → left_kept ≡ f left → ((next : A) → o ≡ Ok next → on_kept (f next) ≡ f (on next))
    → behind_or kept left_kept on_kept ≡ f (behind_or o left on)
behind_is {B = B} {F = F} f (Ok next) kept left left_kept on on_kept is same then =
    ap (λ (k : Result B F). behind_or k left_kept on_kept) is ∙ then next refl
behind_is {B = B} {F = F} f (Err fault) kept left left_kept on on_kept is same then =
    ap (λ (k : Result B F). behind_or k left_kept on_kept) is ∙ same

module _ (judged : Option Side) (table : Table) (c : Certificate) where
  abbrev K : Replay → Progress
  K = progress_of true judged c

  -- ---- a gap

  listed_far : (items : List Item) (xs : List ListedStep) (r : Replay) → AllByRecursion (IsNamed c (length items)) xs → r.world.sent ≡ items
      → listed_left table (outlines_from c 0 items) (since_from 0 0 items) xs (K r) ≡ K (listed_so_far table c xs r)
  listed_far items [] r all sent = refl
  listed_far items (x ∷ more) r all sent =
      let es = outlines_from c 0 items in
      let since = since_from 0 0 items in
      behind_is K (listed_replayed table c x r) (listed_kept table es since x (K r)) r (K r) (listed_so_far table c more)
      (listed_left table es since more) (one_is true judged table c items x r all.0 sent) refl
      (λ next is. listed_far items more next all.1 (one_sends table c x r next is ∙ sent))

  none_far : (entries : List Outline) (gap n : ℕ) (fates : List Fate) (p : Progress) → StandsFrom entries n []
      → deliveries_left judged table entries (due_in gap n fates) p ≡ p
  none_far entries gap n [] p stands = refl
  none_far entries gap n (Lost ∷ fates) p stands = none_far entries gap (n + 1) fates p (none_next entries n stands)
  none_far entries gap n (By k ∷ fates) p stands = none_far entries gap (n + 1) fates p (none_next entries n stands)
  none_far entries gap n (Gap g ∷ fates) p stands = by (none_far entries gap (n + 1) fates p (none_next entries n stands)) (g == gap)
    where
      here : slice_get entries n ≡ None
      here = let same : n ≡ n + 0 = omega arith in ap (slice_get entries) same ∙ stands 0

      by : deliveries_left judged table entries (due_in gap (n + 1) fates) p ≡ p
          → (b : Bool) → deliveries_left judged table entries (cond b (n ∷ due_in gap (n + 1) fates) (due_in gap (n + 1) fates)) p ≡ p
      by rest true = rw here rest
      by rest false = rest

  deliveries_far : (entries : List Outline) (gap n : ℕ) (fates : List Fate) (items : List Item) (r : Replay)
      → StandsFrom entries n (outlines_from c n items)
      → deliveries_left judged table entries (due_in gap n fates) (K r) ≡ K (deliveries_so_far judged table c gap n fates items r)
  deliveries_far entries gap n [] items r stands = refl
  deliveries_far entries gap n (fate ∷ fates) [] r stands = none_far entries gap n (fate ∷ fates) (K r) stands
  deliveries_far entries gap n (Lost ∷ fates) (item ∷ items) r stands =
      deliveries_far entries gap (n + 1) fates items r (stands_next entries n _ _ stands)
  deliveries_far entries gap n (By k ∷ fates) (item ∷ items) r stands =
      deliveries_far entries gap (n + 1) fates items r (stands_next entries n _ _ stands)
  deliveries_far entries gap n (Gap g ∷ fates) (Item.Quiet ∷ items) r stands =
      by (deliveries_far entries gap (n + 1) fates items r (stands_next entries n _ _ stands)) (g == gap)
    where
      rest_of : Progress
      rest_of = K (deliveries_so_far judged table c gap (n + 1) fates items r)

      by : deliveries_left judged table entries (due_in gap (n + 1) fates) (K r) ≡ rest_of
          → (b : Bool) → deliveries_left judged table entries (cond b (n ∷ due_in gap (n + 1) fates) (due_in gap (n + 1) fates)) (K r) ≡ rest_of
      by rest true = rw (first_stands entries n _ _ stands) rest
      by rest false = rest
  deliveries_far entries gap n (Gap g ∷ fates) (Sent sender message ∷ items) r stands =
      by (λ next. deliveries_far entries gap (n + 1) fates items next (stands_next entries n _ _ stands)) (g == gap) refl
      (is_received_from judged sender) refl
    where
      due : List ℕ
      due = due_in gap (n + 1) fates

      more : Replay → Replay
      more = deliveries_so_far judged table c gap (n + 1) fates items

      by : ((next : Replay) → deliveries_left judged table entries due (K next) ≡ K (more next))
          → (b : Bool) → (g == gap) ≡ b → (so : Bool) → is_received_from judged sender ≡ so
          → deliveries_left judged table entries (cond b (n ∷ due) due) (K r)
          ≡ K (deliveries_so_far judged table c gap n (Gap g ∷ fates) (Sent sender message ∷ items) r)
      by rest false is so told = rw (due_is judged gap g sender, is) (rest r)
      by rest true is false told = rw (due_is judged gap g sender, is, first_stands entries n _ _ stands, told) (rest r)
      by rest true is true told =
          rw (due_is judged gap g sender, is, first_stands entries n _ _ stands, told)
          (behind_is K (received judged table c sender n r) (delivery_kept judged table n (Some sender) (K r)) (lost_from_front c sender r)
          (front_lost judged sender (K r)) more (deliveries_left judged table entries due) (delivered_is true judged table c sender n r told)
          (front_is true judged c sender r told) (λ next _. rest next))

  gap_far : (r : Replay)
      → gap_left judged table c (outlines_from c 0 r.world.sent) (since_from 0 0 r.world.sent) (K r) ≡ K (gap_so_far judged table c r)
  gap_far r =
      let items = r.world.sent in
      let es = outlines_from c 0 items in
      let since = since_from 0 0 items in
      let listed : List ListedStep = listed_for judged c (next_entry r) in
      ap (λ (n : ℕ). behind_or (all_kept table es since (listed_for judged c n) (K r)) (listed_left table es since (listed_for judged c n) (K r))
      (deliveries_left judged table es (due_in n 0 c.fates))) (outlines_count c 0 items)
      ∙ behind_is K (all_replayed table c listed r) (all_kept table es since listed (K r)) (listed_so_far table c listed r)
      (listed_left table es since listed (K r)) (deliveries_so_far judged table c (next_entry r) 0 c.fates items)
      (deliveries_left judged table es (due_in (next_entry r) 0 c.fates))
      (listed_are true judged table c items listed r (listed_named judged c (next_entry r)) refl)
      (listed_far items listed r (listed_named judged c (next_entry r)) refl)
      (λ hidden is. deliveries_far es (next_entry r) 0 c.fates items hidden
      (λ i. let same : 0 + i ≡ i = omega arith in ap (slice_get es) same))

  -- ---- a message

  message_far : (side : Side) (message : Message) (takes : List ℕ) (r : Replay) → is_received_from judged (other side) ≡ true
      → message_left judged table side message takes (K r) ≡ K (message_so_far table c side message (sending_by c (next_entry r) (Sent side message) takes) r)
  message_far side message takes r so = by message takes
    where
      by : (message : Message) (taken : List ℕ)
          → message_left judged table side message taken (K r)
          ≡ K (message_so_far table c side message (sending_by c (next_entry r) (Sent side message) taken) r)
      by (Abort dtid (Some (Cause n))) [] = refl
      by (Abort dtid (Some (Cause n))) (taken ∷ []) = front_is true judged c (other side) r so
      by (Abort dtid (Some (Cause n))) (taken ∷ second ∷ more) = refl
      by (Abort dtid (Some (ByDialogue d))) [] = refl
      by (Abort dtid (Some (ByDialogue d))) (taken ∷ more) = refl
      by (Abort dtid None) [] = refl
      by (Abort dtid None) (taken ∷ more) = refl
      by (Unidirectional dialogue components) [] = refl
      by (Unidirectional dialogue components) (taken ∷ more) = refl
      by (Begin otid dialogue components) [] = over_is true table judged c side (Begin otid dialogue components) (invoking_half (Begin otid dialogue components)) r
      by (Begin otid dialogue components) (taken ∷ more) = refl
      by (Continue otid dtid dialogue components) [] =
          over_is true table judged c side (Continue otid dtid dialogue components) (invoking_half (Continue otid dtid dialogue components)) r
      by (Continue otid dtid dialogue components) (taken ∷ more) = refl
      by (EndMessage dtid dialogue components) [] =
          over_is true table judged c side (EndMessage dtid dialogue components) (invoking_half (EndMessage dtid dialogue components)) r
      by (EndMessage dtid dialogue components) (taken ∷ more) = refl

-- If this end is judged, messages of the other end are received.
judged_heard : (judged : Option Side) (side : Side) → is_judged judged side ≡ true → is_received_from judged (other side) ≡ true
judged_heard None side so = refl
judged_heard (Some sides.A) sides.A so = refl
judged_heard (Some sides.A) sides.B so = cc
judged_heard (Some sides.B) sides.A so = cc
judged_heard (Some sides.B) sides.B so = refl

sending_far : (judged : Option Side) (table : Table) (c : Certificate) (side : Side) (message : Message) (r : Replay)
    → taken_left judged table side message (tied judged c r) (progress_of true judged c r)
    ≡ progress_of true judged c (sending_so_far judged table c side message r)
sending_far judged table c side message r = by (is_judged judged side) refl
  where
    by : (b : Bool) → is_judged judged side ≡ b
        → cond b (message_left judged table side message (tied judged c r) (progress_of true judged c r)) (progress_of true judged c r)
        ≡ progress_of true judged c
        (cond b (message_so_far table c side message (sending_by c (next_entry r) (Sent side message) (tied judged c r)) r) r)
    by true is = message_far judged table c side message (tied judged c r) r (judged_heard judged side is)
    by false is = refl

-- ---- a quiet mark

half_is : (table : Table) (c : Certificate) (side : Side) (mark : ℕ) (name : HalfName) (r : Replay)
    → end_moved side (Closes side name) (fault_at NotQuiet mark) (progress_of true (Some side) c r)
    (close table (side_at side (progress_of true (Some side) c r)).end name)
    ≡ map_ok (progress_of true (Some side) c) (ok_or (stepped table (Closes side name) r) (fault_at NotQuiet mark))
half_is table c side mark name r =
    let fault = fault_at NotQuiet mark in
    ap (λ (e : End). end_moved side (Closes side name) fault (progress_of true (Some side) c r) (close table e name)) (end_kept true (Some side) c side r)
    ∙ end_is true (Some side) c side (Closes side name) fault r (close table (end_at side r.world) name) (λ at. refl)

halves_are : (table : Table) (c : Certificate) (side : Side) (mark : ℕ) (names : List HalfName) (r : Replay)
    → halves_shut side table mark names (progress_of true (Some side) c r)
    ≡ map_ok (progress_of true (Some side) c) (closed_at_mark table side mark names r)
halves_are table c side mark [] r = refl
halves_are table c side mark (name ∷ more) r =
    ap (λ (o : Result Progress CheckFault). o >>= halves_shut side table mark more) (half_is table c side mark name r)
    ∙ then_is (progress_of true (Some side) c) (ok_or (stepped table (Closes side name) r) (fault_at NotQuiet mark)) (halves_shut side table mark more)
    (closed_at_mark table side mark more) (λ next is. halves_are table c side mark more next)

halves_far : (table : Table) (c : Certificate) (side : Side) (mark : ℕ) (names : List HalfName) (r : Replay)
    → halves_left side table mark names (progress_of true (Some side) c r) ≡ progress_of true (Some side) c (halves_so_far table side mark names r)
halves_far table c side mark [] r = refl
halves_far table c side mark (name ∷ more) r =
    let p = progress_of true (Some side) c r in
    let one = end_moved side (Closes side name) (fault_at NotQuiet mark) p (close table (side_at side p).end name) in
    behind_is (progress_of true (Some side) c) (closed_at_mark table side mark (name ∷ []) r) one r p (halves_so_far table side mark more)
    (halves_left side table mark more) (sym (ok_behind one) ∙ halves_are table c side mark (name ∷ []) r) refl
    (λ next is. halves_far table c side mark more next)

quiet_far : (judged : Option Side) (table : Table) (c : Certificate) (r : Replay)
    → quiet_left judged table (next_entry r) (progress_of true judged c r) ≡ progress_of true judged c (quiet_so_far judged table c r)
quiet_far None table c r = last_is true None c r
quiet_far (Some side) table c r =
    let p = progress_of true (Some side) c r in
    let mark = next_entry r in
    let halves = open_halves (end_at side r.world) in
    ap (λ (e : End). behind_or (halves_shut side table mark (open_halves e) p) (halves_left side table mark (open_halves e) p) (last_lost (Some side)))
    (end_kept true (Some side) c side r)
    ∙ behind_is (progress_of true (Some side) c) (closed_at_mark table side mark halves r) (halves_shut side table mark halves p)
    (halves_so_far table side mark halves r) (halves_left side table mark halves p) (lost_last (Some side) c) (last_lost (Some side))
    (halves_are table c side mark halves r) (halves_far table c side mark halves r) (λ closed is. last_is true (Some side) c closed)

mark_far : (judged : Option Side) (table : Table) (c : Certificate) (r : Replay)
    → mark_left judged table (next_entry r) (tied judged c r) (progress_of true judged c r) ≡ progress_of true judged c (mark_so_far judged table c r)
mark_far judged table c r = by (is_nothing (tied judged c r))
  where
    by : (b : Bool)
        → cond b (quiet_left judged table (next_entry r) (progress_of true judged c r)) (progress_of true judged c r)
        ≡ progress_of true judged c (cond b (quiet_so_far judged table c r) r)
    by true = quiet_far judged table c r
    by false = refl

-- ---- an entry

module _ (judged : Option Side) (table : Table) (c : Certificate) (r : Replay) where
  abbrev p : Progress
  p = progress_of true judged c r

  abbrev count : ℕ
  count = length (outlines_from c 0 r.world.sent)

  abbrev gone : Progress
  gone = gap_left judged table c (outlines_from c 0 r.world.sent) (since_from 0 0 r.world.sent) p

  -- After the gap, if the entry is not refused before it.
  behind_gap : (so : Bool) (on : ℕ → List ℕ → Progress → Progress) (more : Replay → Replay)
      → ((next : Replay) → gap_by judged table c r ≡ Ok next
      → on (next_entry next) (tied judged c next) (progress_of true judged c next) ≡ progress_of true judged c (more next))
      → cond so (behind_or (gap_before judged table c (kept_of true judged c r)) gone (on count (tied_now judged c (kept_of true judged c r)))) p
      ≡ progress_of true judged c (cond so (behind_or (gap_by judged table c r) (gap_so_far judged table c r) more) r)
  behind_gap false on more same = refl
  behind_gap true on more same =
      ap₂ (λ (k : ℕ) (numbers : List ℕ). behind_or (gap_before judged table c (kept_of true judged c r)) gone (on k numbers)) (outlines_count c 0 r.world.sent) (tied_is true judged c r)
      ∙ behind_is (progress_of true judged c) (gap_by judged table c r) (gap_before judged table c (kept_of true judged c r)) (gap_so_far judged table c r) gone more
      (on (next_entry r) (tied judged c r)) (gap_is true judged table c r) (gap_far judged table c r)
      (λ next is. let sent = gap_sends judged table c r next is in
      ap₂ (λ (k : ℕ) (numbers : List ℕ). on k numbers (progress_of true judged c next)) (sym (ap length sent)) (sym (tied_still judged c r next sent))
      ∙ same next is)

in_order : (judged : Option Side) (c : Certificate) (side : Side) (fate : Fate) (r : Replay)
    → (is_alone judged side || not (overtakes fate (side_at side (progress_of true judged c r))))
    ≡ (is_alone judged side || not (is_overtaking side fate c.fates r.world.sent))
in_order judged c side fate r = by (is_alone judged side) refl
  where
    by : (b : Bool) → is_alone judged side ≡ b
        → (b || not (overtakes fate (side_at side (progress_of true judged c r)))) ≡ (b || not (is_overtaking side fate c.fates r.world.sent))
    by true is = refl
    by false is = ap not (overtakes_is true judged c side fate r is)

item_far : (judged : Option Side) (table : Table) (c : Certificate) (fate : Fate) (item : Item) (r : Replay)
    → item_left judged table c fate item (kept_of true judged c r) ≡ progress_of true judged c (item_so_far judged table c fate item r)
item_far judged table c fate (Sent side message) r =
    ap (λ (so : Bool). cond so (behind_or (gap_before judged table c (kept_of true judged c r)) (gone judged table c r)
    (taken_left judged table side message (tied_now judged c (kept_of true judged c r)))) (progress_of true judged c r)) (in_order judged c side fate r)
    ∙ behind_gap judged table c r (is_alone judged side || not (is_overtaking side fate c.fates r.world.sent))
    (λ k numbers. taken_left judged table side message numbers) (sending_so_far judged table c side message)
    (λ next is. sending_far judged table c side message next)
item_far judged table c fate Item.Quiet r =
    ap (λ (k : ℕ). cond (is_gap (k + 1) fate) (behind_or (gap_before judged table c (kept_of true judged c r)) (gone judged table c r)
    (mark_left judged table (count judged table c r) (tied_now judged c (kept_of true judged c r)))) (progress_of true judged c r)) (outlines_count c 0 r.world.sent)
    ∙ behind_gap judged table c r (is_gap (next_entry r + 1) fate) (λ k numbers. mark_left judged table k numbers) (mark_so_far judged table c)
    (λ next is. mark_far judged table c next)

pub entry_far : (judged : Option Side) (table : Table) (c : Certificate) (entry : Result Item Reason) (more : List (Result Item Reason)) (r : Replay)
    → entry_left judged table c entry (kept_of true judged c r) ≡ progress_of true judged c (next_so_far judged table c (entry ∷ more) r)
entry_far judged table c (Err reason) more r = refl
entry_far judged table c (Ok item) more r =
    ap (λ (k : ℕ). fated_left judged table c (slice_get c.fates k) item (kept_of true judged c r)) (outlines_count c 0 r.world.sent)
    ∙ by (slice_get c.fates (next_entry r))
  where
    by : (o : Option Fate) → fated_left judged table c o item (kept_of true judged c r) ≡ progress_of true judged c (fated_so_far judged table c o item r)
    by None = refl
    by (Some fate) = item_far judged table c fate item r

pub end_far : (judged : Option Side) (table : Table) (c : Certificate) (r : Replay)
    → end_left judged table c (kept_of true judged c r) ≡ progress_of true judged c (next_so_far judged table c [] r)
end_far judged table c r =
    ap (λ (k : ℕ). cond (k == length c.fates) (behind_or (gap_before judged table c (kept_of true judged c r)) (gone judged table c r) (last_lost judged))
    (progress_of true judged c r)) (outlines_count c 0 r.world.sent)
    ∙ behind_gap judged table c r (next_entry r == length c.fates) (λ k numbers. last_lost judged) (lost_last judged c)
    (λ next is. last_is true judged c next)
