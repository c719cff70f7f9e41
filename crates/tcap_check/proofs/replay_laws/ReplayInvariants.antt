-- What each step of a replay keeps holds for the whole replay.
use Rattle.std.proofs.Common.{◌≡◌, ℕ, ℤ, ◌+◌, ◌==◌, Bool, true, false, cond, List, [], ◌∷◌, length, Option, Some, None, Result, Ok, Err, refl, ap, subst, ◌∙◌, map, sym}
use Rattle.std.specs.Option.{option_or}
use Rattle.std.specs.Prelude.{filter_map, not, ok_or, slice_get}
use Rattle.tcap_msg.specs.declared.message.Message.{Message}
use Rattle.tcap_msg.specs.Parts.{components_in}
use Rattle.tcap_record.specs.declared.entry.End.{End as Side}
use Rattle.tcap_record.specs.declared.entry.End.TheVariants as sides
use Rattle.tcap_record.specs.Ends.{other}
use Rattle.tcap_end.specs.declared.fault.EndFault.{EndFault}
use Rattle.tcap_end.specs.declared.half.HalfName.{HalfName}
use Rattle.tcap_end.specs.End.{End}
use Rattle.tcap_end.specs.HiddenSteps.{open_halves}
use Rattle.tcap_end.specs.Message.{send}
use Rattle.tcap_end.specs.Table.{Table}
use Rattle.tcap_end.proofs.AnsweringLaws.{needs_ok, ok_same, some_ok, then_ok}
use Rattle.tcap_model.specs.declared.reason.Reason.{Reason}
use Rattle.tcap_model.specs.declared.reason.Reason.TheVariants.{BadReply, FateCount, FateRange, NotQuiet, OutOfOrder}
use Rattle.tcap_model.specs.World.{Item, Sent, end_at, is_side, with_end, channel_from}
use Rattle.tcap_model.specs.Run.{Event, Sends, Receives, Replies, Loses, Expires, Closes, Quiet, Tells, joined, after}
use Rattle.tcap_certificate.specs.declared.certificate.Fate.{Fate}
use Rattle.tcap_certificate.specs.declared.certificate.Fate.TheVariants.{Gap, Lost, By}
use Rattle.tcap_certificate.specs.declared.fault.CheckFault.{CheckFault}
use Rattle.tcap_certificate.specs.Certificate.{Certificate}
use Rattle.tcap_certificate.specs.DescribedRun.{invoke_id, invoking_half, is_loss, sending_by}
use Rattle.tcap_check.specs.CheckerMeaning.{taken_from, taken_next}
use Rattle.tcap_certificate.specs.Replay.{Replay, all_lost_from, after_sending, closed_at_mark, closed_before, comes_in_order, deliveries_by, delivery_by, entries_by, entry_by, fault_at, gap_by, after_event, delivered, implied, implied_over, is_abort, is_due, is_gap, is_nothing, is_overtaking, item_by, lost_before, lost_from_front, lost_last, mark_judged, message_by, next_entry, or_same, own_judged, received, sent_or_refused, stepped, tied, peer_replayed, with_step, certificate_fits, discarded, discards_by, nothing_replayed, first_receive_refusal}
use Rattle.tcap_check.proofs.given_run_lemmas.GivenRuns.{both_ok}
use Rattle.tcap_check.specs.declared.listed_steps.ListedStep.{ListedStep}
use Rattle.tcap_check.specs.ListedSteps.{all_replayed, entry_of, event_listed, listed_for, listed_replayed, why_refused}
use Rattle.tcap_check.proofs.replay_laws.ReplayGaps.{gap_parts, listed_so}
use Rattle.tcap_check.proofs.replay_laws.ReplaySteps.{AreFrom, from_next, first_from, from_start}
use Rattle.tcap_model.proofs.ListLaws.{all_both}
use Rattle.tcap_model.proofs.RunLaws.{map_some}
use Rattle.tcap_check.specs.ReportedSteps.{MayAllBeDiscarded, MayBeDiscarded}

-- `Holds` is kept by each step that is no loss, by the losses at the front of a channel, and, if one end is judged
-- alone, by the loss of all its messages and by the deliveries to it.
pub record IsKept (judged : Option Side) (table : Table) (c : Certificate) (Holds : Replay → Type 0) : Type 0 where
  pub step : (event : Event) (r next : Replay) → is_loss event ≡ false → stepped table event r ≡ Some next → Holds r → Holds next
  pub front : (sender : Side) (r : Replay) → Holds r → Holds (lost_from_front c sender r)
  pub all : (side : Side) (r : Replay) → judged ≡ Some side → Holds r → Holds (all_lost_from side r)
  pub hears : (side : Side) (number gap : ℕ) (r next : Replay) → judged ≡ Some side → slice_get c.fates number ≡ Some (Gap gap)
      → delivered table c side number r ≡ Ok next → Holds r → Holds next

module _ (judged : Option Side) (table : Table) (c : Certificate) (Holds : Replay → Type 0) (kept : IsKept judged table c Holds) where
  -- If `Holds` is true of the first replay, it is true of the second.
  abbrev Keeps : Replay → Replay → Type 0
  Keeps r next = Holds r → Holds next

  -- ---- steps

  same_keeps : (r next : Replay) → (let x : Result Replay CheckFault = Ok r in x) ≡ Ok next → Keeps r next
  same_keeps r next is holds = subst Holds (ok_same {F = CheckFault} r next is) holds

  losses_keep : (event : Event) (r : Replay) → Keeps r (lost_before c event r)
  losses_keep (Sends side m) r holds = holds
  losses_keep (Receives side n) r holds = kept.front (other side) r holds
  losses_keep (Replies side n) r holds = kept.front (other side) r holds
  losses_keep (Loses side n) r holds = holds
  losses_keep (Expires side name id) r holds = holds
  losses_keep (Closes side name) r holds = holds
  losses_keep Quiet r holds = kept.front sides.B (lost_from_front c sides.A r) (kept.front sides.A r holds)
  losses_keep (Tells side m) r holds = holds

  pub last_keeps : (r : Replay) → Keeps r (lost_last judged c r)
  last_keeps r holds = by judged
    where
      by : (who : Option Side) → Holds (lost_last who c r)
      by None = kept.front sides.B (lost_from_front c sides.A r) (kept.front sides.A r holds)
      by (Some side) = kept.front (other side) r holds

  happens_keeps : (event : Event) (reason : Reason) (entry : ℕ) (r next : Replay) → is_loss event ≡ false
      → after_event table c event reason entry r ≡ Ok next → Keeps r next
  happens_keeps event reason entry r next plain is holds =
      let before = lost_before c event r in
      kept.step event before next plain (some_ok (stepped table event before) (fault_at reason entry) next is) (losses_keep event r holds)

  -- ---- a gap

  pub one_keeps : (x : ListedStep) (r next : Replay) → listed_replayed table c x r ≡ Ok next → Keeps r next
  one_keeps x r next is holds =
      let event = then_ok (ok_or (event_listed r.world.sent x) (fault_at FateRange (entry_of x))) _ next is in
      let named = some_ok (event_listed r.world.sent x) (fault_at FateRange (entry_of x)) event.0 event.1 in
      let plain = listed_so (λ e. is_loss e ≡ false) r.world.sent x (λ name. refl) (λ name id. refl) event.0 named in
      happens_keeps event.0 (why_refused x) (entry_of x) r next plain event.2 holds

  pub listed_keep : (listed : List ListedStep) (r next : Replay) → all_replayed table c listed r ≡ Ok next → Keeps r next
  listed_keep [] r next is holds = same_keeps r next is holds
  listed_keep (x ∷ more) r next is holds =
      let then = then_ok (listed_replayed table c x r) _ next is in
      listed_keep more then.0 next then.2 (one_keeps x r then.0 then.1 holds)

  -- A message that a gap delivers.
  received_keeps : (sender : Side) (number gap : ℕ) (r next : Replay) → slice_get c.fates number ≡ Some (Gap gap)
      → received judged table c sender number r ≡ Ok next → Keeps r next
  received_keeps sender number gap r next at is holds = by judged refl is
    where
      by : (who : Option Side) → judged ≡ who → received who table c sender number r ≡ Ok next → Holds next
      by None same e = happens_keeps (Receives (other sender) number) BadReply number r next refl e holds
      by (Some side) same e = kept.hears side number gap r next same at e holds

  delivery_keeps : (gap n : ℕ) (fate : Fate) (item : Item) (r next : Replay) → slice_get c.fates n ≡ Some fate
      → delivery_by judged table c gap n fate item r ≡ Ok next → Keeps r next
  delivery_keeps gap n (Gap g) (Sent sender message) r next at is holds = by (is_due judged gap g sender) is
    where
      by : (b : Bool) → cond b (received judged table c sender n r) (Ok r) ≡ Ok next → Holds next
      by true e = received_keeps sender n g r next at e holds
      by false e = same_keeps r next e holds
  delivery_keeps gap n (Gap g) Item.Quiet r next at is holds = same_keeps r next is holds
  delivery_keeps gap n (By k) item r next at is holds = same_keeps r next is holds
  delivery_keeps gap n Lost item r next at is holds = same_keeps r next is holds

  deliveries_keep : (gap n : ℕ) (fates : List Fate) (items : List Item) (r next : Replay) → AreFrom c.fates n fates
      → deliveries_by judged table c gap n fates items r ≡ Ok next → Keeps r next
  deliveries_keep gap n [] items r next from is holds = same_keeps r next is holds
  deliveries_keep gap n (fate ∷ fates) [] r next from is holds = same_keeps r next is holds
  deliveries_keep gap n (fate ∷ fates) (item ∷ items) r next from is holds =
      let one = then_ok (delivery_by judged table c gap n fate item r) _ next is in
      deliveries_keep gap (n + 1) fates items one.0 next (from_next c.fates fates n fate from) one.2
      (delivery_keeps gap n fate item r one.0 (first_from c.fates fates n fate from) one.1 holds)

  pub gap_keeps : (r next : Replay) → gap_by judged table c r ≡ Ok next → Keeps r next
  gap_keeps r next is holds =
      let parts = gap_parts judged table c r next is in
      deliveries_keep (next_entry r) 0 c.fates r.world.sent parts.0 next (from_start c.fates) parts.2
      (listed_keep (listed_for judged c (next_entry r)) r parts.0 parts.1 holds)

  -- ---- a message

  implied_keeps : (side : Side) (name : HalfName) (ids : List ℤ) (r : Replay) → Keeps r (implied table side name ids r)
  implied_keeps side name [] r holds = holds
  implied_keeps side name (id ∷ ids) r holds = implied_keeps side name ids _ (by (stepped table (Expires side name id) r) refl)
    where
      by : (o : Option Replay) → stepped table (Expires side name id) r ≡ o → Holds (or_same r o)
      by None is = holds
      by (Some next) is = kept.step (Expires side name id) r next refl is holds

  pub over_keeps : (side : Side) (message : Message) (name : Option HalfName) (r : Replay) → Keeps r (implied_over table side message name r)
  over_keeps side message None r holds = holds
  over_keeps side message (Some name) r holds = implied_keeps side name (filter_map invoke_id (components_in message)) r holds

  message_keeps : (side : Side) (message : Message) (event : Option Event) (r next : Replay)
      → message_by table c side message event r ≡ Ok next → Keeps r next
  message_keeps side message (Some (Sends sender sent)) r next is holds =
      by (send table (end_at side mid.world) message) refl is (over_keeps side message (invoking_half message) r holds)
    where
      mid : Replay
      mid = implied_over table side message (invoking_half message) r

      by : (o : Result End EndFault) → send table (end_at side mid.world) message ≡ o → sent_or_refused side message mid o ≡ Ok next → Keeps mid next
      by (Ok e) at is holds =
          let made = with_step (Sends side message) mid (joined side message (with_end side e mid.world)) in
          same_keeps made next is (kept.step (Sends side message) mid made refl (rw at refl) holds)
      by (Err reason) at is holds = cc
  message_keeps side message (Some (Replies replier number)) r next is holds =
      let one = then_ok (after_event table c (Replies side number) BadReply (next_entry r) r) _ next is in
      let same = needs_ok (is_abort message (slice_get one.0.world.sent (next_entry r))) (fault_at BadReply (next_entry r)) _ next one.2 in
      same_keeps one.0 next same.1 (happens_keeps (Replies side number) BadReply (next_entry r) r one.0 refl one.1 holds)
  message_keeps side message (Some (Receives at n)) r next is holds = cc
  message_keeps side message (Some (Loses at n)) r next is holds = cc
  message_keeps side message (Some (Expires at name id)) r next is holds = cc
  message_keeps side message (Some (Closes at name)) r next is holds = cc
  message_keeps side message (Some Quiet) r next is holds = cc
  message_keeps side message (Some (Tells at m)) r next is holds = cc
  message_keeps side message None r next is holds = cc

  own_keeps : (fate : Fate) (side : Side) (message : Message) (r next : Replay) → own_judged judged table c fate side message r ≡ Ok next
      → Keeps r next
  own_keeps fate side message r next is holds =
      let so = both_ok (comes_in_order judged side fate c r) _ next is in
      let gap = then_ok (gap_by judged table c r) _ next so.2 in
      let event = sending_by c (next_entry gap.0) (Sent side message) (tied judged c gap.0) in
      by judged refl (message_by table c side message event gap.0) gap.2
      (λ made sent. message_keeps side message event gap.0 made sent (gap_keeps r gap.0 gap.1 holds))
    where
      by : (who : Option Side) → judged ≡ who → (sent : Result Replay CheckFault) → after_sending who sent ≡ Ok next
          → ((made : Replay) → sent ≡ Ok made → Holds made) → Holds next
      by None same sent e holds = holds next e
      by (Some end) same sent e holds =
          let made = then_ok sent _ next e in same_keeps _ next made.2 (kept.all end made.0 same (holds made.0 made.1))

  -- ---- a quiet mark

  pub closed_keeps : (side : Side) (mark : ℕ) (names : List HalfName) (r next : Replay) → closed_at_mark table side mark names r ≡ Ok next → Keeps r next
  closed_keeps side mark [] r next is holds = same_keeps r next is holds
  closed_keeps side mark (name ∷ more) r next is holds =
      let one = then_ok (ok_or (stepped table (Closes side name) r) (fault_at NotQuiet mark)) (closed_at_mark table side mark more) next is in
      closed_keeps side mark more one.0 next one.2
      (kept.step (Closes side name) r one.0 refl (some_ok (stepped table (Closes side name) r) (fault_at NotQuiet mark) one.0 one.1) holds)

  mark_keeps : (fate : Fate) (r next : Replay) → mark_judged judged table c fate r ≡ Ok next → Keeps r next
  mark_keeps fate r next is holds =
      let entry = next_entry r in
      let so = needs_ok (is_gap (entry + 1) fate) (fault_at FateRange entry) _ next is in
      let gap = then_ok (gap_by judged table c r) _ next so.1 in
      let free = needs_ok (is_nothing (tied judged c r)) (fault_at NotQuiet entry) _ next gap.2 in
      let closed = then_ok (closed_before judged table entry gap.0) _ next free.1 in
      let before = lost_last judged c closed.0 in
      kept.step Quiet before next refl (some_ok (stepped table Quiet before) (fault_at NotQuiet entry) next closed.2)
      (last_keeps closed.0 (by judged gap.0 closed.0 closed.1 (gap_keeps r gap.0 gap.1 holds)))
    where
      by : (who : Option Side) (behind closed : Replay) → closed_before who table (next_entry r) behind ≡ Ok closed → Keeps behind closed
      by None behind closed e holds = same_keeps behind closed e holds
      by (Some side) behind closed e holds = closed_keeps side (next_entry r) (open_halves (end_at side behind.world)) behind closed e holds

  -- ---- entries

  told_keeps : (side : Side) (fate : Fate) (message : Message) (r next : Replay) → judged ≡ Some side
      → peer_replayed table c fate side message r ≡ Ok next → Keeps r next
  told_keeps side fate message r next who is holds =
      let so = needs_ok (not (is_overtaking (other side) fate c.fates r.world.sent)) (fault_at OutOfOrder (next_entry r)) _ next is in
      let gap = then_ok (gap_by (Some side) table c r) _ next so.1 in
      let free = needs_ok (is_nothing (tied (Some side) c r)) (fault_at BadReply (next_entry r)) _ next gap.2 in
      let told = with_step (Tells (other side) message) gap.0 (joined (other side) message gap.0.world) in
      let there : gap_by judged table c r ≡ Ok gap.0 = ap (λ (x : Option Side). gap_by x table c r) who ∙ gap.1 in
      same_keeps told next free.1 (kept.step (Tells (other side) message) gap.0 told refl refl (gap_keeps r gap.0 there holds))

  item_keeps : (fate : Fate) (item : Item) (r next : Replay) → item_by judged table c fate item r ≡ Ok next → Keeps r next
  item_keeps fate Item.Quiet r next is = mark_keeps fate r next is
  item_keeps fate (Sent sender message) r next is = by judged refl is
    where
      by : (who : Option Side) → judged ≡ who → item_by who table c fate (Sent sender message) r ≡ Ok next → Keeps r next
      by None who e = own_keeps fate sender message r next (ap (λ (x : Option Side). own_judged x table c fate sender message r) who ∙ e)
      by (Some side) who e = of (is_side side sender) e
        where
          of : (b : Bool) → cond b (own_judged (Some side) table c fate side message r) (peer_replayed table c fate side message r) ≡ Ok next
              → Keeps r next
          of true e = own_keeps fate side message r next (ap (λ (x : Option Side). own_judged x table c fate side message r) who ∙ e)
          of false e = told_keeps side fate message r next who e

  entry_keeps : (entry : Result Item Reason) (fate : Fate) (r next : Replay) → entry_by judged table c fate entry r ≡ Ok next → Keeps r next
  entry_keeps (Ok item) fate r next is holds = item_keeps fate item r next is holds
  entry_keeps (Err reason) fate r next is holds = cc

  pub entries_keep : (entries : List (Result Item Reason)) (r next : Replay) → entries_by judged table c entries r ≡ Ok next → Keeps r next
  entries_keep [] r next is holds =
      let so = needs_ok (next_entry r == length c.fates) (fault_at FateCount (next_entry r)) _ next is in gap_keeps r next so.1 holds
  entries_keep (entry ∷ entries) r next is holds =
      let fate = then_ok (ok_or (slice_get c.fates (next_entry r)) (fault_at FateCount (next_entry r))) _ next is in
      let one = then_ok (entry_by judged table c fate.0 entry r) _ next fate.2 in
      entries_keep entries one.0 next one.2 (entry_keeps entry fate.0 r one.0 one.1 holds)

  -- entries that are followed by more
  pub taken_keeps : (entries : List (Result Item Reason)) (r next : Replay) → taken_from judged table c entries r ≡ Ok next → Keeps r next
  taken_keeps [] r next is holds = same_keeps r next is holds
  taken_keeps (entry ∷ entries) r next is holds =
      let one = then_ok (taken_next judged table c entry r) (taken_from judged table c entries) next is in
      let fate = then_ok (ok_or (slice_get c.fates (next_entry r)) (fault_at FateCount (next_entry r))) _ one.0 one.1 in
      taken_keeps entries one.0 next one.2 (entry_keeps entry fate.0 r one.0 fate.2 holds)

-- ---- discards

-- If both ends are judged, nothing is discarded. If one end is judged alone, only messages whose fates are gaps are.
module _ (judged : Option Side) (table : Table) (c : Certificate) where
  -- All discards so far are allowed.
  abbrev AllMay : Replay → Type 0
  AllMay r = MayAllBeDiscarded judged c r.discards

  step_may : (event : Event) (r next : Replay) → stepped table event r ≡ Some next → AllMay r → AllMay next
  step_may event r next is may = let found = map_some _ (after table event r.world) next is in subst AllMay found.2 may

  each_may : (number : ℕ) (reasons : List EndFault) → MayBeDiscarded judged c number
      → MayAllBeDiscarded judged c (map (λ reason. (number, reason)) reasons)
  each_may number [] this = tt
  each_may number (reason ∷ reasons) this = (this, each_may number reasons this)

  -- A message is discarded, and this is allowed.
  discarded_may : (side : Side) (number : ℕ) (r next : Replay) → MayBeDiscarded judged c number
      → discarded table side number r ≡ Some next → AllMay r → AllMay next
  discarded_may side number r next this is may =
      let found = map_some _ (stepped table (Loses (other side) number) r) next is in
      let reasons = first_receive_refusal table (end_at side r.world) (channel_from (other side) r.world) in
      subst AllMay found.2
      (all_both (λ (x : ℕ × EndFault). MayBeDiscarded judged c x.0) found.0.discards (map (λ reason. (number, reason)) reasons)
      (step_may (Loses (other side) number) r found.0 found.1 may) (each_may number reasons this))

  -- A message is received or discarded.
  heard_may : (side : Side) (number : ℕ) (r next : Replay) → MayBeDiscarded judged c number
      → delivered table c side number r ≡ Ok next → AllMay r → AllMay next
  heard_may side number r next this is may =
      by (stepped table (Receives side number) before) refl
      (some_ok (option_or (stepped table (Receives side number) before) (discarded table side number before)) (fault_at BadReply number) next is)
    where
      before : Replay
      before = lost_from_front c (other side) r

      by : (o : Option Replay) → stepped table (Receives side number) before ≡ o
          → option_or o (discarded table side number before) ≡ Some next → AllMay next
      by (Some x) at found = step_may (Receives side number) before next (at ∙ found) may
      by None at found = discarded_may side number before next this found may

  may_kept : IsKept judged table c AllMay
  may_kept = record {
    step = λ event r next plain. step_may event r next;
    front = λ sender r may. may;
    all = λ side r who may. may;
    hears = λ side number gap r next who at.
        heard_may side number r next (subst (λ (x : Option Side). MayBeDiscarded x c number) (sym who) (gap, at));
  }

-- All discards of a record are allowed.
pub all_may : (judged : Option Side) (table : Table) (c : Certificate) (entries : List (Result Item Reason)) (discards : List (ℕ × EndFault))
    → discards_by judged table c entries ≡ Ok discards → MayAllBeDiscarded judged c discards
all_may judged table c entries discards is =
    let fits = both_ok (certificate_fits c) _ discards is in
    let made = then_ok (entries_by judged table c entries nothing_replayed) _ discards fits.2 in
    let may = AllMay judged table c in
    let kept = may_kept judged table c in
    subst (MayAllBeDiscarded judged c) (ok_same {F = CheckFault} (lost_last judged c made.0).discards discards made.2)
    (last_keeps judged table c may kept made.0 (entries_keep judged table c may kept entries nothing_replayed made.0 made.1 tt))
