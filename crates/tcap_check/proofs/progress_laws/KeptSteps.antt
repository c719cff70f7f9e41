-- How each step of a replay, a gap, and an item change the count of messages that wait for judged ends.
use Rattle.std.proofs.Common.{◌≡◌, ℕ, ◌+◌, ◌==◌, arith, Bool, true, false, cond, nat_le, List, [], ◌∷◌, length, Option, Some, None, Result, Ok, Err, refl, sym, ap, ap₂, ◌∙◌}
use Rattle.std.specs.Option.{option_or}
use Rattle.std.specs.Prelude.{◌&&◌, ok_or, slice_get}
use Rattle.std.proofs.lemmas.Bool.{eqb-false}
use Rattle.tcap_msg.specs.declared.message.Message.{Message}
use Rattle.tcap_record.specs.declared.entry.End.{End as Side}
use Rattle.tcap_record.specs.declared.entry.End.TheVariants as sides
use Rattle.tcap_end.specs.declared.fault.EndFault.{EndFault}
use Rattle.tcap_end.specs.declared.half.HalfName.{HalfName}
use Rattle.tcap_end.specs.Table.{Table}
use Rattle.tcap_end.specs.End.{End}
use Rattle.tcap_end.specs.HiddenSteps.{open_halves}
use Rattle.tcap_end.specs.Message.{send}
use Rattle.tcap_end.specs.Step.{◌>>=◌}
use Rattle.tcap_end.proofs.AnsweringLaws.{needs_ok, ok_same, some_ok, then_ok}
use Rattle.tcap_certificate.specs.declared.fault.CheckFault.{CheckFault}
use Rattle.tcap_model.specs.declared.reason.Reason.TheVariants.{BadReply, NotQuiet}
use Rattle.tcap_certificate.specs.declared.certificate.Fate.{Fate}
use Rattle.tcap_certificate.specs.declared.certificate.Fate.TheVariants.{Gap, Lost, By}
use Rattle.tcap_record.specs.Ends.{other}
use Rattle.tcap_model.specs.World.{Item, MessageInTransit, Sent, World, channel_from, end_at, with_channel, with_end}
use Rattle.tcap_model.specs.Run.{Sends, Receives, Replies, Loses, Closes, Quiet, after, joined}
use Rattle.tcap_certificate.specs.Certificate.{Certificate}
use Rattle.tcap_certificate.specs.DescribedRun.{invoking_half, sending_by}
use Rattle.tcap_certificate.specs.Replay.{Replay, all_lost_from, after_sending, closed_at_mark, closed_before, deliveries_by, discarded, fault_at, gap_by, after_event, delivered, implied_over, is_abort, lost_from_front, lost_last, message_by, next_entry, received, send_replayed, sent_or_refused, stepped, with_step}
use Rattle.tcap_check.proofs.replay_laws.ReplaySteps.{discard_is, waiting, sending_so}
use Rattle.tcap_check.specs.ReplaySteps.{is_received_from}
use Rattle.tcap_model.proofs.RunLaws.{delivery, loss, map_some, quiet as quiet_step, reply}
use Rattle.tcap_check.proofs.progress_laws.KeptCounts.{count_behind, count_for, counts_same, is_next, joined_waits, losses_wait, new_by, not_next, taken_waits}
use Rattle.tcap_check.proofs.progress_laws.KeptDeliveries.{due_is}
use Rattle.tcap_model.proofs.WorldLaws.{peer_stays}
use Rattle.tcap_check.proofs.progress_laws.KeptStays.{Stays, closes_stays, implied_over_stays, stays_same, stays_then, listed_stay}
use Rattle.tcap_model.proofs.WorldLaws.{itself, sent_with_channel, sent_with_end}
use Rattle.tcap_check.specs.ListedSteps.{listed_for}
use Rattle.tcap_check.proofs.replay_laws.ReplayGaps.{gap_parts}

-- ---- steps

-- If nothing is lost, sent or taken, as many messages wait.
stays_wait : (judged : Option Side) (c : Certificate) (r next : Replay) → Stays r next
    → count_for judged c.fates next.world ≡ count_for judged c.fates r.world
stays_wait judged c r next stays = counts_same judged c.fates r.world next.world (λ side. ap (waiting c.fates) (stays.channels side))

-- If only an end changes, as many messages wait.
end_waits : (judged : Option Side) (fates : List Fate) (side : Side) (e : End) (w : World)
    → count_for judged fates (with_end side e w) ≡ count_for judged fates w
end_waits judged fates side e w = counts_same judged fates w (with_end side e w) (by side)
  where
    by : (side at : Side) → waiting fates (channel_from at (with_end side e w)) ≡ waiting fates (channel_from at w)
    by sides.A sides.A = refl
    by sides.A sides.B = refl
    by sides.B sides.A = refl
    by sides.B sides.B = refl

module _ (judged : Option Side) (table : Table) (c : Certificate) where
  -- A message that is received was waiting.
  receives_wait : (side : Side) (number : ℕ) (before next : Replay) (r : Replay) → is_received_from judged (other side) ≡ true
      → before ≡ lost_from_front c (other side) r → stepped table (Receives side number) before ≡ Some next
      → count_for judged c.fates next.world + 1 ≡ count_for judged c.fates r.world
  receives_wait side number before next r so same is =
      let found = map_some _ (after table (Receives side number) before.world) next is in
      let d = delivery table side number before.world found.0 found.1 in
      ap (λ (x : Replay). count_for judged c.fates x.world + 1) (sym found.2)
      ∙ ap (λ (x : World). count_for judged c.fates x + 1) d.next_is
      ∙ ap (λ (n : ℕ). n + 1) (end_waits judged c.fates side d.made (with_channel (other side) d.more before.world))
      ∙ ap (λ (x : Replay). count_for judged c.fates (with_channel (other side) d.more x.world) + 1) same
      ∙ taken_waits judged c (other side) r d.head d.more so (ap (λ (x : Replay). channel_from (other side) x.world) (sym same) ∙ d.channel)

  -- A message that is answered was waiting, and the answer joins.
  replies_wait : (side : Side) (message : Message) (number : ℕ) (r next : Replay) → is_received_from judged (other side) ≡ true
      → message_by table c side message (Some (Replies side number)) r ≡ Ok next
      → count_for judged c.fates next.world + 1
      ≡ count_for judged c.fates r.world + cond (is_received_from judged side) (new_by (slice_get c.fates (next_entry r))) 0
  replies_wait side message number r next so is =
      let event = Replies side number in
      let before = lost_from_front c (other side) r in
      let happened = then_ok (after_event table c event BadReply (next_entry r) r) _ next is in
      let is_it = needs_ok (is_abort message (slice_get happened.0.world.sent (next_entry r))) (fault_at BadReply (next_entry r)) _ next happened.2 in
      let last : happened.0 ≡ next = ok_same {F = CheckFault} happened.0 next is_it.1 in
      let step = some_ok (stepped table event before) (fault_at BadReply (next_entry r)) happened.0 happened.1 in
      let found = map_some _ (after table event before.world) happened.0 step in
      let a = reply table side number before.world found.0 found.1 in
      let left = with_channel (other side) a.more before.world in
      let sent : left.sent ≡ r.world.sent =
      sent_with_channel (other side) a.more before.world ∙ sent_with_channel (other side) _ r.world in
      let next_is : count_for judged c.fates next.world
      ≡ count_for judged c.fates left + cond (is_received_from judged side) (new_by (slice_get c.fates (next_entry r))) 0 =
      ap (λ (x : Replay). count_for judged c.fates x.world) (sym (found.2 ∙ last))
      ∙ ap (count_for judged c.fates) a.next_is
      ∙ joined_waits judged c.fates side a.abort left
      ∙ ap (λ (x : List Item). count_for judged c.fates left + cond (is_received_from judged side) (new_by (slice_get c.fates (length x))) 0) sent in
      let was = taken_waits judged c (other side) r a.head a.more so a.channel in
      omega (arith, next_is, was)

  -- Neither before nor after a quiet mark does a message wait.
  quiet_waits : (r next : Replay) → stepped table Quiet r ≡ Some next
      → (count_for judged c.fates r.world ≡ 0) × (count_for judged c.fates next.world ≡ 0)
  quiet_waits r next is =
      let found = map_some _ (after table Quiet r.world) next is in
      let q = quiet_step table r.world found.0 found.1 in (
        none judged r.world q.from_a q.from_b,
        ap (λ (x : Replay). count_for judged c.fates x.world) (sym found.2) ∙ ap (count_for judged c.fates) q.next_is
            ∙ none judged _ refl refl,
      )
    where
      none : (judged : Option Side) (w : World) → w.from_a ≡ [] → w.from_b ≡ [] → count_for judged c.fates w ≡ 0
      none None w a b = ap₂ (λ (x y : List MessageInTransit). length (waiting c.fates x) + length (waiting c.fates y)) a b
      none (Some sides.A) w a b = ap (λ (x : List MessageInTransit). length (waiting c.fates x)) b
      none (Some sides.B) w a b = ap (λ (x : List MessageInTransit). length (waiting c.fates x)) a

-- A message that an end receives, or discards if it is judged alone, was waiting.
heard_waits : (table : Table) (c : Certificate) (side : Side) (n : ℕ) (r next : Replay) → delivered table c side n r ≡ Ok next
    → count_for (Some side) c.fates next.world + 1 ≡ count_for (Some side) c.fates r.world
heard_waits table c side n r next is =
    by (stepped table (Receives side n) before) refl
    (some_ok (option_or (stepped table (Receives side n) before) (discarded table side n before)) (fault_at BadReply n) next is)
  where
    before : Replay
    before = lost_from_front c (other side) r

    by : (o : Option Replay) → stepped table (Receives side n) before ≡ o
        → option_or o (discarded table side n before) ≡ Some next
        → count_for (Some side) c.fates next.world + 1 ≡ count_for (Some side) c.fates r.world
    by (Some x) at found = receives_wait (Some side) table c side n before next r (itself (other side)) refl (at ∙ found)
    by None at found =
        let event = Loses (other side) n in
        let d = discard_is table side n before next found in
        let step = map_some _ (after table event before.world) d.lost d.step in
        let l = loss table (other side) n before.world step.0 step.1 in
        ap (λ (x : World). count_for (Some side) c.fates x + 1) d.world
        ∙ ap (λ (x : Replay). count_for (Some side) c.fates x.world + 1) (sym step.2)
        ∙ ap (λ (x : World). count_for (Some side) c.fates x + 1) l.next_is
        ∙ taken_waits (Some side) c (other side) r l.head l.more (itself (other side)) l.channel

received_waits : (judged : Option Side) (table : Table) (c : Certificate) (sender : Side) (n : ℕ) (r next : Replay)
    → received judged table c sender n r ≡ Ok next
    → count_for judged c.fates next.world + 1 ≡ count_for judged c.fates r.world
received_waits None table c sides.A n r next is =
    receives_wait None table c sides.B n (lost_from_front c sides.A r) next r refl refl (some_ok _ (fault_at BadReply n) next is)
received_waits None table c sides.B n r next is =
    receives_wait None table c sides.A n (lost_from_front c sides.B r) next r refl refl (some_ok _ (fault_at BadReply n) next is)
received_waits (Some judged) table c sender n r next is = heard_waits table c judged n r next is

-- ---- a gap

-- What a gap delivers is no longer counted after it.
deliveries_wait : (judged : Option Side) (table : Table) (c : Certificate) (gap n : ℕ) (fates : List Fate) (items : List Item)
    (r next : Replay) → deliveries_by judged table c gap n fates items r ≡ Ok next
    → count_for judged c.fates next.world + count_behind judged gap gap fates items
    ≡ count_for judged c.fates r.world + count_behind judged (gap + 1) gap fates items
deliveries_wait judged table c gap n [] items r next is =
    ap (λ (x : Replay). count_for judged c.fates x.world + 0) (sym (ok_same {F = CheckFault} r next is))
deliveries_wait judged table c gap n (fate ∷ fates) [] r next is =
    ap (λ (x : Replay). count_for judged c.fates x.world + count_behind judged gap gap (fate ∷ fates) [])
    (sym (ok_same {F = CheckFault} r next is))
deliveries_wait judged table c gap n (Gap g ∷ fates) (Item.Quiet ∷ items) r next is =
    deliveries_wait judged table c gap (n + 1) fates items r next is
deliveries_wait judged table c gap n (By k ∷ fates) (Item.Quiet ∷ items) r next is =
    deliveries_wait judged table c gap (n + 1) fates items r next is
deliveries_wait judged table c gap n (Lost ∷ fates) (Item.Quiet ∷ items) r next is =
    deliveries_wait judged table c gap (n + 1) fates items r next is
deliveries_wait judged table c gap n (fate ∷ fates) (Sent sender message ∷ items) r next is =
    by fate (λ mid. deliveries_wait judged table c gap (n + 1) fates items mid next) is
  where
    old : ℕ
    old = count_behind judged gap gap fates items

    new : ℕ
    new = count_behind judged (gap + 1) gap fates items

    last : ℕ
    last = count_for judged c.fates next.world

    Rest : Replay → Type 0
    Rest mid = deliveries_by judged table c gap (n + 1) fates items mid ≡ Ok next → last + old ≡ count_for judged c.fates mid.world + new

    still : (b : Bool) → last + old ≡ count_for judged c.fates r.world + new
        → last + cond b (old + 1) old ≡ count_for judged c.fates r.world + cond b (new + 1) new
    still true rest = omega (arith, rest)
    still false rest = rest

    due : (g : ℕ) (b : Bool) → (g == gap) ≡ b → (so : Bool) → is_received_from judged sender ≡ so → ((mid : Replay) → Rest mid)
        → (cond (b && so) (received judged table c sender n r) (Ok r) >>= deliveries_by judged table c gap (n + 1) fates items) ≡ Ok next
        → last + cond (is_received_from judged sender && nat_le gap g) (old + 1) old
        ≡ count_for judged c.fates r.world + cond (is_received_from judged sender && nat_le (gap + 1) g) (new + 1) new
    due g true e true told on goes =
        let one = then_ok (received judged table c sender n r) _ next goes in
        let took = received_waits judged table c sender n r one.0 one.1 in
        let rest = on one.0 one.2 in
        let at = is_next gap g e in
        rw (told, at.0, at.1) (omega (arith, took, rest))
    due g true e false told on goes = rw told (on r goes)
    due g false e true told on goes = rw (told, not_next gap g (eqb-false g gap e)) (still (nat_le (gap + 1) g) (on r goes))
    due g false e false told on goes = rw told (on r goes)

    by : (fate : Fate) → ((mid : Replay) → Rest mid)
        → deliveries_by judged table c gap n (fate ∷ fates) (Sent sender message ∷ items) r ≡ Ok next
        → last + count_behind judged gap gap (fate ∷ fates) (Sent sender message ∷ items)
        ≡ count_for judged c.fates r.world + count_behind judged (gap + 1) gap (fate ∷ fates) (Sent sender message ∷ items)
    by (Gap g) on e =
        due g (g == gap) refl (is_received_from judged sender) refl on
        (ap (λ (x : Bool). cond x (received judged table c sender n r) (Ok r) >>= deliveries_by judged table c gap (n + 1) fates items)
        (sym (due_is judged gap g sender)) ∙ e)
    by (By k) on e = still (is_received_from judged sender && nat_le gap k) (on r e)
    by Lost on e = still (is_received_from judged sender && false) (on r e)

-- The gap before the next entry.
pub gap_waits : (judged : Option Side) (table : Table) (c : Certificate) (r next : Replay) → gap_by judged table c r ≡ Ok next
    → count_for judged c.fates next.world + count_behind judged (next_entry r) (next_entry r) c.fates r.world.sent
    ≡ count_for judged c.fates r.world + count_behind judged (next_entry r + 1) (next_entry r) c.fates r.world.sent
gap_waits judged table c r next is =
    let gap = next_entry r in
    let parts = gap_parts judged table c r next is in
    deliveries_wait judged table c gap 0 c.fates r.world.sent parts.0 next parts.2
    ∙ ap (λ (n : ℕ). n + count_behind judged (gap + 1) gap c.fates r.world.sent)
    (stays_wait judged c r parts.0 (listed_stay table c (listed_for judged c gap) r parts.0 parts.1))

-- ---- an item

-- A message that is sent joins.
sends_wait : (judged : Option Side) (table : Table) (c : Certificate) (side : Side) (message : Message) (r next : Replay)
    → send_replayed table side message (implied_over table side message (invoking_half message) r) ≡ Ok next
    → count_for judged c.fates next.world
    ≡ count_for judged c.fates r.world + cond (is_received_from judged side) (new_by (slice_get c.fates (next_entry r))) 0
sends_wait judged table c side message r next is = by (send table (end_at side mid.world) message) is
  where
    mid : Replay
    mid = implied_over table side message (invoking_half message) r

    new_at : List Item → ℕ
    new_at items = cond (is_received_from judged side) (new_by (slice_get c.fates (length items))) 0

    by : (o : Result End EndFault) → sent_or_refused side message mid o ≡ Ok next
        → count_for judged c.fates next.world ≡ count_for judged c.fates r.world + new_at r.world.sent
    by (Err reason) e = cc
    by (Ok made) e =
        let stays = implied_over_stays table side message (invoking_half message) r in
        let world = with_end side made mid.world in
        let same = ok_same {F = CheckFault} (with_step (Sends side message) mid (joined side message world)) next e in
        ap (λ (x : Replay). count_for judged c.fates x.world) (sym same)
        ∙ joined_waits judged c.fates side message world
        ∙ ap₂ (λ (n : ℕ) (x : List Item). n + new_at x)
        (end_waits judged c.fates side made mid.world ∙ stays_wait judged c r mid stays)
        (sent_with_end side made mid.world ∙ stays.sent)

-- A message of a judged end joins, and what it takes was waiting.
pub message_waits : (judged : Option Side) (table : Table) (c : Certificate) (side : Side) (message : Message) (takes : List ℕ)
    (r next : Replay) → is_received_from judged (other side) ≡ true
    → message_by table c side message (sending_by c (next_entry r) (Sent side message) takes) r ≡ Ok next
    → count_for judged c.fates next.world + length takes
    ≡ count_for judged c.fates r.world + cond (is_received_from judged side) (new_by (slice_get c.fates (next_entry r))) 0
message_waits judged table c side message takes r next so is =
    sending_so (λ takes o. message_by table c side message o r ≡ Ok next
    → count_for judged c.fates next.world + length takes ≡ joins) c (next_entry r) side message
    (λ e. let same = sends_wait judged table c side message r next e in omega (arith, same))
    (λ taken e. replies_wait judged table c side message taken r next so e) (λ takes e. cc) takes is
  where
    joins : ℕ
    joins = count_for judged c.fates r.world + cond (is_received_from judged side) (new_by (slice_get c.fates (next_entry r))) 0

-- A message of an end that is judged alone does not count, so its loss changes nothing.
pub sent_waits : (judged : Option Side) (c : Certificate) (step : Result Replay CheckFault) (next : Replay)
    → after_sending judged step ≡ Ok next
    → (made : Replay) × (step ≡ Ok made) × (count_for judged c.fates next.world ≡ count_for judged c.fates made.world)
sent_waits None c step next is = (next, is, refl)
sent_waits (Some judged) c step next is =
    let made = then_ok step _ next is in (
      made.0,
      made.1,
      ap (λ (x : Replay). count_for (Some judged) c.fates x.world) (sym (ok_same {F = CheckFault} (all_lost_from judged made.0) next made.2))
          ∙ ap (λ (x : List MessageInTransit). length (waiting c.fates x)) (peer_stays judged _ made.0.world),
    )

-- ---- a quiet mark

closed_stay : (table : Table) (side : Side) (mark : ℕ) (names : List HalfName) (r next : Replay)
    → closed_at_mark table side mark names r ≡ Ok next → Stays r next
closed_stay table side mark [] r next is = stays_same r next (ok_same {F = CheckFault} r next is)
closed_stay table side mark (name ∷ more) r next is =
    let one = then_ok (ok_or (stepped table (Closes side name) r) (fault_at NotQuiet mark)) (closed_at_mark table side mark more) next is in
    let step = some_ok (stepped table (Closes side name) r) (fault_at NotQuiet mark) one.0 one.1 in
    stays_then r one.0 next (closes_stays table side name r one.0 step) (closed_stay table side mark more one.0 next one.2)

pub before_stays : (judged : Option Side) (table : Table) (mark : ℕ) (r next : Replay) → closed_before judged table mark r ≡ Ok next → Stays r next
before_stays None table mark r next is = stays_same r next (ok_same {F = CheckFault} r next is)
before_stays (Some judged) table mark r next is = closed_stay table judged mark (open_halves (end_at judged r.world)) r next is

last_waits : (judged : Option Side) (c : Certificate) (r : Replay)
    → count_for judged c.fates (lost_last judged c r).world ≡ count_for judged c.fates r.world
last_waits None c r = losses_wait None c sides.B (lost_from_front c sides.A r) ∙ losses_wait None c sides.A r
last_waits (Some judged) c r = losses_wait (Some judged) c (other judged) r

-- After the gap before a quiet mark no message waits, nor after the mark.
pub mark_waits : (judged : Option Side) (table : Table) (c : Certificate) (mark : ℕ) (r next : Replay)
    → (closed_before judged table mark r >>= λ closed. ok_or (stepped table Quiet (lost_last judged c closed)) (fault_at NotQuiet mark)) ≡ Ok next
    → (count_for judged c.fates r.world ≡ 0) × (count_for judged c.fates next.world ≡ 0)
mark_waits judged table c mark r next is =
    let closed = then_ok (closed_before judged table mark r) _ next is in
    let before = lost_last judged c closed.0 in
    let step = some_ok (stepped table Quiet before) (fault_at NotQuiet mark) next closed.2 in
    let none = quiet_waits judged table c before next step in
    let stays = stays_wait judged c r closed.0 (before_stays judged table mark r closed.0 closed.1) in
    (sym stays ∙ sym (last_waits judged c closed.0) ∙ none.0, none.1)
