-- The messages that wait after some entries are those whose fates are still to come. At the end no message waits.
use Rattle.std.proofs.Common.{◌≡◌, ℕ, ◌+◌, arith, Bool, true, false, cond, List, [], ◌∷◌, ◌++◌, map, length, Option, Some, None, Result, Ok, Err, refl, sym, ap, ap₂, subst, ◌∙◌, append_assoc, append-nil}
use Rattle.std.specs.Prelude.{ok_or, not, slice_get}
use Rattle.std.proofs.lemmas.List.{length-append, length-map, map-append}
use Rattle.tcap_msg.specs.declared.message.Message.{Message}
use Rattle.tcap_record.specs.declared.entry.End.{End as Side}
use Rattle.tcap_record.specs.declared.entry.End.TheVariants as sides
use Rattle.tcap_end.specs.Table.{Table}
use Rattle.tcap_end.specs.Step.{◌>>◌}
use Rattle.tcap_end.proofs.AnsweringLaws.{needs_ok, ok_same, some_ok, then_ok}
use Rattle.tcap_certificate.specs.declared.fault.CheckFault.{CheckFault}
use Rattle.tcap_model.specs.declared.reason.Reason.{Reason}
use Rattle.tcap_model.specs.declared.reason.Reason.TheVariants.{BadReply, FateCount, FateRange, NotQuiet, OutOfOrder}
use Rattle.tcap_certificate.specs.declared.certificate.Fate.{Fate}
use Rattle.tcap_certificate.specs.declared.certificate.Fate.TheVariants.{Gap, Lost, By}
use Rattle.tcap_record.specs.Ends.{other}
use Rattle.tcap_model.specs.World.{Item, MessageInTransit, Sent}
use Rattle.tcap_model.specs.Run.{Tells, joined}
use Rattle.tcap_certificate.specs.Certificate.{Certificate}
use Rattle.tcap_certificate.specs.DescribedRun.{FatesFit, taken_by}
use Rattle.tcap_certificate.specs.Replay.{Replay, certificate_fits, comes_in_order, entry_by, fates_fit, fault_at, gap_by, is_gap, is_nothing, is_overtaking, item_by, mark_judged, next_entry, nothing_replayed, own_judged, own_message, tied, peer_replayed, with_step}
use Rattle.tcap_check.specs.Progress.{count_kept}
use Rattle.tcap_check.specs.CheckerMeaning.{count_ahead, count_waiting, is_alone, kept_by, progress_of, taken, taken_from, taken_next, waiting_at}
use Rattle.tcap_check.specs.ReplaySteps.{is_received_from}
use Rattle.tcap_check.proofs.refusal_laws.PendingLaws.{IsAhead, ahead}
use Rattle.tcap_check.proofs.replay_laws.ReplayEntries.{nothing_is}
use Rattle.tcap_check.proofs.replay_laws.ReplayGaps.{fates_ok}
use Rattle.tcap_check.proofs.progress_laws.KeptCounts.{AreMarks, ahead_is, count_behind, count_for, heard_among, joined_waits, mark_behind, marks_quiet, marks_sent, new_behind, new_by, ok_item, one_behind, replies_behind}
use Rattle.tcap_check.proofs.replay_laws.ReplaySteps.{waiting, waiting_by}
use Rattle.tcap_check.proofs.progress_laws.KeptSteps.{gap_waits, mark_waits, message_waits, sent_waits}
use Rattle.tcap_check.proofs.progress_laws.KeptEntries.{gap_sends, item_sends, tied_still}

-- ---- a certificate in range

pub both_ok : {B F : Type 0} (step : Result (Unit {0}) F) (rest : Result B F) {x : B} → (step >> rest) ≡ Ok x
    → (step ≡ Ok tt) × (rest ≡ Ok x)
both_ok (Ok tt) rest is = (refl, is)
both_ok (Err reason) rest is = cc

pub fit_by : (c : Certificate) → certificate_fits c ≡ Ok tt → FatesFit (length c.fates) 0 c.fates
fit_by c is = fates_ok (length c.fates) 0 c.fates (both_ok (fates_fit (length c.fates) 0 c.fates) _ is).0

-- ---- entries, one by one

-- After some entries, the messages wait whose fates are still to come, and no quiet mark has a reply as its fate.
record Waits (judged : Option Side) (c : Certificate) (r : Replay) : Type 0 where
  waits : count_for judged c.fates r.world ≡ count_behind judged (next_entry r) (next_entry r) c.fates r.world.sent
  marks : AreMarks c.fates r.world.sent

-- The messages to judged ends that the next entry takes.
tied_is : (judged : Option Side) (c : Certificate) (r : Replay)
    → tied judged c r ≡ heard_among judged r.world.sent (taken_by (next_entry r) 0 c.fates)
tied_is None c r = refl
tied_is (Some judged) c r = refl

module _ (judged : Option Side) (table : Table) (c : Certificate) (r next : Replay) (fate : Fate) (fit : FatesFit (length c.fates) 0 c.fates)
    (has : slice_get c.fates (next_entry r) ≡ Some fate) (old : Waits judged c r) where
  abbrev n : ℕ
  n = next_entry r

  abbrev new : Side → ℕ
  new side = cond (is_received_from judged side) (new_by (Some fate)) 0

  -- After the gap, not counting what the entry takes.
  behind_gap : (mid : Replay) → gap_by judged table c r ≡ Ok mid
      → count_for judged c.fates mid.world ≡ count_behind judged (n + 1) (n + 1) c.fates r.world.sent + length (tied judged c r)
  behind_gap mid is =
      let gap = gap_waits judged table c r mid is in
      let replies = replies_behind judged r.world.sent (length c.fates) (n + 1) n 0 c.fates r.world.sent fit old.marks
      (λ i. let same : 0 + i ≡ i = omega arith in ap (slice_get r.world.sent) same) (omega arith) in
      let takes = ap (length {A = ℕ}) (tied_is judged c r) in
      let waits = old.waits in
      omega (arith, gap, replies, waits, takes)

  -- One more message waits, unless it will be lost.
  one_more : (side : Side) (message : Message) → next.world.sent ≡ r.world.sent ++ Sent side message ∷ []
      → count_for judged c.fates next.world ≡ count_behind judged (n + 1) (n + 1) c.fates r.world.sent + new side → Waits judged c next
  one_more side message sent waits =
      let zero_n : 0 + n ≡ n = omega arith in
      let later : IsAhead n fate = subst (λ (k : ℕ). IsAhead k fate) zero_n (ahead (length c.fates) 0 n c.fates fate fit has) in
      let number : next_entry next ≡ n + 1 = ap length sent ∙ length-append r.world.sent (Sent side message ∷ []) in
      let one = one_behind judged (n + 1) (n + 1) c.fates r.world.sent side message fate has in
      let joins = new_behind (is_received_from judged side) n fate later in
      let behind : count_behind judged (next_entry next) (next_entry next) c.fates next.world.sent
      ≡ count_behind judged (n + 1) (n + 1) c.fates (r.world.sent ++ Sent side message ∷ []) =
      ap (λ (k : ℕ). count_behind judged k k c.fates next.world.sent) number
      ∙ ap (count_behind judged (n + 1) (n + 1) c.fates) sent in
      record {
        waits = omega (arith, waits, one, joins, behind);
        marks = subst (AreMarks c.fates) (sym sent) (marks_sent c.fates r.world.sent side message old.marks);
      }

  -- `Waits` holds after a message of a judged end.
  own_waits : (side : Side) (message : Message) → is_received_from judged (other side) ≡ true
      → own_judged judged table c fate side message r ≡ Ok next
      → next.world.sent ≡ r.world.sent ++ Sent side message ∷ [] → Waits judged c next
  own_waits side message so is sent =
      let order = both_ok (comes_in_order judged side fate c r) _ is in
      let gap = then_ok (gap_by judged table c r) _ next order.1 in
      let made = sent_waits judged c (own_message judged table c side message gap.0) next gap.2 in
      let waits = behind_gap gap.0 gap.1 in
      let still = gap_sends judged table c r gap.0 gap.1 in
      let took = message_waits judged table c side message (tied judged c gap.0) gap.0 made.0 so made.1 in
      let takes = ap (length {A = ℕ}) (tied_still judged c r gap.0 still) in
      let fate_is : cond (is_received_from judged side) (new_by (slice_get c.fates (next_entry gap.0))) 0 ≡ new side =
      ap (λ (o : Option Fate). cond (is_received_from judged side) (new_by o) 0) (ap (λ (items : List Item). slice_get c.fates (length items)) still ∙ has) in
      let left = made.2 in
      one_more side message sent (omega (arith, waits, took, takes, fate_is, left))

  -- `Waits` holds after a message of the peer of an end that is judged alone.
  told_waits : (side : Side) (message : Message) → judged ≡ Some side → peer_replayed table c fate side message r ≡ Ok next
      → next.world.sent ≡ r.world.sent ++ Sent (other side) message ∷ [] → Waits judged c next
  told_waits side message one is sent =
      let so = needs_ok (not (is_overtaking (other side) fate c.fates r.world.sent)) (fault_at OutOfOrder n) _ next is in
      let gap = then_ok (gap_by (Some side) table c r) _ next so.1 in
      let free = needs_ok (is_nothing (tied (Some side) c r)) (fault_at BadReply n) _ next gap.2 in
      let told = with_step (Tells (other side) message) gap.0 (joined (other side) message gap.0.world) in
      let goes : gap_by judged table c r ≡ Ok gap.0 = ap (λ (o : Option Side). gap_by o table c r) one ∙ gap.1 in
      let waits = behind_gap gap.0 goes in
      let none : length (tied judged c r) ≡ 0 =
      ap (λ (o : Option Side). length (tied o c r)) one ∙ ap length (nothing_is (tied (Some side) c r) free.0) in
      let number : slice_get c.fates (length gap.0.world.sent) ≡ Some fate =
      ap (λ (items : List Item). slice_get c.fates (length items)) (gap_sends judged table c r gap.0 goes) ∙ has in
      let joins : count_for judged c.fates next.world ≡ count_for judged c.fates gap.0.world + new (other side) =
      ap (λ (x : Replay). count_for judged c.fates x.world) (sym (ok_same {F = CheckFault} told next free.1))
      ∙ joined_waits judged c.fates (other side) message gap.0.world
      ∙ ap (λ (o : Option Fate). count_for judged c.fates gap.0.world + cond (is_received_from judged (other side)) (new_by o) 0) number in
      one_more (other side) message sent (omega (arith, waits, none, joins))

  -- `Waits` holds after a quiet mark.
  quiet_waits : mark_judged judged table c fate r ≡ Ok next → next.world.sent ≡ r.world.sent ++ Item.Quiet ∷ [] → Waits judged c next
  quiet_waits is sent =
      let so = needs_ok (is_gap (n + 1) fate) (fault_at FateRange n) _ next is in
      let gap = then_ok (gap_by judged table c r) _ next so.1 in
      let free = needs_ok (is_nothing (tied judged c r)) (fault_at NotQuiet n) _ next gap.2 in
      let waits = behind_gap gap.0 gap.1 in
      let none : length (tied judged c r) ≡ 0 = ap length (nothing_is (tied judged c r) free.0) in
      let both = mark_waits judged table c n gap.0 next free.1 in
      let before = both.0 in
      let now = both.1 in
      let number : next_entry next ≡ n + 1 = ap length sent ∙ length-append r.world.sent (Item.Quiet ∷ []) in
      let marked = mark_behind judged (n + 1) (n + 1) c.fates r.world.sent in
      let behind : count_behind judged (next_entry next) (next_entry next) c.fates next.world.sent
      ≡ count_behind judged (n + 1) (n + 1) c.fates (r.world.sent ++ Item.Quiet ∷ []) =
      ap (λ (k : ℕ). count_behind judged k k c.fates next.world.sent) number
      ∙ ap (count_behind judged (n + 1) (n + 1) c.fates) sent in
      record {
        waits = omega (arith, waits, none, before, now, marked, behind);
        marks = subst (AreMarks c.fates) (sym sent) (marks_quiet c.fates r.world.sent fate old.marks has (no_reply so.0));
      }
    where
      no_reply : is_gap (next_entry r + 1) fate ≡ true → (k : ℕ) → fate ≡ By k → ⊥
      no_reply is k e = let here = ap (is_gap (next_entry r + 1)) (sym e) ∙ is in cc

-- `Waits` holds after one more item.
item_waits : (judged : Option Side) (table : Table) (c : Certificate) (fate : Fate) (item : Item) (r next : Replay)
    → FatesFit (length c.fates) 0 c.fates → slice_get c.fates (next_entry r) ≡ Some fate → Waits judged c r
    → item_by judged table c fate item r ≡ Ok next → next.world.sent ≡ r.world.sent ++ item ∷ [] → Waits judged c next
item_waits judged table c fate Item.Quiet r next fit has old is sent = quiet_waits judged table c r next fate fit has old is sent
item_waits None table c fate (Sent side message) r next fit has old is sent =
    own_waits None table c r next fate fit has old side message refl is sent
item_waits (Some judged) table c fate (Sent sender message) r next fit has old is sent = by judged sender old is sent
  where
    by : (judged sender : Side) → Waits (Some judged) c r → item_by (Some judged) table c fate (Sent sender message) r ≡ Ok next
        → next.world.sent ≡ r.world.sent ++ Sent sender message ∷ [] → Waits (Some judged) c next
    by sides.A sides.A old is sent = own_waits (Some sides.A) table c r next fate fit has old sides.A message refl is sent
    by sides.A sides.B old is sent = told_waits (Some sides.A) table c r next fate fit has old sides.A message refl is sent
    by sides.B sides.A old is sent = told_waits (Some sides.B) table c r next fate fit has old sides.B message refl is sent
    by sides.B sides.B old is sent = own_waits (Some sides.B) table c r next fate fit has old sides.B message refl is sent

-- `Waits` holds after these entries.
entries_wait : (judged : Option Side) (table : Table) (c : Certificate) (entries : List (Result Item Reason)) (r next : Replay)
    → FatesFit (length c.fates) 0 c.fates → Waits judged c r → taken_from judged table c entries r ≡ Ok next
    → Waits judged c next × (map ok_item next.world.sent ≡ map ok_item r.world.sent ++ entries)
entries_wait judged table c [] r next fit old is =
    let same = ok_same {F = CheckFault} r next is in
    let are = ap (λ (x : Replay). map ok_item x.world.sent) (sym same) in
    (subst (Waits judged c) same old, are ∙ sym (append-nil (map ok_item r.world.sent)))
entries_wait judged table c (entry ∷ entries) r next fit old is =
    let one = then_ok (taken_next judged table c entry r) (taken_from judged table c entries) next is in
    let fate = then_ok (ok_or (slice_get c.fates (next_entry r)) (fault_at FateCount (next_entry r))) _ one.0 one.1 in
    let has = some_ok (slice_get c.fates (next_entry r)) (fault_at FateCount (next_entry r)) fate.0 fate.1 in
    let here = by entry fate.0 one.0 has fate.2 in
    let rest = entries_wait judged table c entries one.0 next fit here.0 one.2 in (
      rest.0,
      rest.1 ∙ ap (λ (x : List (Result Item Reason)). x ++ entries) here.1
          ∙ append_assoc (map ok_item r.world.sent) (entry ∷ []) entries,
    )
  where
    by : (x : Result Item Reason) (fate : Fate) (mid : Replay) → slice_get c.fates (next_entry r) ≡ Some fate
        → entry_by judged table c fate x r ≡ Ok mid
        → Waits judged c mid × (map ok_item mid.world.sent ≡ map ok_item r.world.sent ++ x ∷ [])
    by (Ok item) fate mid has goes =
        let sent = item_sends judged table c fate item r mid has goes in (
          item_waits judged table c fate item r mid fit has old goes sent,
          ap (map ok_item) sent ∙ map-append ok_item r.world.sent (item ∷ []),
        )
    by (Err reason) fate mid has goes = cc

none_yet : (judged : Option Side) (c : Certificate) → Waits judged c nothing_replayed
none_yet judged c = record { waits = none judged c.fates; marks = no_marks c.fates }
  where
    none : (judged : Option Side) (fates : List Fate) → count_for judged fates nothing_replayed.world ≡ count_behind judged 0 0 fates []
    none None [] = refl
    none None (fate ∷ fates) = refl
    none (Some sides.A) [] = refl
    none (Some sides.A) (fate ∷ fates) = refl
    none (Some sides.B) [] = refl
    none (Some sides.B) (fate ∷ fates) = refl

    no_marks : (fates : List Fate) → AreMarks fates []
    no_marks [] = tt
    no_marks (fate ∷ fates) = tt

-- As many messages on a channel are kept whole as will not be lost.
kept_whole : (judged : Option Side) (side : Side) (fates : List Fate) (channel : List MessageInTransit) → is_alone judged side ≡ false
    → count_kept (waiting_at judged side fates channel) ≡ length (waiting fates channel)
kept_whole judged side fates [] so = refl
kept_whole judged side fates (m ∷ more) so = rw so (by (slice_get fates m.number) (kept_whole judged side fates more so))
  where
    by : (o : Option Fate) → count_kept (waiting_at judged side fates more) ≡ length (waiting fates more)
        → count_kept (kept_by o m ∷ waiting_at judged side fates more) ≡ length (waiting_by o m (waiting fates more))
    by None rest = omega (arith, rest)
    by (Some (Gap g)) rest = omega (arith, rest)
    by (Some (By k)) rest = omega (arith, rest)
    by (Some Lost) rest = rest

-- This also holds for all messages that wait for judged ends.
all_kept : (listing : Bool) (judged : Option Side) (c : Certificate) (r : Replay)
    → count_waiting judged (progress_of listing judged c r) ≡ count_for judged c.fates r.world
all_kept listing None c r =
    ap₂ (λ (m n : ℕ). m + n) (kept_whole None sides.A c.fates r.world.from_a refl) (kept_whole None sides.B c.fates r.world.from_b refl)
all_kept listing (Some sides.A) c r = kept_whole (Some sides.A) sides.B c.fates r.world.from_b refl
all_kept listing (Some sides.B) c r = kept_whole (Some sides.B) sides.A c.fates r.world.from_a refl

-- The messages that wait are as many as the fates still to come.
pub pending_is : (listing : Bool) (judged : Option Side) (table : Table) (c : Certificate) (entries : List (Result Item Reason)) (r : Replay)
    → taken judged table c entries ≡ Ok r
    → count_waiting judged (progress_of listing judged c r) ≡ count_ahead judged (length entries) c.fates entries
pending_is listing judged table c entries r is =
    let both = both_ok (certificate_fits c) (taken_from judged table c entries nothing_replayed) is in
    let behind = entries_wait judged table c entries nothing_replayed r (fit_by c both.0) (none_yet judged c) both.1 in
    let are : map ok_item r.world.sent ≡ entries = behind.1 in
    let number : next_entry r ≡ length entries = sym (length-map r.world.sent ok_item) ∙ ap length are in
    all_kept listing judged c r ∙ behind.0.waits ∙ ahead_is judged (next_entry r) c.fates r.world.sent
    ∙ ap (λ (n : ℕ). count_ahead judged n c.fates (map ok_item r.world.sent)) number
    ∙ ap (count_ahead judged (length entries) c.fates) are
