-- The steps of a checker over what is kept are those of the replay, entry by entry.
use Rattle.std.proofs.Common.{◌≡◌, ℕ, ◌+◌, Bool, true, false, cond, List, [], ◌∷◌, ◌++◌, filter, length, Option, Some, None, Result, Ok, refl, sym, ap, ap₂, subst, ◌∙◌, arith, append-nil, ◌==◌, drop, Err}
use Rattle.std.specs.Option.{option_or}
use Rattle.std.specs.Prelude.{not, option_map, slice_get, ◌&&◌, ok_or}
use Rattle.tcap_msg.specs.declared.message.Message.{Message}
use Rattle.tcap_record.specs.declared.entry.End.{End as Side}
use Rattle.tcap_record.specs.declared.entry.End.TheVariants as sides
use Rattle.tcap_end.specs.Table.{Table}
use Rattle.tcap_end.specs.Step.{needs, ◌>>◌, ◌>>=◌}
use Rattle.tcap_certificate.specs.declared.certificate.Fate.{Fate}
use Rattle.tcap_certificate.specs.declared.fault.CheckFault.{CheckFault}
use Rattle.tcap_model.specs.declared.reason.Reason.TheVariants.{BadReply, FateRange, OutOfOrder, FateCount, NotQuiet}
use Rattle.tcap_check.specs.declared.outline.Outline.{Outline}
use Rattle.tcap_check.specs.declared.progress.Progress.{Progress}
use Rattle.tcap_record.specs.Ends.{other}
use Rattle.tcap_model.specs.World.{Item, Sent, World, channel_from, end_at, is_side, with_channel}
use Rattle.tcap_model.specs.Run.{Tells, joined, Loses, Quiet, Receives, after, numbers_of}
use Rattle.tcap_certificate.specs.Certificate.{Certificate}
use Rattle.tcap_certificate.specs.DescribedRun.{taken_by, sending_by}
use Rattle.tcap_certificate.specs.Replay.{Replay, after_sending, fault_at, gap_by, is_gap, is_nothing, is_overtaking, is_sent_by, item_by, mark_judged, next_entry, own_message, tied, peer_replayed, with_step, all_lost_from, certificate_fits, closed_at_mark, deliveries_by, delivery_by, discarded, entry_by, delivered, lost_from_front, message_by, nothing_replayed, own_judged, stepped}
use Rattle.tcap_check.specs.EntryOutlines.{is_named, outline_of, outlines_from, since_from}
use Rattle.tcap_check.specs.Progress.{overtakes, side_at}
use Rattle.tcap_check.specs.ReplaySteps.{is_received_from, is_sent_by_end, mark_taken, own_taken, sent_among, peer_message_taken}
use Rattle.tcap_check.specs.CheckerMeaning.{gap_before, item_kept, kept_of, map_ok, progress_of, tied_now, taken, taken_from, taken_next}
use Rattle.tcap_check.proofs.one_end_lemmas.AloneReplays.{gap_leads, item_leads, drop_all}
use Rattle.tcap_check.proofs.replay_laws.ReplayLaws.{gap_replays}
use Rattle.tcap_check.proofs.replay_laws.ReplayEntries.{item_replays}
use Rattle.tcap_check.proofs.replay_laws.ReplaySteps.{replays_then, channel_with, discard_is}
use Rattle.tcap_check.proofs.progress_laws.KeptBasics.{not_alone, then_is}
use Rattle.tcap_check.proofs.progress_laws.KeptGaps.{gap_is, outline_at, outlines_count}
use Rattle.tcap_check.proofs.progress_laws.KeptMarks.{mark_is, marked_by, quiet_empty}
pub use Rattle.tcap_check.proofs.progress_laws.KeptMarks.{latest_with_mark}
use Rattle.tcap_check.proofs.progress_laws.KeptSends.{overtakes_is}
use Rattle.tcap_check.proofs.progress_laws.KeptMessages.{own_is, told_is}
use Rattle.tcap_end.specs.HiddenSteps.{open_halves}
use Rattle.tcap_end.proofs.AnsweringLaws.{needs_ok, ok_same, some_ok, then_ok}
use Rattle.tcap_certificate.specs.declared.certificate.Fate.TheVariants.{Gap, Lost, By}
use Rattle.tcap_model.specs.declared.reason.Reason.{Reason}
use Rattle.tcap_model.proofs.RunLaws.{delivery, loss, map_some}
use Rattle.tcap_model.proofs.WorldLaws.{own_with_channel, own_with_end}
use Rattle.tcap_check.specs.ListedSteps.{listed_for}
use Rattle.tcap_check.proofs.replay_laws.ReplayGaps.{gap_parts}
use Rattle.tcap_check.proofs.progress_laws.KeptStays.{listed_stay}

pub outlines_more : (c : Certificate) (n : ℕ) (items : List Item) (item : Item)
    → outlines_from c n (items ++ item ∷ [])
    ≡ outlines_from c n items ++ outline_of (is_named c (n + length items)) item ∷ []
outlines_more c n [] item =
    let same : n ≡ n + 0 = omega arith in ap (λ (k : ℕ). outline_of (is_named c k) item ∷ []) same
outlines_more c n (first ∷ items) item =
    let same : (n + 1) + length items ≡ n + length (first ∷ items) = omega arith in
    ap (λ (xs : List Outline). outline_of (is_named c n) first ∷ xs)
    (outlines_more c (n + 1) items item
    ∙ ap (λ (k : ℕ). outlines_from c (n + 1) items ++ outline_of (is_named c k) item ∷ []) same)

pub since_more : (since n : ℕ) (items : List Item) (item : Item)
    → since_from since n (items ++ item ∷ []) ≡ since_from (since_from since n items) (n + length items) (item ∷ [])
since_more since n [] item = let same : n ≡ n + 0 = omega arith in ap (λ (k : ℕ). since_from since k (item ∷ [])) same
since_more since n (Sent side message ∷ items) item =
    let same : (n + 1) + length items ≡ n + length (Sent side message ∷ items) = omega arith in
    since_more since (n + 1) items item ∙ ap (λ (k : ℕ). since_from (since_from since (n + 1) items) k (item ∷ [])) same
since_more since n (Item.Quiet ∷ items) item =
    let same : (n + 1) + length items ≡ n + length (Item.Quiet ∷ items) = omega arith in
    since_more (n + 1) (n + 1) items item
    ∙ ap (λ (k : ℕ). since_from (since_from (n + 1) (n + 1) items) k (item ∷ [])) same

-- ---- items that are sent

pub gap_sends : (judged : Option Side) (table : Table) (c : Certificate) (r next : Replay)
    → gap_by judged table c r ≡ Ok next → next.world.sent ≡ r.world.sent
gap_sends None table c r next is = (gap_replays table c r next is).2.sent ∙ append-nil r.world.sent
gap_sends (Some judged) table c r next is = (gap_leads judged table c r next is).sent ∙ append-nil r.world.sent

pub item_sends : (judged : Option Side) (table : Table) (c : Certificate) (fate : Fate) (item : Item) (r next : Replay)
    → slice_get c.fates (next_entry r) ≡ Some fate
    → item_by judged table c fate item r ≡ Ok next → next.world.sent ≡ r.world.sent ++ item ∷ []
item_sends None table c fate item r next has is =
    let one = item_replays table c fate item r next has is in
    (replays_then table r one.mid next one.here _ [] (item ∷ []) one.gap one.sent.replays).sent
item_sends (Some judged) table c fate item r next has is = (item_leads judged table c fate item r next is).sent

-- ---- messages that are taken

-- The outline of an entry shows who sent it.
told_is_sent : (c : Certificate) (side : Side) (items : List Item) (n : ℕ)
    → is_sent_by_end side (slice_get (outlines_from c 0 items) n) ≡ is_sent_by side (slice_get items n)
told_is_sent c side items n =
    ap (is_sent_by_end side) (outline_at c 0 n n items (omega arith)) ∙ by (slice_get items n)
  where
    by : (o : Option Item) → is_sent_by_end side (option_map (outline_of (is_named c n)) o) ≡ is_sent_by side o
    by None = refl
    by (Some (Sent sender message)) = refl
    by (Some Item.Quiet) = refl

same_filter : {A : Type 0} (p q : A → Bool) (xs : List A) → ((x : A) → p x ≡ q x) → filter p xs ≡ filter q xs
same_filter p q [] same = refl
same_filter p q (x ∷ xs) same = ap₂ (λ (b : Bool) (more : List _). cond b (x ∷ more) more) (same x) (same_filter p q xs same)

pub tied_is : (listing : Bool) (judged : Option Side) (c : Certificate) (r : Replay) → tied_now judged c (kept_of listing judged c r) ≡ tied judged c r
tied_is listing None c r = ap (λ (k : ℕ). taken_by k 0 c.fates) (outlines_count c 0 r.world.sent)
tied_is listing (Some judged) c r =
    ap (λ (k : ℕ). sent_among (other judged) (outlines_from c 0 r.world.sent) (taken_by k 0 c.fates)) (outlines_count c 0 r.world.sent)
    ∙ same_filter (λ n. is_sent_by_end (other judged) (slice_get (outlines_from c 0 r.world.sent) n))
    (λ n. is_sent_by (other judged) (slice_get r.world.sent n)) (taken_by (next_entry r) 0 c.fates)
    (told_is_sent c (other judged) r.world.sent)

-- A gap does not change which messages the entry after it takes.
pub tied_still : (judged : Option Side) (c : Certificate) (r behind : Replay) → behind.world.sent ≡ r.world.sent
    → tied judged c behind ≡ tied judged c r
tied_still None c r behind sent = ap (λ (s : List Item). taken_by (length s) 0 c.fates) sent
tied_still (Some judged) c r behind sent =
    ap (λ (s : List Item). filter (λ n. is_sent_by (other judged) (slice_get s n)) (taken_by (length s) 0 c.fates)) sent

-- ---- an entry

module _ (listing : Bool) (judged : Option Side) (table : Table) (c : Certificate) (r : Replay) where
  abbrev n : ℕ
  n = next_entry r

  abbrev takes : List ℕ
  takes = tied judged c r

  abbrev gap : Result Progress CheckFault
  gap = gap_before judged table c (kept_of listing judged c r)

  abbrev kept_now : List ℕ
  kept_now = tied_now judged c (kept_of listing judged c r)

  abbrev count : ℕ
  count = length (outlines_from c 0 r.world.sent)

  -- A step after the gap, with counts and taken messages computed from the outlines.
  behind_gap : (on : ℕ → List ℕ → Progress → Result Progress CheckFault) (more : Replay → Result Replay CheckFault)
      → ((next : Replay) → gap_by judged table c r ≡ Ok next → on n takes (progress_of listing judged c next) ≡ map_ok (progress_of listing judged c) (more next))
      → (gap >>= on count kept_now) ≡ map_ok (progress_of listing judged c) (gap_by judged table c r >>= more)
  behind_gap on more same =
      ap₂ (λ (k : ℕ) (numbers : List ℕ). gap >>= on k numbers) (outlines_count c 0 r.world.sent) (tied_is listing judged c r)
      ∙ ap (λ (x : Result Progress CheckFault). x >>= on n takes) (gap_is listing judged table c r)
      ∙ then_is (progress_of listing judged c) (gap_by judged table c r) (on n takes) more same

  -- A message of a judged end.
  own_entry : (fate : Fate) (side : Side) (message : Message) → is_received_from judged (other side) ≡ true → slice_get c.fates n ≡ Some fate
      → (gap >>= own_taken judged table side fate count message kept_now)
      ≡ map_ok (progress_of listing judged c)
      (gap_by judged table c r >>= λ behind. after_sending judged (own_message judged table c side message behind))
  own_entry fate side message so has =
      behind_gap (λ k numbers. own_taken judged table side fate k message numbers)
      (λ behind. after_sending judged (own_message judged table c side message behind))
      (λ next is. let sent = gap_sends judged table c r next is in
      let same : next_entry next ≡ n = ap (length {A = Item}) sent in
      ap₂ (λ (k : ℕ) (numbers : List ℕ). own_taken judged table side fate k message numbers (progress_of listing judged c next))
      (sym same) (sym (tied_still judged c r next sent))
      ∙ own_is listing judged table c fate side message (tied judged c next) next so (ap (slice_get c.fates) same ∙ has))

  -- A quiet mark.
  mark_entry : (fate : Fate)
      → item_kept judged table c fate Item.Quiet (kept_of listing judged c r) ≡ map_ok (progress_of listing judged c) (mark_judged judged table c fate r)
  mark_entry fate =
      ap (λ (k : ℕ). needs (is_gap (k + 1) fate) (fault_at FateRange k) >> gap >>= mark_taken judged table count kept_now)
      (outlines_count c 0 r.world.sent)
      ∙ by (is_gap (n + 1) fate)
    where
      gone : (gap >>= mark_taken judged table count kept_now)
          ≡ map_ok (progress_of listing judged c) (gap_by judged table c r >>= marked_by judged table c n takes)
      gone = behind_gap (λ k numbers. mark_taken judged table k numbers) (marked_by judged table c n takes)
          (λ next is. mark_is listing judged table c n takes next)

      by : (b : Bool)
          → (needs b (fault_at FateRange n) >> gap >>= mark_taken judged table count kept_now)
          ≡ map_ok (progress_of listing judged c) (needs b (fault_at FateRange n) >> (gap_by judged table c r >>= marked_by judged table c n takes))
      by true = gone
      by false = refl

  -- The order check of messages to a judged end.
  in_order : (fate : Fate) (side : Side) (step : Progress → Result Progress CheckFault) (on : Result Replay CheckFault)
      → is_received_from judged side ≡ true → (gap >>= step) ≡ map_ok (progress_of listing judged c) on
      → (needs (not (overtakes fate (side_at side (progress_of listing judged c r)))) (fault_at OutOfOrder count) >> gap >>= step)
      ≡ map_ok (progress_of listing judged c) (needs (not (is_overtaking side fate c.fates r.world.sent)) (fault_at OutOfOrder n) >> on)
  in_order fate side step on so same =
      ap₂ (λ (b : Bool) (k : ℕ). needs (not b) (fault_at OutOfOrder k) >> gap >>= step)
      (overtakes_is listing judged c side fate r (not_alone judged side so)) (outlines_count c 0 r.world.sent)
      ∙ by (not (is_overtaking side fate c.fates r.world.sent))
    where
      by : (b : Bool) → (needs b (fault_at OutOfOrder n) >> gap >>= step) ≡ map_ok (progress_of listing judged c) (needs b (fault_at OutOfOrder n) >> on)
      by true = same
      by false = refl

-- A message from the peer of an end that is judged alone.
told_entry : (listing : Bool) (table : Table) (c : Certificate) (side : Side) (r : Replay) (fate : Fate) (message : Message)
    → is_received_from (Some side) (other side) ≡ true → slice_get c.fates (next_entry r) ≡ Some fate
    → (needs (not (overtakes fate (side_at (other side) (progress_of listing (Some side) c r)))) (fault_at OutOfOrder (count listing (Some side) table c r))
    >> gap listing (Some side) table c r
    >>= peer_message_taken (other side) fate (count listing (Some side) table c r) message (kept_now listing (Some side) table c r))
    ≡ map_ok (progress_of listing (Some side) c) (peer_replayed table c fate side message r)
told_entry listing table c side r fate message so has =
    in_order listing (Some side) table c r fate (other side) _ (gap_by (Some side) table c r >>= made) so
    (behind_gap listing (Some side) table c r (λ k numbers. peer_message_taken (other side) fate k message numbers) made
    (λ next is. let same : next_entry next ≡ next_entry r = ap (length {A = Item}) (gap_sends (Some side) table c r next is) in
    subst (λ (k : ℕ). peer_message_taken (other side) fate k message (tied (Some side) c r) (progress_of listing (Some side) c next)
    ≡ map_ok (progress_of listing (Some side) c) (needs (is_nothing (tied (Some side) c r)) (fault_at BadReply k)
    >> Ok (with_step (Tells (other side) message) next (joined (other side) message next.world)))) same
    (told_is listing c fate side message (tied (Some side) c r) next (ap (slice_get c.fates) same ∙ has))))
  where
    made : Replay → Result Replay CheckFault
    made behind = needs (is_nothing (tied (Some side) c r)) (fault_at BadReply (next_entry r))
        >> Ok (with_step (Tells (other side) message) behind (joined (other side) message behind.world))

pub item_is : (listing : Bool) (judged : Option Side) (table : Table) (c : Certificate) (fate : Fate) (item : Item) (r : Replay)
    → slice_get c.fates (next_entry r) ≡ Some fate
    → item_kept judged table c fate item (kept_of listing judged c r) ≡ map_ok (progress_of listing judged c) (item_by judged table c fate item r)
item_is listing judged table c fate Item.Quiet r has = mark_entry listing judged table c r fate
item_is listing None table c fate (Sent side message) r has =
    in_order listing None table c r fate side _ _ refl (own_entry listing None table c r fate side message refl has)
item_is listing (Some sides.A) table c fate (Sent sides.A message) r has = own_entry listing (Some sides.A) table c r fate sides.A message refl has
item_is listing (Some sides.A) table c fate (Sent sides.B message) r has = told_entry listing table c sides.A r fate message refl has
item_is listing (Some sides.B) table c fate (Sent sides.A message) r has = told_entry listing table c sides.B r fate message refl has
item_is listing (Some sides.B) table c fate (Sent sides.B message) r has = own_entry listing (Some sides.B) table c r fate sides.B message refl has

-- ---- messages on their way from the end

-- No message is on its way from the end that is judged alone.
abbrev pub IsHeard : Option Side → Replay → Type 0
IsHeard None r = Unit {0}
IsHeard (Some judged) r = channel_from judged r.world ≡ []

nothing_left : (side : Side) (r : Replay) → channel_from side (all_lost_from side r).world ≡ []
nothing_left side r =
    let channel = channel_from side r.world in
    channel_with side (drop (length (numbers_of channel)) channel) r.world ∙ drop_all channel

own_told : (side : Side) (message : Message) (w : World) → channel_from side (joined (other side) message w) ≡ channel_from side w
own_told sides.A message w = refl
own_told sides.B message w = refl

-- ---- a gap

-- A message of the peer that the end receives or discards does not change the channel from the end.
heard_keeps : (side : Side) (table : Table) (c : Certificate) (n : ℕ) (r next : Replay) → delivered table c side n r ≡ Ok next
    → channel_from side next.world ≡ channel_from side r.world
heard_keeps side table c n r next is =
    by (stepped table (Receives side n) before) refl
    (some_ok (option_or (stepped table (Receives side n) before) (discarded table side n before)) (fault_at BadReply n) next is)
    ∙ own_with_channel side _ r.world
  where
    before : Replay
    before = lost_from_front c (other side) r

    by : (o : Option Replay) → stepped table (Receives side n) before ≡ o
        → option_or o (discarded table side n before) ≡ Some next
        → channel_from side next.world ≡ channel_from side before.world
    by (Some x) at found =
        let event = Receives side n in
        let step = map_some _ (after table event before.world) next (at ∙ found) in
        let d = delivery table side n before.world step.0 step.1 in
        ap (λ (x : Replay). channel_from side x.world) (sym step.2) ∙ ap (channel_from side) d.next_is
        ∙ own_with_end side d.made (with_channel (other side) d.more before.world) ∙ own_with_channel side d.more before.world
    by None at found =
        let event = Loses (other side) n in
        let d = discard_is table side n before next found in
        let step = map_some _ (after table event before.world) d.lost d.step in
        let l = loss table (other side) n before.world step.0 step.1 in
        ap (channel_from side) d.world ∙ ap (λ (x : Replay). channel_from side x.world) (sym step.2) ∙ ap (channel_from side) l.next_is
        ∙ own_with_channel side l.more before.world

same_channel : (side : Side) (r next : Replay) → r ≡ next → channel_from side next.world ≡ channel_from side r.world
same_channel side r next is = ap (λ (x : Replay). channel_from side x.world) (sym is)

delivery_keeps : (side : Side) (table : Table) (c : Certificate) (place n : ℕ) (fate : Fate) (item : Item) (r next : Replay)
    → delivery_by (Some side) table c place n fate item r ≡ Ok next → channel_from side next.world ≡ channel_from side r.world
delivery_keeps side table c place n (Gap g) (Sent sender message) r next is = by ((g == place) && is_side (other side) sender) is
  where
    by : (b : Bool) → cond b (delivered table c side n r) (Ok r) ≡ Ok next → channel_from side next.world ≡ channel_from side r.world
    by true e = heard_keeps side table c n r next e
    by false e = same_channel side r next (ok_same {F = CheckFault} r next e)
delivery_keeps side table c place n (Gap g) Item.Quiet r next is = same_channel side r next (ok_same {F = CheckFault} r next is)
delivery_keeps side table c place n (By k) item r next is = same_channel side r next (ok_same {F = CheckFault} r next is)
delivery_keeps side table c place n Lost item r next is = same_channel side r next (ok_same {F = CheckFault} r next is)

deliveries_keep : (side : Side) (table : Table) (c : Certificate) (place n : ℕ) (fates : List Fate) (items : List Item) (r next : Replay)
    → deliveries_by (Some side) table c place n fates items r ≡ Ok next → channel_from side next.world ≡ channel_from side r.world
deliveries_keep side table c place n [] items r next is = same_channel side r next (ok_same {F = CheckFault} r next is)
deliveries_keep side table c place n (fate ∷ fates) [] r next is = same_channel side r next (ok_same {F = CheckFault} r next is)
deliveries_keep side table c place n (fate ∷ fates) (item ∷ items) r next is =
    let one = then_ok (delivery_by (Some side) table c place n fate item r) _ next is in
    deliveries_keep side table c place (n + 1) fates items one.0 next one.2 ∙ delivery_keeps side table c place n fate item r one.0 one.1

pub gap_keeps : (side : Side) (table : Table) (c : Certificate) (r next : Replay) → gap_by (Some side) table c r ≡ Ok next
    → channel_from side next.world ≡ channel_from side r.world
gap_keeps side table c r next is =
    let parts = gap_parts (Some side) table c r next is in
    deliveries_keep side table c (next_entry r) 0 c.fates r.world.sent parts.0 next parts.2
    ∙ (listed_stay table c (listed_for (Some side) c (next_entry r)) r parts.0 parts.1).channels side

-- ---- entries

own_empty : (side : Side) (table : Table) (c : Certificate) (message : Message) (r next : Replay)
    → own_judged (Some side) table c Lost side message r ≡ Ok next → channel_from side next.world ≡ []
own_empty side table c message r next is =
    let gap = then_ok (gap_by (Some side) table c r) _ next is in
    let event = sending_by c (next_entry gap.0) (Sent side message) (tied (Some side) c gap.0) in
    let sent = then_ok (message_by table c side message event gap.0) _ next gap.2 in
    same_channel side (all_lost_from side sent.0) next (ok_same {F = CheckFault} (all_lost_from side sent.0) next sent.2)
    ∙ nothing_left side sent.0

told_empty : (side : Side) (table : Table) (c : Certificate) (fate : Fate) (message : Message) (r next : Replay)
    → peer_replayed table c fate side message r ≡ Ok next → channel_from side r.world ≡ [] → channel_from side next.world ≡ []
told_empty side table c fate message r next is empty =
    let so = needs_ok (not (is_overtaking (other side) fate c.fates r.world.sent)) (fault_at OutOfOrder (next_entry r)) _ next is in
    let gap = then_ok (gap_by (Some side) table c r) _ next so.1 in
    let free = needs_ok (is_nothing (tied (Some side) c r)) (fault_at BadReply (next_entry r)) _ next gap.2 in
    let made = with_step (Tells (other side) message) gap.0 (joined (other side) message gap.0.world) in
    same_channel side made next (ok_same {F = CheckFault} made next free.1)
    ∙ own_told side message gap.0.world ∙ gap_keeps side table c r gap.0 gap.1 ∙ empty

mark_empty : (side : Side) (table : Table) (c : Certificate) (fate : Fate) (r next : Replay)
    → mark_judged (Some side) table c fate r ≡ Ok next → channel_from side next.world ≡ []
mark_empty side table c fate r next is =
    let entry = next_entry r in
    let so = needs_ok (is_gap (entry + 1) fate) (fault_at FateRange entry) _ next is in
    let gap = then_ok (gap_by (Some side) table c r) _ next so.1 in
    let free = needs_ok (is_nothing (tied (Some side) c r)) (fault_at NotQuiet entry) _ next gap.2 in
    let halves = open_halves (end_at side gap.0.world) in
    let closed = then_ok (closed_at_mark table side entry halves gap.0) _ next free.1 in
    let before = lost_from_front c (other side) closed.0 in
    quiet_empty table side before next (some_ok (stepped table Quiet before) (fault_at NotQuiet entry) next closed.2)

item_empty : (side : Side) (table : Table) (c : Certificate) (fate : Fate) (item : Item) (r next : Replay)
    → item_by (Some side) table c fate item r ≡ Ok next → channel_from side r.world ≡ [] → channel_from side next.world ≡ []
item_empty side table c fate Item.Quiet r next is empty = mark_empty side table c fate r next is
item_empty side table c fate (Sent sender message) r next is empty = by (is_side side sender) is
  where
    by : (b : Bool) → cond b (own_judged (Some side) table c Lost side message r) (peer_replayed table c fate side message r) ≡ Ok next
        → channel_from side next.world ≡ []
    by true e = own_empty side table c message r next e
    by false e = told_empty side table c fate message r next e empty

entry_empty : (side : Side) (table : Table) (c : Certificate) (entry : Result Item Reason) (r next : Replay)
    → taken_next (Some side) table c entry r ≡ Ok next → channel_from side r.world ≡ [] → channel_from side next.world ≡ []
entry_empty side table c entry r next is empty =
    let fate = then_ok (ok_or (slice_get c.fates (next_entry r)) (fault_at FateCount (next_entry r))) _ next is in by entry fate.0 fate.2
  where
    by : (x : Result Item Reason) (fate : Fate) → entry_by (Some side) table c fate x r ≡ Ok next → channel_from side next.world ≡ []
    by (Ok item) fate e = item_empty side table c fate item r next e empty
    by (Err reason) fate e = cc

from_empty : (side : Side) (table : Table) (c : Certificate) (entries : List (Result Item Reason)) (r next : Replay)
    → taken_from (Some side) table c entries r ≡ Ok next → channel_from side r.world ≡ [] → channel_from side next.world ≡ []
from_empty side table c [] r next is empty = same_channel side r next (ok_same {F = CheckFault} r next is) ∙ empty
from_empty side table c (entry ∷ entries) r next is empty =
    let one = then_ok (taken_next (Some side) table c entry r) _ next is in
    from_empty side table c entries one.0 next one.2 (entry_empty side table c entry r one.0 one.1 empty)

nothing_sent : (side : Side) → channel_from side nothing_replayed.world ≡ []
nothing_sent sides.A = refl
nothing_sent sides.B = refl

-- After these entries, no message is on its way from the end.
pub heard_empty : (side : Side) (table : Table) (c : Certificate) (entries : List (Result Item Reason)) (r : Replay)
    → taken (Some side) table c entries ≡ Ok r → channel_from side r.world ≡ []
heard_empty side table c entries r is = by (certificate_fits c) is
  where
    by : (fits : Result (Unit {0}) CheckFault) → (fits >> taken_from (Some side) table c entries nothing_replayed) ≡ Ok r
        → channel_from side r.world ≡ []
    by (Ok done) e = from_empty side table c entries nothing_replayed r e (nothing_sent side)
    by (Err fault) e = cc
