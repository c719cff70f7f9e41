-- The replay for one end is a run of this end, part by part.
use Rattle.std.proofs.Common.{◌≡◌, ℕ, List, [], ◌∷◌, ◌++◌, map, length, drop, Some, refl, sym, ap, subst, ◌∙◌, append_assoc, append-nil, ◌+◌, ◌==◌, Bool, true, false, cond, filter, Option, None, Result, Ok, Err, ap₂}
use Rattle.std.specs.Option.{option_or}
use Rattle.std.specs.List.{AllByRecursion}
use Rattle.std.proofs.lemmas.Bool.{eq-eqb}
use Rattle.tcap_msg.specs.declared.message.Message.{Message}
use Rattle.tcap_record.specs.declared.entry.End.{End as Side}
use Rattle.tcap_record.specs.declared.entry.End.TheVariants.{A, B}
use Rattle.tcap_end.specs.Table.{Table}
use Rattle.tcap_record.specs.Ends.{other}
use Rattle.tcap_model.specs.World.{Item, MessageInTransit, Sent, World, channel_from, with_channel, end_at, is_side}
use Rattle.tcap_model.specs.Run.{Adds, Event, Sends, Receives, Replies, Loses, Expires, Closes, Quiet, Tells, after, joined, numbers_of, played}
use Rattle.tcap_certificate.specs.Certificate.{Certificate}
use Rattle.tcap_certificate.specs.DescribedRun.{without_losses, IsImplied, invoking_half, sending_by, taken_by}
use Rattle.tcap_certificate.specs.Replay.{Replay, all_lost_from, lost_from_front, stepped, with_step, closed_at_mark, deliveries_by, delivery_by, discarded, entries_by, entry_by, fault_at, gap_by, delivered, implied_over, is_gap, is_nothing, is_overtaking, is_sent_by, item_by, mark_judged, message_by, next_entry, own_judged, tied, peer_replayed}
use Rattle.tcap_model.proofs.ListLaws.{all_both, all_weaker}
use Rattle.tcap_model.proofs.RunLaws.{grows, map_some, same_side}
use Rattle.tcap_check.proofs.replay_laws.ReplaySteps.{Extends, Replays, channel_with, extends_nothing, extends_then, losing_replays, stepped_extends, discard_is, sending_so}
use Rattle.tcap_model.proofs.WorldLaws.{with_same, sent_with_channel}
use Rattle.tcap_check.proofs.one_end_lemmas.AloneCounts.{IsOwn}
use Rattle.std.specs.Prelude.{◌&&◌, not, ok_or, slice_get}
use Rattle.tcap_end.specs.declared.half.HalfName.{HalfName}
use Rattle.tcap_end.specs.HiddenSteps.{open_halves}
use Rattle.tcap_end.specs.Step.{needs, ◌>>◌, ◌>>=◌}
use Rattle.tcap_end.proofs.AnsweringLaws.{needs_ok, ok_same, some_ok, then_ok}
use Rattle.tcap_certificate.specs.declared.certificate.Fate.{Fate}
use Rattle.tcap_certificate.specs.declared.certificate.Fate.TheVariants.{Gap, Lost, By}
use Rattle.tcap_certificate.specs.declared.fault.CheckFault.{CheckFault}
use Rattle.tcap_model.specs.declared.reason.Reason.{Reason}
use Rattle.tcap_model.specs.declared.reason.Reason.TheVariants.{BadReply, FateCount, FateRange, NotQuiet, OutOfOrder}
use Rattle.tcap_check.proofs.replay_laws.ReplayEntries.{ok_item}
use Rattle.tcap_check.proofs.replay_laws.ReplayLaws.{implied_by, reply_replays, send_replays, listed_replay}
use Rattle.tcap_check.specs.declared.listed_steps.ListedStep.{ListedStep}
use Rattle.tcap_check.specs.ListedSteps.{all_replayed, event_listed, listed_in, listed_judged, side_of}
use Rattle.tcap_check.proofs.replay_laws.ReplayGaps.{gap_parts, listed_so, implied_so}

-- Steps of a run of the end lead from one replay to the other, and add these items to the sent list.
pub record Leads (side : Side) (table : Table) (r : Replay) (items : List Item) (next : Replay) : Type 0 where
  pub steps : List Event
  pub extends : Extends table r steps next
  pub own : AllByRecursion (IsOwn side) steps
  pub sent : next.world.sent ≡ r.world.sent ++ items

pub leads_nothing : (side : Side) (table : Table) (r : Replay) → Leads side table r [] r
leads_nothing side table r =
    record { steps = []; extends = extends_nothing table r; own = tt; sent = sym (append-nil r.world.sent) }

pub leads_then : (side : Side) (table : Table) (r mid next : Replay) (before behind : List Item)
    → Leads side table r before mid → Leads side table mid behind next → Leads side table r (before ++ behind) next
leads_then side table r mid next before behind a b = record {
  steps = a.steps ++ b.steps;
  extends = extends_then table r mid next a.steps b.steps a.extends b.extends;
  own = all_both (IsOwn side) a.steps b.steps a.own b.own;
  sent = b.sent ∙ ap (λ (x : List Item). x ++ behind) a.sent ∙ append_assoc r.world.sent before behind;
}

-- ---- parts of a run of two ends

-- Losses are allowed in a run of one end.
with_losses : (side : Side) (events : List Event) → AllByRecursion (IsOwn side) (without_losses events)
    → AllByRecursion (IsOwn side) events
with_losses side [] all = tt
with_losses side (Loses sender n ∷ events) all = (tt, with_losses side events all)
with_losses side (Sends sender m ∷ events) all = (all.0, with_losses side events all.1)
with_losses side (Receives receiver n ∷ events) all = (all.0, with_losses side events all.1)
with_losses side (Replies replier n ∷ events) all = (all.0, with_losses side events all.1)
with_losses side (Expires actor name id ∷ events) all = (all.0, with_losses side events all.1)
with_losses side (Closes actor name ∷ events) all = (all.0, with_losses side events all.1)
with_losses side (Quiet ∷ events) all = (all.0, with_losses side events all.1)
with_losses side (Tells teller m ∷ events) all = (all.0, with_losses side events all.1)

-- So only the other events have to be the end's own.
pub replays_lead : (side : Side) (table : Table) (r next : Replay) (plain : List Event) (items : List Item)
    → Replays table r plain items next → AllByRecursion (IsOwn side) plain → Leads side table r items next
replays_lead side table r next plain items a all = record {
  steps = a.steps;
  extends = a.extends;
  own = with_losses side a.steps (subst (AllByRecursion (IsOwn side)) (sym a.are) all);
  sent = a.sent;
}

pub front_leads : (side : Side) (table : Table) (c : Certificate) (sender : Side) (r : Replay)
    → Leads side table r [] (lost_from_front c sender r)
front_leads side table c sender r = replays_lead side table r _ [] [] (losing_replays table c sender r) tt

-- ---- one step

-- the items that a step adds
pub stepped_adds : (table : Table) (event : Event) (r next : Replay) → stepped table event r ≡ Some next
    → (items : List Item) × Adds r.world event items × (next.world.sent ≡ r.world.sent ++ items)
stepped_adds table event r next is =
    let found = map_some _ (after table event r.world) next is in
    let g = grows table event r.world found.0 found.1 in
    (g.0, g.1, ap (λ (x : Replay). x.world.sent) (sym found.2) ∙ g.2)

pub step_leads : (side : Side) (table : Table) (event : Event) (items : List Item) (r next : Replay) → IsOwn side event
    → stepped table event r ≡ Some next → ((adds : List Item) → Adds r.world event adds → adds ≡ items)
    → Leads side table r items next
step_leads side table event items r next own is adds =
    let s = stepped_adds table event r next is in
    record {
      steps = event ∷ [];
      extends = stepped_extends table event r next is;
      own = (own, tt);
      sent = s.2 ∙ ap (λ (x : List Item). r.world.sent ++ x) (adds s.0 s.1);
    }

-- The peer sends any message.
pub told_leads : (side : Side) (table : Table) (m : Message) (r : Replay)
    → Leads side table r (Sent (other side) m ∷ []) (with_step (Tells (other side) m) r (joined (other side) m r.world))
told_leads side table m r = step_leads side table (Tells (other side) m)
    (Sent (other side) m ∷ []) r _ refl refl (λ adds is. is)

-- ---- all messages are lost

pub drop_all : (messages : List MessageInTransit) → drop (length (numbers_of messages)) messages ≡ []
drop_all [] = refl
drop_all (m ∷ messages) = drop_all messages

-- All messages on their way may be lost.
all_plays : (table : Table) (side : Side) (channel : List MessageInTransit) (w : World) → channel_from side w ≡ channel
    → played table (map (Loses side) (numbers_of channel)) w ≡ Some (with_channel side [] w)
all_plays table side [] w is =
    ap Some (sym (with_same side w) ∙ ap (λ (x : List MessageInTransit). with_channel side x w) is)
all_plays table side (first ∷ more) w is =
    let taken : after table (Loses side first.number) w ≡ Some (with_channel side more w) =
    rw (is, eq-eqb first.number first.number refl) refl in
    rw taken (all_plays table side more (with_channel side more w) (channel_with side more w) ∙ ap Some (twice side))
  where
    twice : (side : Side) → with_channel side [] (with_channel side more w) ≡ with_channel side [] w
    twice A = refl
    twice B = refl

own_losses : (side sender : Side) (numbers : List ℕ) → AllByRecursion (IsOwn side) (map (Loses sender) numbers)
own_losses side sender [] = tt
own_losses side sender (n ∷ numbers) = (tt, own_losses side sender numbers)

pub all_lost_leads : (side : Side) (table : Table) (r : Replay) → Leads side table r [] (all_lost_from side r)
all_lost_leads side table r = record {
  steps = map (Loses side) (numbers_of (channel_from side r.world));
  extends = record {
    events = refl;
    plays = all_plays table side (channel_from side r.world) r.world refl
        ∙ ap (λ (x : List MessageInTransit). Some (with_channel side x r.world)) (sym (drop_all (channel_from side r.world)));
  };
  own = own_losses side side (numbers_of (channel_from side r.world));
  sent = sent_with_channel side _ r.world ∙ sym (append-nil r.world.sent);
}

-- ---- a gap

-- The events that are selected for the end are its own.
all_passed : {X : Type 0} (p : X → Bool) (xs : List X) → AllByRecursion (λ x. p x ≡ true) (filter p xs)
all_passed p [] = tt
all_passed {X} p (x ∷ xs) = by (p x) refl (all_passed p xs)
  where
    by : (b : Bool) → p x ≡ b → AllByRecursion (λ y. p y ≡ true) (filter p xs)
        → AllByRecursion (λ y. p y ≡ true) (cond b (x ∷ filter p xs) (filter p xs))
    by true is rest = (is, rest)
    by false is rest = rest

listed_own : (side : Side) (items : List Item) (x : ListedStep) (event : Event) → is_side side (side_of x) ≡ true
    → event_listed items x ≡ Some event → IsOwn side event
listed_own side items x event of_side =
    let mine = sym (same_side side (side_of x) of_side) in listed_so (IsOwn side) items x (λ name. mine) (λ name id. mine) event

-- If each listed event is the end's own, all events are.
all_own : {X : Type 0} (side : Side) (of : X → Option Event) (passes : X → Bool) (xs : List X) (events : List Event)
    → ((x : X) (event : Event) → passes x ≡ true → of x ≡ Some event → IsOwn side event)
    → AllByRecursion (λ x. passes x ≡ true) xs → map Some events ≡ map of xs → AllByRecursion (IsOwn side) events
all_own side of passes [] [] own all are = tt
all_own side of passes [] (event ∷ events) own all are = cc
all_own side of passes (x ∷ xs) [] own all are = cc
all_own side of passes (x ∷ xs) (event ∷ events) own all are =
    (own x event all.0 cc, all_own side of passes xs events own all.1 cc)

listed_lead : (side : Side) (table : Table) (c : Certificate) (listed : List ListedStep) (r next : Replay)
    → all_replayed table c (listed_judged (Some side) listed) r ≡ Ok next → Leads side table r [] next
listed_lead side table c listed r next is =
    let mine = listed_judged (Some side) listed in
    let found = listed_replay table c mine r.world.sent r next refl is in
    replays_lead side table r next found.0 [] found.2
    (all_own side (event_listed r.world.sent) (λ x. is_side side (side_of x)) mine found.0 (listed_own side r.world.sent)
    (all_passed (λ x. is_side side (side_of x)) listed) found.1)

-- A message is received or lost.
pub heard_leads : (side : Side) (table : Table) (c : Certificate) (n : ℕ) (r next : Replay)
    → delivered table c side n r ≡ Ok next
    → Leads side table r [] next
heard_leads side table c n r next is =
    let before = lost_from_front c (other side) r in
    leads_then side table r before next [] [] (front_leads side table c (other side) r)
    (by before (stepped table (Receives side n) before) refl
    (some_ok (option_or (stepped table (Receives side n) before) (discarded table side n before))
    (fault_at BadReply n)
    next is))
  where
    by : (before : Replay) (o : Option Replay) → stepped table (Receives side n) before ≡ o
        → option_or o (discarded table side n before) ≡ Some next → Leads side table before [] next
    by before (Some x) at found =
        step_leads side table (Receives side n) [] before next refl (at ∙ found) (λ adds none. none)
    by before None at found =
        let d = discard_is table side n before next found in
        let lost = step_leads side table (Loses (other side) n) [] before d.lost tt d.step (λ adds none. none) in
        record {
          steps = lost.steps;
          extends = record {
            events = d.events ∙ lost.extends.events;
            plays = lost.extends.plays ∙ ap (λ (w : World). Some w) (sym d.world);
          };
          own = lost.own;
          sent = ap (λ (w : World). w.sent) d.world ∙ lost.sent;
        }

pub deliveries_lead : (side : Side) (table : Table) (c : Certificate) (gap n : ℕ) (fates : List Fate)
    (items : List Item) (r next : Replay)
    → deliveries_by (Some side) table c gap n fates items r ≡ Ok next → Leads side table r [] next
deliveries_lead side table c gap n [] items r next is =
    subst (Leads side table r []) (ok_same {F = CheckFault} r next is) (leads_nothing side table r)
deliveries_lead side table c gap n (fate ∷ fates) [] r next is =
    subst (Leads side table r []) (ok_same {F = CheckFault} r next is) (leads_nothing side table r)
deliveries_lead side table c gap n (fate ∷ fates) (item ∷ items) r next is =
    let one = then_ok (delivery_by (Some side) table c gap n fate item r)
    (deliveries_by (Some side) table c gap (n + 1) fates items) next is in
    leads_then side table r one.0 next [] [] (by fate item one.0 one.1)
    (deliveries_lead side table c gap (n + 1) fates items one.0 next one.2)
  where
    same : (mid : Replay) → (let x : Result Replay CheckFault = Ok r in x) ≡ Ok mid → Leads side table r [] mid
    same mid is = subst (Leads side table r []) (ok_same {F = CheckFault} r mid is) (leads_nothing side table r)

    if_so : (b : Bool) (mid : Replay) → cond b (delivered table c side n r) (Ok r) ≡ Ok mid → Leads side table r [] mid
    if_so true mid is = heard_leads side table c n r mid is
    if_so false mid is = same mid is

    by : (fate : Fate) (item : Item) (mid : Replay) → delivery_by (Some side) table c gap n fate item r ≡ Ok mid
        → Leads side table r [] mid
    by (Gap g) (Sent sender m) mid is = if_so ((g == gap) && is_side (other side) sender) mid is
    by (Gap g) Item.Quiet mid is = same mid is
    by (By k) (Sent sender m) mid is = same mid is
    by (By k) Item.Quiet mid is = same mid is
    by Lost (Sent sender m) mid is = same mid is
    by Lost Item.Quiet mid is = same mid is

-- The gap before the next entry.
pub gap_leads : (side : Side) (table : Table) (c : Certificate) (r next : Replay) → gap_by (Some side) table c r ≡ Ok next
    → Leads side table r [] next
gap_leads side table c r next is =
    let parts = gap_parts (Some side) table c r next is in
    leads_then side table r parts.0 next [] [] (listed_lead side table c (listed_in c (next_entry r)) r parts.0 parts.1)
    (deliveries_lead side table c (next_entry r) 0 c.fates r.world.sent parts.0 next parts.2)

-- ---- a message

implied_own : (side : Side) (m : Message) (events : List Event) → AllByRecursion (IsImplied (Sent side m)) events
    → AllByRecursion (IsOwn side) events
implied_own side m events all =
    all_weaker (IsImplied (Sent side m)) (IsOwn side) events (implied_so (IsOwn side) side m (λ name id over. refl)) all

-- The end, or its provider, sends the message.
message_leads : (side : Side) (table : Table) (c : Certificate) (m : Message) (n : ℕ) (taken : List ℕ) (r next : Replay)
    → message_by table c side m (sending_by c n (Sent side m) taken) r ≡ Ok next → Leads side table r (Sent side m ∷ []) next
message_leads side table c m n taken r next =
    sending_so (λ taken o. message_by table c side m o r ≡ Ok next → Leads side table r (Sent side m ∷ []) next) c n side m sends
    (λ k is. replays_lead side table r next (Replies side k ∷ []) (Sent side m ∷ []) (reply_replays table c side m k r next is) (refl, tt))
    (λ taken is. cc) taken
  where
    sends : message_by table c side m (Some (Sends side m)) r ≡ Ok next → Leads side table r (Sent side m ∷ []) next
    sends is =
        let before = implied_by table side m r in
        let mid = implied_over table side m (invoking_half m) r in
        leads_then side table r mid next [] (Sent side m ∷ [])
        (replays_lead side table r mid before.0 [] before.2 (implied_own side m before.0 before.1))
        (replays_lead side table mid next (Sends side m ∷ []) (Sent side m ∷ [])
        (send_replays table side m mid next is) (refl, tt))

-- A message of the end, after the gap before it.
pub own_rest : (side : Side) (table : Table) (c : Certificate) (m : Message) (n : ℕ) (taken : List ℕ) (r next : Replay)
    → (message_by table c side m (sending_by c n (Sent side m) taken) r >>= λ sent. Ok (all_lost_from side sent)) ≡ Ok next
    → Leads side table r (Sent side m ∷ []) next
own_rest side table c m n taken r next is =
    let sent = then_ok (message_by table c side m (sending_by c n (Sent side m) taken) r) (λ sent. Ok (all_lost_from side sent)) next is in
    subst (Leads side table r (Sent side m ∷ [])) (ok_same {F = CheckFault} (all_lost_from side sent.0) next sent.2)
    (leads_then side table r sent.0 (all_lost_from side sent.0) (Sent side m ∷ []) []
    (message_leads side table c m n taken r sent.0 sent.1) (all_lost_leads side table sent.0))

-- A gap does not change which messages the entry after it takes.
pub tied_behind : (side : Side) (table : Table) (c : Certificate) (r behind : Replay) → gap_by (Some side) table c r ≡ Ok behind
    → tied (Some side) c behind ≡ tied (Some side) c r
tied_behind side table c r behind is =
    ap (λ (s : List Item). filter (λ n. is_sent_by (other side) (slice_get s n)) (taken_by (length s) 0 c.fates))
    ((gap_leads side table c r behind is).sent ∙ append-nil r.world.sent)

own_leads : (side : Side) (table : Table) (c : Certificate) (m : Message) (r next : Replay)
    → own_judged (Some side) table c Lost side m r ≡ Ok next
    → Leads side table r (Sent side m ∷ []) next
own_leads side table c m r next is =
    let gap = then_ok (gap_by (Some side) table c r) _ next is in
    leads_then side table r gap.0 next [] (Sent side m ∷ []) (gap_leads side table c r gap.0 gap.1)
    (own_rest side table c m (next_entry gap.0) (tied (Some side) c gap.0) gap.0 next gap.2)

-- A message of the peer, after the gap before it.
pub peer_rest : (side : Side) (table : Table) (m : Message) (so : Bool) (fault : CheckFault) (r next : Replay)
    → (needs so fault >> Ok (with_step (Tells (other side) m) r (joined (other side) m r.world))) ≡ Ok next
    → Leads side table r (Sent (other side) m ∷ []) next
peer_rest side table m so fault r next is =
    let told = with_step (Tells (other side) m) r (joined (other side) m r.world) in
    let free = needs_ok so fault (Ok told) next is in
    subst (Leads side table r (Sent (other side) m ∷ [])) (ok_same {F = CheckFault} told next free.1)
    (told_leads side table m r)

peer_leads : (side : Side) (table : Table) (c : Certificate) (fate : Fate) (m : Message) (r next : Replay)
    → peer_replayed table c fate side m r ≡ Ok next → Leads side table r (Sent (other side) m ∷ []) next
peer_leads side table c fate m r next is =
    let so = needs_ok (not (is_overtaking (other side) fate c.fates r.world.sent))
    (fault_at OutOfOrder (next_entry r)) _ next is in
    let gap = then_ok (gap_by (Some side) table c r) _ next so.1 in
    leads_then side table r gap.0 next [] (Sent (other side) m ∷ []) (gap_leads side table c r gap.0 gap.1)
    (peer_rest side table m (is_nothing (tied (Some side) c r)) (fault_at BadReply (next_entry r)) gap.0 next gap.2)

-- ---- a quiet mark

pub closed_leads : (side : Side) (table : Table) (mark : ℕ) (halves : List HalfName) (r next : Replay)
    → closed_at_mark table side mark halves r ≡ Ok next → Leads side table r [] next
closed_leads side table mark [] r next is =
    subst (Leads side table r []) (ok_same {F = CheckFault} r next is) (leads_nothing side table r)
closed_leads side table mark (name ∷ more) r next is =
    let one = then_ok (ok_or (stepped table (Closes side name) r) (fault_at NotQuiet mark))
    (closed_at_mark table side mark more) next is in
    let step = some_ok (stepped table (Closes side name) r) (fault_at NotQuiet mark) one.0 one.1 in
    leads_then side table r one.0 next [] []
    (step_leads side table (Closes side name) [] r one.0 refl step (λ adds none. none))
    (closed_leads side table mark more one.0 next one.2)

-- A quiet mark, after the gap before it.
pub mark_rest : (side : Side) (table : Table) (c : Certificate) (so : Bool) (fault : CheckFault) (entry : ℕ)
    (r next : Replay)
    → (needs so fault
    >> (closed_at_mark table side entry (open_halves (end_at side r.world)) r
    >>= λ closed. ok_or (stepped table Quiet (lost_from_front c (other side) closed)) (fault_at NotQuiet entry)))
    ≡ Ok next
    → Leads side table r (Item.Quiet ∷ []) next
mark_rest side table c so fault entry r next is =
    let free = needs_ok so fault _ next is in
    let halves = open_halves (end_at side r.world) in
    let closed = then_ok (closed_at_mark table side entry halves r) _ next free.1 in
    let before = lost_from_front c (other side) closed.0 in
    let step = some_ok (stepped table Quiet before) (fault_at NotQuiet entry) next closed.2 in
    leads_then side table r closed.0 next [] (Item.Quiet ∷ [])
    (closed_leads side table entry halves r closed.0 closed.1)
    (leads_then side table closed.0 before next [] (Item.Quiet ∷ []) (front_leads side table c (other side) closed.0)
    (step_leads side table Quiet (Item.Quiet ∷ []) before next tt step (λ adds one. one)))

mark_leads : (side : Side) (table : Table) (c : Certificate) (fate : Fate) (r next : Replay)
    → mark_judged (Some side) table c fate r ≡ Ok next → Leads side table r (Item.Quiet ∷ []) next
mark_leads side table c fate r next is =
    let entry = next_entry r in
    let so = needs_ok (is_gap (entry + 1) fate) (fault_at FateRange entry) _ next is in
    let gap = then_ok (gap_by (Some side) table c r) _ next so.1 in
    leads_then side table r gap.0 next [] (Item.Quiet ∷ []) (gap_leads side table c r gap.0 gap.1)
    (mark_rest side table c (is_nothing (tied (Some side) c r)) (fault_at NotQuiet entry) entry gap.0 next gap.2)

-- ---- entries

pub item_leads : (side : Side) (table : Table) (c : Certificate) (fate : Fate) (item : Item) (r next : Replay)
    → item_by (Some side) table c fate item r ≡ Ok next → Leads side table r (item ∷ []) next
item_leads side table c fate Item.Quiet r next is = mark_leads side table c fate r next is
item_leads side table c fate (Sent sender m) r next is = by side sender is
  where
    by : (side sender : Side) → item_by (Some side) table c fate (Sent sender m) r ≡ Ok next
        → Leads side table r (Sent sender m ∷ []) next
    by A A is = own_leads A table c m r next is
    by A B is = peer_leads A table c fate m r next is
    by B A is = peer_leads B table c fate m r next is
    by B B is = own_leads B table c m r next is

-- The entries that were replayed are these items.
pub record AreHeard (side : Side) (table : Table) (entries : List (Result Item Reason)) (r next : Replay) : Type 0 where
  pub items : List Item
  pub are : map ok_item items ≡ entries
  pub leads : Leads side table r items next

pub entries_lead : (side : Side) (table : Table) (c : Certificate) (entries : List (Result Item Reason))
    (r next : Replay)
    → entries_by (Some side) table c entries r ≡ Ok next → AreHeard side table entries r next
entries_lead side table c [] r next is =
    let so = needs_ok (next_entry r == length c.fates) (fault_at FateCount (next_entry r))
    (gap_by (Some side) table c r) next is in
    record { items = []; are = refl; leads = gap_leads side table c r next so.1 }
entries_lead side table c (entry ∷ entries) r next is =
    let fate = then_ok (ok_or (slice_get c.fates (next_entry r)) (fault_at FateCount (next_entry r))) _ next is in
    let one = then_ok (entry_by (Some side) table c fate.0 entry r) _ next fate.2 in
    by fate.0 one.0 entry refl one.1 (entries_lead side table c entries one.0 next one.2)
  where
    by : (fate : Fate) (mid : Replay) (x : Result Item Reason) → entry ≡ x → entry_by (Some side) table c fate x r ≡ Ok mid
        → AreHeard side table entries mid next → AreHeard side table (entry ∷ entries) r next
    by fate mid (Err reason) e is rest = cc
    by fate mid (Ok item) e is rest = record {
      items = item ∷ rest.items;
      are = ap₂ (λ (x : Result Item Reason) (xs : List (Result Item Reason)). x ∷ xs) (sym e) rest.are;
      leads = leads_then side table r mid next (item ∷ [])
          rest.items (item_leads side table c fate item r mid is) rest.leads;
    }
