-- A replay is a run, step by step.
use Rattle.std.proofs.Common.{◌≡◌, ℕ, ℤ, ◌+◌, ◌==◌, Bool, true, false, cond, List, [], ◌∷◌, ◌++◌, map, filter_map, length, arith, Option, Some, None, Result, Ok, Err, refl, sym, ap, ap₂, subst, ◌∙◌, append-nil}
use Rattle.std.specs.Prelude.{Contains, ok_or, slice_get}
use Rattle.std.specs.Str.{bytes_eq}
use Rattle.std.specs.List.{AllByRecursion}
use Rattle.std.proofs.lemmas.List.Elements.{Contains-append_right}
use Rattle.std.proofs.lemmas.Bool.{and_parts, eqb-true}
use Rattle.std.proofs.lemmas.Slice.Eq.{bytes_eq-Decides}
use Rattle.std.proofs.lemmas.List.{map-append}
use Rattle.tcap_msg.specs.declared.message.AbortReason.TheVariants.{Cause, Dialogue as ByDialogue}
use Rattle.tcap_msg.specs.declared.message.Message.{Message}
use Rattle.tcap_msg.specs.declared.message.Message.TheVariants.{Unidirectional, Begin, Continue, End as EndMessage, Abort}
use Rattle.tcap_msg.specs.Parts.{components_in}
use Rattle.tcap_record.specs.declared.entry.End.{End as Side}
use Rattle.tcap_end.specs.declared.fault.EndFault.{EndFault}
use Rattle.tcap_end.specs.End.{End}
use Rattle.tcap_end.specs.Step.{◌>>=◌}
use Rattle.tcap_end.specs.Reply.{aborts}
use Rattle.tcap_end.specs.declared.half.HalfName.{HalfName}
use Rattle.tcap_end.specs.Table.{Table}
use Rattle.tcap_end.specs.Message.{send}
use Rattle.tcap_end.proofs.AnsweringLaws.{needs_ok, ok_same, some_ok, then_ok}
use Rattle.tcap_record.specs.Ends.{other}
use Rattle.tcap_model.specs.World.{Item, Sent, World, end_at, with_end}
use Rattle.tcap_model.specs.Run.{Event, Sends, Receives, Replies, Expires, Closes, after, joined}
use Rattle.tcap_certificate.specs.declared.certificate.Fate.{Fate}
use Rattle.tcap_certificate.specs.declared.certificate.Fate.TheVariants.{Gap, Lost, By}
use Rattle.tcap_certificate.specs.Certificate.{Certificate}
use Rattle.tcap_certificate.specs.DescribedRun.{IsImplied, invoking_half, deliveries, gap_events, invoke_id, is_loss, sending, taken_by}
use Rattle.tcap_model.proofs.RunLaws.{grows, map_some}
use Rattle.tcap_certificate.specs.declared.fault.CheckFault.{CheckFault}
use Rattle.tcap_model.specs.declared.reason.Reason.{Reason}
use Rattle.tcap_model.specs.declared.reason.Reason.TheVariants.{BadReply, FateRange}
use Rattle.tcap_model.proofs.ChannelLaws.{get_new}
use Rattle.tcap_certificate.specs.Replay.{Replay, deliveries_by, fault_at, gap_by, after_event, implied, implied_over, is_abort, lost_before, lost_from_front, message_by, next_entry, or_same, own_message, reply_replayed, send_replayed, sent_or_refused, stepped, with_step}
use Rattle.tcap_check.proofs.replay_laws.ReplaySteps.{Replays, before_replays, losing_replays, replays_nothing, replays_then, stepped_replays, sending_so}
use Rattle.tcap_check.specs.declared.listed_steps.ListedStep.{ListedStep}
use Rattle.tcap_check.specs.ListedSteps.{all_replayed, entry_of, event_listed, listed_for, listed_replayed, side_of, why_refused}
use Rattle.tcap_check.proofs.replay_laws.ReplayGaps.{gap_events_are, gap_parts, judged_all, listed_so}

-- ---- a gap

-- An event of a gap is no loss, and adds nothing to the sent list.
pub record IsGapEvent (event : Event) : Type 0 where
  pub plain : is_loss event ≡ false
  pub adds : (table : Table) (w next : World) → after table event w ≡ Some next → next.sent ≡ w.sent ++ []

pub closes_in_gap : (side : Side) (name : HalfName) → IsGapEvent (Closes side name)
closes_in_gap side name = record {
  plain = refl;
  adds = λ table w next is. let g = grows table (Closes side name) w next is in g.2 ∙ ap (λ (x : List Item). w.sent ++ x) g.1;
}

pub expires_in_gap : (side : Side) (name : HalfName) (id : ℤ) → IsGapEvent (Expires side name id)
expires_in_gap side name id = record {
  plain = refl;
  adds = λ table w next is. let g = grows table (Expires side name id) w next is in g.2 ∙ ap (λ (x : List Item). w.sent ++ x) g.1;
}

receives_in_gap : (side : Side) (number : ℕ) → IsGapEvent (Receives side number)
receives_in_gap side number = record {
  plain = refl;
  adds = λ table w next is. let g = grows table (Receives side number) w next is in g.2 ∙ ap (λ (x : List Item). w.sent ++ x) g.1;
}

-- One such event, with the losses before it.
pub gap_event : (table : Table) (c : Certificate) (event : Event) (reason : Reason) (entry : ℕ) (r next : Replay) → IsGapEvent event
    → after_event table c event reason entry r ≡ Ok next → Replays table r (event ∷ []) [] next
gap_event table c event reason entry r next in_gap is =
    let before = lost_before c event r in
    let step = some_ok (stepped table event before) (fault_at reason entry) next is in
    let found = map_some _ (after table event before.world) next step in
    let sent : next.world.sent ≡ before.world.sent ++ [] = ap (λ (x : Replay). x.world.sent) (sym found.2) ∙ in_gap.adds table before.world found.0 found.1 in
    replays_then table r before next [] (event ∷ []) [] [] (before_replays table c event r) (stepped_replays table event [] before next in_gap.plain step sent)

-- One listed event, after the items sent so far.
pub one_replays : (table : Table) (c : Certificate) (x : ListedStep) (r next : Replay) → listed_replayed table c x r ≡ Ok next
    → (event : Event) × (event_listed r.world.sent x ≡ Some event) × Replays table r (event ∷ []) [] next
one_replays table c x r next is =
    let found = then_ok (ok_or (event_listed r.world.sent x) (fault_at FateRange (entry_of x))) _ next is in
    let named = some_ok (event_listed r.world.sent x) (fault_at FateRange (entry_of x)) found.0 found.1 in
    let in_gap = listed_so IsGapEvent r.world.sent x (closes_in_gap (side_of x)) (expires_in_gap (side_of x)) found.0 named in
    (found.0, named, gap_event table c found.0 (why_refused x) (entry_of x) r next in_gap found.2)

-- All listed events.
pub listed_replay : (table : Table) (c : Certificate) (listed : List ListedStep) (items : List Item) (r next : Replay) → r.world.sent ≡ items
    → all_replayed table c listed r ≡ Ok next
    → (events : List Event) × (map Some events ≡ map (event_listed items) listed) × Replays table r events [] next
listed_replay table c [] items r next so is = let same : r ≡ next = cc in ([], refl, subst (Replays table r [] []) same (replays_nothing table r))
listed_replay table c (x ∷ more) items r next so is =
    let then = then_ok (listed_replayed table c x r) (all_replayed table c more) next is in
    let one = one_replays table c x r then.0 then.1 in
    let so_far : then.0.world.sent ≡ items = one.2.sent ∙ append-nil r.world.sent ∙ so in
    let rest = listed_replay table c more items then.0 next so_far then.2 in (
      one.0 ∷ rest.0,
      ap₂ (λ (e : Option Event) (es : List (Option Event)). e ∷ es) (sym one.1 ∙ ap (λ (s : List Item). event_listed s x) so) rest.1,
      replays_then table r then.0 next (one.0 ∷ []) rest.0 [] [] one.2 rest.2,
    )

-- Deliveries, by number.
pub deliveries_replay : (table : Table) (c : Certificate) (gap number : ℕ) (fates : List Fate) (items : List Item) (r next : Replay)
    → deliveries_by None table c gap number fates items r ≡ Ok next → Replays table r (deliveries gap number fates items) [] next
deliveries_replay table c gap number [] items r next is = let same : r ≡ next = cc in subst (Replays table r [] []) same (replays_nothing table r)
deliveries_replay table c gap number (fate ∷ fates) [] r next is = let same : r ≡ next = cc in subst (Replays table r [] []) same (replays_nothing table r)
deliveries_replay table c gap number (Gap g ∷ fates) (Sent side message ∷ items) r next is =
    by (g == gap) (λ mid. deliveries_replay table c gap (number + 1) fates items mid next) is
  where
    by : (b : Bool)
        → ((mid : Replay) → deliveries_by None table c gap (number + 1) fates items mid ≡ Ok next
        → Replays table mid (deliveries gap (number + 1) fates items) [] next)
        → (cond b (after_event table c (Receives (other side) number) BadReply number r) (Ok r)
        >>= deliveries_by None table c gap (number + 1) fates items) ≡ Ok next
        → Replays table r
        (cond b (Receives (other side) number ∷ deliveries gap (number + 1) fates items) (deliveries gap (number + 1) fates items)) [] next
    by true on is =
        let one = then_ok (after_event table c (Receives (other side) number) BadReply number r) _ next is in
        replays_then table r one.0 next (Receives (other side) number ∷ []) (deliveries gap (number + 1) fates items) [] []
        (gap_event table c (Receives (other side) number) BadReply number r one.0 (receives_in_gap (other side) number) one.1)
        (on one.0 one.2)
    by false on is = on r is
deliveries_replay table c gap number (Gap g ∷ fates) (Item.Quiet ∷ items) r next is =
    deliveries_replay table c gap (number + 1) fates items r next is
deliveries_replay table c gap number (Lost ∷ fates) (Sent side message ∷ items) r next is = deliveries_replay table c gap (number + 1) fates items r next is
deliveries_replay table c gap number (Lost ∷ fates) (Item.Quiet ∷ items) r next is =
    deliveries_replay table c gap (number + 1) fates items r next is
deliveries_replay table c gap number (By k ∷ fates) (Sent side message ∷ items) r next is = deliveries_replay table c gap (number + 1) fates items r next is
deliveries_replay table c gap number (By k ∷ fates) (Item.Quiet ∷ items) r next is =
    deliveries_replay table c gap (number + 1) fates items r next is

-- The gap before the next entry.
pub gap_replays : (table : Table) (c : Certificate) (r next : Replay) → gap_by None table c r ≡ Ok next
    → (events : List Event) × (map Some events ≡ gap_events c r.world.sent (next_entry r)) × Replays table r events [] next
gap_replays table c r next is =
    let items = r.world.sent in
    let gap = next_entry r in
    let parts = gap_parts None table c r next is in
    let listed = listed_replay table c (listed_for None c gap) items r parts.0 refl parts.1 in
    let delivered = deliveries_replay table c gap 0 c.fates items parts.0 next parts.2 in
    let events = deliveries gap 0 c.fates items in
    let all = ap (map (event_listed items)) (judged_all c gap) in (
      listed.0 ++ events,
      map-append Some listed.0 events ∙ ap (λ (x : List (Option Event)). x ++ map Some events) (listed.1 ∙ all) ∙ sym (gap_events_are c items gap),
      replays_then table r parts.0 next listed.0 events [] [] listed.2 delivered,
    )

-- ---- an item

-- The expiries that a message implies.
pub implied_replay : (table : Table) (side : Side) (message : Message) (name : HalfName) (ids : List ℤ) (r : Replay)
    → invoking_half message ≡ Some name
    → ((id : ℤ) → Contains ids id → Contains (filter_map invoke_id (components_in message)) id)
    → (events : List Event) × AllByRecursion (IsImplied (Sent side message)) events × Replays table r events [] (implied table side name ids r)
implied_replay table side message name [] r over there = ([], tt, replays_nothing table r)
implied_replay table side message name (id ∷ ids) r over there =
    by (stepped table (Expires side name id) r) refl (λ next. implied_replay table side message name ids next over behind)
  where
    behind : (other : ℤ) → Contains ids other → Contains (filter_map invoke_id (components_in message)) other
    behind other h = there other (Contains-append_right (id ∷ []) ids other h)

    by : (o : Option Replay) → stepped table (Expires side name id) r ≡ o
        → ((next : Replay) → (events : List Event) × AllByRecursion (IsImplied (Sent side message)) events × Replays table next events [] (implied table side name ids next))
        → (events : List Event) × AllByRecursion (IsImplied (Sent side message)) events × Replays table r events [] (implied table side name ids (or_same r o))
    by None is on = on r
    by (Some next) is on =
        let event = Expires side name id in
        let found = map_some _ (after table event r.world) next is in
        let sent : next.world.sent ≡ r.world.sent ++ [] =
        ap (λ (x : Replay). x.world.sent) (sym found.2) ∙ (expires_in_gap side name id).adds table r.world found.0 found.1 in
        let rest = on next in (
          event ∷ rest.0,
          ((refl, over, there id (0, omega arith, refl)), rest.1),
          replays_then table r next _ (event ∷ []) rest.0 [] [] (stepped_replays table event [] r next refl is sent) rest.2,
        )

-- A message that an end sends.
pub send_replays : (table : Table) (side : Side) (message : Message) (r next : Replay) → send_replayed table side message r ≡ Ok next
    → Replays table r (Sends side message ∷ []) (Sent side message ∷ []) next
send_replays table side message r next is = by (send table (end_at side r.world) message) refl is
  where
    by : (sent : Result End EndFault) → send table (end_at side r.world) message ≡ sent → sent_or_refused side message r sent ≡ Ok next
        → Replays table r (Sends side message ∷ []) (Sent side message ∷ []) next
    by (Err reason) at e = cc
    by (Ok made) at e =
        let same = ok_same {F = CheckFault} (with_step (Sends side message) r (joined side message (with_end side made r.world))) next e in
        let step : stepped table (Sends side message) r ≡ Some next = rw at (ap Some same) in
        let found = map_some _ (after table (Sends side message) r.world) next step in
        let g = grows table (Sends side message) r.world found.0 found.1 in
        stepped_replays table (Sends side message) (Sent side message ∷ []) r next refl step
        (ap (λ (x : Replay). x.world.sent) (sym found.2) ∙ g.2 ∙ ap (λ (x : List Item). r.world.sent ++ x) g.1)

-- A provider's Abort is the Abort that answers the message.
pub abort_is : (cause : ℕ) (id : List ℕ) (abort : Message) → aborts cause id abort ≡ true → abort ≡ Abort id (Some (Cause cause))
abort_is cause id (Abort dtid (Some (Cause n))) is =
    let both = and_parts (n == cause) (bytes_eq id dtid) is in
    ap₂ (λ (d : List ℕ) (k : ℕ). Abort d (Some (Cause k))) (sym ((bytes_eq-Decides id dtid).0 both.1)) (eqb-true n cause both.0)
abort_is cause id (Abort dtid (Some (ByDialogue d))) is = cc
abort_is cause id (Abort dtid None) is = cc
abort_is cause id (Unidirectional dialogue components) is = cc
abort_is cause id (Begin otid dialogue components) is = cc
abort_is cause id (Continue otid dtid dialogue components) is = cc
abort_is cause id (EndMessage dtid dialogue components) is = cc

-- An item that matches an Abort with a cause is this message.
pub abort_of : (abort made : Message) (side : Side) → is_abort abort (Some (Sent side made)) ≡ true → made ≡ abort
abort_of abort (Abort dtid (Some (Cause cause))) side is = sym (abort_is cause dtid abort is)
abort_of abort (Abort dtid (Some (ByDialogue d))) side is = cc
abort_of abort (Abort dtid None) side is = cc
abort_of abort (Unidirectional dialogue components) side is = cc
abort_of abort (Begin otid dialogue components) side is = cc
abort_of abort (Continue otid dtid dialogue components) side is = cc
abort_of abort (EndMessage dtid dialogue components) side is = cc

-- The item that joined the list is the one at the next number.
newest_at : (before next : World) (items : List Item) (item : Item) → next.sent ≡ before.sent ++ items → items ≡ item ∷ []
    → slice_get next.sent (length before.sent) ≡ Some item
newest_at before next items item grown one = rw (grown, one) (get_new before.sent item)

-- An Abort by which the provider of an end answers.
pub reply_replays : (table : Table) (c : Certificate) (side : Side) (abort : Message) (number : ℕ) (r next : Replay)
    → reply_replayed table c side abort number r ≡ Ok next → Replays table r (Replies side number ∷ []) (Sent side abort ∷ []) next
reply_replays table c side abort number r next is =
    let event = Replies side number in
    let before = lost_from_front c (other side) r in
    let step = then_ok (after_event table c event BadReply (next_entry r) r) _ next is in
    let so = needs_ok (is_abort abort (slice_get step.0.world.sent (next_entry r))) (fault_at BadReply (next_entry r)) _ next step.2 in
    let last : step.0 ≡ next = ok_same {F = CheckFault} step.0 next so.1 in
    let made : stepped table event before ≡ Some step.0 = some_ok (stepped table event before) (fault_at BadReply (next_entry r)) step.0 step.1 in
    let found = map_some _ (after table event before.world) step.0 made in
    let g = grows table event before.world found.0 found.1 in
    let adds = g.1 in
    let lost = losing_replays table c (other side) r in
    let number_is : length before.world.sent ≡ next_entry r = ap length (lost.sent ∙ append-nil r.world.sent) in
    let world_is : found.0 ≡ step.0.world = ap (λ (x : Replay). x.world) found.2 in
    let there : slice_get step.0.world.sent (next_entry r) ≡ Some (Sent side adds.2) =
    ap₂ (λ (v : World) (n : ℕ). slice_get v.sent n) (sym world_is) (sym number_is) ∙ newest_at before.world found.0 g.0 (Sent side adds.2) g.2 adds.6 in
    let same : adds.2 ≡ abort = abort_of abort adds.2 side (ap (is_abort abort) (sym there) ∙ so.0) in
    let sent : next.world.sent ≡ before.world.sent ++ Sent side abort ∷ [] =
    ap (λ (x : Replay). x.world.sent) (sym last) ∙ ap (λ (v : World). v.sent) (sym world_is) ∙ g.2
    ∙ ap (λ (x : List Item). before.world.sent ++ x) adds.6 ∙ ap (λ (m : Message). before.world.sent ++ Sent side m ∷ []) same in
    replays_then table r before next [] (event ∷ []) [] (Sent side abort ∷ []) lost
    (stepped_replays table event (Sent side abort ∷ []) before next refl (made ∙ ap Some last) sent)

-- A message is replayed: the expiries that it implies, and the event that adds it to the sent list.
pub record IsSentBy (table : Table) (c : Certificate) (item : Item) (r next : Replay) : Type 0 where
  pub implied : List Event
  pub sends : Event
  pub are_implied : AllByRecursion (IsImplied item) implied
  pub sends_is : sending c (next_entry r) item ≡ Some sends
  pub replays : Replays table r (implied ++ sends ∷ []) (item ∷ []) next

pub implied_by : (table : Table) (side : Side) (message : Message) (r : Replay)
    → (events : List Event) × AllByRecursion (IsImplied (Sent side message)) events
    × Replays table r events [] (implied_over table side message (invoking_half message) r)
implied_by table side message r = by (invoking_half message) refl
  where
    by : (name : Option HalfName) → invoking_half message ≡ name
        → (events : List Event) × AllByRecursion (IsImplied (Sent side message)) events × Replays table r events [] (implied_over table side message name r)
    by None is = ([], tt, replays_nothing table r)
    by (Some name) is = implied_replay table side message name (filter_map invoke_id (components_in message)) r is (λ id h. h)

pub message_replays : (table : Table) (c : Certificate) (side : Side) (message : Message) (r next : Replay)
    → own_message None table c side message r ≡ Ok next → IsSentBy table c (Sent side message) r next
message_replays table c side message r next is =
    sending_so (λ taken o. sending c (next_entry r) (Sent side message) ≡ o → message_by table c side message o r ≡ Ok next
    → IsSentBy table c (Sent side message) r next) c (next_entry r) side message sends replies (λ taken found e. cc)
    (taken_by (next_entry r) 0 c.fates) refl is
  where
    sends : sending c (next_entry r) (Sent side message) ≡ Some (Sends side message)
        → message_by table c side message (Some (Sends side message)) r ≡ Ok next → IsSentBy table c (Sent side message) r next
    sends found e =
        let before = implied_by table side message r in
        let mid = implied_over table side message (invoking_half message) r in record {
          implied = before.0;
          sends = Sends side message;
          are_implied = before.1;
          sends_is = found;
          replays = replays_then table r mid next before.0 (Sends side message ∷ []) [] (Sent side message ∷ []) before.2 (send_replays table side message mid next e);
        }

    replies : (number : ℕ) → sending c (next_entry r) (Sent side message) ≡ Some (Replies side number)
        → message_by table c side message (Some (Replies side number)) r ≡ Ok next → IsSentBy table c (Sent side message) r next
    replies number found e = record {
      implied = [];
      sends = Replies side number;
      are_implied = tt;
      sends_is = found;
      replays = reply_replays table c side message number r next e;
    }
