-- The replay of a message of such a run: the expiries that it implies, and the event that sends it.
use Rattle.std.proofs.Common.{arith, ◌≡◌, ◌⊎◌, inl, inr, ℕ, ℤ, ◌+◌, true, List, [], ◌∷◌, ◌++◌, filter_map, length, Option, Some, None, Result, Ok, refl, sym, ap, ap₂, subst, ◌∙◌, append_assoc, append-nil}
use Rattle.std.specs.Prelude.{slice_get}
use Rattle.std.specs.List.{AllByRecursion}
use Rattle.std.proofs.lemmas.Bool.{eq-eqb}
use Rattle.std.proofs.lemmas.List.{append_cancel_left, length-append}
use Rattle.std.proofs.lemmas.Slice.Eq.{bytes_eq-Decides}
use Rattle.tcap_msg.specs.declared.message.AbortReason.TheVariants.{Cause, Dialogue as ByDialogue}
use Rattle.tcap_msg.specs.declared.message.Message.{Message}
use Rattle.tcap_msg.specs.declared.message.Message.TheVariants.{Unidirectional, Begin, Continue, End as EndMessage, Abort}
use Rattle.tcap_msg.specs.Parts.{components_in}
use Rattle.tcap_record.specs.declared.entry.End.{End as Side}
use Rattle.tcap_end.specs.declared.half.HalfName.{HalfName}
use Rattle.tcap_end.specs.End.{End}
use Rattle.tcap_end.specs.Table.{Table}
use Rattle.tcap_end.specs.Message.{send}
use Rattle.tcap_end.specs.ReachableEnd.{IsEnd}
use Rattle.tcap_model.specs.World.{Item, Sent, World, end_at, with_end}
use Rattle.tcap_model.specs.Run.{Event, Sends, Receives, Replies, Loses, Expires, Closes, Quiet, Tells, after, joined, played, option_then}
use Rattle.tcap_certificate.specs.declared.certificate.Fate.{Fate}
use Rattle.tcap_certificate.specs.declared.certificate.Fate.TheVariants.{By}
use Rattle.tcap_certificate.specs.declared.fault.CheckFault.{CheckFault}
use Rattle.tcap_model.specs.declared.reason.Reason.TheVariants.{BadReply}
use Rattle.tcap_certificate.specs.Certificate.{Certificate}
use Rattle.tcap_certificate.specs.DescribedRun.{IsImplied, invoke_id, invoking_half, sending, sending_by, taken_by}
use Rattle.tcap_certificate.specs.Replay.{Replay, fault_at, after_event, implied, implied_over, is_abort, lost_before, message_by, next_entry, or_same, own_message, reply_replayed, send_replayed, stepped, with_step}
use Rattle.tcap_model.proofs.ChannelLaws.{get_new}
use Rattle.tcap_model.proofs.RunLaws.{expiry, grows, map_some, sending as sending_of, sound}
use Rattle.tcap_check.proofs.replay_laws.ReplayLaws.{reply_replays, send_replays}
use Rattle.tcap_check.proofs.described_run_laws.ImpliedLaws.{implied_same, with_same, with_twice}
use Rattle.tcap_check.proofs.described_run_laws.AlikeLaws.{Ahead, Alike, alike_end, alike_joined, to_same, ends_same, expires_goes, go_on, next_step, replies_goes}
use Rattle.tcap_check.proofs.described_run_laws.DescribedGaps.{ok_needs, ok_some, ok_then, plain, plain_more, plain_step, some_same}
use Rattle.tcap_model.proofs.RunLaws.{then_some}
use Rattle.tcap_model.proofs.WorldLaws.{sent_with_end}
use Rattle.tcap_check.proofs.replay_laws.ReplaySteps.{from_start, taken_are}
use Rattle.tcap_check.proofs.replay_laws.ReplayGaps.{implied_so}

-- ---- a message

-- An item was sent in the replay too, with this many steps.
pub record IsSent (table : Table) (fates : List Fate) (final : World) (item : Item) (steps : ℕ) (rest : List Event) (r : Replay) (answer : Result Replay CheckFault) : Type 0 where
  pub next : Replay
  pub is : answer ≡ Ok next
  pub sent : next.world.sent ≡ r.world.sent ++ item ∷ []
  pub ahead : Ahead table fates final rest next.world
  pub count : plain next ≡ plain r + steps

-- A message is sent without expiries.
send_goes : (table : Table) (c : Certificate) (final : World) (side : Side) (message : Message) (rest : List Event) (r : Replay)
    → Ahead table c.fates final (Sends side message ∷ rest) r.world
    → IsSent table c.fates final (Sent side message) 1 rest r (send_replayed table side message r)
send_goes table c final side message rest r ahead =
    let on = next_step table c.fates final (Sends side message) rest r.world ahead in
    let s = sending_of table side message on.w on.next on.step in
    let same : send table (end_at side r.world) message ≡ Ok s.made =
    ap (λ (e : End). send table e message) (ends_same c.fates side on.w r.world on.alike) ∙ s.step in
    let next = with_step (Sends side message) r (joined side message (with_end side s.made r.world)) in
    let is : send_replayed table side message r ≡ Ok next = rw same refl in
    let alike : Alike c.fates on.next next.world =
    to_same c.fates (joined side message (with_end side s.made on.w)) on.next next.world s.next_is
    (alike_joined c.fates side message (with_end side s.made on.w) (with_end side s.made r.world)
    (alike_end c.fates side s.made on.w r.world on.alike)) in
    let steps = send_replays table side message r next is in
    record {
      next = next;
      is = is;
      sent = steps.sent;
      ahead = go_on table c.fates final (Sends side message) rest r.world next.world on alike;
      count = plain_more table r next (Sends side message ∷ []) (Sent side message ∷ []) steps;
    }

after_stepped : (table : Table) (event : Event) (r next : Replay) → stepped table event r ≡ Some next → after table event r.world ≡ Some next.world
after_stepped table event r next is =
    let found = map_some (with_step event r) (after table event r.world) next is in
    found.1 ∙ ap (λ (x : Replay). Some x.world) found.2

-- Expiries that a message implies lead to another world in which only the end differs.
pub record AreImplied (table : Table) (fates : List Fate) (final : World) (side : Side) (made rest : List Event) (v : World) : Type 0 where
  pub before : World
  pub plays : played table made v ≡ Some before
  pub world : before ≡ with_end side (end_at side before) v
  pub ahead : Ahead table fates final rest before

implied_go : (table : Table) (c : Certificate) (final : World) (side : Side) (message : Message) (made rest : List Event) (r : Replay)
    → AllByRecursion (IsImplied (Sent side message)) made → Ahead table c.fates final (made ++ rest) r.world
    → AreImplied table c.fates final side made rest r.world
implied_go table c final side message [] rest r all ahead =
    record { before = r.world; plays = refl; world = sym (with_same side r.world); ahead = ahead }
implied_go table c final side message (Expires own name id ∷ made) rest r all ahead =
    let event = Expires side name id in
    let at : Ahead table c.fates final (event ∷ (made ++ rest)) r.world =
    subst (λ (x : Side). Ahead table c.fates final (Expires x name id ∷ (made ++ rest)) r.world) ((all.0).0) ahead in
    let on = next_step table c.fates final event (made ++ rest) r.world at in
    let goes = expires_goes table c side name id on.w on.next r on.alike on.step in
    let next = goes.next in
    let step = after_stepped table event r next goes.is in
    let h = expiry table side name id r.world next.world step in
    let behind = implied_go table c final side message made rest next all.1
    (go_on table c.fates final event (made ++ rest) r.world next.world on goes.alike) in
    let last = end_at side behind.before in
    record {
      before = behind.before;
      plays =
          ap (λ (x : Side). played table (Expires x name id ∷ made) r.world) ((all.0).0)
          ∙ ap (λ (o : Option World). option_then o (played table made)) step ∙ behind.plays;
      world = behind.world ∙ ap (λ (x : World). with_end side last x) h.next_is ∙ with_twice side h.made last r.world;
      ahead = behind.ahead;
    }
implied_go table c final side message (Sends own m ∷ made) rest r all ahead = absurd (all.0)
implied_go table c final side message (Receives own n ∷ made) rest r all ahead = absurd (all.0)
implied_go table c final side message (Replies own n ∷ made) rest r all ahead = absurd (all.0)
implied_go table c final side message (Loses own n ∷ made) rest r all ahead = absurd (all.0)
implied_go table c final side message (Closes own name ∷ made) rest r all ahead = absurd (all.0)
implied_go table c final side message (Quiet ∷ made) rest r all ahead = absurd (all.0)
implied_go table c final side message (Tells own m ∷ made) rest r all ahead = absurd (all.0)

-- If a message invokes over no half, it implies no expiry.
none_implied : (side : Side) (message : Message) (made : List Event) → invoking_half message ≡ None
    → AllByRecursion (IsImplied (Sent side message)) made → made ≡ []
none_implied side message [] over all = refl
none_implied side message (event ∷ made) over all =
    absurd (implied_so (λ e. ⊥) side message (λ name id named. let none : None ≡ Some name = sym over ∙ named in cc) event all.0)

pub none_quiet : (made : List Event) → AllByRecursion (IsImplied Item.Quiet) made → made ≡ []
none_quiet [] all = refl
none_quiet (event ∷ made) all = absurd (all.0)

-- The steps that the replay makes for these expiries are no losses.
implied_plain : (table : Table) (side : Side) (name : HalfName) (ids : List ℤ) (r : Replay)
    → plain (implied table side name ids r) + length r.events ≡ length (implied table side name ids r).events + plain r
implied_plain table side name [] r = omega arith
implied_plain table side name (id ∷ ids) r = by (stepped table event r) refl (implied_plain table side name ids)
  where
    event : Event
    event = Expires side name id

    by : (o : Option Replay) → stepped table (Expires side name id) r ≡ o
        → ((x : Replay) → plain (implied table side name ids x) + length x.events ≡ length (implied table side name ids x).events + plain x)
        → plain (implied table side name ids (or_same r o)) + length r.events ≡ length (implied table side name ids (or_same r o)).events + plain r
    by None is on = on r
    by (Some next) is on =
        let found = map_some (with_step (Expires side name id) r) (after table (Expires side name id) r.world) next is in
        let events : next.events ≡ r.events ++ Expires side name id ∷ [] = ap (λ (x : Replay). x.events) (sym found.2) in
        let long : length next.events ≡ length r.events + 1 = ap length events ∙ length-append r.events (Expires side name id ∷ []) in
        let more = plain_step table (Expires side name id) r next refl is in
        let rest = on next in omega (arith, rest, long, more)

-- A message is sent after the expiries that it implies.
sends_go : (table : Table) (c : Certificate) (final : World) (side : Side) (message : Message) (made rest : List Event) (r : Replay)
    → AllByRecursion (IsImplied (Sent side message)) made → Ahead table c.fates final (made ++ Sends side message ∷ rest) r.world
    → IsSent table c.fates final (Sent side message) (length made + 1) rest r
    (send_replayed table side message (implied_over table side message (invoking_half message) r))
sends_go table c final side message made rest r all ahead = by (invoking_half message) refl
  where
    by : (name : Option HalfName) → invoking_half message ≡ name
        → IsSent table c.fates final (Sent side message) (length made + 1) rest r
        (send_replayed table side message (implied_over table side message name r))
    by None over =
        let none = none_implied side message made over all in
        let at : Ahead table c.fates final (Sends side message ∷ rest) r.world =
        subst (λ (x : List Event). Ahead table c.fates final (x ++ Sends side message ∷ rest) r.world) none ahead in
        let one = send_goes table c final side message rest r at in
        let long : length made ≡ 0 = ap length none in
        let count = one.count in
        record { next = one.next; is = one.is; sent = one.sent; ahead = one.ahead; count = omega (arith, count, long) }
    by (Some name) over =
        let walked = implied_go table c final side message made (Sends side message ∷ rest) r all ahead in
        let before = walked.before in
        let on = next_step table c.fates final (Sends side message) rest before walked.ahead in
        let s = sending_of table side message on.w on.next on.step in
        let same : send table (end_at side before) message ≡ Ok s.made =
        ap (λ (e : End). send table e message) (ends_same c.fates side on.w before on.alike) ∙ s.step in
        let is_end : IsEnd (end_at side r.world) =
        subst IsEnd (sym (ends_same c.fates side ahead.w r.world ahead.alike)) (sound table ahead.before ahead.w ahead.ran side) in
        let mid = implied table side name (filter_map invoke_id (components_in message)) r in
        let are = implied_same table side message name made r.world before s.made r is_end all over walked.plays same refl in
        let world : mid.world ≡ before = are.world ∙ sym walked.world in
        let at : Ahead table c.fates final (Sends side message ∷ rest) mid.world =
        subst (Ahead table c.fates final (Sends side message ∷ rest)) (sym world) walked.ahead in
        let one = send_goes table c final side message rest mid at in
        let still : mid.world.sent ≡ r.world.sent =
        ap (λ (x : World). x.sent) are.world ∙ sent_with_end side (end_at side before) r.world in
        let long : length mid.events ≡ length r.events + length are.steps = ap length are.events ∙ length-append r.events are.steps in
        let as_many = are.as_many in
        let no_losses = implied_plain table side name (filter_map invoke_id (components_in message)) r in
        let mid_count : plain mid ≡ plain r + length made = omega (arith, long, as_many, no_losses) in
        let count = one.count in
        record {
          next = one.next;
          is = one.is;
          sent = one.sent ∙ ap (λ (x : List Item). x ++ Sent side message ∷ []) still;
          ahead = one.ahead;
          count = omega (arith, count, mid_count);
        }

-- What a run sends joins its sent list.
sent_grows : (table : Table) (events : List Event) (w final : World) → played table events w ≡ Some final
    → (items : List Item) × (final.sent ≡ w.sent ++ items)
sent_grows table [] w final is = let same : w ≡ final = cc in ([], ap (λ (x : World). x.sent) (sym same) ∙ sym (append-nil w.sent))
sent_grows table (event ∷ events) w final is =
    let found = then_some (after table event w) (played table events) final is in
    let adds = grows table event w found.0 found.1 in
    let rest = sent_grows table events found.0 final found.2 in
    (adds.0 ++ rest.0, rest.1 ∙ ap (λ (x : List Item). x ++ rest.0) adds.2 ∙ append_assoc w.sent adds.0 rest.0)

-- The next item of a list is the one at this place in the whole list.
same_item : (front all behind more : List Item) (item found : Item) → all ≡ (front ++ found ∷ []) ++ behind → all ≡ front ++ item ∷ more
    → found ≡ item
same_item front all behind more item found a b =
    let same : (found ∷ []) ++ behind ≡ item ∷ more =
    append_cancel_left front ((found ∷ []) ++ behind) (item ∷ more) (sym (append_assoc front (found ∷ []) behind) ∙ sym a ∙ b) in cc

abort_itself : (side : Side) (message : Message) (dtid : List ℕ) (cause : ℕ) → message ≡ Abort dtid (Some (Cause cause))
    → is_abort message (Some (Sent side message)) ≡ true
abort_itself side message dtid cause is =
    rw is (rw (eq-eqb cause cause refl, (bytes_eq-Decides dtid dtid).1 refl) refl)

-- A provider answers by an Abort.
reply_goes : (table : Table) (c : Certificate) (final : World) (side : Side) (message : Message) (dtid : List ℕ) (cause k number : ℕ)
    (more : List Item) (rest : List Event) (r : Replay)
    → message ≡ Abort dtid (Some (Cause cause)) → slice_get c.fates k ≡ Some (By number)
    → final.sent ≡ r.world.sent ++ Sent side message ∷ more → Ahead table c.fates final (Replies side k ∷ rest) r.world
    → IsSent table c.fates final (Sent side message) 1 rest r (reply_replayed table c side message k r)
reply_goes table c final side message dtid cause k number more rest r abort fate ends ahead =
    let event = Replies side k in
    let on = next_step table c.fates final event rest r.world ahead in
    let goes = replies_goes table c side k number on.w on.next r fate on.alike on.step in
    let adds = grows table event on.w on.next on.step in
    let made = adds.1 in
    let joins : on.next.sent ≡ r.world.sent ++ Sent side made.2 ∷ [] =
    adds.2 ∙ ap₂ (λ (x y : List Item). x ++ y) (sym on.alike.sent) made.6 in
    let behind = sent_grows table on.events on.next final on.plays in
    let same : Sent side made.2 ≡ Sent side message =
    same_item r.world.sent final.sent behind.0 more (Sent side message) (Sent side made.2)
    (behind.1 ∙ ap (λ (x : List Item). x ++ behind.0) joins) ends in
    let sent : goes.next.world.sent ≡ r.world.sent ++ Sent side message ∷ [] =
    goes.alike.sent ∙ joins ∙ ap (λ (x : Item). r.world.sent ++ x ∷ []) same in
    let there : slice_get goes.next.world.sent (next_entry r) ≡ Some (Sent side message) =
    ap (λ (x : List Item). slice_get x (next_entry r)) sent ∙ get_new r.world.sent (Sent side message) in
    let is : reply_replayed table c side message k r ≡ Ok goes.next =
    ok_then (after_event table c event BadReply (next_entry r) r) _ goes.next goes.next
    (ok_some (stepped table event (lost_before c event r)) (fault_at BadReply (next_entry r)) goes.next goes.is)
    (ok_needs (is_abort message (slice_get goes.next.world.sent (next_entry r))) (fault_at BadReply (next_entry r)) (Ok goes.next) goes.next
    (ap (is_abort message) there ∙ abort_itself side message dtid cause abort) refl) in
    record {
      next = goes.next;
      is = is;
      sent = sent;
      ahead = go_on table c.fates final event rest r.world goes.next.world on goes.alike;
      count = plain_more table r goes.next (event ∷ []) (Sent side message ∷ []) (reply_replays table c side message k r goes.next is);
    }

-- A message is sent by a send, or by a reply that takes one message.
message_event : (c : Certificate) (number : ℕ) (side : Side) (message : Message) (taken : List ℕ) (event : Event)
    → sending_by c number (Sent side message) taken ≡ Some event
    → (event ≡ Sends side message)
    ⊎ ((k : ℕ) × (dtid : List ℕ) × (cause : ℕ) × (event ≡ Replies side k) × (taken ≡ k ∷ []) × (message ≡ Abort dtid (Some (Cause cause))))
message_event c number side (Abort dtid (Some (Cause cause))) [] event is = cc
message_event c number side (Abort dtid (Some (Cause cause))) (t ∷ []) event is =
    inr (t, dtid, cause, some_same (Replies side t) event is, refl, refl)
message_event c number side (Abort dtid (Some (Cause cause))) (t ∷ u ∷ more) event is = cc
message_event c number side (Abort dtid (Some (ByDialogue d))) [] event is = inl (some_same _ event is)
message_event c number side (Abort dtid (Some (ByDialogue d))) (t ∷ more) event is = cc
message_event c number side (Abort dtid None) [] event is = inl (some_same _ event is)
message_event c number side (Abort dtid None) (t ∷ more) event is = cc
message_event c number side (Unidirectional dialogue components) [] event is = inl (some_same _ event is)
message_event c number side (Unidirectional dialogue components) (t ∷ more) event is = cc
message_event c number side (Begin otid dialogue components) [] event is = inl (some_same _ event is)
message_event c number side (Begin otid dialogue components) (t ∷ more) event is = cc
message_event c number side (Continue otid dtid dialogue components) [] event is = inl (some_same _ event is)
message_event c number side (Continue otid dtid dialogue components) (t ∷ more) event is = cc
message_event c number side (EndMessage dtid dialogue components) [] event is = inl (some_same _ event is)
message_event c number side (EndMessage dtid dialogue components) (t ∷ more) event is = cc

-- A message is sent as the certificate says.
pub message_goes : (table : Table) (c : Certificate) (final : World) (side : Side) (message : Message) (made rest : List Event) (sends : Event)
    (more : List Item) (r : Replay) → sending c (next_entry r) (Sent side message) ≡ Some sends
    → AllByRecursion (IsImplied (Sent side message)) made → final.sent ≡ r.world.sent ++ Sent side message ∷ more
    → Ahead table c.fates final (made ++ sends ∷ rest) r.world
    → IsSent table c.fates final (Sent side message) (length made + 1) rest r (own_message None table c side message r)
message_goes table c final side message made rest sends more r is all ends ahead =
    by (message_event c (next_entry r) side message (taken_by (next_entry r) 0 c.fates) sends is)
  where
    answer : Option Event → Type 0
    answer o = IsSent table c.fates final (Sent side message) (length made + 1) rest r (message_by table c side message o r)

    by : (sends ≡ Sends side message)
        ⊎ ((k : ℕ) × (dtid : List ℕ) × (cause : ℕ) × (sends ≡ Replies side k) × (taken_by (next_entry r) 0 c.fates ≡ k ∷ [])
        × (message ≡ Abort dtid (Some (Cause cause))))
        → answer (sending c (next_entry r) (Sent side message))
    by (inl same) =
        subst answer (sym (is ∙ ap Some same))
        (sends_go table c final side message made rest r all
        (subst (λ (e : Event). Ahead table c.fates final (made ++ e ∷ rest) r.world) same ahead))
    by (inr (k, dtid, cause, same, taken, abort)) =
        let none = none_implied side message made (ap invoking_half abort) all in
        let long : length made ≡ 0 = ap length none in
        let at : Ahead table c.fates final (Replies side k ∷ rest) r.world =
        subst (λ (x : List Event). Ahead table c.fates final (x ++ Replies side k ∷ rest) r.world) none
        (subst (λ (e : Event). Ahead table c.fates final (made ++ e ∷ rest) r.world) same ahead) in
        let number = next_entry r in
        let fates = subst (AllByRecursion (λ (n : ℕ). slice_get c.fates n ≡ Some (By number))) taken
        (taken_are c.fates c.fates number 0 (from_start c.fates)) in
        let one = reply_goes table c final side message dtid cause k number more rest r abort (fates.0) ends at in
        let count = one.count in
        subst answer (sym (is ∙ ap Some same))
        (record { next = one.next; is = one.is; sent = one.sent; ahead = one.ahead; count = omega (arith, count, long) })
