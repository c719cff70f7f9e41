-- A message that an end sends, or by which its provider answers, over what is kept is that of the replay.
use Rattle.std.proofs.Common.{◌≡◌, ℕ, ℤ, ◌==◌, Bool, true, false, List, [], ◌∷◌, length, Option, Some, None, Result, Ok, Err, refl, sym, ap, ap₂, ◌∙◌, is_ok, is_none, not}
use Rattle.std.specs.Prelude.{filter_map, slice_get, ◌&&◌, ◌||◌}
use Rattle.std.proofs.lemmas.Bool.{eq-eqb}
use Rattle.std.proofs.lemmas.Slice.Eq.{bytes_eq-Decides}
use Rattle.tcap_msg.specs.declared.message.AbortReason.TheVariants.{Cause, Dialogue as ByDialogue}
use Rattle.tcap_msg.specs.declared.message.Message.{Message}
use Rattle.tcap_msg.specs.declared.message.Message.TheVariants.{Unidirectional, Begin, Continue, End as EndMessage, Abort}
use Rattle.tcap_msg.specs.Parts.{components_in}
use Rattle.tcap_record.specs.declared.entry.End.{End as Side}
use Rattle.tcap_record.specs.declared.entry.End.TheVariants as sides
use Rattle.tcap_end.specs.declared.fault.EndFault.{EndFault}
use Rattle.tcap_end.specs.declared.fault.EndFault.TheVariants as faults
use Rattle.tcap_end.specs.declared.half.HalfName.{HalfName}
use Rattle.tcap_end.specs.Table.{Table}
use Rattle.tcap_end.specs.End.{End, with_own, with_peer}
use Rattle.tcap_end.specs.HiddenSteps.{expire}
use Rattle.tcap_end.specs.Message.{send}
use Rattle.tcap_end.specs.Reply.{aborts, is_open}
use Rattle.tcap_end.specs.Step.{needs, ◌>>◌}
use Rattle.tcap_certificate.specs.declared.certificate.Fate.{Fate}
use Rattle.tcap_certificate.specs.declared.fault.CheckFault.{CheckFault}
use Rattle.tcap_model.specs.declared.reason.Reason.TheVariants.{BadReply, SendRefused}
use Rattle.tcap_check.specs.declared.progress.Progress.{Progress}
use Rattle.tcap_check.specs.declared.progress.Waiting.{Waiting}
use Rattle.tcap_record.specs.Ends.{other}
use Rattle.tcap_model.specs.World.{MessageInTransit, Sent, World, channel_from, end_at, with_end}
use Rattle.tcap_model.specs.Run.{Event, Sends, Replies, Expires, Tells, joined, may_refuse, provider_abort, reply_to, only_if}
use Rattle.tcap_certificate.specs.Certificate.{Certificate}
use Rattle.tcap_certificate.specs.DescribedRun.{invoke_id, invoking_half, sending_by}
use Rattle.tcap_certificate.specs.Replay.{Replay, after_sending, fault_at, implied, implied_over, is_nothing, lost_from_front, message_by, next_entry, or_same, refused, reply_replayed, send_replayed, sent_or_refused, stepped, with_step}
use Rattle.tcap_certificate.specs.LossCounts.{is_lost_from}
use Rattle.tcap_check.specs.Progress.{end_tried, first_answered, ids_ended, ids_ended_over, message_kept, or_still, reply_kept, side_at, send_kept, sent_by, sent_or_not, with_waiting}
use Rattle.tcap_check.specs.ReplaySteps.{is_received_from, own_fate, own_taken, sent_lost, peer_message_taken}
use Rattle.tcap_check.specs.CheckerMeaning.{map_ok, progress_of, waiting_at}
use Rattle.tcap_model.proofs.ChannelLaws.{get_new}
use Rattle.tcap_check.proofs.replay_laws.ReplaySteps.{same_end}
use Rattle.tcap_check.proofs.replay_laws.ReplayLaws.{abort_of}
use Rattle.tcap_check.proofs.progress_laws.KeptBasics.{channel_put, end_kept, end_put, end_step_is, front_is, sent_lost_is, waiting_kept}
use Rattle.tcap_check.proofs.progress_laws.KeptDeliveries.{HasFront, front_waits, without_head}
use Rattle.tcap_check.proofs.progress_laws.KeptSends.{fate_at, joined_is}
use Rattle.tcap_model.proofs.WorldLaws.{apart, sent_with_end}

-- ---- expiries that a message implies

pub one_implied : (listing : Bool) (table : Table) (judged : Option Side) (c : Certificate) (side : Side) (name : HalfName) (id : ℤ) (r : Replay)
    → end_tried table side name id (progress_of listing judged c r)
    ≡ progress_of listing judged c (or_same r (stepped table (Expires side name id) r))
one_implied listing table judged c side name id r =
    ap (λ (e : End). or_still side (Expires side name id) (progress_of listing judged c r) (expire table e name id)) (end_kept listing judged c side r)
    ∙ by (expire table (end_at side r.world) name id) refl
  where
    by : (o : Result End EndFault) → expire table (end_at side r.world) name id ≡ o
        → or_still side (Expires side name id) (progress_of listing judged c r) o ≡ progress_of listing judged c (or_same r (stepped table (Expires side name id) r))
    by (Ok e) is = rw is (sym (end_step_is listing judged c (Expires side name id) side e r (λ at. refl)))
    by (Err reason) is = rw is refl

one_sends_nothing : (table : Table) (side : Side) (name : HalfName) (id : ℤ) (r : Replay)
    → (or_same r (stepped table (Expires side name id) r)).world.sent ≡ r.world.sent
one_sends_nothing table side name id r = by side (expire table (end_at side r.world) name id) refl
  where
    by : (side : Side) (o : Result End EndFault) → expire table (end_at side r.world) name id ≡ o
        → (or_same r (stepped table (Expires side name id) r)).world.sent ≡ r.world.sent
    by sides.A (Ok e) is = rw is refl
    by sides.B (Ok e) is = rw is refl
    by sides.A (Err reason) is = rw is refl
    by sides.B (Err reason) is = rw is refl

implied_is : (listing : Bool) (table : Table) (judged : Option Side) (c : Certificate) (side : Side) (name : HalfName) (ids : List ℤ) (r : Replay)
    → ids_ended table side name ids (progress_of listing judged c r) ≡ progress_of listing judged c (implied table side name ids r)
implied_is listing table judged c side name [] r = refl
implied_is listing table judged c side name (id ∷ ids) r =
    ap (ids_ended table side name ids) (one_implied listing table judged c side name id r)
    ∙ implied_is listing table judged c side name ids (or_same r (stepped table (Expires side name id) r))

implied_sends_nothing : (table : Table) (side : Side) (name : HalfName) (ids : List ℤ) (r : Replay)
    → (implied table side name ids r).world.sent ≡ r.world.sent
implied_sends_nothing table side name [] r = refl
implied_sends_nothing table side name (id ∷ ids) r =
    implied_sends_nothing table side name ids (or_same r (stepped table (Expires side name id) r))
    ∙ one_sends_nothing table side name id r

pub over_is : (listing : Bool) (table : Table) (judged : Option Side) (c : Certificate) (side : Side) (message : Message) (half : Option HalfName) (r : Replay)
    → ids_ended_over table side half (filter_map invoke_id (components_in message)) (progress_of listing judged c r)
    ≡ progress_of listing judged c (implied_over table side message half r)
over_is listing table judged c side message None r = refl
over_is listing table judged c side message (Some name) r = implied_is listing table judged c side name (filter_map invoke_id (components_in message)) r

over_sends_nothing : (table : Table) (side : Side) (message : Message) (half : Option HalfName) (r : Replay)
    → (implied_over table side message half r).world.sent ≡ r.world.sent
over_sends_nothing table side message None r = refl
over_sends_nothing table side message (Some name) r =
    implied_sends_nothing table side name (filter_map invoke_id (components_in message)) r

-- ---- a send

-- The fate of a message of a judged end.
own_fate_is : (judged : Option Side) (side : Side) (fate : Fate) → is_received_from judged (other side) ≡ true → fate_at judged side fate ≡ own_fate judged fate
own_fate_is None side fate so = refl
own_fate_is (Some sides.A) sides.A fate so = refl
own_fate_is (Some sides.A) sides.B fate so = cc
own_fate_is (Some sides.B) sides.A fate so = cc
own_fate_is (Some sides.B) sides.B fate so = refl

-- The message joins its channel.
own_joined : (listing : Bool) (judged : Option Side) (c : Certificate) (side : Side) (event : Event) (message : Message) (fate : Fate) (r : Replay)
    → is_received_from judged (other side) ≡ true → ((at : Side) → is_lost_from at event ≡ false) → slice_get c.fates (next_entry r) ≡ Some fate
    → progress_of listing judged c (with_step event r (joined side message r.world))
    ≡ sent_by event side (own_fate judged fate) (next_entry r) message (progress_of listing judged c r)
own_joined listing judged c side event message fate r so none has =
    joined_is listing judged c side event message fate r none has
    ∙ ap (λ (f : Fate). sent_by event side f (next_entry r) message (progress_of listing judged c r)) (own_fate_is judged side fate so)

sent_is : (listing : Bool) (judged : Option Side) (c : Certificate) (fate : Fate) (side : Side) (message : Message) (number : ℕ) (r : Replay)
    (o : Result End EndFault) → is_received_from judged (other side) ≡ true → next_entry r ≡ number → slice_get c.fates number ≡ Some fate
    → sent_or_not side (own_fate judged fate) number message (progress_of listing judged c r) o
    ≡ map_ok (progress_of listing judged c) (sent_or_refused side message r o)
sent_is listing judged c fate side message number r (Err reason) so is has =
    ap (λ (n : ℕ). let x : Result Progress CheckFault = refused (SendRefused reason) n in x) (sym is)
sent_is listing judged c fate side message number r (Ok e) so is has =
    let x : Replay = record { events = r.events; discards = r.discards; world = with_end side e r.world } in
    let count : next_entry x ≡ number = ap length (sent_with_end side e r.world) ∙ is in
    let joins = own_joined listing judged c side (Sends side message) message fate x so (λ at. refl) (ap (slice_get c.fates) count ∙ has) in
    ap (λ (p : Progress). let z : Result Progress CheckFault = Ok p in z)
    (sym (joins ∙ ap₂ (λ (n : ℕ) (p : Progress). sent_by (Sends side message) side (own_fate judged fate) n message p) count (end_put listing judged c side e r)))

send_is : (listing : Bool) (table : Table) (judged : Option Side) (c : Certificate) (fate : Fate) (side : Side) (message : Message) (r : Replay)
    → is_received_from judged (other side) ≡ true → slice_get c.fates (next_entry r) ≡ Some fate
    → send_kept table side (own_fate judged fate) (next_entry r) message (progress_of listing judged c r)
    ≡ map_ok (progress_of listing judged c) (send_replayed table side message (implied_over table side message (invoking_half message) r))
send_is listing table judged c fate side message r so has =
    let before = implied_over table side message (invoking_half message) r in
    let number : next_entry before ≡ next_entry r = ap length (over_sends_nothing table side message (invoking_half message) r) in
    ap (λ (p : Progress). sent_or_not side (own_fate judged fate) (next_entry r) message p (send table (side_at side p).end message))
    (over_is listing table judged c side message (invoking_half message) r)
    ∙ ap (λ (e : End). sent_or_not side (own_fate judged fate) (next_entry r) message (progress_of listing judged c before) (send table e message))
    (end_kept listing judged c side before)
    ∙ sent_is listing judged c fate side message (next_entry r) before (send table (end_at side before.world) message) so number has

-- ---- a reply

-- The cause and the ID by which a provider answers a message, if it may, and whether it may answer by this Abort.
record IsAnswerable (e : End) (message abort : Message) : Type 0 where
  cause : ℕ
  id : List ℕ
  so : Bool
  reply : reply_to e message ≡ only_if so (Some (provider_abort id cause))
  may : may_refuse e message abort ≡ (aborts cause id abort && so)

pub itself : (cause : ℕ) (id : List ℕ) → aborts cause id (provider_abort id cause) ≡ true
itself cause id = rw (eq-eqb cause cause refl, (bytes_eq-Decides id id).1 refl) refl

not_both : (x : Bool) → false ≡ (x && false)
not_both true = refl
not_both false = refl

answerable : (e : End) (message abort : Message) → IsAnswerable e message abort
answerable e (Begin otid dialogue components) abort =
    record { cause = 4; id = otid; so = is_none (with_peer e otid); reply = reply; may = may (aborts 4 otid abort) (is_none (with_peer e otid)) }
  where
    may : (x y : Bool) → (is_ok (needs x faults.NoTransaction >> needs y faults.NoTransaction) || false) ≡ (x && y)
    may true true = refl
    may true false = refl
    may false true = refl
    may false false = refl

    reply : reply_to e (Begin otid dialogue components) ≡ only_if (is_none (with_peer e otid)) (Some (provider_abort otid 4))
    reply = rw (itself 4 otid) (by (is_none (with_peer e otid)))
      where
        by : (y : Bool) → only_if (is_ok (needs y faults.NoTransaction) || false) (Some (provider_abort otid 4))
            ≡ only_if y (Some (provider_abort otid 4))
        by true = refl
        by false = refl
answerable e (Continue otid dtid dialogue components) abort =
    record { cause = 1; id = otid; so = not (is_open (with_own e dtid)); reply = reply; may = may (aborts 1 otid abort) (not (is_open (with_own e dtid))) }
  where
    may : (x y : Bool) → is_ok (needs x faults.NoTransaction >> needs y faults.NoTransaction) ≡ (x && y)
    may true true = refl
    may true false = refl
    may false true = refl
    may false false = refl

    reply : reply_to e (Continue otid dtid dialogue components) ≡ only_if (not (is_open (with_own e dtid))) (Some (provider_abort otid 1))
    reply = rw (itself 1 otid) (by (not (is_open (with_own e dtid))))
      where
        by : (y : Bool) → only_if (is_ok (needs y faults.NoTransaction)) (Some (provider_abort otid 1))
            ≡ only_if y (Some (provider_abort otid 1))
        by true = refl
        by false = refl
answerable e (Unidirectional dialogue components) abort =
    record { cause = 1; id = []; so = false; reply = refl; may = not_both (aborts 1 [] abort) }
answerable e (EndMessage dtid dialogue components) abort =
    record { cause = 1; id = []; so = false; reply = refl; may = not_both (aborts 1 [] abort) }
answerable e (Abort dtid reason) abort =
    record { cause = 1; id = []; so = false; reply = refl; may = not_both (aborts 1 [] abort) }

joined_last : (side : Side) (abort : Message) (w : World) → slice_get (joined side abort w).sent (length w.sent) ≡ Some (Sent side abort)
joined_last sides.A abort w = get_new w.sent (Sent sides.A abort)
joined_last sides.B abort w = get_new w.sent (Sent sides.B abort)

module _ (listing : Bool) (table : Table) (judged : Option Side) (c : Certificate) (fate : Fate) (side : Side) (abort : Message) (taken : ℕ) (r : Replay)
    (head : MessageInTransit) (left : List MessageInTransit) where
  -- what is kept without the first message on its way
  abbrev kept_left : Progress
  kept_left = with_waiting (other side) (waiting_at judged (other side) c.fates left) (progress_of listing judged c (lost_from_front c (other side) r))

  -- what is kept after the answer to the first message, if its number is right
  abbrev answered : Result Progress CheckFault
  answered = needs ((head.number == taken) && may_refuse (end_at side r.world) head.message abort) (fault_at BadReply (next_entry r))
      >> Ok (sent_by (Replies side taken) side (own_fate judged fate) (next_entry r) abort kept_left)

  -- The Abort joins its channel after that.
  abort_joins : (event : Event) (made : Message) → made ≡ abort → is_received_from judged (other side) ≡ true → ((at : Side) → is_lost_from at event ≡ false)
      → slice_get c.fates (next_entry (without_head (other side) c left r)) ≡ Some fate
      → next_entry (without_head (other side) c left r) ≡ next_entry r
      → (let x : Result Progress CheckFault = Ok (sent_by event side (own_fate judged fate) (next_entry r) abort kept_left) in x)
      ≡ Ok (progress_of listing judged c (with_step event (without_head (other side) c left r) (joined side made (without_head (other side) c left r).world)))
  abort_joins event made same so none has count =
      let behind = without_head (other side) c left r in
      ap (λ (p : Progress). let x : Result Progress CheckFault = Ok p in x)
      (sym (own_joined listing judged c side event made fate behind so none has
      ∙ ap (λ (n : ℕ). sent_by event side (own_fate judged fate) n made (progress_of listing judged c behind)) count
      ∙ ap₂ (λ (m : Message) (p : Progress). sent_by event side (own_fate judged fate) (next_entry r) m p) same
      (channel_put listing judged c (other side) left (lost_from_front c (other side) r))))

-- The head has this number, or it does not.
answers_head : (listing : Bool) (table : Table) (judged : Option Side) (c : Certificate) (fate : Fate) (side : Side) (abort : Message) (taken : ℕ) (r : Replay)
    (head : MessageInTransit) (left : List MessageInTransit) (front : HasFront c (other side) head left r) (b : Bool) → is_received_from judged (other side) ≡ true
    → (head.number == taken) ≡ b → slice_get c.fates (next_entry r) ≡ Some fate
    → IsAnswerable (end_at side r.world) head.message abort
    → answered listing table judged c fate side abort taken r head left ≡ map_ok (progress_of listing judged c) (reply_replayed table c side abort taken r)
answers_head listing table judged c fate sides.A abort taken r head left front false so is has can = rw (front.channel, is) refl
answers_head listing table judged c fate sides.A abort taken r head left front true so is has can = by can.so (aborts can.cause can.id abort) can.reply can.may refl
  where
    made : Message
    made = provider_abort can.id can.cause

    by : (made_so x : Bool) → reply_to r.world.a head.message ≡ only_if made_so (Some made)
        → may_refuse r.world.a head.message abort ≡ (aborts can.cause can.id abort && made_so) → aborts can.cause can.id abort ≡ x
        → answered listing table judged c fate sides.A abort taken r head left ≡ map_ok (progress_of listing judged c) (reply_replayed table c sides.A abort taken r)
    by false false reply may e = rw (front.channel, is, reply, may, e) refl
    by false true reply may e = rw (front.channel, is, reply, may, e) refl
    by true false reply may e =
        rw (front.channel, is, reply, may, e, joined_last sides.A made (without_head sides.B c left r).world, e) refl
    by true true reply may e =
        rw (front.channel, is, reply, may, e, joined_last sides.A made (without_head sides.B c left r).world, e)
        (abort_joins listing table judged c fate sides.A abort taken r head left (Replies sides.A taken) made (abort_of abort made sides.A e) so (λ at. refl)
        has refl)
answers_head listing table judged c fate sides.B abort taken r head left front false so is has can = rw (front.channel, is) refl
answers_head listing table judged c fate sides.B abort taken r head left front true so is has can = by can.so (aborts can.cause can.id abort) can.reply can.may refl
  where
    made : Message
    made = provider_abort can.id can.cause

    by : (made_so x : Bool) → reply_to r.world.b head.message ≡ only_if made_so (Some made)
        → may_refuse r.world.b head.message abort ≡ (aborts can.cause can.id abort && made_so) → aborts can.cause can.id abort ≡ x
        → answered listing table judged c fate sides.B abort taken r head left ≡ map_ok (progress_of listing judged c) (reply_replayed table c sides.B abort taken r)
    by false false reply may e = rw (front.channel, is, reply, may, e) refl
    by false true reply may e = rw (front.channel, is, reply, may, e) refl
    by true false reply may e =
        rw (front.channel, is, reply, may, e, joined_last sides.B made (without_head sides.A c left r).world, e) refl
    by true true reply may e =
        rw (front.channel, is, reply, may, e, joined_last sides.B made (without_head sides.A c left r).world, e)
        (abort_joins listing table judged c fate sides.B abort taken r head left (Replies sides.B taken) made (abort_of abort made sides.B e) so (λ at. refl)
        has refl)

-- A provider's answer.
reply_is : (listing : Bool) (table : Table) (judged : Option Side) (c : Certificate) (fate : Fate) (side : Side) (abort : Message) (taken : ℕ) (r : Replay)
    → is_received_from judged (other side) ≡ true → slice_get c.fates (next_entry r) ≡ Some fate
    → reply_kept judged side (own_fate judged fate) (next_entry r) abort taken (progress_of listing judged c r)
    ≡ map_ok (progress_of listing judged c) (reply_replayed table c side abort taken r)
reply_is listing table judged c fate side abort taken r so has =
    ap (λ (p : Progress). first_answered side (own_fate judged fate) (next_entry r) abort taken (side_at (other side) p).waiting p)
    (front_is listing judged c (other side) r so)
    ∙ by (channel_from (other side) before.world) refl
  where
    before : Replay
    before = lost_from_front c (other side) r

    none : (side : Side) → channel_from (other side) (lost_from_front c (other side) r).world ≡ []
        → (let x : Result Progress CheckFault = refused BadReply (next_entry r) in x)
        ≡ map_ok (progress_of listing judged c) (reply_replayed table c side abort taken r)
    none sides.A is = rw is refl
    none sides.B is = rw is refl

    by : (messages : List MessageInTransit) → channel_from (other side) before.world ≡ messages
        → first_answered side (own_fate judged fate) (next_entry r) abort taken (side_at (other side) (progress_of listing judged c before)).waiting
        (progress_of listing judged c before)
        ≡ map_ok (progress_of listing judged c) (reply_replayed table c side abort taken r)
    by [] is =
        ap (λ (messages : List Waiting). first_answered side (own_fate judged fate) (next_entry r) abort taken messages (progress_of listing judged c before))
        (waiting_kept listing judged c (other side) before ∙ ap (waiting_at judged (other side) c.fates) is)
        ∙ none side is
    by (head ∷ left) is =
        let front : HasFront c (other side) head left r = record { channel = is } in
        ap (λ (messages : List Waiting). first_answered side (own_fate judged fate) (next_entry r) abort taken messages (progress_of listing judged c before))
        (front_waits listing judged c (other side) head left r so front)
        ∙ ap (λ (e : End). needs ((head.number == taken) && may_refuse e head.message abort) (fault_at BadReply (next_entry r))
        >> sent_so (sent_by (Replies side taken) side (own_fate judged fate) (next_entry r) abort (kept_left listing table judged c fate side abort taken r head left)))
        (end_kept listing judged c side before ∙ same_end c (other side) side r)
        ∙ answers_head listing table judged c fate side abort taken r head left front (head.number == taken) so refl has
        (answerable (end_at side r.world) head.message abort)
      where
        sent_so : Progress → Result Progress CheckFault
        sent_so p = Ok p

-- A message that takes these messages.
pub message_by_is : (listing : Bool) (table : Table) (judged : Option Side) (c : Certificate) (fate : Fate) (side : Side) (message : Message) (takes : List ℕ)
    (r : Replay) → is_received_from judged (other side) ≡ true → slice_get c.fates (next_entry r) ≡ Some fate
    → message_kept judged table side (own_fate judged fate) (next_entry r) message takes (progress_of listing judged c r)
    ≡ map_ok (progress_of listing judged c) (message_by table c side message (sending_by c (next_entry r) (Sent side message) takes) r)
message_by_is listing table judged c fate side message takes r so has = by message takes
  where
    sends : (message : Message)
        → send_kept table side (own_fate judged fate) (next_entry r) message (progress_of listing judged c r)
        ≡ map_ok (progress_of listing judged c) (send_replayed table side message (implied_over table side message (invoking_half message) r))
    sends message = send_is listing table judged c fate side message r so has

    by : (message : Message) (taken : List ℕ)
        → message_kept judged table side (own_fate judged fate) (next_entry r) message taken (progress_of listing judged c r)
        ≡ map_ok (progress_of listing judged c) (message_by table c side message (sending_by c (next_entry r) (Sent side message) taken) r)
    by (Abort dtid (Some (Cause n))) [] = refl
    by (Abort dtid (Some (Cause n))) (taken ∷ []) = reply_is listing table judged c fate side (Abort dtid (Some (Cause n))) taken r so has
    by (Abort dtid (Some (Cause n))) (taken ∷ second ∷ more) = refl
    by (Abort dtid (Some (ByDialogue d))) [] = sends (Abort dtid (Some (ByDialogue d)))
    by (Abort dtid (Some (ByDialogue d))) (taken ∷ more) = refl
    by (Abort dtid None) [] = sends (Abort dtid None)
    by (Abort dtid None) (taken ∷ more) = refl
    by (Unidirectional dialogue components) [] = sends (Unidirectional dialogue components)
    by (Unidirectional dialogue components) (taken ∷ more) = refl
    by (Begin otid dialogue components) [] = sends (Begin otid dialogue components)
    by (Begin otid dialogue components) (taken ∷ more) = refl
    by (Continue otid dtid dialogue components) [] = sends (Continue otid dtid dialogue components)
    by (Continue otid dtid dialogue components) (taken ∷ more) = refl
    by (EndMessage dtid dialogue components) [] = sends (EndMessage dtid dialogue components)
    by (EndMessage dtid dialogue components) (taken ∷ more) = refl

-- ---- for each choice of judged ends

-- A message of an end that is judged alone is lost.
pub own_is : (listing : Bool) (judged : Option Side) (table : Table) (c : Certificate) (fate : Fate) (side : Side) (message : Message) (takes : List ℕ) (r : Replay)
    → is_received_from judged (other side) ≡ true → slice_get c.fates (next_entry r) ≡ Some fate
    → own_taken judged table side fate (next_entry r) message takes (progress_of listing judged c r)
    ≡ map_ok (progress_of listing judged c)
    (after_sending judged (message_by table c side message (sending_by c (next_entry r) (Sent side message) takes) r))
own_is listing judged table c fate side message takes r so has =
    ap (map_ok (sent_lost judged)) (message_by_is listing table judged c fate side message takes r so has)
    ∙ by judged (message_by table c side message (sending_by c (next_entry r) (Sent side message) takes) r)
  where
    by : (judged : Option Side) (s : Result Replay CheckFault)
        → map_ok (sent_lost judged) (map_ok (progress_of listing judged c) s) ≡ map_ok (progress_of listing judged c) (after_sending judged s)
    by None (Ok next) = refl
    by None (Err reason) = refl
    by (Some at) (Ok next) = ap (λ (p : Progress). let x : Result Progress CheckFault = Ok p in x) (sent_lost_is listing at c next)
    by (Some at) (Err reason) = refl

-- A message of the peer waits after the earlier ones.
pub told_is : (listing : Bool) (c : Certificate) (fate : Fate) (side : Side) (message : Message) (takes : List ℕ) (r : Replay)
    → slice_get c.fates (next_entry r) ≡ Some fate
    → peer_message_taken (other side) fate (next_entry r) message takes (progress_of listing (Some side) c r)
    ≡ map_ok (progress_of listing (Some side) c) (needs (is_nothing takes) (fault_at BadReply (next_entry r))
    >> Ok (with_step (Tells (other side) message) r (joined (other side) message r.world)))
told_is listing c fate side message takes r has = by (is_nothing takes)
  where
    next : Replay
    next = with_step (Tells (other side) message) r (joined (other side) message r.world)

    fate_told : fate_at (Some side) (other side) fate ≡ fate
    fate_told = rw (apart side) refl

    told : sent_by (Tells (other side) message) (other side) fate (next_entry r) message (progress_of listing (Some side) c r) ≡ progress_of listing (Some side) c next
    told =
        ap (λ (f : Fate). sent_by (Tells (other side) message) (other side) f (next_entry r) message (progress_of listing (Some side) c r)) (sym fate_told)
        ∙ sym (joined_is listing (Some side) c (other side) (Tells (other side) message) message fate r (λ at. refl) has)

    by : (b : Bool)
        → (needs b (fault_at BadReply (next_entry r)) >> Ok (sent_by (Tells (other side) message) (other side) fate (next_entry r) message (progress_of listing (Some side) c r)))
        ≡ map_ok (progress_of listing (Some side) c) (needs b (fault_at BadReply (next_entry r)) >> Ok next)
    by true = ap (λ (p : Progress). let x : Result Progress CheckFault = Ok p in x) told
    by false = refl
