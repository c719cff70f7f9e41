-- What the refusal of a message shows, for each choice of judged ends.
use Rattle.std.proofs.Common.{◌≡◌, ◌⊎◌, inl, inr, ℕ, suc, Bool, true, false, List, [], ◌∷◌, ◌++◌, Option, Some, None, Result, Ok, Err, refl, sym, ap}
use Rattle.std.specs.Prelude.{◌&&◌, not, slice_get}
use Rattle.std.proofs.lemmas.Bool.{and_parts, not-false, or_cases}
use Rattle.std.proofs.lemmas.Option.{slice_get_within}
use Rattle.tcap_msg.specs.declared.message.Message.{Message}
use Rattle.tcap_record.specs.declared.entry.End.{End as Side}
use Rattle.tcap_record.specs.declared.entry.End.TheVariants as sides
use Rattle.tcap_record.specs.declared.entry.Entry.{Entry}
use Rattle.tcap_end.specs.declared.fault.EndFault.{EndFault}
use Rattle.tcap_end.specs.End.{End}
use Rattle.tcap_end.specs.Message.{send}
use Rattle.tcap_end.specs.Step.{needs, ◌>>=◌, ◌>>◌}
use Rattle.tcap_end.specs.Table.{Table}
use Rattle.tcap_certificate.specs.declared.fault.CheckFault.{CheckFault}
use Rattle.tcap_model.specs.declared.reason.Reason.TheVariants as reasons
use Rattle.tcap_certificate.specs.declared.certificate.Fate.{Fate}
use Rattle.tcap_record.specs.Ends.{other}
use Rattle.tcap_model.specs.World.{Item, Sent, end_at, is_side}
use Rattle.tcap_model.specs.Run.{Event, Sends, Receives, Replies, Loses, Expires, Closes, Quiet, Tells, joined}
use Rattle.tcap_certificate.specs.Certificate.{Certificate}
use Rattle.tcap_model.specs.Entries.{IsItem}
use Rattle.tcap_certificate.specs.DescribedRun.{invoking_half, sending_by}
use Rattle.tcap_check.specs.GivenRun.{IsAt}
use Rattle.tcap_certificate.specs.Replay.{Replay, after_sending, comes_in_order, fault_at, gap_by, after_event, implied_over, is_abort, is_received_from, is_later, is_nothing, is_overtaking, lost_before, message_by, message_judged, next_entry, own_judged, own_message, refused, sent_or_refused, stepped, tied, time_of, peer_replayed, with_step}
use Rattle.tcap_check.proofs.refusal_laws.PendingLaws.{SendsSoFar}
use Rattle.tcap_model.proofs.RunLaws.{same_side}
use Rattle.tcap_model.proofs.WorldLaws.{itself}
use Rattle.tcap_check.proofs.refusal_laws.ReasonGaps.{Says, as_many, at_front, both_err, gap_says, needs_err, next_at, none_err, says, then_err}

-- ---- a message

-- The refusal of a send or a reply shows nothing.
message_says : (judged : Option Side) (table : Table) (c : Certificate) (entries : List Entry) (side : Side) (message : Message) (r : Replay)
    (fault : CheckFault) → own_message judged table c side message r ≡ Err fault → Says judged table c entries fault
message_says judged table c entries side message r fault is =
    by (sending_by c (next_entry r) (Sent side message) (tied judged c r)) is
  where
    sent : (mid : Replay) (o : Result End EndFault) → sent_or_refused side message mid o ≡ Err fault → Says judged table c entries fault
    sent mid (Ok e) refuses = cc
    sent mid (Err reason) refuses = says judged table c entries (reasons.SendRefused reason) (next_entry mid) fault (cc) tt

    answered : (next : Replay)
        → ((is_abort message (slice_get next.world.sent (next_entry r)) ≡ false) × (fault_at reasons.BadReply (next_entry r) ≡ fault))
        ⊎ ((is_abort message (slice_get next.world.sent (next_entry r)) ≡ true)
        × ((let o : Result Replay CheckFault = Ok next in o) ≡ Err fault))
        → Says judged table c entries fault
    answered next (inl (other_one, same)) = says judged table c entries reasons.BadReply (next_entry r) fault same tt
    answered next (inr (fits, differ)) = cc

    replied : (number : ℕ)
        → (after_event table c (Replies side number) reasons.BadReply (next_entry r) r ≡ Err fault)
        ⊎ ((next : Replay) × (after_event table c (Replies side number) reasons.BadReply (next_entry r) r ≡ Ok next)
        × ((needs (is_abort message (slice_get next.world.sent (next_entry r))) (fault_at reasons.BadReply (next_entry r)) >> Ok next)
        ≡ Err fault))
        → Says judged table c entries fault
    replied number (inl refuses) =
        let event = Replies side number in
        says judged table c entries reasons.BadReply (next_entry r) fault
        (none_err (stepped table event (lost_before c event r)) (fault_at reasons.BadReply (next_entry r)) fault refuses).1 tt
    replied number (inr (next, goes, refuses)) =
        answered next (needs_err (is_abort message (slice_get next.world.sent (next_entry r)))
        (fault_at reasons.BadReply (next_entry r)) (Ok next) fault refuses)

    bad : refused {A = Replay} reasons.BadReply (next_entry r) ≡ Err fault → Says judged table c entries fault
    bad refuses = says judged table c entries reasons.BadReply (next_entry r) fault (cc) tt

    by : (o : Option Event) → message_by table c side message o r ≡ Err fault → Says judged table c entries fault
    by None refuses = bad refuses
    by (Some (Sends sender m)) refuses =
        let mid = implied_over table side message (invoking_half message) r in
        sent mid (send table (end_at side mid.world) message) refuses
    by (Some (Replies replier number)) refuses =
        replied number (then_err (after_event table c (Replies side number) reasons.BadReply (next_entry r) r) _ fault refuses)
    by (Some (Receives receiver number)) refuses = bad refuses
    by (Some (Loses sender number)) refuses = bad refuses
    by (Some (Expires sender name id)) refuses = bad refuses
    by (Some (Closes sender name)) refuses = bad refuses
    by (Some Quiet) refuses = bad refuses
    by (Some (Tells sender m)) refuses = bad refuses

-- A message that overtakes has a fate before that of an earlier message of its end.
overtaking : (side : Side) (fate : Fate) (fates : List Fate) (items : List Item) → is_overtaking side fate fates items ≡ true
    → (n : ℕ) × (later : Fate) × (message : Message) × (slice_get fates n ≡ Some later)
    × (slice_get items n ≡ Some (Sent side message)) × (is_later (time_of fate) (time_of later) ≡ true)
overtaking side fate [] items is = cc
overtaking side fate (first ∷ fates) [] is = cc
overtaking side fate (first ∷ fates) (Item.Quiet ∷ items) is =
    let found = overtaking side fate fates items is in (suc found.0, found.1, found.2, found.3, found.4, found.5)
overtaking side fate (first ∷ fates) (Sent sender message ∷ items) is =
    by (or_cases (is_side side sender && is_later (time_of fate) (time_of first)) (is_overtaking side fate fates items) is)
    (overtaking side fate fates items)
  where
    by : ((is_side side sender && is_later (time_of fate) (time_of first)) ≡ true) ⊎ (is_overtaking side fate fates items ≡ true)
        → (is_overtaking side fate fates items ≡ true
        → (n : ℕ) × (later : Fate) × (m : Message) × (slice_get fates n ≡ Some later)
        × (slice_get items n ≡ Some (Sent side m)) × (is_later (time_of fate) (time_of later) ≡ true))
        → (n : ℕ) × (later : Fate) × (m : Message) × (slice_get (first ∷ fates) n ≡ Some later)
        × (slice_get (Sent sender message ∷ items) n ≡ Some (Sent side m)) × (is_later (time_of fate) (time_of later) ≡ true)
    by (inl here) on =
        let both = and_parts (is_side side sender) (is_later (time_of fate) (time_of first)) here in
        (0, first, message, refl, ap (λ (s : Side). Some (Sent s message)) (sym (same_side side sender both.0)), both.1)
    by (inr rest) on = let found = on rest in (suc found.0, found.1, found.2, found.3, found.4, found.5)

-- A message to a judged end that overtakes an earlier one shows this.
overtakes_says : (judged : Option Side) (table : Table) (c : Certificate) (front rest : List Entry) (entry : Entry) (fate : Fate)
    (side : Side) (message : Message) (r : Replay) (fault : CheckFault) → SendsSoFar judged table c front (next_entry r) r
    → IsItem entry (Sent side message) → slice_get c.fates (next_entry r) ≡ Some fate → is_received_from judged side ≡ true
    → not (is_overtaking side fate c.fates r.world.sent) ≡ false → fault_at reasons.OutOfOrder (next_entry r) ≡ fault
    → Says judged table c (front ++ entry ∷ rest) fault
overtakes_says judged table c front rest entry fate side message r fault old is has heard overtakes same =
    let all = front ++ entry ∷ rest in
    let found = overtaking side fate c.fates r.world.sent (not-false (is_overtaking side fate c.fates r.world.sent) overtakes) in
    let here : IsAt all (next_entry r) (Sent side message) =
    (entry, next_at front rest entry (next_entry r) (sym (as_many front r.world.sent old.are)), is) in
    let earlier = at_front front (entry ∷ rest) r.world.sent (Sent side found.2) found.0 old.are found.4 in
    let before = slice_get_within r.world.sent found.0 (Sent side found.2) found.4 in
    says judged table c all reasons.OutOfOrder (next_entry r) fault same
    (side, message, found.2, found.0, fate, found.1, heard, here, earlier, before, has, found.3, found.5)

-- The order of messages of an end that is judged alone is not checked.
comes_refused : (judged : Option Side) (side : Side) (fate : Fate) (c : Certificate) (r : Replay) (fault : CheckFault)
    → comes_in_order judged side fate c r ≡ Err fault
    → (not (is_overtaking side fate c.fates r.world.sent) ≡ false) × (fault_at reasons.OutOfOrder (next_entry r) ≡ fault)
    × (is_received_from judged side ≡ true)
comes_refused None side fate c r fault is = by (not (is_overtaking side fate c.fates r.world.sent)) is
  where
    by : (b : Bool) → needs b (fault_at reasons.OutOfOrder (next_entry r)) ≡ Err fault
        → (b ≡ false) × (fault_at reasons.OutOfOrder (next_entry r) ≡ fault) × (true ≡ true)
    by true e = cc
    by false e = (refl, cc, refl)
comes_refused (Some judged) side fate c r fault is = cc

-- If the loss just after a send is refused, the send is.
unsent : (judged : Option Side) (sent : Result Replay CheckFault) (fault : CheckFault) → after_sending judged sent ≡ Err fault
    → sent ≡ Err fault
unsent None sent fault is = is
unsent (Some judged) (Ok next) fault is = cc
unsent (Some judged) (Err reason) fault is = is

-- A message of a judged end.
own_says : (judged : Option Side) (table : Table) (c : Certificate) (front rest : List Entry) (entry : Entry) (fate : Fate) (side : Side)
    (message : Message) (r : Replay) (fault : CheckFault) → SendsSoFar judged table c front (next_entry r) r
    → IsItem entry (Sent side message) → slice_get c.fates (next_entry r) ≡ Some fate
    → own_judged judged table c fate side message r ≡ Err fault → Says judged table c (front ++ entry ∷ rest) fault
own_says judged table c front rest entry fate side message r fault old is has refuses =
    by (both_err (comes_in_order judged side fate c r) _ fault refuses)
  where
    all : List Entry
    all = front ++ entry ∷ rest

    sent : Replay → Result Replay CheckFault
    sent mid = after_sending judged (own_message judged table c side message mid)

    behind : (gap_by judged table c r ≡ Err fault)
        ⊎ ((mid : Replay) × (gap_by judged table c r ≡ Ok mid) × (sent mid ≡ Err fault))
        → Says judged table c all fault
    behind (inl no_gap) = gap_says judged table c front (entry ∷ rest) r fault old.are no_gap
    behind (inr (mid, goes, no_message)) =
        message_says judged table c all side message mid fault (unsent judged (own_message judged table c side message mid) fault no_message)

    by : (comes_in_order judged side fate c r ≡ Err fault)
        ⊎ ((comes_in_order judged side fate c r ≡ Ok tt) × ((gap_by judged table c r >>= sent) ≡ Err fault))
        → Says judged table c all fault
    by (inl late) =
        let why = comes_refused judged side fate c r fault late in
        overtakes_says judged table c front rest entry fate side message r fault old is has why.2 why.0 why.1
    by (inr (keeps, rest_refuses)) = behind (then_err (gap_by judged table c r) sent fault rest_refuses)

-- A message of the peer of an end that is judged alone.
told_says : (side : Side) (table : Table) (c : Certificate) (front rest : List Entry) (entry : Entry) (fate : Fate) (message : Message)
    (r : Replay) (fault : CheckFault) → SendsSoFar (Some side) table c front (next_entry r) r → IsItem entry (Sent (other side) message)
    → slice_get c.fates (next_entry r) ≡ Some fate → peer_replayed table c fate side message r ≡ Err fault
    → Says (Some side) table c (front ++ entry ∷ rest) fault
told_says side table c front rest entry fate message r fault old is has refuses =
    by (needs_err (not (is_overtaking (other side) fate c.fates r.world.sent)) (fault_at reasons.OutOfOrder (next_entry r)) _ fault refuses)
  where
    all : List Entry
    all = front ++ entry ∷ rest

    free : Bool
    free = is_nothing (tied (Some side) c r)

    tied_fault : CheckFault
    tied_fault = fault_at reasons.BadReply (next_entry r)

    told : Replay → Result Replay CheckFault
    told mid = needs free tied_fault >> Ok (with_step (Tells (other side) message) mid (joined (other side) message mid.world))

    last : (mid : Replay) → ((free ≡ false) × (tied_fault ≡ fault))
        ⊎ ((free ≡ true)
        × ((let o : Result Replay CheckFault = Ok (with_step (Tells (other side) message) mid (joined (other side) message mid.world)) in o)
        ≡ Err fault))
        → Says (Some side) table c all fault
    last mid (inl (takes, same)) = says (Some side) table c all reasons.BadReply (next_entry r) fault same tt
    last mid (inr (none, differ)) = cc

    behind : (gap_by (Some side) table c r ≡ Err fault)
        ⊎ ((mid : Replay) × (gap_by (Some side) table c r ≡ Ok mid) × (told mid ≡ Err fault))
        → Says (Some side) table c all fault
    behind (inl no_gap) = gap_says (Some side) table c front (entry ∷ rest) r fault old.are no_gap
    behind (inr (mid, goes, no_message)) = last mid (needs_err free tied_fault _ fault no_message)

    by : ((not (is_overtaking (other side) fate c.fates r.world.sent) ≡ false) × (fault_at reasons.OutOfOrder (next_entry r) ≡ fault))
        ⊎ ((not (is_overtaking (other side) fate c.fates r.world.sent) ≡ true) × ((gap_by (Some side) table c r >>= told) ≡ Err fault))
        → Says (Some side) table c all fault
    by (inl (overtakes, same)) =
        overtakes_says (Some side) table c front rest entry fate (other side) message r fault old is has (itself (other side)) overtakes same
    by (inr (keeps, rest_refuses)) = behind (then_err (gap_by (Some side) table c r) told fault rest_refuses)

-- What the refusal of a message shows.
pub sent_says : (judged : Option Side) (table : Table) (c : Certificate) (front rest : List Entry) (entry : Entry) (fate : Fate)
    (side : Side) (message : Message) (r : Replay) (fault : CheckFault) → SendsSoFar judged table c front (next_entry r) r
    → IsItem entry (Sent side message) → slice_get c.fates (next_entry r) ≡ Some fate
    → message_judged judged table c fate side message r ≡ Err fault → Says judged table c (front ++ entry ∷ rest) fault
sent_says None table c front rest entry fate side message r fault old is has refuses =
    own_says None table c front rest entry fate side message r fault old is has refuses
sent_says (Some judged) table c front rest entry fate side message r fault old is has refuses = by judged side old is refuses
  where
    by : (one sender : Side) → SendsSoFar (Some one) table c front (next_entry r) r → IsItem entry (Sent sender message)
        → message_judged (Some one) table c fate sender message r ≡ Err fault → Says (Some one) table c (front ++ entry ∷ rest) fault
    by sides.A sides.A old is e = own_says (Some sides.A) table c front rest entry fate sides.A message r fault old is has e
    by sides.A sides.B old is e = told_says sides.A table c front rest entry fate message r fault old is has e
    by sides.B sides.A old is e = told_says sides.B table c front rest entry fate message r fault old is has e
    by sides.B sides.B old is e = own_says (Some sides.B) table c front rest entry fate sides.B message r fault old is has e
