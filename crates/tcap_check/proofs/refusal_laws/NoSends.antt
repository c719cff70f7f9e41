-- The steps that are refused for another reason than that an end may not send a message.
use Rattle.std.proofs.Common.{◌≡◌, ◌⊎◌, inl, inr, ℕ, ℤ, ◌==◌, Bool, true, false, List, [], ◌∷◌, drop, length, map, Option, Some, None, Result, Ok, Err, refl, sym, ap, ◌∙◌}
use Rattle.std.specs.Prelude.{◌&&◌, ok_or, slice_get}
use Rattle.tcap_msg.specs.declared.message.Message.{Message}
use Rattle.tcap_record.specs.declared.entry.End.{End as Side}
use Rattle.tcap_record.specs.Ends.{other}
use Rattle.tcap_end.specs.declared.fault.EndFault.{EndFault}
use Rattle.tcap_end.specs.declared.half.HalfName.{HalfName}
use Rattle.tcap_end.specs.End.{End, quiet}
use Rattle.tcap_end.specs.HiddenSteps.{close, expire, open_halves, quiet_after_closings}
use Rattle.tcap_end.specs.Table.{Table}
use Rattle.tcap_end.specs.Step.{needs, ◌>>◌, ◌>>=◌}
use Rattle.tcap_model.specs.declared.reason.Reason.TheVariants.{BadReply, NotQuiet}
use Rattle.tcap_model.specs.Run.{Closes, Event, Replies, Expires}
use Rattle.tcap_certificate.specs.declared.certificate.Fate.{Fate}
use Rattle.tcap_certificate.specs.declared.fault.CheckFault.{CheckFault}
use Rattle.tcap_check.specs.declared.outline.Outline.{Outline}
use Rattle.tcap_check.specs.declared.progress.Progress.{Progress}
use Rattle.tcap_check.specs.declared.progress.Waiting.{Waiting}
use Rattle.tcap_certificate.specs.Certificate.{Certificate}
use Rattle.tcap_check.specs.CheckerMeaning.{taken}
use Rattle.tcap_check.specs.ReplaySteps.{closed_or_not, deliveries_kept, delivery_kept, first_delivered, gap_kept, halves_closed, halves_quieted, received_sender, mark_taken, message_delivered, message_received, received_or_not}
use Rattle.tcap_check.specs.EntryOutlines.{half_closed, invocation_ended}
use Rattle.tcap_check.specs.Progress.{both_quiet, end_moved, first_answered, front_lost, is_empty, last_lost, map_ok, may_be_answered, quiet_kept, side_at, sent_by, with_steps, with_waiting, all_kept, listed_kept}
use Rattle.tcap_certificate.specs.Replay.{fault_at, is_nothing, due_in}
use Rattle.tcap_check.specs.RunSoFar.{refusal_to_send}
use Rattle.tcap_check.proofs.refusal_laws.ReasonGaps.{needs_err, then_err}
use Rattle.tcap_check.specs.declared.listed_steps.ListedStep.{ListedStep}
use Rattle.tcap_check.specs.declared.listed_steps.ListedStep.TheVariants as listings
use Rattle.tcap_check.specs.ListedSteps.{listed_for}

-- The fault is not that an end may not send a message.
abbrev pub NoSend : CheckFault → Type 0
NoSend fault = refusal_to_send fault.reason ≡ None

pub same_no : (one fault : CheckFault) → one ≡ fault → NoSend one → NoSend fault
same_no one fault is never = ap (λ (f : CheckFault). refusal_to_send f.reason) (sym is) ∙ never

-- ---- a gap

moved_no : (side : Side) (event : Event) (one fault : CheckFault) (p : Progress) (o : Result End EndFault) → end_moved side event one p o ≡ Err fault
    → NoSend one → NoSend fault
moved_no side event one fault p (Ok e) is never = cc
moved_no side event one fault p (Err reason) is never = let same : one ≡ fault = cc in same_no one fault same never

-- A listed event is refused for another reason, whether or not what it names exists.
named_no : {N : Type 0} (side : Side) (event : N → Event) (answer : N → Result End EndFault) (none refused fault : CheckFault) (p : Progress)
    (o : Option N) → (ok_or o none >>= λ name. end_moved side (event name) refused p (answer name)) ≡ Err fault → NoSend none → NoSend refused → NoSend fault
named_no side event answer none refused fault p None is never_none never = same_no none fault (cc) never_none
named_no side event answer none refused fault p (Some name) is never_none never = moved_no side (event name) refused fault p (answer name) is never

one_no : (table : Table) (entries : List Outline) (since : ℕ) (x : ListedStep) (p : Progress) (fault : CheckFault)
    → listed_kept table entries since x p ≡ Err fault → NoSend fault
one_no table entries since (listings.Closes x) p fault is =
    named_no x.side (Closes x.side) (close table (side_at x.side p).end) _ _ fault p (half_closed entries since x) is refl refl
one_no table entries since (listings.Expires x) p fault is =
    named_no x.side (λ (n : HalfName × ℤ). Expires x.side n.0 n.1) (λ n. expire table (side_at x.side p).end n.0 n.1) _ _ fault p
    (invocation_ended entries since x) is refl refl

listed_no : (table : Table) (entries : List Outline) (since : ℕ) (xs : List ListedStep) (p : Progress) (fault : CheckFault)
    → all_kept table entries since xs p ≡ Err fault → NoSend fault
listed_no table entries since [] p fault is = cc
listed_no table entries since (x ∷ xs) p fault is =
    by (λ q. listed_no table entries since xs q fault) (then_err (listed_kept table entries since x p) (all_kept table entries since xs) fault is)
  where
    by : ((q : Progress) → all_kept table entries since xs q ≡ Err fault → NoSend fault) → (listed_kept table entries since x p ≡ Err fault)
        ⊎ ((q : Progress) × (listed_kept table entries since x p ≡ Ok q) × (all_kept table entries since xs q ≡ Err fault)) → NoSend fault
    by rest (inl first) = one_no table entries since x p fault first
    by rest (inr (q, first, more)) = rest q more

heard_no : (judged : Option Side) (side : Side) (number : ℕ) (p : Progress) (o : Result End EndFault) (fault : CheckFault)
    → received_or_not judged side number p o ≡ Err fault → NoSend fault
heard_no None side number p (Ok e) fault is = cc
heard_no (Some judged) side number p (Ok e) fault is = cc
heard_no None side number p (Err reason) fault is = same_no (fault_at BadReply number) fault (cc) refl
heard_no (Some judged) side number p (Err reason) fault is = cc

found_no : (table : Table) (number : ℕ) (messages : List Waiting) (e : End) (fault : CheckFault)
    → first_delivered table number messages e ≡ Err fault → NoSend fault
found_no table number [] e fault is = same_no (fault_at BadReply number) fault (cc) refl
found_no table number (first ∷ more) e fault is =
    by (needs_err (first.number == number) (fault_at BadReply number) (message_delivered table number first.message e) fault is)
  where
    of : (o : Option Message) → message_delivered table number o e ≡ Err fault → NoSend fault
    of None none = same_no (fault_at BadReply number) fault (cc) refl
    of (Some message) none = cc

    by : (((first.number == number) ≡ false) × (fault_at BadReply number ≡ fault))
        ⊎ (((first.number == number) ≡ true) × (message_delivered table number first.message e ≡ Err fault)) → NoSend fault
    by (inl (other, same)) = same_no (fault_at BadReply number) fault same refl
    by (inr (this, none)) = of first.message none

received_no : (judged : Option Side) (table : Table) (sender : Side) (number : ℕ) (p : Progress) (fault : CheckFault)
    → message_received judged table sender number p ≡ Err fault → NoSend fault
received_no judged table sender number p fault is =
    by (then_err (first_delivered table number messages e) (received_or_not judged (other sender) number left) fault is)
  where
    before : Progress
    before = front_lost judged sender p

    messages : List Waiting
    messages = (side_at sender before).waiting

    e : End
    e = (side_at (other sender) before).end

    left : Progress
    left = with_waiting sender (drop 1 messages) before

    by : (first_delivered table number messages e ≡ Err fault)
        ⊎ ((o : Result End EndFault) × (first_delivered table number messages e ≡ Ok o) × (received_or_not judged (other sender) number left o ≡ Err fault))
        → NoSend fault
    by (inl none) = found_no table number messages e fault none
    by (inr (o, found, refused)) = heard_no judged (other sender) number left o fault refused

deliveries_no : (judged : Option Side) (table : Table) (entries : List Outline) (numbers : List ℕ) (p : Progress) (fault : CheckFault)
    → deliveries_kept judged table entries numbers p ≡ Err fault → NoSend fault
deliveries_no judged table entries [] p fault is = cc
deliveries_no judged table entries (number ∷ numbers) p fault is =
    by (λ q. deliveries_no judged table entries numbers q fault)
    (then_err (delivery_kept judged table number from p) (deliveries_kept judged table entries numbers) fault is)
  where
    from : Option Side
    from = received_sender judged (slice_get entries number)

    of : (o : Option Side) → delivery_kept judged table number o p ≡ Err fault → NoSend fault
    of None none = cc
    of (Some sender) none = received_no judged table sender number p fault none

    by : ((q : Progress) → deliveries_kept judged table entries numbers q ≡ Err fault → NoSend fault) → (delivery_kept judged table number from p ≡ Err fault)
        ⊎ ((q : Progress) × (delivery_kept judged table number from p ≡ Ok q) × (deliveries_kept judged table entries numbers q ≡ Err fault))
        → NoSend fault
    by rest (inl first) = of from first
    by rest (inr (q, first, more)) = rest q more

pub gap_no : (judged : Option Side) (table : Table) (c : Certificate) (entries : List Outline) (since : ℕ) (p : Progress) (fault : CheckFault)
    → gap_kept judged table c entries since p ≡ Err fault → NoSend fault
gap_no judged table c entries since p fault is =
    by (then_err (all_kept table entries since listed p) (deliveries_kept judged table entries due) fault is)
  where
    listed : List ListedStep
    listed = listed_for judged c (length entries)

    due : List ℕ
    due = due_in (length entries) 0 c.fates

    by : (all_kept table entries since listed p ≡ Err fault)
        ⊎ ((q : Progress) × (all_kept table entries since listed p ≡ Ok q) × (deliveries_kept judged table entries due q ≡ Err fault)) → NoSend fault
    by (inl none) = listed_no table entries since listed p fault none
    by (inr (q, hidden, none)) = deliveries_no judged table entries due q fault none

-- ---- a reply, and a quiet mark

pub answered_no : (side : Side) (fate : Fate) (number : ℕ) (abort : Message) (taken : ℕ) (messages : List Waiting) (p : Progress) (fault : CheckFault)
    → first_answered side fate number abort taken messages p ≡ Err fault → NoSend fault
answered_no side fate number abort taken [] p fault is = same_no (fault_at BadReply number) fault (cc) refl
answered_no side fate number abort taken (first ∷ more) p fault is =
    by (needs_err so (fault_at BadReply number)
    (Ok (sent_by (Replies side taken) side fate number abort (with_waiting (other side) more p))) fault is)
  where
    so : Bool
    so = (first.number == taken) && may_be_answered (side_at side p).end first.message abort

    by : ((so ≡ false) × (fault_at BadReply number ≡ fault)) ⊎ ((so ≡ true)
        × ((let x : Result Progress CheckFault = Ok (sent_by (Replies side taken) side fate number abort (with_waiting (other side) more p)) in x) ≡ Err fault))
        → NoSend fault
    by (inl (_, same)) = same_no (fault_at BadReply number) fault same refl
    by (inr (_, none)) = cc

closed_no : (side : Side) (number : ℕ) (p : Progress) (o : Result End EndFault) (fault : CheckFault) → closed_or_not side number p o ≡ Err fault → NoSend fault
closed_no side number p (Ok e) fault is = cc
closed_no side number p (Err reason) fault is = same_no (fault_at NotQuiet number) fault (cc) refl

both_no : (number : ℕ) (p : Progress) (a b : Result End EndFault) (fault : CheckFault) → both_quiet number p a b ≡ Err fault → NoSend fault
both_no number p (Ok a) (Ok b) fault is = cc
both_no number p (Ok a) (Err reason) fault is = same_no (fault_at NotQuiet number) fault (cc) refl
both_no number p (Err reason) (Ok b) fault is = same_no (fault_at NotQuiet number) fault (cc) refl
both_no number p (Err reason) (Err other) fault is = same_no (fault_at NotQuiet number) fault (cc) refl

pub map_err : {A B : Type 0} (f : A → B) (o : Result A CheckFault) (fault : CheckFault) → map_ok f o ≡ Err fault → o ≡ Err fault
map_err f (Ok x) fault is = cc
map_err f (Err reason) fault is = cc

quiet_no : (number : ℕ) (p : Progress) (fault : CheckFault) → quiet_kept number p ≡ Err fault → NoSend fault
quiet_no number p fault is =
    by (needs_err (is_empty p.a.waiting && is_empty p.b.waiting) (fault_at NotQuiet number) (both_quiet number p (quiet p.a.end) (quiet p.b.end)) fault is)
  where
    by : (((is_empty p.a.waiting && is_empty p.b.waiting) ≡ false) × (fault_at NotQuiet number ≡ fault))
        ⊎ (((is_empty p.a.waiting && is_empty p.b.waiting) ≡ true) × (both_quiet number p (quiet p.a.end) (quiet p.b.end) ≡ Err fault)) → NoSend fault
    by (inl (_, same)) = same_no (fault_at NotQuiet number) fault same refl
    by (inr (_, none)) = both_no number p (quiet p.a.end) (quiet p.b.end) fault none

halves_no : (judged : Option Side) (table : Table) (number : ℕ) (p : Progress) (fault : CheckFault) → halves_closed judged table number p ≡ Err fault
    → NoSend fault
halves_no None table number p fault is = cc
halves_no (Some side) table number p fault is =
    closed_no side number p (quiet_after_closings table (side_at side p).end) fault
    (map_err (with_steps (map (Closes side) (open_halves (side_at side p).end))) (halves_quieted side table number p) fault is)

pub mark_no : (judged : Option Side) (table : Table) (number : ℕ) (takes : List ℕ) (p : Progress) (fault : CheckFault)
    → mark_taken judged table number takes p ≡ Err fault → NoSend fault
mark_no judged table number takes p fault is =
    by (then_err (needs (is_nothing takes) (fault_at NotQuiet number) >> halves_closed judged table number p)
    (λ closed. quiet_kept number (last_lost judged closed)) fault is)
  where
    of : ((is_nothing takes ≡ false) × (fault_at NotQuiet number ≡ fault)) ⊎ ((is_nothing takes ≡ true) × (halves_closed judged table number p ≡ Err fault))
        → NoSend fault
    of (inl (_, same)) = same_no (fault_at NotQuiet number) fault same refl
    of (inr (_, none)) = halves_no judged table number p fault none

    by : ((needs (is_nothing takes) (fault_at NotQuiet number) >> halves_closed judged table number p) ≡ Err fault)
        ⊎ ((q : Progress) × ((needs (is_nothing takes) (fault_at NotQuiet number) >> halves_closed judged table number p) ≡ Ok q)
        × (quiet_kept number (last_lost judged q) ≡ Err fault)) → NoSend fault
    by (inl none) = of (needs_err (is_nothing takes) (fault_at NotQuiet number) (halves_closed judged table number p) fault none)
    by (inr (q, closed, none)) = quiet_no number (last_lost judged q) fault none
