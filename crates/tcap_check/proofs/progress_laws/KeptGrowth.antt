-- How much a checker's counts grow, and the losses at the front of a channel.
use Rattle.std.proofs.Common.{◌≡◌, ℕ, ℤ, suc, ◌+◌, ◌≤◌, Bool, true, false, List, [], ◌∷◌, ◌++◌, length, ◌==◌, cond, Option, Some, None, Result, Ok, Err, refl, ap, subst, ◌∙◌, arith, Bor, drop, map, sym}
use Rattle.std.specs.Prelude.{ok_or, ◌&&◌, OnOk}
use Rattle.std.proofs.lemmas.List.{length-append}
use Rattle.tcap_msg.specs.declared.message.Message.{Message}
use Rattle.tcap_record.specs.declared.entry.End.{End as Side}
use Rattle.tcap_record.specs.declared.entry.End.TheVariants as sides
use Rattle.tcap_end.specs.declared.fault.EndFault.{EndFault}
use Rattle.tcap_end.specs.declared.half.HalfName.{HalfName}
use Rattle.tcap_end.specs.End.{End}
use Rattle.tcap_end.specs.HiddenSteps.{close, expire}
use Rattle.tcap_end.specs.Step.{◌>>=◌}
use Rattle.tcap_end.specs.Table.{Table}
use Rattle.tcap_end.proofs.AnsweringLaws.{needs_ok, ok_same, then_ok}
use Rattle.tcap_certificate.specs.declared.fault.CheckFault.{CheckFault}
use Rattle.tcap_certificate.specs.declared.certificate.Fate.{Fate}
use Rattle.tcap_model.specs.declared.reason.Reason.TheVariants.{BadReply, NotQuiet}
use Rattle.tcap_record.specs.Ends.{other}
use Rattle.tcap_check.specs.declared.outline.Outline.{Outline}
use Rattle.tcap_check.specs.declared.progress.Progress.{Progress}
use Rattle.tcap_check.specs.declared.progress.Waiting.{Waiting}
use Rattle.tcap_check.specs.EntryOutlines.{half_closed, invocation_ended}
use Rattle.tcap_check.specs.Progress.{GrewBy, HasNoMore, YieldsInMemory, discard_listed, end_moved, first_answered, front_lost, is_none_kept, losing_kept, lost_counted, loss_listed, may_be_answered, moved, on_way, reply_kept, side_at, sent_by, unless_lost, with_side_end, with_steps, with_waiting, all_kept, listed_kept, count_kept, first_lost}
use Rattle.tcap_model.specs.Run.{Event, Closes, Expires, Loses, Receives, Replies}
use Rattle.tcap_check.specs.ReplaySteps.{first_delivered, first_received, halves_shut, message_received, received_or_not}
use Rattle.tcap_certificate.specs.Replay.{fault_at, is_judged}
use Rattle.tcap_check.specs.declared.listed_steps.ListedStep.{ListedStep}
use Rattle.tcap_check.specs.declared.listed_steps.ListedStep.TheVariants as listings
use Rattle.tcap_check.specs.ListedSteps.{listed_judged, side_of}

-- ---- one step

-- There are n more steps; the messages on their way and the unheard messages are as many as before.
abbrev pub IsMoved : ℕ → Progress → Progress → Type 0
IsMoved n p q = (q.moves ≡ p.moves + n) × (on_way q ≡ on_way p) × (q.unheard ≡ p.unheard)

-- A step of an end is one step.
end_moves : {F : Type 0} (side : Side) (event : Event) (fault : F) (p next : Progress) (answer : Result End EndFault)
    → end_moved side event fault p answer ≡ Ok next → IsMoved 1 p next
end_moves sides.A event fault p next (Ok e) is = subst (IsMoved 1 p) (ok_same _ next is) (refl, refl, refl)
end_moves sides.B event fault p next (Ok e) is = subst (IsMoved 1 p) (ok_same _ next is) (refl, refl, refl)
end_moves side event fault p next (Err reason) is = cc

-- A listed event is one step, if what it names exists.
named_moves : {N : Type 0} (side : Side) (event : N → Event) (answer : N → Result End EndFault) (none refused : CheckFault) (p next : Progress)
    (o : Option N) → (ok_or o none >>= λ name. end_moved side (event name) refused p (answer name)) ≡ Ok next → IsMoved 1 p next
named_moves side event answer none refused p next None is = cc
named_moves side event answer none refused p next (Some name) is = end_moves side (event name) refused p next (answer name) is

one_listed_grows : (table : Table) (entries : List Outline) (since : ℕ) (x : ListedStep) (p next : Progress)
    → listed_kept table entries since x p ≡ Ok next → IsMoved 1 p next
one_listed_grows table entries since (listings.Closes x) p next is =
    named_moves x.side (Closes x.side) (close table (side_at x.side p).end) _ _ p next (half_closed entries since x) is
one_listed_grows table entries since (listings.Expires x) p next is =
    named_moves x.side (λ (n : HalfName × ℤ). Expires x.side n.0 n.1) (λ n. expire table (side_at x.side p).end n.0 n.1) _ _ p next
    (invocation_ended entries since x) is

-- ---- losses

-- A message that was taken from a channel was on its way.
pub taken_way : (side : Side) (first : Waiting) (more : List Waiting) (p : Progress) → (side_at side p).waiting ≡ first ∷ more
    → on_way p ≡ on_way (with_waiting side more p) + 1
taken_way sides.A first more p is = let count : length p.a.waiting ≡ suc (length more) = ap length is in omega (arith, count)
taken_way sides.B first more p is = let count : length p.b.waiting ≡ suc (length more) = ap length is in omega (arith, count)

taken_counts : (side : Side) (messages : List Waiting) (p : Progress)
    → ((with_waiting side messages p).moves ≡ p.moves) × ((with_waiting side messages p).unheard ≡ p.unheard)
taken_counts sides.A messages p = (refl, refl)
taken_counts sides.B messages p = (refl, refl)

lost_way : (judged : Option Side) (side : Side) (p : Progress)
    → (on_way (lost_counted judged side p) ≡ on_way p) × ((lost_counted judged side p).moves ≤ p.moves + 1)
    × ((lost_counted judged side p).unheard ≤ p.unheard + 1)
lost_way None side p = (refl, omega arith, omega arith)
lost_way (Some sides.A) sides.A p = (refl, omega arith, omega arith)
lost_way (Some sides.A) sides.B p = (refl, omega arith, omega arith)
lost_way (Some sides.B) sides.A p = (refl, omega arith, omega arith)
lost_way (Some sides.B) sides.B p = (refl, omega arith, omega arith)

pub lost_waits : (judged : Option Side) (side : Side) (number : ℕ) (more : List Waiting) (p : Progress)
    → (side_at side (loss_listed judged side number (with_waiting side more p))).waiting ≡ more
lost_waits None sides.A number more p = refl
lost_waits None sides.B number more p = refl
lost_waits (Some sides.A) sides.A number more p = refl
lost_waits (Some sides.A) sides.B number more p = refl
lost_waits (Some sides.B) sides.A number more p = refl
lost_waits (Some sides.B) sides.B number more p = refl

-- A message that is lost was on its way.
pub one_lost_grows : (judged : Option Side) (side : Side) (first : Waiting) (more : List Waiting) (p : Progress)
    → (side_at side p).waiting ≡ first ∷ more → HasNoMore p (loss_listed judged side first.number (with_waiting side more p))
one_lost_grows judged side first more p is =
    let way = taken_way side first more p is in
    let counts = taken_counts side more p in
    let lost = lost_way judged side (with_steps (Loses side first.number ∷ []) (with_waiting side more p)) in
    let a = counts.0 in let b = counts.1 in let l0 = lost.0 in let l1 = lost.1 in let l2 = lost.2 in
    (omega (arith, way, a, l0, l1), omega (arith, way, b, l0, l2))

pub no_more : (p mid q : Progress) → HasNoMore p mid → HasNoMore mid q → HasNoMore p q
no_more p mid q one two =
    let a = one.0 in let b = one.1 in let c = two.0 in let d = two.1 in (omega (arith, a, c), omega (arith, b, d))

losing_grows : (judged : Option Side) (side : Side) (messages : List Waiting) (p : Progress)
    → (side_at side p).waiting ≡ messages → HasNoMore p (losing_kept judged side messages p)
losing_grows judged side [] p is = (omega arith, omega arith)
losing_grows judged side (first ∷ more) p is =
    by (is_none_kept first.message)
    (no_more p next (losing_kept judged side more next) (one_lost_grows judged side first more p is)
    (losing_grows judged side more next (lost_waits judged side first.number more p)))
  where
    next : Progress
    next = loss_listed judged side first.number (with_waiting side more p)

    by : (b : Bool) → HasNoMore p (losing_kept judged side more next) → HasNoMore p (cond b (losing_kept judged side more next) p)
    by true rest = rest
    by false rest = (omega arith, omega arith)

pub front_grows : (judged : Option Side) (side : Side) (p : Progress) → HasNoMore p (front_lost judged side p)
front_grows judged side p = losing_grows judged side (side_at side p).waiting p refl

-- ---- messages that are received

end_way : (side : Side) (event : Event) (e : End) (p : Progress)
    → (on_way (moved event (with_side_end side e p)) ≡ on_way p) × ((moved event (with_side_end side e p)).moves ≡ p.moves + 1)
    × ((moved event (with_side_end side e p)).unheard ≡ p.unheard)
end_way sides.A event e p = (refl, refl, refl)
end_way sides.B event e p = (refl, refl, refl)

-- A delivery adds at most one step and one unheard message.
received_way : (judged : Option Side) (side : Side) (number : ℕ) (p next : Progress) (o : Result End EndFault)
    → received_or_not judged side number p o ≡ Ok next
    → (on_way next ≡ on_way p) × (next.moves ≤ p.moves + 1) × (next.unheard ≤ p.unheard + 1)
received_way judged side number p next (Ok e) is = subst Counts (ok_same {F = CheckFault} _ next is) here
  where
    Counts : Progress → Type 0
    Counts x = (on_way x ≡ on_way p) × (x.moves ≤ p.moves + 1) × (x.unheard ≤ p.unheard + 1)

    here : Counts (moved (Receives side number) (with_side_end side e p))
    here = let way = end_way side (Receives side number) e p in let a = way.0 in let b = way.1 in let d = way.2 in (a, omega (arith, b), omega (arith, d))
received_way None side number p next (Err reason) is = cc
received_way (Some judged) side number p next (Err reason) is =
    subst (λ (x : Progress). (on_way x ≡ on_way p) × (x.moves ≤ p.moves + 1) × (x.unheard ≤ p.unheard + 1))
    (ok_same {F = CheckFault} _ next is) (lost_way (Some judged) (other side) (discard_listed (other side) number reason p))

first_grows : (judged : Option Side) (table : Table) (sender : Side) (number : ℕ) (messages : List Waiting) (p next : Progress)
    → (side_at sender p).waiting ≡ messages → first_received judged table sender number messages p ≡ Ok next → HasNoMore p next
first_grows judged table sender number [] p next at is = cc
first_grows judged table sender number (first ∷ more) p next at is =
    let heard = then_ok (first_delivered table number (first ∷ more) (side_at (other sender) p).end) _ next is in
    let way = taken_way sender first more p at in
    let counts = taken_counts sender more p in
    let kept = received_way judged (other sender) number (with_waiting sender more p) next heard.0 heard.2 in
    let a = counts.0 in let b = counts.1 in let k0 = kept.0 in let k1 = kept.1 in let k2 = kept.2 in
    (omega (arith, way, a, k0, k1), omega (arith, way, b, k0, k2))

pub received_grows : (judged : Option Side) (table : Table) (sender : Side) (number : ℕ) (p next : Progress)
    → message_received judged table sender number p ≡ Ok next → HasNoMore p next
received_grows judged table sender number p next is =
    no_more p (front_lost judged sender p) next (front_grows judged sender p)
    (first_grows judged table sender number _ (front_lost judged sender p) next refl is)

-- If something holds after each successful step, it holds after a call that makes this step.
pub yields_so : (P : Progress → Type 0) (step : Result Progress CheckFault) (result : Result (Unit {0}) CheckFault) (left : Progress)
    → YieldsInMemory step result left → ((next : Progress) → step ≡ Ok next → P next) → OnOk result (P left)
yields_so P step (Ok done) left is so = so left is
yields_so P step (Err fault) left is so = tt

pub on_ok : {P Q : Type 0} (result : Result (Unit {0}) CheckFault) → OnOk result P → (P → Q) → OnOk result Q
on_ok (Ok done) p f = f p
on_ok (Err fault) p f = tt

-- ---- messages that are sent

-- A message that joins its channel is on its way, and adds one step.
pub sent_grows : (event : Event) (side : Side) (fate : Fate) (number : ℕ) (message : Message) (p : Progress)
    → GrewBy 2 1 p (sent_by event side fate number message p)
sent_grows event sides.A fate number message p =
    let w : Waiting = record { number = number; message = unless_lost fate message } in
    let more : length (p.a.waiting ++ w ∷ []) ≡ length p.a.waiting + 1 = length-append p.a.waiting (w ∷ []) in
    (omega (arith, more), omega (arith, more))
sent_grows event sides.B fate number message p =
    let w : Waiting = record { number = number; message = unless_lost fate message } in
    let more : length (p.b.waiting ++ w ∷ []) ≡ length p.b.waiting + 1 = length-append p.b.waiting (w ∷ []) in
    (omega (arith, more), omega (arith, more))

answered_grows : (side : Side) (fate : Fate) (number : ℕ) (abort : Message) (taken : ℕ) (messages : List Waiting) (p next : Progress)
    → (side_at (other side) p).waiting ≡ messages → first_answered side fate number abort taken messages p ≡ Ok next → GrewBy 2 1 p next
answered_grows side fate number abort taken [] p next at is = cc
answered_grows side fate number abort taken (first ∷ more) p next at is =
    let left = with_waiting (other side) more p in
    let so = needs_ok ((first.number == taken) && may_be_answered (side_at side p).end first.message abort) (fault_at BadReply number)
    (Ok (sent_by (Replies side taken) side fate number abort left)) next is in
    let way = taken_way (other side) first more p at in
    let counts = taken_counts (other side) more p in
    let sent = sent_grows (Replies side taken) side fate number abort left in
    let a = counts.0 in let b = counts.1 in let s0 = sent.0 in let s1 = sent.1 in
    subst (GrewBy 2 1 p) (ok_same {F = CheckFault} _ next so.1) (omega (arith, way, a, s0), omega (arith, way, b, s1))

pub reply_grows : (judged : Option Side) (side : Side) (fate : Fate) (number : ℕ) (abort : Message) (taken : ℕ) (p next : Progress)
    → reply_kept judged side fate number abort taken p ≡ Ok next → GrewBy 2 1 p next
reply_grows judged side fate number abort taken p next is =
    let before = front_lost judged (other side) p in
    let lost = front_grows judged (other side) p in
    let sent = answered_grows side fate number abort taken (side_at (other side) before).waiting before next refl is in
    let a = lost.0 in let b = lost.1 in let s0 = sent.0 in let s1 = sent.1 in
    (omega (arith, a, s0), omega (arith, b, s1))

-- ---- a gap

pub listed_grows : (table : Table) (entries : List Outline) (since : ℕ) (xs : List ListedStep) (p next : Progress)
    → all_kept table entries since xs p ≡ Ok next → IsMoved (length xs) p next
listed_grows table entries since [] p next is =
    subst (IsMoved 0 p) (ok_same p next is) (omega arith, refl, refl)
listed_grows table entries since (x ∷ xs) p next is =
    let found = then_ok _ _ next is in
    let one = one_listed_grows table entries since x p found.0 found.1 in
    let rest = listed_grows table entries since xs found.0 next found.2 in
    let m0 = one.0 in let m1 = rest.0 in (omega (arith, m0, m1), rest.1 ∙ one.1, rest.2 ∙ one.2)

-- Each half that closes adds one step.
pub shut_grows : (side : Side) (table : Table) (number : ℕ) (names : List HalfName) (p next : Progress)
    → halves_shut side table number names p ≡ Ok next → IsMoved (length names) p next
shut_grows side table number [] p next is = subst (IsMoved 0 p) (ok_same p next is) (omega arith, refl, refl)
shut_grows side table number (name ∷ more) p next is =
    let found = then_ok (end_moved side (Closes side name) (fault_at NotQuiet number) p (close table (side_at side p).end name)) _ next is in
    let one = end_moves side (Closes side name) (fault_at NotQuiet number) p found.0 (close table (side_at side p).end name) found.1 in
    let rest = shut_grows side table number more found.0 next found.2 in
    let m0 = one.0 in let m1 = rest.0 in (omega (arith, m0, m1), rest.1 ∙ one.1, rest.2 ∙ one.2)

-- The listed events of judged ends are at most all listed events.
pub some_listed : (judged : Option Side) (xs : List ListedStep) → length (listed_judged judged xs) ≤ length xs
some_listed judged [] = omega arith
some_listed judged (x ∷ xs) = by (is_judged judged (side_of x)) (some_listed judged xs)
  where
    by : (b : Bool) → length (listed_judged judged xs) ≤ length xs
        → length (cond b (x ∷ listed_judged judged xs) (listed_judged judged xs)) ≤ suc (length xs)
    by true less = omega arith
    by false less = omega arith

-- ---- losses one by one

-- the first message, if it is lost
first_is : (first : Waiting) (more : List Waiting) (number : ℕ) → first_lost (first ∷ more) ≡ Some number
    → (is_none_kept first.message ≡ true) × (first.number ≡ number)
first_is first more number is = by (is_none_kept first.message) refl is
  where
    by : (b : Bool) → is_none_kept first.message ≡ b → cond b (Some first.number) None ≡ Some number
        → (is_none_kept first.message ≡ true) × (first.number ≡ number)
    by true at e = (at, cc)
    by false at e = cc

-- If nothing is on its way, nothing is lost.
pub none_left : (judged : Option Side) (side : Side) (p : Progress) → length (side_at side p).waiting ≡ 0 → front_lost judged side p ≡ p
none_left judged side p is = by (side_at side p).waiting is
  where
    by : (messages : List Waiting) → length messages ≡ 0 → losing_kept judged side messages p ≡ p
    by [] e = refl
    by (first ∷ more) e = cc

-- the progress after the loss of the first message
abbrev pub behind_first : Option Side → Side → ℕ → Progress → Progress
behind_first judged side number p = loss_listed judged side number (with_waiting side (drop 1 (side_at side p).waiting) p)

-- The first message is lost, and then the others.
pub one_lost : (judged : Option Side) (side : Side) (number : ℕ) (p : Progress) → first_lost (side_at side p).waiting ≡ Some number
    → front_lost judged side (behind_first judged side number p) ≡ front_lost judged side p
one_lost judged side number p is = by (side_at side p).waiting is
  where
    by : (messages : List Waiting) → first_lost messages ≡ Some number
        → front_lost judged side (loss_listed judged side number (with_waiting side (drop 1 messages) p)) ≡ losing_kept judged side messages p
    by [] e = cc
    by (first ∷ more) e =
        let so = first_is first more number e in
        let next = loss_listed judged side number (with_waiting side more p) in
        let one : losing_kept judged side (first ∷ more) p ≡ losing_kept judged side more next =
        rw so.0 (ap (λ (n : ℕ). losing_kept judged side more (loss_listed judged side n (with_waiting side more p))) so.1) in
        ap (λ (x : List Waiting). losing_kept judged side x next) (lost_waits judged side number more p) ∙ sym one

-- One message fewer is on its way.
pub one_left : (judged : Option Side) (side : Side) (number : ℕ) (p : Progress) → first_lost (side_at side p).waiting ≡ Some number
    → length (side_at side p).waiting ≡ length (side_at side (behind_first judged side number p)).waiting + 1
one_left judged side number p is = by (side_at side p).waiting is
  where
    by : (messages : List Waiting) → first_lost messages ≡ Some number
        → length messages ≡ length (side_at side (loss_listed judged side number (with_waiting side (drop 1 messages) p))).waiting + 1
    by [] e = cc
    by (first ∷ more) e =
        let left : length (side_at side (loss_listed judged side number (with_waiting side more p))).waiting ≡ length more =
        ap length (lost_waits judged side number more p) in
        omega (arith, left)

-- The loads do not grow.
pub one_grows : (judged : Option Side) (side : Side) (number : ℕ) (p : Progress) → first_lost (side_at side p).waiting ≡ Some number
    → HasNoMore p (behind_first judged side number p)
one_grows judged side number p is = by (side_at side p).waiting refl is
  where
    by : (messages : List Waiting) → (side_at side p).waiting ≡ messages → first_lost messages ≡ Some number
        → HasNoMore p (loss_listed judged side number (with_waiting side (drop 1 messages) p))
    by [] at e = cc
    by (first ∷ more) at e =
        subst (λ (n : ℕ). HasNoMore p (loss_listed judged side n (with_waiting side more p))) (first_is first more number e).1
        (one_lost_grows judged side first more p at)

pub side_way : (side : Side) (p : Progress) → length (side_at side p).waiting ≤ on_way p
side_way sides.A p = omega arith
side_way sides.B p = omega arith

-- ---- the count of messages that will not be lost

-- One more message that will not be lost, or will be.
pub kept_more : (seen : List (Bor Waiting)) (w : Bor Waiting) → is_none_kept w.now.message ≡ false
    → count_kept (map (λ (x : Bor Waiting). x.now) (seen ++ w ∷ [])) ≡ count_kept (map (λ (x : Bor Waiting). x.now) seen) + 1
kept_more [] w is = rw is refl
kept_more (x ∷ seen) w is = by (is_none_kept x.now.message) (kept_more seen w is)
  where
    by : (b : Bool) → count_kept (map (λ (y : Bor Waiting). y.now) (seen ++ w ∷ [])) ≡ count_kept (map (λ (y : Bor Waiting). y.now) seen) + 1
        → cond b (count_kept (map (λ (y : Bor Waiting). y.now) (seen ++ w ∷ [])))
        (count_kept (map (λ (y : Bor Waiting). y.now) (seen ++ w ∷ [])) + 1)
        ≡ cond b (count_kept (map (λ (y : Bor Waiting). y.now) seen)) (count_kept (map (λ (y : Bor Waiting). y.now) seen) + 1) + 1
    by true rest = rest
    by false rest = omega (arith, rest)

pub lost_more : (seen : List (Bor Waiting)) (w : Bor Waiting) → is_none_kept w.now.message ≡ true
    → count_kept (map (λ (x : Bor Waiting). x.now) (seen ++ w ∷ [])) ≡ count_kept (map (λ (x : Bor Waiting). x.now) seen)
lost_more [] w is = rw is refl
lost_more (x ∷ seen) w is = by (is_none_kept x.now.message) (lost_more seen w is)
  where
    by : (b : Bool) → count_kept (map (λ (y : Bor Waiting). y.now) (seen ++ w ∷ [])) ≡ count_kept (map (λ (y : Bor Waiting). y.now) seen)
        → cond b (count_kept (map (λ (y : Bor Waiting). y.now) (seen ++ w ∷ [])))
        (count_kept (map (λ (y : Bor Waiting). y.now) (seen ++ w ∷ [])) + 1)
        ≡ cond b (count_kept (map (λ (y : Bor Waiting). y.now) seen)) (count_kept (map (λ (y : Bor Waiting). y.now) seen) + 1)
    by true rest = rest
    by false rest = ap (λ (n : ℕ). n + 1) rest
