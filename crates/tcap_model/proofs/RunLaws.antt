-- Induction along runs, and inversion of each step.
use Rattle.std.proofs.Common.{rules, ◌≡◌, ◌≤◌, arith, length, ℤ, ℕ, Bool, true, false, List, [], ◌∷◌, ◌++◌, map, Option, Some, None, Result, Ok, Err, option_map, refl, sym, ap, ◌∙◌, append_assoc}
use Rattle.std.specs.Prelude.{◌&&◌}
use Rattle.std.specs.Result.{result_ok}
use Rattle.std.proofs.lemmas.Bool.{eqb-true}
use Rattle.std.proofs.lemmas.List.{append-nil, length-append}
use Rattle.std.proofs.lemmas.Option.{cond_some}
use Rattle.tcap_msg.specs.declared.message.Message.{Message}
use Rattle.tcap_record.specs.declared.entry.End.{End as Side}
use Rattle.tcap_record.specs.declared.entry.End.TheVariants as sides
use Rattle.tcap_end.specs.declared.half.HalfName.{HalfName}
use Rattle.tcap_end.specs.Table.{Table}
use Rattle.tcap_end.specs.declared.fault.EndFault.{EndFault}
use Rattle.tcap_end.specs.declared.fault.EndFault.TheVariants as faults
use Rattle.tcap_end.specs.End.{End, all_closed, nothing, quiet as end_quiet}
use Rattle.tcap_end.specs.Step.{needs, ◌>>◌}
use Rattle.tcap_end.specs.HiddenSteps.{close, expire}
use Rattle.tcap_end.specs.Message.{receive, send}
use Rattle.tcap_end.specs.ReachableEnd.{IsEnd}
use Rattle.tcap_end.proofs.EndLaws.{nothing_sound}
use Rattle.tcap_end.proofs.StepLaws.{closes, expires, receives, sends}
use Rattle.tcap_record.specs.Ends.{other}
use Rattle.tcap_model.specs.World.{Item, MessageInTransit, Sent, World, channel_from, empty, end_at, is_side, with_channel, with_end}
use Rattle.tcap_model.specs.Run.{Adds, Event, Sends, Receives, Replies, Loses, Expires, Closes, Quiet, Tells, Runs, abort_for, after, after_quiet, head_taken, joined, may_refuse, played, reply_to, option_then, only_if}
use Rattle.tcap_model.proofs.WorldLaws.{end_joined, end_with_channel, sent_joined, sent_with_channel}

-- ---- options and conditions

pub where_some : {A : Type 0} (b : Bool) (o : Option A) (x : A) → only_if b o ≡ Some x → (b ≡ true) × (o ≡ Some x)
where_some true o x is = (refl, is)
where_some false o x is = cc

pub map_some : {A B : Type 0} (f : A → B) (o : Option A) (y : B) → option_map f o ≡ Some y → (x : A) × (o ≡ Some x) × (f x ≡ y)
map_some f None y is = cc
map_some f (Some x) y is = (x, refl, cc)

pub then_some : {A B : Type 0} (o : Option A) (step : A → Option B) (y : B) → option_then o step ≡ Some y
    → (x : A) × (o ≡ Some x) × (step x ≡ Some y)
then_some None step y is = cc
then_some (Some x) step y is = (x, refl, is)

pub some_is : {A : Type 0} {x y : A} → (let o : Option A = Some x in o) ≡ Some y → x ≡ y
some_is e = cc

-- `map Some` is injective on events.
pub same_events : (xs ys : List Event) → map Some xs ≡ map Some ys → xs ≡ ys
same_events [] [] same = refl
same_events [] (y ∷ ys) same = cc
same_events (x ∷ xs) [] same = cc
same_events (x ∷ xs) (y ∷ ys) same = let rest = same_events xs ys cc in cc

-- A step that succeeds has an end as its result.
took : {A F : Type 0} (f : A → World) (step : Result A F) (next : World) → option_map f (result_ok step) ≡ Some next
    → (x : A) × (step ≡ Ok x) × (f x ≡ next)
took f (Ok x) next is = (x, refl, cc)
took f (Err reason) next is = cc

-- ---- runs

-- A run goes on by one step.
one_more : (table : Table) (before : List Event) (event : Event) (from w next : World) → played table before from ≡ Some w
    → after table event w ≡ Some next → played table (before ++ event ∷ []) from ≡ Some next
one_more table [] event from w next is step = let same : from ≡ w = cc in rw (same, step) refl
one_more table (first ∷ before) event from w next is step =
    by (after table first from) (λ x. one_more table before event x w next) is
  where
    by : (o : Option World)
        → ((x : World) → played table before x ≡ Some w → after table event w ≡ Some next
        → played table (before ++ event ∷ []) x ≡ Some next)
        → option_then o (played table before) ≡ Some w → option_then o (played table (before ++ event ∷ [])) ≡ Some next
    by None on is = cc
    by (Some x) on is = on x is step

-- A property that each step keeps holds after the rest of a run.
keeps_on : (table : Table) (Holds : List Event → World → Type 0)
    → ((before : List Event) (event : Event) (w next : World) → Runs table before w → after table event w ≡ Some next → Holds before w
    → Holds (before ++ event ∷ []) next)
    → (events before : List Event) (v w : World) → Runs table before v → Holds before v → played table events v ≡ Some w
    → Holds (before ++ events) w
keeps_on table Holds step [] before v w ran holds is = let same : v ≡ w = cc in rw (← same, append-nil before) holds
keeps_on table Holds step (event ∷ events) before v w ran holds is =
    by (after table event v) refl (λ next. keeps_on table Holds step events (before ++ event ∷ []) next w) is
  where
    by : (o : Option World) → after table event v ≡ o
        → ((next : World) → Runs table (before ++ event ∷ []) next → Holds (before ++ event ∷ []) next → played table events next ≡ Some w
        → Holds ((before ++ event ∷ []) ++ events) w)
        → option_then o (played table events) ≡ Some w → Holds (before ++ event ∷ events) w
    by None at on is = cc
    by (Some next) at on is = rw (append_assoc before (event ∷ []) events) at
        (on next (one_more table before event empty v next ran at) (step before event v next ran at holds) is)

-- A property of the empty world that each step keeps holds after each run.
pub runs_keep : (table : Table) (Holds : List Event → World → Type 0) → Holds [] empty
    → ((before : List Event) (event : Event) (w next : World) → Runs table before w → after table event w ≡ Some next → Holds before w
    → Holds (before ++ event ∷ []) next)
    → (events : List Event) (w : World) → Runs table events w → Holds events w
runs_keep table Holds none step events w is = keeps_on table Holds step events [] empty w refl none is

-- A sending: the end after it, and the world.
pub record IsSending (table : Table) (side : Side) (m : Message) (w next : World) : Type 0 where
  pub made : End
  pub step : send table (end_at side w) m ≡ Ok made
  pub next_is : next ≡ joined side m (with_end side made w)

-- A delivery: the head of the channel, the end after it, and the world.
pub record IsDelivery (table : Table) (side : Side) (number : ℕ) (w next : World) : Type 0 where
  pub head : MessageInTransit
  pub more : List MessageInTransit
  pub made : End
  pub channel : channel_from (other side) w ≡ head ∷ more
  pub number_is : head.number ≡ number
  pub step : receive table (end_at side w) head.message ≡ Ok made
  pub next_is : next ≡ with_end side made (with_channel (other side) more w)

-- A provider's reply: the head of the channel, the Abort, and the world.
pub record IsReply (side : Side) (number : ℕ) (w next : World) : Type 0 where
  pub head : MessageInTransit
  pub more : List MessageInTransit
  pub abort : Message
  pub channel : channel_from (other side) w ≡ head ∷ more
  pub number_is : head.number ≡ number
  pub step : reply_to (end_at side w) head.message ≡ Some abort
  pub next_is : next ≡ joined side abort (with_channel (other side) more w)

-- A loss: the head of the channel, and the world without it.
pub record IsLoss (side : Side) (number : ℕ) (w next : World) : Type 0 where
  pub head : MessageInTransit
  pub more : List MessageInTransit
  pub channel : channel_from side w ≡ head ∷ more
  pub number_is : head.number ≡ number
  pub next_is : next ≡ with_channel side more w

-- An expiry or a closing: the end after it, and the world.
pub record IsHidden (side : Side) (step : End → Result End EndFault) (w next : World) : Type 0 where
  pub made : End
  pub step_is : step (end_at side w) ≡ Ok made
  pub next_is : next ≡ with_end side made w

-- A message sent by `Tells`: the world after it.
pub record IsTold (side : Side) (m : Message) (w next : World) : Type 0 where
  pub next_is : next ≡ joined side m w

-- A quiet mark: the empty channels and quiet ends before it, and the world after it.
pub record IsQuiet (w next : World) : Type 0 where
  pub from_a : w.from_a ≡ []
  pub from_b : w.from_b ≡ []
  pub quiet_a : end_quiet w.a ≡ Ok nothing
  pub quiet_b : end_quiet w.b ≡ Ok nothing
  pub next_is : next ≡ record { a = nothing; b = nothing; from_a = []; from_b = []; sent = w.sent ++ Item.Quiet ∷ [] }

-- The message taken is the head of the channel.
record WasTaken (number : ℕ) (step : Message → List MessageInTransit → Option World) (messages : List MessageInTransit) (next : World) : Type 0 where
  head : MessageInTransit
  more : List MessageInTransit
  channel : messages ≡ head ∷ more
  number_is : head.number ≡ number
  step_is : step head.message more ≡ Some next

-- `head_taken` succeeds only at the head.
takes_head : (number : ℕ) (step : Message → List MessageInTransit → Option World) (messages : List MessageInTransit) (next : World)
    → head_taken number step messages ≡ Some next → WasTaken number step messages next
takes_head number step [] next is = cc
takes_head number step (head ∷ more) next is =
    let both = where_some _ _ next is in
    record { head = head; more = more; channel = refl; number_is = eqb-true head.number number both.0; step_is = both.1 }

-- A sending is one by `IsSending`.
pub sending : (table : Table) (side : Side) (m : Message) (w next : World) → after table (Sends side m) w ≡ Some next
    → IsSending table side m w next
sending table side m w next is =
    let step = took (λ e. joined side m (with_end side e w)) (send table (end_at side w) m) next is in
    record { made = step.0; step = step.1; next_is = sym step.2 }

-- A delivery is one by `IsDelivery`.
pub delivery : (table : Table) (side : Side) (number : ℕ) (w next : World) → after table (Receives side number) w ≡ Some next
    → IsDelivery table side number w next
delivery table side number w next is =
    let head = takes_head number _ (channel_from (other side) w) next is in
    let step = took (λ e. with_end side e (with_channel (other side) head.more w))
    (receive table (end_at side w) head.head.message) next head.step_is in
    record {
      head = head.head;
      more = head.more;
      made = step.0;
      channel = head.channel;
      number_is = head.number_is;
      step = step.1;
      next_is = sym step.2;
    }

-- A provider's reply is one by `IsReply`.
pub reply : (table : Table) (side : Side) (number : ℕ) (w next : World) → after table (Replies side number) w ≡ Some next
    → IsReply side number w next
reply table side number w next is =
    let head = takes_head number _ (channel_from (other side) w) next is in
    let step = map_some (λ abort. joined side abort (with_channel (other side) head.more w))
    (reply_to (end_at side w) head.head.message) next head.step_is in
    record {
      head = head.head;
      more = head.more;
      abort = step.0;
      channel = head.channel;
      number_is = head.number_is;
      step = step.1;
      next_is = sym step.2;
    }

-- A loss is one by `IsLoss`.
pub loss : (table : Table) (side : Side) (number : ℕ) (w next : World) → after table (Loses side number) w ≡ Some next
    → IsLoss side number w next
loss table side number w next is =
    let head = takes_head number _ (channel_from side w) next is in
    let same : with_channel side head.more w ≡ next = let step = head.step_is in cc in
    record { head = head.head; more = head.more; channel = head.channel; number_is = head.number_is; next_is = sym same }

-- An expiry is one by `IsHidden`.
pub expiry : (table : Table) (side : Side) (name : HalfName) (id : ℤ) (w next : World) → after table (Expires side name id) w ≡ Some next
    → IsHidden side (λ e. expire table e name id) w next
expiry table side name id w next is =
    let step = took (λ e. with_end side e w) (expire table (end_at side w) name id) next is in
    record { made = step.0; step_is = step.1; next_is = sym step.2 }

-- A closing is one by `IsHidden`.
pub closing : (table : Table) (side : Side) (name : HalfName) (w next : World) → after table (Closes side name) w ≡ Some next
    → IsHidden side (λ e. close table e name) w next
closing table side name w next is =
    let step = took (λ e. with_end side e w) (close table (end_at side w) name) next is in
    record { made = step.0; step_is = step.1; next_is = sym step.2 }

-- A message sent by `Tells` is one by `IsTold`.
pub telling : (table : Table) (side : Side) (m : Message) (w next : World) → after table (Tells side m) w ≡ Some next
    → IsTold side m w next
telling table side m w next is = record { next_is = let same : joined side m w ≡ next = cc in sym same }

-- Both ends are quiet at a quiet mark, and empty after it.
both_quiet : (a b : Bool) (x : World) (sent : List Item)
    → option_then (result_ok (needs a faults.StillOpen >> Ok nothing))
    (λ p.
    option_map (λ q. record { a = p; b = q; from_a = []; from_b = []; sent = sent }) (result_ok (needs b faults.StillOpen >> Ok nothing)))
    ≡ Some x
    → ((needs a faults.StillOpen >> Ok nothing) ≡ Ok nothing) × ((needs b faults.StillOpen >> Ok nothing) ≡ Ok nothing)
    × (x ≡ record { a = nothing; b = nothing; from_a = []; from_b = []; sent = sent })
both_quiet true true x sent is = (refl, refl, cc)
both_quiet true false x sent is = cc
both_quiet false b x sent is = cc

-- A quiet mark is one by `IsQuiet`.
pub quiet : (table : Table) (w next : World) → after table Quiet w ≡ Some next → IsQuiet w next
quiet table w next is = by w.from_a w.from_b is
  where
    by : (a b : List MessageInTransit) → after_quiet (record w { from_a = a; from_b = b }) ≡ Some next
        → IsQuiet (record w { from_a = a; from_b = b }) next
    by [] [] is =
        let (a, b, next_is) = both_quiet (all_closed w.a.begun && all_closed w.a.accepted) (all_closed w.b.begun && all_closed w.b.accepted)
        next (w.sent ++ Item.Quiet ∷ []) is in
        record { from_a = refl; from_b = refl; quiet_a = a; quiet_b = b; next_is = next_is }
    by [] (m ∷ b) is = cc
    by (m ∷ a) b is = cc

-- ---- the sent list

-- A reply is the Abort for the message.
reply_is : (e : End) (m abort : Message) → reply_to e m ≡ Some abort → abort_for m ≡ Some abort
reply_is e m abort is = by (abort_for m) is
  where
    by : (o : Option Message) → option_then o (λ found. only_if (may_refuse e m found) (Some found)) ≡ Some abort
        → o ≡ Some abort
    by None is = cc
    by (Some found) is = ap Some ((cond_some _ _ abort is).1)

-- What a step adds to the sent list.
pub grows : (table : Table) (event : Event) (w next : World) → after table event w ≡ Some next
    → (items : List Item) × Adds w event items × (next.sent ≡ w.sent ++ items)
grows table (Replies side number) w next is =
    let r = reply table side number w next is in (
      Sent side r.abort ∷ [],
      (r.head, r.more, r.abort, r.channel, r.number_is, reply_is (end_at side w) r.head.message r.abort r.step, refl),
      ap (λ (v : World). v.sent) r.next_is ∙ sent_joined side r.abort (with_channel (other side) r.more w)
          ∙ ap (λ sent. sent ++ Sent side r.abort ∷ []) (sent_with_channel (other side) r.more w),
    )
grows table (Sends side m) w next is = search rules
grows table (Receives side number) w next is = search rules
grows table (Loses side number) w next is = search rules
grows table (Expires side name id) w next is = search rules
grows table (Closes side name) w next is = search rules
grows table Quiet w next is = search rules
grows table (Tells side m) w next is = search rules

-- A step adds at most one item.
one_at_most : (w : World) (event : Event) (items : List Item) → Adds w event items → length items ≤ 1
one_at_most w (Sends side m) items adds = rw adds (omega arith)
one_at_most w (Receives side number) items adds = rw adds (omega arith)
one_at_most w (Replies side number) items adds = rw (adds.6) (omega arith)
one_at_most w (Loses side number) items adds = rw adds (omega arith)
one_at_most w (Expires side name id) items adds = rw adds (omega arith)
one_at_most w (Closes side name) items adds = rw adds (omega arith)
one_at_most w Quiet items adds = rw adds (omega arith)
one_at_most w (Tells side m) items adds = rw adds (omega arith)

-- A run has at least as many steps as items.
pub steps_for_items : (table : Table) (events : List Event) (w : World) → Runs table events w → length w.sent ≤ length events
steps_for_items table = runs_keep table (λ events w. length w.sent ≤ length events) (omega arith) by
  where
    by : (before : List Event) (event : Event) (w next : World) → Runs table before w → after table event w ≡ Some next
        → length w.sent ≤ length before → length next.sent ≤ length (before ++ event ∷ [])
    by before event w next ran step kept =
        let adds = grows table event w next step in
        let one = one_at_most w event adds.0 adds.1 in
        let one_step : length (event ∷ []) ≡ 1 = refl in
        rw (adds.2, length-append w.sent adds.0, length-append before (event ∷ []), one_step) (omega arith)

-- ---- soundness of both ends

-- both ends are sound
abbrev BothSound : World → Type 0
BothSound w = (side : Side) → IsEnd (end_at side w)

-- It still holds with a new end that is sound.
with_sound : (side : Side) (made : End) (w : World) → IsEnd made → BothSound w → BothSound (with_end side made w)
with_sound sides.A made w new old sides.A = new
with_sound sides.A made w new old sides.B = old sides.B
with_sound sides.B made w new old sides.A = old sides.A
with_sound sides.B made w new old sides.B = new

-- It does not depend on the channels.
channel_sound : (side : Side) (messages : List MessageInTransit) (w : World) → BothSound w → BothSound (with_channel side messages w)
channel_sound side messages w old at = rw (end_with_channel at side messages w) (old at)

-- It still holds after a message joins a channel.
joined_sound : (side : Side) (m : Message) (w : World) → BothSound w → BothSound (joined side m w)
joined_sound side m w old at = rw (end_joined at side m w) (old at)

-- It holds after a quiet mark.
quiet_sound : (items : List Item) → BothSound (record { a = nothing; b = nothing; from_a = []; from_b = []; sent = items })
quiet_sound items sides.A = nothing_sound
quiet_sound items sides.B = nothing_sound

-- Each step keeps it.
step_sound : (table : Table) (event : Event) (w next : World) → after table event w ≡ Some next → BothSound w → BothSound next
step_sound table (Sends side m) w next is old =
    let step = sending table side m w next is in
    let made = (sends table (end_at side w) step.made m (old side) step.step).sound in
    rw (step.next_is) (joined_sound side m (with_end side step.made w) (with_sound side step.made w made old))
step_sound table (Receives side number) w next is old =
    let step = delivery table side number w next is in
    let made = (receives table (end_at side w) step.made step.head.message (old side) step.step).sound in
    rw (step.next_is)
    (with_sound side step.made (with_channel (other side) step.more w) made (channel_sound (other side) step.more w old))
step_sound table (Replies side number) w next is old =
    let step = reply table side number w next is in
    rw (step.next_is)
    (joined_sound side step.abort (with_channel (other side) step.more w) (channel_sound (other side) step.more w old))
step_sound table (Loses side number) w next is old =
    let step = loss table side number w next is in
    rw (step.next_is) (channel_sound side step.more w old)
step_sound table (Expires side name id) w next is old =
    let step = expiry table side name id w next is in
    let made = (expires table (end_at side w) step.made name id (old side) step.step_is).sound in
    rw (step.next_is) (with_sound side step.made w made old)
step_sound table (Closes side name) w next is old =
    let step = closing table side name w next is in
    let made = (closes table (end_at side w) step.made name (old side) step.step_is).sound in
    rw (step.next_is) (with_sound side step.made w made old)
step_sound table (Tells side m) w next is old = rw ((telling table side m w next is).next_is) (joined_sound side m w old)
step_sound table Quiet w next is old = rw ((quiet table w next is).next_is) (quiet_sound (w.sent ++ Item.Quiet ∷ []))

-- Both ends are sound in each run.
pub sound : (table : Table) (events : List Event) (w : World) → Runs table events w → (side : Side) → IsEnd (end_at side w)
sound table events w is =
    runs_keep table (λ before v. BothSound v) none (λ before event v next ran. step_sound table event v next) events w is
  where
    none : BothSound empty
    none sides.A = nothing_sound
    none sides.B = nothing_sound

-- ---- runs in a row

pub played_on : (table : Table) (first rest : List Event) (w mid : World) → played table first w ≡ Some mid → played table (first ++ rest) w ≡ played table rest mid
played_on table [] rest w mid is = let same : w ≡ mid = cc in ap (played table rest) same
played_on table (event ∷ first) rest w mid is = by (after table event w) (λ x on. played_on table first rest x mid on) is
  where
    by : (o : Option World) → ((x : World) → played table first x ≡ Some mid → played table (first ++ rest) x ≡ played table rest mid)
        → option_then o (played table first) ≡ Some mid → option_then o (played table (first ++ rest)) ≡ played table rest mid
    by None on is = cc
    by (Some x) on is = on x is

-- `is_side` decides equality.
pub same_side : (side sender : Side) → is_side side sender ≡ true → side ≡ sender
same_side sides.A sides.A is = refl
same_side sides.A sides.B is = cc
same_side sides.B sides.A is = cc
same_side sides.B sides.B is = refl
