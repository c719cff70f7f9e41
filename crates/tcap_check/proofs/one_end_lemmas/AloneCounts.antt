-- The events in a run of one end, and the length of such a run.
use Rattle.std.proofs.Common.{arith, ◌≡◌, ◌≤◌, ◌+◌, ◌*◌, ℕ, ℤ, Bool, true, false, cond, List, [], ◌∷◌, ◌++◌, filter, length, Some, refl, ap, ◌∙◌}
use Rattle.std.specs.Prelude.{not}
use Rattle.std.specs.List.{AllByRecursion}
use Rattle.std.proofs.lemmas.List.{length-append}
use Rattle.std.proofs.lemmas.List.Elements.{filter-append}
use Rattle.tcap_msg.specs.declared.message.Message.{Message}
use Rattle.tcap_record.specs.declared.entry.End.{End as Side}
use Rattle.tcap_record.specs.declared.entry.End.TheVariants.{A, B}
use Rattle.tcap_end.specs.declared.half.HalfName.{HalfName}
use Rattle.tcap_end.specs.Table.{Table}
use Rattle.tcap_end.specs.End.{End}
use Rattle.tcap_end.specs.ReachableEnd.{IsEnd}
use Rattle.tcap_record.specs.Ends.{other}
use Rattle.tcap_model.specs.World.{Item, MessageInTransit, Sent, World, channel_from, empty, end_at, is_side, with_channel, with_end}
use Rattle.tcap_model.specs.Run.{Event, Sends, Receives, Replies, Loses, Expires, Closes, Quiet, Tells, KeepsRules, Runs, after, joined, numbers_taken}
use Rattle.tcap_model.specs.Entries.{count_components}
use Rattle.tcap_certificate.specs.LossCounts.{is_lost_from, steps_of, unheard_of}
use Rattle.tcap_model.proofs.RunLaws.{closing, delivery, expiry, loss, quiet, reply, runs_keep, sending, sound as ends_sound, telling}
use Rattle.tcap_model.proofs.WorldLaws.{sent_with_channel}
use Rattle.tcap_check.proofs.given_run_lemmas.StepCounts.{taken_most}
use Rattle.tcap_check.proofs.one_end_lemmas.AloneLoad.{closes_load, expires_load, load, receives_load, sends_load}
use Rattle.tcap_model.proofs.WorldLaws.{apart, sent_joined, sent_with_end}

-- An event in a run of one end: an event of the end, a message of its peer, a loss, or a quiet mark.
abbrev pub IsOwn : Side → Event → Type 0
IsOwn side (Sends sender message) = sender ≡ side
IsOwn side (Receives receiver number) = receiver ≡ side
IsOwn side (Replies replier number) = replier ≡ side
IsOwn side (Loses sender number) = Unit {0}
IsOwn side (Expires actor name id) = actor ≡ side
IsOwn side (Closes actor name) = actor ≡ side
IsOwn side Quiet = Unit {0}
IsOwn side (Tells teller message) = teller ≡ other side

-- ---- rules

-- The end keeps the rules.
pub own_keeps : (side : Side) (events : List Event) → AllByRecursion (IsOwn side) events → KeepsRules side events
own_keeps side [] all = refl
own_keeps side (Tells teller m ∷ events) all = rw (all.0, apart side) (own_keeps side events all.1)
own_keeps side (Sends sender m ∷ events) all = own_keeps side events all.1
own_keeps side (Receives receiver n ∷ events) all = own_keeps side events all.1
own_keeps side (Replies replier n ∷ events) all = own_keeps side events all.1
own_keeps side (Loses sender n ∷ events) all = own_keeps side events all.1
own_keeps side (Expires actor name id ∷ events) all = own_keeps side events all.1
own_keeps side (Closes actor name ∷ events) all = own_keeps side events all.1
own_keeps side (Quiet ∷ events) all = own_keeps side events all.1

-- ---- unheard messages

-- Each lost message was taken.
lost_taken : (side : Side) (events : List Event)
    → length (filter (is_lost_from side) events) ≤ length (numbers_taken side events)
lost_taken side [] = omega arith
lost_taken side (event ∷ events) = by event (lost_taken side events)
  where
    lost : Event → ℕ
    lost event = length (filter (is_lost_from side) (event ∷ events))

    taken : Event → ℕ
    taken event = length (numbers_taken side (event ∷ events))

    if_so : (b : Bool) (sender : Side) (n : ℕ)
        → length (filter (is_lost_from side) events) ≤ length (numbers_taken side events)
        → length (cond b (Loses sender n ∷ filter (is_lost_from side) events) (filter (is_lost_from side) events))
        ≤ length (cond b (n ∷ []) [] ++ numbers_taken side events)
    if_so true sender n rest = omega (arith, rest)
    if_so false sender n rest = rest

    if_taken : (b : Bool) (n : ℕ) → length (filter (is_lost_from side) events) ≤ length (numbers_taken side events)
        → length (filter (is_lost_from side) events) ≤ length (cond b (n ∷ []) [] ++ numbers_taken side events)
    if_taken true n rest = omega (arith, rest)
    if_taken false n rest = rest

    by : (event : Event) → length (filter (is_lost_from side) events) ≤ length (numbers_taken side events)
        → lost event ≤ taken event
    by (Sends sender m) rest = rest
    by (Receives receiver n) rest = if_taken (is_side side (other receiver)) n rest
    by (Replies replier n) rest = if_taken (is_side side (other replier)) n rest
    by (Loses sender n) rest = if_so (is_side side sender) sender n rest
    by (Expires actor name id) rest = rest
    by (Closes actor name) rest = rest
    by Quiet rest = rest
    by (Tells teller m) rest = rest

-- There are at most as many unheard messages as items.
pub unheard_most : (table : Table) (side : Side) (events : List Event) (w : World) → Runs table events w
    → unheard_of side events ≤ length w.sent
unheard_most table A events w runs = omega (arith, lost_taken B events, taken_most table events w runs)
unheard_most table B events w runs = omega (arith, lost_taken A events, taken_most table events w runs)

-- ---- steps

-- the weight of what may still expire or close at the end, and of the messages on their way to it, which may add to
-- this
abbrev waiting : Side → World → ℕ
waiting side w = load (end_at side w) + 2 * length (channel_from (other side) w)

-- the bound for these items
abbrev allowed : List Item → ℕ
allowed items = 3 * length items + count_components items

count_both : (xs ys : List Item) → count_components (xs ++ ys) ≡ count_components xs + count_components ys
count_both [] ys = omega arith
count_both (Sent side m ∷ xs) ys = omega (arith, count_both xs ys)
count_both (Item.Quiet ∷ xs) ys = count_both xs ys

allowed_both : (xs ys : List Item) → allowed (xs ++ ys) ≡ allowed xs + allowed ys
allowed_both xs ys = omega (arith, count_both xs ys, length-append xs ys)

waits_sent : (side : Side) (m : Message) (made : End) (w : World)
    → waiting side (joined side m (with_end side made w)) ≡ load made + 2 * length (channel_from (other side) w)
waits_sent A m made w = refl
waits_sent B m made w = refl

waits_received : (side : Side) (made : End) (more : List MessageInTransit) (w : World)
    → waiting side (with_end side made (with_channel (other side) more w)) ≡ load made + 2 * length more
waits_received A made more w = refl
waits_received B made more w = refl

waits_replied : (side : Side) (m : Message) (more : List MessageInTransit) (w : World)
    → waiting side (joined side m (with_channel (other side) more w)) ≡ load (end_at side w) + 2 * length more
waits_replied A m more w = refl
waits_replied B m more w = refl

waits_internal : (side : Side) (made : End) (w : World)
    → waiting side (with_end side made w) ≡ load made + 2 * length (channel_from (other side) w)
waits_internal A made w = refl
waits_internal B made w = refl

waits_told : (side : Side) (m : Message) (w : World) → waiting side (joined (other side) m w) ≡ waiting side w + 2
waits_told A m w = omega (arith, length-append w.from_b (record { number = length w.sent; message = m } ∷ []))
waits_told B m w = omega (arith, length-append w.from_a (record { number = length w.sent; message = m } ∷ []))

waits_lost : (side sender : Side) (head : MessageInTransit) (more : List MessageInTransit) (w : World)
    → channel_from sender w ≡ head ∷ more
    → (number : ℕ)
    → steps_of side (Loses sender number ∷ []) + waiting side (with_channel sender more w) ≤ waiting side w
waits_lost A A head more w is number = omega arith
waits_lost A B head more w is number = omega (arith, ap length is)
waits_lost B A head more w is number = omega (arith, ap length is)
waits_lost B B head more w is number = omega arith

-- A step adds at most what its items allow to the count of steps and the weight together.
abbrev IsAllowed : Side → Event → World → World → Type 0
IsAllowed side event w next =
    steps_of side (event ∷ []) + waiting side next + allowed w.sent ≤ waiting side w + allowed next.sent

sends_allowed : (table : Table) (side : Side) (m : Message) (w next : World) → IsEnd (end_at side w)
    → after table (Sends side m) w ≡ Some next → IsAllowed side (Sends side m) w next
sends_allowed table side m w next sound is =
    let s = sending table side m w next is in
    omega (
      arith,
      sends_load table (end_at side w) s.made m sound s.step,
      ap (waiting side) s.next_is ∙ waits_sent side m s.made w,
      ap (λ (v : World). allowed v.sent) s.next_is ∙ ap allowed (sent_joined side m (with_end side s.made w))
          ∙ ap (λ (items : List Item). allowed (items ++ Sent side m ∷ [])) (sent_with_end side s.made w)
          ∙ allowed_both w.sent (Sent side m ∷ []),
    )

receives_allowed : (table : Table) (side : Side) (n : ℕ) (w next : World) → IsEnd (end_at side w)
    → after table (Receives side n) w ≡ Some next → IsAllowed side (Receives side n) w next
receives_allowed table side n w next sound is =
    let s = delivery table side n w next is in
    omega (
      arith,
      receives_load table (end_at side w) s.made s.head.message sound s.step,
      ap (waiting side) s.next_is ∙ waits_received side s.made s.more w,
      ap length s.channel,
      ap (λ (v : World). allowed v.sent) s.next_is
          ∙ ap allowed (sent_with_end side s.made (with_channel (other side) s.more w))
          ∙ ap allowed (sent_with_channel (other side) s.more w),
    )

replies_allowed : (table : Table) (side : Side) (n : ℕ) (w next : World) → after table (Replies side n) w ≡ Some next
    → IsAllowed side (Replies side n) w next
replies_allowed table side n w next is =
    let s = reply table side n w next is in
    omega (
      arith,
      ap (waiting side) s.next_is ∙ waits_replied side s.abort s.more w,
      ap length s.channel,
      ap (λ (v : World). allowed v.sent) s.next_is
          ∙ ap allowed (sent_joined side s.abort (with_channel (other side) s.more w))
          ∙ ap (λ (items : List Item). allowed (items ++ Sent side s.abort ∷ []))
          (sent_with_channel (other side) s.more w)
          ∙ allowed_both w.sent (Sent side s.abort ∷ []),
    )

expires_allowed : (table : Table) (side : Side) (name : HalfName) (id : ℤ) (w next : World) → IsEnd (end_at side w)
    → after table (Expires side name id) w ≡ Some next → IsAllowed side (Expires side name id) w next
expires_allowed table side name id w next sound is =
    let s = expiry table side name id w next is in
    omega (
      arith,
      expires_load table (end_at side w) s.made name id sound s.step_is,
      ap (waiting side) s.next_is ∙ waits_internal side s.made w,
      ap (λ (v : World). allowed v.sent) s.next_is ∙ ap allowed (sent_with_end side s.made w),
    )

closes_allowed : (table : Table) (side : Side) (name : HalfName) (w next : World) → IsEnd (end_at side w)
    → after table (Closes side name) w ≡ Some next → IsAllowed side (Closes side name) w next
closes_allowed table side name w next sound is =
    let s = closing table side name w next is in
    omega (
      arith,
      closes_load table (end_at side w) s.made name sound s.step_is,
      ap (waiting side) s.next_is ∙ waits_internal side s.made w,
      ap (λ (v : World). allowed v.sent) s.next_is ∙ ap allowed (sent_with_end side s.made w),
    )

tells_allowed : (table : Table) (side : Side) (m : Message) (w next : World)
    → after table (Tells (other side) m) w ≡ Some next
    → IsAllowed side (Tells (other side) m) w next
tells_allowed table side m w next is =
    let s = telling table (other side) m w next is in
    omega (
      arith,
      ap (waiting side) s.next_is ∙ waits_told side m w,
      ap (λ (v : World). allowed v.sent) s.next_is ∙ ap allowed (sent_joined (other side) m w)
          ∙ allowed_both w.sent (Sent (other side) m ∷ []),
    )

loses_allowed : (table : Table) (side sender : Side) (n : ℕ) (w next : World)
    → after table (Loses sender n) w ≡ Some next
    → IsAllowed side (Loses sender n) w next
loses_allowed table side sender n w next is =
    let s = loss table sender n w next is in
    omega (
      arith,
      waits_lost side sender s.head s.more w s.channel n,
      ap (waiting side) s.next_is,
      ap (λ (v : World). allowed v.sent) s.next_is ∙ ap allowed (sent_with_channel sender s.more w),
    )

quiet_allowed : (table : Table) (side : Side) (w next : World) → after table Quiet w ≡ Some next
    → IsAllowed side Quiet w next
quiet_allowed table side w next is =
    let s = quiet table w next is in
    omega (
      arith,
      ap (waiting side) s.next_is ∙ by side,
      ap (λ (v : World). allowed v.sent) s.next_is ∙ allowed_both w.sent (Item.Quiet ∷ []),
    )
  where
    by : (side : Side)
        → waiting side (record {
          a = record { begun = []; accepted = [] };
          b = record { begun = []; accepted = [] };
          from_a = [];
          from_b = [];
          sent = w.sent ++ Item.Quiet ∷ [];
        }) ≡ 0
    by A = refl
    by B = refl

step_allowed : (table : Table) (side : Side) (event : Event) (w next : World) → IsEnd (end_at side w) → IsOwn side event
    → after table event w ≡ Some next → IsAllowed side event w next
step_allowed table side (Sends sender m) w next sound own is =
    sends_allowed table side m w next sound (rw (← own) is)
step_allowed table side (Receives receiver n) w next sound own is =
    receives_allowed table side n w next sound (rw (← own) is)
step_allowed table side (Replies replier n) w next sound own is =
    replies_allowed table side n w next (rw (← own) is)
step_allowed table side (Loses sender n) w next sound own is = loses_allowed table side sender n w next is
step_allowed table side (Expires actor name id) w next sound own is =
    expires_allowed table side name id w next sound (rw (← own) is)
step_allowed table side (Closes actor name) w next sound own is =
    closes_allowed table side name w next sound (rw (← own) is)
step_allowed table side Quiet w next sound own is = quiet_allowed table side w next is
step_allowed table side (Tells teller m) w next sound own is =
    tells_allowed table side m w next (rw (← own) is)

-- ---- all steps of a run
own_front : (side : Side) (before : List Event) (event : Event) → AllByRecursion (IsOwn side) (before ++ event ∷ [])
    → AllByRecursion (IsOwn side) before × IsOwn side event
own_front side [] event all = (tt, all.0)
own_front side (first ∷ before) event all = let rest = own_front side before event all.1 in ((all.0, rest.0), rest.1)

steps_more : (side : Side) (before : List Event) (event : Event)
    → steps_of side (before ++ event ∷ []) ≡ steps_of side before + steps_of side (event ∷ [])
steps_more side before event =
    ap length (filter-append (λ x. not (is_lost_from side x)) before (event ∷ []))
    ∙ length-append (filter (λ x. not (is_lost_from side x)) before)
    (filter (λ x. not (is_lost_from side x)) (event ∷ []))

waits_most : (table : Table) (side : Side) (events : List Event) (w : World) → Runs table events w
    → AllByRecursion (IsOwn side) events → steps_of side events + waiting side w ≤ allowed w.sent
waits_most table side =
    runs_keep table (λ events w. AllByRecursion (IsOwn side) events → steps_of side events + waiting side w
    ≤ allowed w.sent)
    (λ all. none side) by
  where
    none : (side : Side) → steps_of side [] + waiting side empty ≤ allowed empty.sent
    none A = omega arith
    none B = omega arith

    by : (before : List Event) (event : Event) (w next : World) → Runs table before w → after table event w ≡ Some next
        → (AllByRecursion (IsOwn side) before → steps_of side before + waiting side w ≤ allowed w.sent)
        → AllByRecursion (IsOwn side) (before ++ event ∷ [])
        → steps_of side (before ++ event ∷ []) + waiting side next ≤ allowed next.sent
    by before event w next ran step kept all =
        let (first, last) = own_front side before event all in
        omega (
          arith,
          kept first,
          step_allowed table side event w next (ends_sound table before w ran side) last step,
          steps_more side before event,
        )

pub own_most : (table : Table) (side : Side) (events : List Event) (w : World) → Runs table events w
    → AllByRecursion (IsOwn side) events → steps_of side events ≤ 3 * length w.sent + count_components w.sent
own_most table side events w runs all = omega (arith, waits_most table side events w runs all)
