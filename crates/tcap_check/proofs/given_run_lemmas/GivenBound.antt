-- A bound on the length of a run that a certificate describes.
use Rattle.std.proofs.Common.{arith, ◌≡◌, ◌≤◌, ◌+◌, ◌*◌, ◌==◌, ℕ, ℤ, Bool, true, false, cond, nat_le, List, [], ◌∷◌, ◌++◌, map, filter, filter_map, length, Option, Some, None, refl, sym, ap, ◌∙◌}
use Rattle.std.specs.Prelude.{Contains}
use Rattle.std.specs.List.{AllByRecursion}
use Rattle.std.proofs.lemmas.Bool.{eqb-true, le-leb, leb-true}
use Rattle.std.proofs.lemmas.List.{length-map}
use Rattle.std.proofs.lemmas.List.Sums.{count_by-le-length, length-filter}
use Rattle.tcap_msg.specs.declared.message.Message.{Message}
use Rattle.tcap_msg.specs.Parts.{components_in}
use Rattle.tcap_record.specs.declared.entry.End.{End as Side}
use Rattle.tcap_end.specs.declared.half.HalfName.{HalfName}
use Rattle.tcap_end.specs.End.{End}
use Rattle.tcap_end.specs.ReachableEnd.{IsEnd}
use Rattle.tcap_end.specs.Table.{Table}
use Rattle.tcap_end.proofs.StepLaws.{expires}
use Rattle.tcap_model.specs.World.{Item, Sent, World, empty, end_at}
use Rattle.tcap_model.specs.Run.{Event, Sends, Receives, Replies, Loses, Expires, Closes, Quiet, Tells, IsRunOf, Runs, after, played, option_then}
use Rattle.tcap_certificate.specs.declared.certificate.Closing.{Closing}
use Rattle.tcap_certificate.specs.declared.certificate.Expiry.{Expiry}
use Rattle.tcap_certificate.specs.declared.certificate.Fate.{Fate}
use Rattle.tcap_certificate.specs.Certificate.{Certificate}
use Rattle.tcap_model.specs.Entries.{count_components}
use Rattle.tcap_certificate.specs.DescribedRun.{Follows, FollowsFrom, IsImplied, closing_event, deliveries, expiry_event, gap_events, invoke_id, invoking_half, is_loss, sending, taken_by, without_losses}
use Rattle.tcap_model.proofs.RunLaws.{played_on}
use Rattle.tcap_model.proofs.RunLaws.{expiry, loss, sound as ends_sound}
use Rattle.tcap_model.proofs.WorldLaws.{end_with, end_with_channel}
use Rattle.tcap_check.proofs.given_run_lemmas.StepCounts.{expired, fewer, filter_map_most, hides, in_use, joins_most, one, one_most, steps_most, taken_most, total, total_both, total_most}
use Rattle.tcap_check.proofs.replay_laws.ReplaySteps.{from_start, all_delivered}
use Rattle.tcap_check.proofs.given_run_lemmas.GivenEvents.{IsSender, by_mark, by_reply, by_send, sender_is}

-- ---- runs in parts

-- The count of hidden events is the same without losses.
losses_apart : (events : List Event) → total hides events ≡ total hides (without_losses events)
losses_apart [] = refl
losses_apart (event ∷ events) = by event (losses_apart events)
  where
    by : (event : Event) → total hides events ≡ total hides (without_losses events)
        → hides event + total hides events
        ≡ total hides (cond (is_loss event) (without_losses events) (event ∷ without_losses events))
    by (Sends side message) rest = omega (arith, rest)
    by (Receives side number) rest = omega (arith, rest)
    by (Replies side number) rest = omega (arith, rest)
    by (Loses side number) rest = omega (arith, rest)
    by (Expires side name id) rest = omega (arith, rest)
    by (Closes side name) rest = omega (arith, rest)
    by Quiet rest = omega (arith, rest)
    by (Tells side message) rest = omega (arith, rest)

-- Events in two parts that, without losses, are these lists.
record InParts (events firsts rests : List Event) : Type 0 where
  first : List Event
  rest : List Event
  whole : events ≡ first ++ rest
  first_is : without_losses first ≡ firsts
  rest_is : without_losses rest ≡ rests

in_parts : (events firsts rests : List Event) → without_losses events ≡ firsts ++ rests → InParts events firsts rests
in_parts events [] rests is = record { first = []; rest = events; whole = refl; first_is = refl; rest_is = is }
in_parts [] (x ∷ firsts) rests is = cc
in_parts (event ∷ events) (x ∷ firsts) rests is =
    by (is_loss event) refl is (in_parts events (x ∷ firsts) rests) (in_parts events firsts rests)
  where
    by : (b : Bool) → is_loss event ≡ b → cond b (without_losses events) (event ∷ without_losses events) ≡ x ∷ (firsts ++ rests)
        → (without_losses events ≡ x ∷ (firsts ++ rests) → InParts events (x ∷ firsts) rests)
        → (without_losses events ≡ firsts ++ rests → InParts events firsts rests)
        → InParts (event ∷ events) (x ∷ firsts) rests
    by true so is lost kept =
        let parts = lost is in
        record {
          first = event ∷ parts.first;
          rest = parts.rest;
          whole = ap (λ es. event ∷ es) parts.whole;
          first_is = rw so (parts.first_is);
          rest_is = parts.rest_is;
        }
    by false so is lost kept =
        let parts = kept cc in
        let same : event ≡ x = cc in
        record {
          first = event ∷ parts.first;
          rest = parts.rest;
          whole = ap (λ es. event ∷ es) parts.whole;
          first_is = rw (so, parts.first_is, same) refl;
          rest_is = parts.rest_is;
        }

-- The world after the first step.
first_step : (table : Table) (event : Event) (events : List Event) (v w : World) → played table (event ∷ events) v ≡ Some w
    → (next : World) × (after table event v ≡ Some next) × (played table events next ≡ Some w)
first_step table event events v w is = by (after table event v) refl is
  where
    by : (o : Option World) → after table event v ≡ o → option_then o (played table events) ≡ Some w
        → (next : World) × (after table event v ≡ Some next) × (played table events next ≡ Some w)
    by None at is = cc
    by (Some next) at is = (next, at, is)

-- The world between two parts.
between : (table : Table) (first rest : List Event) (v w : World) → played table (first ++ rest) v ≡ Some w
    → (mid : World) × (played table first v ≡ Some mid) × (played table rest mid ≡ Some w)
between table [] rest v w is = (v, refl, is)
between table (event ∷ first) rest v w is =
    let (next, step, on) = first_step table event (first ++ rest) v w is in
    let (mid, there, behind) = between table first rest next w on in
    (mid, rw step there, behind)

-- A run in two parts.
record RunsInParts (table : Table) (events firsts rests : List Event) (v w : World) : Type 0 where
  first : List Event
  rest : List Event
  mid : World
  first_is : without_losses first ≡ firsts
  rest_is : without_losses rest ≡ rests
  ran : played table first v ≡ Some mid
  on : played table rest mid ≡ Some w
  count : total hides events ≡ total hides first + total hides rest

run_in_parts : (table : Table) (events firsts rests : List Event) (v w : World) → without_losses events ≡ firsts ++ rests
    → played table events v ≡ Some w → RunsInParts table events firsts rests v w
run_in_parts table events firsts rests v w are is =
    let parts = in_parts events firsts rests are in
    let (mid, ran, on) = between table parts.first parts.rest v w (sym (ap (λ es. played table es v) parts.whole) ∙ is) in
    record {
      first = parts.first;
      rest = parts.rest;
      mid = mid;
      first_is = parts.first_is;
      rest_is = parts.rest_is;
      ran = ran;
      on = on;
      count = ap (total hides) parts.whole ∙ total_both hides parts.first parts.rest;
    }

-- A run with one more part.
onward : (table : Table) (before first : List Event) (v w : World) → Runs table before v → played table first v ≡ Some w
    → Runs table (before ++ first) w
onward table before first v w runs is = played_on table before first empty v runs ∙ is

-- ---- expiries that an item implies

-- the count of these IDs that own invocations use
abbrev uses : End → Option HalfName → List ℤ → ℕ
uses e name ids = total (one (in_use e name)) ids

-- After an expiry, fewer of the IDs are in use.
expiry_uses : (table : Table) (side : Side) (name : HalfName) (id : ℤ) (half : Option HalfName) (ids : List ℤ) (v next : World)
    → IsEnd (end_at side v) → after table (Expires side name id) v ≡ Some next → half ≡ Some name → Contains ids id
    → IsEnd (end_at side next) × (uses (end_at side next) half ids + 1 ≤ uses (end_at side v) half ids)
expiry_uses table side name id half ids v next sound step half_is there =
    let h = expiry table side name id v next step in
    let same : end_at side next ≡ h.made = ap (end_at side) h.next_is ∙ end_with side h.made v in
    let ends = expired table (end_at side v) h.made name id sound h.step_is in
    let kept = (expires table (end_at side v) h.made name id sound h.step_is).sound in
    let less = fewer (in_use (end_at side v) (Some name)) (in_use h.made (Some name)) ids id ends.others ends.was
    ends.gone there in
    rw (same, half_is) (kept, less)

-- There are at most as many expiries of IDs on one half as IDs in use.
expiries_most : (table : Table) (sender : Side) (m : Message) (events : List Event) (v w : World) → IsEnd (end_at sender v)
    → played table events v ≡ Some w → AllByRecursion (IsImplied (Sent sender m)) (without_losses events)
    → total hides events ≤ uses (end_at sender v) (invoking_half m) (filter_map invoke_id (components_in m))
expiries_most table sender m [] v w sound is all = omega arith
expiries_most table sender m (Loses side number ∷ events) v w sound is all =
    let (next, step, on) = first_step table (Loses side number) events v w is in
    let l = loss table side number v next step in
    let same : end_at sender next ≡ end_at sender v = rw (l.next_is) (end_with_channel sender side l.more v) in
    let rest = expiries_most table sender m events next w (rw same sound) on all in
    omega (arith, rw same at rest)
expiries_most table sender m (Expires side name id ∷ events) v w sound is all =
    let (next, step, on) = first_step table (Expires side name id) events v w is in
    let same : side ≡ sender = all.0.0 in
    let moved : after table (Expires sender name id) v ≡ Some next = rw (← same) step in
    let less = expiry_uses table sender name id (invoking_half m) (filter_map invoke_id (components_in m)) v next sound moved
    all.0.1 all.0.2 in
    omega (arith, less.1, expiries_most table sender m events next w less.0 on all.1)
expiries_most table sender m (Sends side message ∷ events) v w sound is all = absurd (all.0)
expiries_most table sender m (Receives side number ∷ events) v w sound is all = absurd (all.0)
expiries_most table sender m (Replies side number ∷ events) v w sound is all = absurd (all.0)
expiries_most table sender m (Closes side name ∷ events) v w sound is all = absurd (all.0)
expiries_most table sender m (Quiet ∷ events) v w sound is all = absurd (all.0)
expiries_most table sender m (Tells side message ∷ events) v w sound is all = absurd (all.0)

-- the count of components of an item
abbrev components_of : Item → ℕ
components_of (Sent side message) = length (components_in message)
components_of Item.Quiet = 0

count_more : (item : Item) (items : List Item) → count_components (item ∷ items) ≡ components_of item + count_components items
count_more (Sent side message) items = refl
count_more Item.Quiet items = omega arith

-- An item implies at most as many expiries as it has components.
implied_most : (table : Table) (item : Item) (events : List Event) (v w : World) → ((side : Side) → IsEnd (end_at side v))
    → played table events v ≡ Some w → AllByRecursion (IsImplied item) (without_losses events)
    → total hides events ≤ components_of item
implied_most table (Sent sender m) events v w sound is all = omega (
  arith,
  expiries_most table sender m events v w (sound sender) is all,
  total_most (one (in_use (end_at sender v) (invoking_half m))) (filter_map invoke_id (components_in m))
      (one_most (in_use (end_at sender v) (invoking_half m))),
  filter_map_most invoke_id (components_in m),
)
implied_most table Item.Quiet events v w sound is all = omega (arith, losses_apart events, none (without_losses events) all)
  where
    none : (events : List Event) → AllByRecursion (IsImplied Item.Quiet) events → total hides events ≡ 0
    none [] all = refl
    none (event ∷ events) all = absurd (all.0)

-- ---- listed events

-- 1 if there is an event and it is hidden, else 0
abbrev hides_some : Option Event → ℕ
hides_some None = 0
hides_some (Some event) = hides event

some_most : (event : Option Event) → hides_some event ≤ 1
some_most None = omega arith
some_most (Some (Sends side message)) = omega arith
some_most (Some (Receives side number)) = omega arith
some_most (Some (Replies side number)) = omega arith
some_most (Some (Loses side number)) = omega arith
some_most (Some (Expires side name id)) = omega arith
some_most (Some (Closes side name)) = omega arith
some_most (Some Quiet) = omega arith
some_most (Some (Tells side message)) = omega arith

same_total : (events : List Event) → total hides_some (map Some events) ≡ total hides events
same_total [] = refl
same_total (event ∷ events) = ap (λ n. hides event + n) (same_total events)

deliveries_none : (gap : ℕ) (fates : List Fate) (items : List Item) → total hides (deliveries gap 0 fates items) ≡ 0
deliveries_none gap fates items =
    none (deliveries gap 0 fates items)
    (all_delivered (λ event. hides event ≡ 0) fates gap 0 fates items (from_start fates) (λ side number at. refl))
  where
    none : (events : List Event) → AllByRecursion (λ event. hides event ≡ 0) events → total hides events ≡ 0
    none [] all = refl
    none (event ∷ events) all = let here = all.0 in let rest = none events all.1 in omega (arith, here, rest)

-- A gap has at most one hidden event for each event that is listed for it.
listed_most : (closes expiries : List (Option Event)) (received here : List Event)
    → map Some here ≡ closes ++ expiries ++ map Some received
    → total hides received ≡ 0 → total hides here ≤ length closes + length expiries
listed_most closes expiries received here is none =
    let whole : total hides_some (map Some here) ≡ total hides_some (closes ++ expiries ++ map Some received) =
    ap (total hides_some) is in
    omega (
      arith,
      whole,
      same_total here,
      total_both hides_some (closes ++ expiries) (map Some received),
      total_both hides_some closes expiries,
      same_total received,
      none,
      total_most hides_some closes some_most,
      total_most hides_some expiries some_most,
    )

here_most : (c : Certificate) (items : List Item) (gap : ℕ) (here : List Event) → map Some here ≡ gap_events c items gap
    → total hides here ≤ length (filter (λ x. x.gap == gap) c.close) + length (filter (λ x. x.gap == gap) c.expire)
here_most c items gap here is =
    omega (
      arith,
      listed_most (map (closing_event items) (filter (λ x. x.gap == gap) c.close))
          (map (expiry_event items) (filter (λ x. x.gap == gap) c.expire)) (deliveries gap 0 c.fates items) here is
          (deliveries_none gap c.fates items),
      length-map (filter (λ x. x.gap == gap) c.close) (closing_event items),
      length-map (filter (λ x. x.gap == gap) c.expire) (expiry_event items),
    )

-- The event that sends an item is not hidden.
sends_none : (c : Certificate) (number : ℕ) (item : Item) (event : Event) → sending c number item ≡ Some event → hides event ≡ 0
sends_none c number item event is = by (taken_by number 0 c.fates) event (sender_is c number item (taken_by number 0 c.fates) event is)
  where
    by : (taken : List ℕ) (event : Event) → IsSender taken event → hides event ≡ 0
    by taken event (by_send side m none) = refl
    by taken event (by_reply side n one) = refl
    by taken event (by_mark none) = refl

-- the count of events that are listed for this gap or a later one
abbrev later : {X : Type 0} → (X → ℕ) → ℕ → List X → ℕ
later gap_of gap xs = length (filter (λ x. nat_le gap (gap_of x)) xs)

-- These are the events of the gap and those of later gaps.
now_and_later : {X : Type 0} (gap_of : X → ℕ) (gap : ℕ) (xs : List X)
    → length (filter (λ x. gap_of x == gap) xs) + later gap_of (gap + 1) xs ≤ later gap_of gap xs
now_and_later gap_of gap [] = omega arith
now_and_later {X} gap_of gap (x ∷ xs) =
    by (gap_of x == gap) refl (nat_le (gap + 1) (gap_of x)) refl (nat_le gap (gap_of x)) refl (now_and_later gap_of gap xs)
  where
    now : List X
    now = filter (λ y. gap_of y == gap) xs

    behind : List X
    behind = filter (λ y. nat_le (gap + 1) (gap_of y)) xs

    all : List X
    all = filter (λ y. nat_le gap (gap_of y)) xs

    by : (a : Bool) → (gap_of x == gap) ≡ a → (b : Bool) → nat_le (gap + 1) (gap_of x) ≡ b
        → (e : Bool) → nat_le gap (gap_of x) ≡ e
        → length now + length behind ≤ length all
        → length (cond a (x ∷ now) now) + length (cond b (x ∷ behind) behind) ≤ length (cond e (x ∷ all) all)
    by true is true above e at rest = absurd (omega (arith, eqb-true (gap_of x) gap is, leb-true (gap + 1) (gap_of x) above))
    by true is false above true at rest = omega (arith, rest)
    by true is false above false at rest = let yes = le-leb gap (gap_of x) (omega (arith, eqb-true (gap_of x) gap is)) in cc
    by false is true above true at rest = omega (arith, rest)
    by false is true above false at rest =
        let yes = le-leb gap (gap_of x) (omega (arith, leb-true (gap + 1) (gap_of x) above)) in cc
    by false is false above true at rest = omega (arith, rest)
    by false is false above false at rest = rest

filter_most : {X : Type 0} (passes : X → Bool) (xs : List X) → length (filter passes xs) ≤ length xs
filter_most passes xs = rw (length-filter passes xs) (count_by-le-length passes xs)

-- ---- the bound

-- From a gap on, each hidden event is implied, or is listed for this gap or a later one.
from_gap : (table : Table) (c : Certificate) (items more : List Item) (gap : ℕ) (before events : List Event) (v w : World)
    → Runs table before v → played table events v ≡ Some w → FollowsFrom c items gap more (without_losses events)
    → total hides events ≤ count_components more + later (λ x. x.gap) gap c.expire + later (λ x. x.gap) gap c.close
from_gap table c items [] gap before events v w runs is follows = omega (
  arith,
  losses_apart events,
  here_most c items gap (without_losses events) follows,
  now_and_later (λ (x : Closing). x.gap) gap c.close,
  now_and_later (λ (x : Expiry). x.gap) gap c.expire,
)
from_gap table c items (item ∷ more) gap before events v w runs is
    (here, implied, rest, sends, here_is, all, sends_is, events_is, on) =
    let first = run_in_parts table events (here ++ implied) (sends ∷ rest) v w events_is is in
    let second = run_in_parts table first.first here implied v first.mid first.first_is first.ran in
    let third = run_in_parts table first.rest (sends ∷ []) rest first.mid w first.rest_is first.on in
    let to_here = onward table before second.first v second.mid runs second.ran in
    let to_sends = onward table before first.first v first.mid runs first.ran in
    let to_rest = onward table (before ++ first.first) third.first first.mid third.mid to_sends third.ran in
    let listed : total hides second.first ≤ length (filter (λ x. x.gap == gap) c.close)
    + length (filter (λ x. x.gap == gap) c.expire) =
    omega (arith, losses_apart second.first, ap (total hides) second.first_is, here_most c items gap here here_is) in
    let implies : total hides second.rest ≤ components_of item =
    implied_most table item second.rest second.mid first.mid (ends_sound table (before ++ second.first) second.mid to_here)
    second.on (rw (second.rest_is) all) in
    let last : total hides third.first ≡ 0 =
    losses_apart third.first ∙ ap (total hides) third.first_is ∙ omega (arith, sends_none c gap item sends sends_is) in
    let behind = from_gap table c items more (gap + 1) ((before ++ first.first) ++ third.first) third.rest third.mid w
    to_rest third.on (rw (third.rest_is) on) in
    omega (
      arith,
      count_more item more,
      listed,
      implies,
      last,
      behind,
      first.count,
      second.count,
      third.count,
      now_and_later (λ (x : Closing). x.gap) gap c.close,
      now_and_later (λ (x : Expiry). x.gap) gap c.expire,
    )

-- In a whole run, each hidden event is implied or listed.
hidden_most : (table : Table) (c : Certificate) (items : List Item) (events : List Event) (w : World) → Runs table events w
    → Follows c items events → total hides events ≤ count_components items + length c.expire + length c.close
hidden_most table c items events w runs follows = omega (
  arith,
  from_gap table c items items 0 [] events empty w refl runs follows.gaps,
  filter_most (λ x. nat_le 0 x.gap) c.expire,
  filter_most (λ x. nat_le 0 x.gap) c.close,
)

-- The length of a run that a certificate describes is bounded.
pub described_bound : (table : Table) (c : Certificate) (items : List Item) (events : List Event) → IsRunOf items table events
    → Follows c items events → length events ≤ 2 * length items + count_components items + length c.expire + length c.close
described_bound table c items events (w, runs, sent) follows = omega (
  arith,
  steps_most events,
  taken_most table events w runs,
  joins_most table events w runs,
  hidden_most table c items events w runs follows,
  ap length sent,
)
