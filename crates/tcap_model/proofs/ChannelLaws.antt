-- Channels keep order, lose nothing unrecorded, and carry only messages that were sent.
use Rattle.std.proofs.Common.{arith, ◌≡◌, ◌⊎◌, inl, inr, ℕ, zero, suc, ◌+◌, ◌<◌, Bool, true, false, cond, List, [], ◌∷◌, ◌++◌, length, Some, refl, sym, ap, ◌∙◌, append_assoc}
use Rattle.std.specs.Prelude.{drop, slice_get}
use Rattle.std.proofs.Math.Seq.{drop-append_seam}
use Rattle.std.specs.Cmp.{nat_cmp_is}
use Rattle.std.specs.List.{AllByRecursion}
use Rattle.std.specs.List.Sorted.{IsStrictlySortedBy}
use Rattle.std.specs.Ordering.{nat_cmp}
use Rattle.std.specs.declared.cmp.Ordering.TheVariants.{Less}
use Rattle.std.proofs.lemmas.List.{append-nil, map-append}
use Rattle.tcap_msg.specs.declared.message.Message.{Message}
use Rattle.tcap_record.specs.declared.entry.End.{End as Side}
use Rattle.tcap_record.specs.declared.entry.End.TheVariants.{A, B}
use Rattle.tcap_end.specs.Table.{Table}
use Rattle.tcap_model.specs.World.{Item, MessageInTransit, Sent, World, channel_from, empty, is_side}
use Rattle.tcap_model.specs.Run.{Event, Sends, Receives, Replies, Loses, Expires, Closes, Quiet, Tells, Runs, after, numbers_of, numbers_sent, numbers_taken, takes_from}
use Rattle.tcap_model.specs.SinceMark.{WasSent}
use Rattle.tcap_model.proofs.ListLaws.{all_both, all_weaker}
use Rattle.tcap_model.proofs.RunLaws.{IsQuiet, closing, delivery, expiry, loss, quiet, reply, runs_keep, sending, telling}
use Rattle.tcap_model.proofs.WorldLaws.{itself}
use Rattle.tcap_model.proofs.SinceLaws.{drop_more, no_quiet}

-- ---- the sent list

-- the sent list stays, or gets one message
abbrev IsSentOn : World → World → Type 0
IsSentOn w next = (next.sent ≡ w.sent) ⊎ ((sender : Side) × (m : Message) × (next.sent ≡ w.sent ++ Sent sender m ∷ []))

-- the sent list stays, or gets a message of the other end
abbrev IsNotSent : Side → World → World → Type 0
IsNotSent side w next =
    (next.sent ≡ w.sent) ⊎ ((sender : Side) × (m : Message) × (next.sent ≡ w.sent ++ Sent sender m ∷ []) × (is_side side sender ≡ false))

sent_on : (side : Side) (w next : World) → IsNotSent side w next → IsSentOn w next
sent_on side w next (inl same) = inl same
sent_on side w next (inr (sender, m, more, apart)) = inr (sender, m, more)

further : (n : ℕ) (items : List Item) → (n + 1) + length items ≡ n + length (Item.Quiet ∷ items)
further n items = omega arith

-- `numbers_sent` after one more message
numbers_more : (side sender : Side) (m : Message) (n : ℕ) (items : List Item)
    → numbers_sent side n (items ++ Sent sender m ∷ [])
    ≡ numbers_sent side n items ++ cond (is_side side sender) ((n + length items) ∷ []) []
numbers_more side sender m n [] = by (is_side side sender)
  where
    at_front : n + 0 ≡ n
    at_front = omega arith

    by : (same : Bool) → cond same (n ∷ []) [] ≡ [] ++ cond same ((n + 0) ∷ []) []
    by true = rw at_front refl
    by false = refl
numbers_more side sender m n (Item.Quiet ∷ items) =
    numbers_more side sender m (n + 1) items
    ∙ ap (λ k. numbers_sent side (n + 1) items ++ cond (is_side side sender) (k ∷ []) []) (further n items)
numbers_more side sender m n (Sent other_one message ∷ items) = by (is_side side other_one)
    (numbers_more side sender m (n + 1) items
    ∙ ap (λ k. numbers_sent side (n + 1) items ++ cond (is_side side sender) (k ∷ []) []) (further n items))
  where
    by : (same : Bool) → numbers_sent side (n + 1) (items ++ Sent sender m ∷ [])
        ≡ numbers_sent side (n + 1) items ++ cond (is_side side sender) ((n + length (Item.Quiet ∷ items)) ∷ []) []
        → cond same (n ∷ numbers_sent side (n + 1) (items ++ Sent sender m ∷ [])) (numbers_sent side (n + 1) (items ++ Sent sender m ∷ []))
        ≡ cond same (n ∷ numbers_sent side (n + 1) items) (numbers_sent side (n + 1) items)
        ++ cond (is_side side sender) ((n + length (Item.Quiet ∷ items)) ∷ []) []
    by true is = ap (λ more. n ∷ more) is
    by false is = is

-- `numbers_sent` after a quiet mark
numbers_quiet : (side : Side) (n : ℕ) (items : List Item) → numbers_sent side n (items ++ Item.Quiet ∷ []) ≡ numbers_sent side n items
numbers_quiet side n [] = refl
numbers_quiet side n (Item.Quiet ∷ items) = numbers_quiet side (n + 1) items
numbers_quiet side n (Sent sender message ∷ items) =
    ap (λ more. cond (is_side side sender) (n ∷ more) more) (numbers_quiet side (n + 1) items)

-- `numbers_sent` does not change if this end sends nothing.
numbers_same : (side : Side) (w next : World) → IsNotSent side w next → numbers_sent side 0 next.sent ≡ numbers_sent side 0 w.sent
numbers_same side w next (inl same) = rw same refl
numbers_same side w next (inr (sender, m, more, apart)) =
    rw (more, numbers_more side sender m 0 w.sent, apart) (append-nil (numbers_sent side 0 w.sent))

-- An item keeps its place if an item is appended.
get_more : (items : List Item) (item found : Item) (n : ℕ) → slice_get items n ≡ Some found
    → slice_get (items ++ item ∷ []) n ≡ Some found
get_more [] item found n is = cc
get_more (first ∷ items) item found zero is = is
get_more (first ∷ items) item found (suc n) is = get_more items item found n is

-- An appended item is at the end.
pub get_new : (items : List Item) (item : Item) → slice_get (items ++ item ∷ []) (length items) ≡ Some item
get_new [] item = refl
get_new (first ∷ items) item = get_new items item

-- Messages in transit remain sent since the last mark, if no mark is added.
still_sent : (side : Side) (w next : World) (messages : List MessageInTransit) → IsSentOn w next → AllByRecursion (WasSent w side) messages
    → AllByRecursion (WasSent next side) messages
still_sent side w next messages on = all_weaker (WasSent w side) (WasSent next side) messages (by on)
  where
    by : IsSentOn w next → (m : MessageInTransit) → WasSent w side m → WasSent next side m
    by (inl same) m was = record { listed = rw same was.listed; since = rw same was.since }
    by (inr (sender, n, more)) m was = record {
      listed = rw more (get_more w.sent (Sent sender n) (Sent side m.message) m.number was.listed);
      since =
          rw (more, drop_more (Sent sender n) (Sent side m.message) w.sent m.number was.listed)
          (no_quiet sender n (drop m.number w.sent) was.since);
    }

-- the newest message in transit
abbrev newest : World → Message → MessageInTransit
newest w m = record { number = length w.sent; message = m }

-- The newest message is in the sent list.
newest_was_sent : (side : Side) (w next : World) (m : Message) → next.sent ≡ w.sent ++ Sent side m ∷ [] → WasSent next side (newest w m)
newest_was_sent side w next m more = record {
  listed = rw more (get_new w.sent (Sent side m));
  since = rw (more, drop-append_seam w.sent (Sent side m ∷ [])) refl;
}

-- ---- what a step does to a channel

-- What a step does to a channel: it takes messages from the front, or appends the newest message. The rest stay sent
-- since the last mark.
record Passes (event : Event) (side : Side) (w next : World) : Type 0 where
  gone : List MessageInTransit
  left : List MessageInTransit
  new : List MessageInTransit
  was : channel_from side w ≡ gone ++ left
  now : channel_from side next ≡ left ++ new
  taken_is : takes_from side event ≡ numbers_of gone
  new_is : ((new ≡ []) × (numbers_sent side 0 next.sent ≡ numbers_sent side 0 w.sent))
      ⊎ ((m : Message) × (new ≡ newest w m ∷ []) × (next.sent ≡ w.sent ++ Sent side m ∷ []))
  kept : AllByRecursion (WasSent w side) (gone ++ left) → AllByRecursion (WasSent next side) left

module _ {event : Event} {side : Side} {w next : World} where
  -- The channel stays.
  stays : takes_from side event ≡ [] → channel_from side next ≡ channel_from side w → IsNotSent side w next → Passes event side w next
  stays none same on = record {
    gone = [];
    left = channel_from side w;
    new = [];
    was = refl;
    now = same ∙ sym (append-nil (channel_from side w));
    taken_is = none;
    new_is = inl (refl, numbers_same side w next on);
    kept = still_sent side w next (channel_from side w) (sent_on side w next on);
  }

  -- The channel loses its head.
  loses_head : (head : MessageInTransit) (more : List MessageInTransit) → takes_from side event ≡ head.number ∷ [] → channel_from side w ≡ head ∷ more
      → channel_from side next ≡ more → IsNotSent side w next → Passes event side w next
  loses_head head more took was now on = record {
    gone = head ∷ [];
    left = more;
    new = [];
    was = was;
    now = now ∙ sym (append-nil more);
    taken_is = took;
    new_is = inl (refl, numbers_same side w next on);
    kept = λ all. still_sent side w next more (sent_on side w next on) all.1;
  }

  -- The channel gets a message.
  gets : (m : Message) → takes_from side event ≡ [] → channel_from side next ≡ channel_from side w ++ newest w m ∷ []
      → next.sent ≡ w.sent ++ Sent side m ∷ [] → Passes event side w next
  gets m none now sent = record {
    gone = [];
    left = channel_from side w;
    new = newest w m ∷ [];
    was = refl;
    now = now;
    taken_is = none;
    new_is = inr (m, refl, sent);
    kept = still_sent side w next (channel_from side w) (inr (side, m, sent));
  }

-- ---- each kind of step

-- the number taken is the head's
head_number : (head : MessageInTransit) (number : ℕ) → head.number ≡ number → number ∷ [] ≡ head.number ∷ []
head_number head number is = rw is refl

-- A quiet mark leaves the empty channels empty.
quiet_passes : (side : Side) (w next : World) → IsQuiet w next → Passes Quiet side w next
quiet_passes side w next is = record {
  gone = [];
  left = [];
  new = [];
  was = (empty_at side).0;
  now = (empty_at side).1;
  taken_is = refl;
  new_is = inl (refl, rw is.next_is (numbers_quiet side 0 w.sent));
  kept = λ all. tt;
}
  where
    empty_at : (side : Side) → (channel_from side w ≡ []) × (channel_from side next ≡ [])
    empty_at A = (is.from_a, rw is.next_is refl)
    empty_at B = (is.from_b, rw is.next_is refl)

-- What each step does to each channel.
passes : (table : Table) (event : Event) (w next : World) → after table event w ≡ Some next → (side : Side) → Passes event side w next
passes table (Sends A m) w next is A = rw (sending table A m w next is).next_is (gets m refl refl refl)
passes table (Sends B m) w next is A = rw (sending table B m w next is).next_is (stays refl refl (inr (B, m, refl, refl)))
passes table (Sends A m) w next is B = rw (sending table A m w next is).next_is (stays refl refl (inr (A, m, refl, refl)))
passes table (Sends B m) w next is B = rw (sending table B m w next is).next_is (gets m refl refl refl)
passes table (Receives A number) w next is A = rw (delivery table A number w next is).next_is (stays refl refl (inl refl))
passes table (Receives B number) w next is A =
    let d = delivery table B number w next is in
    rw d.next_is (loses_head d.head d.more (head_number d.head number d.number_is) d.channel refl (inl refl))
passes table (Receives A number) w next is B =
    let d = delivery table A number w next is in
    rw d.next_is (loses_head d.head d.more (head_number d.head number d.number_is) d.channel refl (inl refl))
passes table (Receives B number) w next is B = rw (delivery table B number w next is).next_is (stays refl refl (inl refl))
passes table (Replies A number) w next is A = let r = reply table A number w next is in rw r.next_is (gets r.abort refl refl refl)
passes table (Replies B number) w next is A =
    let r = reply table B number w next is in
    rw r.next_is (loses_head r.head r.more (head_number r.head number r.number_is) r.channel refl (inr (B, r.abort, refl, refl)))
passes table (Replies A number) w next is B =
    let r = reply table A number w next is in
    rw r.next_is (loses_head r.head r.more (head_number r.head number r.number_is) r.channel refl (inr (A, r.abort, refl, refl)))
passes table (Replies B number) w next is B = let r = reply table B number w next is in rw r.next_is (gets r.abort refl refl refl)
passes table (Loses A number) w next is A =
    let l = loss table A number w next is in
    rw l.next_is (loses_head l.head l.more (head_number l.head number l.number_is) l.channel refl (inl refl))
passes table (Loses B number) w next is A = rw (loss table B number w next is).next_is (stays refl refl (inl refl))
passes table (Loses A number) w next is B = rw (loss table A number w next is).next_is (stays refl refl (inl refl))
passes table (Loses B number) w next is B =
    let l = loss table B number w next is in
    rw l.next_is (loses_head l.head l.more (head_number l.head number l.number_is) l.channel refl (inl refl))
passes table (Expires A name id) w next is A = rw (expiry table A name id w next is).next_is (stays refl refl (inl refl))
passes table (Expires B name id) w next is A = rw (expiry table B name id w next is).next_is (stays refl refl (inl refl))
passes table (Expires A name id) w next is B = rw (expiry table A name id w next is).next_is (stays refl refl (inl refl))
passes table (Expires B name id) w next is B = rw (expiry table B name id w next is).next_is (stays refl refl (inl refl))
passes table (Closes A name) w next is A = rw (closing table A name w next is).next_is (stays refl refl (inl refl))
passes table (Closes B name) w next is A = rw (closing table B name w next is).next_is (stays refl refl (inl refl))
passes table (Closes A name) w next is B = rw (closing table A name w next is).next_is (stays refl refl (inl refl))
passes table (Closes B name) w next is B = rw (closing table B name w next is).next_is (stays refl refl (inl refl))
passes table (Tells A m) w next is A = rw (telling table A m w next is).next_is (gets m refl refl refl)
passes table (Tells B m) w next is A = rw (telling table B m w next is).next_is (stays refl refl (inr (B, m, refl, refl)))
passes table (Tells A m) w next is B = rw (telling table A m w next is).next_is (stays refl refl (inr (A, m, refl, refl)))
passes table (Tells B m) w next is B = rw (telling table B m w next is).next_is (gets m refl refl refl)
passes table Quiet w next is side = quiet_passes side w next (quiet table w next is)

-- ---- messages taken from a channel, and those on it

-- the numbers of the messages taken from a channel, then of those on it
abbrev passed : Side → List Event → World → List ℕ
passed side events w = numbers_taken side events ++ numbers_of (channel_from side w)

-- The last step takes the last number.
taken_more : (side : Side) (before : List Event) (event : Event)
    → numbers_taken side (before ++ event ∷ []) ≡ numbers_taken side before ++ takes_from side event
taken_more side [] event = append-nil (takes_from side event)
taken_more side (first ∷ before) event =
    ap (λ others. takes_from side first ++ others) (taken_more side before event)
    ∙ sym (append_assoc (takes_from side first) (numbers_taken side before) (takes_from side event))

-- `passed` after one more step
passed_more : (side : Side) (before : List Event) (event : Event) (next : World)
    → passed side (before ++ event ∷ []) next ≡ numbers_taken side before ++ (takes_from side event ++ numbers_of (channel_from side next))
passed_more side before event next =
    ap (λ front. front ++ numbers_of (channel_from side next)) (taken_more side before event)
    ∙ append_assoc (numbers_taken side before) (takes_from side event) (numbers_of (channel_from side next))

-- append is associative, over numbers
numbers_regroup : (gone left new : List MessageInTransit)
    → numbers_of gone ++ numbers_of (left ++ new) ≡ numbers_of (gone ++ left) ++ numbers_of new
numbers_regroup [] left new = map-append (λ m. m.number) left new
numbers_regroup (first ∷ gone) left new = ap (λ more. first.number ∷ more) (numbers_regroup gone left new)

module _ {event : Event} {side : Side} {w next : World} (it : Passes event side w next) where
  -- The number taken and the channel after a step are the channel before it and what is new.
  now_there : takes_from side event ++ numbers_of (channel_from side next) ≡ numbers_of (channel_from side w) ++ numbers_of it.new
  now_there = rw (it.taken_is, it.now, it.was) (numbers_regroup it.gone it.left it.new)

  -- What is new on a channel is the newest in `numbers_sent`.
  now_sent : numbers_sent side 0 next.sent ≡ numbers_sent side 0 w.sent ++ numbers_of it.new
  now_sent = by it.new_is
    where
      by : ((it.new ≡ []) × (numbers_sent side 0 next.sent ≡ numbers_sent side 0 w.sent))
          ⊎ ((m : Message) × (it.new ≡ newest w m ∷ []) × (next.sent ≡ w.sent ++ Sent side m ∷ []))
          → numbers_sent side 0 next.sent ≡ numbers_sent side 0 w.sent ++ numbers_of it.new
      by (inl (none, same)) = same ∙ rw none (sym (append-nil (numbers_sent side 0 w.sent)))
      by (inr (m, one, more)) =
          rw (more, one, numbers_more side side m 0 w.sent, itself side)
          (ap (λ k. numbers_sent side 0 w.sent ++ k ∷ []) (let none : 0 + length w.sent ≡ length w.sent = omega arith in none))

-- `passed` is `numbers_sent`, for both channels
abbrev AreWhole : List Event → World → Type 0
AreWhole events w = (side : Side) → passed side events w ≡ numbers_sent side 0 w.sent

-- A step keeps this.
whole_kept : (before : List Event) (event : Event) (w next : World) → ((side : Side) → Passes event side w next) → AreWhole before w
    → AreWhole (before ++ event ∷ []) next
whole_kept before event w next step whole side =
    passed_more side before event next
    ∙ ap (λ more. numbers_taken side before ++ more) (now_there (step side))
    ∙ sym (append_assoc (numbers_taken side before) (numbers_of (channel_from side w)) (numbers_of (step side).new))
    ∙ ap (λ front. front ++ numbers_of (step side).new) (whole side)
    ∙ sym (now_sent (step side))

nothing_whole : AreWhole [] empty
nothing_whole A = refl
nothing_whole B = refl

-- It holds after each run.
pub are_whole : (table : Table) (events : List Event) (w : World) → Runs table events w → (side : Side)
    → passed side events w ≡ numbers_sent side 0 w.sent
are_whole table = runs_keep table AreWhole nothing_whole
    (λ before event w next ran step. whole_kept before event w next (passes table event w next step))

-- ---- the order of a channel

-- Numbers given later are above an earlier one.
all_above : (side : Side) (k n : ℕ) (items : List Item) → k < n → AllByRecursion (λ x. nat_cmp k x ≡ Less) (numbers_sent side n items)
all_above side k n [] below = tt
all_above side k n (Item.Quiet ∷ items) below = all_above side k (n + 1) items (omega arith)
all_above side k n (Sent sender m ∷ items) below = by (is_side side sender) (all_above side k (n + 1) items (omega arith))
  where
    by : (same : Bool) → AllByRecursion (λ x. nat_cmp k x ≡ Less) (numbers_sent side (n + 1) items)
        → AllByRecursion (λ x. nat_cmp k x ≡ Less) (cond same (n ∷ numbers_sent side (n + 1) items) (numbers_sent side (n + 1) items))
    by true above = (sym (nat_cmp_is k n Less below), above)
    by false above = above

sent_in_order : (side : Side) (n : ℕ) (items : List Item) → IsStrictlySortedBy nat_cmp (numbers_sent side n items)
unfolding IsStrictlySortedBy
sent_in_order side n [] = tt
sent_in_order side n (Item.Quiet ∷ items) = sent_in_order side (n + 1) items
sent_in_order side n (Sent sender m ∷ items) =
    by (is_side side sender) (all_above side n (n + 1) items (omega arith)) (sent_in_order side (n + 1) items)
  where
    by : (same : Bool) → AllByRecursion (λ x. nat_cmp n x ≡ Less) (numbers_sent side (n + 1) items)
        → IsStrictlySortedBy nat_cmp (numbers_sent side (n + 1) items)
        → IsStrictlySortedBy nat_cmp (cond same (n ∷ numbers_sent side (n + 1) items) (numbers_sent side (n + 1) items))
    by true above rises = (above, rises)
    by false above rises = rises

-- The numbers rise after each run.
pub in_order : (table : Table) (events : List Event) (w : World) → Runs table events w → (side : Side)
    → IsStrictlySortedBy nat_cmp (passed side events w)
in_order table events w is side = rw (are_whole table events w is side) (sent_in_order side 0 w.sent)

-- ---- messages on a channel were sent

-- each message on each channel was sent since the last mark
abbrev AllSent : World → Type 0
AllSent w = (side : Side) → AllByRecursion (WasSent w side) (channel_from side w)

-- A step keeps this.
sent_kept : (event : Event) (w next : World) → ((side : Side) → Passes event side w next) → AllSent w → AllSent next
sent_kept event w next step all side =
    rw it.now (all_both (WasSent next side) it.left it.new (it.kept (rw it.was at (all side))) (by it.new_is))
  where
    it : Passes event side w next
    it = step side

    by : ((it.new ≡ []) × (numbers_sent side 0 next.sent ≡ numbers_sent side 0 w.sent))
        ⊎ ((m : Message) × (it.new ≡ newest w m ∷ []) × (next.sent ≡ w.sent ++ Sent side m ∷ []))
        → AllByRecursion (WasSent next side) it.new
    by (inl none) = rw (none.0) tt
    by (inr (m, one, more)) = rw one (newest_was_sent side w next m more, tt)

-- It holds in the empty world.
none_sent : AllSent empty
none_sent A = tt
none_sent B = tt

-- It holds after each run.
pub were_sent : (table : Table) (events : List Event) (w : World) → Runs table events w → (side : Side)
    → AllByRecursion (WasSent w side) (channel_from side w)
were_sent table = runs_keep table (λ events w. AllSent w) none_sent
    (λ before event w next ran step. sent_kept event w next (passes table event w next step))
