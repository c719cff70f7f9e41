-- Two counts: the messages that wait for judged ends, and the fates that come at or after given gaps and entries.
use Rattle.std.proofs.Common.{◌≡◌, ◌⊎◌, inl, inr, ℕ, suc, ◌+◌, ◌<◌, ◌≤◌, ◌==◌, arith, Bool, true, false, cond, nat_le, List, [], ◌∷◌, ◌++◌, map, filter, drop, length, Option, Some, None, Result, Ok, refl, sym, ap, ap₂, ◌∙◌}
use Rattle.std.specs.Prelude.{◌&&◌, slice_get}
use Rattle.std.proofs.lemmas.Bool.{cases_lt, eqb-true, eqb-false, le-leb, lt-leb, ne_eqb}
use Rattle.tcap_msg.specs.declared.message.Message.{Message}
use Rattle.tcap_record.specs.declared.entry.End.{End as Side}
use Rattle.tcap_record.specs.declared.entry.End.TheVariants as sides
use Rattle.tcap_model.specs.declared.reason.Reason.{Reason}
use Rattle.tcap_certificate.specs.declared.certificate.Fate.{Fate}
use Rattle.tcap_certificate.specs.declared.certificate.Fate.TheVariants.{Gap, Lost, By}
use Rattle.tcap_record.specs.Ends.{other}
use Rattle.tcap_model.specs.World.{Item, MessageInTransit, Sent, World, channel_from, with_channel}
use Rattle.tcap_model.specs.Run.{joined}
use Rattle.tcap_certificate.specs.Certificate.{Certificate}
use Rattle.tcap_certificate.specs.DescribedRun.{FatesFit, taken_by}
use Rattle.tcap_certificate.specs.Replay.{Replay, if_lost, is_sent_by, lost_from_front, lost_front}
use Rattle.tcap_check.specs.CheckerMeaning.{count_ahead}
use Rattle.tcap_check.specs.ReplaySteps.{is_received_from}
use Rattle.tcap_check.proofs.refusal_laws.PendingLaws.{IsAhead}
use Rattle.tcap_check.proofs.replay_laws.ReplaySteps.{behind_lost, waiting, waiting_by}

-- ---- the count of messages that wait

-- 1 if a message with this fate waits, else 0
abbrev pub new_by : Option Fate → ℕ
new_by (Some Lost) = 0
new_by _ = 1

-- The head of a channel after its losses is a message that waits.
head_waits : (fates : List Fate) (channel : List MessageInTransit) (head : MessageInTransit) (more : List MessageInTransit)
    → drop (length (lost_front fates channel)) channel ≡ head ∷ more
    → length (waiting fates channel) ≡ suc (length (waiting fates more))
head_waits fates [] head more is = cc
head_waits fates (first ∷ channel) head more is =
    by (slice_get fates first.number) (head_waits fates channel head more) is
  where
    here : first ∷ channel ≡ head ∷ more → suc (length (waiting fates channel)) ≡ suc (length (waiting fates more))
    here e = let same : channel ≡ more = cc in ap (λ (x : List MessageInTransit). suc (length (waiting fates x))) same

    by : (o : Option Fate)
        → (drop (length (lost_front fates channel)) channel ≡ head ∷ more
        → length (waiting fates channel) ≡ suc (length (waiting fates more)))
        → drop (length (if_lost o (first.number ∷ lost_front fates channel))) (first ∷ channel) ≡ head ∷ more
        → length (waiting_by o first (waiting fates channel)) ≡ suc (length (waiting fates more))
    by None on e = here e
    by (Some (Gap g)) on e = here e
    by (Some (By k)) on e = here e
    by (Some Lost) on e = on e

-- A message that joins a channel waits, unless it will be lost.
one_waits : (fates : List Fate) (channel : List MessageInTransit) (m : MessageInTransit)
    → length (waiting fates (channel ++ m ∷ [])) ≡ length (waiting fates channel) + new_by (slice_get fates m.number)
one_waits fates [] m = by (slice_get fates m.number)
  where
    by : (o : Option Fate) → length (waiting_by o m []) ≡ 0 + new_by o
    by None = refl
    by (Some (Gap g)) = refl
    by (Some (By k)) = refl
    by (Some Lost) = refl
one_waits fates (first ∷ channel) m = by (slice_get fates first.number) (one_waits fates channel m)
  where
    by : (o : Option Fate)
        → length (waiting fates (channel ++ m ∷ []))
        ≡ length (waiting fates channel) + new_by (slice_get fates m.number)
        → length (waiting_by o first (waiting fates (channel ++ m ∷ [])))
        ≡ length (waiting_by o first (waiting fates channel)) + new_by (slice_get fates m.number)
    by None rest = omega (arith, rest)
    by (Some (Gap g)) rest = omega (arith, rest)
    by (Some (By k)) rest = omega (arith, rest)
    by (Some Lost) rest = rest

-- The count of messages that wait for a judged end.
abbrev pub count_for : Option Side → List Fate → World → ℕ
count_for None fates w = length (waiting fates w.from_a) + length (waiting fates w.from_b)
count_for (Some judged) fates w = length (waiting fates (channel_from (other judged) w))

-- The count is the same if the same messages wait on each channel.
pub counts_same : (judged : Option Side) (fates : List Fate) (w next : World)
    → ((side : Side) → waiting fates (channel_from side next) ≡ waiting fates (channel_from side w))
    → count_for judged fates next ≡ count_for judged fates w
counts_same None fates w next same =
    ap₂ (λ (x y : List MessageInTransit). length x + length y) (same sides.A) (same sides.B)
counts_same (Some judged) fates w next same = ap length (same (other judged))

-- Losses do not change the count.
pub losses_wait : (judged : Option Side) (c : Certificate) (side : Side) (r : Replay)
    → count_for judged c.fates (lost_from_front c side r).world ≡ count_for judged c.fates r.world
losses_wait judged c side r = counts_same judged c.fates r.world (lost_from_front c side r).world (by side)
  where
    by : (side at : Side) → waiting c.fates (channel_from at (lost_from_front c side r).world) ≡ waiting c.fates (channel_from at r.world)
    by sides.A sides.A = behind_lost c.fates r.world.from_a
    by sides.A sides.B = refl
    by sides.B sides.A = refl
    by sides.B sides.B = behind_lost c.fates r.world.from_b

-- A message that joins is counted, unless it will be lost or is for an end that is not judged.
pub joined_waits : (judged : Option Side) (fates : List Fate) (side : Side) (message : Message) (w : World)
    → count_for judged fates (joined side message w)
    ≡ count_for judged fates w + cond (is_received_from judged side) (new_by (slice_get fates (length w.sent))) 0
joined_waits None fates sides.A message w =
    omega (arith, one_waits fates w.from_a (record { number = length w.sent; message = message }))
joined_waits None fates sides.B message w =
    omega (arith, one_waits fates w.from_b (record { number = length w.sent; message = message }))
joined_waits (Some sides.A) fates sides.A message w = omega arith
joined_waits (Some sides.A) fates sides.B message w = one_waits fates w.from_b (record { number = length w.sent; message = message })
joined_waits (Some sides.B) fates sides.A message w = one_waits fates w.from_a (record { number = length w.sent; message = message })
joined_waits (Some sides.B) fates sides.B message w = omega arith

-- A message that is taken after the losses was counted.
pub taken_waits : (judged : Option Side) (c : Certificate) (side : Side) (r : Replay) (head : MessageInTransit) (more : List MessageInTransit)
    → is_received_from judged side ≡ true → channel_from side (lost_from_front c side r).world ≡ head ∷ more
    → count_for judged c.fates (with_channel side more (lost_from_front c side r).world) + 1
    ≡ count_for judged c.fates r.world
taken_waits None c sides.A r head more so is = omega (arith, head_waits c.fates r.world.from_a head more is)
taken_waits None c sides.B r head more so is = omega (arith, head_waits c.fates r.world.from_b head more is)
taken_waits (Some sides.A) c sides.A r head more so is = cc
taken_waits (Some sides.A) c sides.B r head more so is = omega (arith, head_waits c.fates r.world.from_b head more is)
taken_waits (Some sides.B) c sides.A r head more so is = omega (arith, head_waits c.fates r.world.from_a head more is)
taken_waits (Some sides.B) c sides.B r head more so is = cc

-- ---- the count of fates still to come

-- A fate is a gap with number `gaps` or later, or a reply with number `replies` or later.
abbrev pub is_behind : ℕ → ℕ → Fate → Bool
is_behind gaps replies (Gap gap) = nat_le gaps gap
is_behind gaps replies (By reply) = nat_le replies reply
is_behind gaps replies Lost = false

-- The count of messages to judged ends with such a fate (`is_behind`). The first of these fates is that of the first
-- item.
abbrev pub count_behind : Option Side → ℕ → ℕ → List Fate → List Item → ℕ
count_behind judged gaps replies (fate ∷ fates) (Sent side message ∷ items) =
    cond (is_received_from judged side && is_behind gaps replies fate) (count_behind judged gaps replies fates items + 1)
    (count_behind judged gaps replies fates items)
count_behind judged gaps replies (fate ∷ fates) (Item.Quiet ∷ items) = count_behind judged gaps replies fates items
count_behind judged gaps replies _ _ = 0

no_items : (judged : Option Side) (gaps replies : ℕ) (fates : List Fate) → count_behind judged gaps replies fates [] ≡ 0
no_items judged gaps replies [] = refl
no_items judged gaps replies (fate ∷ fates) = refl

abbrev pub ok_item : Item → Result Item Reason
ok_item item = Ok item

-- This is the count of fates still to come after that many entries.
pub ahead_is : (judged : Option Side) (count : ℕ) (fates : List Fate) (items : List Item)
    → count_behind judged count count fates items ≡ count_ahead judged count fates (map ok_item items)
ahead_is judged count [] items = refl
ahead_is judged count (fate ∷ fates) [] = refl
ahead_is judged count (fate ∷ fates) (Item.Quiet ∷ items) = ahead_is judged count fates items
ahead_is judged count (Gap g ∷ fates) (Sent side message ∷ items) =
    ap (λ (n : ℕ). cond (is_received_from judged side && nat_le count g) (n + 1) n) (ahead_is judged count fates items)
ahead_is judged count (By k ∷ fates) (Sent side message ∷ items) =
    ap (λ (n : ℕ). cond (is_received_from judged side && nat_le count k) (n + 1) n) (ahead_is judged count fates items)
ahead_is judged count (Lost ∷ fates) (Sent side message ∷ items) =
    ap (λ (n : ℕ). cond (is_received_from judged side && false) (n + 1) n) (ahead_is judged count fates items)

-- A number other than the next is after it, or before both.
pub not_next : (count n : ℕ) → (n ≡ count → ⊥) → nat_le count n ≡ nat_le (count + 1) n
not_next count n apart = by (cases_lt n count)
  where
    by : (n < count) ⊎ (count ≤ n) → nat_le count n ≡ nat_le (count + 1) n
    by (inl below) = lt-leb count n below ∙ sym (lt-leb (count + 1) n (omega (arith, below)))
    by (inr above) = which (cases_lt count n)
      where
        which : (count < n) ⊎ (n ≤ count) → nat_le count n ≡ nat_le (count + 1) n
        which (inl over) = le-leb count n above ∙ sym (le-leb (count + 1) n (omega (arith, over)))
        which (inr under) = absurd (apart (omega (arith, above, under)))

pub is_next : (count n : ℕ) → (n == count) ≡ true → (nat_le count n ≡ true) × (nat_le (count + 1) n ≡ false)
is_next count n same =
    let e = eqb-true n count same in (le-leb count n (omega (arith, e)), lt-leb (count + 1) n (omega (arith, e)))

-- No fate of a quiet mark is a reply.
abbrev pub AreMarks : List Fate → List Item → Type 0
AreMarks (fate ∷ fates) (Sent side message ∷ items) = AreMarks fates items
AreMarks (fate ∷ fates) (Item.Quiet ∷ items) = ((k : ℕ) → fate ≡ By k → ⊥) × AreMarks fates items
AreMarks _ _ = Unit {0}

-- No message is taken before it is sent.
none_taken : (count reply n : ℕ) (fates : List Fate) → FatesFit count n fates → reply ≤ n → taken_by reply n fates ≡ []
none_taken count reply n [] fit h = refl
none_taken count reply n (Gap g ∷ fates) fit h = none_taken count reply (n + 1) fates fit.2 (omega (arith, h))
none_taken count reply n (Lost ∷ fates) fit h = none_taken count reply (n + 1) fates fit (omega (arith, h))
none_taken count reply n (By k ∷ fates) fit h =
    let later : (k == reply) ≡ false = ne_eqb k reply (λ e. omega (arith, h, fit.0, e)) in
    rw later (none_taken count reply (n + 1) fates fit.2 (omega (arith, h)))

-- the numbers, among these, of messages to a judged end
abbrev pub heard_among : Option Side → List Item → List ℕ → List ℕ
heard_among None items numbers = numbers
heard_among (Some judged) items numbers = filter (λ n. is_sent_by (other judged) (slice_get items n)) numbers

none_among : (judged : Option Side) (items : List Item) → length (heard_among judged items []) ≡ 0
none_among None items = refl
none_among (Some judged) items = refl

one_among : (judged : Option Side) (items : List Item) (n : ℕ) (sender : Side) (message : Message) (more : List ℕ)
    → slice_get items n ≡ Some (Sent sender message)
    → heard_among judged items (n ∷ more)
    ≡ cond (is_received_from judged sender) (n ∷ heard_among judged items more) (heard_among judged items more)
one_among None items n sender message more at = refl
one_among (Some judged) items n sender message more at = rw at refl

-- These items are the items from this number on.
abbrev pub ItemsFrom : List Item → ℕ → List Item → Type 0
ItemsFrom all n items = (i : ℕ) → slice_get all (n + i) ≡ slice_get items i

items_next : (all : List Item) (n : ℕ) (first : Item) (items : List Item) → ItemsFrom all n (first ∷ items) → ItemsFrom all (n + 1) items
items_next all n first items from i = let same : n + suc i ≡ (n + 1) + i = omega arith in ap (slice_get all) (sym same) ∙ from (suc i)

items_first : (all : List Item) (n : ℕ) (first : Item) (items : List Item) → ItemsFrom all n (first ∷ items) → slice_get all n ≡ Some first
items_first all n first items from = let same : n ≡ n + 0 = omega arith in ap (slice_get all) same ∙ from 0

pub still_behind : (b : Bool) (old new took : ℕ) → old ≡ new + took → cond b (old + 1) old ≡ cond b (new + 1) new + took
still_behind true old new took rest = omega (arith, rest)
still_behind false old new took rest = rest

-- After an entry, the messages that it takes are no longer counted.
pub replies_behind : (judged : Option Side) (all : List Item) (count gaps reply n : ℕ) (fates : List Fate) (items : List Item)
    → FatesFit count n fates → AreMarks fates items → ItemsFrom all n items → reply ≤ n + length items
    → count_behind judged gaps reply fates items
    ≡ count_behind judged gaps (reply + 1) fates items + length (heard_among judged all (taken_by reply n fates))
replies_behind judged all count gaps reply n [] items fit marks from h = omega (arith, none_among judged all)
replies_behind judged all count gaps reply n (fate ∷ fates) [] fit marks from h =
    let none = ap (λ (x : List ℕ). length (heard_among judged all x)) (none_taken count reply n (fate ∷ fates) fit (omega (arith, h))) in
    omega (arith, none, none_among judged all)
replies_behind judged all count gaps reply n (Gap g ∷ fates) (Sent sender message ∷ items) fit marks from h =
    still_behind (is_received_from judged sender && nat_le gaps g) _ _ _
    (replies_behind judged all count gaps reply (n + 1) fates items fit.2 marks (items_next all n _ items from) (omega (arith, h)))
replies_behind judged all count gaps reply n (Lost ∷ fates) (Sent sender message ∷ items) fit marks from h =
    still_behind (is_received_from judged sender && false) _ _ _
    (replies_behind judged all count gaps reply (n + 1) fates items fit marks (items_next all n _ items from) (omega (arith, h)))
replies_behind judged all count gaps reply n (By k ∷ fates) (Sent sender message ∷ items) fit marks from h =
    by (k == reply) refl (is_received_from judged sender) refl
    (replies_behind judged all count gaps reply (n + 1) fates items fit.2 marks (items_next all n _ items from) (omega (arith, h)))
  where
    old : ℕ
    old = count_behind judged gaps reply fates items

    new : ℕ
    new = count_behind judged gaps (reply + 1) fates items

    more : List ℕ
    more = taken_by reply (n + 1) fates

    took : ℕ
    took = length (heard_among judged all more)

    joins : length (heard_among judged all (n ∷ more))
        ≡ length (cond (is_received_from judged sender) (n ∷ heard_among judged all more) (heard_among judged all more))
    joins = ap length (one_among judged all n sender message more (items_first all n _ items from))

    by : (b : Bool) → (k == reply) ≡ b → (so : Bool) → is_received_from judged sender ≡ so → old ≡ new + took
        → cond (is_received_from judged sender && nat_le reply k) (old + 1) old
        ≡ cond (is_received_from judged sender && nat_le (reply + 1) k) (new + 1) new + length (heard_among judged all (cond b (n ∷ more) more))
    by true e true is rest = let at = is_next reply k e in rw (joins, is, at.0, at.1) (omega (arith, rest))
    by true e false is rest = rw (joins, is) rest
    by false e true is rest = rw (is, not_next reply k (eqb-false k reply e)) (still_behind (nat_le (reply + 1) k) old new took rest)
    by false e false is rest = rw is rest
replies_behind judged all count gaps reply n (Gap g ∷ fates) (Item.Quiet ∷ items) fit marks from h =
    replies_behind judged all count gaps reply (n + 1) fates items fit.2 marks.1 (items_next all n _ items from) (omega (arith, h))
replies_behind judged all count gaps reply n (Lost ∷ fates) (Item.Quiet ∷ items) fit marks from h =
    replies_behind judged all count gaps reply (n + 1) fates items fit marks.1 (items_next all n _ items from) (omega (arith, h))
replies_behind judged all count gaps reply n (By k ∷ fates) (Item.Quiet ∷ items) fit marks from h = absurd (marks.0 k refl)

-- One more message is counted if it is for a judged end and has such a fate.
pub one_behind : (judged : Option Side) (gaps replies : ℕ) (fates : List Fate) (items : List Item) (side : Side) (message : Message)
    (fate : Fate) → slice_get fates (length items) ≡ Some fate
    → count_behind judged gaps replies fates (items ++ Sent side message ∷ [])
    ≡ count_behind judged gaps replies fates items + cond (is_received_from judged side && is_behind gaps replies fate) 1 0
one_behind judged gaps replies [] items side message fate has = cc
one_behind judged gaps replies (first ∷ fates) [] side message fate has =
    let same : first ≡ fate = cc in
    rw (same, no_items judged gaps replies fates) (by (is_received_from judged side && is_behind gaps replies fate))
  where
    by : (b : Bool) → (let m : ℕ = cond b (0 + 1) 0 in m) ≡ 0 + cond b 1 0
    by true = refl
    by false = refl
one_behind judged gaps replies (first ∷ fates) (Item.Quiet ∷ items) side message fate has =
    one_behind judged gaps replies fates items side message fate has
one_behind judged gaps replies (first ∷ fates) (Sent sender m ∷ items) side message fate has =
    still_behind (is_received_from judged sender && is_behind gaps replies first) _ _ _
    (one_behind judged gaps replies fates items side message fate has)

-- The fate of a new message is counted, unless it is a loss.
pub new_behind : (heard : Bool) (number : ℕ) (fate : Fate) → IsAhead number fate
    → (let n : ℕ = cond (heard && is_behind (number + 1) (number + 1) fate) 1 0 in n) ≡ cond heard (new_by (Some fate)) 0
new_behind false number fate is = refl
new_behind true number (Gap g) is = rw (le-leb (number + 1) g (omega (arith, is))) refl
new_behind true number (By k) is = rw (le-leb (number + 1) k (omega (arith, is))) refl
new_behind true number Lost is = refl

-- A quiet mark is not counted.
pub mark_behind : (judged : Option Side) (gaps replies : ℕ) (fates : List Fate) (items : List Item)
    → count_behind judged gaps replies fates (items ++ Item.Quiet ∷ []) ≡ count_behind judged gaps replies fates items
mark_behind judged gaps replies [] items = refl
mark_behind judged gaps replies (first ∷ []) [] = refl
mark_behind judged gaps replies (first ∷ second ∷ fates) [] = refl
mark_behind judged gaps replies (first ∷ fates) (Item.Quiet ∷ items) = mark_behind judged gaps replies fates items
mark_behind judged gaps replies (first ∷ fates) (Sent side message ∷ items) =
    ap (λ (n : ℕ). cond (is_received_from judged side && is_behind gaps replies first) (n + 1) n) (mark_behind judged gaps replies fates items)

-- `AreMarks` holds after one more message.
pub marks_sent : (fates : List Fate) (items : List Item) (side : Side) (message : Message) → AreMarks fates items
    → AreMarks fates (items ++ Sent side message ∷ [])
marks_sent [] items side message marks = tt
marks_sent (first ∷ []) [] side message marks = tt
marks_sent (first ∷ second ∷ fates) [] side message marks = tt
marks_sent (first ∷ fates) (Item.Quiet ∷ items) side message marks =
    (marks.0, marks_sent fates items side message marks.1)
marks_sent (first ∷ fates) (Sent sender m ∷ items) side message marks = marks_sent fates items side message marks

pub marks_quiet : (fates : List Fate) (items : List Item) (fate : Fate) → AreMarks fates items
    → slice_get fates (length items) ≡ Some fate → ((k : ℕ) → fate ≡ By k → ⊥)
    → AreMarks fates (items ++ Item.Quiet ∷ [])
marks_quiet [] items fate marks has none = tt
marks_quiet (first ∷ fates) [] fate marks has none =
    let same : first ≡ fate = cc in (λ k e. none k (sym same ∙ e), by fates)
  where
    by : (fates : List Fate) → AreMarks fates []
    by [] = tt
    by (f ∷ fs) = tt
marks_quiet (first ∷ fates) (Item.Quiet ∷ items) fate marks has none =
    (marks.0, marks_quiet fates items fate marks.1 has none)
marks_quiet (first ∷ fates) (Sent sender m ∷ items) fate marks has none = marks_quiet fates items fate marks has none
