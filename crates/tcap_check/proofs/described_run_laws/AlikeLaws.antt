-- A run and its replay side by side: their worlds are alike except for lost messages, and stay alike.
use Rattle.std.proofs.Common.{◌≡◌, ℕ, ℤ, List, [], ◌∷◌, ◌++◌, length, drop, Option, Some, None, Ok, refl, sym, ap, ap₂, subst, ◌∙◌}
use Rattle.std.specs.Prelude.{slice_get}
use Rattle.std.specs.List.{AllByRecursion}
use Rattle.std.proofs.lemmas.Bool.{eq-eqb}
use Rattle.tcap_msg.specs.declared.message.Message.{Message}
use Rattle.tcap_record.specs.declared.entry.End.{End as Side}
use Rattle.tcap_record.specs.declared.entry.End.TheVariants as sides
use Rattle.tcap_end.specs.declared.half.HalfName.{HalfName}
use Rattle.tcap_end.specs.Table.{Table}
use Rattle.tcap_end.specs.End.{End}
use Rattle.tcap_end.specs.HiddenSteps.{close, expire}
use Rattle.tcap_end.specs.Message.{receive}
use Rattle.tcap_certificate.specs.declared.certificate.Fate.{Fate}
use Rattle.tcap_certificate.specs.declared.certificate.Fate.TheVariants.{Gap, Lost, By}
use Rattle.tcap_certificate.specs.Certificate.{Certificate}
use Rattle.tcap_record.specs.Ends.{other}
use Rattle.tcap_model.specs.World.{Item, MessageInTransit, World, channel_from, empty, end_at, with_channel, with_end}
use Rattle.tcap_model.specs.Run.{Event, Sends, Receives, Replies, Loses, Expires, Closes, Quiet, Tells, Runs, after, joined, played, reply_to}
use Rattle.tcap_certificate.specs.DescribedRun.{without_losses}
use Rattle.tcap_certificate.specs.Replay.{Replay, if_lost, lost_before, lost_from_both, lost_from_front, lost_front, stepped, with_step}
use Rattle.tcap_model.proofs.RunLaws.{played_on}
use Rattle.tcap_check.proofs.replay_laws.ReplaySteps.{channel_with, behind_lost, waiting, waiting_by}
use Rattle.tcap_model.proofs.WorldLaws.{with_same}
use Rattle.tcap_model.proofs.RunLaws.{closing, delivery, expiry, loss, quiet, reply, then_some}

-- ---- messages that are not lost

-- The messages of two joined channels that are not lost.
waiting_both : (fates : List Fate) (xs ys : List MessageInTransit) → waiting fates (xs ++ ys) ≡ waiting fates xs ++ waiting fates ys
waiting_both fates [] ys = refl
waiting_both fates (m ∷ xs) ys = by (slice_get fates m.number) (waiting_both fates xs ys)
  where
    by : (o : Option Fate) → waiting fates (xs ++ ys) ≡ waiting fates xs ++ waiting fates ys
        → waiting_by o m (waiting fates (xs ++ ys)) ≡ waiting_by o m (waiting fates xs) ++ waiting fates ys
    by None is = ap (λ (x : List MessageInTransit). m ∷ x) is
    by (Some (Gap g)) is = ap (λ (x : List MessageInTransit). m ∷ x) is
    by (Some (By k)) is = ap (λ (x : List MessageInTransit). m ∷ x) is
    by (Some Lost) is = is

-- After the losses at the front, the first message that is not lost is the head.
front_is : (fates : List Fate) (channel : List MessageInTransit) (head : MessageInTransit) (tail : List MessageInTransit) → waiting fates channel ≡ head ∷ tail
    → (more : List MessageInTransit) × (drop (length (lost_front fates channel)) channel ≡ head ∷ more) × (waiting fates more ≡ tail)
front_is fates [] head tail is = cc
front_is fates (first ∷ more) head tail is = by (slice_get fates first.number) (front_is fates more head tail) is
  where
    by : (o : Option Fate)
        → (waiting fates more ≡ head ∷ tail
        → (x : List MessageInTransit) × (drop (length (lost_front fates more)) more ≡ head ∷ x) × (waiting fates x ≡ tail))
        → waiting_by o first (waiting fates more) ≡ head ∷ tail
        → (x : List MessageInTransit) × (drop (length (if_lost o (first.number ∷ lost_front fates more))) (first ∷ more) ≡ head ∷ x)
        × (waiting fates x ≡ tail)
    by None on e = let same : first ≡ head = cc in (more, ap (λ (x : MessageInTransit). x ∷ more) same, cc)
    by (Some (Gap g)) on e = let same : first ≡ head = cc in (more, ap (λ (x : MessageInTransit). x ∷ more) same, cc)
    by (Some (By k)) on e = let same : first ≡ head = cc in (more, ap (λ (x : MessageInTransit). x ∷ more) same, cc)
    by (Some Lost) on e = on e

-- If all messages are lost, none is left.
front_none : (fates : List Fate) (channel : List MessageInTransit) → waiting fates channel ≡ []
    → drop (length (lost_front fates channel)) channel ≡ []
front_none fates [] is = refl
front_none fates (first ∷ more) is = by (slice_get fates first.number) (front_none fates more) is
  where
    by : (o : Option Fate) → (waiting fates more ≡ [] → drop (length (lost_front fates more)) more ≡ [])
        → waiting_by o first (waiting fates more) ≡ []
        → drop (length (if_lost o (first.number ∷ lost_front fates more))) (first ∷ more) ≡ []
    by None on e = cc
    by (Some (Gap g)) on e = cc
    by (Some (By k)) on e = cc
    by (Some Lost) on e = on e

-- ---- worlds

-- Both ends and the sent list are equal, and so are the messages on both channels that are not lost.
pub record Alike (fates : List Fate) (w v : World) : Type 0 where
  pub a : v.a ≡ w.a
  pub b : v.b ≡ w.b
  pub sent : v.sent ≡ w.sent
  pub from_a : waiting fates v.from_a ≡ waiting fates w.from_a
  pub from_b : waiting fates v.from_b ≡ waiting fates w.from_b

pub alike_same : (fates : List Fate) (w : World) → Alike fates w w
alike_same fates w = record { a = refl; b = refl; sent = refl; from_a = refl; from_b = refl }

pub ends_same : (fates : List Fate) (side : Side) (w v : World) → Alike fates w v → end_at side v ≡ end_at side w
ends_same fates sides.A w v is = is.a
ends_same fates sides.B w v is = is.b

-- The channels of worlds that are alike are equal except for losses.
channels_same : (fates : List Fate) (side : Side) (w v : World) → Alike fates w v
    → waiting fates (channel_from side v) ≡ waiting fates (channel_from side w)
channels_same fates sides.A w v is = is.from_a
channels_same fates sides.B w v is = is.from_b

pub alike_end : (fates : List Fate) (side : Side) (e : End) (w v : World) → Alike fates w v
    → Alike fates (with_end side e w) (with_end side e v)
alike_end fates sides.A e w v is = record { a = refl; b = is.b; sent = is.sent; from_a = is.from_a; from_b = is.from_b }
alike_end fates sides.B e w v is = record { a = is.a; b = refl; sent = is.sent; from_a = is.from_a; from_b = is.from_b }

alike_channel : (fates : List Fate) (side : Side) (xs ys : List MessageInTransit) (w v : World) → Alike fates w v
    → waiting fates ys ≡ waiting fates xs → Alike fates (with_channel side xs w) (with_channel side ys v)
alike_channel fates sides.A xs ys w v is same = record { a = is.a; b = is.b; sent = is.sent; from_a = same; from_b = is.from_b }
alike_channel fates sides.B xs ys w v is same = record { a = is.a; b = is.b; sent = is.sent; from_a = is.from_a; from_b = same }

pub alike_joined : (fates : List Fate) (side : Side) (m : Message) (w v : World) → Alike fates w v
    → Alike fates (joined side m w) (joined side m v)
alike_joined fates side m w v is = by side
  where
    on_its_way : World → MessageInTransit
    on_its_way x = record { number = length x.sent; message = m }

    one : (x y : List MessageInTransit) → waiting fates y ≡ waiting fates x
        → waiting fates (y ++ on_its_way v ∷ []) ≡ waiting fates (x ++ on_its_way w ∷ [])
    one x y same =
        waiting_both fates y (on_its_way v ∷ [])
        ∙ ap₂ (λ (p q : List MessageInTransit). p ++ q) same
        (ap (λ (items : List Item). waiting fates (record { number = length items; message = m } ∷ [])) is.sent)
        ∙ sym (waiting_both fates x (on_its_way w ∷ []))

    by : (side : Side) → Alike fates (joined side m w) (joined side m v)
    by sides.A = record {
      a = is.a;
      b = is.b;
      sent = ap (λ (x : List Item). x ++ Item.Sent sides.A m ∷ []) is.sent;
      from_a = one w.from_a v.from_a is.from_a;
      from_b = is.from_b;
    }
    by sides.B = record {
      a = is.a;
      b = is.b;
      sent = ap (λ (x : List Item). x ++ Item.Sent sides.B m ∷ []) is.sent;
      from_a = is.from_a;
      from_b = one w.from_b v.from_b is.from_b;
    }

pub to_same : (fates : List Fate) (w same v : World) → same ≡ w → Alike fates w v → Alike fates same v
to_same fates w same v is alike = subst (λ (x : World). Alike fates x v) (sym is) alike

-- Worlds stay alike after the losses at the front.
alike_front : (c : Certificate) (side : Side) (w : World) (r : Replay) → Alike c.fates w r.world
    → Alike c.fates w (lost_from_front c side r).world
alike_front c side w r is =
    let channel = channel_from side r.world in
    let left = drop (length (lost_front c.fates channel)) channel in
    let same : waiting c.fates left ≡ waiting c.fates (channel_from side w) =
    behind_lost c.fates channel ∙ channels_same c.fates side w r.world is in
    subst (λ (x : World). Alike c.fates x (with_channel side left r.world)) (with_same side w)
    (alike_channel c.fates side (channel_from side w) left w r.world is same)

-- The head of the replay's channel, after the losses at the front, is this message.
record IsFront (c : Certificate) (side : Side) (head : MessageInTransit) (more : List MessageInTransit) (r : Replay) : Type 0 where
  left : List MessageInTransit
  channel : channel_from side (lost_from_front c side r).world ≡ head ∷ left
  same : waiting c.fates left ≡ waiting c.fates more

-- A message of the run that is not lost is the head of the replay's channel, after the losses there.
same_front : (c : Certificate) (side : Side) (w : World) (r : Replay) (head : MessageInTransit) (more : List MessageInTransit)
    → Alike c.fates w r.world → channel_from side w ≡ head ∷ more
    → waiting c.fates (head ∷ more) ≡ head ∷ waiting c.fates more → IsFront c side head more r
same_front c side w r head more is channel first =
    let same = channels_same c.fates side w r.world is ∙ ap (waiting c.fates) channel ∙ first in
    let front = front_is c.fates (channel_from side r.world) head (waiting c.fates more) same in
    record { left = front.0; channel = channel_with side _ r.world ∙ front.1; same = front.2 }

-- ---- steps of the run and of the replay

-- A step happens in the replay too, after the losses before it, and the worlds stay alike.
pub record Goes (table : Table) (c : Certificate) (event : Event) (r : Replay) (behind : World) : Type 0 where
  pub next : Replay
  pub is : stepped table event (lost_before c event r) ≡ Some next
  pub alike : Alike c.fates behind next.world

pub expires_goes : (table : Table) (c : Certificate) (side : Side) (name : HalfName) (id : ℤ) (w next : World) (r : Replay)
    → Alike c.fates w r.world → after table (Expires side name id) w ≡ Some next → Goes table c (Expires side name id) r next
expires_goes table c side name id w next r alike step =
    let h = expiry table side name id w next step in
    let same : expire table (end_at side r.world) name id ≡ Ok h.made =
    ap (λ (e : End). expire table e name id) (ends_same c.fates side w r.world alike) ∙ h.step_is in
    record {
      next = with_step (Expires side name id) r (with_end side h.made r.world);
      is = rw same refl;
      alike = to_same c.fates _ next _ h.next_is (alike_end c.fates side h.made w r.world alike);
    }

pub closes_goes : (table : Table) (c : Certificate) (side : Side) (name : HalfName) (w next : World) (r : Replay)
    → Alike c.fates w r.world → after table (Closes side name) w ≡ Some next → Goes table c (Closes side name) r next
closes_goes table c side name w next r alike step =
    let h = closing table side name w next step in
    let same : close table (end_at side r.world) name ≡ Ok h.made =
    ap (λ (e : End). close table e name) (ends_same c.fates side w r.world alike) ∙ h.step_is in
    record {
      next = with_step (Closes side name) r (with_end side h.made r.world);
      is = rw same refl;
      alike = to_same c.fates _ next _ h.next_is (alike_end c.fates side h.made w r.world alike);
    }

pub receives_goes : (table : Table) (c : Certificate) (side : Side) (number gap : ℕ) (w next : World) (r : Replay)
    → slice_get c.fates number ≡ Some (Gap gap) → Alike c.fates w r.world → after table (Receives side number) w ≡ Some next
    → Goes table c (Receives side number) r next
receives_goes table c side number gap w next r fate alike step =
    let d = delivery table side number w next step in
    let v = (lost_from_front c (other side) r).world in
    let on = alike_front c (other side) w r alike in
    let has : slice_get c.fates d.head.number ≡ Some (Gap gap) = ap (λ (n : ℕ). slice_get c.fates n) d.number_is ∙ fate in
    let front = same_front c (other side) w r d.head d.more alike d.channel (rw has refl) in
    let same : receive table (end_at side v) d.head.message ≡ Ok d.made =
    ap (λ (e : End). receive table e d.head.message) (ends_same c.fates side w v on) ∙ d.step in
    record {
      next = with_step (Receives side number) (lost_from_front c (other side) r) (with_end side d.made (with_channel (other side) front.left v));
      is = taken front.left v front.channel d.number_is same;
      alike =
          to_same c.fates _ next _ d.next_is
          (alike_end c.fates side d.made (with_channel (other side) d.more w) (with_channel (other side) front.left v)
          (alike_channel c.fates (other side) d.more front.left w v on front.same));
    }
  where
    taken : {head : MessageInTransit} {made : End} (left : List MessageInTransit) (v : World) → channel_from (other side) v ≡ head ∷ left
        → head.number ≡ number → receive table (end_at side v) head.message ≡ Ok made
        → stepped table (Receives side number) (record { events = (lost_from_front c (other side) r).events; discards = r.discards; world = v })
        ≡ Some (with_step (Receives side number) (lost_from_front c (other side) r) (with_end side made (with_channel (other side) left v)))
    taken {head = head} {made = made} left v channel is same = rw (channel, eq-eqb head.number number is, same) refl

pub replies_goes : (table : Table) (c : Certificate) (side : Side) (number k : ℕ) (w next : World) (r : Replay)
    → slice_get c.fates number ≡ Some (By k) → Alike c.fates w r.world → after table (Replies side number) w ≡ Some next
    → Goes table c (Replies side number) r next
replies_goes table c side number k w next r fate alike step =
    let d = reply table side number w next step in
    let v = (lost_from_front c (other side) r).world in
    let on = alike_front c (other side) w r alike in
    let has : slice_get c.fates d.head.number ≡ Some (By k) = ap (λ (n : ℕ). slice_get c.fates n) d.number_is ∙ fate in
    let front = same_front c (other side) w r d.head d.more alike d.channel (rw has refl) in
    let same : reply_to (end_at side v) d.head.message ≡ Some d.abort =
    ap (λ (e : End). reply_to e d.head.message) (ends_same c.fates side w v on) ∙ d.step in
    record {
      next = with_step (Replies side number) (lost_from_front c (other side) r) (joined side d.abort (with_channel (other side) front.left v));
      is = taken front.left v front.channel d.number_is same;
      alike =
          to_same c.fates _ next _ d.next_is
          (alike_joined c.fates side d.abort (with_channel (other side) d.more w) (with_channel (other side) front.left v)
          (alike_channel c.fates (other side) d.more front.left w v on front.same));
    }
  where
    taken : {head : MessageInTransit} {abort : Message} (left : List MessageInTransit) (v : World) → channel_from (other side) v ≡ head ∷ left
        → head.number ≡ number → reply_to (end_at side v) head.message ≡ Some abort
        → stepped table (Replies side number) (record { events = (lost_from_front c (other side) r).events; discards = r.discards; world = v })
        ≡ Some (with_step (Replies side number) (lost_from_front c (other side) r) (joined side abort (with_channel (other side) left v)))
    taken {head = head} {abort = abort} left v channel is same = rw (channel, eq-eqb head.number number is, same) refl

-- If nothing is on its way in the run, all that is on its way in the replay is lost, and the worlds are equal.
quiet_same : (c : Certificate) (w : World) (r : Replay) → Alike c.fates w r.world → w.from_a ≡ [] → w.from_b ≡ []
    → (lost_from_both c r).world ≡ w
quiet_same c w r is no_a no_b =
    let none_a = front_none c.fates r.world.from_a (is.from_a ∙ ap (waiting c.fates) no_a) in
    let none_b = front_none c.fates r.world.from_b (is.from_b ∙ ap (waiting c.fates) no_b) in
    all_same _ _ is.a is.b (none_a ∙ sym no_a) (none_b ∙ sym no_b) is.sent
  where
    make : End → End → List MessageInTransit → List MessageInTransit → List Item → World
    make a b from_a from_b sent = record { a = a; b = b; from_a = from_a; from_b = from_b; sent = sent }

    all_same : (x y : World) → x.a ≡ y.a → x.b ≡ y.b → x.from_a ≡ y.from_a → x.from_b ≡ y.from_b → x.sent ≡ y.sent → x ≡ y
    all_same x y a b from_a from_b sent =
        ap₂ (λ (e f : End). make e f x.from_a x.from_b x.sent) a b
        ∙ ap₂ (λ (p q : List MessageInTransit). make y.a y.b p q x.sent) from_a from_b
        ∙ ap (λ (items : List Item). make y.a y.b y.from_a y.from_b items) sent

pub quiet_goes : (table : Table) (c : Certificate) (w next : World) (r : Replay)
    → Alike c.fates w r.world → after table Quiet w ≡ Some next → Goes table c Quiet r next
quiet_goes table c w next r alike step =
    let q = quiet table w next step in
    let both = lost_from_both c r in
    let same : after table Quiet both.world ≡ Some next = ap (after table Quiet) (quiet_same c w r alike q.from_a q.from_b) ∙ step in
    record { next = with_step Quiet both next; is = rw same refl; alike = alike_same c.fates next }

-- After a loss in the run the worlds stay alike, if the message's fate is a loss.
loss_alike : (table : Table) (fates : List Fate) (side : Side) (number : ℕ) (w next v : World) → slice_get fates number ≡ Some Lost
    → after table (Loses side number) w ≡ Some next → Alike fates w v → Alike fates next v
loss_alike table fates side number w next v fate step is =
    let l = loss table side number w next step in
    let has : slice_get fates l.head.number ≡ Some Lost = ap (λ (n : ℕ). slice_get fates n) l.number_is ∙ fate in
    let gone : waiting fates (l.head ∷ l.more) ≡ waiting fates l.more = rw has refl in
    let same : waiting fates (channel_from side v) ≡ waiting fates l.more =
    channels_same fates side w v is ∙ ap (waiting fates) l.channel ∙ gone in
    to_same fates _ next v l.next_is
    (subst (λ (x : World). Alike fates (with_channel side l.more w) x) (with_same side v)
    (alike_channel fates side l.more (channel_from side v) w v is same))

-- ---- the rest of the run

-- a lost message has a loss as its fate
abbrev pub LossFits : List Fate → Event → Type 0
LossFits fates (Loses side number) = slice_get fates number ≡ Some Lost
LossFits fates _ = Unit {0}

-- From a world like this one, the run goes on to its end by these steps and losses.
pub record Ahead (table : Table) (fates : List Fate) (final : World) (plain : List Event) (v : World) : Type 0 where
  pub before : List Event
  pub events : List Event
  pub w : World
  pub ran : Runs table before w
  pub plays : played table events w ≡ Some final
  pub are : without_losses events ≡ plain
  pub fit : AllByRecursion (LossFits fates) events
  pub alike : Alike fates w v

-- From a world like this one, the run makes this step next, apart from losses.
pub record IsNext (table : Table) (fates : List Fate) (final : World) (event : Event) (plain : List Event) (v : World) : Type 0 where
  pub before : List Event
  pub events : List Event
  pub w : World
  pub next : World
  pub alike : Alike fates w v
  pub step : after table event w ≡ Some next
  pub ran : Runs table before next
  pub plays : played table events next ≡ Some final
  pub are : without_losses events ≡ plain
  pub fit : AllByRecursion (LossFits fates) events

run_more : (table : Table) (before : List Event) (event : Event) (w next : World) → Runs table before w
    → after table event w ≡ Some next → Runs table (before ++ event ∷ []) next
run_more table before event w next ran step = played_on table before (event ∷ []) empty w ran ∙ rw step refl

-- the first step of the rest is no loss
at_once : (table : Table) (fates : List Fate) (final : World) (first event : Event) (plain : List Event) (v : World) (before events : List Event) (w : World)
    → Runs table before w → played table (first ∷ events) w ≡ Some final → first ∷ without_losses events ≡ event ∷ plain
    → AllByRecursion (LossFits fates) events → Alike fates w v → IsNext table fates final event plain v
at_once table fates final first event plain v before events w ran plays are fit alike =
    let found = then_some (after table first w) (played table events) final plays in
    let same : first ≡ event = cc in
    record {
      before = before ++ first ∷ [];
      events = events;
      w = w;
      next = found.0;
      alike = alike;
      step = ap (λ (e : Event). after table e w) (sym same) ∙ found.1;
      ran = run_more table before first w found.0 ran found.1;
      plays = found.2;
      are = cc;
      fit = fit;
    }

next_of : (table : Table) (fates : List Fate) (final : World) (event : Event) (plain : List Event) (v : World) (events before : List Event) (w : World)
    → Runs table before w → played table events w ≡ Some final → without_losses events ≡ event ∷ plain
    → AllByRecursion (LossFits fates) events → Alike fates w v → IsNext table fates final event plain v
next_of table fates final event plain v [] before w ran plays are fit alike = cc
next_of table fates final event plain v (Loses side number ∷ events) before w ran plays are fit alike =
    let found = then_some (after table (Loses side number) w) (played table events) final plays in
    next_of table fates final event plain v events (before ++ Loses side number ∷ []) found.0
    (run_more table before (Loses side number) w found.0 ran found.1) found.2 are fit.1
    (loss_alike table fates side number w found.0 v fit.0 found.1 alike)
next_of table fates final event plain v (Sends side m ∷ events) before w ran plays are fit alike =
    at_once table fates final (Sends side m) event plain v before events w ran plays are fit.1 alike
next_of table fates final event plain v (Receives side number ∷ events) before w ran plays are fit alike =
    at_once table fates final (Receives side number) event plain v before events w ran plays are fit.1 alike
next_of table fates final event plain v (Replies side number ∷ events) before w ran plays are fit alike =
    at_once table fates final (Replies side number) event plain v before events w ran plays are fit.1 alike
next_of table fates final event plain v (Expires side name id ∷ events) before w ran plays are fit alike =
    at_once table fates final (Expires side name id) event plain v before events w ran plays are fit.1 alike
next_of table fates final event plain v (Closes side name ∷ events) before w ran plays are fit alike =
    at_once table fates final (Closes side name) event plain v before events w ran plays are fit.1 alike
next_of table fates final event plain v (Quiet ∷ events) before w ran plays are fit alike =
    at_once table fates final Quiet event plain v before events w ran plays are fit.1 alike
next_of table fates final event plain v (Tells side m ∷ events) before w ran plays are fit alike =
    at_once table fates final (Tells side m) event plain v before events w ran plays are fit.1 alike

-- The run makes the first step of the rest, after some losses.
pub next_step : (table : Table) (fates : List Fate) (final : World) (event : Event) (plain : List Event) (v : World)
    → Ahead table fates final (event ∷ plain) v → IsNext table fates final event plain v
next_step table fates final event plain v on =
    next_of table fates final event plain v on.events on.before on.w on.ran on.plays on.are on.fit on.alike

-- After that step the run goes on.
pub go_on : (table : Table) (fates : List Fate) (final : World) (event : Event) (plain : List Event) (v next : World)
    → (on : IsNext table fates final event plain v) → Alike fates on.next next → Ahead table fates final plain next
go_on table fates final event plain v next on alike = record {
  before = on.before;
  events = on.events;
  w = on.next;
  ran = on.ran;
  plays = on.plays;
  are = on.are;
  fit = on.fit;
  alike = alike;
}
