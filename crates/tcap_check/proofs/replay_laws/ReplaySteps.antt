-- The steps of a replay in order, with the losses before them; elements of lists, and the fates from a number on.
use Rattle.std.proofs.Common.{◌≡◌, ◌⊎◌, inl, inr, List, [], ◌∷◌, ◌++◌, arith, sym, subst, ℕ, suc, ◌+◌, ◌==◌, Bool, true, false, cond, Some, refl, ap, ◌∙◌, drop, length, Option, None, map, append_assoc, append-nil}
use Rattle.std.specs.Prelude.{Contains, slice_get}
use Rattle.std.specs.List.{AllByRecursion}
use Rattle.std.proofs.lemmas.List.Elements.{Contains-append_right}
use Rattle.std.proofs.lemmas.Bool.{eqb-true, eq-eqb}
use Rattle.tcap_record.specs.declared.entry.End.{End as Side}
use Rattle.tcap_record.specs.Ends.{other}
use Rattle.tcap_model.specs.Run.{Event, Receives, Sends, Replies, Loses, Expires, Closes, Quiet, Tells, after, played}
use Rattle.tcap_model.specs.World.{Item, Sent, MessageInTransit, end_at, World, channel_from, with_channel}
use Rattle.tcap_certificate.specs.declared.certificate.Fate.{Fate}
use Rattle.tcap_certificate.specs.declared.certificate.Fate.TheVariants.{Gap, Lost, By}
use Rattle.tcap_certificate.specs.DescribedRun.{deliveries, taken_by, is_loss, without_losses, sending_by}
use Rattle.tcap_record.specs.declared.entry.End.TheVariants as sides
use Rattle.tcap_certificate.specs.Certificate.{Certificate}
use Rattle.tcap_certificate.specs.Replay.{Replay, if_lost, lost_front, lost_from_front, discarded, lost_before, lost_from_both, stepped}
use Rattle.tcap_end.specs.Table.{Table}
use Rattle.tcap_model.proofs.RunLaws.{map_some, played_on}
use Rattle.tcap_model.proofs.WorldLaws.{sent_with_channel, with_same}
use Rattle.tcap_msg.specs.declared.message.AbortReason.TheVariants.{Cause, Dialogue as ByDialogue}
use Rattle.tcap_msg.specs.declared.message.Message.{Message}
use Rattle.tcap_msg.specs.declared.message.Message.TheVariants.{Unidirectional, Begin, Continue, End as EndMessage, Abort}

-- x is in the list.
abbrev pub IsIn : {A : Type 0} → A → List A → Type 0
IsIn x [] = ⊥
IsIn x (y ∷ ys) = (x ≡ y) ⊎ IsIn x ys

pub contained : {A : Type 0} (x : A) (ys : List A) → IsIn x ys → Contains ys x
contained x [] is = absurd is
contained x (y ∷ ys) (inl same) = (0, omega arith, sym same)
contained x (y ∷ ys) (inr more) = Contains-append_right (y ∷ []) ys x (contained x ys more)

pub in_left : {A : Type 0} (x : A) (ys zs : List A) → IsIn x ys → IsIn x (ys ++ zs)
in_left x [] zs is = absurd is
in_left x (y ∷ ys) zs (inl same) = inl same
in_left x (y ∷ ys) zs (inr more) = inr (in_left x ys zs more)

pub in_right : {A : Type 0} (x : A) (ys zs : List A) → IsIn x zs → IsIn x (ys ++ zs)
in_right x [] zs is = is
in_right x (y ∷ ys) zs is = inr (in_right x ys zs is)

pub in_either : {A : Type 0} (x : A) (ys zs : List A) → IsIn x (ys ++ zs) → IsIn x ys ⊎ IsIn x zs
in_either x [] zs is = inr is
in_either x (y ∷ ys) zs (inl same) = inl (inl same)
in_either x (y ∷ ys) zs (inr more) = by (in_either x ys zs more)
  where
    by : IsIn x ys ⊎ IsIn x zs → IsIn x (y ∷ ys) ⊎ IsIn x zs
    by (inl found) = inl (inr found)
    by (inr found) = inr found

pub all_in : {A : Type 0} (P : A → Type 0) (x : A) (ys : List A) → AllByRecursion P ys → IsIn x ys → P x
all_in P x [] all is = absurd is
all_in P x (y ∷ ys) all (inl same) = subst P (sym same) all.0
all_in P x (y ∷ ys) all (inr more) = all_in P x ys all.1 more

-- ---- the fates from a number on

-- these are the fates of the certificate from number n on
abbrev pub AreFrom : List Fate → ℕ → List Fate → Type 0
AreFrom all n fates = (i : ℕ) → slice_get fates i ≡ slice_get all (n + i)

pub from_next : (all fates : List Fate) (n : ℕ) (fate : Fate) → AreFrom all n (fate ∷ fates) → AreFrom all (n + 1) fates
from_next all fates n fate are i =
    let same : n + suc i ≡ (n + 1) + i = omega arith in are (suc i) ∙ ap (slice_get all) same

pub first_from : (all fates : List Fate) (n : ℕ) (fate : Fate) → AreFrom all n (fate ∷ fates) → slice_get all n ≡ Some fate
first_from all fates n fate are =
    let same : n ≡ n + 0 = omega arith in ap (slice_get all) same ∙ sym (are 0)

pub from_start : (all : List Fate) → AreFrom all 0 all
from_start all i = let same : i ≡ 0 + i = omega arith in ap (slice_get all) same

-- What holds for each message with this gap holds for each delivery in it.
pub all_delivered : (P : Event → Type 0) (all : List Fate) (gap n : ℕ) (fates : List Fate) (items : List Item) → AreFrom all n fates
    → ((side : Side) (number : ℕ) → slice_get all number ≡ Some (Gap gap) → P (Receives (other side) number))
    → AllByRecursion P (deliveries gap n fates items)
all_delivered P all gap n [] items are each = tt
all_delivered P all gap n (fate ∷ fates) [] are each = tt
all_delivered P all gap n (fate ∷ fates) (item ∷ items) are each =
    by item fate (first_from all fates n fate are) (all_delivered P all gap (n + 1) fates items (from_next all fates n fate are) each)
  where
    others : List Event
    others = deliveries gap (n + 1) fates items

    if_so : (side : Side) (g : ℕ) (b : Bool) → (g == gap) ≡ b → slice_get all n ≡ Some (Gap g) → AllByRecursion P others
        → AllByRecursion P (cond b (Receives (other side) n ∷ others) others)
    if_so side g true so here rest = (each side n (here ∙ ap (λ (x : ℕ). Some (Gap x)) (eqb-true g gap so)), rest)
    if_so side g false so here rest = rest

    by : (item : Item) (fate : Fate) → slice_get all n ≡ Some fate → AllByRecursion P others
        → AllByRecursion P (deliveries gap n (fate ∷ fates) (item ∷ items))
    by (Sent side message) (Gap g) here rest = if_so side g (g == gap) refl here rest
    by (Sent side message) (By k) here rest = rest
    by (Sent side message) Lost here rest = rest
    by Item.Quiet fate here rest = rest

-- The messages that a reply takes have this reply as their fate.
pub taken_are : (all fates : List Fate) (reply n : ℕ) → AreFrom all n fates
    → AllByRecursion (λ k. slice_get all k ≡ Some (By reply)) (taken_by reply n fates)
taken_are all [] reply n are = tt
taken_are all (Lost ∷ fates) reply n are = taken_are all fates reply (n + 1) (from_next all fates n Lost are)
taken_are all (Gap g ∷ fates) reply n are = taken_are all fates reply (n + 1) (from_next all fates n (Gap g) are)
taken_are all (By k ∷ fates) reply n are =
    by (k == reply) refl (first_from all fates n (By k) are) (taken_are all fates reply (n + 1) (from_next all fates n (By k) are))
  where
    by : (b : Bool) → (k == reply) ≡ b → slice_get all n ≡ Some (By k)
        → AllByRecursion (λ k. slice_get all k ≡ Some (By reply)) (taken_by reply (n + 1) fates)
        → AllByRecursion (λ k. slice_get all k ≡ Some (By reply)) (cond b (n ∷ taken_by reply (n + 1) fates) (taken_by reply (n + 1) fates))
    by true same one rest = (one ∙ ap (λ (x : ℕ). Some (By x)) (eqb-true k reply same), rest)
    by false same one rest = rest

-- ---- the messages on a channel whose fates are not losses

-- the messages with this one, unless it is lost
abbrev pub waiting_by : Option Fate → MessageInTransit → List MessageInTransit → List MessageInTransit
waiting_by (Some Lost) m messages = messages
waiting_by _ m messages = m ∷ messages

-- the messages of a channel that are not lost, oldest first
abbrev pub waiting : List Fate → List MessageInTransit → List MessageInTransit
waiting fates [] = []
waiting fates (m ∷ more) = waiting_by (slice_get fates m.number) m (waiting fates more)

-- The losses at the front do not change which messages of a channel wait.
pub behind_lost : (fates : List Fate) (channel : List MessageInTransit)
    → waiting fates (drop (length (lost_front fates channel)) channel) ≡ waiting fates channel
behind_lost fates [] = refl
behind_lost fates (first ∷ more) = by (slice_get fates first.number) refl (behind_lost fates more)
  where
    by : (o : Option Fate) → slice_get fates first.number ≡ o
        → waiting fates (drop (length (lost_front fates more)) more) ≡ waiting fates more
        → waiting fates (drop (length (if_lost o (first.number ∷ lost_front fates more))) (first ∷ more))
        ≡ waiting_by o first (waiting fates more)
    by None at rest = rw at refl
    by (Some (Gap g)) at rest = rw at refl
    by (Some (By k)) at rest = rw at refl
    by (Some Lost) at rest = rest

-- The head of a channel after the losses at its front is not lost.
pub head_stays : (fates : List Fate) (channel : List MessageInTransit) (head : MessageInTransit) (more : List MessageInTransit)
    → drop (length (lost_front fates channel)) channel ≡ head ∷ more → slice_get fates head.number ≡ Some Lost → ⊥
head_stays fates [] head more is lost = cc
head_stays fates (first ∷ channel) head more is lost = by (slice_get fates first.number) refl (head_stays fates channel head more) is
  where
    stays : (o : Option Fate) → slice_get fates first.number ≡ o → (o ≡ Some Lost → ⊥) → first ∷ channel ≡ head ∷ more → ⊥
    stays o at kept is =
        let same : head ≡ first = cc in kept (sym at ∙ ap (λ (m : MessageInTransit). slice_get fates m.number) (sym same) ∙ lost)

    by : (o : Option Fate) → slice_get fates first.number ≡ o
        → (drop (length (lost_front fates channel)) channel ≡ head ∷ more → slice_get fates head.number ≡ Some Lost → ⊥)
        → drop (length (if_lost o (first.number ∷ lost_front fates channel))) (first ∷ channel) ≡ head ∷ more → ⊥
    by None at on is = stays None at (λ e. cc) is
    by (Some (Gap g)) at on is = stays (Some (Gap g)) at (λ e. cc) is
    by (Some (By k)) at on is = stays (Some (By k)) at (λ e. cc) is
    by (Some Lost) at on is = on is lost

pub same_end : (c : Certificate) (sender at : Side) (r : Replay) → end_at at (lost_from_front c sender r).world ≡ end_at at r.world
same_end c sides.A sides.A r = refl
same_end c sides.A sides.B r = refl
same_end c sides.B sides.A r = refl
same_end c sides.B sides.B r = refl

-- ---- extended runs

-- These events lead from one replay to the other.
pub record Extends (table : Table) (r : Replay) (more : List Event) (next : Replay) : Type 0 where
  pub events : next.events ≡ r.events ++ more
  pub plays : played table more r.world ≡ Some next.world

pub extends_nothing : (table : Table) (r : Replay) → Extends table r [] r
extends_nothing table r = record { events = sym (append-nil r.events); plays = refl }

pub extends_then : (table : Table) (r mid next : Replay) (first rest : List Event) → Extends table r first mid → Extends table mid rest next
    → Extends table r (first ++ rest) next
extends_then table r mid next first rest a b = record {
  events = b.events ∙ ap (λ (x : List Event). x ++ rest) a.events ∙ append_assoc r.events first rest;
  plays = played_on table first rest r.world mid.world a.plays ∙ b.plays;
}

-- ---- one step

pub stepped_extends : (table : Table) (event : Event) (r next : Replay) → stepped table event r ≡ Some next → Extends table r (event ∷ []) next
stepped_extends table event r next is =
    let found = map_some _ (after table event r.world) next is in record {
      events = ap (λ (x : Replay). x.events) (sym found.2);
      plays = rw found.1 (ap (λ (x : Replay). Some x.world) found.2);
    }

-- ---- losses

-- A discard is a loss of the message, with a note of its reason.
pub record IsDiscard (table : Table) (side : Side) (number : ℕ) (r next : Replay) : Type 0 where
  pub lost : Replay
  pub step : stepped table (Loses (other side) number) r ≡ Some lost
  pub world : next.world ≡ lost.world
  pub events : next.events ≡ lost.events

pub discard_is : (table : Table) (side : Side) (number : ℕ) (r next : Replay) → discarded table side number r ≡ Some next
    → IsDiscard table side number r next
discard_is table side number r next is =
    let found = map_some _ (stepped table (Loses (other side) number) r) next is in record {
      lost = found.0;
      step = found.1;
      world = ap (λ (x : Replay). x.world) (sym found.2);
      events = ap (λ (x : Replay). x.events) (sym found.2);
    }

with_twice : (side : Side) (a b : List MessageInTransit) (w : World) → with_channel side a (with_channel side b w) ≡ with_channel side a w
with_twice sides.A a b w = refl
with_twice sides.B a b w = refl

pub channel_with : (side : Side) (a : List MessageInTransit) (w : World) → channel_from side (with_channel side a w) ≡ a
channel_with sides.A a w = refl
channel_with sides.B a w = refl

stays : (side : Side) (channel : List MessageInTransit) (w : World) → channel_from side w ≡ channel → Some w ≡ Some (with_channel side channel w)
stays side channel w is = ap Some (sym (ap (λ (x : List MessageInTransit). with_channel side x w) (sym is) ∙ with_same side w))

-- The losses at the front of a channel can happen.
pub front_plays : (table : Table) (fates : List Fate) (side : Side) (channel : List MessageInTransit) (w : World) → channel_from side w ≡ channel
    → played table (map (Loses side) (lost_front fates channel)) w ≡ Some (with_channel side (drop (length (lost_front fates channel)) channel) w)
front_plays table fates side [] w is = stays side [] w is
front_plays table fates side (first ∷ more) w is =
    by (slice_get fates first.number) (front_plays table fates side more (with_channel side more w) (channel_with side more w))
  where
    rest : List ℕ
    rest = lost_front fates more

    taken : after table (Loses side first.number) w ≡ Some (with_channel side more w)
    taken = rw (is, eq-eqb first.number first.number refl) refl

    by : (o : Option Fate)
        → played table (map (Loses side) rest) (with_channel side more w)
        ≡ Some (with_channel side (drop (length rest) more) (with_channel side more w))
        → played table (map (Loses side) (if_lost o (first.number ∷ rest))) w
        ≡ Some (with_channel side (drop (length (if_lost o (first.number ∷ rest))) (first ∷ more)) w)
    by None goes = stays side (first ∷ more) w is
    by (Some (Gap g)) goes = stays side (first ∷ more) w is
    by (Some (By k)) goes = stays side (first ∷ more) w is
    by (Some Lost) goes = rw taken (goes ∙ ap Some (with_twice side (drop (length rest) more) more w))

-- ---- steps and losses

pub without_both : (xs ys : List Event) → without_losses (xs ++ ys) ≡ without_losses xs ++ without_losses ys
without_both [] ys = refl
without_both (x ∷ xs) ys = by (is_loss x) (without_both xs ys)
  where
    by : (b : Bool) → without_losses (xs ++ ys) ≡ without_losses xs ++ without_losses ys
        → cond b (without_losses (xs ++ ys)) (x ∷ without_losses (xs ++ ys))
        ≡ cond b (without_losses xs) (x ∷ without_losses xs) ++ without_losses ys
    by true rest = rest
    by false rest = ap (λ (es : List Event). x ∷ es) rest

without_all : (side : Side) (numbers : List ℕ) → without_losses (map (Loses side) numbers) ≡ []
without_all side [] = refl
without_all side (n ∷ numbers) = without_all side numbers

-- Steps lead from one replay to the other. Apart from losses they are these events, and they add these items to the
-- sent list.
pub record Replays (table : Table) (r : Replay) (plain : List Event) (items : List Item) (next : Replay) : Type 0 where
  pub steps : List Event
  pub extends : Extends table r steps next
  pub are : without_losses steps ≡ plain
  pub sent : next.world.sent ≡ r.world.sent ++ items

pub replays_nothing : (table : Table) (r : Replay) → Replays table r [] [] r
replays_nothing table r = record { steps = []; extends = extends_nothing table r; are = refl; sent = sym (append-nil r.world.sent) }

pub replays_then : (table : Table) (r mid next : Replay) (xs ys : List Event) (before behind : List Item) → Replays table r xs before mid → Replays table mid ys behind next
    → Replays table r (xs ++ ys) (before ++ behind) next
replays_then table r mid next xs ys before behind a b = record {
  steps = a.steps ++ b.steps;
  extends = extends_then table r mid next a.steps b.steps a.extends b.extends;
  are = without_both a.steps b.steps ∙ ap (λ (x : List Event). x ++ without_losses b.steps) a.are ∙ ap (λ (y : List Event). xs ++ y) b.are;
  sent = b.sent ∙ ap (λ (x : List Item). x ++ behind) a.sent ∙ append_assoc r.world.sent before behind;
}

pub losing_replays : (table : Table) (c : Certificate) (side : Side) (r : Replay) → Replays table r [] [] (lost_from_front c side r)
losing_replays table c side r =
    let lost = lost_front c.fates (channel_from side r.world) in record {
      steps = map (Loses side) lost;
      extends = record { events = refl; plays = front_plays table c.fates side (channel_from side r.world) r.world refl };
      are = without_all side lost;
      sent = sent_with_channel side _ r.world ∙ sym (append-nil r.world.sent);
    }

pub both_replay : (table : Table) (c : Certificate) (r : Replay) → Replays table r [] [] (lost_from_both c r)
both_replay table c r =
    let first = lost_from_front c sides.A r in
    replays_then table r first (lost_from_both c r) [] [] [] [] (losing_replays table c sides.A r) (losing_replays table c sides.B first)

pub before_replays : (table : Table) (c : Certificate) (event : Event) (r : Replay) → Replays table r [] [] (lost_before c event r)
before_replays table c (Sends side m) r = replays_nothing table r
before_replays table c (Receives side n) r = losing_replays table c (other side) r
before_replays table c (Replies side n) r = losing_replays table c (other side) r
before_replays table c (Loses side n) r = replays_nothing table r
before_replays table c (Expires side name id) r = replays_nothing table r
before_replays table c (Closes side name) r = replays_nothing table r
before_replays table c Quiet r = both_replay table c r
before_replays table c (Tells side m) r = replays_nothing table r

pub stepped_replays : (table : Table) (event : Event) (items : List Item) (r next : Replay) → is_loss event ≡ false → stepped table event r ≡ Some next
    → next.world.sent ≡ r.world.sent ++ items → Replays table r (event ∷ []) items next
stepped_replays table event items r next plain is sent = record {
  steps = event ∷ [];
  extends = stepped_extends table event r next is;
  are = rw plain refl;
  sent = sent;
}

-- ---- the event that sends a message

-- What holds if a message takes nothing and is sent, if it answers the one message that it takes, and if no event sends
-- it, holds of the event by which it is sent.
pub sending_so : (P : List ℕ → Option Event → Type 0) (c : Certificate) (number : ℕ) (side : Side) (message : Message)
    → P [] (Some (Sends side message)) → ((n : ℕ) → P (n ∷ []) (Some (Replies side n))) → ((taken : List ℕ) → P taken None)
    → (taken : List ℕ) → P taken (sending_by c number (Sent side message) taken)
sending_so P c number side (Abort dtid (Some (Cause cause))) sends replies none [] = none []
sending_so P c number side (Abort dtid (Some (Cause cause))) sends replies none (n ∷ []) = replies n
sending_so P c number side (Abort dtid (Some (Cause cause))) sends replies none (n ∷ m ∷ more) = none (n ∷ m ∷ more)
sending_so P c number side (Abort dtid (Some (ByDialogue d))) sends replies none [] = sends
sending_so P c number side (Abort dtid (Some (ByDialogue d))) sends replies none (n ∷ more) = none (n ∷ more)
sending_so P c number side (Abort dtid None) sends replies none [] = sends
sending_so P c number side (Abort dtid None) sends replies none (n ∷ more) = none (n ∷ more)
sending_so P c number side (Unidirectional dialogue components) sends replies none [] = sends
sending_so P c number side (Unidirectional dialogue components) sends replies none (n ∷ more) = none (n ∷ more)
sending_so P c number side (Begin otid dialogue components) sends replies none [] = sends
sending_so P c number side (Begin otid dialogue components) sends replies none (n ∷ more) = none (n ∷ more)
sending_so P c number side (Continue otid dtid dialogue components) sends replies none [] = sends
sending_so P c number side (Continue otid dtid dialogue components) sends replies none (n ∷ more) = none (n ∷ more)
sending_so P c number side (EndMessage dtid dialogue components) sends replies none [] = sends
sending_so P c number side (EndMessage dtid dialogue components) sends replies none (n ∷ more) = none (n ∷ more)
