-- The replay for both ends and the replay for one, side by side: the second is the view that the one end has of the
-- first.
use Rattle.std.proofs.Common.{◌≡◌, ℕ, List, [], ◌∷◌, ◌++◌, map, length, drop, Some, Result, Ok, refl, sym, ap, ap₂, ◌∙◌, append_assoc, append-nil, ◌+◌, ℤ, ◌==◌, Bool, true, false, cond, option_map, subst, None}
use Rattle.tcap_record.specs.declared.entry.End.{End as Side}
use Rattle.tcap_record.specs.declared.entry.End.TheVariants.{A, B}
use Rattle.tcap_end.specs.Table.{Table}
use Rattle.tcap_end.specs.Step.{◌>>=◌}
use Rattle.tcap_certificate.specs.declared.fault.CheckFault.{CheckFault}
use Rattle.tcap_record.specs.Ends.{other}
use Rattle.tcap_model.specs.World.{MessageInTransit, World, channel_from, with_channel, Item, Sent, is_side, with_end}
use Rattle.tcap_model.specs.Run.{Event, Loses, after, numbers_of, Receives, Expires, Closes}
use Rattle.tcap_certificate.specs.Certificate.{Certificate}
use Rattle.tcap_certificate.specs.DescribedRun.{losses_from}
use Rattle.tcap_certificate.specs.Replay.{Replay, all_lost_from, lost_from_both, lost_from_front, lost_front, stepped, with_step, deliveries_by, delivery_by, fault_at, gap_by, after_event, delivered, lost_before, next_entry}
use Rattle.tcap_check.proofs.described_run_laws.DescribedGaps.{ok_then, ok_some}
use Rattle.tcap_check.proofs.given_run_lemmas.NumberLaws.{loss_of, losses_first}
use Rattle.tcap_model.proofs.RunLaws.{map_some, same_side, closing, delivery, expiry}
use Rattle.tcap_check.proofs.one_end_lemmas.AloneReplays.{drop_all}
use Rattle.tcap_check.proofs.one_end_lemmas.AloneViews.{seen_by, seen_channel, seen_sent, seen_with, internal_channel, seen_closing, seen_delivery, seen_expiry, internal_end}
use Rattle.std.specs.Prelude.{◌&&◌, ok_or}
use Rattle.tcap_end.specs.declared.half.HalfName.{HalfName}
use Rattle.tcap_end.proofs.AnsweringLaws.{ok_same, some_ok, then_ok}
use Rattle.tcap_certificate.specs.declared.certificate.Fate.{Fate}
use Rattle.tcap_certificate.specs.declared.certificate.Fate.TheVariants.{Gap, Lost, By}
use Rattle.tcap_model.specs.declared.reason.Reason.{Reason}
use Rattle.tcap_model.specs.declared.reason.Reason.TheVariants.{BadReply, FateRange}
use Rattle.tcap_check.specs.declared.listed_steps.ListedStep.{ListedStep}
use Rattle.tcap_check.specs.ListedSteps.{all_replayed, entry_of, event_listed, listed_for, listed_in, listed_judged, listed_replayed, side_of, why_refused}
use Rattle.tcap_check.proofs.replay_laws.ReplayGaps.{gap_is_listed, gap_parts, judged_all, listed_so}

-- ---- losses

pub losses_both : (side : Side) (xs ys : List Event)
    → losses_from side (xs ++ ys) ≡ losses_from side xs ++ losses_from side ys
losses_both side [] ys = refl
losses_both side (x ∷ xs) ys =
    losses_first side x (xs ++ ys)
    ∙ ap (λ (more : List ℕ). loss_of side x ++ more) (losses_both side xs ys)
    ∙ sym (append_assoc (loss_of side x) (losses_from side xs) (losses_from side ys))
    ∙ ap (λ (front : List ℕ). front ++ losses_from side ys) (sym (losses_first side x xs))

pub more_losses : (side : Side) (xs ys us vs : List Event) → losses_from side xs ≡ losses_from side ys
    → losses_from side us ≡ losses_from side vs → losses_from side (xs ++ us) ≡ losses_from side (ys ++ vs)
more_losses side xs ys us vs before behind =
    losses_both side xs us ∙ ap₂ (λ (a b : List ℕ). a ++ b) before behind ∙ sym (losses_both side ys vs)

own_lost : (side : Side) (numbers : List ℕ) → losses_from (other side) (map (Loses side) numbers) ≡ []
own_lost side [] = refl
own_lost side (n ∷ numbers) = by side (own_lost side numbers)
  where
    by : (side : Side) → losses_from (other side) (map (Loses side) numbers) ≡ []
        → losses_from (other side) (map (Loses side) (n ∷ numbers)) ≡ []
    by A rest = rest
    by B rest = rest

-- ---- both replays

-- The second replay is in the state that the end sees of the first, and the same messages of the peer were lost.
pub record Mirrors (side : Side) (r s : Replay) : Type 0 where
  pub world : s.world ≡ seen_by side r.world
  pub losses : losses_from (other side) s.events ≡ losses_from (other side) r.events

-- This holds except for the messages on their way from the end, which do not matter.
pub record MirrorsBut (side : Side) (r s : Replay) : Type 0 where
  pub world : with_channel side [] s.world ≡ seen_by side r.world
  pub losses : losses_from (other side) s.events ≡ losses_from (other side) r.events

pub same_sent : (side : Side) (r s : Replay) → Mirrors side r s → s.world.sent ≡ r.world.sent
same_sent side r s is = ap (λ (w : World). w.sent) is.world ∙ seen_sent side r.world

pub same_channel : (side : Side) (r s : Replay) → Mirrors side r s
    → channel_from (other side) s.world ≡ channel_from (other side) r.world
same_channel side r s is = ap (channel_from (other side)) is.world ∙ seen_channel side r.world

-- A step of the peer changes nothing for the end.
pub internal_step : (side : Side) (table : Table) (event : Event) (r next s : Replay)
    → losses_from (other side) (event ∷ []) ≡ []
    → stepped table event r ≡ Some next
    → ((w : World) → after table event r.world ≡ Some w → seen_by side w ≡ seen_by side r.world)
    → Mirrors side r s → Mirrors side next s
internal_step side table event r next s none is same mirrors =
    let found = map_some _ (after table event r.world) next is in record {
      world = mirrors.world ∙ sym (same found.0 found.1) ∙ ap (λ (x : Replay). seen_by side x.world) found.2;
      losses = sym (append-nil (losses_from (other side) s.events))
          ∙ ap₂ (λ (a b : List ℕ). a ++ b) mirrors.losses (sym none)
          ∙ sym (losses_both (other side) r.events (event ∷ []))
          ∙ ap (λ (x : Replay). losses_from (other side) x.events) found.2;
    }

-- Both replays make a step of the end.
pub record Steps (side : Side) (table : Table) (event : Event) (next s : Replay) : Type 0 where
  pub made : Replay
  pub is : stepped table event s ≡ Some made
  pub mirrors : Mirrors side next made

pub seen_step : (side : Side) (table : Table) (event : Event) (r next s : Replay) → stepped table event r ≡ Some next
    → ((w : World) → after table event r.world ≡ Some w → after table event (seen_by side r.world)
    ≡ Some (seen_by side w))
    → Mirrors side r s → Steps side table event next s
seen_step side table event r next s is same mirrors =
    let found = map_some _ (after table event r.world) next is in
    let step : after table event s.world ≡ Some (seen_by side found.0) =
    ap (after table event) mirrors.world ∙ same found.0 found.1 in
    record {
      made = with_step event s (seen_by side found.0);
      is = rw step refl;
      mirrors = record {
        world = ap (λ (x : Replay). seen_by side x.world) found.2;
        losses = more_losses (other side) s.events r.events (event ∷ []) (event ∷ []) mirrors.losses refl
            ∙ ap (λ (x : Replay). losses_from (other side) x.events) found.2;
      };
    }

-- The losses at the front of the peer's channel occur in both replays.
pub front_mirrors : (side : Side) (c : Certificate) (r s : Replay) → Mirrors side r s
    → Mirrors side (lost_from_front c (other side) r) (lost_from_front c (other side) s)
front_mirrors side c r s is =
    let same = same_channel side r s is in
    let left : List MessageInTransit → List MessageInTransit = λ channel. drop (length (lost_front c.fates channel)) channel in
    record {
      world = ap₂ (λ (x : List MessageInTransit) (w : World). with_channel (other side) (left x) w) same is.world
          ∙ seen_with side (left (channel_from (other side) r.world)) r.world;
      losses = more_losses (other side) s.events r.events _ _ is.losses
          (ap (λ (x : List MessageInTransit). losses_from (other side) (map (Loses (other side)) (lost_front c.fates x))) same);
    }

-- The losses at the front of the end's own channel change nothing for the end.
pub own_front_mirrors : (side : Side) (c : Certificate) (r s : Replay) → Mirrors side r s
    → Mirrors side (lost_from_front c side r) s
own_front_mirrors side c r s is = record {
  world = is.world ∙ sym (internal_channel side _ r.world);
  losses = sym (append-nil (losses_from (other side) s.events))
      ∙ ap₂ (λ (a b : List ℕ). a ++ b) is.losses (sym (own_lost side (lost_front c.fates (channel_from side r.world))))
      ∙ sym (losses_both (other side) r.events (map (Loses side) (lost_front c.fates (channel_from side r.world))));
}

pub both_fronts_mirror : (side : Side) (c : Certificate) (r s : Replay) → Mirrors side r s
    → Mirrors side (lost_from_both c r) (lost_from_front c (other side) s)
both_fronts_mirror A c r s is = front_mirrors A c (lost_from_front c A r) s (own_front_mirrors A c r s is)
both_fronts_mirror B c r s is =
    own_front_mirrors B c (lost_from_front c A r) (lost_from_front c A s) (front_mirrors B c r s is)

-- The messages of the end are lost at once.
pub all_lost_mirrors : (side : Side) (r s : Replay) → MirrorsBut side r s → Mirrors side r (all_lost_from side s)
all_lost_mirrors side r s is =
    let channel = channel_from side s.world in record {
      world = ap (λ (x : List MessageInTransit). with_channel side x s.world) (drop_all channel) ∙ is.world;
      losses = losses_both (other side) s.events (map (Loses side) (numbers_of channel))
          ∙ ap (λ (x : List ℕ). losses_from (other side) s.events ++ x) (own_lost side (numbers_of channel))
          ∙ append-nil (losses_from (other side) s.events) ∙ is.losses;
    }

-- ---- results

-- The second replay goes on too, and mirrors the first afterwards.
pub record Reflects (side : Side) (next : Replay) (answer : Result Replay CheckFault) : Type 0 where
  pub made : Replay
  pub is : answer ≡ Ok made
  pub mirrors : Mirrors side next made

pub reflects_this : (side : Side) (next s : Replay) → Mirrors side next s → Reflects side next (Ok s)
reflects_this side next s mirrors = record { made = s; is = refl; mirrors = mirrors }

pub reflects_then : (side : Side) (mid next : Replay) (step : Result Replay CheckFault)
    (rest : Replay → Result Replay CheckFault)
    → Reflects side mid step → ((s : Replay) → Mirrors side mid s → Reflects side next (rest s))
    → Reflects side next (step >>= rest)
reflects_then side mid next step rest first on =
    let then = on first.made first.mirrors in
    record { made = then.made; is = ok_then step rest first.made then.made first.is then.is; mirrors = then.mirrors }

-- ---- listed events

-- A hidden event of an end occurs in the view of this end, and changes nothing in the view of the other end.
record IsHiddenOf (table : Table) (place : Side) (event : Event) : Type 0 where
  seen : (w next : World) → after table event w ≡ Some next
      → after table event (seen_by place w) ≡ Some (seen_by place next)
  internal : (side : Side) → place ≡ other side → (w next : World) → after table event w ≡ Some next
      → seen_by side next ≡ seen_by side w
  none : (side : Side) → losses_from side (event ∷ []) ≡ []
  first : (c : Certificate) (r : Replay) → lost_before c event r ≡ r

hidden_closing : (table : Table) (place : Side) (name : HalfName) → IsHiddenOf table place (Closes place name)
hidden_closing table place name = record {
  seen = λ w next is. seen_closing table place name w ∙ ap (option_map (seen_by place)) is;
  internal = λ side away w next is.
      let h = closing table place name w next is in
      ap (seen_by side) (h.next_is ∙ ap (λ (s : Side). with_end s h.made w) away) ∙ internal_end side h.made w;
  none = λ side. refl;
  first = λ c r. refl;
}

hidden_expiry : (table : Table) (place : Side) (name : HalfName) (id : ℤ)
    → IsHiddenOf table place (Expires place name id)
hidden_expiry table place name id = record {
  seen = λ w next is. seen_expiry table place name id w ∙ ap (option_map (seen_by place)) is;
  internal = λ side away w next is.
      let h = expiry table place name id w next is in
      ap (seen_by side) (h.next_is ∙ ap (λ (s : Side). with_end s h.made w) away) ∙ internal_end side h.made w;
  none = λ side. refl;
  first = λ c r. refl;
}

pub other_side : (side place : Side) → is_side side place ≡ false → place ≡ other side
other_side A A is = cc
other_side A B is = refl
other_side B A is = refl
other_side B B is = cc

-- A listed event occurs in the second replay too, or changes nothing there.
abbrev IsListed : Side → Replay → Replay → Result Replay CheckFault → Bool → Type 0
IsListed side next s answer true = Reflects side next answer
IsListed side next s answer false = Mirrors side next s

listed_step : (side : Side) (table : Table) (c : Certificate) (place : Side) (event : Event)
    (reason : Reason) (entry : ℕ)
    (r next s : Replay) → IsHiddenOf table place event → after_event table c event reason entry r ≡ Ok next
    → Mirrors side r s
    → IsListed side next s (after_event table c event reason entry s) (is_side side place)
listed_step side table c place event reason entry r next s hidden is mirrors = by (is_side side place) refl
  where
    step : stepped table event r ≡ Some next
    step = ap (stepped table event) (sym (hidden.first c r)) ∙ some_ok _ (fault_at reason entry) next is

    by : (b : Bool) → is_side side place ≡ b → IsListed side next s (after_event table c event reason entry s) b
    by true same =
        let here : side ≡ place = same_side side place same in
        let seen : (w : World) → after table event r.world ≡ Some w → after table event (seen_by side r.world)
        ≡ Some (seen_by side w) =
        λ w at. subst (λ (x : Side). after table event (seen_by x r.world) ≡ Some (seen_by x w)) (sym here)
        (hidden.seen r.world w at) in
        let taken = seen_step side table event r next s step seen mirrors in
        record {
          made = taken.made;
          is = ok_some (stepped table event (lost_before c event s)) (fault_at reason entry) taken.made
              (ap (stepped table event) (hidden.first c s) ∙ taken.is);
          mirrors = taken.mirrors;
        }
    by false same = internal_step side table event r next s (hidden.none (other side)) step
        (λ w at. hidden.internal side (other_side side place same) r.world w at) mirrors

listed_reflect : (side : Side) (table : Table) (c : Certificate) (listed : List ListedStep) (r next s : Replay)
    → all_replayed table c listed r ≡ Ok next → Mirrors side r s
    → Reflects side next (all_replayed table c (listed_judged (Some side) listed) s)
listed_reflect side table c [] r next s is mirrors =
    reflects_this side next s (subst (λ (x : Replay). Mirrors side x s) (ok_same {F = CheckFault} r next is) mirrors)
listed_reflect side table c (x ∷ more) r next s is mirrors =
    let then = then_ok (listed_replayed table c x r) (all_replayed table c more) next is in
    let found = then_ok (ok_or (event_listed r.world.sent x) (fault_at FateRange (entry_of x))) _ then.0 then.1 in
    let event = some_ok (event_listed r.world.sent x) (fault_at FateRange (entry_of x)) found.0 found.1 in
    let one = listed_step side table c (side_of x) found.0 (why_refused x) (entry_of x) r then.0 s
    (listed_so (IsHiddenOf table (side_of x)) r.world.sent x (hidden_closing table (side_of x)) (hidden_expiry table (side_of x)) found.0 event)
    found.2 mirrors in
    let same : listed_replayed table c x s ≡ after_event table c found.0 (why_refused x) (entry_of x) s =
    rw (ap (λ (items : List Item). event_listed items x) (same_sent side r s mirrors) ∙ event) refl in
    by then.0 (λ v on. listed_reflect side table c more then.0 next v then.2 on) (is_side side (side_of x))
    (subst (λ (answer : Result Replay CheckFault). IsListed side then.0 s answer (is_side side (side_of x))) (sym same) one)
  where
    mine : List ListedStep
    mine = listed_judged (Some side) more

    by : (mid : Replay) → ((v : Replay) → Mirrors side mid v → Reflects side next (all_replayed table c mine v)) → (b : Bool)
        → IsListed side mid s (listed_replayed table c x s) b → Reflects side next (all_replayed table c (cond b (x ∷ mine) mine) s)
    by mid on false one = on s one
    by mid on true one = reflects_then side mid next (listed_replayed table c x s) (all_replayed table c mine) one on

-- ---- deliveries

-- A delivery to the end occurs in both replays.
heard_reflects : (side : Side) (table : Table) (c : Certificate) (n : ℕ) (r next s : Replay)
    → after_event table c (Receives side n) BadReply n r ≡ Ok next → Mirrors side r s
    → Reflects side next (delivered table c side n s)
heard_reflects side table c n r next s is mirrors =
    let front = lost_from_front c (other side) r in
    let step = some_ok (stepped table (Receives side n) front) (fault_at BadReply n) next is in
    let taken = seen_step side table (Receives side n) front next (lost_from_front c (other side) s) step
    (λ w at. seen_delivery table side n front.world w at) (front_mirrors side c r s mirrors) in
    record { made = taken.made; is = rw (taken.is) refl; mirrors = taken.mirrors }

-- A delivery to the peer changes nothing for the end.
away : (side : Side) (table : Table) (c : Certificate) (n : ℕ) (r next s : Replay)
    → after_event table c (Receives (other side) n) BadReply n r ≡ Ok next → Mirrors side r s → Mirrors side next s
away A table c n r next s is mirrors =
    let front = lost_from_front c A r in
    internal_step A table (Receives B n) front next s refl
    (some_ok (stepped table (Receives B n) front) (fault_at BadReply n) next is)
    (λ w at.
    let d = delivery table B n front.world w at in
    ap (seen_by A) d.next_is ∙ internal_end A d.made (with_channel A d.more front.world)
    ∙ internal_channel A d.more front.world)
    (own_front_mirrors A c r s mirrors)
away B table c n r next s is mirrors =
    let front = lost_from_front c B r in
    internal_step B table (Receives A n) front next s refl
    (some_ok (stepped table (Receives A n) front) (fault_at BadReply n) next is)
    (λ w at.
    let d = delivery table A n front.world w at in
    ap (seen_by B) d.next_is ∙ internal_end B d.made (with_channel B d.more front.world)
    ∙ internal_channel B d.more front.world)
    (own_front_mirrors B c r s mirrors)

delivery_reflects : (side sender : Side) (table : Table) (c : Certificate) (n : ℕ) (b : Bool) (r next s : Replay)
    → cond b (after_event table c (Receives (other sender) n) BadReply n r) (Ok r) ≡ Ok next → Mirrors side r s
    → Reflects side next (cond (b && is_side (other side) sender) (delivered table c side n s) (Ok s))
delivery_reflects side sender table c n false r next s is mirrors =
    reflects_this side next s (subst (λ (x : Replay). Mirrors side x s) (ok_same {F = CheckFault} r next is) mirrors)
delivery_reflects A A table c n true r next s is mirrors = reflects_this A next s (away A table c n r next s is mirrors)
delivery_reflects A B table c n true r next s is mirrors = heard_reflects A table c n r next s is mirrors
delivery_reflects B A table c n true r next s is mirrors = heard_reflects B table c n r next s is mirrors
delivery_reflects B B table c n true r next s is mirrors = reflects_this B next s (away B table c n r next s is mirrors)

deliveries_reflect : (side : Side) (table : Table) (c : Certificate) (gap n : ℕ) (fates : List Fate) (items : List Item)
    (r next s : Replay) → deliveries_by None table c gap n fates items r ≡ Ok next → Mirrors side r s
    → Reflects side next (deliveries_by (Some side) table c gap n fates items s)
deliveries_reflect side table c gap n [] items r next s is mirrors =
    reflects_this side next s (subst (λ (x : Replay). Mirrors side x s) (ok_same {F = CheckFault} r next is) mirrors)
deliveries_reflect side table c gap n (fate ∷ fates) [] r next s is mirrors =
    reflects_this side next s (subst (λ (x : Replay). Mirrors side x s) (ok_same {F = CheckFault} r next is) mirrors)
deliveries_reflect side table c gap n (fate ∷ fates) (item ∷ items) r next s is mirrors =
    let one = then_ok (delivery_by None table c gap n fate item r)
    (deliveries_by None table c gap (n + 1) fates items) next is in
    reflects_then side one.0 next (delivery_by (Some side) table c gap n fate item s)
    (deliveries_by (Some side) table c gap (n + 1) fates items)
    (by fate item one.0 one.1) (λ v on. deliveries_reflect side table c gap (n + 1) fates items one.0 next v one.2 on)
  where
    same : (mid : Replay) → (let x : Result Replay CheckFault = Ok r in x) ≡ Ok mid → Reflects side mid (Ok s)
    same mid is = reflects_this side mid s
        (subst (λ (x : Replay). Mirrors side x s) (ok_same {F = CheckFault} r mid is) mirrors)

    by : (fate : Fate) (item : Item) (mid : Replay) → delivery_by None table c gap n fate item r ≡ Ok mid
        → Reflects side mid (delivery_by (Some side) table c gap n fate item s)
    by (Gap g) (Sent sender m) mid is = delivery_reflects side sender table c n (g == gap) r mid s is mirrors
    by (Gap g) Item.Quiet mid is = same mid is
    by (By k) (Sent sender m) mid is = same mid is
    by (By k) Item.Quiet mid is = same mid is
    by Lost (Sent sender m) mid is = same mid is
    by Lost Item.Quiet mid is = same mid is

-- ---- the gap

-- the deliveries of a gap to one end, after these items
abbrev heard_at : Table → Certificate → Side → List Item → Replay → Result Replay CheckFault
heard_at table c side items s =
    all_replayed table c (listed_for (Some side) c (length items)) s >>= deliveries_by (Some side) table c (length items) 0 c.fates items

pub gap_reflects : (side : Side) (table : Table) (c : Certificate) (r next s : Replay)
    → gap_by None table c r ≡ Ok next
    → Mirrors side r s → Reflects side next (gap_by (Some side) table c s)
gap_reflects side table c r next s is mirrors =
    let items = r.world.sent in
    let parts = gap_parts None table c r next is in
    let all : all_replayed table c (listed_in c (next_entry r)) r ≡ Ok parts.0 =
    ap (λ (xs : List ListedStep). all_replayed table c xs r) (sym (judged_all c (next_entry r))) ∙ parts.1 in
    let mine : Reflects side next (heard_at table c side items s) =
    reflects_then side parts.0 next (all_replayed table c (listed_for (Some side) c (next_entry r)) s)
    (deliveries_by (Some side) table c (next_entry r) 0 c.fates items)
    (listed_reflect side table c (listed_in c (next_entry r)) r parts.0 s all mirrors)
    (λ v on. deliveries_reflect side table c (next_entry r) 0 c.fates items parts.0 next v parts.2 on) in
    subst (Reflects side next)
    (ap (λ (items : List Item). heard_at table c side items s) (sym (same_sent side r s mirrors)) ∙ sym (gap_is_listed (Some side) table c s)) mine
