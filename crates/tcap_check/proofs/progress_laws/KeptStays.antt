-- Hidden steps of a replay lose, send and take nothing, and leave each channel as it is.
use Rattle.std.proofs.Common.{◌≡◌, ℕ, ℤ, ◌+◌, Bool, true, false, cond, List, [], ◌∷◌, ◌++◌, filter, length, Option, Some, None, Ok, refl, sym, ap, ◌∙◌, arith}
use Rattle.std.specs.Prelude.{filter_map, ok_or}
use Rattle.tcap_msg.specs.declared.message.Message.{Message}
use Rattle.tcap_msg.specs.Parts.{components_in}
use Rattle.tcap_record.specs.declared.entry.End.{End as Side}
use Rattle.tcap_record.specs.declared.entry.End.TheVariants as sides
use Rattle.tcap_end.specs.declared.half.HalfName.{HalfName}
use Rattle.tcap_end.specs.End.{End}
use Rattle.tcap_end.specs.Table.{Table}
use Rattle.tcap_end.proofs.AnsweringLaws.{ok_same, some_ok, then_ok}
use Rattle.tcap_certificate.specs.declared.fault.CheckFault.{CheckFault}
use Rattle.tcap_model.specs.declared.reason.Reason.{Reason}
use Rattle.tcap_model.specs.declared.reason.Reason.TheVariants.{FateRange}
use Rattle.tcap_model.specs.World.{World, channel_from, with_end}
use Rattle.tcap_model.specs.Run.{Event, Closes, Expires, after}
use Rattle.tcap_certificate.specs.Certificate.{Certificate}
use Rattle.tcap_certificate.specs.DescribedRun.{invoke_id}
use Rattle.tcap_certificate.specs.LossCounts.{is_lost_from}
use Rattle.tcap_certificate.specs.Replay.{Replay, fault_at, after_event, implied, implied_over, or_same, stepped, with_step}
use Rattle.tcap_model.proofs.RunLaws.{closing, expiry, map_some}
use Rattle.tcap_model.proofs.WorldLaws.{sent_with_end}
use Rattle.tcap_check.specs.declared.listed_steps.ListedStep.{ListedStep}
use Rattle.tcap_check.specs.ListedSteps.{all_replayed, entry_of, event_listed, listed_replayed, side_of, why_refused}
use Rattle.tcap_check.proofs.replay_laws.ReplayGaps.{listed_so}

-- ---- losses

-- the count of losses of an end's messages
abbrev pub count_losses : Side → List Event → ℕ
count_losses side events = length (filter (is_lost_from side) events)

pub losses_both : (side : Side) (xs ys : List Event) → count_losses side (xs ++ ys) ≡ count_losses side xs + count_losses side ys
losses_both side [] ys = omega arith
losses_both side (x ∷ xs) ys = by (is_lost_from side x) (losses_both side xs ys)
  where
    lost : List Event → List Event
    lost events = filter (is_lost_from side) events

    by : (b : Bool) → count_losses side (xs ++ ys) ≡ count_losses side xs + count_losses side ys
        → length (cond b (x ∷ lost (xs ++ ys)) (lost (xs ++ ys))) ≡ length (cond b (x ∷ lost xs) (lost xs)) + count_losses side ys
    by true rest = omega (arith, rest)
    by false rest = rest

pub no_loss : (side : Side) (events : List Event) (event : Event) → is_lost_from side event ≡ false
    → count_losses side (events ++ event ∷ []) ≡ count_losses side events
no_loss side events event is =
    let one : count_losses side (event ∷ []) ≡ 0 = rw is refl in
    let both = losses_both side events (event ∷ []) in omega (arith, one, both)

-- ---- nothing is lost, sent or taken

pub record Stays (r next : Replay) : Type 0 where
  pub losses : (side : Side) → count_losses side next.events ≡ count_losses side r.events
  pub channels : (side : Side) → channel_from side next.world ≡ channel_from side r.world
  pub sent : next.world.sent ≡ r.world.sent

pub stays_same : (r next : Replay) → r ≡ next → Stays r next
stays_same r next same = record {
  losses = λ side. ap (λ (x : Replay). count_losses side x.events) (sym same);
  channels = λ side. ap (λ (x : Replay). channel_from side x.world) (sym same);
  sent = ap (λ (x : Replay). x.world.sent) (sym same);
}

pub stays_then : (r mid next : Replay) → Stays r mid → Stays mid next → Stays r next
stays_then r mid next a b = record {
  losses = λ side. b.losses side ∙ a.losses side;
  channels = λ side. b.channels side ∙ a.channels side;
  sent = b.sent ∙ a.sent;
}

channel_with_end : (side at : Side) (e : End) (w : World) → channel_from side (with_end at e w) ≡ channel_from side w
channel_with_end sides.A sides.A e w = refl
channel_with_end sides.A sides.B e w = refl
channel_with_end sides.B sides.A e w = refl
channel_with_end sides.B sides.B e w = refl

-- A step that changes only an end.
pub end_step_stays : (event : Event) (at : Side) (e : End) (r next : Replay) (w : World)
    → ((side : Side) → is_lost_from side event ≡ false) → w ≡ with_end at e r.world → with_step event r w ≡ next → Stays r next
end_step_stays event at e r next w none w_is is = record {
  losses = λ side. ap (λ (x : Replay). count_losses side x.events) (sym is) ∙ no_loss side r.events event (none side);
  channels = λ side. ap (λ (x : Replay). channel_from side x.world) (sym is) ∙ ap (channel_from side) w_is
      ∙ channel_with_end side at e r.world;
  sent = ap (λ (x : Replay). x.world.sent) (sym is) ∙ ap (λ (x : World). x.sent) w_is ∙ sent_with_end at e r.world;
}

-- ---- listed events

abbrev IsUnseen : Event → Type 0
IsUnseen event = (table : Table) (c : Certificate) (reason : Reason) (entry : ℕ) (r next : Replay)
    → after_event table c event reason entry r ≡ Ok next → Stays r next

pub closes_stays : (table : Table) (at : Side) (name : HalfName) (r next : Replay)
    → stepped table (Closes at name) r ≡ Some next → Stays r next
closes_stays table at name r next is =
    let event = Closes at name in
    let found = map_some _ (after table event r.world) next is in
    let hidden = closing table at name r.world found.0 found.1 in
    end_step_stays event at hidden.made r next found.0 (λ side. refl) hidden.next_is found.2

closes_internal : (at : Side) (name : HalfName) → IsUnseen (Closes at name)
closes_internal at name table c reason entry r next is =
    closes_stays table at name r next (some_ok (stepped table (Closes at name) r) (fault_at reason entry) next is)

expires_stays : (table : Table) (at : Side) (name : HalfName) (id : ℤ) (r next : Replay)
    → stepped table (Expires at name id) r ≡ Some next → Stays r next
expires_stays table at name id r next is =
    let event = Expires at name id in
    let found = map_some _ (after table event r.world) next is in
    let hidden = expiry table at name id r.world found.0 found.1 in
    end_step_stays event at hidden.made r next found.0 (λ side. refl) hidden.next_is found.2

expires_internal : (at : Side) (name : HalfName) (id : ℤ) → IsUnseen (Expires at name id)
expires_internal at name id table c reason entry r next is =
    expires_stays table at name id r next (some_ok (stepped table (Expires at name id) r) (fault_at reason entry) next is)

pub listed_stay : (table : Table) (c : Certificate) (listed : List ListedStep) (r next : Replay)
    → all_replayed table c listed r ≡ Ok next → Stays r next
listed_stay table c [] r next is = stays_same r next (ok_same {F = CheckFault} r next is)
listed_stay table c (x ∷ more) r next is =
    let then = then_ok (listed_replayed table c x r) (all_replayed table c more) next is in
    let found = then_ok (ok_or (event_listed r.world.sent x) (fault_at FateRange (entry_of x))) _ then.0 then.1 in
    let named = some_ok (event_listed r.world.sent x) (fault_at FateRange (entry_of x)) found.0 found.1 in
    stays_then r then.0 next
    (listed_so IsUnseen r.world.sent x (closes_internal (side_of x)) (expires_internal (side_of x)) found.0 named table c (why_refused x) (entry_of x) r then.0
    found.2) (listed_stay table c more then.0 next then.2)

-- ---- expiries that a message implies

implied_stays : (table : Table) (side : Side) (name : HalfName) (ids : List ℤ) (r : Replay)
    → Stays r (implied table side name ids r)
implied_stays table side name [] r = stays_same r r refl
implied_stays table side name (id ∷ ids) r =
    by (stepped table (Expires side name id) r) refl (λ mid. implied_stays table side name ids mid)
  where
    by : (o : Option Replay) → stepped table (Expires side name id) r ≡ o
        → ((mid : Replay) → Stays mid (implied table side name ids mid))
        → Stays r (implied table side name ids (or_same r o))
    by None is on = on r
    by (Some mid) is on =
        stays_then r mid (implied table side name ids mid) (expires_stays table side name id r mid is) (on mid)

pub implied_over_stays : (table : Table) (side : Side) (message : Message) (name : Option HalfName) (r : Replay)
    → Stays r (implied_over table side message name r)
implied_over_stays table side message None r = stays_same r r refl
implied_over_stays table side message (Some name) r =
    implied_stays table side name (filter_map invoke_id (components_in message)) r
