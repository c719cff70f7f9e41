-- Steps of a checker by which an end sends, or its provider answers.
use Rattle.std.proofs.Common.{arith, ◌≡◌, ℕ, ℤ, List, [], ◌∷◌, Option, Some, None, Result, Ok, Err, refl, ap, ◌∙◌, suc, ◌+◌, ◌≤◌, true, false, drop, length, sym}
use Rattle.std.specs.Prelude.{filter_map}
use Rattle.std.specs.List.{Contains}
use Rattle.std.proofs.lemmas.List.Elements.{Contains-append_right}
use Rattle.tcap_msg.specs.declared.message.Message.{Message}
use Rattle.tcap_msg.specs.Parts.{components_in}
use Rattle.tcap_record.specs.declared.entry.End.{End as Side}
use Rattle.tcap_end.specs.declared.fault.EndFault.{EndFault}
use Rattle.tcap_end.specs.declared.half.HalfName.{HalfName}
use Rattle.tcap_end.specs.End.{End}
use Rattle.tcap_end.specs.HiddenSteps.{expire}
use Rattle.tcap_end.specs.Message.{send}
use Rattle.tcap_end.specs.Table.{Table}
use Rattle.tcap_certificate.specs.declared.certificate.Fate.{Fate}
use Rattle.tcap_check.specs.declared.progress.Progress.{Progress}
use Rattle.tcap_model.specs.Run.{Expires, Sends, Event, Replies}
use Rattle.tcap_certificate.specs.DescribedRun.{invoke_id, invoking_half}
use Rattle.tcap_check.specs.GivenRun.{IsInUse}
use Rattle.tcap_check.specs.Progress.{ids_ended, ids_ended_over, or_still, side_at, send_kept, sent_by, sent_or_not, with_side_end, IsAsMany, end_tried, moved, with_waiting, first_answered, first_may_be_answered, invoked_ended}
use Rattle.tcap_check.proofs.described_run_laws.ExpiryLaws.{ends_in_use}
use Rattle.tcap_check.proofs.described_run_laws.ImpliedLaws.{sent_frees}
use Rattle.tcap_parts.specs.declared.component.Component.{Component}
use Rattle.tcap_record.specs.declared.entry.End.TheVariants as sides
use Rattle.tcap_model.specs.declared.reason.Reason.TheVariants.{BadReply}
use Rattle.tcap_check.specs.declared.progress.Waiting.{Waiting}
use Rattle.tcap_record.specs.Ends.{other}
use Rattle.tcap_certificate.specs.Replay.{fault_at}

-- IDs that are not in use expire nothing.
none_end : (table : Table) (side : Side) (name : HalfName) (ids : List ℤ) (p : Progress)
    → ((id : ℤ) → Contains ids id → IsInUse (side_at side p).end name id → ⊥) → ids_ended table side name ids p ≡ p
none_end table side name [] p free = refl
none_end table side name (x ∷ ids) p free =
    by (expire table (side_at side p).end name x) refl
    (none_end table side name ids p (λ id there. free id (Contains-append_right (x ∷ []) ids id there)))
  where
    by : (o : Result End EndFault) → expire table (side_at side p).end name x ≡ o → ids_ended table side name ids p ≡ p
        → ids_ended table side name ids (or_still side (Expires side name x) p (expire table (side_at side p).end name x)) ≡ p
    by (Ok e) is rest = absurd (free x (0, omega arith, refl) (ends_in_use table (side_at side p).end name x e is))
    by (Err reason) is rest = rw is rest

-- The IDs of a message that can be sent expire nothing.
pub nothing_ends : (table : Table) (side : Side) (message : Message) (p : Progress) (next : End)
    → send table (side_at side p).end message ≡ Ok next
    → ids_ended_over table side (invoking_half message) (filter_map invoke_id (components_in message)) p ≡ p
nothing_ends table side message p next is = by (invoking_half message) refl
  where
    by : (half : Option HalfName) → invoking_half message ≡ half
        → ids_ended_over table side half (filter_map invoke_id (components_in message)) p ≡ p
    by None over = refl
    by (Some name) over =
        none_end table side name (filter_map invoke_id (components_in message)) p
        (λ id there. sent_frees table (side_at side p).end next message name id is over there)

-- The message is sent without expiries.
pub sends_as_is : (table : Table) (side : Side) (fate : Fate) (number : ℕ) (message : Message) (p : Progress) (next : End)
    → send table (side_at side p).end message ≡ Ok next
    → send_kept table side fate number message p ≡ Ok (sent_by (Sends side message) side fate number message (with_side_end side next p))
sends_as_is table side fate number message p next is =
    ap (λ (before : Progress). sent_or_not side fate number message before (send table (side_at side before).end message))
    (nothing_ends table side message p next is)
    ∙ ap (sent_or_not side fate number message p) is

-- ---- steps by which an end sends, or its provider answers

-- A provider that may not answer is refused.
pub not_answered : (side : Side) (fate : Fate) (number : ℕ) (abort : Message) (taken : ℕ) (messages : List Waiting) (p : Progress)
    → first_may_be_answered side abort taken messages p ≡ false
    → first_answered side fate number abort taken messages p ≡ Err (fault_at BadReply number)
not_answered side fate number abort taken [] p is = refl
not_answered side fate number abort taken (first ∷ more) p is = rw is refl

-- A provider that may answer takes the first message.
pub answered : (side : Side) (fate : Fate) (number : ℕ) (abort : Message) (taken : ℕ) (messages : List Waiting) (p : Progress)
    → first_may_be_answered side abort taken messages p ≡ true
    → first_answered side fate number abort taken messages p
    ≡ Ok (sent_by (Replies side taken) side fate number abort (with_waiting (other side) (drop 1 messages) p))
answered side fate number abort taken [] p is = cc
answered side fate number abort taken (m ∷ more) p is = rw is refl

-- ---- IDs that are invoked again

-- The components that are left have the same result from here as all components from the start. Each component so far
-- made at most one step.
pub record Ends (table : Table) (side : Side) (half : Option HalfName) (all : List Component) (start : Progress)
    (left : List Component) (now : Progress) : Type 0 where
  pub same : ids_ended_over table side half (filter_map invoke_id left) now
      ≡ ids_ended_over table side half (filter_map invoke_id all) start
  pub room : now.moves + length left ≤ start.moves + length all
  pub still : IsAsMany start now

pub ends_all : (table : Table) (side : Side) (half : Option HalfName) (all : List Component) (start : Progress)
    → Ends table side half all start all start
ends_all table side half all start = record { same = refl; room = omega arith; still = (refl, refl) }

tried : (table : Table) (side : Side) (name : HalfName) (id : ℤ) (p : Progress) → (end_tried table side name id p).moves ≤ p.moves + 1
tried table side name id p = by (expire table (side_at side p).end name id)
  where
    event : Event
    event = Expires side name id

    sides_moves : (side : Side) (e : End) → (moved event (with_side_end side e p)).moves ≡ p.moves + 1
    sides_moves sides.A e = refl
    sides_moves sides.B e = refl

    by : (o : Result End EndFault) → (or_still side event p o).moves ≤ p.moves + 1
    by (Ok e) = let is : (moved event (with_side_end side e p)).moves ≡ p.moves + 1 = sides_moves side e in omega (arith, is)
    by (Err reason) = omega arith

tried_still : (table : Table) (side : Side) (name : HalfName) (id : ℤ) (p : Progress) → IsAsMany p (end_tried table side name id p)
tried_still table side name id p = by side (expire table (side_at side p).end name id)
  where
    event : Event
    event = Expires side name id

    by : (side : Side) (o : Result End EndFault) → IsAsMany p (or_still side event p o)
    by sides.A (Ok e) = (refl, refl)
    by sides.B (Ok e) = (refl, refl)
    by side (Err reason) = (refl, refl)

invoked_still : (table : Table) (side : Side) (half : Option HalfName) (id : Option ℤ) (p : Progress) → IsAsMany p (invoked_ended table side half id p)
invoked_still table side None id p = (refl, refl)
invoked_still table side (Some name) None p = (refl, refl)
invoked_still table side (Some name) (Some id) p = tried_still table side name id p

-- One more component.
pub ends_more : {table : Table} {side : Side} {half : Option HalfName} {all left more : List Component} {start now : Progress} {component : Component}
    → Ends table side half all start left now → left ≡ component ∷ more
    → Ends table side half all start more (invoked_ended table side half (invoke_id component) now)
ends_more {table} {side} {half} {all} {left} {more} {start} {now} {component} ends is = record {
  same = by half (invoke_id component) refl ∙ ap (λ (x : List Component). ids_ended_over table side half (filter_map invoke_id x) now) (sym is) ∙ ends.same;
  room = let counted : length left ≡ suc (length more) = ap length is in
      let step : (invoked_ended table side half (invoke_id component) now).moves ≤ now.moves + 1 = one half (invoke_id component) in
      omega (arith, counted, step, ends.room);
  still = let one_still = invoked_still table side half (invoke_id component) now in
      (one_still.0 ∙ ends.still.0, one_still.1 ∙ ends.still.1);
}
  where
    one : (h : Option HalfName) (o : Option ℤ) → (invoked_ended table side h o now).moves ≤ now.moves + 1
    one None o = omega arith
    one (Some name) None = omega arith
    one (Some name) (Some id) = tried table side name id now

    by : (h : Option HalfName) (o : Option ℤ) → invoke_id component ≡ o
        → ids_ended_over table side h (filter_map invoke_id more) (invoked_ended table side h o now)
        ≡ ids_ended_over table side h (filter_map invoke_id (component ∷ more)) now
    by None None e = refl
    by None (Some id) e = refl
    by (Some name) None e = rw e refl
    by (Some name) (Some id) e = rw e refl

pub ends_none : {table : Table} {side : Side} {half : Option HalfName} {all left : List Component} {start now : Progress}
    → Ends table side half all start left now → left ≡ []
    → now ≡ ids_ended_over table side half (filter_map invoke_id all) start
ends_none {table} {side} {half} {all} {left} {start} {now} ends is =
    by half ∙ ap (λ (x : List Component). ids_ended_over table side half (filter_map invoke_id x) now) (sym is) ∙ ends.same
  where
    by : (h : Option HalfName) → now ≡ ids_ended_over table side h [] now
    by None = refl
    by (Some name) = refl
