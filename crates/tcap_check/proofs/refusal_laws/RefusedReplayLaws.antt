-- A refused replay is extended up to the first step that cannot happen, by steps that send nothing.
use Rattle.std.proofs.Common.{◌≡◌, ℕ, ◌+◌, ◌==◌, Bool, true, false, cond, List, [], ◌∷◌, ◌++◌, length, Option, Some, None, Result, Ok, Err, refl, ap, subst, ◌∙◌, append-nil}
use Rattle.std.specs.Prelude.{◌||◌, not, slice_get}
use Rattle.tcap_msg.specs.declared.message.Message.{Message}
use Rattle.tcap_record.specs.declared.entry.End.{End as Side}
use Rattle.tcap_record.specs.declared.entry.End.TheVariants as sides
use Rattle.tcap_record.specs.Ends.{other}
use Rattle.tcap_end.specs.declared.half.HalfName.{HalfName}
use Rattle.tcap_end.specs.HiddenSteps.{open_halves}
use Rattle.tcap_end.specs.Table.{Table}
use Rattle.tcap_end.proofs.AnsweringLaws.{ok_same, some_ok, then_ok}
use Rattle.tcap_model.specs.declared.reason.Reason.{Reason}
use Rattle.tcap_model.specs.declared.reason.Reason.TheVariants.{BadReply}
use Rattle.tcap_model.specs.World.{Item, Sent, end_at}
use Rattle.tcap_model.specs.Run.{Adds, Event, Sends, Receives, Replies, Loses, Expires, Closes, Quiet, Tells}
use Rattle.tcap_certificate.specs.declared.certificate.Fate.{Fate}
use Rattle.tcap_certificate.specs.declared.certificate.Fate.TheVariants.{Gap, Lost, By}
use Rattle.tcap_certificate.specs.declared.fault.CheckFault.{CheckFault}
use Rattle.tcap_certificate.specs.Certificate.{Certificate}
use Rattle.tcap_certificate.specs.DescribedRun.{invoking_half, is_loss, sending_by}
use Rattle.tcap_certificate.specs.Replay.{Replay, closed_at_mark, delivery_by, fault_at, gap_by, implied_over, is_due, is_gap, is_judged, is_nothing, is_overtaking, lost_from_front, lost_last, next_entry, received, stepped, tied}
use Rattle.tcap_check.specs.CheckerMeaning.{is_alone}
use Rattle.tcap_check.specs.PartialReplay.{as_far, behind_or, deliveries_so_far, fated_so_far, gap_so_far, halves_so_far, losses_before, mark_so_far, message_so_far, next_so_far, quiet_so_far, sending_so_far, listed_so_far}
use Rattle.tcap_check.specs.RunSoFar.{IsRunWithDiscards}
use Rattle.tcap_check.proofs.one_end_lemmas.AloneReplays.{closed_leads, gap_leads, heard_leads, stepped_adds}
use Rattle.tcap_check.proofs.replay_laws.DiscardReasons.{tells_front, tells_heard, tells_kept, tells_step}
use Rattle.tcap_check.proofs.replay_laws.ReplayInvariants.{closed_keeps, gap_keeps, over_keeps, one_keeps}
use Rattle.tcap_check.proofs.replay_laws.ReplayLaws.{gap_replays, implied_by, one_replays}
use Rattle.tcap_check.proofs.replay_laws.ReplaySteps.{Extends, extends_nothing, extends_then, losing_replays, stepped_extends}
use Rattle.tcap_check.specs.declared.listed_steps.ListedStep.{ListedStep}
use Rattle.tcap_check.specs.ListedSteps.{all_replayed, listed_for, listed_replayed}

-- ---- extended replays

-- Steps lead from one replay to the other and send nothing. The discards still account for the losses.
abbrev pub GoesOn : Option Side → Table → Certificate → Replay → Replay → Type 0
GoesOn judged table c r next = (more : List Event) × Extends table r more next × (next.world.sent ≡ r.world.sent)
    × (IsRunWithDiscards judged table c r → IsRunWithDiscards judged table c next)

module _ (judged : Option Side) (table : Table) (c : Certificate) where
  abbrev Goes : Replay → Replay → Type 0
  Goes = GoesOn judged table c

  goes_then : (r mid next : Replay) → Goes r mid → Goes mid next → Goes r next
  goes_then r mid next a b = (_, extends_then table r mid next a.0 b.0 a.1 b.1, b.2 ∙ a.2, λ so. b.3 (a.3 so))

  front_goes : (sender : Side) (r : Replay) → Goes r (lost_from_front c sender r)
  front_goes sender r =
      let losses = losing_replays table c sender r in
      (losses.steps, losses.extends, losses.sent ∙ append-nil r.world.sent, tells_front judged table c sender r)

  step_goes : (event : Event) (r next : Replay) → is_loss event ≡ false → ((items : List Item) → Adds r.world event items → items ≡ [])
      → stepped table event r ≡ Some next → Goes r next
  step_goes event r next plain none is =
      let s = stepped_adds table event r next is in (
        event ∷ [],
        stepped_extends table event r next is,
        s.2 ∙ ap (λ (x : List Item). r.world.sent ++ x) (none s.0 s.1) ∙ append-nil r.world.sent,
        tells_step judged table c event r next plain is,
      )

  same_goes : (r : Replay) → Goes r r
  same_goes r = ([], extends_nothing table r, refl, λ so. so)

  same_on : (r next : Replay) → (let x : Result Replay CheckFault = Ok r in x) ≡ Ok next → Goes r next
  same_on r next is = subst (Goes r) (ok_same {F = CheckFault} r next is) (same_goes r)

  -- A replay is extended by each step that is Ok.
  or_goes : (r left : Replay) (o : Result Replay CheckFault) (on : Replay → Replay) → Goes r left
      → ((next : Replay) → o ≡ Ok next → Goes r (on next)) → Goes r (behind_or o left on)
  or_goes r left (Ok next) on here more = more next refl
  or_goes r left (Err fault) on here more = here

  as_far_goes : {X : Type 0} (step : X → Replay → Result Replay CheckFault)
      → ((x : X) (r next : Replay) → step x r ≡ Ok next → Goes r next) → (xs : List X) (r : Replay) → Goes r (as_far step xs r)
  as_far_goes step each [] r = same_goes r
  as_far_goes step each (x ∷ more) r =
      or_goes r r (step x r) (as_far step more) (same_goes r)
      (λ next is. goes_then r next (as_far step more next) (each x r next is) (as_far_goes step each more next))

  -- ---- a gap

  one_goes : (x : ListedStep) (r next : Replay) → listed_replayed table c x r ≡ Ok next → Goes r next
  one_goes x r next is =
      let found = one_replays table c x r next is in (
        found.2.steps,
        found.2.extends,
        found.2.sent ∙ append-nil r.world.sent,
        one_keeps judged table c (IsRunWithDiscards judged table c) (tells_kept judged table c) x r next is,
      )

  listed_go : (xs : List ListedStep) (r next : Replay) → all_replayed table c xs r ≡ Ok next → Goes r next
  listed_go [] r next is = same_on r next is
  listed_go (x ∷ more) r next is =
      let then = then_ok (listed_replayed table c x r) (all_replayed table c more) next is in
      goes_then r then.0 next (one_goes x r then.0 then.1) (listed_go more then.0 next then.2)

received_goes : (table : Table) (c : Certificate) (judged : Option Side) (sender : Side) (number : ℕ) (r next : Replay)
    → received judged table c sender number r ≡ Ok next → GoesOn judged table c r next
received_goes table c None sender number r next is =
    let before = lost_from_front c (other (other sender)) r in
    let event = Receives (other sender) number in
    goes_then None table c r before next (front_goes None table c (other (other sender)) r)
    (step_goes None table c event before next refl (λ items none. none) (some_ok (stepped table event before) (fault_at BadReply number) next is))
received_goes table c (Some side) sender number r next is =
    let leads = heard_leads side table c number r next is in
    (leads.steps, leads.extends, leads.sent ∙ append-nil r.world.sent, tells_heard side table c number r next is)

last_goes : (table : Table) (c : Certificate) (judged : Option Side) (r : Replay) → GoesOn judged table c r (lost_last judged c r)
last_goes table c None r =
    let mid = lost_from_front c sides.A r in
    goes_then None table c r mid (lost_from_front c sides.B mid) (front_goes None table c sides.A r) (front_goes None table c sides.B mid)
last_goes table c (Some side) r = front_goes (Some side) table c (other side) r

delivery_goes : (table : Table) (c : Certificate) (judged : Option Side) (gap n : ℕ) (fate : Fate) (item : Item) (r next : Replay)
    → delivery_by judged table c gap n fate item r ≡ Ok next → GoesOn judged table c r next
delivery_goes table c judged gap n (Gap g) (Sent sender message) r next is = by (is_due judged gap g sender) is
  where
    by : (b : Bool) → cond b (received judged table c sender n r) (Ok r) ≡ Ok next → GoesOn judged table c r next
    by true e = received_goes table c judged sender n r next e
    by false e = same_on judged table c r next e
delivery_goes table c judged gap n (Gap g) Item.Quiet r next is = same_on judged table c r next is
delivery_goes table c judged gap n (By k) item r next is = same_on judged table c r next is
delivery_goes table c judged gap n Lost item r next is = same_on judged table c r next is

losses_go : (table : Table) (c : Certificate) (judged : Option Side) (gap : ℕ) (fate : Fate) (item : Item) (r : Replay)
    → GoesOn judged table c r (losses_before judged c gap fate item r)
losses_go table c judged gap (Gap g) (Sent sender message) r = by (is_due judged gap g sender)
  where
    by : (b : Bool) → GoesOn judged table c r (cond b (lost_from_front c sender r) r)
    by true = front_goes judged table c sender r
    by false = same_goes judged table c r
losses_go table c judged gap (Gap g) Item.Quiet r = same_goes judged table c r
losses_go table c judged gap (By k) item r = same_goes judged table c r
losses_go table c judged gap Lost item r = same_goes judged table c r

deliveries_far : (table : Table) (c : Certificate) (judged : Option Side) (gap n : ℕ) (fates : List Fate) (items : List Item) (r : Replay)
    → GoesOn judged table c r (deliveries_so_far judged table c gap n fates items r)
deliveries_far table c judged gap n [] items r = same_goes judged table c r
deliveries_far table c judged gap n (fate ∷ fates) [] r = same_goes judged table c r
deliveries_far table c judged gap n (fate ∷ fates) (item ∷ items) r =
    or_goes judged table c r (losses_before judged c gap fate item r) (delivery_by judged table c gap n fate item r)
    (deliveries_so_far judged table c gap (n + 1) fates items) (losses_go table c judged gap fate item r)
    (λ next is. goes_then judged table c r next (deliveries_so_far judged table c gap (n + 1) fates items next)
    (delivery_goes table c judged gap n fate item r next is) (deliveries_far table c judged gap (n + 1) fates items next))

gap_far : (table : Table) (c : Certificate) (judged : Option Side) (r : Replay) → GoesOn judged table c r (gap_so_far judged table c r)
gap_far table c judged r =
    let listed : List ListedStep = listed_for judged c (next_entry r) in
    let last = deliveries_so_far judged table c (next_entry r) 0 c.fates r.world.sent in
    or_goes judged table c r (listed_so_far table c listed r) (all_replayed table c listed r) last
    (as_far_goes judged table c (listed_replayed table c) (one_goes judged table c) listed r)
    (λ hidden is. goes_then judged table c r hidden (last hidden) (listed_go judged table c listed r hidden is)
    (deliveries_far table c judged (next_entry r) 0 c.fates r.world.sent hidden))

gap_goes : (table : Table) (c : Certificate) (judged : Option Side) (r next : Replay) → gap_by judged table c r ≡ Ok next
    → GoesOn judged table c r next
gap_goes table c None r next is =
    let found = gap_replays table c r next is in (
      found.2.steps,
      found.2.extends,
      found.2.sent ∙ append-nil r.world.sent,
      gap_keeps None table c (IsRunWithDiscards None table c) (tells_kept None table c) r next is,
    )
gap_goes table c (Some side) r next is =
    let found = gap_leads side table c r next is in (
      found.steps,
      found.extends,
      found.sent ∙ append-nil r.world.sent,
      gap_keeps (Some side) table c (IsRunWithDiscards (Some side) table c) (tells_kept (Some side) table c) r next is,
    )

-- ---- an entry

implied_goes : (table : Table) (c : Certificate) (judged : Option Side) (side : Side) (message : Message) (r : Replay)
    → GoesOn judged table c r (implied_over table side message (invoking_half message) r)
implied_goes table c judged side message r =
    let found = implied_by table side message r in (
      found.2.steps,
      found.2.extends,
      found.2.sent ∙ append-nil r.world.sent,
      over_keeps judged table c (IsRunWithDiscards judged table c) (tells_kept judged table c) side message (invoking_half message) r,
    )

message_far : (table : Table) (c : Certificate) (judged : Option Side) (side : Side) (message : Message) (o : Option Event) (r : Replay)
    → GoesOn judged table c r (message_so_far table c side message o r)
message_far table c judged side message (Some (Sends sender sent)) r = implied_goes table c judged side message r
message_far table c judged side message (Some (Replies replier n)) r = front_goes judged table c (other side) r
message_far table c judged side message (Some (Receives at n)) r = same_goes judged table c r
message_far table c judged side message (Some (Loses at n)) r = same_goes judged table c r
message_far table c judged side message (Some (Expires at name id)) r = same_goes judged table c r
message_far table c judged side message (Some (Closes at name)) r = same_goes judged table c r
message_far table c judged side message (Some Quiet) r = same_goes judged table c r
message_far table c judged side message (Some (Tells at m)) r = same_goes judged table c r
message_far table c judged side message None r = same_goes judged table c r

sending_far : (table : Table) (c : Certificate) (judged : Option Side) (side : Side) (message : Message) (r : Replay)
    → GoesOn judged table c r (sending_so_far judged table c side message r)
sending_far table c judged side message r = by (is_judged judged side)
  where
    event : Option Event
    event = sending_by c (next_entry r) (Sent side message) (tied judged c r)

    by : (b : Bool) → GoesOn judged table c r (cond b (message_so_far table c side message event r) r)
    by true = message_far table c judged side message event r
    by false = same_goes judged table c r

closed_goes : (table : Table) (c : Certificate) (side : Side) (mark : ℕ) (names : List HalfName) (r next : Replay)
    → closed_at_mark table side mark names r ≡ Ok next → GoesOn (Some side) table c r next
closed_goes table c side mark names r next is =
    let found = closed_leads side table mark names r next is in (
      found.steps,
      found.extends,
      found.sent ∙ append-nil r.world.sent,
      closed_keeps (Some side) table c (IsRunWithDiscards (Some side) table c) (tells_kept (Some side) table c) side mark names r next is,
    )

mark_far : (table : Table) (c : Certificate) (judged : Option Side) (r : Replay) → GoesOn judged table c r (mark_so_far judged table c r)
mark_far table c judged r = by judged (is_nothing (tied judged c r))
  where
    quiet : (who : Option Side) → GoesOn who table c r (quiet_so_far who table c r)
    quiet None = last_goes table c None r
    quiet (Some side) =
        let halves = open_halves (end_at side r.world) in
        let mark = next_entry r in
        or_goes (Some side) table c r (halves_so_far table side mark halves r) (closed_at_mark table side mark halves r) (lost_last (Some side) c)
        (as_far_goes (Some side) table c (λ name. closed_at_mark table side mark (name ∷ [])) (λ name. closed_goes table c side mark (name ∷ [])) halves r)
        (λ closed is. goes_then (Some side) table c r closed (lost_last (Some side) c closed) (closed_goes table c side mark halves r closed is)
        (last_goes table c (Some side) closed))

    by : (who : Option Side) (b : Bool) → GoesOn who table c r (cond b (quiet_so_far who table c r) r)
    by who true = quiet who
    by who false = same_goes who table c r

-- A replay is extended after its gap.
behind_goes : (table : Table) (c : Certificate) (judged : Option Side) (so : Bool) (on : Replay → Replay) (r : Replay)
    → ((next : Replay) → GoesOn judged table c next (on next))
    → GoesOn judged table c r (cond so (behind_or (gap_by judged table c r) (gap_so_far judged table c r) on) r)
behind_goes table c judged false on r then = same_goes judged table c r
behind_goes table c judged true on r then =
    or_goes judged table c r (gap_so_far judged table c r) (gap_by judged table c r) on (gap_far table c judged r)
    (λ next is. goes_then judged table c r next (on next) (gap_goes table c judged r next is) (then next))

-- A refused replay is extended up to the first step that cannot happen.
pub next_goes : (table : Table) (c : Certificate) (judged : Option Side) (entries : List (Result Item Reason)) (r : Replay)
    → GoesOn judged table c r (next_so_far judged table c entries r)
next_goes table c judged [] r = behind_goes table c judged (next_entry r == length c.fates) (lost_last judged c) r (last_goes table c judged)
next_goes table c judged (Err reason ∷ more) r = same_goes judged table c r
next_goes table c judged (Ok item ∷ more) r = by (slice_get c.fates (next_entry r)) item
  where
    by : (o : Option Fate) (item : Item) → GoesOn judged table c r (fated_so_far judged table c o item r)
    by None item = same_goes judged table c r
    by (Some fate) (Sent sender message) =
        behind_goes table c judged (is_alone judged sender || not (is_overtaking sender fate c.fates r.world.sent))
        (sending_so_far judged table c sender message) r (sending_far table c judged sender message)
    by (Some fate) Item.Quiet =
        behind_goes table c judged (is_gap (next_entry r + 1) fate) (mark_so_far judged table c) r (mark_far table c judged)
