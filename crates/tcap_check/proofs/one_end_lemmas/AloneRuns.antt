-- What a certificate gives for one end is a run of this end that sends the entries, and leaves no message of its peer.
use Rattle.std.proofs.Common.{arith, ◌≡◌, ◌≤◌, ◌<◌, ◌⊎◌, inl, inr, ℕ, zero, suc, ◌+◌, ◌==◌, Bool, true, false, cond, List, [], ◌∷◌, map, filter, length, Option, Some, None, Result, Ok, refl, sym, ap, ◌∙◌, append-nil, ◌++◌, subst}
use Rattle.std.specs.Prelude.{get_or, ok_or, slice_get}
use Rattle.std.specs.List.{AllByRecursion}
use Rattle.std.proofs.lemmas.Bool.{eqb-true}
use Rattle.std.proofs.lemmas.Option.{slice_get_cases, slice_get_within}
use Rattle.tcap_record.specs.declared.entry.End.{End as Side}
use Rattle.tcap_record.specs.declared.entry.Entry.{Entry}
use Rattle.tcap_end.specs.Table.{Table}
use Rattle.tcap_end.proofs.AnsweringLaws.{needs_ok, ok_same, then_ok}
use Rattle.tcap_certificate.specs.declared.certificate.Fate.{Fate}
use Rattle.tcap_certificate.specs.declared.certificate.Fate.TheVariants.{Gap, Lost, By}
use Rattle.tcap_certificate.specs.declared.fault.CheckFault.{CheckFault}
use Rattle.tcap_model.specs.declared.reason.Reason.{Reason}
use Rattle.tcap_model.specs.declared.reason.Reason.TheVariants.{FateCount}
use Rattle.tcap_record.specs.Ends.{other}
use Rattle.tcap_model.specs.World.{Item, MessageInTransit, World, channel_from, empty, is_side}
use Rattle.tcap_model.specs.Run.{Event, Sends, Receives, Replies, Loses, Expires, Closes, Quiet, Tells, Runs, numbers_of, numbers_taken, played}
use Rattle.tcap_certificate.specs.Certificate.{Certificate}
use Rattle.tcap_model.specs.Entries.{item_of, AreItems, count_components}
use Rattle.tcap_certificate.specs.DescribedRun.{FatesFit, losses_from}
use Rattle.tcap_certificate.specs.Replay.{Replay, certificate_fits, entries_by, entry_by, fault_at, gap_by, lost_from_front, next_entry, nothing_replayed, replayed_by}
use Rattle.tcap_model.specs.SinceMark.{WasSent}
use Rattle.tcap_certificate.specs.LossCounts.{is_lost_from, unheard_of}
use Rattle.tcap_model.proofs.ChannelLaws.{in_order, were_sent}
use Rattle.tcap_check.proofs.given_run_lemmas.GivenLosses.{all_numbered, fits_gap, fits_reply, is_lost, says_lost}
use Rattle.tcap_check.proofs.given_run_lemmas.GivenRuns.{are_fit, both_ok, front_empty, are_items}
use Rattle.tcap_check.proofs.replay_laws.ReplaySteps.{channel_with, IsIn}
use Rattle.tcap_check.proofs.one_end_lemmas.AloneReplays.{entries_lead, gap_leads, front_leads, leads_then, Leads}
use Rattle.tcap_check.proofs.one_end_lemmas.AloneTaken.{IsAhead, HasTaken, entries_take}
use Rattle.tcap_check.proofs.given_run_lemmas.NumberLaws.{parts_apart}
use Rattle.tcap_check.specs.OneEndRun.{IsGivenFor}
use Rattle.tcap_check.proofs.one_end_lemmas.AloneCounts.{own_keeps, own_most, unheard_most}

-- ---- messages that are left

-- Fates in range come after their entries.
fits_after : (count n i : ℕ) (f : Fate) (fates : List Fate) → FatesFit count n fates → slice_get fates i ≡ Some f
    → ((g : ℕ) → f ≡ Gap g → n + i < g) × ((k : ℕ) → f ≡ By k → n + i < k)
fits_after count n i f [] fit at = cc
fits_after count n zero f (first ∷ fates) fit at = by first fit (cc)
  where
    by : (first : Fate) → FatesFit count n (first ∷ fates) → f ≡ first
        → ((g : ℕ) → f ≡ Gap g → n + 0 < g) × ((k : ℕ) → f ≡ By k → n + 0 < k)
    by (Gap h) fit same = (λ g is. let e : h ≡ g = cc in omega (arith, fit.0, e), λ k is. cc)
    by (By h) fit same = (λ g is. cc, λ k is. let e : h ≡ k = cc in omega (arith, fit.0, e))
    by Lost fit same = (λ g is. cc, λ k is. cc)
fits_after count n (suc i) f (first ∷ fates) fit at =
    let rest = fits_after count (n + 1) i f fates (by first fit) at in
    (λ g is. omega (arith, rest.0 g is), λ k is. omega (arith, rest.1 k is))
  where
    by : (first : Fate) → FatesFit count n (first ∷ fates) → FatesFit count (n + 1) fates
    by (Gap g) fit = fit.2
    by (By k) fit = fit.2
    by Lost fit = fit

-- There are as many fates as entries.
counted : (side : Side) (table : Table) (c : Certificate) (entries : List (Result Item Reason)) (r next : Replay)
    → entries_by (Some side) table c entries r ≡ Ok next → length next.world.sent ≡ length c.fates
counted side table c [] r next is =
    let so = needs_ok (next_entry r == length c.fates) (fault_at FateCount (next_entry r))
    (gap_by (Some side) table c r) next is in
    ap length ((gap_leads side table c r next so.1).sent ∙ append-nil r.world.sent)
    ∙ eqb-true (next_entry r) (length c.fates) so.0
counted side table c (entry ∷ entries) r next is =
    let fate = then_ok (ok_or (slice_get c.fates (next_entry r)) (fault_at FateCount (next_entry r))) _ next is in
    let one = then_ok (entry_by (Some side) table c fate.0 entry r) (entries_by (Some side) table c entries) next fate.2 in
    counted side table c entries one.0 next one.2

-- Each message that is left on its way has a loss as its fate.
left_is_lost : (side : Side) (table : Table) (c : Certificate) (r : Replay) → FatesFit (length c.fates) 0 c.fates
    → length r.world.sent ≡ length c.fates → Runs table r.events r.world
    → ((m : MessageInTransit) (f : Fate) → slice_get c.fates m.number ≡ Some f → IsAhead f m.number 0 (length c.fates)
    → WasSent r.world (other side) m → HasTaken side m.number r)
    → AllByRecursion (λ m. is_lost c.fates m.number ≡ true) (channel_from (other side) r.world)
left_is_lost side table c r fit count runs taken =
    all_numbered (WasSent r.world (other side)) (λ m. is_lost c.fates m.number ≡ true)
    (channel_from (other side) r.world)
    (were_sent table r.events r.world runs (other side))
    (λ m was there. by m was there (slice_get c.fates m.number) refl)
  where
    apart : (m : MessageInTransit) → IsIn m.number (numbers_of (channel_from (other side) r.world))
        → HasTaken side m.number r → ⊥
    apart m there took = parts_apart m.number (numbers_taken (other side) r.events)
        (numbers_of (channel_from (other side) r.world)) (in_order table r.events r.world runs (other side)) took there

    absent : (m : MessageInTransit) → WasSent r.world (other side) m → slice_get c.fates m.number ≡ None → ⊥
    absent m was none = which (slice_get_cases c.fates m.number).1
      where
        within : m.number < length r.world.sent
        within = slice_get_within r.world.sent m.number _ was.listed

        which : ((x : Fate) × (m.number < length c.fates) × (slice_get c.fates m.number ≡ Some x)
            × (get_or c.fates m.number x ≡ x))
            ⊎ ((length c.fates ≤ m.number) × (slice_get c.fates m.number ≡ None)) → ⊥
        which (inl found) = let is = found.2 in cc
        which (inr past) = absurd (omega (arith, past.0, count, within))

    by : (m : MessageInTransit) → WasSent r.world (other side) m
        → IsIn m.number (numbers_of (channel_from (other side) r.world))
        → (o : Option Fate) → slice_get c.fates m.number ≡ o → is_lost c.fates m.number ≡ true
    by m was there None at = absurd (absent m was at)
    by m was there (Some Lost) at = ap says_lost at
    by m was there (Some (Gap g)) at =
        let low = (fits_after (length c.fates) 0 m.number (Gap g) c.fates fit at).0 g refl in
        let high = fits_gap (length c.fates) 0 c.fates m.number g fit at in
        absurd (apart m there (taken m (Gap g) at (omega (arith, low), omega arith, high) was))
    by m was there (Some (By k)) at =
        let low = (fits_after (length c.fates) 0 m.number (By k) c.fates fit at).1 k refl in
        let high = fits_reply (length c.fates) 0 c.fates m.number k fit at in
        absurd (apart m there (taken m (By k) at (omega (arith, low), omega arith, high) was))

-- So no message is left.
pub none_waits : (side : Side) (table : Table) (c : Certificate) (entries : List Entry)
    (events : List Event) (w : World)
    → replayed_by (Some side) table c entries ≡ Ok events → Runs table events w → channel_from (other side) w ≡ []
none_waits side table c entries events w is runs =
    let fits = both_ok (certificate_fits c) _ events is in
    let (r, done, last_ok) = then_ok (entries_by (Some side) table c (map item_of entries) nothing_replayed)
    _ events fits.2 in
    let heard = entries_lead side table c (map item_of entries) nothing_replayed r done in
    let last = lost_from_front c (other side) r in
    let all = leads_then side table nothing_replayed r last heard.items [] heard.leads
    (front_leads side table c (other side) r) in
    let to_r : Runs table r.events r.world =
    ap (λ (steps : List Event). played table steps empty) heard.leads.extends.events ∙ heard.leads.extends.plays in
    let to_last : Runs table events last.world =
    ap (λ (steps : List Event). played table steps empty)
    (sym (ok_same {F = CheckFault} last.events events last_ok) ∙ all.extends.events) ∙ all.extends.plays in
    let same : w ≡ last.world = some_world (sym runs ∙ to_last) in
    let lost = left_is_lost side table c r (are_fit c fits.1).fates
    (counted side table c (map item_of entries) nothing_replayed r done)
    to_r (λ m f at ahead was.
    entries_take side table c (map item_of entries) nothing_replayed r m.message m.number f done at ahead was.listed) in
    ap (channel_from (other side)) same ∙ channel_with (other side) _ r.world
    ∙ front_empty c.fates (channel_from (other side) r.world) lost
  where
    some_world : {x y : World} → (let o : Option World = Some x in o) ≡ Some y → x ≡ y
    some_world e = cc

-- ---- unheard messages

pub unheard_are_lost : (side : Side) (events : List Event) → unheard_of side events
    ≡ length (losses_from (other side) events)
unheard_are_lost side [] = refl
unheard_are_lost side (event ∷ events) = by event (unheard_are_lost side events)
  where
    others : List Event
    others = filter (is_lost_from (other side)) events

    lost : List ℕ
    lost = losses_from (other side) events

    if_so : (b : Bool) (event : Event) (n : ℕ) → length others ≡ length lost
        → length (cond b (event ∷ others) others) ≡ length (cond b (n ∷ lost) lost)
    if_so true event n rest = ap suc rest
    if_so false event n rest = rest

    by : (event : Event) → length others ≡ length lost
        → length (filter (is_lost_from (other side)) (event ∷ events))
        ≡ length (losses_from (other side) (event ∷ events))
    by (Loses sender n) rest = if_so (is_side (other side) sender) (Loses sender n) n rest
    by (Sends sender m) rest = rest
    by (Receives receiver n) rest = rest
    by (Replies replier n) rest = rest
    by (Expires actor name id) rest = rest
    by (Closes actor name) rest = rest
    by Quiet rest = rest
    by (Tells teller m) rest = rest

-- ---- the run of one end

-- Steps that lead from nothing to these items are such a run.
led_from_nothing : (side : Side) (table : Table) (c : Certificate) (entries : List Entry) (items : List Item)
    (next : Replay)
    → AreItems entries items → length items ≡ length entries → Leads side table nothing_replayed items next
    → channel_from (other side) next.world ≡ [] → IsGivenFor side table entries next.events
led_from_nothing side table c entries items next are count leads left =
    let runs = leads.extends.plays in
    let sent : next.world.sent ≡ items = leads.sent in
    subst (IsGivenFor side table entries) (sym leads.extends.events) (record {
      items = items;
      are = are;
      run = (next.world, runs, sent);
      keeps = own_keeps side leads.steps leads.own;
      left = left;
      bound = omega (
        arith,
        own_most table side leads.steps next.world runs leads.own,
        count,
        ap length sent,
        ap count_components sent,
      );
      unheard = omega (arith, unheard_most table side leads.steps next.world runs, count, ap length sent);
    })

pub gives_for : (side : Side) (table : Table) (c : Certificate) (entries : List Entry) (events : List Event)
    → replayed_by (Some side) table c entries ≡ Ok events → IsGivenFor side table entries events
gives_for side table c entries events is =
    let fits = both_ok (certificate_fits c) _ events is in
    let r = then_ok (entries_by (Some side) table c (map item_of entries) nothing_replayed) _ events fits.2 in
    let heard = entries_lead side table c (map item_of entries) nothing_replayed r.0 r.1 in
    let are = are_items entries heard.items heard.are in
    let last = lost_from_front c (other side) r.0 in
    let none : heard.items ++ [] ≡ heard.items = append-nil heard.items in
    let all = leads_then side table nothing_replayed r.0 last heard.items [] heard.leads
    (front_leads side table c (other side) r.0) in
    let led = subst (λ (x : List Item). Leads side table nothing_replayed x last) none all in
    let same : last.events ≡ events = ok_same {F = CheckFault} last.events events r.2 in
    let left = none_waits side table c entries events last.world is
    (subst (λ (x : List Event). Runs table x last.world) (sym led.extends.events ∙ same) led.extends.plays) in
    subst (IsGivenFor side table entries) same (led_from_nothing side table c entries heard.items last are.0 are.1 led left)
