-- Entries that are replayed one by one follow the certificate apart from losses.
use Rattle.std.proofs.Common.{◌≡◌, ℕ, ◌+◌, ◌==◌, true, List, [], ◌∷◌, ◌++◌, map, length, Option, Some, None, Result, Ok, Err, refl, sym, ap, ap₂, subst, ◌∙◌, append_assoc, append-nil}
use Rattle.std.specs.Prelude.{not, ok_or, slice_get}
use Rattle.std.proofs.lemmas.Bool.{eqb-true}
use Rattle.std.proofs.lemmas.List.{length-append}
use Rattle.tcap_msg.specs.declared.message.Message.{Message}
use Rattle.tcap_record.specs.declared.entry.End.{End as Side}
use Rattle.tcap_record.specs.declared.entry.Body.{Body}
use Rattle.tcap_record.specs.declared.entry.Body.TheVariants.{Good, Bad, Quiet as QuietMark}
use Rattle.tcap_record.specs.declared.entry.Entry.{Entry}
use Rattle.tcap_end.specs.Table.{Table}
use Rattle.tcap_end.proofs.AnsweringLaws.{needs_ok, some_ok, then_ok}
use Rattle.tcap_model.specs.Entries.{IsItem, item_by as item_read, item_of}
use Rattle.tcap_model.specs.World.{Item, Sent}
use Rattle.tcap_model.specs.Run.{Event, Quiet, after}
use Rattle.tcap_certificate.specs.declared.certificate.Fate.{Fate}
use Rattle.tcap_certificate.specs.declared.certificate.Fate.TheVariants.{Gap, Lost, By}
use Rattle.tcap_certificate.specs.Certificate.{Certificate}
use Rattle.tcap_certificate.specs.DescribedRun.{FatesFit, FollowsFrom, gap_events, quiet_by, sending, sending_by, taken_by, without_losses}
use Rattle.tcap_model.specs.declared.reason.Reason.{Reason}
use Rattle.tcap_model.specs.declared.reason.Reason.TheVariants.{FateCount, FateRange, NotQuiet, OutOfOrder}
use Rattle.tcap_certificate.specs.Replay.{Replay, entries_by, entry_by, fault_at, gap_by, after_event, is_gap, is_nothing, is_overtaking, item_by, lost_from_both, mark_judged, next_entry, own_judged, stepped}
use Rattle.tcap_model.proofs.RunLaws.{grows, map_some}
use Rattle.tcap_check.proofs.replay_laws.ReplaySteps.{Extends, Replays, both_replay, extends_then, replays_then, stepped_replays, without_both}
use Rattle.tcap_check.proofs.replay_laws.ReplayLaws.{IsSentBy, gap_replays, message_replays}
use Rattle.tcap_check.proofs.replay_laws.ReplayGaps.{gap_events_before}

-- The gap before an item was replayed, and then the item.
pub record IsReplayedBy (table : Table) (c : Certificate) (item : Item) (r next : Replay) : Type 0 where
  pub here : List Event
  pub mid : Replay
  pub here_is : map Some here ≡ gap_events c r.world.sent (next_entry r)
  pub gap : Replays table r here [] mid
  pub sent : IsSentBy table c item mid next

-- A quiet mark.
pub quiet_happens : (table : Table) (c : Certificate) (entry : ℕ) (r next : Replay) → after_event table c Quiet NotQuiet entry r ≡ Ok next
    → Replays table r (Quiet ∷ []) (Item.Quiet ∷ []) next
quiet_happens table c entry r next is =
    let before = lost_from_both c r in
    let step = some_ok (stepped table Quiet before) (fault_at NotQuiet entry) next is in
    let found = map_some _ (after table Quiet before.world) next step in
    let g = grows table Quiet before.world found.0 found.1 in
    replays_then table r before next [] (Quiet ∷ []) [] (Item.Quiet ∷ []) (both_replay table c r)
    (stepped_replays table Quiet (Item.Quiet ∷ []) before next refl step
    (ap (λ (x : Replay). x.world.sent) (sym found.2) ∙ g.2 ∙ ap (λ (x : List Item). before.world.sent ++ x) g.1))

pub nothing_is : (numbers : List ℕ) → is_nothing numbers ≡ true → numbers ≡ []
nothing_is [] is = refl
nothing_is (n ∷ numbers) is = cc

quiet_is : (number : ℕ) (fate : Fate) → is_gap (number + 1) fate ≡ true → quiet_by number (Some fate) ≡ Some Quiet
quiet_is number (Gap g) is = rw is refl
quiet_is number Lost is = cc
quiet_is number (By k) is = cc

quiet_replays : (table : Table) (c : Certificate) (fate : Fate) (r next : Replay) → slice_get c.fates (next_entry r) ≡ Some fate
    → mark_judged None table c fate r ≡ Ok next → IsReplayedBy table c Item.Quiet r next
quiet_replays table c fate r next has is =
    let number = next_entry r in
    let so = needs_ok (is_gap (number + 1) fate) (fault_at FateRange number) _ next is in
    let gap = then_ok (gap_by None table c r) _ next so.1 in
    let here = gap_replays table c r gap.0 gap.1 in
    let free = needs_ok (is_nothing (taken_by number 0 c.fates)) (fault_at NotQuiet number) _ next gap.2 in
    let same : next_entry gap.0 ≡ number = ap length (here.2.sent ∙ append-nil r.world.sent) in
    let sends : sending c number Item.Quiet ≡ Some Quiet =
    ap (sending_by c number Item.Quiet) (nothing_is (taken_by number 0 c.fates) free.0) ∙ ap (quiet_by number) has
    ∙ quiet_is number fate so.0 in
    record {
      here = here.0;
      mid = gap.0;
      here_is = here.1;
      gap = here.2;
      sent = record {
        implied = [];
        sends = Quiet;
        are_implied = tt;
        sends_is = ap (λ (n : ℕ). sending c n Item.Quiet) same ∙ sends;
        replays = quiet_happens table c number gap.0 next free.1;
      };
    }

sent_replays : (table : Table) (c : Certificate) (fate : Fate) (side : Side) (message : Message) (r next : Replay)
    → own_judged None table c fate side message r ≡ Ok next → IsReplayedBy table c (Sent side message) r next
sent_replays table c fate side message r next is =
    let so = needs_ok (not (is_overtaking side fate c.fates r.world.sent)) (fault_at OutOfOrder (next_entry r)) _ next is in
    let gap = then_ok (gap_by None table c r) _ next so.1 in
    let here = gap_replays table c r gap.0 gap.1 in
    record { here = here.0; mid = gap.0; here_is = here.1; gap = here.2; sent = message_replays table c side message gap.0 next gap.2 }

pub item_replays : (table : Table) (c : Certificate) (fate : Fate) (item : Item) (r next : Replay) → slice_get c.fates (next_entry r) ≡ Some fate
    → item_by None table c fate item r ≡ Ok next → IsReplayedBy table c item r next
item_replays table c fate (Sent side message) r next has is = sent_replays table c fate side message r next is
item_replays table c fate Item.Quiet r next has is = quiet_replays table c fate r next has is

-- ---- entries

abbrev pub ok_item : Item → Result Item Reason
ok_item item = Ok item

pub item_is : (entry : Entry) (item : Item) → item_of entry ≡ Ok item → IsItem entry item
item_is entry item is = by entry.side entry.body refl refl is
  where
    by : (side : Option Side) (body : Body) → entry.side ≡ side → entry.body ≡ body → item_read side body ≡ Ok item → IsItem entry item
    by (Some side) (Good message) of at is = let same : Sent side message ≡ item = cc in subst (IsItem entry) same (of, at)
    by (Some side) (Bad fault) of at is = cc
    by (Some side) QuietMark of at is = cc
    by None (Good message) of at is = cc
    by None (Bad fault) of at is = cc
    by None QuietMark of at is = let same : Item.Quiet ≡ item = cc in subst (IsItem entry) same (of, at)

-- The replayed entries are these items, and the steps follow the certificate apart from losses.
pub record AreReplayed (table : Table) (c : Certificate) (entries : List (Result Item Reason)) (r next : Replay) : Type 0 where
  pub items : List Item
  pub are : map ok_item items ≡ entries
  pub steps : List Event
  pub extends : Extends table r steps next
  pub sent : next.world.sent ≡ r.world.sent ++ items
  pub counted : length next.world.sent ≡ length c.fates
  pub follows : FollowsFrom c (r.world.sent ++ items) (next_entry r) items (without_losses steps)

in_turn : (here implied : List Event) (sends : Event) (rest : List Event) → here ++ (implied ++ sends ∷ []) ++ rest ≡ here ++ implied ++ sends ∷ rest
in_turn here implied sends rest =
    ap (λ (x : List Event). x ++ rest) (sym (append_assoc here implied (sends ∷ []))) ∙ append_assoc (here ++ implied) (sends ∷ []) rest

one_entry : (table : Table) (c : Certificate) (entry : Result Item Reason) (entries : List (Result Item Reason)) (item : Item) (r mid next : Replay) (count : ℕ) → FatesFit count 0 c.fates
    → ok_item item ≡ entry → IsReplayedBy table c item r mid → AreReplayed table c entries mid next → AreReplayed table c (entry ∷ entries) r next
one_entry table c entry entries item r mid next count fit is one rest =
    let before = r.world.sent in
    let more = rest.items in
    let all = item ∷ more in
    let both = replays_then table r one.mid mid one.here _ [] (item ∷ []) one.gap one.sent.replays in
    let sent : mid.world.sent ≡ before ++ item ∷ [] = both.sent in
    let joined : mid.world.sent ++ more ≡ before ++ all = ap (λ (x : List Item). x ++ more) sent ∙ append_assoc before (item ∷ []) more in
    let number : next_entry mid ≡ next_entry r + 1 = ap length sent ∙ length-append before (item ∷ []) in
    let same : next_entry one.mid ≡ next_entry r = ap length (one.gap.sent ∙ append-nil before) in
    let follows : FollowsFrom c (before ++ all) (next_entry r + 1) more (without_losses rest.steps) =
    subst (λ (n : ℕ). FollowsFrom c (before ++ all) n more (without_losses rest.steps)) number
    (subst (λ (x : List Item). FollowsFrom c x (next_entry mid) more (without_losses rest.steps)) joined rest.follows) in
    record {
      items = all;
      are = ap₂ (λ (x : Result Item Reason) (xs : List (Result Item Reason)). x ∷ xs) is rest.are;
      steps = both.steps ++ rest.steps;
      extends = extends_then table r mid next both.steps rest.steps both.extends rest.extends;
      sent = rest.sent ∙ joined;
      counted = rest.counted;
      follows = (
        one.here,
        one.sent.implied,
        without_losses rest.steps,
        one.sent.sends,
        one.here_is ∙ sym (gap_events_before c count before all fit),
        one.sent.are_implied,
        ap (λ (n : ℕ). sending c n item) (sym same) ∙ one.sent.sends_is,
        without_both both.steps rest.steps ∙ ap (λ (x : List Event). x ++ without_losses rest.steps) both.are
            ∙ in_turn one.here one.sent.implied one.sent.sends (without_losses rest.steps),
        follows,
      );
    }

pub entries_replay : (table : Table) (c : Certificate) (entries : List (Result Item Reason)) (r next : Replay) (count : ℕ) → FatesFit count 0 c.fates
    → entries_by None table c entries r ≡ Ok next → AreReplayed table c entries r next
entries_replay table c [] r next count fit is =
    let so = needs_ok (next_entry r == length c.fates) (fault_at FateCount (next_entry r)) (gap_by None table c r) next is in
    let gap = gap_replays table c r next so.1 in
    record {
      items = [];
      are = refl;
      steps = gap.2.steps;
      extends = gap.2.extends;
      sent = gap.2.sent;
      counted = ap length (gap.2.sent ∙ append-nil r.world.sent) ∙ eqb-true (next_entry r) (length c.fates) so.0;
      follows = ap (map Some) gap.2.are ∙ gap.1 ∙ sym (gap_events_before c count r.world.sent [] fit);
    }
entries_replay table c (entry ∷ entries) r next count fit is =
    let fate = then_ok (ok_or (slice_get c.fates (next_entry r)) (fault_at FateCount (next_entry r))) _ next is in
    let has = some_ok (slice_get c.fates (next_entry r)) (fault_at FateCount (next_entry r)) fate.0 fate.1 in
    let one = then_ok (entry_by None table c fate.0 entry r) _ next fate.2 in
    let rest = entries_replay table c entries one.0 next count fit one.2 in
    by fate.0 one.0 entry refl has one.1 rest
  where
    by : (fate : Fate) (mid : Replay) (x : Result Item Reason) → entry ≡ x → slice_get c.fates (next_entry r) ≡ Some fate
        → entry_by None table c fate x r ≡ Ok mid → AreReplayed table c entries mid next → AreReplayed table c (entry ∷ entries) r next
    by fate mid (Ok item) e has is rest =
        one_entry table c entry entries item r mid next count fit (sym e) (item_replays table c fate item r mid has is) rest
    by fate mid (Err reason) e has is rest = cc
