-- A certificate that gives a run of both ends gives each end one, in which nothing is discarded.
use Rattle.std.proofs.Common.{◌≡◌, ℕ, ◌+◌, ◌==◌, Bool, true, false, cond, List, [], ◌∷◌, ◌++◌, map, filter, length, Some, Result, Ok, Err, refl, sym, ap, ap₂, ◌∙◌, append-nil, None}
use Rattle.std.specs.Prelude.{◌&&◌, not, ok_or, slice_get}
use Rattle.std.proofs.lemmas.Bool.{and_parts}
use Rattle.tcap_msg.specs.declared.message.Message.{Message}
use Rattle.tcap_record.specs.declared.entry.End.{End as Side}
use Rattle.tcap_record.specs.declared.entry.End.TheVariants.{A, B}
use Rattle.tcap_record.specs.declared.entry.Entry.{Entry}
use Rattle.tcap_end.specs.declared.fault.EndFault.{EndFault}
use Rattle.tcap_end.specs.declared.half.HalfName.{HalfName}
use Rattle.tcap_end.specs.declared.half.HalfName.TheVariants as names
use Rattle.tcap_end.specs.Half.{Half, is_closed}
use Rattle.tcap_end.specs.Table.{Table}
use Rattle.tcap_end.specs.HiddenSteps.{open_halves, open_names}
use Rattle.tcap_end.specs.End.{End, all_closed}
use Rattle.tcap_end.proofs.AnsweringLaws.{needs_ok, ok_same, some_ok, then_ok}
use Rattle.tcap_certificate.specs.declared.certificate.Fate.{Fate}
use Rattle.tcap_certificate.specs.declared.fault.CheckFault.{CheckFault}
use Rattle.tcap_model.specs.declared.reason.Reason.{Reason}
use Rattle.tcap_model.specs.declared.reason.Reason.TheVariants.{BadReply, FateCount, FateRange, NotQuiet, OutOfOrder}
use Rattle.tcap_record.specs.Ends.{other}
use Rattle.tcap_model.specs.World.{Item, Sent, World, end_at}
use Rattle.tcap_model.specs.Run.{Event, Quiet, after}
use Rattle.tcap_certificate.specs.declared.certificate.Fate.TheVariants.{Lost}
use Rattle.tcap_certificate.specs.Certificate.{Certificate}
use Rattle.tcap_model.specs.Entries.{AreItems, item_of}
use Rattle.tcap_certificate.specs.DescribedRun.{losses_from, lost_from, sending_by, taken_by}
use Rattle.tcap_certificate.specs.Replay.{Replay, all_lost_from, certificate_fits, closed_at_mark, discards_by, entries_by, entry_by, fault_at, gap_by, is_gap, is_nothing, is_overtaking, item_by, lost_from_both, lost_from_front, mark_judged, message_by, next_entry, nothing_replayed, own_judged, own_message, replayed_by, stepped, tied, peer_replayed}
use Rattle.tcap_check.specs.OneEndRun.{DiscardsNothing}
use Rattle.tcap_check.proofs.replay_laws.DiscardReasons.{none_discarded}
use Rattle.tcap_check.proofs.described_run_laws.DescribedGaps.{ok_both, ok_needs, ok_some, ok_then}
use Rattle.tcap_check.proofs.described_run_laws.DescribedRuns.{items_of, items_same}
use Rattle.tcap_check.proofs.given_run_lemmas.GivenRuns.{both_ok, gives}
use Rattle.tcap_check.proofs.replay_laws.ReplayEntries.{item_replays, nothing_is}
use Rattle.tcap_check.proofs.replay_laws.ReplayLaws.{gap_replays}
use Rattle.tcap_model.proofs.RunLaws.{map_some}
use Rattle.tcap_model.proofs.WorldLaws.{end_with_channel}
use Rattle.tcap_check.proofs.one_end_lemmas.AloneMirrors.{gap_reflects, Mirrors, Reflects, all_lost_mirrors, both_fronts_mirror, same_sent, seen_step}
use Rattle.tcap_check.proofs.one_end_lemmas.AloneTies.{IsReached, is_from, own_reflects, peer_mirrors, peer_ties, reached_on, told}
use Rattle.tcap_check.proofs.one_end_lemmas.AloneViews.{AreClosed, quiet_closed, seen_end, seen_quiet}

-- ---- messages

-- a gap, and what it leaves in both replays
record IsGap (side : Side) (table : Table) (c : Certificate) (r mid s : Replay) : Type 0 where
  made : Replay
  is : gap_by (Some side) table c s ≡ Ok made
  mirrors : Mirrors side mid made
  reached : IsReached table mid.world
  sent : mid.world.sent ≡ s.world.sent

gap_is : (side : Side) (table : Table) (c : Certificate) (r mid s : Replay) → gap_by None table c r ≡ Ok mid
    → Mirrors side r s
    → IsReached table r.world → IsGap side table c r mid s
gap_is side table c r mid s is mirrors reached =
    let gap = gap_reflects side table c r mid s is mirrors in
    let here = (gap_replays table c r mid is).2 in
    record {
      made = gap.made;
      is = gap.is;
      mirrors = gap.mirrors;
      reached = reached_on table here.steps r.world mid.world reached here.extends.plays;
      sent = here.sent ∙ append-nil r.world.sent ∙ sym (same_sent side r s mirrors);
    }

-- the messages of the peer that the entry after these items takes
abbrev ties : Side → Certificate → List Item → List ℕ
ties side c items = filter (is_from (other side) items) (taken_by (length items) 0 c.fates)

-- A message of this end is replayed for the end alone.
own_item : (side : Side) (table : Table) (c : Certificate) (fate : Fate) (m : Message) (r next s : Replay)
    → own_judged None table c fate side m r ≡ Ok next → Mirrors side r s → IsReached table r.world
    → Reflects side next (own_judged (Some side) table c Lost side m s)
own_item side table c fate m r next s is mirrors reached =
    let so = needs_ok (not (is_overtaking side fate c.fates r.world.sent))
    (fault_at OutOfOrder (next_entry r)) _ next is in
    let (mid, gap_ok, on) = then_ok (gap_by None table c r) (own_message None table c side m) next so.1 in
    let gap = gap_is side table c r mid s gap_ok mirrors reached in
    let taken = taken_by (next_entry mid) 0 c.fates in
    let sends = own_reflects side table c m (next_entry mid) taken mid next gap.made gap.reached on gap.mirrors in
    let last = all_lost_from side sends.made in
    let there : message_by table c side m (sending_by c (next_entry gap.made) (Sent side m) (tied (Some side) c gap.made)) gap.made
    ≡ Ok sends.made =
    ap (λ (items : List Item). message_by table c side m
    (sending_by c (length items) (Sent side m) (ties side c items)) gap.made)
    (same_sent side mid gap.made gap.mirrors) ∙ sends.is in
    record {
      made = last;
      is = ok_then (gap_by (Some side) table c s) _ gap.made last gap.is
          (ok_then (message_by table c side m
          (sending_by c (next_entry gap.made) (Sent side m) (tied (Some side) c gap.made)) gap.made)
          (λ x. Ok (all_lost_from side x)) sends.made last there refl);
      mirrors = all_lost_mirrors side next sends.made sends.mirrors;
    }

-- A message of the peer is replayed for the end alone.
peer_item : (side : Side) (table : Table) (c : Certificate) (fate : Fate) (m : Message) (r next s : Replay)
    → own_judged None table c fate (other side) m r ≡ Ok next → Mirrors side r s → IsReached table r.world
    → Reflects side next (peer_replayed table c fate side m s)
peer_item side table c fate m r next s is mirrors reached =
    let so = needs_ok (not (is_overtaking (other side) fate c.fates r.world.sent))
    (fault_at OutOfOrder (next_entry r)) _ next is in
    let (mid, gap_ok, on) = then_ok (gap_by None table c r) (own_message None table c (other side) m) next so.1 in
    let gap = gap_is side table c r mid s gap_ok mirrors reached in
    let taken = taken_by (next_entry mid) 0 c.fates in
    let none = peer_ties side table c m (next_entry mid) taken mid next gap.reached on in
    let free : is_nothing (tied (Some side) c s) ≡ true =
    ap is_nothing (ap (ties side c) (sym gap.sent) ∙ none) in
    let last = told side m gap.made in
    record {
      made = last;
      is = ok_needs (not (is_overtaking (other side) fate c.fates s.world.sent))
          (fault_at OutOfOrder (next_entry s)) _ last
          (ap (λ (items : List Item). not (is_overtaking (other side) fate c.fates items))
          (same_sent side r s mirrors) ∙ so.0)
          (ok_then (gap_by (Some side) table c s) _ gap.made last gap.is
          (ok_needs (is_nothing (tied (Some side) c s)) (fault_at BadReply (next_entry s)) (Ok last) last free refl));
      mirrors = peer_mirrors side table c m (next_entry mid) taken
          mid next gap.made on gap.mirrors;
    }

-- ---- a quiet mark

none_open : (name : List ℕ → HalfName) (es : List (List ℕ × Half)) → all_closed es ≡ true → open_names name es ≡ []
none_open name [] is = refl
none_open name (e ∷ es) is = by (is_closed e.1.phase) is (none_open name es)
  where
    by : (b : Bool) → cond b (all_closed es) false ≡ true → (all_closed es ≡ true → open_names name es ≡ [])
        → cond b (open_names name es) (name e.0 ∷ open_names name es) ≡ []
    by true is rest = rest is
    by false is rest = cc

none_open_in : (e : End) → (all_closed e.begun && all_closed e.accepted) ≡ true → open_halves e ≡ []
none_open_in e is =
    let both = and_parts (all_closed e.begun) (all_closed e.accepted) is in
    ap₂ (λ (x y : List HalfName). x ++ y) (none_open names.Own e.begun both.0) (none_open names.Peer e.accepted both.1)

end_closed : (side : Side) (w : World) → AreClosed w
    → (all_closed (end_at side w).begun && all_closed (end_at side w).accepted) ≡ true
end_closed A w is = is.a
end_closed B w is = is.b

mark_item : (side : Side) (table : Table) (c : Certificate) (fate : Fate) (r next s : Replay)
    → mark_judged None table c fate r ≡ Ok next → Mirrors side r s → IsReached table r.world
    → Reflects side next (mark_judged (Some side) table c fate s)
mark_item side table c fate r next s is mirrors reached =
    let entry = next_entry r in
    let so = needs_ok (is_gap (entry + 1) fate) (fault_at FateRange entry) _ next is in
    let (mid, gap_ok, on) = then_ok (gap_by None table c r) _ next so.1 in
    let gap = gap_is side table c r mid s gap_ok mirrors reached in
    let free = needs_ok (is_nothing (taken_by entry 0 c.fates)) (fault_at NotQuiet entry) _ next on in
    let before = lost_from_both c mid in
    let mine = lost_from_front c (other side) gap.made in
    let fronts = both_fronts_mirror side c mid gap.made gap.mirrors in
    let step = some_ok (stepped table Quiet before) (fault_at NotQuiet entry) next free.1 in
    let quiet = seen_step side table Quiet before next mine step
    (λ w at. seen_quiet table side before.world w at) fronts in
    let end_is : end_at side gap.made.world ≡ end_at side before.world =
    sym (end_with_channel side (other side) _ gap.made.world) ∙ ap (end_at side) fronts.world ∙ seen_end side before.world in
    let found = map_some _ (after table Quiet before.world) next step in
    let open_is : open_halves (end_at side gap.made.world) ≡ [] =
    ap open_halves end_is
    ∙ none_open_in (end_at side before.world)
    (end_closed side before.world (quiet_closed table before.world found.0 found.1)) in
    let same_entry : next_entry s ≡ entry = ap length (same_sent side r s mirrors) in
    let taken_none : taken_by (next_entry s) 0 c.fates ≡ [] =
    ap (λ (n : ℕ). taken_by n 0 c.fates) same_entry ∙ nothing_is (taken_by entry 0 c.fates) free.0 in
    let no_tie : is_nothing (tied (Some side) c s) ≡ true =
    ap (λ (x : List ℕ). is_nothing (filter (is_from (other side) s.world.sent) x)) taken_none in
    let closed : closed_at_mark table side (next_entry s) (open_halves (end_at side gap.made.world)) gap.made
    ≡ Ok gap.made =
    ap (λ (x : List HalfName). closed_at_mark table side (next_entry s) x gap.made) open_is in
    record {
      made = quiet.made;
      is = ok_needs (is_gap (next_entry s + 1) fate) (fault_at FateRange (next_entry s)) _ quiet.made
          (ap (λ (n : ℕ). is_gap (n + 1) fate) same_entry ∙ so.0)
          (ok_then (gap_by (Some side) table c s) _ gap.made quiet.made gap.is
          (ok_needs (is_nothing (tied (Some side) c s)) (fault_at NotQuiet (next_entry s)) _ quiet.made no_tie
          (ok_then (closed_at_mark table side (next_entry s) (open_halves (end_at side gap.made.world)) gap.made)
          _ gap.made
          quiet.made closed (ok_some (stepped table Quiet mine)
          (fault_at NotQuiet (next_entry s)) quiet.made quiet.is))));
      mirrors = quiet.mirrors;
    }

-- ---- entries

item_reflects : (side : Side) (table : Table) (c : Certificate) (fate : Fate) (item : Item) (r next s : Replay)
    → item_by None table c fate item r ≡ Ok next → Mirrors side r s → IsReached table r.world
    → Reflects side next (item_by (Some side) table c fate item s)
item_reflects side table c fate Item.Quiet r next s is mirrors reached =
    mark_item side table c fate r next s is mirrors reached
item_reflects side table c fate (Sent sender m) r next s is mirrors reached = by side sender is mirrors
  where
    by : (side sender : Side) → own_judged None table c fate sender m r ≡ Ok next → Mirrors side r s
        → Reflects side next (item_by (Some side) table c fate (Sent sender m) s)
    by A A is mirrors = own_item A table c fate m r next s is mirrors reached
    by A B is mirrors = peer_item A table c fate m r next s is mirrors reached
    by B A is mirrors = peer_item B table c fate m r next s is mirrors reached
    by B B is mirrors = own_item B table c fate m r next s is mirrors reached

entry_reached : (table : Table) (c : Certificate) (fate : Fate) (item : Item) (r next : Replay)
    → slice_get c.fates (next_entry r) ≡ Some fate
    → item_by None table c fate item r ≡ Ok next → IsReached table r.world → IsReached table next.world
entry_reached table c fate item r next has is reached =
    let one = item_replays table c fate item r next has is in
    let to_mid = reached_on table one.gap.steps r.world one.mid.world reached one.gap.extends.plays in
    reached_on table one.sent.replays.steps one.mid.world next.world to_mid one.sent.replays.extends.plays

entries_reflect : (side : Side) (table : Table) (c : Certificate) (entries : List (Result Item Reason))
    (r next s : Replay)
    → entries_by None table c entries r ≡ Ok next → Mirrors side r s → IsReached table r.world
    → Reflects side next (entries_by (Some side) table c entries s)
entries_reflect side table c [] r next s is mirrors reached =
    let so = needs_ok (next_entry r == length c.fates) (fault_at FateCount (next_entry r))
    (gap_by None table c r) next is in
    let gap = gap_reflects side table c r next s so.1 mirrors in
    record {
      made = gap.made;
      is = ok_needs (next_entry s == length c.fates) (fault_at FateCount (next_entry s))
          (gap_by (Some side) table c s) gap.made
          (ap (λ (items : List Item). length items == length c.fates) (same_sent side r s mirrors) ∙ so.0) gap.is;
      mirrors = gap.mirrors;
    }
entries_reflect side table c (entry ∷ entries) r next s is mirrors reached =
    let (fate, fate_ok, on) = then_ok
    (ok_or (slice_get c.fates (next_entry r)) (fault_at FateCount (next_entry r))) _ next is in
    let has = some_ok (slice_get c.fates (next_entry r)) (fault_at FateCount (next_entry r)) fate fate_ok in
    let (mid, one_ok, rest) = then_ok (entry_by None table c fate entry r)
    (entries_by None table c entries) next on in
    by fate entry has mid one_ok (λ v there. entries_reflect side table c entries mid next v rest there)
  where
    by : (fate : Fate) (x : Result Item Reason) → slice_get c.fates (next_entry r) ≡ Some fate → (mid : Replay)
        → entry_by None table c fate x r ≡ Ok mid
        → ((v : Replay) → Mirrors side mid v → IsReached table mid.world
        → Reflects side next (entries_by (Some side) table c entries v))
        → Reflects side next (entries_by (Some side) table c (x ∷ entries) s)
    by fate (Err reason) has mid is on = cc
    by fate (Ok item) has mid is on =
        let one = item_reflects side table c fate item r mid s is mirrors reached in
        let last = on one.made one.mirrors (entry_reached table c fate item r mid has is reached) in
        let there : slice_get c.fates (next_entry s) ≡ Some fate =
        ap (λ (items : List Item). slice_get c.fates (length items)) (same_sent side r s mirrors) ∙ has in
        record {
          made = last.made;
          is = ok_then (ok_or (slice_get c.fates (next_entry s)) (fault_at FateCount (next_entry s))) _ fate last.made
              (ok_some (slice_get c.fates (next_entry s)) (fault_at FateCount (next_entry s)) fate there)
              (ok_then (item_by (Some side) table c fate item s)
              (entries_by (Some side) table c entries) one.made last.made one.is last.is);
          mirrors = last.mirrors;
        }

-- ---- the whole record

at_first : (side : Side) → Mirrors side nothing_replayed nothing_replayed
at_first A = record { world = refl; losses = refl }
at_first B = record { world = refl; losses = refl }

pub both_give : (side : Side) (table : Table) (c : Certificate) (entries : List Entry) (items : List Item)
    (events : List Event)
    → AreItems entries items → replayed_by None table c entries ≡ Ok events
    → (own : List Event) × (replayed_by (Some side) table c entries ≡ Ok own) × DiscardsNothing side c items own
    × (discards_by (Some side) table c (map item_of entries) ≡ Ok [])
both_give side table c entries items events are is =
    let fits = both_ok (certificate_fits c) _ events is in
    let (r, done, last) = then_ok (entries_by None table c (map item_of entries) nothing_replayed) _ events fits.2 in
    let mine = entries_reflect side table c (map item_of entries)
    nothing_replayed r nothing_replayed done (at_first side) ([], refl) in
    let fronts = both_fronts_mirror side c r mine.made mine.mirrors in
    let own = lost_from_front c (other side) mine.made in
    let given = gives table c entries events is in
    let same : given.items ≡ items =
    items_same given.items items (sym (items_of entries given.items given.are) ∙ items_of entries items are) in
    let run = ok_both (certificate_fits c) _ tt own.events fits.1
    (ok_then (entries_by (Some side) table c (map item_of entries) nothing_replayed) _ mine.made own.events mine.is refl) in
    let discards = ok_both (certificate_fits c) _ tt own.discards fits.1
    (ok_then (entries_by (Some side) table c (map item_of entries) nothing_replayed) _ mine.made own.discards mine.is refl) in
    let losses = fronts.losses ∙ ap (losses_from (other side)) (ok_same {F = CheckFault} (lost_from_both c r).events events last)
    ∙ given.follows.losses (other side) ∙ ap (lost_from (other side) 0 c.fates) same in (
      own.events,
      run,
      losses,
      discards ∙ ap (λ (x : List (ℕ × EndFault)). let a : Result (List (ℕ × EndFault)) CheckFault = Ok x in a)
          (none_discarded side table c (map item_of entries) items own.events own.discards run discards losses),
    )
