-- The replay of a gap of a run that a certificate describes.
use Rattle.std.proofs.Common.{arith, ◌≡◌, ℕ, ◌+◌, ◌==◌, Bool, true, false, cond, List, [], ◌∷◌, ◌++◌, map, length, Option, Some, Result, Ok, refl, sym, ap, subst, ◌∙◌, append-nil, None}
use Rattle.std.specs.Prelude.{ok_or, slice_get}
use Rattle.std.specs.List.{AllByRecursion}
use Rattle.std.proofs.lemmas.List.{length-append}
use Rattle.tcap_record.specs.declared.entry.End.{End as Side}
use Rattle.tcap_record.specs.declared.entry.End.TheVariants as sides
use Rattle.tcap_end.specs.Table.{Table}
use Rattle.tcap_end.specs.Step.{needs, ◌>>◌, ◌>>=◌}
use Rattle.tcap_record.specs.Ends.{other}
use Rattle.tcap_model.specs.World.{Item, Sent, World, is_side}
use Rattle.tcap_model.specs.Run.{Event, Sends, Receives, Replies, Loses, Expires, Closes, Quiet, Tells, after}
use Rattle.tcap_certificate.specs.declared.certificate.Fate.{Fate}
use Rattle.tcap_certificate.specs.declared.certificate.Fate.TheVariants.{Gap, Lost, By}
use Rattle.tcap_certificate.specs.declared.fault.CheckFault.{CheckFault}
use Rattle.tcap_model.specs.declared.reason.Reason.TheVariants.{BadReply, FateRange}
use Rattle.tcap_certificate.specs.Certificate.{Certificate}
use Rattle.tcap_certificate.specs.DescribedRun.{deliveries, gap_events, is_loss, losses_from, lost_from, without_losses}
use Rattle.tcap_certificate.specs.Replay.{Replay, deliveries_by, fault_at, gap_by, after_event, lost_before, next_entry, stepped, with_step}
use Rattle.tcap_model.proofs.RunLaws.{grows, map_some, same_events}
use Rattle.tcap_check.proofs.replay_laws.ReplaySteps.{Replays, without_both, AreFrom, from_next, first_from, from_start}
use Rattle.tcap_check.proofs.replay_laws.ReplayLaws.{gap_replays, closes_in_gap, expires_in_gap}
use Rattle.tcap_check.proofs.described_run_laws.AlikeLaws.{Ahead, Alike, LossFits, closes_goes, expires_goes, go_on, next_step, receives_goes, Goes}
use Rattle.tcap_check.specs.declared.listed_steps.ListedStep.{ListedStep}
use Rattle.tcap_check.specs.ListedSteps.{all_replayed, entry_of, event_listed, listed_for, listed_in, listed_replayed, side_of, why_refused}
use Rattle.tcap_check.proofs.replay_laws.ReplayGaps.{gap_events_are, gap_is_listed, judged_all, listed_so}

-- ---- results that are Ok

pub ok_then : {A B F : Type 0} (step : Result A F) (rest : A → Result B F) (x : A) (y : B) → step ≡ Ok x → rest x ≡ Ok y → (step >>= rest) ≡ Ok y
ok_then step rest x y is on = rw is on

pub ok_some : {A F : Type 0} (o : Option A) (reason : F) (x : A) → o ≡ Some x → ok_or o reason ≡ Ok x
ok_some o reason x is = rw is refl

pub ok_needs : {B F : Type 0} (so : Bool) (reason : F) (rest : Result B F) (y : B) → so ≡ true → rest ≡ Ok y → (needs so reason >> rest) ≡ Ok y
ok_needs so reason rest y is on = rw is on

pub ok_both : {A B F : Type 0} (step : Result A F) (rest : Result B F) (x : A) (y : B) → step ≡ Ok x → rest ≡ Ok y → (step >> rest) ≡ Ok y
ok_both step rest x y is on = rw is on

-- ---- the count of steps that are no losses

-- the count in a replay
abbrev pub plain : Replay → ℕ
plain r = length (without_losses r.events)

-- The count grows by the count of events that were replayed.
pub plain_more : (table : Table) (r next : Replay) (events : List Event) (items : List Item) → Replays table r events items next
    → plain next ≡ plain r + length events
plain_more table r next events items h =
    ap (λ (x : List Event). length (without_losses x)) h.extends.events
    ∙ ap length (without_both r.events h.steps)
    ∙ length-append (without_losses r.events) (without_losses h.steps)
    ∙ ap (λ (x : List Event). plain r + length x) h.are

-- A step that is no loss adds one to the count.
pub plain_step : (table : Table) (event : Event) (r next : Replay) → is_loss event ≡ false → stepped table event r ≡ Some next
    → plain next ≡ plain r + 1
plain_step table event r next no_loss is =
    let found = map_some (with_step event r) (after table event r.world) next is in
    let one : length (without_losses (event ∷ [])) ≡ 1 = rw no_loss refl in
    ap (λ (x : Replay). length (without_losses x.events)) (sym found.2)
    ∙ ap length (without_both r.events (event ∷ []))
    ∙ length-append (without_losses r.events) (without_losses (event ∷ []))
    ∙ ap (λ (n : ℕ). plain r + n) one

-- The steps of a run are its losses and the others.
pub all_steps : (events : List Event)
    → length events ≡ length (without_losses events) + length (losses_from sides.A events) + length (losses_from sides.B events)
all_steps [] = omega arith
all_steps (Loses sides.A n ∷ events) = let rest = all_steps events in omega (arith, rest)
all_steps (Loses sides.B n ∷ events) = let rest = all_steps events in omega (arith, rest)
all_steps (Sends side m ∷ events) = let rest = all_steps events in omega (arith, rest)
all_steps (Receives side n ∷ events) = let rest = all_steps events in omega (arith, rest)
all_steps (Replies side n ∷ events) = let rest = all_steps events in omega (arith, rest)
all_steps (Expires side name id ∷ events) = let rest = all_steps events in omega (arith, rest)
all_steps (Closes side name ∷ events) = let rest = all_steps events in omega (arith, rest)
all_steps (Quiet ∷ events) = let rest = all_steps events in omega (arith, rest)
all_steps (Tells side m ∷ events) = let rest = all_steps events in omega (arith, rest)

-- ---- fates

-- Each message that is listed as lost has a loss as its fate.
pub lost_are : (all fates : List Fate) (side : Side) (n : ℕ) (items : List Item) → AreFrom all n fates
    → AllByRecursion (λ k. slice_get all k ≡ Some Lost) (lost_from side n fates items)
lost_are all [] side n items are = tt
lost_are all (Lost ∷ fates) side n [] are = tt
lost_are all (Gap g ∷ fates) side n [] are = tt
lost_are all (By k ∷ fates) side n [] are = tt
lost_are all (Lost ∷ fates) side n (Sent sender message ∷ items) are =
    by (is_side side sender) (first_from all fates n Lost are) (lost_are all fates side (n + 1) items (from_next all fates n Lost are))
  where
    by : (b : Bool) → slice_get all n ≡ Some Lost
        → AllByRecursion (λ k. slice_get all k ≡ Some Lost) (lost_from side (n + 1) fates items)
        → AllByRecursion (λ k. slice_get all k ≡ Some Lost) (cond b (n ∷ lost_from side (n + 1) fates items) (lost_from side (n + 1) fates items))
    by true one rest = (one, rest)
    by false one rest = rest
lost_are all (Lost ∷ fates) side n (Item.Quiet ∷ items) are = lost_are all fates side (n + 1) items (from_next all fates n Lost are)
lost_are all (Gap g ∷ fates) side n (item ∷ items) are = lost_are all fates side (n + 1) items (from_next all fates n (Gap g) are)
lost_are all (By k ∷ fates) side n (item ∷ items) are = lost_are all fates side (n + 1) items (from_next all fates n (By k) are)

-- So each loss of a run is of a message whose fate is a loss.
pub losses_fit : (fates : List Fate) (events : List Event) → AllByRecursion (λ k. slice_get fates k ≡ Some Lost) (losses_from sides.A events)
    → AllByRecursion (λ k. slice_get fates k ≡ Some Lost) (losses_from sides.B events) → AllByRecursion (LossFits fates) events
losses_fit fates [] a b = tt
losses_fit fates (Loses sides.A n ∷ events) a b = (a.0, losses_fit fates events a.1 b)
losses_fit fates (Loses sides.B n ∷ events) a b = (b.0, losses_fit fates events a b.1)
losses_fit fates (Sends side m ∷ events) a b = (tt, losses_fit fates events a b)
losses_fit fates (Receives side n ∷ events) a b = (tt, losses_fit fates events a b)
losses_fit fates (Replies side n ∷ events) a b = (tt, losses_fit fates events a b)
losses_fit fates (Expires side name id ∷ events) a b = (tt, losses_fit fates events a b)
losses_fit fates (Closes side name ∷ events) a b = (tt, losses_fit fates events a b)
losses_fit fates (Quiet ∷ events) a b = (tt, losses_fit fates events a b)
losses_fit fates (Tells side m ∷ events) a b = (tt, losses_fit fates events a b)

-- ---- a gap

-- Part of a gap was replayed, and these steps of the gap are left.
pub record IsPart (table : Table) (fates : List Fate) (final : World) (others : List (Option Event)) (rest : List Event) (items : List Item) (answer : Result Replay CheckFault) : Type 0 where
  pub next : Replay
  pub left : List Event
  pub is : answer ≡ Ok next
  pub left_are : map Some left ≡ others
  pub sent : next.world.sent ≡ items
  pub ahead : Ahead table fates final (left ++ rest) next.world

-- If nothing joins the sent list of the run, nothing joins that of the replay.
same_sent : (fates : List Fate) (w next v behind : World) (added items : List Item) → Alike fates w v → Alike fates next behind
    → next.sent ≡ w.sent ++ added → added ≡ [] → v.sent ≡ items → behind.sent ≡ items
same_sent fates w next v behind added items before after_it grown none sent =
    after_it.sent ∙ grown ∙ ap (λ (x : List Item). w.sent ++ x) none ∙ append-nil w.sent ∙ sym before.sent ∙ sent

-- the first step, and the first listed event
first_listed : (event : Event) (here : List Event) (o : Option Event) (others : List (Option Event)) → map Some (event ∷ here) ≡ o ∷ others
    → (o ≡ Some event) × (map Some here ≡ others)
first_listed event here o others is = (cc, cc)

pub some_same : (x y : Event) → (let o : Option Event = Some x in o) ≡ Some y → y ≡ x
some_same x y is = cc

-- A hidden event that can happen in the run can happen in the replay, and sends nothing.
abbrev GoesUnseen : Table → Certificate → Event → Type 0
GoesUnseen table c event = (w next : World) (r : Replay) → Alike c.fates w r.world → after table event w ≡ Some next
    → Goes table c event r next × (next.sent ≡ w.sent ++ [])

-- The listed events of a gap are replayed.
listed_go : (table : Table) (c : Certificate) (final : World) (items : List Item) (listed : List ListedStep) (others : List (Option Event))
    (here rest : List Event) (r : Replay) → map Some here ≡ map (event_listed items) listed ++ others → r.world.sent ≡ items
    → Ahead table c.fates final (here ++ rest) r.world → IsPart table c.fates final others rest items (all_replayed table c listed r)
listed_go table c final items [] others here rest r are sent ahead =
    record { next = r; left = here; is = refl; left_are = are; sent = sent; ahead = ahead }
listed_go table c final items (x ∷ more) others [] rest r are sent ahead = cc
listed_go table c final items (x ∷ more) others (event ∷ here) rest r are sent ahead =
    let parts = first_listed event here (event_listed items x) (map (event_listed items) more ++ others) are in
    let named : event_listed r.world.sent x ≡ Some event = ap (λ (s : List Item). event_listed s x) sent ∙ parts.0 in
    let on = next_step table c.fates final event (here ++ rest) r.world ahead in
    let internal = listed_so (GoesUnseen table c) items x
    (λ name w next v alike step. (closes_goes table c (side_of x) name w next v alike step, (closes_in_gap (side_of x) name).adds table w next step))
    (λ name id w next v alike step. (expires_goes table c (side_of x) name id w next v alike step, (expires_in_gap (side_of x) name id).adds table w next step))
    event parts.0 on.w on.next r on.alike on.step in
    let goes = internal.0 in
    let still = same_sent c.fates on.w on.next r.world goes.next.world [] items on.alike goes.alike internal.1 refl sent in
    let behind = listed_go table c final items more others here rest goes.next parts.1 still
    (go_on table c.fates final event (here ++ rest) r.world goes.next.world on goes.alike) in
    record {
      next = behind.next;
      left = behind.left;
      is =
          ok_then (listed_replayed table c x r) (all_replayed table c more) goes.next behind.next
          (ok_then (ok_or (event_listed r.world.sent x) (fault_at FateRange (entry_of x))) _ event goes.next
          (ok_some (event_listed r.world.sent x) (fault_at FateRange (entry_of x)) event named)
          (ok_some (stepped table event (lost_before c event r)) (fault_at (why_refused x) (entry_of x)) goes.next goes.is))
          behind.is;
      left_are = behind.left_are;
      sent = behind.sent;
      ahead = behind.ahead;
    }

-- The deliveries of a gap were replayed.
pub record AreDelivered (table : Table) (fates : List Fate) (final : World) (rest : List Event) (items : List Item) (answer : Result Replay CheckFault) : Type 0 where
  pub next : Replay
  pub is : answer ≡ Ok next
  pub sent : next.world.sent ≡ items
  pub ahead : Ahead table fates final rest next.world

-- The deliveries of a gap are replayed.
deliveries_go : (table : Table) (c : Certificate) (final : World) (items : List Item) (gap n : ℕ) (fates : List Fate) (its : List Item)
    (rest : List Event) (r : Replay) → AreFrom c.fates n fates → r.world.sent ≡ items
    → Ahead table c.fates final (deliveries gap n fates its ++ rest) r.world
    → AreDelivered table c.fates final rest items (deliveries_by None table c gap n fates its r)
deliveries_go table c final items gap n [] its rest r are sent ahead = record { next = r; is = refl; sent = sent; ahead = ahead }
deliveries_go table c final items gap n (fate ∷ fates) [] rest r are sent ahead = record { next = r; is = refl; sent = sent; ahead = ahead }
deliveries_go table c final items gap n (Gap g ∷ fates) (Item.Quiet ∷ its) rest r are sent ahead =
    deliveries_go table c final items gap (n + 1) fates its rest r (from_next c.fates fates n (Gap g) are) sent ahead
deliveries_go table c final items gap n (Lost ∷ fates) (Sent side m ∷ its) rest r are sent ahead =
    deliveries_go table c final items gap (n + 1) fates its rest r (from_next c.fates fates n Lost are) sent ahead
deliveries_go table c final items gap n (Lost ∷ fates) (Item.Quiet ∷ its) rest r are sent ahead =
    deliveries_go table c final items gap (n + 1) fates its rest r (from_next c.fates fates n Lost are) sent ahead
deliveries_go table c final items gap n (By k ∷ fates) (Sent side m ∷ its) rest r are sent ahead =
    deliveries_go table c final items gap (n + 1) fates its rest r (from_next c.fates fates n (By k) are) sent ahead
deliveries_go table c final items gap n (By k ∷ fates) (Item.Quiet ∷ its) rest r are sent ahead =
    deliveries_go table c final items gap (n + 1) fates its rest r (from_next c.fates fates n (By k) are) sent ahead
deliveries_go table c final items gap n (Gap g ∷ fates) (Sent side m ∷ its) rest r are sent ahead =
    by (g == gap)
    (λ mid. deliveries_go table c final items gap (n + 1) fates its rest mid (from_next c.fates fates n (Gap g) are)) ahead
  where
    others : List Event
    others = deliveries gap (n + 1) fates its

    receives : Event
    receives = Receives (other side) n

    by : (b : Bool)
        → ((mid : Replay) → mid.world.sent ≡ items → Ahead table c.fates final (others ++ rest) mid.world
        → AreDelivered table c.fates final rest items (deliveries_by None table c gap (n + 1) fates its mid))
        → Ahead table c.fates final (cond b (Receives (other side) n ∷ others) others ++ rest) r.world
        → AreDelivered table c.fates final rest items
        (cond b (after_event table c (Receives (other side) n) BadReply n r) (Ok r) >>= deliveries_by None table c gap (n + 1) fates its)
    by true then at =
        let on = next_step table c.fates final (Receives (other side) n) (others ++ rest) r.world at in
        let goes = receives_goes table c (other side) n g on.w on.next r (first_from c.fates fates n (Gap g) are) on.alike on.step in
        let adds = grows table (Receives (other side) n) on.w on.next on.step in
        let still = same_sent c.fates on.w on.next r.world goes.next.world adds.0 items on.alike goes.alike adds.2 adds.1 sent in
        let behind = then goes.next still (go_on table c.fates final (Receives (other side) n) (others ++ rest) r.world goes.next.world on goes.alike) in
        record {
          next = behind.next;
          is =
              ok_then (after_event table c (Receives (other side) n) BadReply n r) (deliveries_by None table c gap (n + 1) fates its) goes.next behind.next
              (ok_some (stepped table (Receives (other side) n) (lost_before c (Receives (other side) n) r)) (fault_at BadReply n) goes.next goes.is) behind.is;
          sent = behind.sent;
          ahead = behind.ahead;
        }
    by false then at = then r sent at

-- A gap was replayed.
pub record IsGap (table : Table) (c : Certificate) (final : World) (here rest : List Event) (r : Replay) : Type 0 where
  pub next : Replay
  pub is : gap_by None table c r ≡ Ok next
  pub sent : next.world.sent ≡ r.world.sent
  pub ahead : Ahead table c.fates final rest next.world
  pub steps : plain next ≡ plain r + length here

-- A gap is replayed, if its events are those that the certificate describes.
pub gap_goes : (table : Table) (c : Certificate) (final : World) (here rest : List Event) (r : Replay)
    → map Some here ≡ gap_events c r.world.sent (next_entry r) → Ahead table c.fates final (here ++ rest) r.world
    → IsGap table c final here rest r
gap_goes table c final here rest r are ahead =
    let items = r.world.sent in
    let gap = next_entry r in
    let delivered = deliveries gap 0 c.fates items in
    let hidden = listed_go table c final items (listed_in c gap) (map Some delivered) here rest r (are ∙ gap_events_are c items gap) refl ahead in
    let ahead_of : Ahead table c.fates final (delivered ++ rest) hidden.next.world =
    subst (λ (x : List Event). Ahead table c.fates final (x ++ rest) hidden.next.world) (same_events hidden.left delivered hidden.left_are) hidden.ahead in
    let last = deliveries_go table c final items gap 0 c.fates items rest hidden.next (from_start c.fates) hidden.sent ahead_of in
    let all : all_replayed table c (listed_for None c gap) r ≡ Ok hidden.next =
    ap (λ (xs : List ListedStep). all_replayed table c xs r) (judged_all c gap) ∙ hidden.is in
    let is : gap_by None table c r ≡ Ok last.next =
    gap_is_listed None table c r
    ∙ ok_then (all_replayed table c (listed_for None c gap) r) (deliveries_by None table c gap 0 c.fates items) hidden.next last.next all last.is in
    let found = gap_replays table c r last.next is in
    let count : length found.0 ≡ length here = ap length (same_events found.0 here (found.1 ∙ sym are)) in
    record {
      next = last.next;
      is = is;
      sent = last.sent;
      ahead = last.ahead;
      steps = plain_more table r last.next found.0 [] found.2 ∙ ap (λ (n : ℕ). plain r + n) count;
    }
