-- A certificate gives the runs that it describes, by whichever names of their halves.
use Rattle.std.proofs.Common.{arith, ◌≡◌, ℕ, zero, suc, ◌+◌, ◌<◌, ◌==◌, true, false, List, [], ◌∷◌, ◌++◌, map, length, Some, Result, Ok, refl, sym, ap, ap₂, subst, ◌∙◌, append_assoc, append-nil, None, ℤ, Option, option_map}
use Rattle.std.specs.Prelude.{not, ok_or, slice_get}
use Rattle.std.specs.List.{AllByRecursion}
use Rattle.std.proofs.lemmas.Bool.{eq-eqb}
use Rattle.std.proofs.lemmas.List.{length-append}
use Rattle.tcap_msg.specs.declared.message.Message.{Message}
use Rattle.tcap_record.specs.declared.entry.End.{End as Side}
use Rattle.tcap_record.specs.declared.entry.End.TheVariants as sides
use Rattle.tcap_record.specs.declared.entry.Entry.{Entry}
use Rattle.tcap_end.specs.Table.{Table}
use Rattle.tcap_model.specs.World.{Item, Sent, World, empty, end_at, with_end}
use Rattle.tcap_model.specs.Run.{Event, Quiet, IsRunOf, Sends, Receives, Replies, Loses, Expires, Closes, Tells, after, played, option_then}
use Rattle.tcap_certificate.specs.declared.certificate.Fate.{Fate}
use Rattle.tcap_certificate.specs.declared.certificate.Fate.TheVariants.{Gap, Lost, By}
use Rattle.tcap_certificate.specs.declared.fault.CheckFault.{CheckFault}
use Rattle.tcap_model.specs.declared.reason.Reason.{Reason}
use Rattle.tcap_model.specs.declared.reason.Reason.TheVariants.{FateCount, FateRange, NotQuiet, OutOfOrder}
use Rattle.tcap_certificate.specs.Certificate.{Certificate}
use Rattle.tcap_model.specs.Entries.{AreItems, IsItem, item_of}
use Rattle.tcap_certificate.specs.DescribedRun.{FatesFit, Follows, FollowsFrom, IsImplied, gap_events, losses_from, lost_from, quiet_by, sending, sending_by, taken_by, without_losses}
use Rattle.tcap_certificate.specs.Replay.{Replay, certificate_fits, entries_by, fault_at, gap_by, after_event, is_gap, is_nothing, is_overtaking, item_by, lost_before, lost_from_both, mark_judged, next_entry, nothing_replayed, own_judged, replayed_by, stepped}
use Rattle.tcap_model.proofs.RunLaws.{grows, where_some}
use Rattle.tcap_check.proofs.replay_laws.ReplaySteps.{both_replay, from_start}
use Rattle.tcap_check.proofs.replay_laws.ReplayGaps.{gap_events_before}
use Rattle.tcap_check.proofs.described_run_laws.DescribedLaws.{described_fits, none_overtakes}
use Rattle.tcap_check.proofs.given_run_lemmas.GivenRuns.{gives}
use Rattle.tcap_check.proofs.described_run_laws.AlikeLaws.{Ahead, alike_same, go_on, next_step, quiet_goes}
use Rattle.tcap_check.proofs.described_run_laws.DescribedGaps.{all_steps, gap_goes, losses_fit, lost_are, ok_both, ok_needs, ok_some, ok_then, plain, plain_more, plain_step, some_same}
use Rattle.tcap_check.proofs.described_run_laws.DescribedSends.{IsSent, message_goes, none_quiet}
use Rattle.std.specs.Result.{result_ok}
use Rattle.tcap_end.specs.declared.fault.EndFault.{EndFault}
use Rattle.tcap_end.specs.declared.fault.EndFault.TheVariants as faults
use Rattle.tcap_end.specs.Half.{closed_half, is_closed}
use Rattle.tcap_end.specs.Component.{own_invocation}
use Rattle.tcap_end.specs.End.{End, KeyedHalf, put}
use Rattle.tcap_end.specs.HiddenSteps.{may_close, may_expire, without_invocation}
use Rattle.tcap_end.specs.Step.{needs, ◌>>◌, ◌>>=◌}
use Rattle.tcap_certificate.specs.HalfNames.{AreSameEvents, IsDescribedBy, IsSameEvent}

-- ---- an entry

-- A message is replayed with the gap before it, if it overtakes no earlier one.
sent_goes : (table : Table) (c : Certificate) (final : World) (fate : Fate) (side : Side) (message : Message) (here made rest : List Event)
    (sends : Event) (more : List Item) (r : Replay) → is_overtaking side fate c.fates r.world.sent ≡ false
    → map Some here ≡ gap_events c r.world.sent (next_entry r) → sending c (next_entry r) (Sent side message) ≡ Some sends
    → AllByRecursion (IsImplied (Sent side message)) made → final.sent ≡ r.world.sent ++ Sent side message ∷ more
    → Ahead table c.fates final (here ++ (made ++ sends ∷ rest)) r.world
    → IsSent table c.fates final (Sent side message) (length here + (length made + 1)) rest r (own_judged None table c fate side message r)
sent_goes table c final fate side message here made rest sends more r in_order are is all ends ahead =
    let gap = gap_goes table c final here (made ++ sends ∷ rest) r are ahead in
    let mid = gap.next in
    let number : next_entry mid ≡ next_entry r = ap length gap.sent in
    let one = message_goes table c final side message made rest sends more mid (ap (λ (n : ℕ). sending c n (Sent side message)) number ∙ is) all
    (ends ∙ ap (λ (x : List Item). x ++ Sent side message ∷ more) (sym gap.sent)) gap.ahead in
    let first = gap.steps in
    let second = one.count in
    record {
      next = one.next;
      is =
          ok_needs (not (is_overtaking side fate c.fates r.world.sent)) (fault_at OutOfOrder (next_entry r)) _ one.next (ap not in_order)
          (ok_then (gap_by None table c r) _ mid one.next gap.is one.is);
      sent = one.sent ∙ ap (λ (x : List Item). x ++ Sent side message ∷ []) gap.sent;
      ahead = one.ahead;
      count = omega (arith, first, second);
    }

-- A quiet mark takes no message, and its fate is the next gap.
quiet_event : (c : Certificate) (number : ℕ) (fate : Fate) (taken : List ℕ) (event : Event) → slice_get c.fates number ≡ Some fate
    → sending_by c number Item.Quiet taken ≡ Some event → (taken ≡ []) × (is_gap (number + 1) fate ≡ true) × (event ≡ Quiet)
quiet_event c number fate (t ∷ taken) event has is = cc
quiet_event c number fate [] event has is = by fate (ap (quiet_by number) (sym has) ∙ is)
  where
    by : (fate : Fate) → quiet_by number (Some fate) ≡ Some event
        → (◌≡◌ {A = List ℕ} [] []) × (is_gap (number + 1) fate ≡ true) × (event ≡ Quiet)
    by (Gap g) e = let so = where_some (g == number + 1) (Some Quiet) event e in (refl, so.0, some_same Quiet event so.1)
    by Lost e = cc
    by (By k) e = cc

-- A quiet mark is replayed with the gap before it.
mark_goes : (table : Table) (c : Certificate) (final : World) (fate : Fate) (here made rest : List Event) (sends : Event) (r : Replay)
    → slice_get c.fates (next_entry r) ≡ Some fate → map Some here ≡ gap_events c r.world.sent (next_entry r)
    → sending c (next_entry r) Item.Quiet ≡ Some sends → AllByRecursion (IsImplied Item.Quiet) made
    → Ahead table c.fates final (here ++ (made ++ sends ∷ rest)) r.world
    → IsSent table c.fates final Item.Quiet (length here + (length made + 1)) rest r (mark_judged None table c fate r)
mark_goes table c final fate here made rest sends r has are is all ahead =
    let number = next_entry r in
    let mark = quiet_event c number fate (taken_by number 0 c.fates) sends has is in
    let gap = gap_goes table c final here (made ++ sends ∷ rest) r are ahead in
    let mid = gap.next in
    let none = none_quiet made all in
    let long : length made ≡ 0 = ap length none in
    let at : Ahead table c.fates final (Quiet ∷ rest) mid.world =
    subst (λ (x : List Event). Ahead table c.fates final (x ++ Quiet ∷ rest) mid.world) none
    (subst (λ (e : Event). Ahead table c.fates final (made ++ e ∷ rest) mid.world) mark.2 gap.ahead) in
    let on = next_step table c.fates final Quiet rest mid.world at in
    let goes = quiet_goes table c on.w on.next mid on.alike on.step in
    let adds = grows table Quiet on.w on.next on.step in
    let both = both_replay table c mid in
    let lost : plain (lost_from_both c mid) ≡ plain mid + 0 = plain_more table mid (lost_from_both c mid) [] [] both in
    let last = plain_step table Quiet (lost_from_both c mid) goes.next refl goes.is in
    let first = gap.steps in
    record {
      next = goes.next;
      is =
          ok_needs (is_gap (number + 1) fate) (fault_at FateRange number) _ goes.next mark.1
          (ok_then (gap_by None table c r) _ mid goes.next gap.is
          (ok_needs (is_nothing (taken_by number 0 c.fates)) (fault_at NotQuiet number) (after_event table c Quiet NotQuiet number mid) goes.next
          (ap is_nothing mark.0)
          (ok_some (stepped table Quiet (lost_before c Quiet mid)) (fault_at NotQuiet number) goes.next goes.is)));
      sent = goes.alike.sent ∙ adds.2 ∙ ap₂ (λ (x y : List Item). x ++ y) (sym on.alike.sent ∙ gap.sent) adds.1;
      ahead = go_on table c.fates final Quiet rest mid.world goes.next.world on goes.alike;
      count = omega (arith, first, lost, last, long);
    }

-- ---- entries

abbrev ok_item : Item → Result Item Reason
ok_item item = Ok item

-- no message among these items overtakes an earlier one of its end
abbrev InOrder : Certificate → List Item → Type 0
InOrder c items =
    (front more : List Item) (side : Side) (message : Message) (fate : Fate) → items ≡ front ++ Sent side message ∷ more
    → slice_get c.fates (length front) ≡ Some fate → is_overtaking side fate c.fates front ≡ false

-- An item is replayed with the gap before it.
item_goes : (table : Table) (c : Certificate) (final : World) (fate : Fate) (item : Item) (here made rest : List Event) (sends : Event)
    (more : List Item) (r : Replay) → slice_get c.fates (next_entry r) ≡ Some fate → InOrder c final.sent
    → map Some here ≡ gap_events c r.world.sent (next_entry r) → sending c (next_entry r) item ≡ Some sends
    → AllByRecursion (IsImplied item) made → final.sent ≡ r.world.sent ++ item ∷ more
    → Ahead table c.fates final (here ++ (made ++ sends ∷ rest)) r.world
    → IsSent table c.fates final item (length here + (length made + 1)) rest r (item_by None table c fate item r)
item_goes table c final fate (Sent side message) here made rest sends more r has in_order are is all ends ahead =
    sent_goes table c final fate side message here made rest sends more r (in_order r.world.sent more side message fate ends has) are is all ends ahead
item_goes table c final fate Item.Quiet here made rest sends more r has in_order are is all ends ahead =
    mark_goes table c final fate here made rest sends r has are is all ahead

-- The entries were replayed, with this many steps that are no losses.
record AreDone (r : Replay) (steps : ℕ) (answer : Result Replay CheckFault) : Type 0 where
  next : Replay
  is : answer ≡ Ok next
  count : plain next ≡ plain r + steps

some_at : {A : Type 0} (xs : List A) (i : ℕ) → i < length xs → (x : A) × (slice_get xs i ≡ Some x)
some_at [] i h = absurd (omega (arith, h))
some_at (x ∷ xs) zero h = (x, refl)
some_at (x ∷ xs) (suc i) h = some_at xs i (omega (arith, h))

-- All entries that are left are replayed.
entries_go : (table : Table) (c : Certificate) (final : World) (count : ℕ) → FatesFit count 0 c.fates → length c.fates ≡ length final.sent
    → InOrder c final.sent → (more : List Item) (steps : List Event) (r : Replay) → final.sent ≡ r.world.sent ++ more
    → FollowsFrom c final.sent (next_entry r) more steps → Ahead table c.fates final steps r.world
    → AreDone r (length steps) (entries_by None table c (map ok_item more) r)
entries_go table c final count fit counted in_order [] steps r ends follows ahead =
    let items = r.world.sent in
    let same : final.sent ≡ items = ends ∙ append-nil items in
    let number : next_entry r ≡ length c.fates = sym (counted ∙ ap length same) in
    let gap = gap_goes table c final steps [] r (follows ∙ ap (λ (x : List Item). gap_events c x (next_entry r)) same)
    (subst (λ (x : List Event). Ahead table c.fates final x r.world) (sym (append-nil steps)) ahead) in
    record {
      next = gap.next;
      is = ok_needs (next_entry r == length c.fates) (fault_at FateCount (next_entry r)) (gap_by None table c r) gap.next
          (eq-eqb (next_entry r) (length c.fates) number) gap.is;
      count = gap.steps;
    }
entries_go table c final count fit counted in_order (item ∷ more) steps r ends (here, made, rest, sends, here_are, all, is, steps_are, follows) ahead =
    let items = r.world.sent in
    let long : length final.sent ≡ length items + length (item ∷ more) = ap length ends ∙ length-append items (item ∷ more) in
    let inside : next_entry r < length c.fates = omega (arith, long, counted) in
    let fate = some_at c.fates (next_entry r) inside in
    let in_turn : steps ≡ here ++ (made ++ sends ∷ rest) = steps_are ∙ append_assoc here made (sends ∷ rest) in
    let are : map Some here ≡ gap_events c items (next_entry r) =
    here_are ∙ ap (λ (x : List Item). gap_events c x (next_entry r)) ends ∙ gap_events_before c count items (item ∷ more) fit in
    let one = item_goes table c final fate.0 item here made rest sends more r fate.1 in_order are is all ends
    (subst (λ (x : List Event). Ahead table c.fates final x r.world) in_turn ahead) in
    let mid = one.next in
    let still : final.sent ≡ mid.world.sent ++ more =
    ends ∙ sym (append_assoc items (item ∷ []) more) ∙ ap (λ (x : List Item). x ++ more) (sym one.sent) in
    let number : next_entry r + 1 ≡ next_entry mid = sym (ap length one.sent ∙ length-append items (item ∷ [])) in
    let behind = entries_go table c final count fit counted in_order more rest mid still
    (subst (λ (n : ℕ). FollowsFrom c final.sent n more rest) number follows) one.ahead in
    let in_all : length steps ≡ length here + (length made + (length rest + 1)) =
    ap length in_turn ∙ length-append here (made ++ sends ∷ rest)
    ∙ ap (λ (n : ℕ). length here + n) (length-append made (sends ∷ rest)) ∙ last_one (length here) (length made) (length rest) in
    let first = one.count in
    let second = behind.count in
    record {
      next = behind.next;
      is =
          ok_then (ok_or (slice_get c.fates (next_entry r)) (fault_at FateCount (next_entry r))) _ fate.0 behind.next
          (ok_some (slice_get c.fates (next_entry r)) (fault_at FateCount (next_entry r)) fate.0 fate.1)
          (ok_then (item_by None table c fate.0 item r) (entries_by None table c (map ok_item more)) mid behind.next one.is behind.is);
      count = omega (arith, in_all, first, second);
    }
  where
    last_one : (a b n : ℕ) → a + (b + suc n) ≡ a + (b + (n + 1))
    last_one a b n = omega arith

-- ---- a run

pub items_of : (entries : List Entry) (items : List Item) → AreItems entries items → map item_of entries ≡ map ok_item items
items_of [] [] are = refl
items_of [] (item ∷ items) are = absurd are
items_of (entry ∷ entries) [] are = absurd are
items_of (entry ∷ entries) (item ∷ items) are =
    ap₂ (λ (x : Result Item Reason) (xs : List (Result Item Reason)). x ∷ xs) (by item are.0) (items_of entries items are.1)
  where
    by : (item : Item) → IsItem entry item → item_of entry ≡ ok_item item
    by (Sent side message) is = rw (is.0, is.1) refl
    by Item.Quiet is = rw (is.0, is.1) refl

-- They are no other items.
pub items_same : (xs ys : List Item) → map ok_item xs ≡ map ok_item ys → xs ≡ ys
items_same [] [] is = refl
items_same [] (y ∷ ys) is = cc
items_same (x ∷ xs) [] is = cc
items_same (x ∷ xs) (y ∷ ys) is =
    let rest = items_same xs ys (cc) in let first : x ≡ y = cc in ap₂ (λ (z : Item) (zs : List Item). z ∷ zs) first rest

-- Two runs with the same losses and equally many other steps are equally long.
as_long : (xs ys : List Event) → length (without_losses xs) ≡ length (without_losses ys)
    → ((side : Side) → losses_from side xs ≡ losses_from side ys) → length xs ≡ length ys
as_long xs ys same losses =
    let a = ap length (losses sides.A) in
    let b = ap length (losses sides.B) in
    let long = all_steps xs in
    let other_long = all_steps ys in omega (arith, a, b, long, other_long, same)

-- If a certificate describes a run of the entries' items, it gives a run with as many steps.
pub followed_is_given : (table : Table) (c : Certificate) (entries : List Entry) (items : List Item) (events : List Event)
    → AreItems entries items → IsRunOf items table events → Follows c items events
    → (given : List Event) × (replayed_by None table c entries ≡ Ok given) × (length given ≡ length events)
followed_is_given table c entries items events are (final, runs, sends) follows =
    let lost = λ (side : Side). subst (AllByRecursion (λ (k : ℕ). slice_get c.fates k ≡ Some Lost)) (sym (follows.losses side))
    (lost_are c.fates c.fates side 0 items (from_start c.fates)) in
    let ahead : Ahead table c.fates final (without_losses events) empty = record {
      before = [];
      events = events;
      w = empty;
      ran = refl;
      plays = runs;
      are = refl;
      fit = losses_fit c.fates events (lost sides.A) (lost sides.B);
      alike = alike_same c.fates empty;
    } in
    let in_order : InOrder c final.sent =
    subst (InOrder c) (sym sends) (λ front more side message fate. none_overtakes table c items events final runs sends follows front more side message fate) in
    let done = entries_go table c final (length items) follows.fates (follows.counted ∙ ap length (sym sends)) in_order
    items (without_losses events) nothing_replayed sends
    (subst (λ (x : List Item). FollowsFrom c x 0 items (without_losses events)) (sym sends) follows.gaps) ahead in
    let given = (lost_from_both c done.next).events in
    let is : replayed_by None table c entries ≡ Ok given =
    ok_both (certificate_fits c) _ tt given (described_fits c items events follows)
    (ok_then (entries_by None table c (map item_of entries) nothing_replayed) _ done.next given
    (ap (λ (x : List (Result Item Reason)). entries_by None table c x nothing_replayed) (items_of entries items are) ∙ done.is) refl) in
    let run = gives table c entries given is in
    let same : run.items ≡ items =
    items_same run.items items (sym (items_of entries run.items run.are) ∙ items_of entries items are) in
    let losses = λ (side : Side). run.follows.losses side ∙ ap (lost_from side 0 c.fates) same ∙ sym (follows.losses side) in
    let last : plain (lost_from_both c done.next) ≡ plain done.next + 0 =
    plain_more table done.next (lost_from_both c done.next) [] [] (both_replay table c done.next) in
    let count = done.count in
    let steps : length (without_losses given) ≡ length (without_losses events) = omega (arith, last, count) in
    (given, is, as_long given events steps losses)

-- ---- either name of a half

-- the end after an expiry on the half that the name finds, if it can happen
abbrev expire_found : Table → End → ℤ → Option KeyedHalf → Result End EndFault
expire_found table e id found = do
  kept ← ok_or found faults.CannotExpire
  needs (not (is_closed kept.half.phase)) faults.CannotExpire
  needs (may_expire table (own_invocation kept.half id)) faults.CannotExpire
  Ok (put e kept.slot kept.key (without_invocation id kept.half))

-- the end after the half that the name finds closes, if it can
abbrev close_found : Table → End → Option KeyedHalf → Result End EndFault
close_found table e found = do
  kept ← ok_or found faults.CannotClose
  needs (may_close table kept.half.phase) faults.CannotClose
  Ok (put e kept.slot kept.key (closed_half kept.half))

-- An event with either name leads to the same world.
same_step : (table : Table) (w : World) (event first : Event) → IsSameEvent w event first → after table first w ≡ after table event w
same_step table w (Expires side name id) first (other, is, same) =
    rw is (ap (λ (o : Option KeyedHalf). option_map (λ e. with_end side e w) (result_ok (expire_found table (end_at side w) id o))) (sym same))
same_step table w (Closes side name) first (other, is, same) =
    rw is (ap (λ (o : Option KeyedHalf). option_map (λ e. with_end side e w) (result_ok (close_found table (end_at side w) o))) (sym same))
same_step table w (Sends side message) first is = rw (← is) refl
same_step table w (Receives side number) first is = rw (← is) refl
same_step table w (Replies side number) first is = rw (← is) refl
same_step table w (Loses side number) first is = rw (← is) refl
same_step table w Quiet first is = rw (← is) refl
same_step table w (Tells side message) first is = rw (← is) refl

-- Runs with either names lead to the same world.
pub same_runs : (table : Table) (w : World) (events others : List Event) → AreSameEvents table w events others
    → played table others w ≡ played table events w
same_runs table w [] others is = rw is refl
same_runs table w (event ∷ events) others (first, rest, joined, same, on) =
    rw (joined, same_step table w event first same) (by (after table event w) (λ next at. same_runs table next events rest (on next at)))
  where
    by : (o : Option World) → ((next : World) → o ≡ Some next → played table rest next ≡ played table events next)
        → option_then o (played table rest) ≡ option_then o (played table events)
    by None goes = refl
    by (Some next) goes = goes next refl

same_count : (table : Table) (w v : World) (events others : List Event) → AreSameEvents table w events others
    → played table events w ≡ Some v → length others ≡ length events
same_count table w v [] others is plays = rw is refl
same_count table w v (event ∷ events) others (first, rest, joined, same, on) plays =
    rw joined (by (after table event w) (λ next at. same_count table next v events rest (on next at)) plays)
  where
    by : (o : Option World)
        → ((next : World) → o ≡ Some next → played table events next ≡ Some v → length rest ≡ length events)
        → option_then o (played table events) ≡ Some v → length (first ∷ rest) ≡ length (event ∷ events)
    by None goes is = cc
    by (Some next) goes is = let one : length rest ≡ length events = goes next refl is in omega (arith, one)

-- A certificate gives the runs that it describes, by whichever names.
pub described_is_given : (table : Table) (c : Certificate) (entries : List Entry) (items : List Item) (events : List Event)
    → AreItems entries items → IsRunOf items table events → IsDescribedBy table c items events
    → (given : List Event) × (replayed_by None table c entries ≡ Ok given) × (length given ≡ length events)
described_is_given table c entries items events are (w, runs, sent) (others, same, follows) =
    let (given, is, count) = followed_is_given table c entries items others are (w, same_runs table empty events others same ∙ runs, sent) follows in
    (given, is, count ∙ same_count table empty w events others same runs)

same_itself : (table : Table) (w : World) (events : List Event) → AreSameEvents table w events events
same_itself table w [] = refl
same_itself table w (event ∷ events) = (event, events, refl, one event, λ next at. same_itself table next events)
  where
    one : (event : Event) → IsSameEvent w event event
    one (Expires side name id) = (name, refl, refl)
    one (Closes side name) = (name, refl, refl)
    one (Sends side message) = refl
    one (Receives side number) = refl
    one (Replies side number) = refl
    one (Loses side number) = refl
    one Quiet = refl
    one (Tells side message) = refl

pub follows_is_described : (table : Table) (c : Certificate) (items : List Item) (events : List Event) → Follows c items events
    → IsDescribedBy table c items events
follows_is_described table c items events follows = (events, same_itself table empty events, follows)
