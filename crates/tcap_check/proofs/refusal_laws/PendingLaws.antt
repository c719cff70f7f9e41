-- The messages that were taken so far, for each choice of judged ends: after a gap, those whose fate is this gap or an
-- earlier one, and after an entry, those that it takes.
use Rattle.std.proofs.Common.{◌≡◌, ◌⊎◌, inl, inr, ℕ, zero, suc, ◌+◌, ◌<◌, ◌≤◌, arith, true, List, [], ◌∷◌, ◌++◌, length, Option, Some, None, refl, sym, ap, subst, ◌∙◌, Ok, append-nil}
use Rattle.std.specs.Prelude.{slice_get}
use Rattle.std.specs.List.{AllByRecursion}
use Rattle.std.proofs.lemmas.List.{length-append}
use Rattle.std.proofs.lemmas.Option.{slice_get_within}
use Rattle.tcap_msg.specs.declared.message.Message.{Message}
use Rattle.tcap_record.specs.declared.entry.End.{End as Side}
use Rattle.tcap_record.specs.declared.entry.Entry.{Entry}
use Rattle.tcap_end.specs.Table.{Table}
use Rattle.tcap_model.specs.World.{Item, Sent, empty, World, end_at, is_side, with_channel, with_end}
use Rattle.tcap_model.specs.Run.{Event, Runs, numbers_taken, Sends, Receives, Replies, Loses, Expires, Closes, Quiet, Tells, after, played}
use Rattle.tcap_certificate.specs.declared.certificate.Fate.{Fate}
use Rattle.tcap_certificate.specs.declared.certificate.Fate.TheVariants.{Gap, Lost, By}
use Rattle.tcap_certificate.specs.Certificate.{Certificate}
use Rattle.tcap_model.specs.Entries.{AreItems, IsItem}
use Rattle.tcap_certificate.specs.DescribedRun.{FatesFit, without_losses}
use Rattle.tcap_certificate.specs.Replay.{Replay, is_received_from, next_entry, gap_by, item_by}
use Rattle.tcap_model.proofs.RunLaws.{played_on, closing, delivery, expiry, loss, quiet as quiet_step, reply, same_side, sending, some_is, telling, then_some}
use Rattle.tcap_check.proofs.one_end_lemmas.AloneCounts.{IsOwn}
use Rattle.tcap_check.proofs.replay_laws.ReplaySteps.{Extends, IsIn}
use Rattle.tcap_check.proofs.refusal_laws.FollowingLaws.{IsUpTo}
use Rattle.tcap_check.proofs.given_run_lemmas.NumberLaws.{taken_left}
use Rattle.std.proofs.lemmas.Bool.{cases_lt}
use Rattle.tcap_record.specs.declared.entry.End.TheVariants as sides
use Rattle.tcap_end.specs.End.{nothing}
use Rattle.tcap_record.specs.Ends.{other}
use Rattle.tcap_model.proofs.ListLaws.{all_both}
use Rattle.tcap_check.proofs.one_end_lemmas.AloneReplays.{gap_leads, item_leads, Leads}
use Rattle.tcap_check.proofs.one_end_lemmas.AloneTaken.{IsNext, gap_takes, item_takes}
use Rattle.tcap_model.proofs.WorldLaws.{end_joined, end_with_channel, peer_with_end}

-- ---- fates

-- A fate in range comes after its entry.
abbrev pub IsAhead : ℕ → Fate → Type 0
IsAhead number (Gap gap) = number < gap
IsAhead number (By reply) = number < reply
IsAhead number Lost = Unit {0}

pub further_on : (k i : ℕ) → (k + 1) + i ≡ k + suc i
further_on k i = omega arith

further : (k i : ℕ) (fate : Fate) → IsAhead ((k + 1) + i) fate → IsAhead (k + suc i) fate
further k i fate is = subst (λ (n : ℕ). IsAhead n fate) (further_on k i) is

-- Among fates in range, each comes after its entry.
pub ahead : (count k i : ℕ) (fates : List Fate) (fate : Fate) → FatesFit count k fates → slice_get fates i ≡ Some fate → IsAhead (k + i) fate
ahead count k i [] fate fit is = cc
ahead count k zero (Gap g ∷ fates) fate fit is =
    let same : Gap g ≡ fate = cc in subst (IsAhead (k + 0)) same (omega (arith, fit.0))
ahead count k zero (By r ∷ fates) fate fit is =
    let same : By r ≡ fate = cc in subst (IsAhead (k + 0)) same (omega (arith, fit.0))
ahead count k zero (Lost ∷ fates) fate fit is = let same : Lost ≡ fate = cc in subst (IsAhead (k + 0)) same tt
ahead count k (suc i) (Gap g ∷ fates) fate fit is = further k i fate (ahead count (k + 1) i fates fate fit.2 is)
ahead count k (suc i) (By r ∷ fates) fate fit is = further k i fate (ahead count (k + 1) i fates fate fit.2 is)
ahead count k (suc i) (Lost ∷ fates) fate fit is = further k i fate (ahead count (k + 1) i fates fate fit is)

-- ---- what was taken so far

-- The fate is over after this many gaps and entries.
abbrev pub IsOver : ℕ → ℕ → Fate → Type 0
IsOver gaps replies (Gap gap) = gap < gaps
IsOver gaps replies (By reply) = reply < replies
IsOver gaps replies Lost = ⊥

-- Each message to a judged end whose fate is over was taken.
abbrev pub AreTaken : Option Side → Certificate → ℕ → ℕ → List Item → List Event → Type 0
AreTaken judged c gaps replies items events = (n : ℕ) (side : Side) (message : Message) (fate : Fate) → is_received_from judged side ≡ true
    → slice_get items n ≡ Some (Sent side message) → slice_get c.fates n ≡ Some fate → IsOver gaps replies fate
    → IsIn n (numbers_taken side events)

-- If both ends are judged, the fate of a quiet mark is the next gap, and the run follows the certificate apart from
-- losses.
pub record IsAsSaid (c : Certificate) (gaps : ℕ) (r : Replay) : Type 0 where
  pub marks : (n : ℕ) → slice_get r.world.sent n ≡ Some Item.Quiet → slice_get c.fates n ≡ Some (Gap (n + 1))
  pub follows : IsUpTo c gaps r.world.sent (without_losses r.events)

-- If both ends are judged, `IsAsSaid` holds. If one end is judged alone, the run has only events that are its own
-- (`IsOwn`).
abbrev pub IsSo : Option Side → Certificate → ℕ → Replay → Type 0
IsSo None c gaps r = IsAsSaid c gaps r
IsSo (Some judged) c gaps r = AllByRecursion (IsOwn judged) r.events

-- The replay so far, after this many gaps: a run that sends the entries so far. Each entry has a fate, and the messages
-- whose fates are over were taken.
pub record SendsSoFar (judged : Option Side) (table : Table) (c : Certificate) (front : List Entry) (gaps : ℕ) (r : Replay) : Type 0 where
  pub runs : Runs table r.events r.world
  pub are : AreItems front r.world.sent
  pub counted : next_entry r ≤ length c.fates
  pub taken : AreTaken judged c gaps (next_entry r) r.world.sent r.events
  pub so : IsSo judged c gaps r

pub runs_on : (table : Table) (r next : Replay) (more : List Event) → Runs table r.events r.world → Extends table r more next
    → Runs table next.events next.world
runs_on table r next more runs on = rw on.events (played_on table r.events more empty r.world runs ∙ on.plays)

pub taken_on : (table : Table) (n : ℕ) (side : Side) (r next : Replay) (steps : List Event) → Extends table r steps next
    → IsIn n (numbers_taken side r.events) → IsIn n (numbers_taken side next.events)
taken_on table n side r next steps on was =
    subst (λ (x : List Event). IsIn n (numbers_taken side x)) (sym on.events) (taken_left side n r.events steps was)

-- After steps that send nothing, the taken messages are still taken.
pub taken_still : (judged : Option Side) (table : Table) (c : Certificate) (gaps : ℕ) (r next : Replay) (steps : List Event)
    → AreTaken judged c gaps (next_entry r) r.world.sent r.events → Extends table r steps next → next.world.sent ≡ r.world.sent
    → AreTaken judged c gaps (next_entry next) next.world.sent next.events
taken_still judged table c gaps r next steps old on same n side message fate heard is has over =
    taken_on table n side r next steps on
    (old n side message fate heard (ap (λ (x : List Item). slice_get x n) (sym same) ∙ is) has
    (subst (λ (k : ℕ). IsOver gaps k fate) (ap length same) over))

-- Steps that send nothing keep `SendsSoFar`, also for a later gap whose messages were taken.
pub stands_on : (judged : Option Side) (table : Table) (c : Certificate) (front : List Entry) (gaps more : ℕ) (r next : Replay)
    (steps : List Event) → SendsSoFar judged table c front gaps r → Extends table r steps next → next.world.sent ≡ r.world.sent
    → AreTaken judged c more (next_entry next) next.world.sent next.events → IsSo judged c more next
    → SendsSoFar judged table c front more next
stands_on judged table c front gaps more r next steps old on same taken so =
    let number : next_entry next ≡ next_entry r = ap length same in
    record {
      runs = runs_on table r next steps old.runs on;
      are = subst (AreItems front) (sym same) old.are;
      counted = omega (arith, old.counted, number);
      taken = taken;
      so = so;
    }

pub stands_still : (judged : Option Side) (table : Table) (c : Certificate) (front : List Entry) (gaps : ℕ) (r next : Replay)
    (steps : List Event) → SendsSoFar judged table c front gaps r → Extends table r steps next → next.world.sent ≡ r.world.sent
    → IsSo judged c gaps next → SendsSoFar judged table c front gaps next
stands_still judged table c front gaps r next steps old on same so =
    stands_on judged table c front gaps gaps r next steps old on same (taken_still judged table c gaps r next steps old.taken on same) so

-- ---- an entry

one_more : (front : List Entry) (items : List Item) (entry : Entry) (item : Item) → AreItems front items → IsItem entry item
    → AreItems (front ++ entry ∷ []) (items ++ item ∷ [])
one_more [] [] entry item are is = (is, tt)
one_more [] (i ∷ items) entry item are is = absurd are
one_more (e ∷ front) [] entry item are is = absurd are
one_more (e ∷ front) (i ∷ items) entry item are is = (are.0, one_more front items entry item are.1 is)

-- An item that is found after one more was there before, or is the new one.
pub old_or_new : (items : List Item) (item found : Item) (n : ℕ) → slice_get (items ++ item ∷ []) n ≡ Some found
    → (slice_get items n ≡ Some found) ⊎ ((n ≡ length items) × (item ≡ found))
old_or_new [] item found zero is = inr (refl, cc)
old_or_new [] item found (suc n) is = cc
old_or_new (i ∷ items) item found zero is = inl is
old_or_new (i ∷ items) item found (suc n) is = by (old_or_new items item found n is)
  where
    by : (slice_get items n ≡ Some found) ⊎ ((n ≡ length items) × (item ≡ found))
        → (slice_get items n ≡ Some found) ⊎ ((suc n ≡ length (i ∷ items)) × (item ≡ found))
    by (inl was) = inl was
    by (inr new) = inr (ap suc new.0, new.1)

-- The fate of the newest message is not over.
not_yet : (number n : ℕ) (fate : Fate) → IsAhead (0 + n) fate → n ≡ number → IsOver (number + 1) (number + 1) fate → ⊥
not_yet number n (Gap g) ahead same over = omega (arith, ahead, same, over)
not_yet number n (By k) ahead same over = omega (arith, ahead, same, over)
not_yet number n Lost ahead same over = over

-- After the next item, each message whose fate is over was taken, if this holds for the messages before the item.
pub taken_next : (judged : Option Side) (c : Certificate) (count : ℕ) (item : Item) (r next : Replay) → FatesFit count 0 c.fates
    → next.world.sent ≡ r.world.sent ++ item ∷ []
    → ((n : ℕ) (side : Side) (message : Message) (fate : Fate) → is_received_from judged side ≡ true
    → slice_get r.world.sent n ≡ Some (Sent side message) → slice_get c.fates n ≡ Some fate
    → IsOver (next_entry r + 1) (next_entry r + 1) fate → IsIn n (numbers_taken side next.events))
    → AreTaken judged c (next_entry next) (next_entry next) next.world.sent next.events
taken_next judged c count item r next fit grown before n side message fate heard is has over =
    by (old_or_new r.world.sent item (Sent side message) n (ap (λ (x : List Item). slice_get x n) (sym grown) ∙ is))
    (subst (λ (k : ℕ). IsOver k k fate) (ap length grown ∙ length-append r.world.sent (item ∷ [])) over)
  where
    by : (slice_get r.world.sent n ≡ Some (Sent side message)) ⊎ ((n ≡ length r.world.sent) × (item ≡ Sent side message))
        → IsOver (next_entry r + 1) (next_entry r + 1) fate → IsIn n (numbers_taken side next.events)
    by (inl was) over = before n side message fate heard was has over
    by (inr new) over = absurd (not_yet (next_entry r) n fate (ahead count 0 n c.fates fate fit has) new.0 over)

-- `SendsSoFar` holds after one more entry.
pub stands_more : (judged : Option Side) (table : Table) (c : Certificate) (front : List Entry) (gaps : ℕ) (entry : Entry) (item : Item)
    (fate : Fate) (r next : Replay) (steps : List Event) → SendsSoFar judged table c front gaps r → IsItem entry item
    → slice_get c.fates (next_entry r) ≡ Some fate → Extends table r steps next → next.world.sent ≡ r.world.sent ++ item ∷ []
    → AreTaken judged c (next_entry next) (next_entry next) next.world.sent next.events → IsSo judged c (next_entry next) next
    → SendsSoFar judged table c (front ++ entry ∷ []) (next_entry next) next
stands_more judged table c front gaps entry item fate r next steps old is has on grown taken so =
    let more : next_entry next ≡ next_entry r + 1 = ap length grown ∙ length-append r.world.sent (item ∷ []) in
    let within : next_entry r < length c.fates = slice_get_within c.fates (next_entry r) fate has in
    record {
      runs = runs_on table r next steps old.runs on;
      are = subst (AreItems (front ++ entry ∷ [])) (sym grown) (one_more front r.world.sent entry item old.are is);
      counted = omega (arith, more, within);
      taken = taken;
      so = so;
    }

-- ---- steps

-- The steps so far, and those after them, are the end's own.
own_on : (side : Side) (table : Table) (r : Replay) (items : List Item) (next : Replay) → AllByRecursion (IsOwn side) r.events
    → Leads side table r items next → AllByRecursion (IsOwn side) next.events
own_on side table r items next own leads =
    subst (AllByRecursion (IsOwn side)) (sym leads.extends.events) (all_both (IsOwn side) r.events leads.steps own leads.own)

-- Steps that send nothing keep `SendsSoFar`.
pub leads_still : (side : Side) (table : Table) (c : Certificate) (front : List Entry) (gaps : ℕ) (r next : Replay)
    → SendsSoFar (Some side) table c front gaps r → Leads side table r [] next → SendsSoFar (Some side) table c front gaps next
leads_still side table c front gaps r next old leads =
    stands_still (Some side) table c front gaps r next leads.steps old leads.extends (leads.sent ∙ append-nil r.world.sent)
    (own_on side table r [] next old.so leads)

-- ---- a gap

peer_taken : (side sender : Side) (n : ℕ) (next : Replay) → is_side (other side) sender ≡ true
    → IsIn n (numbers_taken (other side) next.events) → IsIn n (numbers_taken sender next.events)
peer_taken side sender n next of_peer took =
    subst (λ (s : Side). IsIn n (numbers_taken s next.events)) (same_side (other side) sender of_peer) took

by_peer : (side sender : Side) (message : Message) (n : ℕ) (items : List Item) → is_side (other side) sender ≡ true
    → slice_get items n ≡ Some (Sent sender message) → slice_get items n ≡ Some (Sent (other side) message)
by_peer side sender message n items of_peer is =
    is ∙ ap (λ (s : Side). Some (Sent s message)) (sym (same_side (other side) sender of_peer))

-- After a gap, the messages that it delivers were taken.
pub alone_behind : (side : Side) (table : Table) (c : Certificate) (front : List Entry) (r next : Replay)
    → SendsSoFar (Some side) table c front (next_entry r) r → gap_by (Some side) table c r ≡ Ok next
    → SendsSoFar (Some side) table c front (next_entry r + 1) next
alone_behind side table c front r next old goes =
    stands_on (Some side) table c front (next_entry r) (next_entry r + 1) r next leads.steps old leads.extends same
    (λ n sender message fate heard is has over.
    by n sender message fate heard (ap (λ (x : List Item). slice_get x n) (sym same) ∙ is) has
    (subst (λ (k : ℕ). IsOver (next_entry r + 1) k fate) (ap length same) over))
    (own_on side table r [] next old.so leads)
  where
    leads : Leads side table r [] next
    leads = gap_leads side table c r next goes

    same : next.world.sent ≡ r.world.sent
    same = leads.sent ∙ append-nil r.world.sent

    by : (n : ℕ) (sender : Side) (message : Message) (fate : Fate) → is_side (other side) sender ≡ true
        → slice_get r.world.sent n ≡ Some (Sent sender message) → slice_get c.fates n ≡ Some fate
        → IsOver (next_entry r + 1) (next_entry r) fate → IsIn n (numbers_taken sender next.events)
    by n sender message Lost heard is has over = absurd over
    by n sender message (By k) heard is has over =
        taken_on table n sender r next leads.steps leads.extends (old.taken n sender message (By k) heard is has over)
    by n sender message (Gap g) heard is has over = which (cases_lt g (next_entry r))
      where
        which : (g < next_entry r) ⊎ (next_entry r ≤ g) → IsIn n (numbers_taken sender next.events)
        which (inl before) =
            taken_on table n sender r next leads.steps leads.extends (old.taken n sender message (Gap g) heard is has before)
        which (inr not_before) =
            let here : g ≡ next_entry r = omega (arith, over, not_before) in
            peer_taken side sender n next heard
            (gap_takes side table c message n r next goes (has ∙ ap (λ (k : ℕ). Some (Gap k)) here)
            (by_peer side sender message n r.world.sent heard is))

-- ---- an entry

-- A fate that is over after an entry was over before it, or is its gap or the entry.
over_or_next : (fate : Fate) (k : ℕ) → IsOver (k + 1) (k + 1) fate → IsOver k k fate ⊎ IsNext fate k
over_or_next Lost k over = absurd over
over_or_next (Gap g) k over = by (cases_lt g k)
  where
    by : (g < k) ⊎ (k ≤ g) → (g < k) ⊎ (g ≡ k)
    by (inl before) = inl before
    by (inr not_before) = inr (omega (arith, over, not_before))
over_or_next (By g) k over = by (cases_lt g k)
  where
    by : (g < k) ⊎ (k ≤ g) → (g < k) ⊎ (g ≡ k)
    by (inl before) = inl before
    by (inr not_before) = inr (omega (arith, over, not_before))

-- After an entry, the messages that its gap delivers, or that it takes, were taken.
pub alone_next : (side : Side) (table : Table) (c : Certificate) (front : List Entry) (entry : Entry) (item : Item) (fate : Fate)
    (r next : Replay) → FatesFit (length c.fates) 0 c.fates → SendsSoFar (Some side) table c front (next_entry r) r → IsItem entry item
    → slice_get c.fates (next_entry r) ≡ Some fate → item_by (Some side) table c fate item r ≡ Ok next
    → SendsSoFar (Some side) table c (front ++ entry ∷ []) (next_entry next) next
alone_next side table c front entry item fate r next fit old is has goes =
    stands_more (Some side) table c front (next_entry r) entry item fate r next leads.steps old is has leads.extends leads.sent
    (taken_next (Some side) c (length c.fates) item r next fit leads.sent before)
    (own_on side table r (item ∷ []) next old.so leads)
  where
    leads : Leads side table r (item ∷ []) next
    leads = item_leads side table c fate item r next goes

    before : (n : ℕ) (sender : Side) (message : Message) (f : Fate) → is_side (other side) sender ≡ true
        → slice_get r.world.sent n ≡ Some (Sent sender message) → slice_get c.fates n ≡ Some f
        → IsOver (next_entry r + 1) (next_entry r + 1) f → IsIn n (numbers_taken sender next.events)
    before n sender message f heard was has_n over = which (over_or_next f (next_entry r) over)
      where
        which : IsOver (next_entry r) (next_entry r) f ⊎ IsNext f (next_entry r) → IsIn n (numbers_taken sender next.events)
        which (inl earlier) =
            taken_on table n sender r next leads.steps leads.extends (old.taken n sender message f heard was has_n earlier)
        which (inr now) =
            peer_taken side sender n next heard
            (item_takes side table c fate item message n f r next goes has_n now (by_peer side sender message n r.world.sent heard was))

-- ---- the peer

both_nothing : (side : Side) (sent : List Item)
    → end_at side (let w : World = record { a = nothing; b = nothing; from_a = []; from_b = []; sent = sent } in w) ≡ nothing
both_nothing sides.A sent = refl
both_nothing sides.B sent = refl

-- A step of the end, or a message of its peer, leaves the peer as it was at the start.
peer_step : (side : Side) (table : Table) (event : Event) (w next : World) → IsOwn side event → after table event w ≡ Some next
    → end_at (other side) w ≡ nothing → end_at (other side) next ≡ nothing
peer_step side table (Sends sender m) w next own is was =
    let s = sending table sender m w next is in
    ap (end_at (other side)) s.next_is ∙ end_joined (other side) sender m (with_end sender s.made w)
    ∙ ap (λ (at : Side). end_at (other side) (with_end at s.made w)) own ∙ peer_with_end side s.made w ∙ was
peer_step side table (Receives receiver n) w next own is was =
    let d = delivery table receiver n w next is in
    let rest = with_channel (other receiver) d.more w in
    ap (end_at (other side)) d.next_is ∙ ap (λ (at : Side). end_at (other side) (with_end at d.made rest)) own
    ∙ peer_with_end side d.made rest ∙ end_with_channel (other side) (other receiver) d.more w ∙ was
peer_step side table (Replies replier n) w next own is was =
    let r = reply table replier n w next is in
    ap (end_at (other side)) r.next_is ∙ end_joined (other side) replier r.abort (with_channel (other replier) r.more w)
    ∙ end_with_channel (other side) (other replier) r.more w ∙ was
peer_step side table (Loses sender n) w next own is was =
    let l = loss table sender n w next is in
    ap (end_at (other side)) l.next_is ∙ end_with_channel (other side) sender l.more w ∙ was
peer_step side table (Expires actor name id) w next own is was =
    let h = expiry table actor name id w next is in
    ap (end_at (other side)) h.next_is ∙ ap (λ (at : Side). end_at (other side) (with_end at h.made w)) own
    ∙ peer_with_end side h.made w ∙ was
peer_step side table (Closes actor name) w next own is was =
    let h = closing table actor name w next is in
    ap (end_at (other side)) h.next_is ∙ ap (λ (at : Side). end_at (other side) (with_end at h.made w)) own
    ∙ peer_with_end side h.made w ∙ was
peer_step side table Quiet w next own is was =
    ap (end_at (other side)) (quiet_step table w next is).next_is ∙ both_nothing (other side) (w.sent ++ Item.Quiet ∷ [])
peer_step side table (Tells teller m) w next own is was =
    ap (end_at (other side)) (telling table teller m w next is).next_is ∙ end_joined (other side) teller m w ∙ was

peer_on : (side : Side) (table : Table) (events : List Event) (w next : World) → AllByRecursion (IsOwn side) events
    → played table events w ≡ Some next → end_at (other side) w ≡ nothing → end_at (other side) next ≡ nothing
peer_on side table [] w next own is was = ap (end_at (other side)) (sym (some_is is)) ∙ was
peer_on side table (event ∷ events) w next own is was =
    let one = then_some (after table event w) (played table events) next is in
    peer_on side table events one.0 next own.1 one.2 (peer_step side table event w one.0 own.0 one.1 was)

-- After a run of the end, the peer is as it was at the start.
pub peer_is_nothing : (side : Side) (table : Table) (events : List Event) (w : World) → Runs table events w
    → AllByRecursion (IsOwn side) events → end_at (other side) w ≡ nothing
peer_is_nothing side table events w runs own = peer_on side table events empty w own runs (both_nothing (other side) [])
