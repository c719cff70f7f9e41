-- A quiet mark over what is kept is that of the replay.
use Rattle.std.proofs.Common.{◌≡◌, ℕ, suc, ◌+◌, Bool, true, false, cond, List, [], ◌∷◌, ◌++◌, length, Option, Some, None, Result, Ok, Err, refl, sym, ap, ap₂, subst, ◌∙◌, arith}
use Rattle.std.proofs.lemmas.Bool.{eqb-true}
use Rattle.std.specs.Prelude.{◌==◌, ◌&&◌, map, ok_or, option_map}
use Rattle.tcap_record.specs.declared.entry.End.{End as Side}
use Rattle.tcap_record.specs.declared.entry.End.TheVariants as sides
use Rattle.tcap_end.specs.declared.fault.EndFault.{EndFault}
use Rattle.tcap_end.specs.declared.fault.EndFault.TheVariants as faults
use Rattle.tcap_end.specs.declared.half.HalfName.{HalfName}
use Rattle.tcap_end.specs.End.{End, all_closed, nothing, quiet}
use Rattle.tcap_end.specs.HiddenSteps.{close, close_each, open_halves, quiet_after_closings}
use Rattle.tcap_end.specs.Table.{Table}
use Rattle.tcap_end.specs.Step.{needs, ◌>>◌, ◌>>=◌}
use Rattle.tcap_end.proofs.AnsweringLaws.{needs_ok, ok_same}
use Rattle.tcap_certificate.specs.declared.certificate.Fate.{Fate}
use Rattle.tcap_certificate.specs.declared.fault.CheckFault.{CheckFault}
use Rattle.tcap_model.specs.declared.reason.Reason.TheVariants.{NotQuiet}
use Rattle.tcap_check.specs.declared.progress.Progress.{Progress}
use Rattle.tcap_check.specs.declared.progress.Waiting.{Waiting}
use Rattle.tcap_record.specs.Ends.{other}
use Rattle.tcap_model.specs.World.{Item, MessageInTransit, Sent, World, channel_from, end_at, with_end}
use Rattle.tcap_model.specs.Run.{Event, Closes, Quiet, after}
use Rattle.tcap_certificate.specs.Certificate.{Certificate}
use Rattle.tcap_certificate.specs.Replay.{Replay, closed_at_mark, closed_before, fault_at, is_nothing, lost_from_front, lost_last, stepped, with_step}
use Rattle.tcap_check.specs.Progress.{YieldsInMemory, both_quiet, end_moved, front_lost, is_empty, is_none_kept, last_lost, losing_kept, loss_listed, moved, quiet_kept, side_at, with_side_end, with_steps, with_waiting}
use Rattle.tcap_check.specs.ReplaySteps.{alone_marked, closed_or_not, halves_closed, halves_shut, mark_taken, quieted}
use Rattle.tcap_check.specs.CheckerMeaning.{is_alone, latest_at, latest_of, map_ok, progress_of, waiting_at}
use Rattle.tcap_model.proofs.RunLaws.{map_some, quiet as quiet_step}
use Rattle.tcap_check.proofs.replay_laws.ReplaySteps.{same_end}
use Rattle.tcap_check.proofs.progress_laws.KeptBasics.{end_kept, end_step_is, last_is, moved_counts}
use Rattle.tcap_check.proofs.progress_laws.KeptStays.{Stays, closes_stays, stays_same, stays_then}
use Rattle.tcap_check.specs.ReportedSteps.{ListedRun, with_events}
use Rattle.tcap_check.proofs.checker_laws.ToldStepLaws.{told_both, told_still}
use Rattle.tcap_model.proofs.WorldLaws.{end_with}

-- ---- the open halves close

-- the progress after these halves closed, with this end
abbrev pub later : Side → End → List HalfName → Progress → Progress
later side e names p = record (with_steps (map (Closes side) names) (with_side_end side e p)) { moves = p.moves + length names }

-- These halves closed.
pub record Closed (listing : Bool) (table : Table) (c : Certificate) (side : Side) (mark : ℕ) (names : List HalfName) (r : Replay) (e : End) : Type 0 where
  pub behind : Replay
  pub closes : closed_at_mark table side mark names r ≡ Ok behind
  pub end : end_at side behind.world ≡ e
  pub kept : progress_of listing (Some side) c behind ≡ later side e names (progress_of listing (Some side) c r)
  pub stays : Stays r behind

-- The halves close, or one of them may not.
abbrev pub Closings : Bool → Table → Certificate → Side → ℕ → List HalfName → Replay → Result End EndFault → Type 0
Closings listing table c side mark names r (Ok e) = Closed listing table c side mark names r e
Closings listing table c side mark names r (Err reason) = closed_at_mark table side mark names r ≡ Err (fault_at NotQuiet mark)

later_more : (side : Side) (first last : End) (name : HalfName) (more : List HalfName) (p : Progress)
    → later side last more (moved (Closes side name) (with_side_end side first p)) ≡ later side last (name ∷ more) p
later_more side first last name more p = by side
  where
    same : (p.moves + 1) + length more ≡ p.moves + length (name ∷ more)
    same = omega arith

    by : (side : Side) → later side last more (moved (Closes side name) (with_side_end side first p)) ≡ later side last (name ∷ more) p
    by sides.A =
        ap₂ (λ (m : ℕ) (told : Option ListedRun). let x : Progress = record (with_side_end sides.A last p) { moves = m; steps = told } in x)
        same (told_both (Closes sides.A name) (map (Closes sides.A) more) p.steps)
    by sides.B =
        ap₂ (λ (m : ℕ) (told : Option ListedRun). let x : Progress = record (with_side_end sides.B last p) { moves = m; steps = told } in x)
        same (told_both (Closes sides.B name) (map (Closes sides.B) more) p.steps)

later_none : (side : Side) (p : Progress) → p ≡ later side (side_at side p).end [] p
later_none sides.A p =
    let same : p.moves ≡ p.moves + 0 = omega arith in
    ap₂ (λ (m : ℕ) (told : Option ListedRun). let x : Progress = record p { moves = m; steps = told } in x) same (sym (told_still p.steps))
later_none sides.B p =
    let same : p.moves ≡ p.moves + 0 = omega arith in
    ap₂ (λ (m : ℕ) (told : Option ListedRun). let x : Progress = record p { moves = m; steps = told } in x) same (sym (told_still p.steps))

pub closings_are : (listing : Bool) (table : Table) (c : Certificate) (side : Side) (mark : ℕ) (names : List HalfName) (r : Replay)
    → Closings listing table c side mark names r (close_each table names (end_at side r.world))
closings_are listing table c side mark [] r = record {
  behind = r;
  closes = refl;
  end = refl;
  kept = later_none side (progress_of listing (Some side) c r)
      ∙ ap (λ (e : End). later side e [] (progress_of listing (Some side) c r)) (end_kept listing (Some side) c side r);
  stays = stays_same r r refl;
}
closings_are listing table c side mark (name ∷ more) r =
    by (close table (end_at side r.world) name) refl (λ next. closings_are listing table c side mark more next)
  where
    fault : CheckFault
    fault = fault_at NotQuiet mark

    none : (reason : EndFault) → close table (end_at side r.world) name ≡ Err reason
        → closed_at_mark table side mark (name ∷ more) r ≡ Err fault
    none reason is = rw is refl

    behind_one : (e : End) → close table (end_at side r.world) name ≡ Ok e
        → stepped table (Closes side name) r ≡ Some (with_step (Closes side name) r (with_end side e r.world))
    behind_one e is = rw is refl

    then_closed : (e : End) (o : Result End EndFault) → close table (end_at side r.world) name ≡ Ok e
        → Closings listing table c side mark more (with_step (Closes side name) r (with_end side e r.world)) o
        → Closings listing table c side mark (name ∷ more) r o
    then_closed e (Err reason) is rest = ap (λ (x : Option Replay). ok_or x fault >>= closed_at_mark table side mark more) (behind_one e is) ∙ rest
    then_closed e (Ok last) is rest =
        let next = with_step (Closes side name) r (with_end side e r.world) in
        let one = end_step_is listing (Some side) c (Closes side name) side e r (λ at. refl) in
        record {
          behind = rest.behind;
          closes = ap (λ (x : Option Replay). ok_or x fault >>= closed_at_mark table side mark more) (behind_one e is) ∙ rest.closes;
          end = rest.end;
          kept = rest.kept ∙ ap (later side last more) one ∙ later_more side e last name more (progress_of listing (Some side) c r);
          stays = stays_then r next rest.behind (closes_stays table side name r next (behind_one e is)) rest.stays;
        }

    by : (o : Result End EndFault) → close table (end_at side r.world) name ≡ o
        → ((next : Replay) → Closings listing table c side mark more next (close_each table more (end_at side next.world)))
        → Closings listing table c side mark (name ∷ more) r (o >>= close_each table more)
    by (Err reason) is rest = none reason is
    by (Ok e) is rest =
        let next = with_step (Closes side name) r (with_end side e r.world) in
        then_closed e (close_each table more e) is
        (subst (λ (x : End). Closings listing table c side mark more next (close_each table more x)) (end_with side e r.world)
        (rest next))

-- ---- all is quiet

pub latest_with_mark : (side : Side) (fates : List Fate) (items : List Item)
    → latest_of side fates (items ++ Item.Quiet ∷ []) ≡ latest_of side fates items
latest_with_mark side [] [] = refl
latest_with_mark side [] (item ∷ items) = refl
latest_with_mark side (fate ∷ fates) [] = by fates
  where
    by : (fates : List Fate) → latest_of side fates [] ≡ 0
    by [] = refl
    by (fate ∷ fates) = refl
latest_with_mark side (fate ∷ fates) (Sent sender message ∷ items) = rw (latest_with_mark side fates items) refl
latest_with_mark side (fate ∷ fates) (Item.Quiet ∷ items) = latest_with_mark side fates items

latest_still : (judged : Option Side) (side : Side) (fates : List Fate) (items : List Item)
    → latest_at judged side fates (items ++ Item.Quiet ∷ []) ≡ latest_at judged side fates items
latest_still judged side fates items = ap (λ (n : ℕ). cond (is_alone judged side) 0 n) (latest_with_mark side fates items)

-- The step of a quiet mark: nothing is on its way, and both ends are quiet.
pub quiet_step_is : (listing : Bool) (judged : Option Side) (table : Table) (c : Certificate) (mark : ℕ) (r : Replay)
    → quiet_kept mark (progress_of listing judged c r) ≡ map_ok (progress_of listing judged c) (ok_or (stepped table Quiet r) (fault_at NotQuiet mark))
quiet_step_is listing judged table c mark r = channels r.world.from_a r.world.from_b refl refl
  where
    -- the replay after the mark, if both channels are empty
    behind : End → End → Replay
    behind a b = record {
      events = r.events ++ Quiet ∷ [];
      discards = r.discards;
      world = record { a = a; b = b; from_a = []; from_b = []; sent = r.world.sent ++ Item.Quiet ∷ [] };
    }

    kept_behind : End → End → Progress
    kept_behind a b = record {
      a = record { end = a; waiting = []; latest = latest_at judged sides.A c.fates r.world.sent };
      b = record { end = b; waiting = []; latest = latest_at judged sides.B c.fates r.world.sent };
      moves = (progress_of listing judged c r).moves + 1;
      unheard = (progress_of listing judged c r).unheard;
      steps = option_map (with_events (Quiet ∷ [])) (progress_of listing judged c r).steps;
    }

    behind_is : (a b : End) → kept_behind a b ≡ progress_of listing judged c (behind a b)
    behind_is a b =
        sym (moved_counts listing judged r.events r.discards Quiet
        (let x : Replay = record { events = r.events; discards = r.discards; world = (behind a b).world } in progress_of listing judged c x) (λ at. refl)
        ∙ rw (latest_still judged sides.A c.fates r.world.sent, latest_still judged sides.B c.fates r.world.sent) refl)

    ends : r.world.from_a ≡ [] → r.world.from_b ≡ [] → (a b : Result End EndFault) → quiet r.world.a ≡ a → quiet r.world.b ≡ b
        → both_quiet mark (progress_of listing judged c r) a b
        ≡ map_ok (progress_of listing judged c) (ok_or (stepped table Quiet r) (fault_at NotQuiet mark))
    ends none_a none_b (Ok a) (Ok b) is_a is_b = rw (none_a, none_b, is_a, is_b) (ap Ok (behind_is a b))
    ends none_a none_b (Ok a) (Err reason) is_a is_b = rw (none_a, none_b, is_a, is_b) refl
    ends none_a none_b (Err reason) (Ok b) is_a is_b = rw (none_a, none_b, is_a) refl
    ends none_a none_b (Err reason) (Err more) is_a is_b = rw (none_a, none_b, is_a) refl

    channels : (a b : List MessageInTransit) → r.world.from_a ≡ a → r.world.from_b ≡ b
        → quiet_kept mark (progress_of listing judged c r)
        ≡ map_ok (progress_of listing judged c) (ok_or (stepped table Quiet r) (fault_at NotQuiet mark))
    channels [] [] is_a is_b =
        ap₂ (λ (a b : List Waiting). needs (is_empty a && is_empty b) (fault_at NotQuiet mark)
        >> both_quiet mark (progress_of listing judged c r) (quiet r.world.a) (quiet r.world.b))
        (ap (waiting_at judged sides.A c.fates) is_a) (ap (waiting_at judged sides.B c.fates) is_b)
        ∙ ends is_a is_b (quiet r.world.a) (quiet r.world.b) refl refl
    channels (m ∷ more) b is_a is_b = rw is_a refl
    channels [] (m ∷ more) is_a is_b = rw (is_a, is_b) refl

-- A quiet end is unchanged by a quiet mark.
quiet_again : (e q : End) → quiet e ≡ Ok q → quiet q ≡ Ok q
quiet_again e q is =
    let so = needs_ok (all_closed e.begun && all_closed e.accepted) faults.StillOpen (Ok nothing) q is in
    let same : nothing ≡ q = ok_same {F = EndFault} nothing q so.1 in
    subst (λ (x : End). quiet x ≡ Ok x) same refl

-- It makes no difference whether an end was quieted before the mark or is quieted by it.
quieted_is : (side : Side) (number : ℕ) (p : Progress) (q : End) → quiet (side_at side p).end ≡ Ok q
    → quiet_kept number (with_side_end side q p) ≡ quiet_kept number p
quieted_is sides.A number p q is =
    rw (is, quiet_again p.a.end q is) (by (is_empty p.a.waiting && is_empty p.b.waiting) (quiet p.b.end))
  where
    by : (b : Bool) (o : Result End EndFault)
        → (needs b (fault_at NotQuiet number) >> both_quiet number (with_side_end sides.A q p) (Ok q) o)
        ≡ (needs b (fault_at NotQuiet number) >> both_quiet number p (Ok q) o)
    by false o = refl
    by true (Ok e) = refl
    by true (Err reason) = refl
quieted_is sides.B number p q is =
    rw (is, quiet_again p.b.end q is) (by (is_empty p.a.waiting && is_empty p.b.waiting) (quiet p.a.end))
  where
    by : (b : Bool) (o : Result End EndFault)
        → (needs b (fault_at NotQuiet number) >> both_quiet number (with_side_end sides.B q p) o (Ok q))
        ≡ (needs b (fault_at NotQuiet number) >> both_quiet number p o (Ok q))
    by false o = refl
    by true (Ok e) = refl
    by true (Err reason) = refl

-- If an end is not quiet, the mark is refused.
open_is : (side : Side) (number : ℕ) (p : Progress) (reason : EndFault) → quiet (side_at side p).end ≡ Err reason
    → quiet_kept number p ≡ Err (fault_at NotQuiet number)
open_is sides.A number p reason is = rw is (by (is_empty p.a.waiting && is_empty p.b.waiting))
  where
    by : (b : Bool) → (needs b (fault_at NotQuiet number) >> both_quiet number p (Err reason) (quiet p.b.end)) ≡ Err (fault_at NotQuiet number)
    by false = refl
    by true = refl
open_is sides.B number p reason is = rw is (by (is_empty p.a.waiting && is_empty p.b.waiting) (quiet p.a.end))
  where
    by : (b : Bool) (o : Result End EndFault)
        → (needs b (fault_at NotQuiet number) >> both_quiet number p o (Err reason)) ≡ Err (fault_at NotQuiet number)
    by false o = refl
    by true (Ok e) = refl
    by true (Err other) = refl

-- ---- losses before the mark

-- The loss of a message to an end does not change the end.
one_lost_puts : (side : Side) (q : End) (number : ℕ) (messages : List Waiting) (p : Progress)
    → loss_listed (Some side) (other side) number (with_waiting (other side) messages (with_side_end side q p))
    ≡ with_side_end side q (loss_listed (Some side) (other side) number (with_waiting (other side) messages p))
one_lost_puts sides.A q number messages p = refl
one_lost_puts sides.B q number messages p = refl

losing_puts : (side : Side) (q : End) (messages : List Waiting) (p : Progress)
    → losing_kept (Some side) (other side) messages (with_side_end side q p)
    ≡ with_side_end side q (losing_kept (Some side) (other side) messages p)
losing_puts side q [] p = refl
losing_puts side q (first ∷ more) p =
    by (is_none_kept first.message) (losing_puts side q more (loss_listed (Some side) (other side) first.number (with_waiting (other side) more p)))
  where
    by : (b : Bool)
        → losing_kept (Some side) (other side) more (with_side_end side q (loss_listed (Some side) (other side) first.number (with_waiting (other side) more p)))
        ≡ with_side_end side q (losing_kept (Some side) (other side) more (loss_listed (Some side) (other side) first.number (with_waiting (other side) more p)))
        → cond b (losing_kept (Some side) (other side) more (loss_listed (Some side) (other side) first.number (with_waiting (other side) more (with_side_end side q p))))
        (with_side_end side q p)
        ≡ with_side_end side q (cond b (losing_kept (Some side) (other side) more (loss_listed (Some side) (other side) first.number (with_waiting (other side) more p))) p)
    by true rest = ap (losing_kept (Some side) (other side) more) (one_lost_puts side q first.number more p) ∙ rest
    by false rest = refl

waits_still : (side : Side) (q : End) (p : Progress) → (side_at (other side) (with_side_end side q p)).waiting ≡ (side_at (other side) p).waiting
waits_still sides.A q p = refl
waits_still sides.B q p = refl

front_puts : (side : Side) (q : End) (p : Progress)
    → front_lost (Some side) (other side) (with_side_end side q p) ≡ with_side_end side q (front_lost (Some side) (other side) p)
front_puts side q p =
    ap (λ (x : List Waiting). losing_kept (Some side) (other side) x (with_side_end side q p)) (waits_still side q p)
    ∙ losing_puts side q (side_at (other side) p).waiting p

-- ---- halves that close one by one

put_later : (side : Side) (e q : End) (names : List HalfName) (p : Progress)
    → with_side_end side q (later side e names p) ≡ later side q names p
put_later sides.A e q names p = refl
put_later sides.B e q names p = refl

abbrev shut_or_not : Side → ℕ → List HalfName → Progress → Result End EndFault → Result Progress CheckFault
shut_or_not side number names p (Ok e) = Ok (later side e names p)
shut_or_not side number names p (Err reason) = Err (fault_at NotQuiet number)

moved_end : (side : Side) (event : Event) (e : End) (p : Progress) → (side_at side (moved event (with_side_end side e p))).end ≡ e
moved_end sides.A event e p = refl
moved_end sides.B event e p = refl

shut_is : (side : Side) (table : Table) (number : ℕ) (names : List HalfName) (p : Progress)
    → halves_shut side table number names p ≡ shut_or_not side number names p (close_each table names (side_at side p).end)
shut_is side table number [] p = ap (λ (x : Progress). let y : Result Progress CheckFault = Ok x in y) (later_none side p)
shut_is side table number (name ∷ more) p = by (close table (side_at side p).end name) (shut_is side table number more)
  where
    rest : (e : End) (o : Result End EndFault)
        → shut_or_not side number more (moved (Closes side name) (with_side_end side e p)) o ≡ shut_or_not side number (name ∷ more) p o
    rest e (Ok last) = ap (λ (x : Progress). let y : Result Progress CheckFault = Ok x in y) (later_more side e last name more p)
    rest e (Err reason) = refl

    by : (o : Result End EndFault)
        → ((q : Progress) → halves_shut side table number more q ≡ shut_or_not side number more q (close_each table more (side_at side q).end))
        → (end_moved side (Closes side name) (fault_at NotQuiet number) p o >>= halves_shut side table number more)
        ≡ shut_or_not side number (name ∷ more) p (o >>= close_each table more)
    by (Err reason) is = refl
    by (Ok e) is =
        let next = moved (Closes side name) (with_side_end side e p) in
        is next
        ∙ ap (λ (x : End). shut_or_not side number more next (close_each table more x)) (moved_end side (Closes side name) e p)
        ∙ rest e (close_each table more e)

losing_ends : (side : Side) (messages : List Waiting) (p : Progress)
    → (side_at side (losing_kept (Some side) (other side) messages p)).end ≡ (side_at side p).end
losing_ends side [] p = refl
losing_ends side (first ∷ more) p =
    by (is_none_kept first.message) (losing_ends side more next ∙ one side)
  where
    next : Progress
    next = loss_listed (Some side) (other side) first.number (with_waiting (other side) more p)

    one : (side : Side) → (side_at side (loss_listed (Some side) (other side) first.number (with_waiting (other side) more p))).end ≡ (side_at side p).end
    one sides.A = refl
    one sides.B = refl

    by : (b : Bool) → (side_at side (losing_kept (Some side) (other side) more next)).end ≡ (side_at side p).end
        → (side_at side (cond b (losing_kept (Some side) (other side) more next) p)).end ≡ (side_at side p).end
    by true rest = rest
    by false rest = refl

later_end : (side : Side) (e : End) (names : List HalfName) (p : Progress) → (side_at side (later side e names p)).end ≡ e
later_end sides.A e names p = refl
later_end sides.B e names p = refl

-- It makes no difference whether the halves close one by one or all at once.
pub marks_alike : (side : Side) (table : Table) (number : ℕ) (p : Progress)
    → alone_marked side table number p
    ≡ (halves_closed (Some side) table number p >>= λ closed. quiet_kept number (last_lost (Some side) closed))
marks_alike side table number p =
    ap (λ (x : Result Progress CheckFault). x >>= marked) (shut_is side table number names p) ∙ by (close_each table names (side_at side p).end)
  where
    names : List HalfName
    names = open_halves (side_at side p).end

    marked : Progress → Result Progress CheckFault
    marked closed = quiet_kept number (last_lost (Some side) closed)

    behind : (e : End) → (side_at side (last_lost (Some side) (later side e names p))).end ≡ e
    behind e =
        let shut = later side e names p in
        losing_ends side (side_at (other side) shut).waiting shut ∙ later_end side e names p

    then_quiet : (e : End) (o : Result End EndFault) → quiet e ≡ o
        → marked (later side e names p) ≡ (map_ok (with_steps (map (Closes side) names)) (closed_or_not side number p o) >>= marked)
    then_quiet e (Ok q) is =
        let shut = later side e names p in
        sym (ap marked (sym (put_later side e q names p))
        ∙ ap (quiet_kept number) (front_puts side q shut)
        ∙ quieted_is side number (last_lost (Some side) shut) q (ap quiet (behind e) ∙ is))
    then_quiet e (Err reason) is =
        open_is side number (last_lost (Some side) (later side e names p)) reason (ap quiet (behind e) ∙ is)

    by : (o : Result End EndFault)
        → (shut_or_not side number names p o >>= marked)
        ≡ (map_ok (with_steps (map (Closes side) names)) (closed_or_not side number p (o >>= quiet)) >>= marked)
    by (Err reason) = refl
    by (Ok e) = then_quiet e (quiet e) refl

-- This also holds for a whole mark that takes nothing.
pub listed_is : (judged : Option Side) (side : Side) (table : Table) (number : ℕ) (takes : List ℕ) (p left : Progress) (result : Result (Unit {0}) CheckFault)
    → judged ≡ Some side → (length takes == 0) ≡ true → YieldsInMemory (alone_marked side table number p) result left
    → YieldsInMemory (mark_taken judged table number takes p) result left
listed_is judged side table number [] p left result is none yields =
    rw is (subst (λ (x : Result Progress CheckFault). YieldsInMemory x result left) (marks_alike side table number p) yields)
listed_is judged side table number (taken ∷ more) p left result is none yields =
    let some : suc (length more) ≡ 0 = eqb-true (suc (length more)) 0 none in
    absurd (omega (arith, some))

-- ---- the quiet mark

-- After the mark nothing is on its way.
pub quiet_empty : (table : Table) (side : Side) (r next : Replay) → stepped table Quiet r ≡ Some next → channel_from side next.world ≡ []
quiet_empty table side r next is =
    let found = map_some _ (after table Quiet r.world) next is in
    let q = quiet_step table r.world found.0 found.1 in
    ap (λ (x : Replay). channel_from side x.world) (sym found.2) ∙ ap (channel_from side) q.next_is ∙ by _ side
  where
    by : (sent : List Item) (side : Side)
        → channel_from side (let w : World = record { a = nothing; b = nothing; from_a = []; from_b = []; sent = sent } in w) ≡ []
    by sent sides.A = refl
    by sent sides.B = refl

-- The halves of an end that is judged alone close, and the mark takes no message.
abbrev pub marked_by : Option Side → Table → Certificate → ℕ → List ℕ → Replay → Result Replay CheckFault
marked_by judged table c mark takes r =
    needs (is_nothing takes) (fault_at NotQuiet mark)
    >> (closed_before judged table mark r
    >>= λ closed. ok_or (stepped table Quiet (lost_last judged c closed)) (fault_at NotQuiet mark))

module _ (listing : Bool) (table : Table) (c : Certificate) (side : Side) (mark : ℕ) (r : Replay) where
  abbrev fault : CheckFault
  fault = fault_at NotQuiet mark

  abbrev halves : List HalfName
  halves = open_halves (end_at side r.world)

  abbrev p : Progress
  p = progress_of listing (Some side) c r

  -- the progress with these closings listed
  abbrev told : Progress → Progress
  told = with_steps (map (Closes side) (open_halves (side_at side p).end))

  abbrev last_step : Replay → Result Replay CheckFault
  last_step closed = ok_or (stepped table Quiet (lost_from_front c (other side) closed)) fault

  -- What is kept after the closings, with the end that was quieted.
  behind_is : (e q : End) (closed : Closed listing table c side mark halves r e)
      → told (quieted side q p) ≡ with_side_end side q (progress_of listing (Some side) c closed.behind)
  behind_is e q closed =
      ap (λ (x : End). later side q (open_halves x) p) (end_kept listing (Some side) c side r)
      ∙ sym (put_later side e q halves p)
      ∙ ap (with_side_end side q) (sym closed.kept)

  -- The mark over this is the mark after the closings.
  quiet_is : (e q : End) (closed : Closed listing table c side mark halves r e) → quiet e ≡ Ok q
      → quiet_kept mark (last_lost (Some side) (told (quieted side q p))) ≡ map_ok (progress_of listing (Some side) c) (last_step closed.behind)
  quiet_is e q closed is =
      let x = lost_from_front c (other side) closed.behind in
      let end_is : (side_at side (progress_of listing (Some side) c x)).end ≡ e =
      end_kept listing (Some side) c side x ∙ same_end c (other side) side closed.behind ∙ closed.end in
      ap (λ (y : Progress). quiet_kept mark (last_lost (Some side) y)) (behind_is e q closed)
      ∙ ap (quiet_kept mark) (front_puts side q (progress_of listing (Some side) c closed.behind)
      ∙ ap (with_side_end side q) (last_is listing (Some side) c closed.behind))
      ∙ quieted_is side mark (progress_of listing (Some side) c x) q (ap quiet end_is ∙ is)
      ∙ quiet_step_is listing (Some side) table c mark x

  marked : (o : Result End EndFault) → Closings listing table c side mark halves r o
      → (map_ok told (closed_or_not side mark p (o >>= quiet)) >>= λ closed. quiet_kept mark (last_lost (Some side) closed))
      ≡ map_ok (progress_of listing (Some side) c) (closed_at_mark table side mark halves r >>= last_step)
  marked (Err reason) is = rw is refl
  marked (Ok e) closed =
      by (quiet e) refl ∙ ap (λ (s : Result Replay CheckFault). map_ok (progress_of listing (Some side) c) (s >>= last_step)) (sym closed.closes)
    where
      by : (o : Result End EndFault) → quiet e ≡ o
          → (map_ok told (closed_or_not side mark p o) >>= λ x. quiet_kept mark (last_lost (Some side) x))
          ≡ map_ok (progress_of listing (Some side) c) (last_step closed.behind)
      by (Ok q) is = quiet_is e q closed is
      by (Err reason) is =
          let x = lost_from_front c (other side) closed.behind in
          let end_is : (side_at side (progress_of listing (Some side) c x)).end ≡ e =
          end_kept listing (Some side) c side x ∙ same_end c (other side) side closed.behind ∙ closed.end in
          sym (open_is side mark (progress_of listing (Some side) c x) reason (ap quiet end_is ∙ is)) ∙ quiet_step_is listing (Some side) table c mark x

  closed_is : (halves_closed (Some side) table mark p >>= λ closed. quiet_kept mark (last_lost (Some side) closed))
      ≡ map_ok (progress_of listing (Some side) c) (closed_before (Some side) table mark r
      >>= λ closed. ok_or (stepped table Quiet (lost_last (Some side) c closed)) fault)
  closed_is =
      ap (λ (e : End). map_ok told (closed_or_not side mark p (quiet_after_closings table e)) >>= λ closed. quiet_kept mark (last_lost (Some side) closed))
      (end_kept listing (Some side) c side r)
      ∙ marked (close_each table halves (end_at side r.world)) (closings_are listing table c side mark halves r)

both_closed : (listing : Bool) (table : Table) (c : Certificate) (mark : ℕ) (r : Replay)
    → quiet_kept mark (last_lost None (progress_of listing None c r))
    ≡ map_ok (progress_of listing None c) (ok_or (stepped table Quiet (lost_last None c r)) (fault_at NotQuiet mark))
both_closed listing table c mark r = ap (quiet_kept mark) (last_is listing None c r) ∙ quiet_step_is listing None table c mark (lost_last None c r)

pub mark_is : (listing : Bool) (judged : Option Side) (table : Table) (c : Certificate) (mark : ℕ) (takes : List ℕ) (r : Replay)
    → mark_taken judged table mark takes (progress_of listing judged c r) ≡ map_ok (progress_of listing judged c) (marked_by judged table c mark takes r)
mark_is listing judged table c mark takes r = by (is_nothing takes) judged
  where
    by : (b : Bool) (judged : Option Side)
        → (needs b (fault_at NotQuiet mark) >> halves_closed judged table mark (progress_of listing judged c r)
        >>= λ closed. quiet_kept mark (last_lost judged closed))
        ≡ map_ok (progress_of listing judged c) (needs b (fault_at NotQuiet mark) >> (closed_before judged table mark r
        >>= λ closed. ok_or (stepped table Quiet (lost_last judged c closed)) (fault_at NotQuiet mark)))
    by false judged = refl
    by true None = both_closed listing table c mark r
    by true (Some side) = closed_is listing table c side mark r
