-- What the refusal of a quiet mark shows, for each choice of judged ends.
use Rattle.std.proofs.Common.{◌≡◌, ◌⊎◌, inl, inr, ℕ, ◌+◌, true, false, List, ◌∷◌, ◌++◌, map, take, length, Option, Some, None, Result, Ok, Err, refl, sym, ap, subst, ◌∙◌}
use Rattle.std.specs.Prelude.{ok_or, slice_get}
use Rattle.std.proofs.lemmas.Bool.{eq-eqb}
use Rattle.tcap_record.specs.declared.entry.End.{End as Side}
use Rattle.tcap_record.specs.declared.entry.End.TheVariants as sides
use Rattle.tcap_record.specs.declared.entry.Entry.{Entry}
use Rattle.tcap_end.specs.declared.fault.EndFault.{EndFault}
use Rattle.tcap_end.specs.declared.fault.EndFault.TheVariants as faults
use Rattle.tcap_end.specs.End.{End, quiet}
use Rattle.tcap_end.specs.Step.{needs, ◌>>=◌, ◌>>◌}
use Rattle.tcap_end.specs.Table.{Table}
use Rattle.tcap_certificate.specs.declared.fault.CheckFault.{CheckFault}
use Rattle.tcap_model.specs.declared.reason.Reason.TheVariants as reasons
use Rattle.tcap_certificate.specs.declared.certificate.Fate.{Fate}
use Rattle.tcap_certificate.specs.declared.certificate.Fate.TheVariants.{Gap}
use Rattle.tcap_record.specs.Ends.{other}
use Rattle.tcap_model.specs.World.{Item, MessageInTransit, channel_from, end_at}
use Rattle.tcap_model.specs.Run.{Quiet, after, after_quiet}
use Rattle.tcap_certificate.specs.Certificate.{Certificate}
use Rattle.tcap_model.specs.Entries.{AreItems, IsItem, item_of}
use Rattle.tcap_certificate.specs.DescribedRun.{FatesFit, without_losses}
use Rattle.tcap_check.specs.GivenRun.{IsAt, IsPending, IsStillOpen}
use Rattle.tcap_certificate.specs.Replay.{Replay, closed_before, fault_at, gap_by, is_gap, is_nothing, lost_from_both, lost_last, mark_judged, next_entry, stepped, tied, with_step}
use Rattle.tcap_check.proofs.replay_laws.ReplayLaws.{gap_replays}
use Rattle.tcap_check.proofs.refusal_laws.FollowingLaws.{follows_all}
use Rattle.tcap_check.proofs.refusal_laws.PendingLaws.{SendsSoFar, alone_behind, peer_is_nothing}
use Rattle.tcap_check.proofs.refusal_laws.ReasonGaps.{Says, as_many, gap_says, needs_err, next_at, none_err, says, taken_front, then_err}
use Rattle.tcap_end.specs.declared.half.HalfName.{HalfName}
use Rattle.tcap_end.specs.HiddenSteps.{close_each, open_halves, quiet_after_closings}
use Rattle.tcap_end.proofs.AnsweringLaws.{ok_same}
use Rattle.tcap_check.specs.CheckerMeaning.{taken}
use Rattle.tcap_check.proofs.checker_laws.EntryLaws.{gap_is_heard, taken_is_heard}
use Rattle.tcap_check.proofs.progress_laws.KeptMarks.{Closings, closings_are}
use Rattle.tcap_check.proofs.progress_laws.KeptEntries.{IsHeard, gap_sends}
use Rattle.tcap_check.proofs.progress_laws.KeptSteps.{before_stays}
use Rattle.tcap_check.proofs.refusal_laws.PendingBoth.{stands_behind}
use Rattle.tcap_model.proofs.WorldLaws.{end_with_channel}
use Rattle.tcap_check.proofs.refusal_laws.ReasonPending.{busy_pends, closed_heard, closed_stands, last_sent, last_stands, not_quiet, not_there, taken_pends}

-- ---- open halves

-- If a half of the end may not close without a message, the mark is refused for it.
closed_refused : (judged : Option Side) (table : Table) (c : Certificate) (front rest : List Entry) (r mid : Replay) (fault : CheckFault)
    → taken judged table c (map item_of (take (next_entry r) (front ++ rest))) ≡ Ok r → gap_by judged table c r ≡ Ok mid
    → closed_before judged table (next_entry r) mid ≡ Err fault
    → (fault_at reasons.NotQuiet (next_entry r) ≡ fault) × IsStillOpen judged table c (front ++ rest) (next_entry r)
closed_refused None table c front rest r mid fault took goes refuses = cc
closed_refused (Some side) table c front rest r mid fault took goes refuses =
    by (close_each table halves (end_at side mid.world)) refl (closings_are false table c side (next_entry r) halves mid)
  where
    halves : List HalfName
    halves = open_halves (end_at side mid.world)

    by : (o : Result End EndFault) → close_each table halves (end_at side mid.world) ≡ o → Closings false table c side (next_entry r) halves mid o
        → (fault_at reasons.NotQuiet (next_entry r) ≡ fault) × IsStillOpen (Some side) table c (front ++ rest) (next_entry r)
    by (Ok e) at closed = let both = sym closed.closes ∙ refuses in cc
    by (Err reason) at none =
        let same : fault_at reasons.NotQuiet (next_entry r) ≡ fault = let both = sym none ∙ refuses in cc in
        (same, (r, mid, took, goes, reason, ap (λ (x : Result End EndFault). x >>= quiet) at))

-- If the judged end is not quiet after its halves closed, one may not close.
alone_open : (side : Side) (table : Table) (c : Certificate) (mark : ℕ) (r closed : Replay)
    → closed_before (Some side) table mark r ≡ Ok closed
    → quiet (end_at side (lost_last (Some side) c closed).world) ≡ Err faults.StillOpen
    → quiet_after_closings table (end_at side r.world) ≡ Err faults.StillOpen
alone_open side table c mark r closed is not_closed =
    by (close_each table halves (end_at side r.world)) refl (closings_are false table c side mark halves r)
  where
    halves : List HalfName
    halves = open_halves (end_at side r.world)

    by : (o : Result End EndFault) → close_each table halves (end_at side r.world) ≡ o → Closings false table c side mark halves r o
        → quiet_after_closings table (end_at side r.world) ≡ Err faults.StillOpen
    by (Err reason) at none = let both = sym none ∙ is in cc
    by (Ok e) at made =
        let same : made.behind ≡ closed = ok_same {F = CheckFault} made.behind closed (sym made.closes ∙ is) in
        let end_is : end_at side (lost_last (Some side) c closed).world ≡ e =
        end_with_channel side (other side) _ closed.world ∙ ap (λ (x : Replay). end_at side x.world) (sym same) ∙ made.end in
        ap (λ (x : Result End EndFault). x >>= quiet) at ∙ ap quiet (sym end_is) ∙ not_closed

-- The peer is quiet.
peer_quiet : (side : Side) (table : Table) (c : Certificate) (front : List Entry) (gaps : ℕ) (r : Replay)
    → SendsSoFar (Some side) table c front gaps r → quiet (end_at (other side) r.world) ≡ Err faults.StillOpen → ⊥
peer_quiet side table c front gaps r old is =
    let none = sym (ap quiet (peer_is_nothing side table r.events r.world old.runs old.so)) ∙ is in cc

-- If an end is not quiet, one of its halves is still open.
still_open : (judged : Option Side) (table : Table) (c : Certificate) (front rest : List Entry) (r mid closed : Replay) (side : Side)
    → taken judged table c (map item_of (take (next_entry r) (front ++ rest))) ≡ Ok r → gap_by judged table c r ≡ Ok mid
    → closed_before judged table (next_entry r) mid ≡ Ok closed
    → SendsSoFar judged table c front (next_entry r + 1) (lost_last judged c closed)
    → next_entry (lost_last judged c closed) ≡ next_entry r
    → quiet (end_at side (lost_last judged c closed).world) ≡ Err faults.StillOpen
    → IsStillOpen judged table c (front ++ rest) (next_entry r)
still_open None table c front rest r mid closed side took goes closes old same is_open =
    let last = lost_from_both c closed in
    let number : next_entry r ≡ length front = sym same ∙ sym (as_many front last.world.sent old.are) in
    let are = subst (λ (es : List Entry). AreItems es last.world.sent) (sym (taken_front front rest (next_entry r) number)) old.are in
    let up_to = old.so.follows.behind (ap (λ (n : ℕ). n + 1) (sym same)) in
    (side, last.events, last.world, old.runs, are, follows_all c last.world.sent (without_losses last.events) up_to, is_open)
still_open (Some one) table c front rest r mid closed side took goes closes old same is_open =
    (r, mid, took, goes, faults.StillOpen, by one side old closes is_open)
  where
    by : (one at : Side) → SendsSoFar (Some one) table c front (next_entry r + 1) (lost_last (Some one) c closed)
        → closed_before (Some one) table (next_entry r) mid ≡ Ok closed
        → quiet (end_at at (lost_last (Some one) c closed).world) ≡ Err faults.StillOpen
        → quiet_after_closings table (end_at one mid.world) ≡ Err faults.StillOpen
    by sides.A sides.A old closes e = alone_open sides.A table c (next_entry r) mid closed closes e
    by sides.A sides.B old closes e = absurd (peer_quiet sides.A table c front (next_entry r + 1) (lost_last (Some sides.A) c closed) old e)
    by sides.B sides.A old closes e = absurd (peer_quiet sides.B table c front (next_entry r + 1) (lost_last (Some sides.B) c closed) old e)
    by sides.B sides.B old closes e = alone_open sides.B table c (next_entry r) mid closed closes e

-- ---- a quiet mark

-- `SendsSoFar` holds after a gap.
pub gap_stands : (judged : Option Side) (table : Table) (c : Certificate) (front : List Entry) (r mid : Replay)
    → SendsSoFar judged table c front (next_entry r) r → gap_by judged table c r ≡ Ok mid
    → SendsSoFar judged table c front (next_entry r + 1) mid
gap_stands None table c front r mid old goes =
    let here = gap_replays table c r mid goes in stands_behind table c front r mid here.0 old here.1 here.2
gap_stands (Some side) table c front r mid old goes = alone_behind side table c front r mid old goes

-- If a mark is refused after its gap, a message is pending, or a half is open.
mark_refused : (judged : Option Side) (table : Table) (c : Certificate) (front rest : List Entry) (r mid : Replay) (fault : CheckFault)
    → SendsSoFar judged table c front (next_entry r) r → taken judged table c (map item_of front) ≡ Ok r → gap_by judged table c r ≡ Ok mid
    → (closed_before judged table (next_entry r) mid
    >>= λ closed. ok_or (stepped table Quiet (lost_last judged c closed)) (fault_at reasons.NotQuiet (next_entry r))) ≡ Err fault
    → (fault_at reasons.NotQuiet (next_entry r) ≡ fault)
    × (IsPending judged c (front ++ rest) (next_entry r) ⊎ IsStillOpen judged table c (front ++ rest) (next_entry r))
mark_refused judged table c front rest r mid fault old took goes refuses =
    by (then_err (closed_before judged table (next_entry r) mid) _ fault refuses)
  where
    Why : Type 0
    Why = IsPending judged c (front ++ rest) (next_entry r) ⊎ IsStillOpen judged table c (front ++ rest) (next_entry r)

    so_far : taken judged table c (map item_of (take (next_entry r) (front ++ rest))) ≡ Ok r
    so_far = ap (λ (es : List Entry). taken judged table c (map item_of es))
        (taken_front front rest (next_entry r) (sym (as_many front r.world.sent old.are))) ∙ took

    heard : IsHeard judged mid
    heard = gap_is_heard judged table c r mid (taken_is_heard judged table c (map item_of front) r took) goes

    behind : (closed : Replay) → closed_before judged table (next_entry r) mid ≡ Ok closed
        → after_quiet (lost_last judged c closed).world ≡ None → Why
    behind closed closes none = which (not_quiet last.world none)
      where
        last : Replay
        last = lost_last judged c closed

        stands : SendsSoFar judged table c front (next_entry r + 1) last
        stands = last_stands judged table c front (next_entry r + 1) closed
            (closed_stands judged table c front (next_entry r + 1) (next_entry r) mid closed closes (gap_stands judged table c front r mid old goes))

        same : next_entry last ≡ next_entry r
        same = ap length (last_sent judged table c closed ∙ (before_stays judged table (next_entry r) mid closed closes).sent
            ∙ gap_sends judged table c r mid goes)

        which : ((side : Side) × (head : MessageInTransit) × (more : List MessageInTransit) × (channel_from side last.world ≡ head ∷ more))
            ⊎ ((side : Side) × (quiet (end_at side last.world) ≡ Err faults.StillOpen)) → Why
        which (inl (side, head, more, channel)) =
            inl (busy_pends judged table c front rest (next_entry r) closed side head more stands same
            (closed_heard judged table (next_entry r) mid closed closes heard) channel)
        which (inr (side, is_open)) = inr (still_open judged table c front rest r mid closed side so_far goes closes stands same is_open)

    by : (closed_before judged table (next_entry r) mid ≡ Err fault)
        ⊎ ((closed : Replay) × (closed_before judged table (next_entry r) mid ≡ Ok closed)
        × (ok_or (stepped table Quiet (lost_last judged c closed)) (fault_at reasons.NotQuiet (next_entry r)) ≡ Err fault))
        → (fault_at reasons.NotQuiet (next_entry r) ≡ fault) × Why
    by (inl no_closing) =
        let why = closed_refused judged table c front rest r mid fault so_far goes no_closing in (why.0, inr why.1)
    by (inr (closed, closes, no_mark)) =
        let last = lost_last judged c closed in
        let none = none_err (stepped table Quiet last) (fault_at reasons.NotQuiet (next_entry r)) fault no_mark in
        (none.1, behind closed closes (not_there (with_step Quiet last) (after table Quiet last.world) none.0))

-- What the refusal of a quiet mark shows.
pub quiet_says : (judged : Option Side) (table : Table) (c : Certificate) (front rest : List Entry) (entry : Entry) (fate : Fate) (r : Replay)
    (fault : CheckFault) → FatesFit (length c.fates) 0 c.fates → SendsSoFar judged table c front (next_entry r) r
    → taken judged table c (map item_of front) ≡ Ok r → IsItem entry Item.Quiet → slice_get c.fates (next_entry r) ≡ Some fate
    → mark_judged judged table c fate r ≡ Err fault → Says judged table c (front ++ entry ∷ rest) fault
quiet_says judged table c front rest entry fate r fault fit old took is has refuses =
    by (needs_err (is_gap (next_entry r + 1) fate) (fault_at reasons.FateRange (next_entry r)) _ fault refuses)
  where
    all : List Entry
    all = front ++ entry ∷ rest

    here : IsAt all (next_entry r) Item.Quiet
    here = (entry, next_at front rest entry (next_entry r) (sym (as_many front r.world.sent old.are)), is)

    gap_is : fate ≡ Gap (next_entry r + 1) → is_gap (next_entry r + 1) fate ≡ true
    gap_is same = ap (is_gap (next_entry r + 1)) same ∙ eq-eqb (next_entry r + 1) (next_entry r + 1) refl

    marked : Replay → Result Replay CheckFault
    marked mid = closed_before judged table (next_entry r) mid
        >>= λ closed. ok_or (stepped table Quiet (lost_last judged c closed)) (fault_at reasons.NotQuiet (next_entry r))

    behind : (mid : Replay) → gap_by judged table c r ≡ Ok mid
        → ((is_nothing (tied judged c r) ≡ false) × (fault_at reasons.NotQuiet (next_entry r) ≡ fault))
        ⊎ ((is_nothing (tied judged c r) ≡ true) × (marked mid ≡ Err fault))
        → Says judged table c all fault
    behind mid goes (inl (takes, same)) =
        says judged table c all reasons.NotQuiet (next_entry r) fault same
        (here, inl (taken_pends judged table c front (entry ∷ rest) r fit old takes))
    behind mid goes (inr (takes_none, no_mark)) =
        let why = mark_refused judged table c front (entry ∷ rest) r mid fault old took goes no_mark in
        says judged table c all reasons.NotQuiet (next_entry r) fault why.0 (here, why.1)

    gap : (gap_by judged table c r ≡ Err fault)
        ⊎ ((mid : Replay) × (gap_by judged table c r ≡ Ok mid)
        × ((needs (is_nothing (tied judged c r)) (fault_at reasons.NotQuiet (next_entry r)) >> marked mid) ≡ Err fault))
        → Says judged table c all fault
    gap (inl no_gap) = gap_says judged table c front (entry ∷ rest) r fault old.are no_gap
    gap (inr (mid, goes, no_mark)) =
        behind mid goes (needs_err (is_nothing (tied judged c r)) (fault_at reasons.NotQuiet (next_entry r)) (marked mid) fault no_mark)

    by : ((is_gap (next_entry r + 1) fate ≡ false) × (fault_at reasons.FateRange (next_entry r) ≡ fault))
        ⊎ ((is_gap (next_entry r + 1) fate ≡ true)
        × ((gap_by judged table c r >>= λ mid.
        needs (is_nothing (tied judged c r)) (fault_at reasons.NotQuiet (next_entry r)) >> marked mid) ≡ Err fault))
        → Says judged table c all fault
    by (inl (not_next, same)) =
        says judged table c all reasons.FateRange (next_entry r) fault same
        (inl (fate, has, inr (here, λ e. let both = sym (gap_is e) ∙ not_next in cc)))
    by (inr (next, rest_refuses)) = gap (then_err (gap_by judged table c r) _ fault rest_refuses)
