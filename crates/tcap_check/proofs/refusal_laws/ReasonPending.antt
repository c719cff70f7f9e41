-- If a quiet mark is refused, a message is pending: one that the mark takes, or one that is still on its way.
use Rattle.std.proofs.Common.{get_or, ◌≡◌, ◌⊎◌, inl, inr, ℕ, suc, ◌+◌, ◌<◌, ◌≤◌, ◌==◌, arith, Bool, true, false, cond, List, [], ◌∷◌, ◌++◌, drop, length, Option, Some, None, option_map, Result, Ok, Err, refl, sym, ap, subst, ◌∙◌, append-nil}
use Rattle.std.specs.Prelude.{◌&&◌, slice_get}
use Rattle.std.specs.List.{AllByRecursion}
use Rattle.std.specs.Result.{result_ok}
use Rattle.std.proofs.lemmas.Bool.{cases_lt, eqb-true}
use Rattle.std.proofs.lemmas.Option.{slice_get_cases, slice_get_within}
use Rattle.tcap_msg.specs.declared.message.Message.{Message}
use Rattle.tcap_record.specs.declared.entry.End.{End as Side}
use Rattle.tcap_record.specs.declared.entry.End.TheVariants as sides
use Rattle.tcap_record.specs.declared.entry.Entry.{Entry}
use Rattle.tcap_end.specs.declared.fault.EndFault.{EndFault}
use Rattle.tcap_end.specs.declared.fault.EndFault.TheVariants as faults
use Rattle.tcap_end.specs.End.{End, all_closed, nothing, quiet}
use Rattle.tcap_end.specs.Step.{needs, ◌>>◌}
use Rattle.tcap_end.specs.Table.{Table}
use Rattle.tcap_certificate.specs.declared.fault.CheckFault.{CheckFault}
use Rattle.tcap_certificate.specs.declared.certificate.Fate.{Fate}
use Rattle.tcap_certificate.specs.declared.certificate.Fate.TheVariants.{Gap, Lost, By}
use Rattle.tcap_record.specs.Ends.{other}
use Rattle.tcap_model.specs.World.{Item, MessageInTransit, Sent, World, channel_from, end_at}
use Rattle.tcap_model.specs.Run.{after_quiet, option_then}
use Rattle.tcap_certificate.specs.Certificate.{Certificate}
use Rattle.tcap_certificate.specs.DescribedRun.{FatesFit, taken_by}
use Rattle.tcap_check.specs.GivenRun.{IsAt, IsPending}
use Rattle.tcap_certificate.specs.Replay.{Replay, closed_before, is_received_from, is_nothing, is_sent_by, lost_from_both, lost_from_front, lost_front, lost_last, next_entry, tied}
use Rattle.tcap_model.specs.SinceMark.{WasSent}
use Rattle.tcap_model.proofs.ChannelLaws.{were_sent}
use Rattle.tcap_check.proofs.replay_laws.ReplaySteps.{head_stays, IsIn, both_replay}
use Rattle.tcap_check.proofs.refusal_laws.PendingLaws.{IsOver, SendsSoFar, ahead, stands_still, leads_still}
use Rattle.tcap_model.proofs.RunLaws.{same_side}
use Rattle.tcap_check.proofs.refusal_laws.TakenNumberLaws.{taken_is_gone}
use Rattle.tcap_check.proofs.refusal_laws.ReasonGaps.{at_front, in_filter}
use Rattle.tcap_end.specs.HiddenSteps.{open_halves}
use Rattle.tcap_end.proofs.AnsweringLaws.{ok_same}
use Rattle.tcap_check.proofs.one_end_lemmas.AloneReplays.{closed_leads, front_leads}
use Rattle.tcap_check.proofs.progress_laws.KeptEntries.{IsHeard}
use Rattle.tcap_check.proofs.progress_laws.KeptSteps.{before_stays}
use Rattle.tcap_check.proofs.refusal_laws.PendingBoth.{losses_said}
use Rattle.tcap_model.proofs.WorldLaws.{itself, sent_with_channel}

-- ---- messages that a mark takes

-- A message that a reply takes has this reply as its fate.
fate_of : (reply k n : ℕ) (fates : List Fate) → IsIn n (taken_by reply k fates) → (i : ℕ) × (n ≡ k + i) × (slice_get fates i ≡ Some (By reply))
fate_of reply k n [] is = absurd is
fate_of reply k n (Gap g ∷ fates) is =
    let found = fate_of reply (k + 1) n fates is in (suc found.0, omega (arith, found.1), found.2)
fate_of reply k n (Lost ∷ fates) is =
    let found = fate_of reply (k + 1) n fates is in (suc found.0, omega (arith, found.1), found.2)
fate_of reply k n (By r ∷ fates) is = by (r == reply) refl (fate_of reply (k + 1) n fates) is
  where
    by : (b : Bool) → (r == reply) ≡ b
        → (IsIn n (taken_by reply (k + 1) fates) → (i : ℕ) × (n ≡ (k + 1) + i) × (slice_get fates i ≡ Some (By reply)))
        → IsIn n (cond b (k ∷ taken_by reply (k + 1) fates) (taken_by reply (k + 1) fates))
        → (i : ℕ) × (n ≡ k + i) × (slice_get (By r ∷ fates) i ≡ Some (By reply))
    by true same on (inl first) = (0, omega (arith, first), ap (λ (x : ℕ). Some (By x)) (eqb-true r reply same))
    by true same on (inr more) = let found = on more in (suc found.0, omega (arith, found.1), found.2)
    by false differ on more = let found = on more in (suc found.0, omega (arith, found.1), found.2)

-- If some messages are taken, there is one.
first_of : (numbers : List ℕ) → is_nothing numbers ≡ false → (n : ℕ) × IsIn n numbers
first_of [] is = cc
first_of (n ∷ numbers) is = (n, inl refl)

-- The message is from this end.
sent_by : (side : Side) (o : Option Item) → is_sent_by side o ≡ true → (message : Message) × (o ≡ Some (Sent side message))
sent_by side None is = cc
sent_by side (Some Item.Quiet) is = cc
sent_by side (Some (Sent sender message)) is =
    (message, ap (λ (s : Side). Some (Sent s message)) (sym (same_side side sender is)))

-- The next entry takes a message to a judged end.
abbrev IsTied : Option Side → Certificate → Replay → Type 0
IsTied judged c r = (side : Side) × (message : Message) × (n : ℕ) × (is_received_from judged side ≡ true)
    × (slice_get r.world.sent n ≡ Some (Sent side message)) × (slice_get c.fates n ≡ Some (By (next_entry r)))

-- If the next entry takes messages, there is one.
one_tied : (judged : Option Side) (table : Table) (c : Certificate) (front : List Entry) (r : Replay) → FatesFit (length c.fates) 0 c.fates
    → SendsSoFar judged table c front (next_entry r) r → is_nothing (tied judged c r) ≡ false → IsTied judged c r
one_tied (Some judged) table c front r fit old is =
    let first = first_of (tied (Some judged) c r) is in
    let there = in_filter (λ n. is_sent_by (other judged) (slice_get r.world.sent n)) first.0 (taken_by (next_entry r) 0 c.fates) first.1 in
    let found = fate_of (next_entry r) 0 first.0 c.fates there.0 in
    let same : found.0 ≡ first.0 = omega (arith, found.1) in
    let message = sent_by (other judged) (slice_get r.world.sent first.0) there.1 in
    (other judged, message.0, first.0, itself (other judged), message.1, ap (slice_get c.fates) (sym same) ∙ found.2)
one_tied None table c front r fit old is =
    let first = first_of (taken_by (next_entry r) 0 c.fates) is in
    let found = fate_of (next_entry r) 0 first.0 c.fates first.1 in
    let number : 0 + found.0 ≡ found.0 = omega arith in
    let before : found.0 < next_entry r =
    subst (λ (n : ℕ). n < next_entry r) number (ahead (length c.fates) 0 found.0 c.fates (By (next_entry r)) fit found.2) in
    by found.0 found.2 before (slice_get_cases r.world.sent found.0).1
  where
    one : (n : ℕ) (item : Item) → slice_get c.fates n ≡ Some (By (next_entry r)) → slice_get r.world.sent n ≡ Some item → IsTied None c r
    one n (Sent side message) has at = (side, message, n, refl, at, has)
    one n Item.Quiet has at = let no_reply = sym (old.so.marks n at) ∙ has in cc

    by : (n : ℕ) → slice_get c.fates n ≡ Some (By (next_entry r)) → n < next_entry r
        → ((item : Item) × (n < length r.world.sent) × (slice_get r.world.sent n ≡ Some item) × (get_or r.world.sent n item ≡ item))
        ⊎ ((length r.world.sent ≤ n) × (slice_get r.world.sent n ≡ None))
        → IsTied None c r
    by n has before (inl (item, within, at, same)) = one n item has at
    by n has before (inr (past, none)) = absurd (omega (arith, before, past))

-- So a message is pending before a mark that takes one.
pub taken_pends : (judged : Option Side) (table : Table) (c : Certificate) (front rest : List Entry) (r : Replay)
    → FatesFit (length c.fates) 0 c.fates → SendsSoFar judged table c front (next_entry r) r → is_nothing (tied judged c r) ≡ false
    → IsPending judged c (front ++ rest) (next_entry r)
taken_pends judged table c front rest r fit old is = by (one_tied judged table c front r fit old is)
  where
    same : next_entry r ≤ next_entry r
    same = omega arith

    by : IsTied judged c r → IsPending judged c (front ++ rest) (next_entry r)
    by (side, message, n, heard, at, has) = (
      side,
      message,
      n,
      By (next_entry r),
      heard,
      at_front front rest r.world.sent (Sent side message) n old.are at,
      slice_get_within r.world.sent n (Sent side message) at,
      has,
      same,
    )

-- ---- ends that are not quiet

-- If nothing is on its way, a mark is refused because of one of the ends.
one_open : (a b : Bool) (sent : List Item)
    → option_then (result_ok (needs a faults.StillOpen >> Ok nothing))
    (λ p.
    option_map (λ q. let w : World = record { a = p; b = q; from_a = []; from_b = []; sent = sent } in w)
    (result_ok (needs b faults.StillOpen >> Ok nothing)))
    ≡ None
    → (a ≡ false) ⊎ (b ≡ false)
one_open false b sent is = inl refl
one_open true false sent is = inr refl
one_open true true sent is = cc

-- The end has an open half.
refused_open : {b : Bool} → b ≡ false → (let o : Result End EndFault = needs b faults.StillOpen >> Ok nothing in o) ≡ Err faults.StillOpen
refused_open is = ap (λ (t : Bool). let o : Result End EndFault = needs t faults.StillOpen >> Ok nothing in o) is

-- If a mark cannot come, a message is on its way, or a half is open.
pub not_quiet : (w : World) → after_quiet w ≡ None
    → ((side : Side) × (head : MessageInTransit) × (more : List MessageInTransit) × (channel_from side w ≡ head ∷ more))
    ⊎ ((side : Side) × (quiet (end_at side w) ≡ Err faults.StillOpen))
not_quiet w is = by w.from_a w.from_b is
  where
    Busy : World → Type 0
    Busy v = ((side : Side) × (head : MessageInTransit) × (more : List MessageInTransit) × (channel_from side v ≡ head ∷ more))
        ⊎ ((side : Side) × (quiet (end_at side v) ≡ Err faults.StillOpen))

    by : (a b : List MessageInTransit) → after_quiet (record w { from_a = a; from_b = b }) ≡ None → Busy (record w { from_a = a; from_b = b })
    by (m ∷ a) b is = inl (sides.A, m, a, refl)
    by [] (m ∷ b) is = inl (sides.B, m, b, refl)
    by [] [] is = opened (one_open (all_closed w.a.begun && all_closed w.a.accepted) (all_closed w.b.begun && all_closed w.b.accepted)
        (w.sent ++ Item.Quiet ∷ []) is)
      where
        opened : ((all_closed w.a.begun && all_closed w.a.accepted) ≡ false) ⊎ ((all_closed w.b.begun && all_closed w.b.accepted) ≡ false)
            → Busy (record w { from_a = []; from_b = [] })
        opened (inl of_a) = inr (sides.A, refused_open of_a)
        opened (inr of_b) = inr (sides.B, refused_open of_b)

pub not_there : {A B : Type 0} (f : A → B) (o : Option A) → option_map f o ≡ None → o ≡ None
not_there f None is = refl
not_there f (Some x) is = cc

-- ---- messages on their way

-- On the channel to a judged end, the messages after the losses at the front are left.
left_behind : (judged : Option Side) (c : Certificate) (side : Side) (r : Replay) → is_received_from judged side ≡ true
    → channel_from side (lost_last judged c r).world
    ≡ drop (length (lost_front c.fates (channel_from side r.world))) (channel_from side r.world)
left_behind None c sides.A r heard = refl
left_behind None c sides.B r heard = refl
left_behind (Some sides.A) c sides.A r heard = cc
left_behind (Some sides.A) c sides.B r heard = refl
left_behind (Some sides.B) c sides.A r heard = refl
left_behind (Some sides.B) c sides.B r heard = cc

-- On the channel to an end that is not judged, nothing is left.
none_behind : (judged : Option Side) (c : Certificate) (side : Side) (r : Replay) → IsHeard judged r → is_received_from judged side ≡ false
    → channel_from side (lost_last judged c r).world ≡ []
none_behind None c side r empty unheard = cc
none_behind (Some sides.A) c sides.A r empty unheard = empty
none_behind (Some sides.A) c sides.B r empty unheard = cc
none_behind (Some sides.B) c sides.A r empty unheard = cc
none_behind (Some sides.B) c sides.B r empty unheard = empty

-- The losses before a mark keep `SendsSoFar`.
pub last_stands : (judged : Option Side) (table : Table) (c : Certificate) (front : List Entry) (gaps : ℕ) (r : Replay)
    → SendsSoFar judged table c front gaps r → SendsSoFar judged table c front gaps (lost_last judged c r)
last_stands None table c front gaps r old =
    let on = both_replay table c r in
    stands_still None table c front gaps r (lost_from_both c r) on.steps old on.extends (on.sent ∙ append-nil r.world.sent)
    (losses_said table c gaps r (lost_from_both c r) old.so on)
last_stands (Some side) table c front gaps r old =
    leads_still side table c front gaps r (lost_from_front c (other side) r) old (front_leads side table c (other side) r)

-- The closings before a mark keep `SendsSoFar`.
pub closed_stands : (judged : Option Side) (table : Table) (c : Certificate) (front : List Entry) (gaps mark : ℕ) (r closed : Replay)
    → closed_before judged table mark r ≡ Ok closed → SendsSoFar judged table c front gaps r → SendsSoFar judged table c front gaps closed
closed_stands None table c front gaps mark r closed is old = subst (SendsSoFar None table c front gaps) (ok_same {F = CheckFault} r closed is) old
closed_stands (Some side) table c front gaps mark r closed is old =
    leads_still side table c front gaps r closed old (closed_leads side table mark (open_halves (end_at side r.world)) r closed is)

pub closed_heard : (judged : Option Side) (table : Table) (mark : ℕ) (r closed : Replay) → closed_before judged table mark r ≡ Ok closed
    → IsHeard judged r → IsHeard judged closed
closed_heard None table mark r closed is heard = tt
closed_heard (Some side) table mark r closed is heard = (before_stays (Some side) table mark r closed is).channels side ∙ heard

pub last_sent : (judged : Option Side) (table : Table) (c : Certificate) (r : Replay) → (lost_last judged c r).world.sent ≡ r.world.sent
last_sent None table c r = (both_replay table c r).sent ∙ append-nil r.world.sent
last_sent (Some side) table c r = sent_with_channel (other side) _ r.world

-- A message to a judged end that is on its way, and is not lost by its fate, is pending.
head_pends : (judged : Option Side) (table : Table) (c : Certificate) (front rest : List Entry) (number : ℕ) (r : Replay) (side : Side)
    (head : MessageInTransit) (more : List MessageInTransit) → SendsSoFar judged table c front (number + 1) r → next_entry r ≡ number
    → is_received_from judged side ≡ true → channel_from side r.world ≡ head ∷ more → (slice_get c.fates head.number ≡ Some Lost → ⊥)
    → IsPending judged c (front ++ rest) number
head_pends judged table c front rest number r side head more old same heard channel kept = by (slice_get_cases c.fates head.number).1
  where
    listed : slice_get r.world.sent head.number ≡ Some (Sent side head.message)
    listed = (subst (λ (x : List MessageInTransit). AllByRecursion (WasSent r.world side) x) channel
        (were_sent table r.events r.world old.runs side)).0.listed

    within : head.number < next_entry r
    within = slice_get_within r.world.sent head.number (Sent side head.message) listed

    before : head.number < number
    before = subst (λ (n : ℕ). head.number < n) same within

    there : IsAt (front ++ rest) head.number (Sent side head.message)
    there = at_front front rest r.world.sent (Sent side head.message) head.number old.are listed

    over : (fate : Fate) → slice_get c.fates head.number ≡ Some fate → IsOver (number + 1) number fate → ⊥
    over fate has is = taken_is_gone table r.events r.world side head more old.runs channel
        (old.taken head.number side head.message fate heard listed has (subst (λ (n : ℕ). IsOver (number + 1) n fate) (sym same) is))

    pends : (fate : Fate) → slice_get c.fates head.number ≡ Some fate → IsPending judged c (front ++ rest) number
    pends Lost has = absurd (kept has)
    pends (Gap g) has = which (cases_lt g (number + 1))
      where
        which : (g < number + 1) ⊎ (number + 1 ≤ g) → IsPending judged c (front ++ rest) number
        which (inl delivered) = absurd (over (Gap g) has delivered)
        which (inr not_yet) =
            let later : number < g = omega (arith, not_yet) in
            (side, head.message, head.number, Gap g, heard, there, before, has, later)
    pends (By k) has = which (cases_lt k number)
      where
        which : (k < number) ⊎ (number ≤ k) → IsPending judged c (front ++ rest) number
        which (inl taken) = absurd (over (By k) has taken)
        which (inr not_yet) = (side, head.message, head.number, By k, heard, there, before, has, not_yet)

    by : ((fate : Fate) × (head.number < length c.fates) × (slice_get c.fates head.number ≡ Some fate) × (get_or c.fates head.number fate ≡ fate))
        ⊎ ((length c.fates ≤ head.number) × (slice_get c.fates head.number ≡ None))
        → IsPending judged c (front ++ rest) number
    by (inl (fate, within, has, same)) = pends fate has
    by (inr (past, none)) = absurd (omega (arith, within, past, old.counted))

-- So a message is pending if a mark is refused because of it.
pub busy_pends : (judged : Option Side) (table : Table) (c : Certificate) (front rest : List Entry) (number : ℕ) (r : Replay) (side : Side)
    (head : MessageInTransit) (more : List MessageInTransit) → SendsSoFar judged table c front (number + 1) (lost_last judged c r)
    → next_entry (lost_last judged c r) ≡ number → IsHeard judged r → channel_from side (lost_last judged c r).world ≡ head ∷ more
    → IsPending judged c (front ++ rest) number
busy_pends judged table c front rest number r side head more old same empty channel = by (is_received_from judged side) refl
  where
    by : (b : Bool) → is_received_from judged side ≡ b → IsPending judged c (front ++ rest) number
    by true heard =
        head_pends judged table c front rest number (lost_last judged c r) side head more old same heard channel
        (head_stays c.fates (channel_from side r.world) head more (sym (left_behind judged c side r heard) ∙ channel))
    by false unheard = let none = sym (none_behind judged c side r empty unheard) ∙ channel in cc
