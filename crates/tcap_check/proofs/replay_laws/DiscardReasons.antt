-- Each discard has the reason that the end gives when it cannot receive the message. Each other loss of a message to a
-- judged end has a loss as its fate.
use Rattle.std.proofs.Common.{◌≡◌, ◌⊎◌, inl, inr, ℕ, suc, zero, true, false, List, [], ◌∷◌, ◌++◌, map, Option, Some, None, Result, Ok, Err, arith, refl, sym, ap, subst, ◌∙◌, append_assoc}
use Rattle.std.specs.Option.{option_or}
use Rattle.std.specs.Prelude.{Contains, ◌+◌, Bool, cond, slice_get}
use Rattle.std.specs.List.{AllByRecursion}
use Rattle.std.proofs.lemmas.Bool.{eq-eqb}
use Rattle.std.proofs.lemmas.List.Elements.{Contains-append_cases, Contains-append_left, Contains-append_right, Contains-push}
use Rattle.tcap_record.specs.declared.entry.End.{End as Side}
use Rattle.tcap_record.specs.declared.entry.End.TheVariants as sides
use Rattle.tcap_record.specs.Ends.{other}
use Rattle.tcap_end.specs.declared.fault.EndFault.{EndFault}
use Rattle.tcap_end.specs.End.{End}
use Rattle.tcap_end.specs.Message.{receive}
use Rattle.tcap_end.specs.Table.{Table}
use Rattle.tcap_end.proofs.AnsweringLaws.{ok_same, some_ok, then_ok}
use Rattle.tcap_model.specs.declared.reason.Reason.{Reason}
use Rattle.tcap_model.specs.declared.reason.Reason.TheVariants.{BadReply}
use Rattle.tcap_model.specs.World.{Item, MessageInTransit, Sent, World, channel_from, empty, end_at, is_side, with_channel, with_end}
use Rattle.tcap_model.specs.Run.{Event, Loses, Receives, Runs, after, numbers_of, played}
use Rattle.tcap_model.proofs.ListLaws.{all_more, all_weaker, contains_first}
use Rattle.tcap_model.proofs.RunLaws.{loss, map_some, played_on, same_side, some_is}
use Rattle.tcap_certificate.specs.declared.certificate.Fate.{Fate}
use Rattle.tcap_certificate.specs.declared.certificate.Fate.TheVariants.{Gap, Lost, By}
use Rattle.tcap_certificate.specs.declared.fault.CheckFault.{CheckFault}
use Rattle.tcap_certificate.specs.Certificate.{Certificate}
use Rattle.tcap_certificate.specs.DescribedRun.{is_loss, losses_from, lost_from}
use Rattle.tcap_certificate.specs.Replay.{Replay, all_lost_from, certificate_fits, discarded, discards_by, entries_by, fault_at, delivered, if_lost, is_received_from, lost_front, lost_from_front, lost_last, nothing_replayed, run_by, stepped, first_receive_refusal, with_discards, with_step}
use Rattle.tcap_check.specs.CheckerMeaning.{taken, taken_from}
use Rattle.tcap_check.specs.RunSoFar.{ExplainsLosses, IsDiscardOf, IsRunWithDiscards}
use Rattle.tcap_check.specs.ReportedSteps.{IsDiscarded, IsReportedLoss, MayAllBeDiscarded}
use Rattle.tcap_check.proofs.given_run_lemmas.GivenRuns.{both_ok}
use Rattle.tcap_check.proofs.replay_laws.ReplaySteps.{Extends, losing_replays, stepped_extends, head_stays}
use Rattle.tcap_check.proofs.one_end_lemmas.AloneReplays.{all_lost_leads}
use Rattle.tcap_check.proofs.one_end_lemmas.AloneMirrors.{losses_both}
use Rattle.tcap_check.proofs.replay_laws.ReplayInvariants.{all_may, IsKept, entries_keep, last_keeps, taken_keeps}
use Rattle.tcap_model.proofs.WorldLaws.{apart, itself}

pub none_in : {A : Type 0} (x : A) → Contains [] x → ⊥
none_in x h = let less = h.1 in absurd (omega (arith, less))

discarded_before : (judged : Option Side) (table : Table) (c : Certificate) (events more all : List Event) (number : ℕ) (reason : EndFault)
    → all ≡ events ++ more → IsDiscardOf judged table c events number reason → IsDiscardOf judged table c all number reason
discarded_before None table c events more all number reason are d = d
discarded_before (Some side) table c events more all number reason are (d, meant) = (
  record {
    before = d.before;
    behind = d.behind ++ more;
    world = d.world;
    first = d.first;
    left = d.left;
    events_are = are ∙ ap (λ (x : List Event). x ++ more) d.events_are ∙ append_assoc d.before (Loses (other side) number ∷ d.behind) more;
    leads = d.leads;
    channel = d.channel;
    number_is = d.number_is;
    refused = d.refused;
  },
  meant,
)

-- The losses at the front of a channel are of messages whose fates are losses.
front_lost : (fates : List Fate) (sender peer : Side) (channel : List MessageInTransit) (number : ℕ)
    → Contains (map (Loses sender) (lost_front fates channel)) (Loses peer number) → slice_get fates number ≡ Some Lost
front_lost fates sender peer [] number there = absurd (none_in (Loses peer number) there)
front_lost fates sender peer (first ∷ more) number there =
    by (slice_get fates first.number) refl (front_lost fates sender peer more number) there
  where
    by : (o : Option Fate) → slice_get fates first.number ≡ o
        → (Contains (map (Loses sender) (lost_front fates more)) (Loses peer number) → slice_get fates number ≡ Some Lost)
        → Contains (map (Loses sender) (if_lost o (first.number ∷ lost_front fates more))) (Loses peer number) → slice_get fates number ≡ Some Lost
    by None at rest there = absurd (none_in (Loses peer number) there)
    by (Some (Gap g)) at rest there = absurd (none_in (Loses peer number) there)
    by (Some (By k)) at rest there = absurd (none_in (Loses peer number) there)
    by (Some Lost) at rest there = of (contains_first (Loses sender first.number) (map (Loses sender) (lost_front fates more)) (Loses peer number) there)
      where
        of : (Loses sender first.number ≡ Loses peer number) ⊎ Contains (map (Loses sender) (lost_front fates more)) (Loses peer number)
            → slice_get fates number ≡ Some Lost
        of (inl same) = let n : first.number ≡ number = cc in ap (slice_get fates) (sym n) ∙ at
        of (inr later) = rest later

-- A loss of one end's message is not a loss of the other's.
not_peers : (side : Side) (numbers : List ℕ) (number : ℕ) → Contains (map (Loses side) numbers) (Loses (other side) number) → ⊥
not_peers side [] number there = none_in (Loses (other side) number) there
not_peers side (n ∷ numbers) number there =
    by (not_peers side numbers number) (contains_first (Loses side n) (map (Loses side) numbers) (Loses (other side) number) there)
  where
    by : (Contains (map (Loses side) numbers) (Loses (other side) number) → ⊥)
        → (Loses side n ≡ Loses (other side) number) ⊎ Contains (map (Loses side) numbers) (Loses (other side) number) → ⊥
    by rest (inl same) =
        let end : side ≡ other side = cc in
        let so : is_side side side ≡ is_side side (other side) = ap (is_side side) end in
        let yes = itself side in let no = apart side in cc
    by rest (inr later) = rest later

-- The head of a channel after its losses has another fate.
front_stays : (c : Certificate) (sender : Side) (r : Replay) (head : MessageInTransit) (more : List MessageInTransit)
    → channel_from sender (lost_from_front c sender r).world ≡ head ∷ more → slice_get c.fates head.number ≡ Some Lost → ⊥
front_stays c sides.A r head more is = head_stays c.fates r.world.from_a head more is
front_stays c sides.B r head more is = head_stays c.fates r.world.from_b head more is

-- ---- steps, for each choice of judged ends

module _ (judged : Option Side) (table : Table) (c : Certificate) where
  runs_on : (steps : List Event) (r next : Replay) → Extends table r steps next → Runs table r.events r.world → Runs table next.events next.world
  runs_on steps r next extends runs =
      ap (λ (x : List Event). played table x empty) extends.events ∙ played_on table r.events steps empty r.world runs ∙ extends.plays

  abbrev AreRefused : List Event → List (ℕ × EndFault) → Type 0
  AreRefused events discards = AllByRecursion (λ (x : ℕ × EndFault). IsDiscardOf judged table c events x.0 x.1) discards

  still_refused : (events more all : List Event) (discards : List (ℕ × EndFault)) → all ≡ events ++ more → AreRefused events discards
      → AreRefused all discards
  still_refused events more all discards are =
      all_weaker (λ (x : ℕ × EndFault). IsDiscardOf judged table c events x.0 x.1) (λ (x : ℕ × EndFault). IsDiscardOf judged table c all x.0 x.1)
      discards (λ x. discarded_before judged table c events more all x.0 x.1 are)

  -- More steps keep `IsRunWithDiscards` if each of their losses of a message to a judged end has a loss as its fate.
  more_tells : (steps : List Event) (r next : Replay) → Runs table next.events next.world → next.events ≡ r.events ++ steps → next.discards ≡ r.discards
      → ((sender : Side) (number : ℕ) → is_received_from judged sender ≡ true → Contains steps (Loses sender number) → slice_get c.fates number ≡ Some Lost)
      → IsRunWithDiscards judged table c r → IsRunWithDiscards judged table c next
  more_tells steps r next runs events same lost (before, (refused, told)) = (
    runs,
    (
      subst (AreRefused next.events) (sym same) (still_refused r.events steps next.events r.discards events refused),
      λ sender number so there. by sender number so (Contains-append_cases r.events steps (Loses sender number)
          (subst (λ (x : List Event). Contains x (Loses sender number)) events there)),
    ),
  )
    where
      by : (sender : Side) (number : ℕ) → is_received_from judged sender ≡ true
          → Contains r.events (Loses sender number) ⊎ Contains steps (Loses sender number) → IsReportedLoss c next.discards number
      by sender number so (inl old) = subst (λ (x : List (ℕ × EndFault)). IsReportedLoss c x number) (sym same) (told sender number so old)
      by sender number so (inr new) = inl (lost sender number so new)

  pub tells_step : (event : Event) (r next : Replay) → is_loss event ≡ false → stepped table event r ≡ Some next
      → IsRunWithDiscards judged table c r → IsRunWithDiscards judged table c next
  tells_step event r next plain is so =
      let extends = stepped_extends table event r next is in
      let found = map_some _ (after table event r.world) next is in
      more_tells (event ∷ []) r next (runs_on (event ∷ []) r next extends so.0) extends.events
      (ap (λ (x : Replay). x.discards) (sym found.2))
      (λ sender number delivered there. by sender number (contains_first event [] (Loses sender number) there)) so
    where
      by : (sender : Side) (number : ℕ) → (event ≡ Loses sender number) ⊎ Contains [] (Loses sender number) → slice_get c.fates number ≡ Some Lost
      by sender number (inl same) = let so : is_loss event ≡ true = ap is_loss same in cc
      by sender number (inr later) = absurd (none_in (Loses sender number) later)

  pub tells_front : (sender : Side) (r : Replay) → IsRunWithDiscards judged table c r → IsRunWithDiscards judged table c (lost_from_front c sender r)
  tells_front sender r so =
      let losses = losing_replays table c sender r in
      more_tells (map (Loses sender) (lost_front c.fates (channel_from sender r.world))) r (lost_from_front c sender r)
      (runs_on losses.steps r (lost_from_front c sender r) losses.extends so.0) refl refl
      (λ peer number delivered. front_lost c.fates sender peer (channel_from sender r.world) number) so

-- ---- steps if one end is judged alone

module _ (side : Side) (table : Table) (c : Certificate) where
  abbrev Tells : Replay → Type 0
  Tells r = IsRunWithDiscards (Some side) table c r

  all_tells : (r : Replay) → Tells r → Tells (all_lost_from side r)
  all_tells r so =
      let losses = all_lost_leads side table r in
      more_tells (Some side) table c (map (Loses side) (numbers_of (channel_from side r.world))) r (all_lost_from side r)
      (runs_on (Some side) table c losses.steps r (all_lost_from side r) losses.extends so.0) refl refl
      (λ sender number delivered there. absurd (not_peers side (numbers_of (channel_from side r.world)) number
      (subst (λ (x : Side). Contains (map (Loses side) (numbers_of (channel_from side r.world))) (Loses x number))
      (sym (same_side (other side) sender delivered)) there))) so

  -- If the oldest message on its way is not received, the end gives a reason.
  refused_for : (number : ℕ) (head : MessageInTransit) (more : List MessageInTransit) (r : Replay) → channel_from (other side) r.world ≡ head ∷ more
      → head.number ≡ number → stepped table (Receives side number) r ≡ None
      → (reason : EndFault) × (receive table (end_at side r.world) head.message ≡ Err reason)
      × (first_receive_refusal table (end_at side r.world) (channel_from (other side) r.world) ≡ reason ∷ [])
  refused_for number head more r channel number_is none = by (receive table (end_at side r.world) head.message) refl
    where
      by : (o : Result End EndFault) → receive table (end_at side r.world) head.message ≡ o
          → (reason : EndFault) × (receive table (end_at side r.world) head.message ≡ Err reason)
          × (first_receive_refusal table (end_at side r.world) (channel_from (other side) r.world) ≡ reason ∷ [])
      by (Ok e) at =
          let there : stepped table (Receives side number) r
          ≡ Some (with_step (Receives side number) r (with_end side e (with_channel (other side) more r.world))) =
          rw (channel, eq-eqb head.number number number_is, at) refl in
          cc
      by (Err reason) at = (reason, at, rw (channel, at) refl)

  -- A discard with its reason keeps `IsRunWithDiscards`.
  noted_tells : (number : ℕ) (reason : EndFault) (r next : Replay) → Runs table next.events next.world
      → next.events ≡ r.events ++ Loses (other side) number ∷ [] → next.discards ≡ r.discards ++ (number, reason) ∷ []
      → IsDiscardOf (Some side) table c next.events number reason → Tells r → Tells next
  noted_tells number reason r next runs events discards this (before, (refused, told)) = (
    runs,
    (
      subst (AreRefused (Some side) table c next.events) (sym discards)
          (all_more (λ (x : ℕ × EndFault). IsDiscardOf (Some side) table c next.events x.0 x.1) r.discards (number, reason)
          (still_refused (Some side) table c r.events (Loses (other side) number ∷ []) next.events r.discards events refused) this),
      λ sender n delivered there. subst (λ (x : List (ℕ × EndFault)). IsReportedLoss c x n) (sym discards)
          (by sender n delivered (Contains-append_cases r.events (Loses (other side) number ∷ []) (Loses sender n)
          (subst (λ (x : List Event). Contains x (Loses sender n)) events there))),
    ),
  )
    where
      old : (n : ℕ) → IsReportedLoss c r.discards n → IsReportedLoss c (r.discards ++ (number, reason) ∷ []) n
      old n (inl lost) = inl lost
      old n (inr noted) = inr (noted.0, Contains-append_left r.discards ((number, reason) ∷ []) (n, noted.0) noted.1)

      new : (sender : Side) (n : ℕ) → (Loses (other side) number ≡ Loses sender n) ⊎ Contains [] (Loses sender n)
          → IsReportedLoss c (r.discards ++ (number, reason) ∷ []) n
      new sender n (inl same) =
          let this : number ≡ n = cc in
          inr (
            reason,
            subst (λ (m : ℕ). Contains (r.discards ++ (number, reason) ∷ []) (m, reason)) this
                (Contains-push r.discards (number, reason)),
          )
      new sender n (inr later) = absurd (none_in (Loses sender n) later)

      by : (sender : Side) (n : ℕ) → is_received_from (Some side) sender ≡ true
          → Contains r.events (Loses sender n) ⊎ Contains (Loses (other side) number ∷ []) (Loses sender n)
          → IsReportedLoss c (r.discards ++ (number, reason) ∷ []) n
      by sender n delivered (inl first) = old n (told sender n delivered first)
      by sender n delivered (inr last) = new sender n (contains_first (Loses (other side) number) [] (Loses sender n) last)

  -- The discards after one more.
  discards_are : (number : ℕ) (reasons : List EndFault) (reason : EndFault) (r lost next : Replay) (w : World)
      → with_step (Loses (other side) number) r w ≡ lost → with_discards (map (λ x. (number, x)) reasons) lost ≡ next → reasons ≡ reason ∷ []
      → next.discards ≡ r.discards ++ (number, reason) ∷ []
  discards_are number reasons reason r lost next w step is are =
      ap (λ (x : Replay). x.discards) (sym is) ∙ ap (λ (x : Replay). x.discards ++ map (λ y. (number, y)) reasons) (sym step)
      ∙ ap (λ (x : List EndFault). r.discards ++ map (λ y. (number, y)) x) are

  -- The discard of a message that the end cannot receive keeps `IsRunWithDiscards`.
  discarded_tells : (number : ℕ) (r next : Replay) → stepped table (Receives side number) r ≡ None
      → ((head : MessageInTransit) (more : List MessageInTransit) → channel_from (other side) r.world ≡ head ∷ more → slice_get c.fates head.number ≡ Some Lost → ⊥)
      → discarded table side number r ≡ Some next → Tells r → Tells next
  discarded_tells number r next none stays is so =
      let event = Loses (other side) number in
      let reasons = first_receive_refusal table (end_at side r.world) (channel_from (other side) r.world) in
      let found = map_some _ (stepped table event r) next is in
      let step = map_some _ (after table event r.world) found.0 found.1 in
      let l = loss table (other side) number r.world step.0 step.1 in
      let why = refused_for number l.head l.more r l.channel l.number_is none in
      let extends = stepped_extends table event r found.0 found.1 in
      let events : next.events ≡ r.events ++ event ∷ [] = ap (λ (x : Replay). x.events) (sym found.2) ∙ extends.events in
      let this : IsDiscarded side table next.events number why.0 = record {
        before = r.events;
        behind = [];
        world = r.world;
        first = l.head;
        left = l.more;
        events_are = events;
        leads = so.0;
        channel = l.channel;
        number_is = l.number_is;
        refused = why.1;
      } in
      noted_tells number why.0 r next
      (subst (λ (x : Replay). Runs table x.events x.world) found.2 (runs_on (Some side) table c (event ∷ []) r found.0 extends so.0)) events
      (discards_are number reasons why.0 r found.0 next step.0 step.2 found.2 why.2)
      (this, λ lost. stays l.head l.more l.channel (ap (slice_get c.fates) l.number_is ∙ lost)) so

  pub tells_heard : (number : ℕ) (r next : Replay) → delivered table c side number r ≡ Ok next → Tells r → Tells next
  tells_heard number r next is so =
      by (stepped table (Receives side number) before) refl
      (some_ok (option_or (stepped table (Receives side number) before) (discarded table side number before)) (fault_at BadReply number) next is)
    where
      before : Replay
      before = lost_from_front c (other side) r

      front : Tells before
      front = tells_front (Some side) table c (other side) r so

      by : (o : Option Replay) → stepped table (Receives side number) before ≡ o
          → option_or o (discarded table side number before) ≡ Some next → Tells next
      by (Some x) at found = tells_step (Some side) table c (Receives side number) before next refl (at ∙ found) front
      by None at found = discarded_tells number before next at (front_stays c (other side) r) found front

-- ---- the whole replay

pub tells_kept : (judged : Option Side) (table : Table) (c : Certificate) → IsKept judged table c (IsRunWithDiscards judged table c)
tells_kept None table c = record {
  step = tells_step None table c;
  front = tells_front None table c;
  all = λ side r who so. cc;
  hears = λ side number gap r next who at is so. cc;
}
tells_kept (Some alone) table c = record {
  step = tells_step (Some alone) table c;
  front = tells_front (Some alone) table c;
  all = λ side r who so. subst (λ (x : Side). IsRunWithDiscards (Some alone) table c (all_lost_from x r)) (some_is who) (all_tells alone table c r so);
  hears = λ side number gap r next who at is so.
      tells_heard alone table c number r next (ap (λ (x : Side). delivered table c x number r) (some_is who) ∙ is) so;
}

nothing_tells : (judged : Option Side) (table : Table) (c : Certificate) → IsRunWithDiscards judged table c nothing_replayed
nothing_tells judged table c = (refl, (tt, λ sender number delivered there. absurd (none_in (Loses sender number) there)))

-- `IsRunWithDiscards` holds for entries that were taken.
pub taken_tells : (judged : Option Side) (table : Table) (c : Certificate) (entries : List (Result Item Reason)) (r : Replay)
    → taken judged table c entries ≡ Ok r → IsRunWithDiscards judged table c r
taken_tells judged table c entries r is =
    let fits = both_ok (certificate_fits c) (taken_from judged table c entries nothing_replayed) r is in
    taken_keeps judged table c (IsRunWithDiscards judged table c) (tells_kept judged table c) entries nothing_replayed r fits.2 (nothing_tells judged table c)

-- The discards of the whole replay account for its losses.
run_tells : (judged : Option Side) (table : Table) (c : Certificate) (entries : List (Result Item Reason)) (events : List Event)
    (discards : List (ℕ × EndFault)) → run_by judged table c entries ≡ Ok events → discards_by judged table c entries ≡ Ok discards
    → ExplainsLosses judged table c events discards
run_tells judged table c entries events discards run noted =
    let runs = both_ok (certificate_fits c) _ events run in
    let notes = both_ok (certificate_fits c) _ discards noted in
    let made = then_ok (entries_by judged table c entries nothing_replayed) _ events runs.2 in
    let same = then_ok (entries_by judged table c entries nothing_replayed) _ discards notes.2 in
    let last = lost_last judged c made.0 in
    let tells = IsRunWithDiscards judged table c in
    let so = last_keeps judged table c tells (tells_kept judged table c) made.0
    (entries_keep judged table c tells (tells_kept judged table c) entries nothing_replayed made.0 made.1 (nothing_tells judged table c)) in
    let events_are : last.events ≡ events = ok_same {F = CheckFault} last.events events made.2 in
    let discards_are : last.discards ≡ discards =
    ap (λ (x : Replay). (lost_last judged c x).discards) (ok_same {F = CheckFault} made.0 same.0 (sym made.1 ∙ same.1))
    ∙ ok_same {F = CheckFault} (lost_last judged c same.0).discards discards same.2 in
    subst (λ (x : List (ℕ × EndFault)). ExplainsLosses judged table c events x) discards_are
    (subst (λ (x : List Event). ExplainsLosses judged table c x last.discards) events_are so.1)

-- Each discard in the run for an end is of a message that the end cannot receive then, for this reason.
pub all_refused : (side : Side) (table : Table) (c : Certificate) (entries : List (Result Item Reason)) (events : List Event)
    (discards : List (ℕ × EndFault)) → run_by (Some side) table c entries ≡ Ok events → discards_by (Some side) table c entries ≡ Ok discards
    → AllByRecursion (λ x. IsDiscarded side table events x.0 x.1) discards
all_refused side table c entries events discards run noted =
    all_weaker (λ (x : ℕ × EndFault). IsDiscardOf (Some side) table c events x.0 x.1) (λ (x : ℕ × EndFault). IsDiscarded side table events x.0 x.1)
    discards (λ x is. is.0) (run_tells (Some side) table c entries events discards run noted).0

-- Each lost message of the peer is among the discards, or has a loss as its fate.
pub all_told : (side : Side) (table : Table) (c : Certificate) (entries : List (Result Item Reason)) (events : List Event)
    (discards : List (ℕ × EndFault)) → run_by (Some side) table c entries ≡ Ok events → discards_by (Some side) table c entries ≡ Ok discards
    → (number : ℕ) → Contains events (Loses (other side) number) → IsReportedLoss c discards number
all_told side table c entries events discards run noted number there =
    (run_tells (Some side) table c entries events discards run noted).1 (other side) number (itself (other side)) there

-- ---- if each loss is by fate

-- A number among those of messages whose fates are losses has such a fate. The first of these fates has number n.
lost_at : (side : Side) (n : ℕ) (fates : List Fate) (items : List Item) (number : ℕ) → Contains (lost_from side n fates items) number
    → (k : ℕ) × (number ≡ n + k) × (slice_get fates k ≡ Some Lost)
lost_at side n [] items number there = absurd (none_in number there)
lost_at side n (Lost ∷ fates) [] number there = absurd (none_in number there)
lost_at side n (Gap g ∷ fates) [] number there = absurd (none_in number there)
lost_at side n (By k ∷ fates) [] number there = absurd (none_in number there)
lost_at side n (fate ∷ fates) (item ∷ items) number there = by (lost_at side (n + 1) fates items number) fate item there
  where
    rest : List ℕ
    rest = lost_from side (n + 1) fates items

    Later : Type 0
    Later = Contains rest number → (k : ℕ) × (number ≡ (n + 1) + k) × (slice_get fates k ≡ Some Lost)

    Found : Fate → Type 0
    Found fate = (k : ℕ) × (number ≡ n + k) × (slice_get (fate ∷ fates) k ≡ Some Lost)

    later : Later → (fate : Fate) → Contains rest number → Found fate
    later go fate there = let found = go there in (suc found.0, omega (arith, found.1), found.2)

    sent : Later → (b : Bool) → Contains (cond b (n ∷ rest) rest) number → Found Lost
    sent go false there = later go Lost there
    sent go true there = of (contains_first n rest number there)
      where
        of : (n ≡ number) ⊎ Contains rest number → Found Lost
        of (inl same) = (zero, omega (arith, same), refl)
        of (inr more) = later go Lost more

    by : Later → (fate : Fate) (item : Item) → Contains (lost_from side n (fate ∷ fates) (item ∷ items)) number → Found fate
    by go Lost (Sent sender message) there = sent go (is_side side sender) there
    by go Lost Item.Quiet there = later go Lost there
    by go (Gap g) item there = later go (Gap g) there
    by go (By k) item there = later go (By k) there

-- A loss between other events is among the losses.
loss_is_one : (side : Side) (before behind : List Event) (number : ℕ)
    → Contains (losses_from side (before ++ Loses side number ∷ behind)) number
loss_is_one side before behind number =
    let rest = losses_from side behind in
    let here : Contains (number ∷ rest) number = Contains-append_left (number ∷ []) rest number (Contains-push [] number) in
    let this : losses_from side (Loses side number ∷ behind) ≡ number ∷ rest = rw (itself side) refl in
    subst (λ (x : List ℕ). Contains x number) (sym (losses_both side before (Loses side number ∷ behind)))
    (Contains-append_right (losses_from side before) (losses_from side (Loses side number ∷ behind)) number
    (subst (λ (x : List ℕ). Contains x number) (sym this) here))

-- If no other message of the peer is lost, none is discarded.
pub none_discarded : (side : Side) (table : Table) (c : Certificate) (entries : List (Result Item Reason)) (items : List Item) (events : List Event)
    (discards : List (ℕ × EndFault)) → run_by (Some side) table c entries ≡ Ok events → discards_by (Some side) table c entries ≡ Ok discards
    → losses_from (other side) events ≡ lost_from (other side) 0 c.fates items → discards ≡ []
none_discarded side table c entries items events discards run noted losses =
    by discards (all_may (Some side) table c entries discards noted) (all_refused side table c entries events discards run noted)
  where
    by : (discards : List (ℕ × EndFault)) → MayAllBeDiscarded (Some side) c discards
        → AllByRecursion (λ x. IsDiscarded side table events x.0 x.1) discards → discards ≡ []
    by [] may are = refl
    by ((number, reason) ∷ more) may are =
        let d = are.0 in
        let there : Contains (losses_from (other side) events) number =
        subst (λ (x : List Event). Contains (losses_from (other side) x) number) (sym d.events_are)
        (loss_is_one (other side) d.before d.behind number) in
        let lost = lost_at (other side) 0 c.fates items number (subst (λ (x : List ℕ). Contains x number) losses there) in
        let same : number ≡ lost.0 = omega (arith, lost.1) in
        let gap : slice_get c.fates lost.0 ≡ Some (Gap (may.0).0) = ap (slice_get c.fates) (sym same) ∙ (may.0).1 in
        let other : Some Lost ≡ Some (Gap (may.0).0) = sym lost.2 ∙ gap in
        cc
