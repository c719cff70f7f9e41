-- Each certificate that gives events gives a run.
use Rattle.std.proofs.Common.{get_or, arith, ◌≡◌, ◌≤◌, ◌<◌, ◌*◌, ◌⊎◌, inl, inr, ℕ, zero, suc, ◌+◌, ◌==◌, Bool, true, false, cond, List, [], ◌∷◌, ◌++◌, map, length, Option, Some, None, Result, Ok, Err, drop, refl, sym, ap, subst, ◌∙◌, append-nil, filter}
use Rattle.std.specs.Prelude.{slice_get}
use Rattle.std.specs.List.{AllByRecursion}
use Rattle.std.proofs.lemmas.Bool.{eq-eqb}
use Rattle.std.proofs.lemmas.Option.{slice_get_cases, slice_get_within}
use Rattle.tcap_msg.specs.declared.message.Message.{Message}
use Rattle.tcap_record.specs.declared.entry.End.{End as Side}
use Rattle.tcap_record.specs.declared.entry.End.TheVariants as sides
use Rattle.tcap_record.specs.declared.entry.End.TheVariants.{A, B}
use Rattle.tcap_record.specs.declared.entry.Entry.{Entry}
use Rattle.tcap_end.specs.Step.{◌>>◌}
use Rattle.tcap_end.specs.Table.{Table}
use Rattle.tcap_end.proofs.AnsweringLaws.{ok_same, then_ok}
use Rattle.tcap_record.specs.Ends.{other}
use Rattle.tcap_model.specs.World.{Item, MessageInTransit, Sent, World, channel_from, is_side}
use Rattle.tcap_model.specs.Run.{BothKeepRules, Event, Receives, Runs, numbers_taken, takes_from, numbers_of, numbers_sent}
use Rattle.tcap_certificate.specs.declared.certificate.Closing.{Closing}
use Rattle.tcap_certificate.specs.declared.certificate.Expiry.{Expiry}
use Rattle.tcap_certificate.specs.declared.certificate.Fate.{Fate}
use Rattle.tcap_certificate.specs.declared.certificate.Fate.TheVariants.{Gap, Lost, By}
use Rattle.tcap_certificate.specs.declared.fault.CheckFault.{CheckFault}
use Rattle.tcap_model.specs.declared.reason.Reason.{Reason}
use Rattle.tcap_certificate.specs.Certificate.{Certificate}
use Rattle.tcap_model.specs.Entries.{AreItems, count_components, item_of}
use Rattle.tcap_certificate.specs.DescribedRun.{FatesFit, Follows, FollowsFrom, deliveries, taken_by, without_losses, lost_from}
use Rattle.tcap_check.specs.GivenRun.{IsGiven}
use Rattle.tcap_certificate.specs.Replay.{Replay, all_fit, certificate_fits, entries_by, fates_fit, if_lost, lost_from_both, lost_front, nothing_replayed, replayed_by}
use Rattle.tcap_check.proofs.given_run_lemmas.GivenBound.{described_bound}
use Rattle.tcap_check.proofs.given_run_lemmas.NumberLaws.{among_plain, taken_right, among_losses, parts_apart}
use Rattle.tcap_check.proofs.given_run_lemmas.GivenLosses.{IsFated, IsSettled, fated_keeps, fits_gap, fits_reply, is_lost, left_lost, losses_are, says_lost, filter_sent}
use Rattle.tcap_check.proofs.replay_laws.ReplayEntries.{entries_replay, item_is}
use Rattle.tcap_check.proofs.replay_laws.ReplayGaps.{fates_ok, listed_ok, gap_split}
use Rattle.tcap_check.proofs.replay_laws.ReplaySteps.{Extends, both_replay, extends_then, without_both, IsIn, in_right, from_start}
use Rattle.tcap_check.proofs.given_run_lemmas.GivenEvents.{follows_fated, gap_at, sender_at, sender_is, sender_takes}
use Rattle.tcap_check.proofs.refusal_laws.TakenNumberLaws.{taken_sent}
use Rattle.tcap_model.proofs.ChannelLaws.{are_whole, in_order}

-- ---- each message is lost by its fate or taken

is_other : (side : Side) → is_side side (other (other side)) ≡ true
is_other A = refl
is_other B = refl

-- A message whose fate is a gap is delivered in this gap.
delivered_at : (side : Side) (m : Message) (g n i : ℕ) (fates : List Fate) (items : List Item)
    → slice_get fates i ≡ Some (Gap g)
    → slice_get items i ≡ Some (Sent side m) → IsIn (n + i) (numbers_taken side (deliveries g n fates items))
delivered_at side m g n i [] items fate_is item_is = cc
delivered_at side m g n i (fate ∷ fates) [] fate_is item_is = cc
delivered_at side m g n zero (fate ∷ fates) (item ∷ items) fate_is item_is =
    let same_fate : Gap g ≡ fate = cc in
    let same_item : Sent side m ≡ item = cc in
    let others = deliveries g (n + 1) fates items in
    let e : n + 0 ≡ n = omega arith in
    let here : IsIn (n + 0) (numbers_taken side (deliveries g n (Gap g ∷ fates) (Sent side m ∷ items))) =
    rw (eq-eqb g g refl, is_other side) (inl e) in
    subst (λ (x : Fate). IsIn (n + 0) (numbers_taken side (deliveries g n (x ∷ fates) (item ∷ items)))) same_fate
    (subst (λ (x : Item). IsIn (n + 0) (numbers_taken side (deliveries g n (Gap g ∷ fates) (x ∷ items))))
    same_item here)
delivered_at side m g n (suc i) (fate ∷ fates) (item ∷ items) fate_is item_is =
    let e : (n + 1) + i ≡ n + suc i = omega arith in
    by item fate (subst (λ (k : ℕ). IsIn k (numbers_taken side (deliveries g (n + 1) fates items))) e
    (delivered_at side m g (n + 1) i fates items fate_is item_is))
  where
    others : List Event
    others = deliveries g (n + 1) fates items

    if_so : (sender : Side) (b : Bool) → IsIn (n + suc i) (numbers_taken side others)
        → IsIn (n + suc i) (numbers_taken side (cond b (Receives (other sender) n ∷ others) others))
    if_so sender true rest =
        in_right (n + suc i) (takes_from side (Receives (other sender) n)) (numbers_taken side others) rest
    if_so sender false rest = rest

    by : (item : Item) (fate : Fate) → IsIn (n + suc i) (numbers_taken side others)
        → IsIn (n + suc i) (numbers_taken side (deliveries g n (fate ∷ fates) (item ∷ items)))
    by (Sent sender message) (Gap h) rest = if_so sender (h == g) rest
    by (Sent sender message) (By k) rest = rest
    by (Sent sender message) Lost rest = rest
    by Item.Quiet (Gap h) rest = rest
    by Item.Quiet (By k) rest = rest
    by Item.Quiet Lost rest = rest

-- A message whose fate is a reply is taken by this reply.
pub replied_at : (k n i : ℕ) (fates : List Fate) → slice_get fates i ≡ Some (By k) → IsIn (n + i) (taken_by k n fates)
replied_at k n i [] is = cc
replied_at k n zero (fate ∷ fates) is =
    let same : By k ≡ fate = cc in
    let e : n + 0 ≡ n = omega arith in
    let here : IsIn (n + 0) (taken_by k n (By k ∷ fates)) = rw (eq-eqb k k refl) (inl e) in
    subst (λ (x : Fate). IsIn (n + 0) (taken_by k n (x ∷ fates))) same here
replied_at k n (suc i) (fate ∷ fates) is =
    let e : (n + 1) + i ≡ n + suc i = omega arith in
    by fate (subst (λ (x : ℕ). IsIn x (taken_by k (n + 1) fates)) e (replied_at k (n + 1) i fates is))
  where
    others : List ℕ
    others = taken_by k (n + 1) fates

    if_so : (b : Bool) → IsIn (n + suc i) others → IsIn (n + suc i) (cond b (n ∷ others) others)
    if_so true rest = inr rest
    if_so false rest = rest

    by : (fate : Fate) → IsIn (n + suc i) others → IsIn (n + suc i) (taken_by k n (fate ∷ fates))
    by (Gap g) rest = rest
    by (By h) rest = if_so (h == k) rest
    by Lost rest = rest

one_sender : (side : Side) (m other_one : Message) (o : Option Item) → o ≡ Some (Sent side m)
    → o ≡ Some (Sent (other side) other_one) → ⊥
one_sender A m n o is also = cc
one_sender B m n o is also = cc

-- Each message has a loss as its fate, or is taken.
pub settled_by : (c : Certificate) (w : World) (plain : List Event) → length c.fates ≡ length w.sent
    → FatesFit (length w.sent) 0 c.fates
    → FollowsFrom c w.sent 0 w.sent plain
    → ((side : Side) (n : ℕ) → IsIn n (numbers_taken side plain)
    → (m : Message) × (slice_get w.sent n ≡ Some (Sent side m)))
    → IsSettled c.fates w plain
settled_by c w plain counted fit follows sent side n m at = by (slice_get c.fates n) refl
  where
    within : n < length w.sent
    within = slice_get_within w.sent n (Sent side m) at

    there : slice_get c.fates n ≡ None → ⊥
    there none = absent ((slice_get_cases c.fates n).1)
      where
        absent : ((x : Fate) × (n < length c.fates) × (slice_get c.fates n ≡ Some x) × (get_or c.fates n x ≡ x))
            ⊎ ((length c.fates ≤ n) × (slice_get c.fates n ≡ None)) → ⊥
        absent (inl found) = let is = found.2 in cc
        absent (inr past) = absurd (omega (arith, past.0, counted, within))

    by_gap : (g : ℕ) → slice_get c.fates n ≡ Some (Gap g) → IsIn n (numbers_taken side plain)
    by_gap g is =
        let high = fits_gap (length w.sent) 0 c.fates n g fit is in
        let found = gap_at c w.sent 0 g w.sent plain follows (omega arith) (omega (arith, high)) in
        let parts = gap_split (λ event. Unit {0}) c w.sent g found.here (λ side name. tt) (λ side name id. tt) found.is in
        let e : 0 + n ≡ n = omega arith in
        let among = subst (λ (k : ℕ). IsIn k (numbers_taken side (deliveries g 0 c.fates w.sent))) e
        (delivered_at side m g 0 n c.fates w.sent is at) in
        found.takes side n (subst (λ (x : List Event). IsIn n (numbers_taken side x)) (sym parts.2)
        (taken_right side n parts.0 (deliveries g 0 c.fates w.sent) among))

    by_reply : (k : ℕ) → slice_get c.fates n ≡ Some (By k) → IsIn n (numbers_taken side plain)
    by_reply k is =
        let high = fits_reply (length w.sent) 0 c.fates n k fit is in
        let found = sender_at c w.sent 0 k w.sent plain follows (omega arith) (omega (arith, high)) in
        let taken = taken_by k 0 c.fates in
        let e : 0 + n ≡ n = omega arith in
        let among = subst (λ (x : ℕ). IsIn x (taken_by k 0 c.fates)) e (replied_at k 0 n c.fates is) in
        which found.sends (found.takes side n) (found.takes (other side) n)
        (sender_takes side taken found.sends n among (sender_is c k found.item taken found.sends found.is))
      where
        which : (sends : Event) → (IsIn n (takes_from side sends) → IsIn n (numbers_taken side plain))
            → (IsIn n (takes_from (other side) sends) → IsIn n (numbers_taken (other side) plain))
            → IsIn n (takes_from side sends) ⊎ IsIn n (takes_from (other side) sends)
            → IsIn n (numbers_taken side plain)
        which sends here away (inl one) = here one
        which sends here away (inr one) =
            let found = sent (other side) n (away one) in
            absurd (one_sender side m found.0 (slice_get w.sent n) at found.1)

    by : (o : Option Fate) → slice_get c.fates n ≡ o → (is_lost c.fates n ≡ true) ⊎ IsIn n (numbers_taken side plain)
    by None is = absurd (there is)
    by (Some (Gap g)) is = inr (by_gap g is)
    by (Some (By k)) is = inr (by_reply k is)
    by (Some Lost) is = inl (ap says_lost is)

-- ---- the end

-- If all messages on a channel are lost, the channel is empty after its losses.
pub front_empty : (fates : List Fate) (channel : List MessageInTransit)
    → AllByRecursion (λ m. is_lost fates m.number ≡ true) channel
    → drop (length (lost_front fates channel)) channel ≡ []
front_empty fates [] all = refl
front_empty fates (first ∷ more) all = by (slice_get fates first.number) all.0 (front_empty fates more all.1)
  where
    by : (o : Option Fate) → says_lost o ≡ true → drop (length (lost_front fates more)) more ≡ []
        → drop (length (if_lost o (first.number ∷ lost_front fates more))) (first ∷ more) ≡ []
    by None says rest = cc
    by (Some (Gap g)) says rest = cc
    by (Some (By k)) says rest = cc
    by (Some Lost) says rest = rest

-- So nothing is left on either channel.
none_left : (c : Certificate) (r : Replay)
    → ((side : Side) → AllByRecursion (λ m. is_lost c.fates m.number ≡ true) (channel_from side r.world))
    → (side : Side) → channel_from side (lost_from_both c r).world ≡ []
none_left c r all A = front_empty c.fates r.world.from_a (all A)
none_left c r all B = front_empty c.fates r.world.from_b (all B)

pub are_items : (entries : List Entry) (items : List Item)
    → map (λ (x : Item). let r : Result Item Reason = Ok x in r) items ≡ map item_of entries
    → AreItems entries items × (length items ≡ length entries)
are_items [] [] is = (tt, refl)
are_items [] (item ∷ items) is = cc
are_items (entry ∷ entries) [] is = cc
are_items (entry ∷ entries) (item ∷ items) is =
    let first : item_of entry ≡ Ok item = cc in
    let rest = are_items entries items (cc) in
    ((item_is entry item first, rest.0), ap suc rest.1)

pub both_ok : {X Y F : Type 0} (step : Result X F) (rest : Result Y F) (y : Y) → (step >> rest) ≡ Ok y
    → (x : X) × (step ≡ Ok x) × (rest ≡ Ok y)
both_ok (Ok x) rest y is = (x, refl, is)
both_ok (Err reason) rest y is = cc

-- If a run leaves nothing on its way, and follows the certificate apart from losses, it is given.
given_run : (table : Table) (c : Certificate) (entries : List Entry) (events : List Event) (w : World)
    → Runs table events w
    → AreItems entries w.sent → length w.sent ≡ length entries → length c.fates ≡ length w.sent
    → FatesFit (length w.sent) 0 c.fates
    → AllByRecursion (λ (x : Closing). x.gap ≤ length w.sent) c.close
    → AllByRecursion (λ (x : Expiry). x.gap ≤ length w.sent) c.expire
    → FollowsFrom c w.sent 0 w.sent (without_losses events) → ((side : Side) → channel_from side w ≡ [])
    → IsGiven table c entries events
given_run table c entries events w runs are number counted fit closings expiries gaps none = record {
  items = w.sent;
  are = are;
  run = (w, runs, refl);
  keeps = (fated_keeps c.fates A events fated, fated_keeps c.fates B events fated);
  follows = follows;
  bound = subst (λ (n : ℕ). length events ≤ 2 * n + count_components w.sent + length c.expire + length c.close) number
      (described_bound table c w.sent events (w, runs, refl) follows);
}
  where
    fated : AllByRecursion (IsFated c.fates) (without_losses events)
    fated = follows_fated c w.sent 0 w.sent (without_losses events) gaps

    settled : IsSettled c.fates w (without_losses events)
    settled = settled_by c w (without_losses events) counted fit gaps
        (λ side n is. taken_sent table events w side n runs (among_plain side n events is))

    follows : Follows c w.sent events
    follows = record {
      counted = counted;
      fates = fit;
      closings = closings;
      expiries = expiries;
      gaps = gaps;
      losses = λ side. losses_are table c.fates events w runs counted fated settled side (none side);
    }

-- The replay is such a run, after the losses of all messages still on their way.
given_here : (table : Table) (c : Certificate) (entries : List Entry) (r : Replay) (steps : List Event)
    → Extends table nothing_replayed steps r
    → AreItems entries r.world.sent → length r.world.sent ≡ length entries → length c.fates ≡ length r.world.sent
    → FatesFit (length r.world.sent) 0 c.fates
    → AllByRecursion (λ (x : Closing). x.gap ≤ length r.world.sent) c.close
    → AllByRecursion (λ (x : Expiry). x.gap ≤ length r.world.sent) c.expire
    → FollowsFrom c r.world.sent 0 r.world.sent (without_losses steps)
    → IsGiven table c entries (lost_from_both c r).events
given_here table c entries r steps extends are number counted fit closings expiries gaps =
    let both = both_replay table c r in
    let all = extends_then table nothing_replayed r (lost_from_both c r) steps both.steps extends both.extends in
    let settled = settled_by c r.world (without_losses steps) counted fit gaps
    (λ side n is. taken_sent table steps r.world side n extends.plays (among_plain side n steps is)) in
    let plain : without_losses (steps ++ both.steps) ≡ without_losses steps =
    without_both steps both.steps ∙ ap (λ (x : List Event). without_losses steps ++ x) both.are
    ∙ append-nil (without_losses steps) in
    subst (IsGiven table c entries) (sym all.events)
    (given_run table c entries (steps ++ both.steps) (lost_from_both c r).world all.plays are number counted fit
    closings expiries
    (subst (FollowsFrom c r.world.sent 0 r.world.sent) (sym plain) gaps)
    (none_left c r (left_lost table c.fates steps r.world extends.plays settled)))

-- Numbers in range, as they are listed.
pub record AreFit (c : Certificate) (count : ℕ) : Type 0 where
  pub fates : FatesFit count 0 c.fates
  pub closings : AllByRecursion (λ (x : Closing). x.gap ≤ count) c.close
  pub expiries : AllByRecursion (λ (x : Expiry). x.gap ≤ count) c.expire

-- Numbers that pass the check of the certificate are in range.
pub are_fit : (c : Certificate) → certificate_fits c ≡ Ok tt → AreFit c (length c.fates)
are_fit c is =
    let count = length c.fates in
    let fates = both_ok (fates_fit count 0 c.fates) _ tt is in
    let close = both_ok (all_fit count (map (λ x. (x.entry, x.gap)) c.close)) _ tt fates.2 in
    record {
      fates = fates_ok count 0 c.fates fates.1;
      closings = listed_ok count (λ (x : Closing). x.entry) (λ (x : Closing). x.gap) c.close close.1;
      expiries = listed_ok count (λ (x : Expiry). x.entry) (λ (x : Expiry). x.gap) c.expire close.2;
    }

-- What is replayed over entries is given.
entries_given : (table : Table) (c : Certificate) (entries : List Entry) (r : Replay) → AreFit c (length c.fates)
    → entries_by None table c (map item_of entries) nothing_replayed ≡ Ok r
    → IsGiven table c entries (lost_from_both c r).events
entries_given table c entries r fit is =
    let done = entries_replay table c (map item_of entries) nothing_replayed r (length c.fates) fit.fates is in
    let are = are_items entries done.items done.are in
    let sent : done.items ≡ r.world.sent = sym done.sent in
    let fit_all = subst (AreFit c) (sym done.counted) fit in
    given_here table c entries r done.steps done.extends
    (subst (AreItems entries) sent are.0)
    (ap length done.sent ∙ are.1)
    (sym done.counted) fit_all.fates fit_all.closings fit_all.expiries
    (subst (λ (x : List Item). FollowsFrom c x 0 x (without_losses done.steps)) sent done.follows)

-- What is replayed is a run that sends the entries, as the certificate describes it.
pub gives : (table : Table) (c : Certificate) (entries : List Entry) (events : List Event)
    → replayed_by None table c entries ≡ Ok events
    → IsGiven table c entries events
gives table c entries events is =
    let fits = both_ok (certificate_fits c) _ events is in
    let r = then_ok (entries_by None table c (map item_of entries) nothing_replayed) _ events fits.2 in
    subst (IsGiven table c entries) (ok_same {F = CheckFault} (lost_from_both c r.0).events events r.2)
    (entries_given table c entries r.0 (are_fit c fits.1) r.1)

-- In events that follow a certificate, both ends keep the rules.
pub described_keeps : (c : Certificate) (items : List Item) (events : List Event) → Follows c items events → BothKeepRules events
described_keeps c items events follows =
    let fated = follows_fated c items 0 items (without_losses events) follows.gaps in
    (fated_keeps c.fates sides.A events fated, fated_keeps c.fates sides.B events fated)

-- ---- nothing is left on its way

-- An element that passes a test stays among those that do.
pub among_filter : (p : ℕ → Bool) (n : ℕ) (xs : List ℕ) → p n ≡ true → IsIn n xs → IsIn n (filter p xs)
among_filter p n [] so is = is
among_filter p n (x ∷ xs) so (inl e) = let here : p x ≡ true = ap p (sym e) ∙ so in rw here (inl e)
among_filter p n (x ∷ xs) so (inr rest) = by (p x) (among_filter p n xs so rest)
  where
    by : (b : Bool) → IsIn n (filter p xs) → IsIn n (cond b (x ∷ filter p xs) (filter p xs))
    by true there = inr there
    by false there = there

-- Such a run took every message.
pub nothing_left : (table : Table) (c : Certificate) (items : List Item) (events : List Event) (w : World) → Runs table events w
    → w.sent ≡ items → Follows c items events → (w.from_a ≡ []) × (w.from_b ≡ [])
nothing_left table c items events w runs sent given = (none sides.A, none sides.B)
  where
    follows : Follows c w.sent events
    follows = subst (λ (x : List Item). Follows c x events) (sym sent) given

    settled : IsSettled c.fates w (without_losses events)
    settled = settled_by c w (without_losses events) follows.counted follows.fates follows.gaps
        (λ side n is. taken_sent table events w side n runs (among_plain side n events is))

    lost_are : (side : Side) → filter (is_lost c.fates) (numbers_sent side 0 w.sent) ≡ lost_from side 0 c.fates w.sent
    lost_are side = filter_sent side c.fates 0 c.fates w.sent (from_start c.fates) follows.counted

    -- A message that is still on its way has a loss as its fate, so it was taken.
    taken : (side : Side) (head : MessageInTransit) (more : List MessageInTransit) → channel_from side w ≡ head ∷ more
        → is_lost c.fates head.number ≡ true → IsIn head.number (numbers_taken side events)
    taken side head more at lost =
        let there : IsIn head.number (numbers_of (channel_from side w)) = rw at (inl refl) in
        let sent_at : IsIn head.number (numbers_sent side 0 w.sent) =
        subst (IsIn head.number) (are_whole table events w runs side)
        (in_right head.number (numbers_taken side events) (numbers_of (channel_from side w)) there) in
        among_losses side head.number events
        (subst (IsIn head.number) (lost_are side ∙ sym (follows.losses side))
        (among_filter (is_lost c.fates) head.number (numbers_sent side 0 w.sent) lost sent_at))

    none : (side : Side) → channel_from side w ≡ []
    none side = by (channel_from side w) refl (left_lost table c.fates events w runs settled side)
      where
        by : (channel : List MessageInTransit) → channel_from side w ≡ channel
            → AllByRecursion (λ m. is_lost c.fates m.number ≡ true) (channel_from side w) → channel_from side w ≡ []
        by [] at all = at
        by (head ∷ more) at all =
            let head_lost : AllByRecursion (λ m. is_lost c.fates m.number ≡ true) (head ∷ more) = rw at at all in
            absurd
            (parts_apart head.number (numbers_taken side events) (numbers_of (channel_from side w)) (in_order table events w runs side)
            (taken side head more at head_lost.0) (rw at (inl refl)))
