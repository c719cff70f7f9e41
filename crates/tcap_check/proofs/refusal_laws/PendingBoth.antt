-- The messages that were taken so far, if both ends are judged: after a gap, those that it delivers, and after an
-- entry, those that it takes.
use Rattle.std.proofs.Common.{◌≡◌, ◌⊎◌, inl, inr, ℕ, zero, suc, ◌+◌, ◌<◌, ◌≤◌, ◌==◌, arith, Bool, true, false, cond, List, [], ◌∷◌, ◌++◌, map, length, Option, Some, None, refl, sym, ap, subst, ◌∙◌, append-nil}
use Rattle.std.specs.Prelude.{slice_get}
use Rattle.std.proofs.lemmas.Bool.{cases_lt, eq-eqb}
use Rattle.std.proofs.lemmas.Option.{slice_get_within}
use Rattle.tcap_msg.specs.declared.message.Message.{Message}
use Rattle.tcap_record.specs.declared.entry.End.{End as Side}
use Rattle.tcap_record.specs.declared.entry.Entry.{Entry}
use Rattle.tcap_end.specs.Table.{Table}
use Rattle.tcap_record.specs.Ends.{other}
use Rattle.tcap_model.specs.World.{Item, Sent}
use Rattle.tcap_model.specs.Run.{Event, Receives, Replies, numbers_taken}
use Rattle.tcap_certificate.specs.declared.certificate.Fate.{Fate}
use Rattle.tcap_certificate.specs.declared.certificate.Fate.TheVariants.{Gap, Lost, By}
use Rattle.tcap_certificate.specs.Certificate.{Certificate}
use Rattle.tcap_model.specs.Entries.{IsItem}
use Rattle.tcap_certificate.specs.DescribedRun.{FatesFit, deliveries, gap_events, sending_by, taken_by, without_losses}
use Rattle.tcap_certificate.specs.Replay.{Replay, next_entry}
use Rattle.tcap_check.proofs.replay_laws.ReplayGaps.{get_before}
use Rattle.tcap_check.proofs.replay_laws.ReplaySteps.{Replays, IsIn, in_right}
use Rattle.tcap_check.proofs.replay_laws.ReplayLaws.{IsSentBy}
use Rattle.tcap_check.proofs.refusal_laws.FollowingLaws.{FollowsBehind, FollowsSo, IsUpTo, follows_gap, follows_more, plain_on}
use Rattle.tcap_check.proofs.refusal_laws.TakenNumberLaws.{in_all, in_events, in_some, in_taken, taken_sent, takes_received, takes_replied}
use Rattle.tcap_check.proofs.refusal_laws.PendingLaws.{AreTaken, IsAsSaid, IsOver, SendsSoFar, further_on, old_or_new, runs_on, stands_more, stands_on, taken_next, taken_on, taken_still}
use Rattle.tcap_check.proofs.given_run_lemmas.NumberLaws.{taken_right}
use Rattle.tcap_check.proofs.given_run_lemmas.GivenRuns.{replied_at}
use Rattle.tcap_check.proofs.given_run_lemmas.GivenEvents.{IsSender, by_mark, by_reply, by_send, sender_is}

-- ---- fates

-- A message whose fate is this gap is delivered in it.
delivered_in : (gap k i : ℕ) (fates : List Fate) (items : List Item) (side : Side) (message : Message)
    → slice_get fates i ≡ Some (Gap gap) → slice_get items i ≡ Some (Sent side message)
    → IsIn (Receives (other side) (k + i)) (deliveries gap k fates items)
delivered_in gap k i [] items side message fate item = cc
delivered_in gap k i (first ∷ fates) [] side message fate item = cc
delivered_in gap k zero (first ∷ fates) (one ∷ items) side message fate item =
    let fate_is : first ≡ Gap gap = cc in
    let item_is : one ≡ Sent side message = cc in
    let here : k + 0 ≡ k = omega arith in
    rw (fate_is, item_is, eq-eqb gap gap refl) (inl (ap (Receives (other side)) here))
delivered_in gap k (suc i) (first ∷ fates) (one ∷ items) side message fate item =
    by first one
    (subst (λ (n : ℕ). IsIn (Receives (other side) n) (deliveries gap (k + 1) fates items)) (further_on k i)
    (delivered_in gap (k + 1) i fates items side message fate item))
  where
    by : (first : Fate) (one : Item) → IsIn (Receives (other side) (k + suc i)) (deliveries gap (k + 1) fates items)
        → IsIn (Receives (other side) (k + suc i)) (deliveries gap k (first ∷ fates) (one ∷ items))
    by (Gap g) (Sent sender m) is = or_not (g == gap) is
      where
        or_not : (b : Bool) → IsIn (Receives (other side) (k + suc i)) (deliveries gap (k + 1) fates items)
            → IsIn (Receives (other side) (k + suc i))
            (cond b (Receives (other sender) k ∷ deliveries gap (k + 1) fates items) (deliveries gap (k + 1) fates items))
        or_not true there = inr there
        or_not false there = there
    by (Gap g) Item.Quiet is = is
    by Lost (Sent sender m) is = is
    by Lost Item.Quiet is = is
    by (By r) (Sent sender m) is = is
    by (By r) Item.Quiet is = is

-- If an item takes a message, the event that sends the item is the reply to this message.
replied : (c : Certificate) (number n : ℕ) (item : Item) (sends : Event) (taken : List ℕ) → sending_by c number item taken ≡ Some sends
    → IsIn n taken → (side : Side) × (sends ≡ Replies side n)
replied c number n item sends taken is there = by taken sends there (sender_is c number item taken sends is)
  where
    by : (taken : List ℕ) (sends : Event) → IsIn n taken → IsSender taken sends → (side : Side) × (sends ≡ Replies side n)
    by taken sends there (by_send side m none) = absurd (subst (IsIn n) none there)
    by taken sends there (by_reply side t one) = (side, ap (Replies side) (sym (only (subst (IsIn n) one there))))
      where
        only : IsIn n (t ∷ []) → n ≡ t
        only (inl same) = same
        only (inr more) = absurd more
    by taken sends there (by_mark none) = absurd (subst (IsIn n) none there)

-- ---- a gap

-- After losses, the events still follow the certificate.
pub losses_said : (table : Table) (c : Certificate) (gaps : ℕ) (r next : Replay) → IsAsSaid c gaps r → Replays table r [] [] next
    → IsAsSaid c gaps next
losses_said table c gaps r next old on =
    let same : next.world.sent ≡ r.world.sent = on.sent ∙ append-nil r.world.sent in
    let plain : without_losses next.events ≡ without_losses r.events =
    plain_on table r next [] [] on ∙ append-nil (without_losses r.events) in
    record {
      marks = λ n is. old.marks n (ap (λ (x : List Item). slice_get x n) (sym same) ∙ is);
      follows = subst (λ (x : List Item). IsUpTo c gaps x (without_losses next.events)) (sym same)
          (subst (IsUpTo c gaps r.world.sent) (sym plain) old.follows);
    }

-- After a gap, the messages that it delivers were taken.
pub stands_behind : (table : Table) (c : Certificate) (front : List Entry) (r next : Replay) (here : List Event)
    → SendsSoFar None table c front (next_entry r) r → map Some here ≡ gap_events c r.world.sent (next_entry r)
    → Replays table r here [] next → SendsSoFar None table c front (next_entry r + 1) next
stands_behind table c front r next here old here_is on =
    let still = taken_still None table c (next_entry r) r next on.steps old.taken on.extends same in
    let behind : FollowsBehind c r.world.sent (without_losses next.events) =
    subst (FollowsBehind c r.world.sent) (sym (plain_on table r next here [] on))
    (follows_gap c r.world.sent (without_losses r.events) here (old.so.follows.before refl) here_is) in
    stands_on None table c front (next_entry r) (next_entry r + 1) r next on.steps old on.extends same
    (λ n side message fate heard is has over.
    by n side message fate is has (ap (λ (x : List Item). slice_get x n) (sym same) ∙ is) still over)
    (record {
      marks = λ n is. old.so.marks n (ap (λ (x : List Item). slice_get x n) (sym same) ∙ is);
      follows = record {
        before = λ is. absurd (omega (arith, is, number));
        behind = λ is. subst (λ (x : List Item). FollowsBehind c x (without_losses next.events)) (sym same) behind;
      };
    })
  where
    same : next.world.sent ≡ r.world.sent
    same = on.sent ∙ append-nil r.world.sent

    number : next_entry next ≡ next_entry r
    number = ap length same

    new : (n g : ℕ) (side : Side) (message : Message) → slice_get c.fates n ≡ Some (Gap g)
        → slice_get r.world.sent n ≡ Some (Sent side message) → g ≡ next_entry r → IsIn n (numbers_taken side next.events)
    new n g side message has was is_gap =
        let event = Receives (other side) n in
        let gap = next_entry r in
        let items = r.world.sent in
        let delivered = map Some (deliveries gap 0 c.fates items) in
        let number : 0 + n ≡ n = omega arith in
        let found = subst (λ (k : ℕ). IsIn (Receives (other side) k) (deliveries gap 0 c.fates items)) number
        (delivered_in gap 0 n c.fates items side message (has ∙ ap (λ (k : ℕ). Some (Gap k)) is_gap) was) in
        let listed : IsIn (Some event) (gap_events c items gap) =
        in_right (Some event) _ delivered (in_some event (deliveries gap 0 c.fates items) found) in
        let in_here = in_events event here (subst (λ (x : List (Option Event)). IsIn (Some event) x) (sym here_is) listed) in
        let in_steps = in_all event on.steps (subst (λ (x : List Event). IsIn event x) (sym on.are) in_here) in
        subst (λ (x : List Event). IsIn n (numbers_taken side x)) (sym on.extends.events)
        (taken_right side n r.events on.steps (in_taken side n event on.steps (takes_received side n) in_steps))

    by : (n : ℕ) (side : Side) (message : Message) (fate : Fate) → slice_get next.world.sent n ≡ Some (Sent side message)
        → slice_get c.fates n ≡ Some fate → slice_get r.world.sent n ≡ Some (Sent side message)
        → AreTaken None c (next_entry r) (next_entry next) next.world.sent next.events → IsOver (next_entry r + 1) (next_entry next) fate
        → IsIn n (numbers_taken side next.events)
    by n side message Lost is has was still over = absurd over
    by n side message (By k) is has was still over = still n side message (By k) refl is has over
    by n side message (Gap g) is has was still over = which (cases_lt g (next_entry r))
      where
        which : (g < next_entry r) ⊎ (next_entry r ≤ g) → IsIn n (numbers_taken side next.events)
        which (inl before) = still n side message (Gap g) refl is has before
        which (inr not_before) = new n g side message has was (omega (arith, over, not_before))

-- ---- an entry

same_sender : (s t : Side) (m n : Message) → Some (Sent s m) ≡ Some (Sent t n) → s ≡ t
same_sender s t m n is = cc

-- After an entry, the messages that it takes were taken.
pub stands_next : (table : Table) (c : Certificate) (count : ℕ) (front : List Entry) (entry : Entry) (item : Item) (fate : Fate)
    (r next : Replay) → FatesFit count 0 c.fates → SendsSoFar None table c front (next_entry r + 1) r → IsItem entry item
    → slice_get c.fates (next_entry r) ≡ Some fate → (item ≡ Item.Quiet → fate ≡ Gap (next_entry r + 1))
    → IsSentBy table c item r next → SendsSoFar None table c (front ++ entry ∷ []) (next_entry next) next
stands_next table c count front entry item fate r next fit old is has mark sent =
    stands_more None table c front (next_entry r + 1) entry item fate r next on.steps old is has on.extends grown
    (taken_next None c count item r next fit grown (λ n side message fate_n heard was has_n over.
    by n side message fate_n was has_n over))
    (record {
      marks = λ n at.
          mark_more n (old_or_new r.world.sent item Item.Quiet n (ap (λ (x : List Item). slice_get x n) (sym grown) ∙ at));
      follows = record {
        before = λ is. subst (λ (x : List Item). FollowsSo c x (without_losses next.events)) (sym grown) so;
        behind = λ is. absurd (omega (arith, is));
      };
    })
  where
    on : Replays table r (sent.implied ++ sent.sends ∷ []) (item ∷ []) next
    on = sent.replays

    grown : next.world.sent ≡ r.world.sent ++ item ∷ []
    grown = on.sent

    so : FollowsSo c (r.world.sent ++ item ∷ []) (without_losses next.events)
    so = subst (FollowsSo c (r.world.sent ++ item ∷ []))
        (sym (plain_on table r next (sent.implied ++ sent.sends ∷ []) (item ∷ []) on))
        (follows_more c count r.world.sent item (without_losses r.events) sent.implied sent.sends fit (old.so.follows.behind refl)
        sent.are_implied sent.sends_is)

    mark_more : (n : ℕ) → (slice_get r.world.sent n ≡ Some Item.Quiet) ⊎ ((n ≡ length r.world.sent) × (item ≡ Item.Quiet))
        → slice_get c.fates n ≡ Some (Gap (n + 1))
    mark_more n (inl was) = old.so.marks n was
    mark_more n (inr new) =
        ap (slice_get c.fates) new.0 ∙ has ∙ ap Some (mark new.1) ∙ ap (λ (k : ℕ). Some (Gap (k + 1))) (sym new.0)

    -- the reply that takes the message is this item
    taken_here : (n : ℕ) (side : Side) (message : Message) → slice_get next.world.sent n ≡ Some (Sent side message)
        → slice_get c.fates n ≡ Some (By (next_entry r)) → IsIn n (numbers_taken side next.events)
    taken_here n side message at has_n =
        let number = next_entry r in
        let runs = runs_on table r next on.steps old.runs on.extends in
        let zero_n : 0 + n ≡ n = omega arith in
        let listed = subst (λ (k : ℕ). IsIn k (taken_by number 0 c.fates)) zero_n (replied_at number 0 n c.fates has_n) in
        let reply = replied c number n item sent.sends (taken_by number 0 c.fates) sent.sends_is listed in
        let event = Replies reply.0 n in
        let last = in_right event sent.implied (sent.sends ∷ []) (inl (sym reply.1)) in
        let in_steps = in_all event on.steps (subst (λ (x : List Event). IsIn event x) (sym on.are) last) in
        let was = subst (λ (x : List Event). IsIn n (numbers_taken (other reply.0) x)) (sym on.extends.events)
        (taken_right (other reply.0) n r.events on.steps
        (in_taken (other reply.0) n event on.steps (takes_replied reply.0 n) in_steps)) in
        let of_other = taken_sent table next.events next.world (other reply.0) n runs was in
        let same : other reply.0 ≡ side = same_sender (other reply.0) side of_other.0 message (sym of_other.1 ∙ at) in
        subst (λ (s : Side). IsIn n (numbers_taken s next.events)) same was

    before : (n : ℕ) (side : Side) → IsIn n (numbers_taken side r.events) → IsIn n (numbers_taken side next.events)
    before n side was = taken_on table n side r next on.steps on.extends was

    by : (n : ℕ) (side : Side) (message : Message) (fate_n : Fate) → slice_get r.world.sent n ≡ Some (Sent side message)
        → slice_get c.fates n ≡ Some fate_n → IsOver (next_entry r + 1) (next_entry r + 1) fate_n
        → IsIn n (numbers_taken side next.events)
    by n side message Lost was has_n over = absurd over
    by n side message (Gap g) was has_n over = before n side (old.taken n side message (Gap g) refl was has_n over)
    by n side message (By k) was has_n over = which (cases_lt k (next_entry r))
      where
        at : slice_get next.world.sent n ≡ Some (Sent side message)
        at = ap (λ (x : List Item). slice_get x n) grown
            ∙ (get_before r.world.sent (item ∷ []) n (slice_get_within r.world.sent n (Sent side message) was) ∙ was)

        which : (k < next_entry r) ⊎ (next_entry r ≤ k) → IsIn n (numbers_taken side next.events)
        which (inl earlier) = before n side (old.taken n side message (By k) refl was has_n earlier)
        which (inr not_before) =
            let same : k ≡ next_entry r = omega (arith, over, not_before) in
            taken_here n side message at (has_n ∙ ap (λ (x : ℕ). Some (By x)) same)
