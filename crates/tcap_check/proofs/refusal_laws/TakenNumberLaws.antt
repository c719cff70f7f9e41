-- Elements of lists, and numbers that were taken.
use Rattle.std.proofs.Common.{◌≡◌, inl, inr, ℕ, suc, ◌+◌, arith, Bool, true, false, cond, List, [], ◌∷◌, ◌++◌, map, Some, refl, sym, ap, subst, ◌∙◌}
use Rattle.std.specs.Prelude.{slice_get}
use Rattle.std.specs.List.Sorted.{IsStrictlySortedBy}
use Rattle.std.specs.Ordering.{nat_cmp}
use Rattle.tcap_msg.specs.declared.message.Message.{Message}
use Rattle.tcap_record.specs.declared.entry.End.{End as Side}
use Rattle.tcap_record.specs.declared.entry.End.TheVariants as sides
use Rattle.tcap_end.specs.Table.{Table}
use Rattle.tcap_record.specs.Ends.{other}
use Rattle.tcap_model.specs.World.{Item, MessageInTransit, Sent, World, channel_from, is_side}
use Rattle.tcap_model.specs.Run.{Event, Receives, Replies, Runs, numbers_of, numbers_sent, numbers_taken, takes_from}
use Rattle.tcap_certificate.specs.DescribedRun.{is_loss, without_losses}
use Rattle.tcap_model.proofs.ChannelLaws.{are_whole, in_order}
use Rattle.tcap_model.proofs.RunLaws.{same_side}
use Rattle.tcap_check.proofs.replay_laws.ReplaySteps.{IsIn, in_left, in_right}
use Rattle.tcap_check.proofs.given_run_lemmas.NumberLaws.{parts_apart}

-- ---- elements of lists

pub in_some : (x : Event) (ys : List Event) → IsIn x ys → IsIn (Some x) (map Some ys)
in_some x [] is = absurd is
in_some x (y ∷ ys) (inl same) = inl (ap Some same)
in_some x (y ∷ ys) (inr more) = inr (in_some x ys more)

pub in_events : (x : Event) (ys : List Event) → IsIn (Some x) (map Some ys) → IsIn x ys
in_events x [] is = absurd is
in_events x (y ∷ ys) (inl same) = inl cc
in_events x (y ∷ ys) (inr more) = inr (in_events x ys more)

pub in_all : (x : Event) (events : List Event) → IsIn x (without_losses events) → IsIn x events
in_all x [] is = absurd is
in_all x (event ∷ events) is = by (is_loss event) (in_all x events) is
  where
    by : (b : Bool) → (IsIn x (without_losses events) → IsIn x events)
        → IsIn x (cond b (without_losses events) (event ∷ without_losses events)) → IsIn x (event ∷ events)
    by true on found = inr (on found)
    by false on (inl same) = inl same
    by false on (inr more) = inr (on more)

-- ---- numbers that were taken

-- A number is taken if an event takes it.
pub in_taken : (side : Side) (n : ℕ) (event : Event) (events : List Event) → takes_from side event ≡ n ∷ [] → IsIn event events
    → IsIn n (numbers_taken side events)
in_taken side n event [] takes is = absurd is
in_taken side n event (first ∷ events) takes (inl same) =
    in_left n (takes_from side first) (numbers_taken side events)
    (subst (λ (x : List ℕ). IsIn n x) (sym (ap (takes_from side) (sym same) ∙ takes)) (inl refl))
in_taken side n event (first ∷ events) takes (inr more) =
    in_right n (takes_from side first) (numbers_taken side events) (in_taken side n event events takes more)

-- The item with a number that an end sent is a message of this end.
number_at : (side : Side) (n k : ℕ) (items : List Item) → IsIn n (numbers_sent side k items)
    → (message : Message) × (i : ℕ) × (n ≡ k + i) × (slice_get items i ≡ Some (Sent side message))
number_at side n k [] is = absurd is
number_at side n k (Item.Quiet ∷ items) is =
    let rest = number_at side n (k + 1) items is in (rest.0, suc rest.1, omega (arith, rest.2), rest.3)
number_at side n k (Sent sender message ∷ items) is =
    by (is_side side sender) refl
    (λ found. let rest = number_at side n (k + 1) items found in (rest.0, suc rest.1, omega (arith, rest.2), rest.3)) is
  where
    by : (b : Bool) → is_side side sender ≡ b
        → (IsIn n (numbers_sent side (k + 1) items)
        → (m : Message) × (i : ℕ) × (n ≡ k + i) × (slice_get (Sent sender message ∷ items) i ≡ Some (Sent side m)))
        → IsIn n (cond b (k ∷ numbers_sent side (k + 1) items) (numbers_sent side (k + 1) items))
        → (m : Message) × (i : ℕ) × (n ≡ k + i) × (slice_get (Sent sender message ∷ items) i ≡ Some (Sent side m))
    by true so further (inl same) =
        (message, 0, omega (arith, same), ap (λ (s : Side). Some (Sent s message)) (sym (same_side side sender so)))
    by true so further (inr found) = further found
    by false so further found = further found

-- What was taken from an end's channel is a message that this end sent.
pub taken_sent : (table : Table) (events : List Event) (w : World) (side : Side) (n : ℕ) → Runs table events w
    → IsIn n (numbers_taken side events) → (message : Message) × (slice_get w.sent n ≡ Some (Sent side message))
taken_sent table events w side n runs is =
    let there = in_left n (numbers_taken side events) (numbers_of (channel_from side w)) is in
    let sent = subst (λ (x : List ℕ). IsIn n x) (are_whole table events w runs side) there in
    let found = number_at side n 0 w.sent sent in
    let same : n ≡ found.1 = omega (arith, found.2) in
    (found.0, ap (slice_get w.sent) same ∙ found.3)

-- What was taken from a channel is no longer on it.
pub taken_is_gone : (table : Table) (events : List Event) (w : World) (side : Side) (head : MessageInTransit) (more : List MessageInTransit)
    → Runs table events w → channel_from side w ≡ head ∷ more → IsIn head.number (numbers_taken side events) → ⊥
taken_is_gone table events w side head more runs channel is =
    parts_apart head.number (numbers_taken side events) (numbers_of (head ∷ more))
    (subst (λ (x : List MessageInTransit). IsStrictlySortedBy nat_cmp (numbers_taken side events ++ numbers_of x)) channel
    (in_order table events w runs side)) is (inl refl)

pub takes_received : (side : Side) (n : ℕ) → takes_from side (Receives (other side) n) ≡ n ∷ []
takes_received sides.A n = refl
takes_received sides.B n = refl

pub takes_replied : (side : Side) (n : ℕ) → takes_from (other side) (Replies side n) ≡ n ∷ []
takes_replied sides.A n = refl
takes_replied sides.B n = refl
