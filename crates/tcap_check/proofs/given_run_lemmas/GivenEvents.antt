-- Each event of a run that follows a certificate fits the fates.
use Rattle.std.proofs.Common.{arith, ◌≡◌, ◌≤◌, ◌<◌, ◌⊎◌, inl, inr, ℕ, ◌+◌, ◌==◌, Bool, true, false, List, [], ◌∷◌, ◌++◌, map, length, Option, Some, None, refl, sym, ap, subst}
use Rattle.std.specs.Prelude.{slice_get}
use Rattle.std.specs.List.{AllByRecursion}
use Rattle.std.proofs.Math.Nat.{eq-or-lt_of_le}
use Rattle.tcap_msg.specs.declared.message.Message.{Message}
use Rattle.tcap_record.specs.declared.entry.End.{End as Side}
use Rattle.tcap_record.specs.declared.entry.End.TheVariants.{A, B}
use Rattle.tcap_record.specs.Ends.{other}
use Rattle.tcap_model.specs.World.{Item, Sent}
use Rattle.tcap_model.specs.Run.{Event, Sends, Replies, Quiet, numbers_taken, takes_from, only_if}
use Rattle.tcap_certificate.specs.declared.certificate.Fate.{Fate}
use Rattle.tcap_certificate.specs.declared.certificate.Fate.TheVariants.{Gap, Lost, By}
use Rattle.tcap_certificate.specs.Certificate.{Certificate}
use Rattle.tcap_certificate.specs.DescribedRun.{FollowsFrom, IsImplied, deliveries, gap_events, quiet_by, sending, sending_by, taken_by}
use Rattle.tcap_check.proofs.given_run_lemmas.GivenLosses.{IsFated, is_lost, taken_fated, says_lost}
use Rattle.tcap_model.proofs.ListLaws.{all_both}
use Rattle.tcap_model.proofs.RunLaws.{some_is}
use Rattle.tcap_check.proofs.replay_laws.ReplayGaps.{gap_split, all_implied}
use Rattle.tcap_check.proofs.replay_laws.ReplaySteps.{IsIn, in_left, in_right, from_start, all_delivered, sending_so}
use Rattle.tcap_check.proofs.given_run_lemmas.NumberLaws.{taken_left, taken_right}

-- ---- gaps

-- The events of a gap fit the fates.
pub gap_fated : (c : Certificate) (items : List Item) (gap : ℕ) (here : List Event) → map Some here ≡ gap_events c items gap
    → AllByRecursion (IsFated c.fates) here
gap_fated c items gap here is =
    let parts = gap_split (IsFated c.fates) c items gap here (λ side name. tt) (λ side name id. tt) is in
    let last = all_delivered (IsFated c.fates) c.fates gap 0 c.fates items (from_start c.fates) (λ side number at. ap says_lost at) in
    subst (AllByRecursion (IsFated c.fates)) (sym parts.2)
    (all_both (IsFated c.fates) parts.0 (deliveries gap 0 c.fates items) parts.1 last)

-- ---- the event that sends an item

-- The event that sends an item: a send that takes nothing, a reply to the message that is taken, or a quiet mark.
pub data IsSender (taken : List ℕ) : Event → Type 0 where
  by_send : (side : Side) (m : Message) → taken ≡ [] → IsSender taken (Sends side m)
  by_reply : (side : Side) (n : ℕ) → taken ≡ n ∷ [] → IsSender taken (Replies side n)
  by_mark : taken ≡ [] → IsSender taken Quiet

sender_as : (taken : List ℕ) (made event : Event) → Some made ≡ Some event → IsSender taken made → IsSender taken event
sender_as taken made event is of_made = subst (IsSender taken) (let same : made ≡ event = some_is is in same) of_made

-- The event that sends an item is one of these.
pub sender_is : (c : Certificate) (number : ℕ) (item : Item) (taken : List ℕ) (event : Event)
    → sending_by c number item taken ≡ Some event
    → IsSender taken event
sender_is c number (Sent side message) taken event is =
    sending_so (λ taken o. o ≡ Some event → IsSender taken event) c number side message
    (λ e. sender_as [] (Sends side message) event e (by_send side message refl))
    (λ t e. sender_as (t ∷ []) (Replies side t) event e (by_reply side t refl)) (λ taken e. cc) taken is
sender_is c number Item.Quiet (t ∷ more) event is = cc
sender_is c number Item.Quiet [] event is = by (slice_get c.fates number) is
  where
    mark : (b : Bool) → only_if b (Some Quiet) ≡ Some event → IsSender [] event
    mark true e = sender_as [] Quiet event e (by_mark refl)
    mark false e = cc

    by : (fate : Option Fate) → quiet_by number fate ≡ Some event → IsSender [] event
    by None e = cc
    by (Some (Gap g)) e = mark (g == number + 1) e
    by (Some (By k)) e = cc
    by (Some Lost) e = cc

-- The event fits the fates, if no message that it takes is lost by its fate.
pub sender_fated : (fates : List Fate) (taken : List ℕ) (event : Event)
    → AllByRecursion (λ k. is_lost fates k ≡ false) taken
    → IsSender taken event → IsFated fates event
sender_fated fates taken event all (by_send side m none) = tt
sender_fated fates taken event all (by_reply side n one) =
    (subst (AllByRecursion (λ k. is_lost fates k ≡ false)) one all).0
sender_fated fates taken event all (by_mark none) = tt

-- The event takes its messages from one end or the other.
pub sender_takes : (side : Side) (taken : List ℕ) (event : Event) (n : ℕ) → IsIn n taken → IsSender taken event
    → IsIn n (takes_from side event) ⊎ IsIn n (takes_from (other side) event)
sender_takes side taken event n is (by_send place m none) = absurd (subst (IsIn n) none is)
sender_takes side taken event n is (by_reply place t one) = by side place (subst (IsIn n) one is)
  where
    by : (side place : Side) → IsIn n (t ∷ [])
        → IsIn n (takes_from side (Replies place t)) ⊎ IsIn n (takes_from (other side) (Replies place t))
    by A A there = inr there
    by A B there = inl there
    by B A there = inl there
    by B B there = inr there
sender_takes side taken event n is (by_mark none) = absurd (subst (IsIn n) none is)

-- ---- all events of such a run

-- The expiries that an item implies fit the fates.
pub implied_fated : (fates : List Fate) (item : Item) (events : List Event) → AllByRecursion (IsImplied item) events
    → AllByRecursion (IsFated fates) events
implied_fated fates item events all = all_implied (IsFated fates) item events (λ side name id. tt) all

-- From each gap on, all events fit the fates.
pub follows_fated : (c : Certificate) (items : List Item) (gap : ℕ) (left : List Item) (events : List Event)
    → FollowsFrom c items gap left events
    → AllByRecursion (IsFated c.fates) events
follows_fated c items gap [] events follows = gap_fated c items gap events follows
follows_fated c items gap (item ∷ more) events (here, implied, rest, sends, gap_is, all, sends_is, events_are, on) =
    let taken = taken_fated c.fates gap in
    let sender = sender_fated c.fates (taken_by gap 0 c.fates) sends taken
    (sender_is c gap item (taken_by gap 0 c.fates) sends sends_is) in
    let before = all_both (IsFated c.fates) here implied (gap_fated c items gap here gap_is)
    (implied_fated c.fates item implied all) in
    let behind = follows_fated c items (gap + 1) more rest on in
    rw events_are (all_both (IsFated c.fates) (here ++ implied) (sends ∷ rest) before (sender, behind))

-- The run has this gap, and takes what the gap takes.
pub record HasGap (c : Certificate) (items : List Item) (gap : ℕ) (events : List Event) : Type 0 where
  pub here : List Event
  pub is : map Some here ≡ gap_events c items gap
  pub takes : (side : Side) (n : ℕ) → IsIn n (numbers_taken side here) → IsIn n (numbers_taken side events)

-- The run has an event that sends this item, and takes what the event takes.
pub record HasSender (c : Certificate) (number : ℕ) (events : List Event) : Type 0 where
  pub item : Item
  pub sends : Event
  pub is : sending c number item ≡ Some sends
  pub takes : (side : Side) (n : ℕ) → IsIn n (takes_from side sends) → IsIn n (numbers_taken side events)

-- A run takes what its rest takes.
taken_behind : (side : Side) (n : ℕ) (first : List Event) (sends : Event) (rest events : List Event)
    → events ≡ first ++ sends ∷ rest
    → IsIn n (numbers_taken side rest) → IsIn n (numbers_taken side events)
taken_behind side n first sends rest events are is =
    subst (λ (x : List Event). IsIn n (numbers_taken side x)) (sym are)
    (taken_right side n first (sends ∷ rest) (in_right n (takes_from side sends) (numbers_taken side rest) is))

-- The run has each gap from the first on.
pub gap_at : (c : Certificate) (items : List Item) (gap g : ℕ) (left : List Item) (events : List Event)
    → FollowsFrom c items gap left events
    → gap ≤ g → g ≤ gap + length left → HasGap c items g events
gap_at c items gap g [] events follows low high =
    let same : gap ≡ g = omega (arith, low, high) in
    record {
      here = events;
      is = subst (λ (x : ℕ). map Some events ≡ gap_events c items x) same follows;
      takes = λ side n is. is;
    }
gap_at c items gap g (item ∷ more) events (here, implied, rest, sends, gap_is, all, sends_is, events_are, on) low high =
    by (eq-or-lt_of_le low)
    (λ behind. gap_at c items (gap + 1) g more rest on (omega (arith, behind)) (omega (arith, high)))
  where
    by : (gap ≡ g) ⊎ (gap < g) → (gap < g → HasGap c items g rest) → HasGap c items g events
    by (inl same) later = record {
      here = here;
      is = subst (λ (x : ℕ). map Some here ≡ gap_events c items x) same gap_is;
      takes = λ side n is. subst (λ (x : List Event). IsIn n (numbers_taken side x)) (sym events_are)
          (taken_left side n (here ++ implied) (sends ∷ rest) (taken_left side n here implied is));
    }
    by (inr behind) later = let found = later behind in record {
      here = found.here;
      is = found.is;
      takes = λ side n is. taken_behind side n (here ++ implied) sends rest events events_are (found.takes side n is);
    }

-- The run has an event for each item.
pub sender_at : (c : Certificate) (items : List Item) (gap k : ℕ) (left : List Item) (events : List Event)
    → FollowsFrom c items gap left events
    → gap ≤ k → k < gap + length left → HasSender c k events
sender_at c items gap k [] events follows low high = absurd (omega (arith, low, high))
sender_at c items gap k (item ∷ more) events (here, implied, rest, sends, gap_is, all, sends_is, events_are, on) low
    high =
    by (eq-or-lt_of_le low)
    (λ behind. sender_at c items (gap + 1) k more rest on (omega (arith, behind)) (omega (arith, high)))
  where
    by : (gap ≡ k) ⊎ (gap < k) → (gap < k → HasSender c k rest) → HasSender c k events
    by (inl same) later = record {
      item = item;
      sends = sends;
      is = subst (λ (x : ℕ). sending c x item ≡ Some sends) same sends_is;
      takes = λ side n is. subst (λ (x : List Event). IsIn n (numbers_taken side x)) (sym events_are)
          (taken_right side n (here ++ implied) (sends ∷ rest)
          (in_left n (takes_from side sends) (numbers_taken side rest) is));
    }
    by (inr behind) later = let found = later behind in record {
      item = found.item;
      sends = found.sends;
      is = found.is;
      takes = λ side n is. taken_behind side n (here ++ implied) sends rest events events_are (found.takes side n is);
    }
