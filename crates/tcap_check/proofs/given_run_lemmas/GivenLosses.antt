-- If a run follows a certificate apart from losses, and leaves nothing on its way, it loses exactly the messages whose
-- fates are losses.
use Rattle.std.proofs.Common.{arith, ◌≡◌, ◌≤◌, ◌<◌, ◌⊎◌, inl, inr, ℕ, zero, suc, ◌+◌, Bool, true, false, cond, List, [], ◌∷◌, ◌++◌, filter, length, Option, Some, None, refl, sym, ap, subst, ◌∙◌, append-nil}
use Rattle.std.specs.Prelude.{slice_get}
use Rattle.std.specs.List.{AllByRecursion}
use Rattle.std.specs.List.Sorted.{IsStrictlySortedBy}
use Rattle.std.specs.Ordering.{nat_cmp}
use Rattle.std.proofs.lemmas.List.Elements.{filter-append}
use Rattle.tcap_msg.specs.declared.message.Message.{Message}
use Rattle.tcap_record.specs.declared.entry.End.{End as Side}
use Rattle.tcap_end.specs.Table.{Table}
use Rattle.tcap_record.specs.Ends.{other}
use Rattle.tcap_model.specs.World.{Item, MessageInTransit, Sent, World, channel_from, is_side}
use Rattle.tcap_model.specs.Run.{Event, Sends, Receives, Replies, Loses, Expires, Closes, Quiet, Tells, KeepsRules, Runs, numbers_of, numbers_sent, numbers_taken, takes_from}
use Rattle.tcap_certificate.specs.declared.certificate.Fate.{Fate}
use Rattle.tcap_certificate.specs.declared.certificate.Fate.TheVariants.{Gap, Lost, By}
use Rattle.tcap_certificate.specs.DescribedRun.{FatesFit, is_loss, losses_from, lost_from, taken_by, without_losses}
use Rattle.tcap_model.specs.SinceMark.{WasSent}
use Rattle.tcap_model.proofs.ChannelLaws.{are_whole, in_order, were_sent}
use Rattle.tcap_check.proofs.given_run_lemmas.NumberLaws.{among_losses, among_plain, filter_all, loss_of, losses_apart, losses_first, parts_apart}
use Rattle.tcap_model.proofs.ListLaws.{all_weaker}
use Rattle.tcap_check.proofs.replay_laws.ReplaySteps.{IsIn, AreFrom, from_next, first_from, from_start, taken_are}
use Rattle.tcap_check.proofs.refusal_laws.TakenNumberLaws.{taken_sent}

-- ---- fates

-- The fate exists and is a loss.
abbrev pub says_lost : Option Fate → Bool
says_lost None = false
says_lost (Some (Gap g)) = false
says_lost (Some (By k)) = false
says_lost (Some Lost) = true

-- The fate with this number is a loss.
abbrev pub is_lost : List Fate → ℕ → Bool
is_lost fates n = says_lost (slice_get fates n)

-- The messages of an end whose fates are losses are those that are lost.
pub filter_sent : (side : Side) (all : List Fate) (n : ℕ) (fates : List Fate) (items : List Item) → AreFrom all n fates
    → length fates ≡ length items
    → filter (is_lost all) (numbers_sent side n items) ≡ lost_from side n fates items
filter_sent side all n [] [] from counted = refl
filter_sent side all n [] (item ∷ items) from counted = absurd (omega (arith, counted))
filter_sent side all n (fate ∷ fates) [] from counted = absurd (omega (arith, counted))
filter_sent side all n (fate ∷ fates) (item ∷ items) from counted =
    by item fate (ap says_lost (first_from all fates n fate from))
    (filter_sent side all (n + 1) fates items (from_next all fates n fate from) (omega (arith, counted)))
  where
    sent : List ℕ
    sent = numbers_sent side (n + 1) items

    lost : List ℕ
    lost = lost_from side (n + 1) fates items

    keeps : (b : Bool) → is_lost all n ≡ true → filter (is_lost all) sent ≡ lost
        → filter (is_lost all) (cond b (n ∷ sent) sent) ≡ cond b (n ∷ lost) lost
    keeps true says rest = rw says (ap (λ more. n ∷ more) rest)
    keeps false says rest = rest

    drops : (b : Bool) → is_lost all n ≡ false → filter (is_lost all) sent ≡ lost
        → filter (is_lost all) (cond b (n ∷ sent) sent) ≡ lost
    drops true says rest = rw says rest
    drops false says rest = rest

    by : (item : Item) (fate : Fate) → is_lost all n ≡ says_lost (Some fate) → filter (is_lost all) sent ≡ lost
        → filter (is_lost all) (numbers_sent side n (item ∷ items)) ≡ lost_from side n (fate ∷ fates) (item ∷ items)
    by (Sent sender message) (Gap g) says rest = drops (is_side side sender) says rest
    by (Sent sender message) (By k) says rest = drops (is_side side sender) says rest
    by (Sent sender message) Lost says rest = keeps (is_side side sender) says rest
    by Item.Quiet (Gap g) says rest = rest
    by Item.Quiet (By k) says rest = rest
    by Item.Quiet Lost says rest = rest

-- ---- events that fit the fates

-- No message that is received or answered has a loss as its fate. There is no loss, and no message of an end without
-- rules.
abbrev pub IsFated : List Fate → Event → Type 0
IsFated fates (Sends side m) = Unit {0}
IsFated fates (Receives side n) = is_lost fates n ≡ false
IsFated fates (Replies side n) = is_lost fates n ≡ false
IsFated fates (Loses side n) = ⊥
IsFated fates (Expires side name id) = Unit {0}
IsFated fates (Closes side name) = Unit {0}
IsFated fates Quiet = Unit {0}
IsFated fates (Tells side m) = ⊥

-- Such an event takes no message whose fate is a loss.
none_fated : (fates : List Fate) (side : Side) (event : Event) → IsFated fates event
    → filter (is_lost fates) (takes_from side event) ≡ []
none_fated fates side (Receives place n) is = by (is_side side (other place))
  where
    by : (b : Bool) → filter (is_lost fates) (cond b (n ∷ []) []) ≡ []
    by true = rw is refl
    by false = refl
none_fated fates side (Replies place n) is = by (is_side side (other place))
  where
    by : (b : Bool) → filter (is_lost fates) (cond b (n ∷ []) []) ≡ []
    by true = rw is refl
    by false = refl
none_fated fates side (Sends place m) is = refl
none_fated fates side (Loses place n) is = absurd is
none_fated fates side (Expires place name id) is = refl
none_fated fates side (Closes place name) is = refl
none_fated fates side Quiet is = refl
none_fated fates side (Tells place m) is = refl

-- So the taken messages whose fates are losses are among the losses.
filter_taken : (fates : List Fate) (side : Side) (events : List Event)
    → AllByRecursion (IsFated fates) (without_losses events)
    → filter (is_lost fates) (numbers_taken side events) ≡ filter (is_lost fates) (losses_from side events)
filter_taken fates side [] all = refl
filter_taken fates side (event ∷ events) all =
    filter-append (is_lost fates) (takes_from side event) (numbers_taken side events)
    ∙ by (is_loss event) all (filter_taken fates side events)
    ∙ sym (filter-append (is_lost fates) (loss_of side event) (losses_from side events))
    ∙ ap (filter (is_lost fates)) (sym (losses_first side event events))
  where
    kept : List ℕ → List ℕ
    kept = filter (is_lost fates)

    by : (b : Bool) → AllByRecursion (IsFated fates) (cond b (without_losses events) (event ∷ without_losses events))
        → (AllByRecursion (IsFated fates) (without_losses events)
        → kept (numbers_taken side events) ≡ kept (losses_from side events))
        → kept (takes_from side event) ++ kept (numbers_taken side events)
        ≡ kept (cond b (takes_from side event) []) ++ kept (losses_from side events)
    by true all on = ap (λ more. kept (takes_from side event) ++ more) (on all)
    by false all on =
        ap (λ first. first ++ kept (numbers_taken side events)) (none_fated fates side event all.0) ∙ on all.1

-- In such events each end keeps the rules.
pub fated_keeps : (fates : List Fate) (side : Side) (events : List Event)
    → AllByRecursion (IsFated fates) (without_losses events) → KeepsRules side events
fated_keeps fates side [] all = refl
fated_keeps fates side (Loses place n ∷ events) all = fated_keeps fates side events all
fated_keeps fates side (Sends place m ∷ events) all = fated_keeps fates side events all.1
fated_keeps fates side (Receives place n ∷ events) all = fated_keeps fates side events all.1
fated_keeps fates side (Replies place n ∷ events) all = fated_keeps fates side events all.1
fated_keeps fates side (Expires place name id ∷ events) all = fated_keeps fates side events all.1
fated_keeps fates side (Closes place name ∷ events) all = fated_keeps fates side events all.1
fated_keeps fates side (Quiet ∷ events) all = fated_keeps fates side events all.1
fated_keeps fates side (Tells place m ∷ events) all = absurd all.0

-- No message that a reply takes has a loss as its fate.
pub taken_fated : (fates : List Fate) (reply : ℕ) → AllByRecursion (λ k. is_lost fates k ≡ false) (taken_by reply 0 fates)
taken_fated fates reply =
    all_weaker (λ k. slice_get fates k ≡ Some (By reply)) (λ k. is_lost fates k ≡ false) (taken_by reply 0 fates) (λ k at. ap says_lost at)
    (taken_are fates fates reply 0 (from_start fates))

-- The gap of a fate in range is at most the last one.
pub fits_gap : (count n : ℕ) (fates : List Fate) (i g : ℕ) → FatesFit count n fates → slice_get fates i ≡ Some (Gap g)
    → g ≤ count
fits_gap count n [] i g fit at = cc
fits_gap count n (Gap h ∷ fates) zero g fit at = let same : h ≡ g = cc in subst (λ (x : ℕ). x ≤ count) same fit.1
fits_gap count n (By k ∷ fates) zero g fit at = cc
fits_gap count n (Lost ∷ fates) zero g fit at = cc
fits_gap count n (Gap h ∷ fates) (suc i) g fit at = fits_gap count (n + 1) fates i g fit.2 at
fits_gap count n (By k ∷ fates) (suc i) g fit at = fits_gap count (n + 1) fates i g fit.2 at
fits_gap count n (Lost ∷ fates) (suc i) g fit at = fits_gap count (n + 1) fates i g fit at

-- The reply of a fate in range is an entry.
pub fits_reply : (count n : ℕ) (fates : List Fate) (i k : ℕ) → FatesFit count n fates → slice_get fates i ≡ Some (By k)
    → k < count
fits_reply count n [] i k fit at = cc
fits_reply count n (By h ∷ fates) zero k fit at = let same : h ≡ k = cc in subst (λ (x : ℕ). x < count) same fit.1
fits_reply count n (Gap g ∷ fates) zero k fit at = cc
fits_reply count n (Lost ∷ fates) zero k fit at = cc
fits_reply count n (Gap g ∷ fates) (suc i) k fit at = fits_reply count (n + 1) fates i k fit.2 at
fits_reply count n (By h ∷ fates) (suc i) k fit at = fits_reply count (n + 1) fates i k fit.2 at
fits_reply count n (Lost ∷ fates) (suc i) k fit at = fits_reply count (n + 1) fates i k fit at

-- ---- losses

-- Each message that an end sent has a loss as its fate, or is taken by an event that is no loss.
abbrev pub IsSettled : List Fate → World → List Event → Type 0
IsSettled fates w plain = (side : Side) (n : ℕ) (m : Message) → slice_get w.sent n ≡ Some (Sent side m)
    → (is_lost fates n ≡ true) ⊎ IsIn n (numbers_taken side plain)

-- What follows for each of these numbers and messages holds for all messages.
pub all_numbered : (P : MessageInTransit → Type 0) (Q : MessageInTransit → Type 0) (messages : List MessageInTransit) → AllByRecursion P messages
    → ((m : MessageInTransit) → P m → IsIn m.number (numbers_of messages) → Q m) → AllByRecursion Q messages
all_numbered P Q [] all on = tt
all_numbered P Q (first ∷ more) all on =
    (on first all.0 (inl refl), all_numbered P Q more all.1 (λ m is there. on m is (inr there)))

-- Each message that is still on its way has a loss as its fate.
pub left_lost : (table : Table) (fates : List Fate) (events : List Event) (w : World) → Runs table events w
    → IsSettled fates w (without_losses events) → (side : Side)
    → AllByRecursion (λ m. is_lost fates m.number ≡ true) (channel_from side w)
left_lost table fates events w runs settled side =
    all_numbered (WasSent w side) (λ m. is_lost fates m.number ≡ true) (channel_from side w)
    (were_sent table events w runs side)
    (λ m was there. by m there (settled side m.number m.message was.listed))
  where
    by : (m : MessageInTransit) → IsIn m.number (numbers_of (channel_from side w))
        → (is_lost fates m.number ≡ true) ⊎ IsIn m.number (numbers_taken side (without_losses events))
        → is_lost fates m.number ≡ true
    by m there (inl says) = says
    by m there (inr taken) = absurd
        (parts_apart m.number (numbers_taken side events) (numbers_of (channel_from side w))
        (in_order table events w runs side)
        (among_plain side m.number events taken) there)

-- A rising list without the empty list after it rises.
rises_alone : (xs ys : List ℕ) → ys ≡ [] → IsStrictlySortedBy nat_cmp (xs ++ ys) → IsStrictlySortedBy nat_cmp xs
rises_alone xs ys none rises =
    subst (IsStrictlySortedBy nat_cmp) (ap (λ (more : List ℕ). xs ++ more) none ∙ append-nil xs) rises

-- If nothing is left on its way, a run loses exactly the messages whose fates are losses.
pub losses_are : (table : Table) (fates : List Fate) (events : List Event) (w : World) → Runs table events w
    → length fates ≡ length w.sent → AllByRecursion (IsFated fates) (without_losses events)
    → IsSettled fates w (without_losses events)
    → (side : Side) → channel_from side w ≡ [] → losses_from side events ≡ lost_from side 0 fates w.sent
losses_are table fates events w runs counted fated settled side none =
    sym (filter_all (is_lost fates) lost says)
    ∙ sym (filter_taken fates side events fated)
    ∙ ap (filter (is_lost fates)) all_taken
    ∙ filter_sent side fates 0 fates w.sent (λ i. let e : i ≡ 0 + i = omega arith in ap (slice_get fates) e) counted
  where
    lost : List ℕ
    lost = losses_from side events

    taken : List ℕ
    taken = numbers_taken side events

    on_way : numbers_of (channel_from side w) ≡ []
    on_way = ap numbers_of none

    all_taken : taken ≡ numbers_sent side 0 w.sent
    all_taken =
        sym (ap (λ (more : List ℕ). taken ++ more) on_way ∙ append-nil taken) ∙ are_whole table events w runs side

    says : (n : ℕ) → IsIn n lost → is_lost fates n ≡ true
    says n is =
        let sent = taken_sent table events w side n runs (among_losses side n events is) in
        by (settled side n sent.0 sent.1)
      where
        by : (is_lost fates n ≡ true) ⊎ IsIn n (numbers_taken side (without_losses events)) → is_lost fates n ≡ true
        by (inl says) = says
        by (inr plain) = absurd
            (losses_apart side n events
            (rises_alone taken (numbers_of (channel_from side w)) on_way (in_order table events w runs side)) is plain)
