-- A run that follows a prompt certificate has no loss, no provider's reply and no closing.
use Rattle.std.proofs.Common.{◌≡◌, ℕ, ◌+◌, List, [], ◌∷◌, ◌++◌, map, Some, refl, ◌∙◌}
use Rattle.std.specs.List.{AllByRecursion}
use Rattle.tcap_record.specs.declared.entry.End.{End as Side}
use Rattle.tcap_record.specs.declared.entry.End.TheVariants as sides
use Rattle.tcap_model.specs.World.{Item}
use Rattle.tcap_model.specs.Run.{Event, Sends, Receives, Replies, Loses, Expires, Closes, Quiet, Tells}
use Rattle.tcap_certificate.specs.declared.certificate.Fate.{Fate}
use Rattle.tcap_certificate.specs.declared.certificate.Fate.TheVariants.{Gap, Lost, By}
use Rattle.tcap_certificate.specs.Certificate.{Certificate, IsPrompt, prompt_from}
use Rattle.tcap_certificate.specs.DescribedRun.{Follows, FollowsFrom, IsPlain, deliveries, gap_events, losses_from, lost_from, sending, taken_by, without_losses}
use Rattle.tcap_model.proofs.ListLaws.{all_both}
use Rattle.tcap_model.proofs.RunLaws.{same_events}
use Rattle.tcap_check.proofs.replay_laws.ReplaySteps.{from_start, all_delivered}
use Rattle.tcap_check.proofs.replay_laws.ReplayGaps.{all_implied}
use Rattle.tcap_check.proofs.given_run_lemmas.GivenEvents.{IsSender, by_mark, by_reply, by_send, sender_is}

-- events that are all sends, deliveries, expiries and quiet marks
abbrev AllPlain : List Event → Type 0
AllPlain events = AllByRecursion IsPlain events

-- ---- fates

pub none_taken : (entry reply n : ℕ) (fates : List Fate) → prompt_from entry fates → taken_by reply n fates ≡ []
none_taken entry reply n [] prompt = refl
none_taken entry reply n (Gap g ∷ fates) prompt = none_taken (entry + 1) reply (n + 1) fates prompt.1
none_taken entry reply n (Lost ∷ fates) prompt = let bad = prompt.0 in cc
none_taken entry reply n (By k ∷ fates) prompt = let bad = prompt.0 in cc

pub none_lost : (side : Side) (entry n : ℕ) (fates : List Fate) (items : List Item) → prompt_from entry fates
    → lost_from side n fates items ≡ []
none_lost side entry n [] items prompt = refl
none_lost side entry n (Gap g ∷ fates) [] prompt = refl
none_lost side entry n (Gap g ∷ fates) (item ∷ items) prompt = none_lost side (entry + 1) (n + 1) fates items prompt.1
none_lost side entry n (Lost ∷ fates) items prompt = let bad = prompt.0 in cc
none_lost side entry n (By k ∷ fates) items prompt = let bad = prompt.0 in cc

-- ---- gaps

-- If no hidden event is listed, a gap has only deliveries.
gap_plain : (certificate : Certificate) (items : List Item) (gap : ℕ) (here : List Event) → IsPrompt certificate
    → map Some here ≡ gap_events certificate items gap → AllPlain here
gap_plain certificate items gap here prompt is =
    let same = same_events here (deliveries gap 0 certificate.fates items) (rw (prompt.1, prompt.2) at is) in
    rw same (all_delivered IsPlain certificate.fates gap 0 certificate.fates items (from_start certificate.fates) (λ side number at. tt))

-- ---- between gaps

-- An item that takes no message is sent, or is a quiet mark.
sending_plain : (certificate : Certificate) (number : ℕ) (item : Item) (event : Event) → taken_by number 0 certificate.fates ≡ []
    → sending certificate number item ≡ Some event → IsPlain event
sending_plain certificate number item event none is = by event (sender_is certificate number item (taken_by number 0 certificate.fates) event is)
  where
    by : (event : Event) → IsSender (taken_by number 0 certificate.fates) event → IsPlain event
    by event (by_send side m free) = tt
    by event (by_reply side n one) = cc
    by event (by_mark free) = tt

-- ---- losses

-- If no event is a loss of either end, all events are plain if those without losses are.
no_losses : (events : List Event) → losses_from sides.A events ≡ [] → losses_from sides.B events ≡ [] → AllPlain (without_losses events)
    → AllPlain events
no_losses [] from_a from_b plain = tt
no_losses (Loses sides.A number ∷ events) from_a from_b plain = cc
no_losses (Loses sides.B number ∷ events) from_a from_b plain = cc
no_losses (Sends side m ∷ events) from_a from_b plain = (plain.0, no_losses events from_a from_b plain.1)
no_losses (Receives side number ∷ events) from_a from_b plain = (plain.0, no_losses events from_a from_b plain.1)
no_losses (Replies side number ∷ events) from_a from_b plain = absurd plain.0
no_losses (Expires side name id ∷ events) from_a from_b plain = (plain.0, no_losses events from_a from_b plain.1)
no_losses (Closes side name ∷ events) from_a from_b plain = absurd plain.0
no_losses (Tells side m ∷ events) from_a from_b plain = absurd plain.0
no_losses (Quiet ∷ events) from_a from_b plain = (plain.0, no_losses events from_a from_b plain.1)

-- ---- runs

-- From each gap on, all events are plain, losses left out.
from_plain : (certificate : Certificate) (items : List Item) (gap : ℕ) (left : List Item) (events : List Event) → IsPrompt certificate
    → FollowsFrom certificate items gap left events → AllPlain events
from_plain certificate items gap [] events prompt follows = gap_plain certificate items gap events prompt follows
from_plain certificate items gap (item ∷ more) events prompt (here, implied, rest, sends, gap_is, all, sends_is, events_are, on) =
    let none = none_taken 0 gap 0 certificate.fates prompt.0 in
    let first = sending_plain certificate gap item sends none sends_is in
    let before = all_both IsPlain here implied (gap_plain certificate items gap here prompt gap_is) (all_implied IsPlain item implied (λ side name id. tt) all) in
    let behind = from_plain certificate items (gap + 1) more rest prompt on in
    rw events_are (all_both IsPlain (here ++ implied) (sends ∷ rest) before (first, behind))

-- All events of a run that follows a prompt certificate are plain.
pub prompt_plain : (certificate : Certificate) (items : List Item) (events : List Event) → IsPrompt certificate
    → Follows certificate items events → AllByRecursion IsPlain events
prompt_plain certificate items events prompt follows = no_losses events (none sides.A) (none sides.B)
    (from_plain certificate items 0 items (without_losses events) prompt follows.gaps)
  where
    none : (side : Side) → losses_from side events ≡ []
    none side = follows.losses side ∙ none_lost side 0 0 certificate.fates items prompt.0
