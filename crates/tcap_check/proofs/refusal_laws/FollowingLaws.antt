-- A beginning of a run that follows a certificate gap by gap, and grows at its end.
use Rattle.std.proofs.Common.{◌≡◌, ℕ, ◌+◌, List, [], ◌∷◌, ◌++◌, map, length, Some, refl, sym, ap, subst, ◌∙◌, append_assoc, append-nil}
use Rattle.std.specs.List.{AllByRecursion}
use Rattle.std.proofs.lemmas.List.{length-append}
use Rattle.tcap_end.specs.Table.{Table}
use Rattle.tcap_model.specs.World.{Item}
use Rattle.tcap_model.specs.Run.{Event}
use Rattle.tcap_certificate.specs.Certificate.{Certificate}
use Rattle.tcap_certificate.specs.DescribedRun.{FatesFit, FollowsFrom, IsImplied, gap_events, sending, without_losses}
use Rattle.tcap_certificate.specs.Replay.{Replay}
use Rattle.tcap_check.proofs.replay_laws.ReplayGaps.{gap_events_before}
use Rattle.tcap_check.proofs.replay_laws.ReplaySteps.{Replays, without_both}

-- Events up to the last of these items. If any further events follow the certificate after them, all of these events
-- together follow it.
abbrev pub FollowsSo : Certificate → List Item → List Event → Type 0
FollowsSo c items plain = (rest : List Item) (tail : List Event) → FollowsFrom c (items ++ rest) (length items) rest tail
    → FollowsFrom c (items ++ rest) 0 (items ++ rest) (plain ++ tail)

-- Events up to the last of these items, and the gap after it.
pub record FollowsBehind (c : Certificate) (items : List Item) (plain : List Event) : Type 0 where
  pub before : List Event
  pub here : List Event
  pub are : plain ≡ before ++ here
  pub so : FollowsSo c items before
  pub here_is : map Some here ≡ gap_events c items (length items)

pub follows_nothing : (c : Certificate) → FollowsSo c [] []
follows_nothing c rest tail on = on

-- The gap after the items is as the certificate says.
pub follows_gap : (c : Certificate) (items : List Item) (plain here : List Event) → FollowsSo c items plain
    → map Some here ≡ gap_events c items (length items) → FollowsBehind c items (plain ++ here)
follows_gap c items plain here so here_is = record { before = plain; here = here; are = refl; so = so; here_is = here_is }

-- All events up to the end of this gap follow the certificate.
pub follows_all : (c : Certificate) (items : List Item) (plain : List Event) → FollowsBehind c items plain
    → FollowsFrom c items 0 items plain
follows_all c items plain behind =
    let all = append-nil items in
    let here = behind.here_is ∙ ap (λ (x : List Item). gap_events c x (length items)) (sym all) in
    let whole = behind.so [] behind.here here in
    subst (FollowsFrom c items 0 items) (sym behind.are)
    (subst (λ (x : List Item). FollowsFrom c x 0 x (behind.before ++ behind.here)) all whole)

-- The events after one more item.
one_behind : (before here implied tail : List Event) (sends : Event)
    → before ++ (here ++ implied ++ sends ∷ tail) ≡ (before ++ here) ++ (implied ++ sends ∷ []) ++ tail
one_behind before here implied tail sends =
    ap (λ (x : List Event). before ++ x) (append_assoc here implied (sends ∷ tail))
    ∙ sym (append_assoc before here (implied ++ sends ∷ tail))
    ∙ ap (λ (x : List Event). (before ++ here) ++ x) (sym (append_assoc implied (sends ∷ []) tail))
    ∙ sym (append_assoc (before ++ here) (implied ++ sends ∷ []) tail)

-- After a gap, one more item is sent: implied expiries, and then the event that sends it.
pub follows_more : (c : Certificate) (count : ℕ) (items : List Item) (item : Item) (plain implied : List Event) (sends : Event)
    → FatesFit count 0 c.fates → FollowsBehind c items plain → AllByRecursion (IsImplied item) implied
    → sending c (length items) item ≡ Some sends → FollowsSo c (items ++ item ∷ []) (plain ++ (implied ++ sends ∷ []))
follows_more c count items item plain implied sends fit behind are_implied sends_is rest tail on =
    let all = items ++ item ∷ rest in
    let joined : (items ++ item ∷ []) ++ rest ≡ all = append_assoc items (item ∷ []) rest in
    let number : length (items ++ item ∷ []) ≡ length items + 1 = length-append items (item ∷ []) in
    let next : FollowsFrom c all (length items + 1) rest tail =
    subst (λ (n : ℕ). FollowsFrom c all n rest tail) number
    (subst (λ (x : List Item). FollowsFrom c x (length (items ++ item ∷ [])) rest tail) joined on) in
    let here_is = behind.here_is ∙ sym (gap_events_before c count items (item ∷ rest) fit) in
    let whole : FollowsFrom c all 0 all (behind.before ++ (behind.here ++ implied ++ sends ∷ tail)) =
    behind.so (item ∷ rest) (behind.here ++ implied ++ sends ∷ tail)
    (behind.here, implied, tail, sends, here_is, are_implied, sends_is, refl, next) in
    let events = one_behind behind.before behind.here implied tail sends
    ∙ ap (λ (x : List Event). x ++ (implied ++ sends ∷ []) ++ tail) (sym behind.are) in
    subst (λ (x : List Item). FollowsFrom c x 0 x (plain ++ (implied ++ sends ∷ []) ++ tail)) (sym joined)
    (subst (FollowsFrom c all 0 all) events whole)

-- Events up to this many gaps. The last gap is before or after the last of these items.
pub record IsUpTo (c : Certificate) (gaps : ℕ) (items : List Item) (plain : List Event) : Type 0 where
  pub before : gaps ≡ length items → FollowsSo c items plain
  pub behind : gaps ≡ length items + 1 → FollowsBehind c items plain

-- Without losses, the replay goes on by these events.
pub plain_on : (table : Table) (r next : Replay) (plain : List Event) (items : List Item) → Replays table r plain items next
    → without_losses next.events ≡ without_losses r.events ++ plain
plain_on table r next plain items on =
    ap without_losses on.extends.events ∙ without_both r.events on.steps
    ∙ ap (λ (x : List Event). without_losses r.events ++ x) on.are
