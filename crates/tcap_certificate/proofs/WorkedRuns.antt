-- The worked runs follow their certificates: for each gap its events, the expiries that the next item implies, and the
-- item.
use Rattle.std.proofs.Common.{◌≡◌, ℕ, ◌+◌, ◌≤◌, List, [], ◌∷◌, ◌++◌, length, map, Some, refl}
use Rattle.std.specs.List.{AllByRecursion}
use Rattle.std.proofs.lemmas.List.{append-nil}
use Rattle.tcap_record.specs.declared.entry.End.{End as Side}
use Rattle.tcap_record.specs.declared.entry.End.TheVariants.{A, B}
use Rattle.tcap_end.specs.Table.{Table}
use Rattle.tcap_model.specs.World.{Item}
use Rattle.tcap_model.specs.Run.{BothKeepRules, Event, IsRunOf}
use Rattle.tcap_certificate.specs.DescribedRun.{FatesFit, Follows, FollowsFrom, IsImplied, gap_events, losses_from, lost_from, sending, without_losses}
use Rattle.tcap_certificate.specs.WorkedRuns.{IsWorkedBy, Worked}

-- `FollowsFrom`, with the run as a parameter
pub record From (w : Worked) (n : ℕ) (left : List Item) (events : List Event) : Type 0 where
  pub follows : FollowsFrom w.certificate w.items n left events

-- the whole run follows
abbrev pub Gaps : Worked → Type 0
Gaps w = From w 0 w.items (without_losses w.events)

-- the losses of an end are those of the certificate
abbrev pub Losses : Worked → Side → Type 0
Losses w side = losses_from side w.events ≡ lost_from side 0 w.certificate.fates w.items

-- the last gap
pub last : {w : Worked} {n : ℕ} {events : List Event} → map Some events ≡ gap_events w.certificate w.items n → From w n [] events
last said = record { follows = said }

-- a gap, the expiries that the next item implies, and the item
pub implying : {w : Worked} {n : ℕ} {item : Item} {more : List Item} {sends : Event} {rest : List Event} (here implied : List Event)
    → AllByRecursion (IsImplied item) implied
    → map Some here ≡ gap_events w.certificate w.items n → sending w.certificate n item ≡ Some sends
    → From w (n + 1) more rest → From w n (item ∷ more) (here ++ implied ++ sends ∷ rest)
implying {sends = sends} {rest = rest} here implied all said sent on = record {
  follows = (here, implied, rest, sends, said, all, sent, refl, on.follows);
}

-- a gap and an item that implies no expiry
pub gap : {w : Worked} {n : ℕ} {item : Item} {more : List Item} {sends : Event} {rest : List Event} (here : List Event)
    → map Some here ≡ gap_events w.certificate w.items n → sending w.certificate n item ≡ Some sends
    → From w (n + 1) more rest → From w n (item ∷ more) (here ++ sends ∷ rest)
gap {sends = sends} {rest = rest} here said sent on = record {
  follows = (here, [], rest, sends, said, tt, sent, rw (append-nil here) refl, on.follows);
}

-- A run that satisfies all parts follows the certificate.
pub follows : (w : Worked) → length w.certificate.fates ≡ length w.items → FatesFit (length w.items) 0 w.certificate.fates
    → AllByRecursion (λ c. c.gap ≤ length w.items) w.certificate.close
    → AllByRecursion (λ x. x.gap ≤ length w.items) w.certificate.expire
    → Losses w A → Losses w B → Gaps w → Follows w.certificate w.items w.events
follows w counted fates closings expiries from_a from_b gaps = record {
  counted = counted;
  fates = fates;
  closings = closings;
  expiries = expiries;
  gaps = gaps.follows;
  losses = by;
}
  where
    by : (side : Side) → Losses w side
    by A = from_a
    by B = from_b

-- A run that follows a certificate is a worked run.
pub works : (table : Table) (w : Worked) (moves : ℕ) → IsRunOf w.items table w.events → BothKeepRules w.events
    → length w.events ≡ moves → Follows w.certificate w.items w.events → IsWorkedBy table w moves
works table w moves run keep count follow = (run, keep, count, follow)
