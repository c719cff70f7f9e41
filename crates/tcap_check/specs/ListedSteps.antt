-- Which closings and expiries does a certificate list for a gap, and what does their replay give?
use Rattle.std.specs.Prelude.{ℕ, List, [], ◌∷◌, ◌++◌, map, filter, Option, Result, Ok, ok_or, ◌==◌}
use Rattle.tcap_record.specs.declared.entry.End.{End as Side}
use Rattle.tcap_end.specs.declared.fault.EndFault.TheVariants as faults
use Rattle.tcap_end.specs.Step.{◌>>=◌}
use Rattle.tcap_end.specs.Table.{Table}
use Rattle.tcap_model.specs.declared.reason.Reason.{Reason}
use Rattle.tcap_model.specs.declared.reason.Reason.TheVariants.{FateRange, HiddenRefused}
use Rattle.tcap_model.specs.Run.{Event}
use Rattle.tcap_model.specs.World.{Item}
use Rattle.tcap_certificate.specs.declared.fault.CheckFault.{CheckFault}
use Rattle.tcap_certificate.specs.Certificate.{Certificate}
use Rattle.tcap_certificate.specs.DescribedRun.{closing_event, expiry_event}
use Rattle.tcap_certificate.specs.Replay.{Replay, fault_at, after_event, is_judged}
use Rattle.tcap_check.specs.declared.listed_steps.ListedStep.{ListedStep}
use Rattle.tcap_check.specs.declared.listed_steps.ListedStep.TheVariants as listings

-- the end at which a listed event happens
abbrev pub side_of : ListedStep → Side
side_of (listings.Closes x) = x.side
side_of (listings.Expires x) = x.side

-- the gap in which it happens
abbrev pub gap_of : ListedStep → ℕ
gap_of (listings.Closes x) = x.gap
gap_of (listings.Expires x) = x.gap

-- the entry that it names
abbrev pub entry_of : ListedStep → ℕ
entry_of (listings.Closes x) = x.entry
entry_of (listings.Expires x) = x.entry

-- the events listed for a gap: its closings, then its expiries, each in listed order
abbrev pub listed_in : Certificate → ℕ → List ListedStep
listed_in c gap =
    map listings.Closes (filter (λ x. x.gap == gap) c.close)
    ++ map listings.Expires (filter (λ x. x.gap == gap) c.expire)

-- the listed events of judged ends
abbrev pub listed_judged : Option Side → List ListedStep → List ListedStep
listed_judged judged listed = filter (λ x. is_judged judged (side_of x)) listed

-- the events of judged ends that are listed for a gap
abbrev pub listed_for : Option Side → Certificate → ℕ → List ListedStep
listed_for judged c gap = listed_judged judged (listed_in c gap)

-- ---- replay

-- the event that a line of the certificate describes after these items, or None if the line describes none
abbrev pub event_listed : List Item → ListedStep → Option Event
event_listed items (listings.Closes x) = closing_event items x
event_listed items (listings.Expires x) = expiry_event items x

-- the reason for the refusal of a listed event that cannot happen
abbrev pub why_refused : ListedStep → Reason
why_refused (listings.Closes x) = HiddenRefused faults.CannotClose
why_refused (listings.Expires x) = HiddenRefused faults.CannotExpire

-- the replay after a listed event, or the reason why the event cannot happen
abbrev pub listed_replayed : Table → Certificate → ListedStep → Replay → Result Replay CheckFault
listed_replayed table c x r =
    ok_or (event_listed r.world.sent x) (fault_at FateRange (entry_of x)) >>= λ event. after_event table c event
    (why_refused x) (entry_of x) r

-- the replay after these listed events, in order
abbrev pub all_replayed : Table → Certificate → List ListedStep → Replay → Result Replay CheckFault
all_replayed table c [] r = Ok r
all_replayed table c (x ∷ more) r = listed_replayed table c x r >>= all_replayed table c more
