-- What does a plan hold for each gap and each entry of a certificate?
use Rattle.std.specs.Prelude.{◌≡◌, ◌≤◌, ℕ, Bool, false, length, slice_get, Option, Some, None}
use Rattle.tcap_check.specs.declared.plan.Plan.{Plan}
use Rattle.tcap_certificate.specs.Certificate.{Certificate}
use Rattle.tcap_certificate.specs.DescribedRun.{taken_by}
use Rattle.tcap_check.specs.Buckets.{list_at}
use Rattle.tcap_check.specs.ListedSteps.{listed_in}
use Rattle.tcap_check.specs.EntryOutlines.{is_named}
use Rattle.tcap_certificate.specs.Replay.{due_in}

-- the flag, or false if there is none
abbrev pub flag_by : Option Bool → Bool
flag_by None = false
flag_by (Some flag) = flag

-- The plan of a certificate lists, for each gap, the listed events and the messages due, and, for each entry, the
-- messages that it takes. It also marks the entries that closings or expiries name.
pub record IsPlan (c : Certificate) (plan : Plan) : Type 0 where
  pub listed : (gap : ℕ) → gap ≤ length c.fates → list_at gap plan.listed ≡ listed_in c gap
  pub due : (gap : ℕ) → gap ≤ length c.fates → list_at gap plan.due ≡ due_in gap 0 c.fates
  pub taken : (entry : ℕ) → entry ≤ length c.fates → list_at entry plan.taken ≡ taken_by entry 0 c.fates
  pub named : (entry : ℕ) → entry ≤ length c.fates → flag_by (slice_get plan.named.items entry) ≡ is_named c entry
