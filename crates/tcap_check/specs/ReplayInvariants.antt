-- Which invariants does a `Replaying` keep between entries?
use Rattle.std.specs.Prelude.{◌≡◌, ◌≤◌, ◌*◌, ◌^◌, length, Ok}
use Rattle.tcap_check.specs.declared.replaying.Replaying.{Replaying}
use Rattle.tcap_check.specs.CheckerMeaning.{CheckerState, ReplayState}
use Rattle.tcap_check.specs.Plan.{IsPlan}
use Rattle.tcap_check.specs.Progress.{load, unheard_load}

-- what this replay keeps
abbrev pub kept_in : Replaying → ReplayState
kept_in x = record { progress = x.progress; entries = x.entries.items; since = x.since }

-- the `CheckerState` that this replay implements
abbrev pub checking_of : Replaying → CheckerState
checking_of x =
    record { judged = x.judged; table = x.table.now; certificate = x.certificate.now; so_far = Ok (kept_in x) }

-- The replay follows its certificate's plan. Each entry so far has a fate, and there are at most 100,000 fates. The
-- steps and unheard messages, with those that may still come, are bounded by the number of entries.
pub record IsReady (x : Replaying) : Type 0 where
  pub plan : IsPlan x.certificate.now x.plan
  pub count : length x.entries.items ≤ length x.certificate.now.fates
  pub few : length x.certificate.now.fates ≤ 100000
  pub room : load x.progress ≤ length x.entries.items * 2 ^ 68
  pub unheard : unheard_load x.progress ≤ length x.entries.items

-- Everything but the progress is unchanged.
pub record IsSameBesideProgress (x y : Replaying) : Type 0 where
  pub alloc : y.alloc ≡ x.alloc
  pub judged : y.judged ≡ x.judged
  pub table : y.table ≡ x.table
  pub certificate : y.certificate ≡ x.certificate
  pub plan : y.plan ≡ x.plan
  pub entries : y.entries ≡ x.entries
  pub since : y.since ≡ x.since

-- Everything but the entries is unchanged.
pub record IsSameBesideEntries (x y : Replaying) : Type 0 where
  pub alloc : y.alloc ≡ x.alloc
  pub judged : y.judged ≡ x.judged
  pub table : y.table ≡ x.table
  pub certificate : y.certificate ≡ x.certificate
  pub plan : y.plan ≡ x.plan
  pub progress : y.progress ≡ x.progress
  pub since : y.since ≡ x.since
