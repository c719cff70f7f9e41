-- What does a run pack of lines of hexadecimal digits?
use Rattle.std.specs.Prelude.{◌≡◌, ◌≢◌, ℕ, ◌⊎◌, List, Option}
use Rattle.std.specs.Io.KnownBytes.{Appends, Consumes, IsAtEnd}
use Rattle.tcap_ber.specs.Device.{one_more}
use Rattle.tcap_record.specs.declared.fault.FeedFault.{FeedFault}
use Rattle.tcap_record.specs.declared.fault.FeedReason.TheVariants as feed
use Rattle.tcap_record.specs.HexLines.{IsPacked, IsPackedUpTo}
use Rattle.tcap_lines.specs.ShowRun.{feed_fault_line, memory_line}
use Rattle.tcap_lines.specs.declared.status.Status.{Status}
use Rattle.tcap_lines.specs.declared.status.Status.TheVariants as statuses

-- The lines read were packed up to a fault, and its line was written, or the memory line instead. The reader failed
-- exactly if the fault is Read.
pub record FailsToPack (returned : List ℕ) (remaining : Option (List ℕ)) (failures failures' : ℕ)
    (taken taken' said said' : Option (List ℕ)) : Type 0 where
  pub fault : FeedFault
  pub line : List ℕ
  pub packed : IsPackedUpTo returned fault remaining taken taken'
  pub failed : fault.reason ≡ feed.Read → failures' ≡ one_more failures
  pub sound : fault.reason ≢ feed.Read → failures' ≡ failures
  pub line_is : (line ≡ feed_fault_line fault) ⊎ (line ≡ memory_line)
  pub says : Appends said said' line

-- All lines of the reader, up to its end, were packed, and no fault line was written.
pub record PacksAll (returned : List ℕ) (remaining : Option (List ℕ)) (failures failures' : ℕ)
    (taken taken' said said' : Option (List ℕ))
    : Type 0 where
  pub count : ℕ
  pub packed : IsPacked returned count taken taken'
  pub at_end : IsAtEnd remaining
  pub sound : failures' ≡ failures
  pub says : said' ≡ said

-- all lines were packed with status Fine, or up to a fault with status Fault
abbrev pub PacksWithStatus : List ℕ → Option (List ℕ) → ℕ → ℕ → Option (List ℕ) → Option (List ℕ) → Option (List ℕ)
    → Option (List ℕ)
    → Status → Type 0
PacksWithStatus returned remaining failures failures' taken taken' said said' statuses.Fine =
    PacksAll returned remaining failures failures' taken taken' said said'
PacksWithStatus returned remaining failures failures' taken taken' said said' statuses.Refuted = ⊥
PacksWithStatus returned remaining failures failures' taken taken' said said' statuses.NotShown = ⊥
PacksWithStatus returned remaining failures failures' taken taken' said said' statuses.Fault =
    FailsToPack returned remaining failures failures' taken taken' said said'

-- The octets read were packed, or a fault line was written, and the status says which.
abbrev pub PacksRead : Option (List ℕ) → Option (List ℕ) → ℕ → ℕ → Option (List ℕ) → Option (List ℕ) → Option (List ℕ)
    → Option (List ℕ) → Status → Type 0
PacksRead remaining remaining' failures failures' taken taken' said said' status =
    (returned : List ℕ) × Consumes remaining remaining' returned
    × PacksWithStatus returned remaining' failures failures' taken taken' said said' status
