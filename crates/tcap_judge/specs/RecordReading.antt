-- What `read_record` returns for octets, in addition to the items that the octets spell.
use Rattle.std.specs.Prelude.{◌≢◌, Result, Ok, Err}
use Rattle.tcap_record.specs.declared.fault.FeedFault.{FeedFault}
use Rattle.tcap_record.specs.declared.fault.FeedReason.TheVariants as feed

-- The octets alone decide how reading ends: memory did not run out, and the reader did not fail.
abbrev pub IsOfOctets : Result (Unit {0}) FeedFault → Type 0
IsOfOctets (Ok _) = Unit {0}
IsOfOctets (Err fault) = (fault.reason ≢ feed.Memory) × (fault.reason ≢ feed.Read)
