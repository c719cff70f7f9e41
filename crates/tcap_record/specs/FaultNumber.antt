-- What is the number of each reason why octets are not a record?
use Rattle.std.specs.Prelude.{ℕ}
use Rattle.tcap_ber.specs.Fault.{number_of}
use Rattle.tcap_record.specs.declared.fault.FeedReason.{FeedReason}
use Rattle.tcap_record.specs.declared.fault.FeedReason.TheVariants as feed

-- the number that output lines print for a reason
abbrev pub feed_number_of : FeedReason → ℕ
feed_number_of (feed.Element reason) = number_of reason
feed_number_of feed.BadEnd = 20
feed_number_of feed.CutRecord = 21
feed_number_of feed.TooManyEntries = 22
feed_number_of feed.Read = 23
feed_number_of feed.BadHexLine = 24
feed_number_of feed.Memory = 99
