-- Which entry and which fault does reading return for given octets?
use Rattle.std.specs.Prelude.{ℕ, ◌+◌, Option, Some, None, Result, Ok, Err, ◌==◌, if◌then◌else◌}
use Rattle.tcap_ber.specs.declared.fault.Fault.{Fault}
use Rattle.tcap_ber.specs.Span.{Span}
use Rattle.tcap_ber.specs.Reading.{fault}
use Rattle.tcap_msg.specs.declared.message.Message.{Message}
use Rattle.tcap_msg.specs.Reading.{message_at}
use Rattle.tcap_record.specs.declared.entry.End.{End}
use Rattle.tcap_record.specs.declared.entry.End.TheVariants as ends
use Rattle.tcap_record.specs.declared.entry.Body.{Body}
use Rattle.tcap_record.specs.declared.entry.Body.TheVariants.{Good, Bad}
use Rattle.tcap_record.specs.declared.fault.FeedFault.{FeedFault}
use Rattle.tcap_record.specs.declared.fault.FeedReason.{FeedReason}

-- the fault with this reason at this place
abbrev pub feed_fault : FeedReason → ℕ → FeedFault
feed_fault r p = record { reason = r; place = p }

-- the end with this octet
abbrev pub end_in : ℕ → Option End
end_in octet =
    if octet == 0x41 then Some ends.A
    else (if octet == 0x42 then Some ends.B else None)

-- the message that was read, or its fault with its place in the record
abbrev pub body_of : ℕ → Result (Message × ℕ) Fault → Body
body_of place (Ok x) = Good x.0
body_of place (Err f) = Bad (fault f.reason (place + f.place))

-- the content of the entry with this element
unfoldable pub body_at : Span → Body
body_at s = body_of s.place (message_at s.octets)

-- a result without its value
abbrev pub outcome : {A : Type 0} → Result A FeedFault → Result (Unit {0}) FeedFault
outcome (Ok x) = Ok tt
outcome (Err f) = Err f
