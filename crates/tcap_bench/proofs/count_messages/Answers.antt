use Rattle.std.proofs.Common.{◌<◌, ℕ, List, length, take, drop, ap, arith}
use Rattle.std.proofs.lemmas.List.{length-append, length-drop, length-take}
use Rattle.tcap_ber.proofs.ElementLaws.{element_len_at_least}
use Rattle.tcap_msg.specs.declared.message.Message.{Message}
use Rattle.tcap_msg.specs.Message.{BeginsWithMessage}
use Rattle.tcap_bench.proofs.count_messages.Goals as goal

-- the octets after a message are fewer
shorter : (m : Message) (len count : ℕ) (octets : List ℕ) → BeginsWithMessage m len octets
    → length (take count (drop len octets)) < length octets
shorter m len count octets b =
    omega (
      arith,
      element_len_at_least b.spelled.tag b.spelled.content b.front b.spelled.is_element,
      b.len_is,
      ap length b.joined,
      length-append b.front b.rest,
      length-take count (drop len octets),
      length-drop len octets,
    )

pub loop-len-smaller : goal.loop-len-smaller
loop-len-smaller c = shorter _ c.in-Ok.len _ c.loop-len.rest.now c.in-Ok.ensures.found
