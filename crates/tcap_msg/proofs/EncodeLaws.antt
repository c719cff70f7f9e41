-- The length of a message's content decides whether the message can be written.
use Rattle.std.proofs.Common.{◌≡◌, ℕ, ◌<◌, ◌≤◌, List, length, Option, Some, None, Result, Ok, Err, refl, ap, arith}
use Rattle.std.specs.Option.{option_map, IsSome}
use Rattle.std.specs.Result.{IsErrAnd}
use Rattle.tcap_ber.specs.Canonical.{element_around}
use Rattle.tcap_ber.specs.Device.{one_more}
use Rattle.tcap_ber.proofs.PutLaws.{some_same, no_len, around_long, around_short}
use Rattle.tcap_msg.specs.declared.message.Message.{Message}
use Rattle.tcap_msg.specs.declared.encode_message.EncodeFault.{EncodeFault}
use Rattle.tcap_msg.specs.declared.encode_message.EncodeFault.TheVariants.{TooLong, Write}
use Rattle.tcap_msg.specs.Parts.{kind_in}
use Rattle.tcap_msg.specs.Canonical.{message_tag, canonical_content, canonical}
use Rattle.tcap_msg.specs.Encoding.{IsEncoded}

-- a content with a length exists
pub content_there : (x : Option (List ℕ)) (n : ℕ) → Some n ≡ option_map length x → IsSome x
content_there None n len = absurd cc
content_there (Some content) n len = refl

-- without a content there is no message
pub none_inside : (m : Message) → None ≡ option_map length (canonical_content m) → canonical m ≡ None
none_inside m none = ap (element_around (message_tag (kind_in m))) (no_len (canonical_content m) none)

-- a content over the limit
around_over : (tag n : ℕ) (x : Option (List ℕ)) → Some n ≡ option_map length x → 65535 < n → element_around tag x ≡ None
around_over tag n None len over = refl
around_over tag n (Some content) len over = around_long tag content (omega (arith, some_same n (length content) len))

pub too_long : (m : Message) (n : ℕ) → Some n ≡ option_map length (canonical_content m) → 65535 < n → canonical m ≡ None
too_long m n len over = around_over (message_tag (kind_in m)) n (canonical_content m) len over

-- a content within the limit
around_fits : (tag n : ℕ) (x : Option (List ℕ)) → Some n ≡ option_map length x → n ≤ 65535 → (octets : List ℕ) × (element_around tag x ≡ Some octets)
around_fits tag n None len within = absurd cc
around_fits tag n (Some content) len within = (_, around_short tag content (omega (arith, some_same n (length content) len)))

pub fits : (m : Message) (n : ℕ) → Some n ≡ option_map length (canonical_content m) → n ≤ 65535 → (octets : List ℕ) × (canonical m ≡ Some octets)
fits m n len within = around_fits (message_tag (kind_in m)) n (canonical_content m) len within

-- the writer failed, for a message within the limit
pub write_failed : (m : Message) (n : ℕ) (old new : Option (List ℕ)) (failed fails : ℕ) (r : Result (Unit {0}) EncodeFault) → Some n ≡ option_map length (canonical_content m)
    → n ≤ 65535 → fails ≡ one_more failed → IsErrAnd r (λ fault. fault ≡ Write) → IsEncoded (canonical m) old new failed fails r
write_failed m n old new failed fails (Ok _) len within counts is = absurd is
write_failed m n old new failed fails (Err TooLong) len within counts is = absurd cc
write_failed m n old new failed fails (Err Write) len within counts is = (fits m n len within, counts)
