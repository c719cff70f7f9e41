-- What does encoding do to a writer?
use Rattle.std.specs.Prelude.{◌≡◌, ℕ, List, Option, Some, None, Result, Ok, Err}
use Rattle.std.specs.Io.KnownBytes.{Appends, Keeps}
use Rattle.tcap_ber.specs.Device.{one_more}
use Rattle.tcap_msg.specs.declared.encode_message.EncodeFault.{EncodeFault}
use Rattle.tcap_msg.specs.declared.encode_message.EncodeFault.TheVariants.{TooLong, Write}

-- Encoding writes all octets of the spelling, or nothing if there is no spelling (TooLong), or the writer fails
-- (Write).
abbrev pub IsEncoded : Option (List ℕ) → Option (List ℕ) → Option (List ℕ) → ℕ → ℕ → Result (Unit {0}) EncodeFault
    → Type 0
IsEncoded spelling old new failed fails (Ok _) =
    ((octets : List ℕ) × (spelling ≡ Some octets) × Appends old new octets) × (fails ≡ failed)
IsEncoded spelling old new failed fails (Err TooLong) = (spelling ≡ None) × Keeps old new × (fails ≡ failed)
IsEncoded spelling old new failed fails (Err Write) = ((octets : List ℕ) × (spelling ≡ Some octets))
    × (fails ≡ one_more failed)
