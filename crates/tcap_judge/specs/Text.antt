-- What `read_text` returns: a whole text, up to a limit.
use Rattle.std.specs.Prelude.{◌≡◌, ℕ, ◌+◌, ◌<◌, ◌≤◌, List, length, Option, Result, Ok, Err}
use Rattle.std.specs.Io.KnownBytes.{Consumes, IsAtEnd}
use Rattle.std.specs.Global.{Vec}
use Rattle.tcap_ber.specs.Device.{one_more}
use Rattle.tcap_judge.specs.declared.text_reading.TextFault.{TextFault}
use Rattle.tcap_judge.specs.declared.text_reading.TextFault.TheVariants as faults

-- the greatest number of octets that one read returns
abbrev pub piece_limit : ℕ
piece_limit = 8192

-- How the reading ended after these octets. Either they are the text, and the reader is at its end. Or they exceed the
-- limit, by at most a piece; or the reader failed after them; or memory ran out.
abbrev pub TextEnds : ℕ → Option (List ℕ) → ℕ → ℕ → Result (List ℕ) TextFault → List ℕ → Type 0
TextEnds limit remaining failures failures' (Ok octets) returned =
    (octets ≡ returned) × (length returned ≤ limit) × IsAtEnd remaining × (failures' ≡ failures)
TextEnds limit remaining failures failures' (Err faults.TooLong) returned =
    (limit < length returned) × (length returned ≤ limit + piece_limit) × (failures' ≡ failures)
TextEnds limit remaining failures failures' (Err (faults.Read place)) returned =
    (place ≡ length returned) × (place ≤ limit) × (failures' ≡ one_more failures)
TextEnds limit remaining failures failures' (Err faults.Memory) returned = failures' ≡ failures

-- The reader returned some octets, and the reading ended after them with this result.
pub record ReadsText (limit : ℕ) (remaining remaining' : Option (List ℕ)) (failures failures' : ℕ)
    (result : Result (List ℕ) TextFault) : Type 0 where
  pub returned : List ℕ
  pub tells : Consumes remaining remaining' returned
  pub ends : TextEnds limit remaining' failures failures' result returned

-- the octets of a text, or the fault
abbrev pub octets_of : Result (Vec ℕ) TextFault → Result (List ℕ) TextFault
octets_of (Ok text) = Ok text.items
octets_of (Err fault) = Err fault
