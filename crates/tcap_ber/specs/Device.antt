-- What is known of a device: which octets are still to be read or were written, and how often it failed?
use Rattle.std.specs.Prelude.{◌≡◌, ℕ, ◌+◌, ◌-◌, ◌^◌, ◌≤◌, min, List, Option, Some, None, Result, Err, take, MatchResult}
use Rattle.std.specs.Io.KnownBytes.{Appends, Consumes, Keeps}
use Rattle.tcap_ber.specs.declared.device.Failed.{Failed}
use Rattle.tcap_ber.specs.declared.counted.Counted.{Counted}
use Rattle.tcap_ber.specs.declared.unopened_device.Unopened.{Unopened}
use Rattle.tcap_ber.specs.declared.to_end.ReadError.{ReadError}
use Rattle.tcap_ber.specs.declared.to_end.ReadError.TheVariants.{Failed as DeviceFailed}

-- one failure more; the count stays at its greatest value
abbrev pub one_more : ℕ → ℕ
one_more count = min (count + 1) (2 ^ 64 - 1)

-- the call counts a failure exactly if it failed
abbrev pub CountsFailure : {A : Type 0} → ℕ → ℕ → Result A Failed → Type 0
CountsFailure old new result = MatchResult result (λ _. new ≡ old) (λ _. new ≡ one_more old)

-- a read that returned Ok n consumed the first n octets of the buffer; a failed one consumed none
abbrev pub Tells : Option (List ℕ) → Option (List ℕ) → Result ℕ Failed → List ℕ → Type 0
Tells old new result buffer = MatchResult result (λ n. Consumes old new (take n buffer)) (λ _. Keeps old new)

-- a successful write appended all octets; a failed one appended an unknown number of the first
abbrev pub Takes : Option (List ℕ) → Option (List ℕ) → Result (Unit {0}) Failed → List ℕ → Type 0
Takes old new result octets = MatchResult result (λ _. Appends old new octets)
    (λ _. (n : ℕ) × Appends old new (take n octets))

-- the reader or writer in a `Counted`
abbrev pub counted_inner : {T : Type 0} → Counted T → T
counted_inner device = device.inner

-- how often a `Counted` failed
abbrev pub counted_failures : {T : Type 0} → Counted T → ℕ
counted_failures device = device.failures

-- how often an `Unopened` was read from
abbrev pub unopened_failures : Unopened → ℕ
unopened_failures device = device.failures

-- reading to the end counts a failure exactly if the device failed, and none if memory ran out
abbrev pub CountsReadFailure : ℕ → ℕ → Result (Unit {0}) ReadError → Type 0
CountsReadFailure old new (Err DeviceFailed) = new ≡ one_more old
CountsReadFailure old new _ = new ≡ old
