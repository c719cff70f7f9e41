-- What does a `Failing` hold? It holds a device, a count of failures, and the count of octets that pass before it
-- fails.
use Rattle.std.specs.Prelude.{◌≡◌, ℕ, ◌-◌, ◌≤◌, Option, Some, None}
use Rattle.tcap_ber.specs.Device.{counted_inner}
use Rattle.tcap_vectors.specs.declared.failing.Failing.{Failing}

-- the reader or writer inside
abbrev pub failing_inner : {T : Type 0} → Failing T → T
failing_inner device = counted_inner device.device

-- the count of failures
abbrev pub failing_failures : {T : Type 0} → Failing T → ℕ
failing_failures device = device.failures

-- the count of octets that pass before the injected failure, or None after it
abbrev pub failing_left : {T : Type 0} → Failing T → Option ℕ
failing_left device = device.left

-- n octets passed: at most as many as were left, and n fewer are left
abbrev pub Passes : Option ℕ → Option ℕ → ℕ → Type 0
Passes None new n = new ≡ None
Passes (Some left) new n = (n ≤ left) × (new ≡ Some (left - n))
