-- What a reader returned in a call, and how often it failed.
use Rattle.std.specs.Prelude.{◌≡◌, ℕ, List, Option}

-- A reader before a call and after it: the octets that it still has to return, if they are known, and the number of its
-- failures.
pub record Device : Type 0 where
  pub before : Option (List ℕ)
  pub after : Option (List ℕ)
  pub failed_before : ℕ
  pub failed_after : ℕ

-- The `Device` of a reader that was `old` before the call and is `new` after it. `remaining` gives the octets that it
-- still has to return, and `failures` the number of its failures.
abbrev pub device : {A : Type 0} → (A → Option (List ℕ)) → (A → ℕ) → A → A → Device
device remaining failures old new = record {
  before = remaining old;
  after = remaining new;
  failed_before = failures old;
  failed_after = failures new;
}

-- The call did not use the reader.
abbrev pub IsUntouched : Device → Type 0
IsUntouched d = (d.after ≡ d.before) × (d.failed_after ≡ d.failed_before)
