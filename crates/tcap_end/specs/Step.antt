-- What a step of one end is: the state after it, or the first reason why it is refused.
use Rattle.std.specs.Prelude.{◌≡◌, ◌≢◌, ℕ, Bool, Result, Ok, Err, cond}
use Rattle.tcap_end.specs.declared.fault.EndFault.{EndFault}
use Rattle.tcap_end.specs.declared.fault.EndFault.TheVariants as faults

-- a condition of a step, and the reason if it does not hold
abbrev pub needs : {F : Type 0} → Bool → F → Result (Unit {0}) F
needs so reason = cond so (Ok tt) (Err reason)

infixl 1 ◌>>◌
infixl 1 ◌>>=◌
-- the second step's result after the first succeeds, or the first step's reason
abbrev pub ◌>>◌ : {A B F : Type 0} → Result A F → Result B F → Result B F
Ok x >> next = next
Err reason >> next = Err reason

-- one step and then another that uses its result, or the first reason
abbrev pub ◌>>=◌ : {A B F : Type 0} → Result A F → (A → Result B F) → Result B F
Ok x >>= next = next x
Err reason >>= next = Err reason

-- A call returns Ok exactly if the step is possible, and then leaves the state after the step; else it returns the
-- step's reason.
abbrev pub Answers : {A : Type 0} → Result A EndFault → Result (Unit {0}) EndFault → A → Type 0
Answers step (Ok done) left = step ≡ Ok left
Answers step (Err reason) left = step ≡ Err reason

-- A call returns what the step gives, unless it returns Memory; on Ok it leaves the state after the step.
abbrev pub AnswersInMemory : {A : Type 0} → Result A EndFault → Result (Unit {0}) EndFault → A → Type 0
AnswersInMemory step (Ok done) left = step ≡ Ok left
AnswersInMemory step (Err reason) left = reason ≢ faults.Memory → step ≡ Err reason

-- A call returns what the step gives; on Ok it leaves the state after the step, and returns this number.
abbrev pub AnswersNumber : {A : Type 0} → Result A EndFault → ℕ → Result ℕ EndFault → A → Type 0
AnswersNumber step number (Ok n) left = (step ≡ Ok left) × (n ≡ number)
AnswersNumber step number (Err reason) left = step ≡ Err reason
