-- What does decoding return, if memory may run out?
use Rattle.std.specs.Prelude.{◌≡◌, Result, Ok, Err}
use Rattle.tcap_ber.specs.declared.fault.Fault.{Fault}
use Rattle.tcap_msg.specs.declared.message.DecodeFault.{DecodeFault}
use Rattle.tcap_msg.specs.declared.message.DecodeFault.TheVariants as faults

-- the result is what reading gives, unless memory ran out
abbrev pub Decodes : {X : Type 0} → Result X DecodeFault → Result X Fault → Type 0
Decodes (Ok x) read = read ≡ Ok x
Decodes (Err (faults.Fault f)) read = read ≡ Err f
Decodes (Err faults.Memory) read = Unit {0}

-- P holds for the fault, if the octets were refused
abbrev pub IfRefused : {X : Type 0} → Result X DecodeFault → (Fault → Type 0) → Type 0
IfRefused (Ok x) P = Unit {0}
IfRefused (Err (faults.Fault f)) P = P f
IfRefused (Err faults.Memory) P = Unit {0}
