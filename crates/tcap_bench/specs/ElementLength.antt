-- What is the length of the element that a walk finds?
use Rattle.std.specs.Prelude.{ℕ, Result, Ok, Err}
use Rattle.tcap_ber.specs.declared.fault.Fault.{Fault}
use Rattle.tcap_ber.specs.declared.element.Outer.{Outer}
use Rattle.tcap_ber.specs.declared.element.Outer.TheVariants.{Whole, Need}

-- the length of the whole element, or 0 if there is none
abbrev pub whole_len : Result Outer Fault → ℕ
whole_len (Ok (Whole n)) = n
whole_len (Ok (Need n)) = 0
whole_len (Err f) = 0
