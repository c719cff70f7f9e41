-- What does reading user information from left to right return, up to the first fault?
use Rattle.std.specs.Prelude.{Bool, ℕ, List, Option, Result, Ok}
use Rattle.tcap_ber.specs.declared.fault.Fault.{Fault}
use Rattle.tcap_ber.specs.Span.{Span}
use Rattle.tcap_ber.specs.Reading.{◌>>=◌, Element, verbatim_at, optional_at, each_of, is_read, read_or_none}

unfoldable pub external_at : Span → Result (List ℕ × Span) Fault
external_at s = verbatim_at 0x28 s

unfoldable pub externals_at : Span → Result (List (List ℕ)) Fault
externals_at s = each_of external_at s

unfoldable pub info_of : Element → Result (List ℕ) Fault
info_of e = externals_at e.content >>= λ _. Ok e.content.octets

-- the octets are EXTERNALs one after the other
unfoldable pub are_externals : List ℕ → Bool
are_externals octets = is_read (externals_at (record { octets = octets; place = 0 }))

-- the EXTERNALs of the octets
unfoldable pub externals_of : List ℕ → List (List ℕ)
externals_of octets = read_or_none (externals_at (record { octets = octets; place = 0 }))

-- user information, BE, or None if the next tag is another one
unfoldable pub info_at : Span → Result (Option (List ℕ) × Span) Fault
info_at s = optional_at 0xBE info_of s
