-- Which reader or writer does a wrapper hold, and what has it noted?
use Rattle.std.specs.Prelude.{◌≡◌, ℕ, ◌-◌, min, ◌⊎◌, Bool, List, ◌++◌, length, take, Result, Ok, Err, ◌==◌, codes}
use Rattle.std.specs.List.{starts_with}
use Rattle.tcap_ber.specs.declared.device.Failed.{Failed}
use Rattle.tcap_diagnostics.specs.declared.line_reader.LineReader.{LineReader}
use Rattle.tcap_diagnostics.specs.declared.first_octets.FirstOctets.{FirstOctets}
use Rattle.tcap_diagnostics.specs.declared.fault_writer.FaultWriter.{FaultWriter}

-- the reader in a `FirstOctets`
abbrev pub first_octets_inner : {R : Type 0} → FirstOctets R → R
first_octets_inner device = device.reader

-- the octets that a `FirstOctets` has noted
abbrev pub first_octets_noted : {R : Type 0} → FirstOctets R → List ℕ
first_octets_noted device = device.first.items

-- A read that returned Ok n noted these octets as far as there was room for 512 in all, or none if memory ran out. A
-- failed one noted none.
abbrev pub Notes : List ℕ → List ℕ → Result ℕ Failed → List ℕ → Type 0
Notes old new (Ok n) buffer = (new ≡ old ++ take (min (512 - length old) n) buffer) ⊎ (new ≡ old)
Notes old new (Err failed) buffer = new ≡ old

-- the reader in a `LineReader`
abbrev pub line_reader_inner : {R : Type 0} → LineReader R → R
line_reader_inner device = device.reader

-- the writer in a `FaultWriter`
abbrev pub fault_writer_inner : {W : Type 0} → FaultWriter W → W
fault_writer_inner device = device.writer

-- whether a `FaultWriter` has noted the fault of a record with too many entries
abbrev pub notes_too_many : {W : Type 0} → FaultWriter W → Bool
notes_too_many device = device.too_many

-- whether octets begin with the fault of a record with too many entries
abbrev pub is_too_many : List ℕ → Bool
is_too_many octets = starts_with (λ x y. x == y) octets (codes "FAULT 22 ")
