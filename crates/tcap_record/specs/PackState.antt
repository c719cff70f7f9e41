-- What does each step of packing lines do?
use Rattle.std.specs.Prelude.{◌≡◌, ◌≢◌, ℕ, ◌+◌, ◌<◌, ◌≤◌, ◌⊎◌, List, [], ◌∷◌, ◌++◌, length, Option, Some, None}
use Rattle.std.specs.List.{concat}
use Rattle.std.specs.Io.KnownBytes.{Appends}
use Rattle.tcap_record.specs.declared.fault.FeedFault.{FeedFault}
use Rattle.tcap_record.specs.declared.fault.FeedReason.TheVariants as feed
use Rattle.tcap_record.specs.declared.packing.Line.{Line}
use Rattle.tcap_record.specs.declared.packing.Line.TheVariants.{Skipped, Mark, Sent}
use Rattle.tcap_record.specs.declared.packing.LineFault.{LineFault}
use Rattle.tcap_record.specs.declared.packing.LineFault.TheVariants.{Bad, Memory}
use Rattle.tcap_record.specs.declared.packing.PackState.{PackState}
use Rattle.tcap_record.specs.RecordOctets.{octet_of, quiet_octet}
use Rattle.tcap_record.specs.FramingResult.{feed_fault}
use Rattle.tcap_record.specs.HexLines.{AreLines, EndsInReturn, HasNoNewline, IsNoLine, StandsFor, StopsAs, carriage_return, entries_in, line_limit, lines_limit}

-- the content of a line before its newline: without a carriage return at its end
abbrev pub IsContentOf : List ℕ → List ℕ → Type 0
IsContentOf octets content =
    (octets ≡ content ++ carriage_return ∷ [])
    ⊎ ((EndsInReturn octets → ⊥) × (content ≡ octets))

-- the octets of a line's entry
abbrev pub line_of : Line → Option (List ℕ)
line_of Skipped = None
line_of Mark = Some (quiet_octet ∷ [])
line_of (Sent side element) = Some (octet_of side ∷ element.items)

-- the fault of the line with this number
abbrev pub line_fault : ℕ → LineFault → FeedFault
line_fault number Bad = feed_fault feed.BadHexLine number
line_fault number Memory = feed_fault feed.Memory 0

-- the line with this content and number was refused: it is bad, or memory ran out
abbrev pub IsLineRefused : List ℕ → ℕ → FeedFault → Type 0
IsLineRefused content number fault =
    ((fault ≡ feed_fault feed.BadHexLine number) × IsNoLine content)
    ⊎ (fault ≡ feed_fault feed.Memory 0)

-- the state holds the front of the current line, after lines within the limits
pub record IsOpen (p : PackState) : Type 0 where
  pub plain : HasNoNewline p.line.items
  pub short : length p.line.items ≤ line_limit + 1
  pub within : p.lines ≤ lines_limit
  pub room : p.line.items ≢ [] → p.lines < lines_limit
  pub fewer : p.entries ≤ p.lines

-- the state before the first line
abbrev pub IsFresh : PackState → Type 0
IsFresh p = (p.line.items ≡ []) × (p.lines ≡ 0) × (p.entries ≡ 0)

-- one line was packed, and no octet is held after it
pub record IsBehind (line : Option (List ℕ)) (old new : PackState) : Type 0 where
  pub nothing : new.line.items ≡ []
  pub lines_are : new.lines ≡ old.lines + 1
  pub entries_are : new.entries ≡ old.entries + length (entries_in (line ∷ []))

-- The octets held and the new ones are lines, whose entries were written and counted, and then the octets now held.
pub record Packs (old new : PackState) (octets : List ℕ) (taken taken' : Option (List ℕ)) : Type 0 where
  pub lines : List (Option (List ℕ))
  pub front : List ℕ
  pub are_lines : AreLines lines front
  pub joined : old.line.items ++ octets ≡ front ++ new.line.items
  pub lines_are : new.lines ≡ old.lines + length lines
  pub entries_are : new.entries ≡ old.entries + length (entries_in lines)
  pub written : Appends taken taken' (concat (entries_in lines))

-- at least one of the first octets of the piece was packed, and `rest` is left
abbrev pub PacksFrom : PackState → PackState → List ℕ → List ℕ → Option (List ℕ) → Option (List ℕ) → Type 0
PacksFrom old new piece rest taken taken' =
    (octets : List ℕ) × (piece ≡ octets ++ rest) × (length rest < length piece) × Packs old new octets taken taken'

-- The octets held and the new ones begin with lines, whose entries were written. Packing stopped there for this fault,
-- no matter how many octets were read in all.
pub record PacksUpTo (old : PackState) (octets : List ℕ) (fault : FeedFault)
    (remaining taken taken' : Option (List ℕ)) : Type 0 where
  pub lines : List (Option (List ℕ))
  pub front : List ℕ
  pub rest : List ℕ
  pub are_lines : AreLines lines front
  pub joined : old.line.items ++ octets ≡ front ++ rest
  pub within : old.lines + length lines ≤ lines_limit
  pub stops : (total : ℕ) → StopsAs (old.lines + length lines) total rest remaining fault.reason fault.place
  pub written : Appends taken taken' (concat (entries_in lines))

-- The octets held are the last line, or none. Its entry was written, and `count` is the number of all entries.
abbrev pub Finishes : PackState → ℕ → Option (List ℕ) → Option (List ℕ) → Type 0
Finishes old count taken taken' =
    ((old.line.items ≡ []) × (count ≡ old.entries) × Appends taken taken' [])
    ⊎ ((old.line.items ≢ []) × ((line : Option (List ℕ)) × StandsFor old.line.items line
    × (count ≡ old.entries + length (entries_in (line ∷ [])))
    × Appends taken taken' (concat (entries_in (line ∷ [])))))
