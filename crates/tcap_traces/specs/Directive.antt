-- What does a line that begins with `#:` say?
use Rattle.std.specs.Prelude.{ℕ, ◌-◌, Bool, false, List, [], ◌∷◌, ◌&&◌, ◌||◌, bytes_eq, codes, cond, drop, length, nat_eq, reverse, take, Option, Some, None}
use Rattle.std.specs.Str.{all_ascii_digits}
use Rattle.tcap_record.specs.declared.entry.End.{End as Side}
use Rattle.tcap_record.specs.declared.entry.End.TheVariants as sides
use Rattle.tcap_traces.specs.declared.directive.Directive.{Directive}
use Rattle.tcap_traces.specs.declared.directive.Directive.TheVariants as directives

-- A directive: dialogues may have been under way; the trace was broken off, with a text on missing messages, or none; a
-- description of an end; or unknown.
pub data Statement : Type 0 where
  UnderWay : Statement
  BrokenOff : List ℕ → Statement
  About : Side → List ℕ → Statement
  Unknown : Statement

-- the statement of a directive that the code returns
abbrev pub statement_of : Directive → Statement
statement_of directives.UnderWay = UnderWay
statement_of (directives.BrokenOff missing) = BrokenOff missing.now
statement_of (directives.About end text) = About end text.now
statement_of directives.Unknown = Unknown

-- ---- blanks, and text at the front or the end

-- a space or a tab
abbrev pub is_blank : ℕ → Bool
is_blank octet = nat_eq octet 32 || nat_eq octet 9

-- the octets after the blanks at the front
abbrev pub after_blanks : List ℕ → List ℕ
after_blanks [] = []
after_blanks (octet ∷ octets) = cond (is_blank octet) (after_blanks octets) (octet ∷ octets)

-- octets without the blanks at both ends
abbrev pub trimmed : List ℕ → List ℕ
trimmed octets = reverse (after_blanks (reverse (after_blanks octets)))

-- whether octets begin with `front`
abbrev pub begins : List ℕ → List ℕ → Bool
begins front octets = bytes_eq (take (length front) octets) front

-- whether octets end with `back`
abbrev pub ends : List ℕ → List ℕ → Bool
ends back octets = bytes_eq (drop (length octets - length back) octets) back

-- ---- the text of a directive

-- one decimal digit or more
abbrev pub is_number : List ℕ → Bool
is_number [] = false
is_number (digit ∷ digits) = all_ascii_digits (digit ∷ digits)

-- `N messages missing`, with N in decimal digits
abbrev pub is_count : List ℕ → Bool
is_count octets =
    ends (codes " messages missing") octets
    && is_number (take (length octets - length (codes " messages missing")) octets)

-- `, 1 message missing` or `, N messages missing`
abbrev pub is_missing : List ℕ → Bool
is_missing octets =
    bytes_eq octets (codes ", 1 message missing") || (begins (codes ", ") octets && is_count (drop 2 octets))

-- the directive, by the octets after `broken off`
abbrev pub broken_off : List ℕ → Statement
broken_off [] = BrokenOff []
broken_off (octet ∷ octets) = cond (is_missing (octet ∷ octets)) (BrokenOff (octet ∷ octets)) Unknown

-- the directive, by the octets after the letter of an end
abbrev pub about : Side → List ℕ → Statement
about end [] = Unknown
about end (octet ∷ octets) = cond (is_blank octet) (About end (trimmed octets)) Unknown

-- the directive about an end, by its letter (65 is A, 66 is B)
abbrev pub lettered : List ℕ → Statement
lettered [] = Unknown
lettered (octet ∷ octets) =
    cond (nat_eq octet 65) (about sides.A octets) (cond (nat_eq octet 66) (about sides.B octets) Unknown)

-- the directive with this text
abbrev pub directive_in : List ℕ → Statement
directive_in text =
    cond (bytes_eq text (codes "under way")) UnderWay
    (cond (begins (codes "broken off") text) (broken_off (drop (length (codes "broken off")) text))
    (lettered text))

-- ---- a line

-- the directive in a line without its line end; None if the line is no directive
abbrev pub directive_of : List ℕ → Option Statement
directive_of line =
    cond (begins (codes "#:") line) (Some (directive_in (trimmed (drop 2 line)))) None
