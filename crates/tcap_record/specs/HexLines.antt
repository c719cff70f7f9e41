-- Which lines of hexadecimal digits does `pack` accept, and which record does it make of them?
use Rattle.std.specs.Prelude.{◌≡◌, ◌≢◌, ℕ, ◌+◌, ◌<◌, ◌≤◌, ◌⊎◌, List, [], ◌∷◌, ◌++◌, length, Option, Some, None, Ok}
use Rattle.std.specs.List.{AllByRecursion, concat}
use Rattle.std.specs.Io.KnownBytes.{Appends, IsAtEnd}
use Rattle.hex.specs.Hex.{decode_of}
use Rattle.tcap_ber.specs.Element.{IsRaw}
use Rattle.tcap_record.specs.declared.entry.End.{End}
use Rattle.tcap_record.specs.declared.fault.FeedFault.{FeedFault}
use Rattle.tcap_record.specs.declared.fault.FeedReason.{FeedReason}
use Rattle.tcap_record.specs.declared.fault.FeedReason.TheVariants as feed
use Rattle.tcap_record.specs.RecordOctets.{octet_of, quiet_octet}

abbrev pub newline : ℕ
newline = 10

abbrev pub carriage_return : ℕ
carriage_return = 13

abbrev pub number_sign : ℕ
number_sign = 35

abbrev pub space : ℕ
space = 32

-- the greatest number of octets of a line without its end, this profile's limit
abbrev pub line_limit : ℕ
line_limit = 131092

-- the greatest number of lines, this profile's limit
abbrev pub lines_limit : ℕ
lines_limit = 1000000

-- no octet is a newline
abbrev pub HasNoNewline : List ℕ → Type 0
HasNoNewline octets = AllByRecursion (λ octet. octet ≢ newline) octets

-- the last octet is a carriage return
abbrev pub EndsInReturn : List ℕ → Type 0
EndsInReturn octets = (front : List ℕ) × (octets ≡ front ++ carriage_return ∷ [])

-- The octets are the content and the line end: a newline, or a carriage return and a newline.
abbrev pub IsEndedLine : List ℕ → List ℕ → Type 0
IsEndedLine content octets =
    HasNoNewline content
    × ((octets ≡ content ++ carriage_return ∷ newline ∷ [])
    ⊎ ((EndsInReturn content → ⊥) × (octets ≡ content ++ newline ∷ [])))

-- a skipped line: an empty one, or a comment
abbrev pub IsSkipped : List ℕ → Type 0
IsSkipped [] = Unit {0}
IsSkipped (first ∷ more) = first ≡ number_sign

-- a message that an end sent: the end's letter, a space, and the digits of exactly one element
pub record IsSentLine (content entry : List ℕ) : Type 0 where
  pub side : End
  pub digits : List ℕ
  pub element : List ℕ
  pub content_is : content ≡ octet_of side ∷ space ∷ digits
  pub decoded : decode_of digits ≡ Ok element
  pub raw : IsRaw element
  pub entry_is : entry ≡ octet_of side ∷ element

-- The octets of the entry that a line of this content means, or None if it is skipped.
abbrev pub StandsFor : List ℕ → Option (List ℕ) → Type 0
StandsFor content None = (length content ≤ line_limit) × IsSkipped content
StandsFor content (Some entry) =
    (length content ≤ line_limit)
    × (IsSentLine content entry ⊎ ((content ≡ quiet_octet ∷ []) × (entry ≡ quiet_octet ∷ [])))

-- the content is neither skipped nor an entry
abbrev pub IsNoLine : List ℕ → Type 0
IsNoLine content = (line : Option (List ℕ)) → StandsFor content line → ⊥

-- the text is these lines, each with its end
abbrev pub AreLines : List (Option (List ℕ)) → List ℕ → Type 0
AreLines [] text = text ≡ []
AreLines (line ∷ lines) text =
    (content octets more : List ℕ) × IsEndedLine content octets × StandsFor content line × (text ≡ octets ++ more)
    × AreLines lines more

-- the text is these lines, and the last may lack its end
abbrev pub IsText : List (Option (List ℕ)) → List ℕ → Type 0
IsText lines text =
    AreLines lines text
    ⊎ ((before : List (Option (List ℕ))) × (last : Option (List ℕ)) × (front content : List ℕ)
    × (lines ≡ before ++ last ∷ []) × (text ≡ front ++ content) × AreLines before front
    × (content ≢ []) × HasNoNewline content × StandsFor content last)

-- the entries of lines
abbrev pub entries_in : List (Option (List ℕ)) → List (List ℕ)
entries_in [] = []
entries_in (None ∷ lines) = entries_in lines
entries_in (Some entry ∷ lines) = entry ∷ entries_in lines

-- The rest after `count` lines goes on with no acceptable line, for one of four reasons. No more lines are allowed. A
-- complete line is neither skipped nor an entry. A line is too long, no matter how it ends. The last line, at the
-- reader's end, is neither skipped nor an entry.
abbrev pub IsRefusedLine : ℕ → List ℕ → Option (List ℕ) → Type 0
IsRefusedLine count rest remaining =
    ((count ≡ lines_limit) × (rest ≢ []))
    ⊎ ((content octets more : List ℕ) × IsEndedLine content octets × (rest ≡ octets ++ more) × IsNoLine content)
    ⊎ ((content more : List ℕ) × HasNoNewline content × (rest ≡ content ++ more) × (line_limit + 1 < length content))
    ⊎ (IsAtEnd remaining × HasNoNewline rest × (rest ≢ []) × IsNoLine rest)

-- Why packing stopped after `count` lines: at a bad line, at a failure of the reader, or because memory ran out. If the
-- reader failed, the rest is an incomplete line without a fault.
abbrev pub StopsAs : ℕ → ℕ → List ℕ → Option (List ℕ) → FeedReason → ℕ → Type 0
StopsAs count total rest remaining feed.BadHexLine place = (place ≡ count + 1) × IsRefusedLine count rest remaining
StopsAs count total rest remaining feed.Read place =
    (place ≡ total) × HasNoNewline rest × (rest ≢ [] → count < lines_limit) × (length rest ≤ line_limit + 1)
StopsAs count total rest remaining feed.Memory place = place ≡ 0
StopsAs count total rest remaining _ place = ⊥

-- What was read is a text of lines, and their `count` entries were written.
pub record IsPacked (returned : List ℕ) (count : ℕ) (taken taken' : Option (List ℕ)) : Type 0 where
  pub lines : List (Option (List ℕ))
  pub is_text : IsText lines returned
  pub within : length lines ≤ lines_limit
  pub count_is : count ≡ length (entries_in lines)
  pub written : Appends taken taken' (concat (entries_in lines))

-- What was read begins with these lines, whose entries were written, and packing stopped there for this fault.
pub record IsPackedUpTo (returned : List ℕ) (fault : FeedFault) (remaining : Option (List ℕ))
    (taken taken' : Option (List ℕ))
    : Type 0 where
  pub lines : List (Option (List ℕ))
  pub front : List ℕ
  pub rest : List ℕ
  pub are_lines : AreLines lines front
  pub joined : returned ≡ front ++ rest
  pub within : length lines ≤ lines_limit
  pub stops : StopsAs (length lines) (length returned) rest remaining fault.reason fault.place
  pub written : Appends taken taken' (concat (entries_in lines))
