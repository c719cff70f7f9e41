-- What does reading elements from left to right return, up to the first fault?
use Rattle.std.specs.Prelude.{Bool, true, false, not, ◌&&◌, ℤ, ℕ, zero, suc, ◌+◌, ◌-◌, List, [], ◌∷◌, length, take, drop, Option, Some, None, Result, Ok, Err, nat_lt, ◌==◌, if◌then◌else◌}
use Rattle.tcap_ber.specs.declared.fault.Fault.{Fault}
use Rattle.tcap_ber.specs.declared.fault.Reason.{Reason}
use Rattle.tcap_ber.specs.declared.fault.Reason.TheVariants.{BadInteger, BadObjectId, Overrun, Missing, UnexpectedTag, Trailing, BadSize}
use Rattle.tcap_ber.specs.declared.header.Header.{Header}
use Rattle.tcap_ber.specs.declared.header.Opening.{Opening}
use Rattle.tcap_ber.specs.declared.header.Opening.TheVariants.{Definite, Indefinite}
use Rattle.tcap_ber.specs.declared.element.Tlv.{Tlv}
use Rattle.tcap_ber.specs.declared.element.Outer.{Outer}
use Rattle.tcap_ber.specs.declared.element.Outer.TheVariants.{Whole, Need}
use Rattle.tcap_ber.specs.Span.{Span, behind}
use Rattle.tcap_ber.specs.Integer.{signed}
unfoldable pub use Rattle.tcap_ber.specs.Element.{is_next}
unfoldable pub use Rattle.tcap_ber.specs.HeaderReading.{fault, ◌>>=◌, Gives, span, tag_at, length_at, opening_at}
unfoldable pub use Rattle.tcap_ber.specs.WalkResult.{outer_at, innermost_at}

-- an element that was read: its tag, its content and its place
pub record Element : Type 0 where
  pub tag : List ℕ
  pub content : Span
  pub place : ℕ

-- a view of an element as a value
abbrev pub element : Tlv → Element
element t = record { tag = t.tag.octets.now; content = span t.content; place = t.start }

-- the element with this header of definite length, and the window after it
abbrev pub definite_at : Span → Header → Result (Element × Span) Fault
definite_at s h =
    if nat_lt (length s.octets) (h.len + h.content_len) then Err (fault Overrun s.place)
    else Ok (
      record {
        tag = take h.tag_len s.octets;
        content = record { octets = take h.content_len (drop h.len s.octets); place = s.place + h.len };
        place = s.place;
      },
      behind (h.len + h.content_len) s,
    )

-- the element's length in octets, given the result of the walk over it; faults get their place in the window
abbrev pub walked_len : Span → Result Outer Fault → Result ℕ Fault
walked_len s (Err f) = Err (fault f.reason (s.place + f.place))
walked_len s (Ok (Need n)) = Err (fault Overrun (s.place + innermost_at s.octets))
walked_len s (Ok (Whole n)) = Ok n

-- the element of indefinite length with a tag of `tag` octets and n octets in all
abbrev pub indefinite_of : Span → ℕ → ℕ → Result (Element × Span) Fault
indefinite_of s tag n = Ok (
  record {
    tag = take tag s.octets;
    content = record { octets = take (n - (tag + 3)) (drop (tag + 1) s.octets); place = s.place + (tag + 1) };
    place = s.place;
  },
  behind n s,
)

abbrev pub indefinite_at : Span → ℕ → Result Outer Fault → Result (Element × Span) Fault
indefinite_at s tag outer = walked_len s outer >>= indefinite_of s tag

-- the element with this header, or Overrun if the header is incomplete
abbrev pub element_of : Span → Option Opening → Result (Element × Span) Fault
element_of s None = Err (fault Overrun s.place)
element_of s (Some (Definite h)) = definite_at s h
element_of s (Some (Indefinite tag)) = indefinite_at s tag (outer_at s.octets)

-- the first element of a window, and the window after it
unfoldable pub next_at : Span → Result (Element × Span) Fault
next_at s = opening_at s >>= element_of s

-- the content after a header, as far as the window has it; None without a header. After a header of indefinite length,
-- it is all of the window.
abbrev pub content_by : Span → Option Opening → Option Span
content_by s None = None
content_by s (Some (Definite h)) =
    Some (record { octets = take h.content_len (drop h.len s.octets); place = s.place + h.len })
content_by s (Some (Indefinite tag)) = Some (behind (tag + 1) s)

-- the content of the element at the front, which need not be whole, as far as the window has it
unfoldable pub content_so_far_at : Span → Result (Option Span) Fault
content_so_far_at s = opening_at s >>= λ opening. Ok (content_by s opening)

-- the tag is this one octet
abbrev pub is_tag : ℕ → List ℕ → Bool
is_tag octet [] = false
is_tag octet (first ∷ []) = first == octet
is_tag octet (first ∷ second ∷ more) = false

-- the element if it has this tag, else UnexpectedTag
abbrev pub wanted : ℕ → Span → Element × Span → Result (Element × Span) Fault
wanted tag s found = if is_tag tag found.0.tag then Ok found else Err (fault UnexpectedTag s.place)

-- the first element of a window, which must be present and have this tag
unfoldable pub required_at : ℕ → Span → Result (Element × Span) Fault
required_at tag s = if length s.octets == 0 then Err (fault Missing s.place) else next_at s >>= wanted tag s

-- the octets are the contents of an INTEGER
abbrev pub is_integer : List ℕ → Bool
is_integer [] = false
is_integer (first ∷ []) = true
is_integer (first ∷ second ∷ more) =
    not ((first == 0) && nat_lt second 128) && not ((first == 255) && nat_lt 127 second)

-- an INTEGER's contents
unfoldable pub integer_at : Element → Result (List ℕ) Fault
integer_at e = if is_integer e.content.octets then Ok e.content.octets else Err (fault BadInteger e.place)

-- the number of an INTEGER of at most `limit` octets
abbrev pub within : ℕ → Reason → Element → List ℕ → Result ℤ Fault
within limit too_wide e octets = if nat_lt limit (length octets) then Err (fault too_wide e.place)
    else Ok (signed octets)

unfoldable pub small_integer_at : ℕ → Reason → Element → Result ℤ Fault
small_integer_at limit too_wide e = integer_at e >>= within limit too_wide e

-- the octets are exactly one element
abbrev pub is_whole : ℕ → Result Outer Fault → Bool
is_whole len (Ok (Whole n)) = n == len
is_whole len (Ok (Need n)) = false
is_whole len (Err f) = false

unfoldable pub is_raw : List ℕ → Bool
is_raw octets = is_whole (length octets) (outer_at octets)

-- the octets from the front of a window to the window after the element
abbrev pub raw_of : Span → Element × Span → Result (List ℕ × Span) Fault
raw_of s found = Ok (take (length s.octets - length found.1.octets) s.octets, found.1)

-- the first element of a window, verbatim
unfoldable pub raw_at : Span → Result (List ℕ × Span) Fault
raw_at s = next_at s >>= raw_of s

-- ---- readers of the grammar's combinators

-- the first element of a window, verbatim, which must be present and have this tag
unfoldable pub verbatim_at : ℕ → Span → Result (List ℕ × Span) Fault
verbatim_at tag s = required_at tag s >>= raw_of s

-- a part that is always absent
abbrev pub absent_at : {V : Type 0} → Span → Result (Option V × Span) Fault
absent_at s = Ok (None, s)

-- the value of an element, and the window after it
abbrev pub with_body : {V : Type 0} → (Element → Result V Fault) → Element × Span → Result (V × Span) Fault
with_body read found = read found.0 >>= λ v. Ok (v, found.1)

-- a value that is present
abbrev pub with_some : {V : Type 0} → V × Span → Result (Option V × Span) Fault
with_some x = Ok (Some x.0, x.1)

-- an element with this tag, if the window begins with it, else None
abbrev pub optional_at : {V : Type 0} → ℕ → (Element → Result V Fault) → Span → Result (Option V × Span) Fault
optional_at tag read s =
    if is_next tag s.octets then (required_at tag s >>= with_body read) >>= with_some else Ok (None, s)

-- the first element of a window, verbatim, or None if the window is empty
unfoldable pub parameter_at : Span → Result (Option (List ℕ) × Span) Fault
parameter_at s = if length s.octets == 0 then Ok (None, s) else raw_at s >>= with_some

-- the value, or Trailing if octets are left
abbrev pub end_at : {W : Type 0} → W → Span → Result W Fault
end_at w s = if length s.octets == 0 then Ok w else Err (fault Trailing s.place)

-- one part that is all of a content
abbrev pub single_at : {V : Type 0} → (Span → Result (V × Span) Fault) → Span → Result V Fault
single_at read s = read s >>= λ x. end_at x.0 x.1

-- the items of a content one after the other, at most n of them
abbrev pub each_at : {V : Type 0} → (Span → Result (V × Span) Fault) → ℕ → Span → Result (List V) Fault
each_at read zero s = if length s.octets == 0 then Ok [] else Err (fault Trailing s.place)
each_at read (suc n) s =
    if length s.octets == 0 then Ok []
    else (read s >>= λ x. each_at read n x.1 >>= λ vs. Ok (x.0 ∷ vs))

-- all items of a content; each has at least one octet, so there are no more items than octets
unfoldable pub each_of : {V : Type 0} → (Span → Result (V × Span) Fault) → Span → Result (List V) Fault
each_of read s = each_at read (length s.octets) s

-- reading succeeded
abbrev pub is_read : {A : Type 0} → Result A Fault → Bool
is_read (Ok x) = true
is_read (Err f) = false

-- the items that were read, or none after a fault
abbrev pub read_or_none : {A : Type 0} → Result (List A) Fault → List A
read_or_none (Ok xs) = xs
read_or_none (Err f) = []

-- ---- a choice

-- the first element of a window, which must be present
unfoldable pub some_at : Span → Result (Element × Span) Fault
some_at s = if length s.octets == 0 then Err (fault Missing s.place) else next_at s

-- an element of a choice, read by its tag
abbrev pub one_of_at : {V : Type 0} → (Element → Result V Fault) → Span → Result (V × Span) Fault
one_of_at read s = some_at s >>= with_body read

-- the element if it has this tag, else one of the others
abbrev pub tagged_at : {V : Type 0} → ℕ → (Element → Result V Fault) → (Element → Result V Fault) → Element
    → Result V Fault
tagged_at tag read others e = if is_tag tag e.tag then read e else others e

-- the refusal of an element that is none of the choice
abbrev pub refused_at : {V : Type 0} → Reason → Element → Result V Fault
refused_at refusal e = Err (fault refusal e.place)

-- ---- object identifiers and small numbers

-- the octets are whole subidentifiers; `start` says whether the first octet begins one
abbrev pub are_subidentifiers : Bool → List ℕ → Bool
are_subidentifiers start [] = start
are_subidentifiers start (octet ∷ more) = not (start && (octet == 128)) && are_subidentifiers (nat_lt octet 128) more

-- the octets are the contents of an OBJECT IDENTIFIER
abbrev pub is_object_id : List ℕ → Bool
is_object_id octets = not (length octets == 0) && are_subidentifiers true octets

-- an OBJECT IDENTIFIER's contents
unfoldable pub object_id_at : Element → Result (List ℕ) Fault
object_id_at e = if is_object_id e.content.octets then Ok e.content.octets else Err (fault BadObjectId e.place)

-- the number of an INTEGER's contents, if they are one octet below 128
abbrev pub small_in : ℕ → List ℕ → Result ℕ Fault
small_in place [] = Err (fault BadSize place)
small_in place (n ∷ []) = if nat_lt n 128 then Ok n else Err (fault BadSize place)
small_in place (first ∷ second ∷ more) = Err (fault BadSize place)

-- the number of an INTEGER of one octet that is not negative
unfoldable pub small_at : Element → Result ℕ Fault
small_at e = integer_at e >>= small_in e.place

-- NULL, which has no content
unfoldable pub null_at : Element → Result (Unit {0}) Fault
null_at e = if length e.content.octets == 0 then Ok tt else Err (fault BadSize e.place)
