-- What does reading the header of an element return, from its tag and its length?
use Rattle.std.specs.Prelude.{Bool, false, ◌≡◌, ℕ, zero, suc, ◌+◌, ◌-◌, ◌/◌, ◌%◌, List, [], ◌∷◌, length, take, drop, Option, Some, None, Result, Ok, Err, nat_lt, ◌==◌, if◌then◌else◌}
use Rattle.tcap_ber.specs.declared.fault.Fault.{Fault}
use Rattle.tcap_ber.specs.declared.fault.Reason.{Reason}
use Rattle.tcap_ber.specs.declared.fault.Reason.TheVariants.{LengthForm, TooLong, TagForm, Indefinite as IndefinitePrimitive}
use Rattle.tcap_ber.specs.declared.header.Header.{Header}
use Rattle.tcap_ber.specs.declared.header.Opening.{Opening}
use Rattle.tcap_ber.specs.declared.header.Opening.TheVariants.{Definite, Indefinite}
use Rattle.tcap_ber.specs.declared.element.Window.{Window}
use Rattle.tcap_ber.specs.Span.{Span, behind}
use Rattle.tcap_ber.specs.Element.{number, content_limit, is_next}

-- the fault with this reason at this place
abbrev pub fault : Reason → ℕ → Fault
fault r p = record { reason = r; place = p }

infixl 10 ◌>>=◌
-- the next step, or the fault of the first
abbrev pub ◌>>=◌ : {A B : Type 0} → Result A Fault → (A → Result B Fault) → Result B Fault
(Ok x) >>= f = f x
(Err e) >>= f = Err e

-- a function's result, mapped by view, equals what reading gives
abbrev pub Gives : {X Y : Type 0} → (X → Y) → Result X Fault → Result Y Fault → Type 0
Gives view (Ok x) read = read ≡ Ok (view x)
Gives view (Err f) read = read ≡ Err f

-- a window as a list of octets with a place
abbrev pub span : Window → Span
span w = record { octets = w.octets.now; place = w.place }

-- the length of a long tag, after `len` of its octets, with at most `left` more
abbrev pub tag_rest : ℕ → ℕ → ℕ → List ℕ → Result (Option ℕ) Fault
tag_rest place zero len octets = Err (fault TagForm place)
tag_rest place (suc left) len [] = Ok None
tag_rest place (suc left) len (octet ∷ octets) =
    if nat_lt octet 128 then Ok (Some (len + 1)) else tag_rest place left (len + 1) octets

-- the length in octets of the tag at the front, or None if the octets end before the tag does
abbrev pub tag_in : ℕ → List ℕ → Result (Option ℕ) Fault
tag_in place [] = Ok None
tag_in place (first ∷ more) = if first % 32 == 31 then tag_rest place 4 1 more else Ok (Some 1)

unfoldable pub tag_at : Span → Result (Option ℕ) Fault
tag_at s = tag_in s.place s.octets

-- the octet count of the length at the front, and its number
abbrev pub length_in : ℕ → List ℕ → Result (Option (ℕ × ℕ)) Fault
length_in place [] = Ok None
length_in place (first ∷ more) =
    if nat_lt first 128 then Ok (Some (1, first))
    else (if first == 128 then Err (fault IndefinitePrimitive place)
    else (if nat_lt 132 first then Err (fault LengthForm place)
    else (if nat_lt (length more) (first - 128) then Ok None
    else Ok (Some (first - 127, number (take (first - 128) more))))))

unfoldable pub length_at : Span → Result (Option (ℕ × ℕ)) Fault
length_at s = length_in s.place s.octets

-- the header of definite length, or TooLong if the content is over the limit
abbrev pub header_of : ℕ → ℕ → Option (ℕ × ℕ) → Result (Option Header) Fault
header_of place tag None = Ok None
header_of place tag (Some found) =
    if nat_lt content_limit found.1 then Err (fault TooLong place)
    else Ok (Some (record { tag_len = tag; len = tag + found.0; content_len = found.1 }))

-- the tag's first octet marks a constructed element (X.690 8.1.2.5)
abbrev pub is_constructed : List ℕ → Bool
is_constructed [] = false
is_constructed (first ∷ more) = first / 32 % 2 == 1

-- a header of definite length as an opening
abbrev pub definite_of : Option Header → Option Opening
definite_of None = None
definite_of (Some h) = Some (Definite h)

-- the header of definite length, given a tag of this many octets
abbrev pub definite_behind : Span → ℕ → Result (Option Header) Fault
definite_behind s tag = length_at (behind tag s) >>= header_of s.place tag

-- the header of definite or indefinite length, given a tag of this many octets
abbrev pub opening_behind : Span → Option ℕ → Result (Option Opening) Fault
opening_behind s None = Ok None
opening_behind s (Some tag) =
    if is_next 0x80 (drop tag s.octets)
    then (if is_constructed s.octets then Ok (Some (Indefinite tag)) else Err
    (fault IndefinitePrimitive (s.place + tag)))
    else (definite_behind s tag >>= λ h. Ok (definite_of h))

-- the header at the front, of definite or indefinite length, or None if the octets end before the header does
unfoldable pub opening_at : Span → Result (Option Opening) Fault
opening_at s = tag_at s >>= opening_behind s
