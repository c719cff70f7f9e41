-- Worked octets that are no message, and their headings.
use Rattle.std.specs.Prelude.{◌≡◌, ℕ, false, List, [], ◌∷◌, ◌++◌, Option, Some, None, refl}
use Rattle.tcap_ber.specs.Reading.{content_so_far_at, next_at, outer_at, some_at}
use Rattle.tcap_ber.specs.HeaderReading.{length_at, opening_at, tag_at}
use Rattle.tcap_msg.specs.declared.kind.Kind.TheVariants as kinds
use Rattle.tcap_record.specs.declared.entry.End.TheVariants.{A}
use Rattle.tcap_model.specs.WorkedItems.{id}
use Rattle.tcap_dialogues.specs.Course.{Heading}
use Rattle.tcap_dialogues.specs.HeadingReading.{heading_at, heading_with}

-- the heading of an entry with a tag that no message has, with these IDs
abbrev unknown : Option (List ℕ) → Option (List ℕ) → Heading
unknown otid dtid = record { sender = A; kind = None; otid = otid; dtid = dtid; under_way = false; known = false }

-- an originating and a destination transaction ID of one octet
abbrev from : ℕ → List ℕ
from octet = 0x48 ∷ 1 ∷ octet ∷ []

abbrev to : ℕ → List ℕ
to octet = 0x49 ∷ 1 ∷ octet ∷ []

-- The ID of a Begin from 01 is read, though its dialogue portion is cut off.
pub after_the_id : heading_at A (0x62 ∷ 5 ∷ from 1 ++ 0x6B ∷ 9 ∷ []) ≡ heading_with A kinds.Begin (Some (id 1)) None
unfolding some_at next_at opening_at tag_at length_at content_so_far_at
after_the_id = refl

-- Both IDs of a Continue from 01 to 02 are read, though the octets after them are no element.
pub after_both : heading_at A (0x65 ∷ 7 ∷ from 1 ++ to 2 ++ 0xFF ∷ [])
    ≡ heading_with A kinds.Continue (Some (id 1)) (Some (id 2))
unfolding some_at next_at opening_at tag_at length_at content_so_far_at
after_both = refl

-- The ID of a Begin is read, though its length says more than there is.
pub cut : heading_at A (0x62 ∷ 9 ∷ from 1) ≡ heading_with A kinds.Begin (Some (id 1)) None
unfolding some_at next_at opening_at tag_at length_at content_so_far_at
cut = refl

-- The kind is read, though the octets end after the tag.
pub only_tag : heading_at A (0x62 ∷ []) ≡ heading_with A kinds.Begin None None
unfolding some_at next_at opening_at tag_at length_at content_so_far_at
only_tag = refl

-- A Continue without a destination ID has an originating ID.
pub no_destination : heading_at A (0x65 ∷ 3 ∷ from 1) ≡ heading_with A kinds.Continue (Some (id 1)) None
unfolding some_at next_at opening_at tag_at length_at content_so_far_at
no_destination = refl

-- An End with an ID of either sort has both, in any order.
pub in_any_order : heading_at A (0x64 ∷ 6 ∷ to 2 ++ from 1) ≡ heading_with A kinds.End (Some (id 1)) (Some (id 2))
unfolding some_at next_at opening_at tag_at length_at content_so_far_at
in_any_order = refl

-- Five octets are no ID.
pub too_long : heading_at A (0x64 ∷ 7 ∷ 0x49 ∷ 5 ∷ 0 ∷ 0 ∷ 0 ∷ 0 ∷ 1 ∷ []) ≡ heading_with A kinds.End None None
unfolding some_at next_at opening_at tag_at length_at content_so_far_at
too_long = refl

-- An ID may be there twice.
pub same_twice : heading_at A (0x62 ∷ 6 ∷ from 1 ++ from 1) ≡ heading_with A kinds.Begin (Some (id 1)) None
unfolding some_at next_at opening_at tag_at length_at content_so_far_at
same_twice = refl

-- If two originating IDs differ, the destination ID is not read either.
pub two_differ : heading_at A (0x65 ∷ 9 ∷ from 1 ++ to 2 ++ from 3) ≡ heading_with A kinds.Continue None None
unfolding some_at next_at opening_at tag_at length_at content_so_far_at
two_differ = refl

-- Nothing is read after end-of-contents octets.
pub after_ending : heading_at A (0x65 ∷ 8 ∷ from 1 ++ 0 ∷ 0 ∷ to 2) ≡ heading_with A kinds.Continue (Some (id 1)) None
unfolding some_at next_at opening_at tag_at length_at content_so_far_at
after_ending = refl

-- An element of indefinite length that does not end has the IDs that come first.
pub not_ended : heading_at A (0x65 ∷ 0x80 ∷ from 1 ++ to 2) ≡ heading_with A kinds.Continue (Some (id 1)) (Some (id 2))
unfolding some_at next_at opening_at tag_at length_at content_so_far_at outer_at
not_ended = refl

-- A Unidirectional has no ID.
pub none_of_unidirectional : heading_at A (0x61 ∷ 3 ∷ from 1) ≡ heading_with A kinds.Unidirectional None None
unfolding some_at next_at opening_at tag_at length_at content_so_far_at
none_of_unidirectional = refl

-- An element with a tag that no message has may have an ID.
pub no_kind : heading_at A (0x63 ∷ 3 ∷ from 1) ≡ unknown (Some (id 1)) None
unfolding some_at next_at opening_at tag_at length_at content_so_far_at
no_kind = refl

-- No octets have no heading but the sender.
pub no_octets : heading_at A [] ≡ unknown None None
unfolding some_at next_at opening_at tag_at length_at content_so_far_at
no_octets = refl
