-- Are the transaction IDs of octets in the places that they have in a message of their kind (Q.773 4.2.1)? The octets
-- need not be a message.
use Rattle.std.specs.Prelude.{ℕ, Bool, true, false, cond, ◌&&◌, List, Option, Some, None, is_none, is_some, option_map, option_and_then}
use Rattle.tcap_ber.specs.Span.{Span}
use Rattle.tcap_ber.specs.Reading.{Element, is_tag}
use Rattle.tcap_msg.specs.declared.kind.Kind.{Kind}
use Rattle.tcap_msg.specs.declared.kind.Kind.TheVariants as kinds
use Rattle.tcap_msg.specs.TransactionId.{is_transaction_id}
use Rattle.tcap_dialogues.specs.HeadingReading.{ids_of, kind_at, outer_content, whole_next}

-- whether an element is a transaction ID with this tag
abbrev pub is_id_under : ℕ → Element → Bool
is_id_under tag e = is_tag tag e.tag && is_transaction_id e.content.octets

-- the window after the transaction ID with this tag, if a window begins with one
abbrev pub after_id : ℕ → Span → Option Span
after_id tag s = by (whole_next s)
  where
    by : Option (Element × Span) → Option Span
    by None = None
    by (Some found) = cond (is_id_under tag found.0) (Some found.1) None

-- the window after the IDs of a message of this kind, if a window begins with them
abbrev pub after_ids : Option Kind → Span → Option Span
after_ids (Some kinds.Begin) s = after_id 0x48 s
after_ids (Some kinds.Continue) s = option_and_then (after_id 0x49) (after_id 0x48 s)
after_ids (Some kinds.End) s = after_id 0x49 s
after_ids (Some kinds.Abort) s = after_id 0x49 s
after_ids kind s = None

-- whether these IDs are of the sorts that a message of this kind has, and of no other
abbrev pub are_its_ids : Option Kind → Option (List ℕ) × Option (List ℕ) → Bool
are_its_ids (Some kinds.Begin) ids = is_some ids.0 && is_none ids.1
are_its_ids (Some kinds.Continue) ids = is_some ids.0 && is_some ids.1
are_its_ids (Some kinds.End) ids = is_none ids.0 && is_some ids.1
are_its_ids (Some kinds.Abort) ids = is_none ids.0 && is_some ids.1
are_its_ids kind ids = false

-- the window after the IDs of octets of this kind, if the IDs are in place
abbrev pub after_placed : Option Kind → Option Span → Option Span
after_placed kind None = None
after_placed kind (Some content) = cond (are_its_ids kind (ids_of kind (Some content))) (after_ids kind content) None

-- whether the first whole element of a window is a dialogue portion (tag 6B)
abbrev pub has_dialogue : Span → Bool
has_dialogue s = by (whole_next s)
  where
    by : Option (Element × Span) → Bool
    by None = false
    by (Some found) = is_tag 0x6B found.0.tag

-- whether a dialogue portion follows the IDs of these octets; None if the IDs are not in place
abbrev pub dialogue_after_ids : List ℕ → Option Bool
dialogue_after_ids octets = option_map has_dialogue (after_placed (kind_at octets) (outer_content octets))
