-- What can be read of octets that need not be a message (Q.773 4.2.1). The first octet gives the kind of message. The
-- transaction IDs are read from the whole elements of the content, up to the first that is not whole, no matter what
-- kind of message it is. If two IDs of one sort differ, no ID is read.
use Rattle.std.specs.Prelude.{ℕ, zero, suc, Bool, true, false, cond, ◌&&◌, ◌==◌, List, [], ◌∷◌, length, Option, Some, None, option_map, option_and_then, Result, Ok, Err}
use Rattle.std.specs.List.{flat_map, list_all}
use Rattle.std.specs.Str.{bytes_eq}
use Rattle.tcap_ber.specs.declared.fault.Fault.{Fault}
use Rattle.tcap_ber.specs.Span.{Span}
use Rattle.tcap_ber.specs.Reading.{Element, content_so_far_at, is_tag, some_at}
use Rattle.tcap_msg.specs.declared.kind.Kind.{Kind}
use Rattle.tcap_msg.specs.declared.kind.Kind.TheVariants as kinds
use Rattle.tcap_msg.specs.Message.{whole}
use Rattle.tcap_msg.specs.TransactionId.{is_transaction_id}
use Rattle.tcap_record.specs.declared.entry.End.{End as Side}
use Rattle.tcap_dialogues.specs.Course.{Heading}
use Rattle.tcap_dialogues.specs.declared.heading.HeadingView.{HeadingView}

-- the heading with this sender, kind and IDs
abbrev pub heading_with : Side → Kind → Option (List ℕ) → Option (List ℕ) → Heading
heading_with sender kind otid dtid = record {
  sender = sender;
  kind = Some kind;
  otid = otid;
  dtid = dtid;
  under_way = false;
  known = false;
}

-- ---- the kind

-- the kind of message with this tag, if there is one
abbrev pub kind_of_tag : ℕ → Option Kind
kind_of_tag tag =
    cond (tag == 0x61) (Some kinds.Unidirectional)
    (cond (tag == 0x62) (Some kinds.Begin)
    (cond (tag == 0x64) (Some kinds.End)
    (cond (tag == 0x65) (Some kinds.Continue)
    (cond (tag == 0x67) (Some kinds.Abort) None))))

-- the kind of message by the first octet
abbrev pub kind_at : List ℕ → Option Kind
kind_at [] = None
kind_at (tag ∷ more) = kind_of_tag tag

-- ---- the elements of the content

-- the content of the outer element; if that is not whole, all there is of its content
abbrev pub outer_content : List ℕ → Option Span
outer_content octets = by (some_at (whole octets))
  where
    begun : Result (Option Span) Fault → Option Span
    begun (Ok content) = content
    begun (Err f) = None

    by : Result (Element × Span) Fault → Option Span
    by (Ok found) = Some found.0.content
    by (Err f) = begun (content_so_far_at (whole octets))

-- The first element of a window, and the window after it, if the element is whole. End-of-contents octets (tag 00) are
-- no element.
abbrev pub whole_next : Span → Option (Element × Span)
whole_next s = by (some_at s)
  where
    by : Result (Element × Span) Fault → Option (Element × Span)
    by (Ok found) = cond (is_tag 0 found.0.tag) None (Some found)
    by (Err f) = None

-- the element that was found, and those of the window after it
abbrev pub found_first : Option (Element × Span) → (Span → List Element) → List Element
found_first None more = []
found_first (Some found) more = found.0 ∷ more found.1

-- the whole elements at the front of a window, at most n of them
abbrev pub elements_at : ℕ → Span → List Element
elements_at zero s = []
elements_at (suc n) s = found_first (whole_next s) (λ rest. elements_at n rest)

-- the whole elements at the front of a window; there are no more of them than octets
abbrev pub elements_in : Span → List Element
elements_in s = elements_at (length s.octets) s

-- ---- the transaction IDs

-- the transaction ID in an element with this tag, if it is one
abbrev pub id_under : ℕ → Element → List (List ℕ)
id_under tag e = cond (is_tag tag e.tag && is_transaction_id e.content.octets) (e.content.octets ∷ []) []

-- the first of these IDs, if there is one; None if it differs from another
abbrev pub agreed : List (List ℕ) → Option (Option (List ℕ))
agreed [] = Some None
agreed (id ∷ ids) = cond (list_all (bytes_eq id) ids) (Some (Some id)) None

-- The originating and the destination transaction ID in these elements. Neither is read if two of one sort differ.
abbrev pub ids_among : List Element → Option (List ℕ) × Option (List ℕ)
ids_among elements = by (agreed (flat_map (id_under 0x48) elements)) (agreed (flat_map (id_under 0x49) elements))
  where
    by : Option (Option (List ℕ)) → Option (Option (List ℕ)) → Option (List ℕ) × Option (List ℕ)
    by (Some otid) (Some dtid) = (otid, dtid)
    by otids dtids = (None, None)

-- the transaction IDs of an element of this kind with this content; a Unidirectional has none
abbrev pub ids_of : Option Kind → Option Span → Option (List ℕ) × Option (List ℕ)
ids_of kind None = (None, None)
ids_of (Some kinds.Unidirectional) content = (None, None)
ids_of kind (Some content) = ids_among (elements_in content)

-- the heading of these octets
abbrev pub heading_at : Side → List ℕ → Heading
heading_at sender octets = by (ids_of (kind_at octets) (outer_content octets))
  where
    by : Option (List ℕ) × Option (List ℕ) → Heading
    by ids = record {
      sender = sender;
      kind = kind_at octets;
      otid = ids.0;
      dtid = ids.1;
      under_way = false;
      known = false;
    }

-- the heading of a view
abbrev pub heading_read : HeadingView → Heading
heading_read v = record {
  sender = v.sender;
  kind = v.kind;
  otid = option_map (λ id. id.octets.now) v.otid;
  dtid = option_map (λ id. id.octets.now) v.dtid;
  under_way = v.under_way;
  known = v.known;
}
