-- What does a checker keep of the entries that it took? It keeps who sent each, and the IDs of those that listed events
-- name.
use Rattle.std.specs.Prelude.{ℕ, ◌+◌, ℤ, Bool, true, false, List, [], ◌∷◌, map, slice_get, Option, Some, None, ◌==◌, ◌||◌, nat_lt, cond, option_map}
use Rattle.std.specs.List.{list_any}
use Rattle.tcap_msg.specs.declared.message.Message.{Message}
use Rattle.tcap_msg.specs.declared.message.Message.TheVariants.{Begin}
use Rattle.tcap_msg.specs.Parts.{components_in, otid_in}
use Rattle.tcap_end.specs.declared.half.HalfName.{HalfName}
use Rattle.tcap_end.specs.declared.half.HalfName.TheVariants as names
use Rattle.tcap_model.specs.World.{Item, Sent, is_side}
use Rattle.tcap_model.specs.Run.{option_then, only_if}
use Rattle.tcap_check.specs.NamedMessage.{MessageNote}
use Rattle.tcap_certificate.specs.declared.certificate.Closing.{Closing}
use Rattle.tcap_certificate.specs.declared.certificate.Expiry.{Expiry}
use Rattle.tcap_check.specs.declared.outline.Outline.{Outline}
use Rattle.tcap_check.specs.declared.outline.Outline.TheVariants as outlines
use Rattle.tcap_certificate.specs.Certificate.{Certificate}
use Rattle.tcap_certificate.specs.DescribedRun.{half_begun, invoke_id}

-- whether a message is a Begin
abbrev pub begins : Message → Bool
begins (Begin otid dialogue components) = true
begins _ = false

-- what a listed event may name of a message that has an originating ID
abbrev pub note_of : Message → Option MessageNote
note_of message = option_map
    (λ otid. record { begins = begins message; otid = otid; invokes = map invoke_id (components_in message) })
    (otid_in message)

-- what is kept of an entry; its IDs are kept only if a listed event names the entry
abbrev pub outline_of : Bool → Item → Outline
outline_of named (Sent side message) = outlines.Sent side (cond named (note_of message) None)
outline_of named Item.Quiet = outlines.Mark

-- whether a listed event names this entry
abbrev pub is_named : Certificate → ℕ → Bool
is_named c entry = list_any (λ x. x.entry == entry) c.close || list_any (λ x. x.entry == entry) c.expire

-- what is kept of these entries; the first has this number
abbrev pub outlines_from : Certificate → ℕ → List Item → List Outline
outlines_from c number [] = []
outlines_from c number (item ∷ items) = outline_of (is_named c number) item ∷ outlines_from c (number + 1) items

-- the number of the entry after the last quiet mark; the first of these items has number n
abbrev pub since_from : ℕ → ℕ → List Item → ℕ
since_from since n [] = since
since_from since n (Sent side message ∷ items) = since_from since (n + 1) items
since_from since n (Item.Quiet ∷ items) = since_from (n + 1) (n + 1) items

-- ---- what a listed event names

-- the entry with this number, or None if a quiet mark comes after it
abbrev pub outline_named : List Outline → ℕ → ℕ → Option Outline
outline_named entries since entry = cond (nat_lt entry since) None (slice_get entries entry)

-- the half that a closing closes, if the closing names this entry
abbrev pub half_closed_by : Closing → Outline → Option HalfName
half_closed_by x (outlines.Sent sender (Some note)) = only_if note.begins (Some (half_begun x.side sender note.otid))
half_closed_by x _ = None

-- the half that a closing closes, found among the entries that were taken
abbrev pub half_closed : List Outline → ℕ → Closing → Option HalfName
half_closed entries since x = option_then (outline_named entries since x.entry) (half_closed_by x)

-- the invocation that an expiry ends, if the expiry names this entry: its half, by its own ID, and its invoke ID
abbrev pub invocation_ended_by : Expiry → Outline → Option (HalfName × ℤ)
invocation_ended_by x (outlines.Sent sender (Some note)) =
    only_if (is_side x.side sender)
    (option_then (option_then (slice_get note.invokes x.component) (λ id. id)) (λ id. Some (names.Own note.otid, id)))
invocation_ended_by x _ = None

-- the invocation that an expiry ends, found among the entries that were taken
abbrev pub invocation_ended : List Outline → ℕ → Expiry → Option (HalfName × ℤ)
invocation_ended entries since x = option_then (outline_named entries since x.entry) (invocation_ended_by x)
