-- Which part of a Begin or Continue is sound, if only its component portion is malformed? A TC user may be given the
-- components before the first that is none (Q.774 3.2.2.2).
use Rattle.std.specs.Prelude.{ℕ, ℤ, zero, suc, Bool, true, false, cond, ◌&&◌, ◌==◌, List, [], ◌∷◌, length, Option, Some, None, Result, Ok, Err}
use Rattle.tcap_ber.specs.declared.fault.Fault.{Fault}
use Rattle.tcap_ber.specs.declared.fault.Reason.TheVariants.{BadSize, UnexpectedTag}
use Rattle.tcap_ber.specs.Span.{Span}
use Rattle.tcap_ber.specs.Reading.{◌>>=◌, Element, end_at, one_of_at, refused_at, required_at, single_at, small_integer_at, some_at, tagged_at, with_body}
use Rattle.tcap_parts.specs.declared.component.Component.{Component}
use Rattle.tcap_parts.specs.Reading.{component_at}
use Rattle.tcap_msg.specs.declared.message.Message.{Message}
use Rattle.tcap_msg.specs.declared.message.Message.TheVariants.{Begin, Continue}
use Rattle.tcap_msg.specs.Message.{whole}
use Rattle.tcap_msg.specs.Reading.{dialogue_portion_at, dtid_at, otid_at}
use Rattle.tcap_dialogues.specs.declared.malformed.SoundPart.{SoundPart}

-- ---- the components

-- the component that was read, and those of the window after it; else none, and the window itself
abbrev pub read_first : Span → Result (Component × Span) Fault → (Span → List Component × Span) → List Component × Span
read_first s (Err f) more = ([], s)
read_first s (Ok found) more = (found.0 ∷ (more found.1).0, (more found.1).1)

-- the components at the front of a window, at most n of them, and the window from the first octets that are none
abbrev pub components_at_most : ℕ → Span → List Component × Span
components_at_most zero s = ([], s)
components_at_most (suc n) s = read_first s (component_at s) (λ rest. components_at_most n rest)

-- the components at the front of a window; there are no more of them than octets
abbrev pub components_before : Span → List Component × Span
components_before s = components_at_most (length s.octets) s

-- the invoke ID in a component: its first element, if that is an INTEGER of one octet (tag 02)
unfoldable pub first_id_at : Element → Result ℤ Fault
first_id_at e = required_at 2 e.content >>= λ first. small_integer_at 1 BadSize first.0

-- the invoke ID of the malformed component at the front, if both elements are whole
abbrev pub invoke_id_at : Span → Option ℤ
invoke_id_at s = by (some_at s >>= λ found. first_id_at found.0)
  where
    by : Result ℤ Fault → Option ℤ
    by (Ok id) = Some id
    by (Err f) = None

-- ---- the message

-- a portion of these components; none if there are none
abbrev pub portion_of : List Component → Option (List Component)
portion_of [] = None
portion_of (c ∷ cs) = Some (c ∷ cs)

-- whether these components are all of a portion
abbrev pub is_portion : List Component × Span → Bool
is_portion ([], rest) = false
is_portion (c ∷ cs, rest) = length rest.octets == 0

-- The component portion of the sound part, and the invoke ID of the malformed component. A component portion that is
-- well formed has no sound part.
abbrev pub sound_components : List Component × Span → Option (Option (List Component) × Option ℤ)
sound_components found = cond (is_portion found) None (Some (portion_of found.0, invoke_id_at found.1))

-- the same, for a component portion that is all of a window
unfoldable pub sound_portion_at : Span → Result (Option (Option (List Component) × Option ℤ)) Fault
sound_portion_at s = required_at 0x6C s >>= λ e. end_at (sound_components (components_before e.0.content)) e.1

-- a message with these parts
abbrev pub sound_with : (Option (List Component) → Message) → Option (Option (List Component) × Option ℤ) → Option SoundPart
sound_with make None = None
sound_with make (Some found) = Some (record { message = make found.0; invoke_id = found.1 })

-- the sound part of a Begin and of a Continue, from its content
unfoldable pub sound_begin_at : Span → Result (Option SoundPart) Fault
sound_begin_at s = do
  otid ← otid_at s
  dialogue ← dialogue_portion_at otid.1
  components ← sound_portion_at dialogue.1
  Ok (sound_with (Begin otid.0 dialogue.0) components)

unfoldable pub sound_continue_at : Span → Result (Option SoundPart) Fault
sound_continue_at s = do
  otid ← otid_at s
  dtid ← dtid_at otid.1
  dialogue ← dialogue_portion_at dtid.1
  components ← sound_portion_at dialogue.1
  Ok (sound_with (Continue otid.0 dtid.0 dialogue.0) components)

-- the sound part of an element, by its tag
abbrev pub sound_of_element : Element → Result (Option SoundPart) Fault
sound_of_element =
    tagged_at 0x62 (λ e. sound_begin_at e.content)
    (tagged_at 0x65 (λ e. sound_continue_at e.content)
    (refused_at UnexpectedTag))

-- the sound part of octets that are one element
unfoldable pub sound_in : Span → Result (Option SoundPart) Fault
sound_in s = single_at (one_of_at sound_of_element) s

-- the sound part of these octets, if they have one
abbrev pub sound_part_of : List ℕ → Option SoundPart
sound_part_of octets = by (sound_in (whole octets))
  where
    by : Result (Option SoundPart) Fault → Option SoundPart
    by (Ok sound) = sound
    by (Err f) = None
