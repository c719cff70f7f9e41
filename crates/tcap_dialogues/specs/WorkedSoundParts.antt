-- Worked octets whose component portion is malformed, and their sound parts.
use Rattle.std.specs.Prelude.{◌≡◌, ℕ, ℤ, pos, true, List, [], ◌∷◌, ◌++◌, Option, Some, None, refl}
use Rattle.tcap_ber.specs.Reading.{integer_at, next_at, required_at, small_integer_at, some_at}
use Rattle.tcap_ber.specs.HeaderReading.{length_at, opening_at, tag_at}
use Rattle.tcap_parts.specs.declared.component.Component.{Component}
use Rattle.tcap_parts.specs.declared.component.Component.TheVariants.{ReturnResult}
use Rattle.tcap_parts.specs.Reading.{code_at, component_at, invoke_at, invoke_id_at, linked_id_at, optional_body_at, return_result_at}
use Rattle.tcap_msg.specs.declared.message.Message.TheVariants.{Begin, Continue}
use Rattle.tcap_msg.specs.Reading.{dialogue_portion_at, dtid_at, otid_at}
use Rattle.tcap_msg.specs.TransactionId.{transaction_id_of}
use Rattle.tcap_model.specs.WorkedItems.{id}
use Rattle.tcap_dialogues.specs.declared.malformed.SoundPart.{SoundPart}
use Rattle.tcap_dialogues.specs.SoundPart.{first_id_at, sound_begin_at, sound_continue_at, sound_in, sound_part_of, sound_portion_at}

-- a Begin from 01 with these components
abbrev begin : Option (List Component) → Option ℤ → Option SoundPart
begin components invoke_id = Some (record { message = Begin (id 1) None components; invoke_id = invoke_id })

-- A component portion without content has no sound component.
pub empty : sound_part_of (0x62 ∷ 5 ∷ 0x48 ∷ 1 ∷ 1 ∷ 0x6C ∷ 0 ∷ []) ≡ begin None None
unfolding sound_in some_at next_at opening_at tag_at length_at sound_begin_at sound_continue_at otid_at dtid_at required_at transaction_id_of dialogue_portion_at sound_portion_at component_at invoke_at invoke_id_at linked_id_at code_at return_result_at optional_body_at first_id_at small_integer_at integer_at
empty = refl

-- An Invoke without an operation code: its invoke ID is 7.
pub no_code : sound_part_of (0x62 ∷ 10 ∷ 0x48 ∷ 1 ∷ 1 ∷ 0x6C ∷ 5 ∷ 0xA1 ∷ 3 ∷ 2 ∷ 1 ∷ 7 ∷ []) ≡ begin None (Some (pos 7))
unfolding sound_in some_at next_at opening_at tag_at length_at sound_begin_at sound_continue_at otid_at dtid_at required_at transaction_id_of dialogue_portion_at sound_portion_at component_at invoke_at invoke_id_at linked_id_at code_at return_result_at optional_body_at first_id_at small_integer_at integer_at
no_code = refl

-- A component whose tag no component has, after a Return Result to 1.
pub after_a_result : sound_part_of (0x65 ∷ 17 ∷ 0x48 ∷ 1 ∷ 1 ∷ 0x49 ∷ 1 ∷ 2 ∷ 0x6C ∷ 9 ∷ 0xA2 ∷ 3 ∷ 2 ∷ 1 ∷ 1 ∷ 0xAF ∷ 2 ∷ 4 ∷ 0 ∷ [])
    ≡ Some (record {
      message = Continue (id 1) (id 2) None (Some (ReturnResult true (pos 1) None ∷ []));
      invoke_id = None;
    })
unfolding sound_in some_at next_at opening_at tag_at length_at sound_begin_at sound_continue_at otid_at dtid_at required_at transaction_id_of dialogue_portion_at sound_portion_at component_at invoke_at invoke_id_at linked_id_at code_at return_result_at optional_body_at first_id_at small_integer_at integer_at
after_a_result = refl

-- A message has none, and neither have octets with more after them, or an End.
pub message : sound_part_of (0x62 ∷ 10 ∷ 0x48 ∷ 1 ∷ 1 ∷ 0x6C ∷ 5 ∷ 0xA2 ∷ 3 ∷ 2 ∷ 1 ∷ 1 ∷ []) ≡ None
unfolding sound_in some_at next_at opening_at tag_at length_at sound_begin_at sound_continue_at otid_at dtid_at required_at transaction_id_of dialogue_portion_at sound_portion_at component_at invoke_at invoke_id_at linked_id_at code_at return_result_at optional_body_at first_id_at small_integer_at integer_at
message = refl

pub more_after_it : sound_part_of (0x62 ∷ 5 ∷ 0x48 ∷ 1 ∷ 1 ∷ 0x6C ∷ 0 ∷ 0 ∷ []) ≡ None
unfolding sound_in some_at next_at opening_at tag_at length_at sound_begin_at sound_continue_at otid_at dtid_at required_at transaction_id_of dialogue_portion_at sound_portion_at component_at invoke_at invoke_id_at linked_id_at code_at return_result_at optional_body_at first_id_at small_integer_at integer_at
more_after_it = refl

pub of_an_end : sound_part_of (0x64 ∷ 5 ∷ 0x49 ∷ 1 ∷ 1 ∷ 0x6C ∷ 0 ∷ []) ≡ None
unfolding sound_in some_at next_at opening_at tag_at length_at sound_begin_at sound_continue_at otid_at dtid_at required_at transaction_id_of dialogue_portion_at sound_portion_at component_at invoke_at invoke_id_at linked_id_at code_at return_result_at optional_body_at first_id_at small_integer_at integer_at
of_an_end = refl
