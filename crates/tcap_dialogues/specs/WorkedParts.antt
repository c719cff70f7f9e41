-- Worked parts: two dialogues of one list, and messages that share an ID or do not.
use Rattle.std.specs.Prelude.{◌≡◌, ℕ, Bool, false, List, [], ◌∷◌, ◌++◌, None, refl, map, ◌==◌, ◌||◌}
use Rattle.tcap_record.specs.declared.entry.End.TheVariants.{A, B}
use Rattle.tcap_msg.specs.declared.message.Message.{Message}
use Rattle.tcap_msg.specs.declared.message.Message.TheVariants.{Begin, Continue}
use Rattle.tcap_model.specs.World.{Item, Sent}
use Rattle.tcap_model.specs.WorkedItems.{answer, begin, end_to, id}
use Rattle.tcap_dialogues.specs.DialoguesOfList.{dialogues_of}
use Rattle.tcap_dialogues.specs.Part.{ShareId, carries, part_of}

-- A's Begin from 03
abbrev pub second_begin : Message
second_begin = Begin (id 3) None None

-- B's Continue from 02 to this ID
abbrev continue_to : ℕ → Message
continue_to octet = Continue (id 2) (id octet) None None

-- two dialogues: A begins from 01 and from 03, and B ends both, the second one first
abbrev pub two_dialogues : List Item
two_dialogues = Sent A (begin None None) ∷ Sent A second_begin ∷ Sent B (end_to 3 None) ∷ Sent B (end_to 1 None) ∷ []

-- the numbers of the messages in the first dialogue
abbrev pub of_first : ℕ → Bool
of_first n = (n == 0) || (n == 3)

-- These messages are the part.
pub first_left : part_of of_first 0 two_dialogues ≡ Sent A (begin None None) ∷ Sent B (end_to 1 None) ∷ []
first_left = refl

-- Each quiet mark is in the part, and has a number.
pub mark_left : part_of (λ n. n == 1) 0 (Item.Quiet ∷ Sent A second_begin ∷ Sent A second_begin ∷ Item.Quiet ∷ [])
    ≡ Item.Quiet ∷ Sent A second_begin ∷ Item.Quiet ∷ []
mark_left = refl

-- B's End to 01 shares A's ID 01 with A's Begin from it.
pub ends_the_first : ShareId A (begin None None) B (end_to 1 None)
ends_the_first = (A, id 1, refl, refl)

-- B's Continue from 02 shares B's ID 02 with A's End to it.
pub ends_the_answered : ShareId B (answer None None) A (end_to 2 None)
ends_the_answered = (B, id 2, refl, refl)

-- A's ID 01 is not an ID of B: B's Begin from 01 does not have it.
pub other_ids : carries A (id 1) B (begin None None) ≡ false
other_ids = refl

-- ---- dialogues

-- The dialogues of the list are these two.
pub two_found : map (λ d. d.numbers) (dialogues_of two_dialogues) ≡ (1 ∷ 2 ∷ []) ∷ (0 ∷ 3 ∷ []) ∷ []
two_found = refl

-- If B uses one ID for both, they are one dialogue.
pub one_found : map (λ d. d.numbers)
    (dialogues_of (two_dialogues ++ Sent B (continue_to 1) ∷ Sent B (continue_to 3) ∷ []))
    ≡ (1 ∷ 2 ∷ 0 ∷ 3 ∷ 4 ∷ 5 ∷ []) ∷ []
one_found = refl
