-- Worked segments in which transaction IDs are reused.
use Rattle.std.specs.Prelude.{◌≡◌, ℕ, Bool, true, false, List, [], ◌∷◌, ◌++◌, length, map, Some, None, refl}
use Rattle.tcap_msg.specs.declared.kind.Kind.TheVariants as kinds
use Rattle.tcap_record.specs.declared.entry.End.{End as Side}
use Rattle.tcap_record.specs.declared.entry.End.TheVariants.{A, B}
use Rattle.tcap_model.specs.WorkedItems.{id}
use Rattle.tcap_dialogues.specs.Course.{Heading, begins_new, courses_of, courses_so_far}
use Rattle.tcap_dialogues.specs.HeadingReading.{heading_with}
use Rattle.tcap_dialogues.specs.declared.reuse.Reuse.{Reuse}
use Rattle.tcap_dialogues.specs.declared.reuse.Reuse.TheVariants.{Again, Once}

-- the heading of a Begin from this ID
abbrev begin : Side → ℕ → Heading
begin sender from = heading_with sender kinds.Begin (Some (id from)) None

-- the heading of a Continue from one ID to another
abbrev continue : Side → ℕ → ℕ → Heading
continue sender from to = heading_with sender kinds.Continue (Some (id from)) (Some (id to))

-- the heading of an End to this ID
abbrev end : Side → ℕ → Heading
end sender to = heading_with sender kinds.End None (Some (id to))

-- an unreadable entry
abbrev unread : Side → Heading
unread sender = record { sender = sender; kind = None; otid = None; dtid = None; under_way = false; known = false }

-- the heading after the under-way directive
abbrev after_word : Heading → Heading
after_word h = record h { under_way = true }

-- the heading of an entry to an ID from which its owner sent a message in an earlier segment
abbrev known : Heading → Heading
known h = record h { known = true }

-- for each dialogue, the numbers of its entries, and whether an earlier one had one of its IDs
abbrev summary : Reuse → List Heading → List (List ℕ × Bool)
summary reuse hs = map (λ d. (d.numbers, d.again)) (courses_of reuse hs)

-- also, for each dialogue, whether it is unsettled
abbrev doubts : Reuse → List Heading → List (List ℕ × Bool × Bool)
doubts reuse hs = map (λ d. (d.numbers, d.again, d.unsettled)) (courses_of reuse hs)

-- IDs are reused, and linger for so long that none is free by age
abbrev again : Reuse
again = Again 100

-- A begins from 01, B continues from 11, and A ends the dialogue.
abbrev whole : List Heading
whole = begin A 1 ∷ continue B 11 1 ∷ end A 11 ∷ []

-- A begins from 01 again. This is a new dialogue, to which B's next Continue, from 12, belongs.
pub begins_anew : summary again (whole ++ begin A 1 ∷ continue B 12 1 ∷ [])
    ≡ (0 ∷ 1 ∷ 2 ∷ [], false) ∷ (3 ∷ 4 ∷ [], true) ∷ []
begins_anew = refl

-- With `Once`, the second Begin stays in the dialogue.
pub begins_once : summary Once (whole ++ begin A 1 ∷ continue B 12 1 ∷ []) ≡ (0 ∷ 1 ∷ 2 ∷ 3 ∷ 4 ∷ [], false) ∷ []
begins_once = refl

-- It also stays if the dialogue is not over.
pub not_over : summary again (begin A 1 ∷ continue B 11 1 ∷ begin A 1 ∷ []) ≡ (0 ∷ 1 ∷ 2 ∷ [], false) ∷ []
not_over = refl

-- After the second Begin, the other IDs of the first dialogue are free too: an End to 11 is a dialogue alone, with an
-- ID that came again.
pub others_are_free : summary again (whole ++ begin A 1 ∷ end A 11 ∷ [])
    ≡ (0 ∷ 1 ∷ 2 ∷ [], false) ∷ (3 ∷ [], true) ∷ (4 ∷ [], true) ∷ []
others_are_free = refl

-- A later entry to an ID of a dialogue that is over belongs to this dialogue, if no entry has reused its IDs.
pub late : summary again (whole ++ continue B 11 1 ∷ []) ≡ (0 ∷ 1 ∷ 2 ∷ 3 ∷ [], false) ∷ []
late = refl

-- A begins from 02, and B answers from 11, whose dialogue is over: 11 belongs to the new dialogue.
pub accepted_with_it : summary again (whole ++ begin A 2 ∷ continue B 11 2 ∷ [])
    ≡ (0 ∷ 1 ∷ 2 ∷ [], false) ∷ (3 ∷ 4 ∷ [], true) ∷ []
accepted_with_it = refl

-- If B has answered from 12 before, the Continue from 11 joins both dialogues.
pub joins_both : summary again (whole ++ begin A 2 ∷ continue B 12 2 ∷ continue B 11 2 ∷ [])
    ≡ (0 ∷ 1 ∷ 2 ∷ 3 ∷ 4 ∷ 5 ∷ [], false) ∷ []
joins_both = refl

-- With `linger` 1, the IDs are free after one more entry.
pub lingers : summary (Again 1) (whole ++ begin A 2 ∷ end A 11 ∷ [])
    ≡ (0 ∷ 1 ∷ 2 ∷ [], false) ∷ (3 ∷ [], false) ∷ (4 ∷ [], true) ∷ []
lingers = refl

-- With `linger` 2, they are not.
pub lingers_still : summary (Again 2) (whole ++ begin A 2 ∷ end A 11 ∷ [])
    ≡ (3 ∷ [], false) ∷ (0 ∷ 1 ∷ 2 ∷ 4 ∷ [], false) ∷ []
lingers_still = refl

-- If two dialogues are over and are then joined, the first End counts: one entry later the IDs are free.
pub joined_over : summary (Again 4) (begin A 1 ∷ end B 1 ∷ begin A 2 ∷ end B 2 ∷ continue B 11 1
    ∷ continue A 2 11 ∷ end B 1 ∷ [])
    ≡ (2 ∷ 3 ∷ 0 ∷ 1 ∷ 4 ∷ 5 ∷ [], false) ∷ (6 ∷ [], true) ∷ []
joined_over = refl

-- An unreadable entry is a dialogue alone.
pub unread_alone : summary again (begin A 1 ∷ unread B ∷ continue B 11 1 ∷ [])
    ≡ (1 ∷ [], false) ∷ (0 ∷ 2 ∷ [], false) ∷ []
unread_alone = refl

-- ---- IDs from which their owner did not send

-- B ends a dialogue whose other messages are not in the segment. Its ID is free then, though A sent nothing from it:
-- A's Begin from this ID is a new dialogue. It is unsettled, since more of the first dialogue may be in transit.
abbrev only_named : List Heading
only_named = end B 9 ∷ begin A 9 ∷ end B 9 ∷ []

pub never_used : doubts again only_named ≡ (0 ∷ [], false, false) ∷ (1 ∷ 2 ∷ [], true, true) ∷ []
never_used = refl

-- It is not unsettled if the first dialogue began after the under-way directive.
pub never_used_after : doubts again (map after_word only_named)
    ≡ (0 ∷ [], false, false) ∷ (1 ∷ 2 ∷ [], true, false) ∷ []
never_used_after = refl

-- It is unsettled if the directive came later; the third dialogue is not.
pub never_used_before : doubts again (end B 9 ∷ map after_word (begin A 9 ∷ end B 9 ∷ begin A 9 ∷ []))
    ≡ (0 ∷ [], false, false) ∷ (1 ∷ 2 ∷ [], true, true) ∷ (3 ∷ [], true, false) ∷ []
never_used_before = refl

-- The Continue that accepts another Begin frees such an ID too.
pub named_and_accepted : summary again (end A 9 ∷ begin A 1 ∷ continue B 9 1 ∷ [])
    ≡ (0 ∷ [], false) ∷ (1 ∷ 2 ∷ [], true) ∷ []
named_and_accepted = refl

-- ---- dialogues whose Begin is not in the segment

-- A dialogue from 02 is over, and A goes on from 02 with another one, to an ID that no entry has.
abbrev goes_on : Heading → List Heading
goes_on h = begin A 2 ∷ end B 2 ∷ h ∷ end B 2 ∷ []

-- After the under-way directive, this is a new dialogue.
pub under_way : doubts again (map after_word (goes_on (continue A 2 1)))
    ≡ (0 ∷ 1 ∷ [], false, false) ∷ (2 ∷ 3 ∷ [], true, false) ∷ []
under_way = refl

-- Without the directive, the entry belongs to the first dialogue.
pub not_under_way : doubts again (goes_on (continue A 2 1)) ≡ (0 ∷ 1 ∷ 2 ∷ 3 ∷ [], false, false) ∷ []
not_under_way = refl

-- It is a new dialogue if B sent a message from this ID in an earlier segment.
pub known_before : doubts again (goes_on (known (continue A 2 1)))
    ≡ (0 ∷ 1 ∷ [], false, false) ∷ (2 ∷ 3 ∷ [], true, false) ∷ []
known_before = refl

-- With `Once`, the entry belongs to the first dialogue.
pub under_way_once : summary Once (map after_word (goes_on (continue A 2 1))) ≡ (0 ∷ 1 ∷ 2 ∷ 3 ∷ [], false) ∷ []
under_way_once = refl

-- It also does if the first dialogue has no Begin,
pub without_begin : summary again (map after_word (end B 2 ∷ continue A 2 1 ∷ [])) ≡ (0 ∷ 1 ∷ [], false) ∷ []
without_begin = refl

-- if an entry of a live dialogue has the ID,
pub named_live : summary again (map after_word (begin A 2 ∷ continue B 1 2 ∷ end A 1 ∷ continue A 2 1 ∷ []))
    ≡ (0 ∷ 1 ∷ 2 ∷ 3 ∷ [], false) ∷ []
named_live = refl

-- or if an entry of a dialogue that is done has the ID.
pub named_done : summary again (map after_word (begin A 3 ∷ continue B 1 3 ∷ end A 1 ∷ begin A 3 ∷ end B 3
    ∷ continue A 3 1 ∷ []))
    ≡ (0 ∷ 1 ∷ 2 ∷ [], false) ∷ (3 ∷ 4 ∷ 5 ∷ [], true) ∷ []
named_done = refl

-- ---- entries that begin a new dialogue

-- An entry does if it has an ID, and no live dialogue has one of its IDs once IDs are freed.
abbrev begins : List Heading → Heading → Bool
begins hs h = begins_new again (length hs) (courses_so_far again hs) h

pub begins_first : begins [] (begin A 1) ≡ true
begins_first = refl

pub begins_again : begins whole (begin A 1) ≡ true
begins_again = refl

pub begins_not : begins whole (continue B 11 1) ≡ false
begins_not = refl

pub begins_none : begins whole (unread A) ≡ false
begins_none = refl
