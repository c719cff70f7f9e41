-- A part of a list of items, and of the messages in transit: numbers, and one more item.
use Rattle.std.proofs.Common.{arith, ◌≡◌, ℕ, zero, suc, ◌+◌, Bool, true, false, cond, List, [], ◌∷◌, ◌++◌, length, take, Some, refl, ap, ◌∙◌}
use Rattle.std.proofs.lemmas.Bool.{or_right}
use Rattle.std.specs.Prelude.{◌&&◌, ◌||◌, slice_get}
use Rattle.std.proofs.Math.Seq.{take-append_seam}
use Rattle.tcap_msg.specs.declared.message.Message.{Message}
use Rattle.tcap_record.specs.declared.entry.End.{End as Side}
use Rattle.tcap_model.specs.World.{Item, MessageInTransit, Sent}
use Rattle.tcap_dialogues.specs.Part.{carries, part_of}

-- ---- numbers

-- from the first number
pub from_zero : (n : ℕ) → 0 + n ≡ n
from_zero n = omega arith

-- from the next number
pub next_number : (n : ℕ) (item : Item) (items : List Item) → (n + 1) + length items ≡ n + length (item ∷ items)
next_number n item items = omega arith

-- ---- a part of a list

-- the part with one more message
part_more : (keeps : ℕ → Bool) (side : Side) (m : Message) (n : ℕ) (items : List Item)
    → part_of keeps n (items ++ Sent side m ∷ [])
    ≡ cond (keeps (n + length items)) (part_of keeps n items ++ Sent side m ∷ []) (part_of keeps n items)
part_more keeps side m n [] = ap (λ k. cond (keeps k) (Sent side m ∷ []) []) at_front
  where
    at_front : n ≡ n + 0
    at_front = omega arith
part_more keeps side m n (Item.Quiet ∷ items) =
    ap (λ more. Item.Quiet ∷ more) (part_more keeps side m (n + 1) items)
    ∙ by (keeps ((n + 1) + length items)) ∙ ap (λ k. cond (keeps k) (Item.Quiet ∷ part_of keeps (n + 1) items ++ Sent side m ∷ [])
    (Item.Quiet ∷ part_of keeps (n + 1) items)) (next_number n Item.Quiet items)
  where
    by : (b : Bool) → (let l : List Item = Item.Quiet ∷ cond b (part_of keeps (n + 1) items ++ Sent side m ∷ []) (part_of keeps (n + 1) items) in l)
        ≡ cond b (Item.Quiet ∷ part_of keeps (n + 1) items ++ Sent side m ∷ []) (Item.Quiet ∷ part_of keeps (n + 1) items)
    by true = refl
    by false = refl
part_more keeps side m n (Sent sender message ∷ items) = by (keeps n) (keeps (n + length (Sent sender message ∷ items)))
    (part_more keeps side m (n + 1) items
    ∙ ap (λ k. cond (keeps k) (part_of keeps (n + 1) items ++ Sent side m ∷ []) (part_of keeps (n + 1) items)) (next_number n (Sent sender message) items))
  where
    by : (b c : Bool) → part_of keeps (n + 1) (items ++ Sent side m ∷ [])
        ≡ cond c (part_of keeps (n + 1) items ++ Sent side m ∷ []) (part_of keeps (n + 1) items)
        → cond b (Sent sender message ∷ part_of keeps (n + 1) (items ++ Sent side m ∷ [])) (part_of keeps (n + 1) (items ++ Sent side m ∷ []))
        ≡ cond c (cond b (Sent sender message ∷ part_of keeps (n + 1) items) (part_of keeps (n + 1) items) ++ Sent side m ∷ [])
        (cond b (Sent sender message ∷ part_of keeps (n + 1) items) (part_of keeps (n + 1) items))
    by true true is = ap (λ more. Sent sender message ∷ more) is
    by true false is = ap (λ more. Sent sender message ∷ more) is
    by false true is = is
    by false false is = is

-- one more message in the part
pub part_kept : (keeps : ℕ → Bool) (side : Side) (m : Message) (items : List Item) → keeps (length items) ≡ true
    → part_of keeps 0 (items ++ Sent side m ∷ []) ≡ part_of keeps 0 items ++ Sent side m ∷ []
part_kept keeps side m items so = part_more keeps side m 0 items
    ∙ ap (λ b. cond b (part_of keeps 0 items ++ Sent side m ∷ []) (part_of keeps 0 items)) (ap keeps (from_zero (length items)) ∙ so)

-- one more message outside the part
pub part_left : (keeps : ℕ → Bool) (side : Side) (m : Message) (items : List Item) → keeps (length items) ≡ false
    → part_of keeps 0 (items ++ Sent side m ∷ []) ≡ part_of keeps 0 items
part_left keeps side m items so = part_more keeps side m 0 items
    ∙ ap (λ b. cond b (part_of keeps 0 items ++ Sent side m ∷ []) (part_of keeps 0 items)) (ap keeps (from_zero (length items)) ∙ so)

-- one more quiet mark
pub part_quiet : (keeps : ℕ → Bool) (n : ℕ) (items : List Item) → part_of keeps n (items ++ Item.Quiet ∷ []) ≡ part_of keeps n items ++ Item.Quiet ∷ []
part_quiet keeps n [] = refl
part_quiet keeps n (Item.Quiet ∷ items) = ap (λ more. Item.Quiet ∷ more) (part_quiet keeps (n + 1) items)
part_quiet keeps n (Sent sender message ∷ items) = by (keeps n) (part_quiet keeps (n + 1) items)
  where
    by : (b : Bool) → part_of keeps (n + 1) (items ++ Item.Quiet ∷ []) ≡ part_of keeps (n + 1) items ++ Item.Quiet ∷ []
        → cond b (Sent sender message ∷ part_of keeps (n + 1) (items ++ Item.Quiet ∷ [])) (part_of keeps (n + 1) (items ++ Item.Quiet ∷ []))
        ≡ cond b (Sent sender message ∷ part_of keeps (n + 1) items) (part_of keeps (n + 1) items) ++ Item.Quiet ∷ []
    by true is = ap (λ more. Sent sender message ∷ more) is
    by false is = is

-- ---- messages in transit

-- the messages in the part, with their new numbers
abbrev pub kept_of : (ℕ → Bool) → (ℕ → ℕ) → List MessageInTransit → List MessageInTransit
kept_of keeps place [] = []
kept_of keeps place (m ∷ more) =
    cond (keeps m.number) (record { number = place m.number; message = m.message } ∷ kept_of keeps place more) (kept_of keeps place more)

-- one more message in the part
pub kept_more : (keeps : ℕ → Bool) (place : ℕ → ℕ) (coming : List MessageInTransit) (m : MessageInTransit) → keeps m.number ≡ true
    → kept_of keeps place (coming ++ m ∷ []) ≡ kept_of keeps place coming ++ record { number = place m.number; message = m.message } ∷ []
kept_more keeps place [] m so = rw so refl
kept_more keeps place (first ∷ coming) m so = by (keeps first.number) (kept_more keeps place coming m so)
  where
    by : (b : Bool) → kept_of keeps place (coming ++ m ∷ []) ≡ kept_of keeps place coming ++ record { number = place m.number; message = m.message } ∷ []
        → cond b (record { number = place first.number; message = first.message } ∷ kept_of keeps place (coming ++ m ∷ []))
        (kept_of keeps place (coming ++ m ∷ []))
        ≡ cond b (record { number = place first.number; message = first.message } ∷ kept_of keeps place coming) (kept_of keeps place coming)
        ++ record { number = place m.number; message = m.message } ∷ []
    by true is = ap (λ more. record { number = place first.number; message = first.message } ∷ more) is
    by false is = is

-- one more message outside the part
pub kept_none : (keeps : ℕ → Bool) (place : ℕ → ℕ) (coming : List MessageInTransit) (m : MessageInTransit) → keeps m.number ≡ false
    → kept_of keeps place (coming ++ m ∷ []) ≡ kept_of keeps place coming
kept_none keeps place [] m so = rw so refl
kept_none keeps place (first ∷ coming) m so =
    ap (λ more. cond (keeps first.number) (record { number = place first.number; message = first.message } ∷ more) more)
    (kept_none keeps place coming m so)

-- ---- places

-- the number of an item in the part
abbrev pub place_of : (ℕ → Bool) → List Item → ℕ → ℕ
place_of keeps all n = length (part_of keeps 0 (take n all))

-- The next number is the length of the part so far.
pub place_next : (keeps : ℕ → Bool) (all sent rest : List Item) → sent ++ rest ≡ all → place_of keeps all (length sent) ≡ length (part_of keeps 0 sent)
place_next keeps all sent rest is = rw (← is, take-append_seam sent rest) refl

-- An item keeps its place if items are appended.
pub get_on : (items rest : List Item) (n : ℕ) (found : Item) → slice_get items n ≡ Some found → slice_get (items ++ rest) n ≡ Some found
get_on [] rest n found is = cc
get_on (first ∷ items) rest zero found is = is
get_on (first ∷ items) rest (suc n) found is = get_on items rest n found is

-- The next item is after those before.
pub get_next : (items rest : List Item) (item : Item) → slice_get ((items ++ item ∷ []) ++ rest) (length items) ≡ Some item
get_next [] rest item = refl
get_next (first ∷ items) rest item = get_next items rest item

-- ---- IDs

-- whether a message in the part has this ID of this end; the first item has number n
abbrev pub is_carried : Side → List ℕ → (ℕ → Bool) → ℕ → List Item → Bool
is_carried end id keeps n [] = false
is_carried end id keeps n (Sent side message ∷ items) = (keeps n && carries end id side message) || is_carried end id keeps (n + 1) items
is_carried end id keeps n (Item.Quiet ∷ items) = is_carried end id keeps (n + 1) items

-- the number of a later item
further : (n i : ℕ) → (n + 1) + i ≡ n + suc i
further n i = omega arith

-- This message has the ID.
pub carried_in : (end : Side) (id : List ℕ) (keeps : ℕ → Bool) (n : ℕ) (items : List Item) (i : ℕ) (side : Side) (m : Message)
    → slice_get items i ≡ Some (Sent side m) → keeps (n + i) ≡ true → carries end id side m ≡ true → is_carried end id keeps n items ≡ true
carried_in end id keeps n [] i side m is so has = cc
carried_in end id keeps n (Item.Quiet ∷ items) zero side m is so has = cc
carried_in end id keeps n (Item.Quiet ∷ items) (suc i) side m is so has =
    carried_in end id keeps (n + 1) items i side m is (rw (further n i) so) has
carried_in end id keeps n (Sent sender message ∷ items) zero side m is so has =
    let same_side : sender ≡ side = cc in
    let same_message : message ≡ m = cc in
    let at_front : n ≡ n + 0 = omega arith in
    rw (same_side, same_message, has, ap keeps at_front ∙ so) refl
carried_in end id keeps n (Sent sender message ∷ items) (suc i) side m is so has =
    let rest = carried_in end id keeps (n + 1) items i side m is (rw (further n i) so) has in
    or_right (keeps n && carries end id sender message) (is_carried end id keeps (n + 1) items) rest

-- a message in the part that has the ID
pub record Carrier (end : Side) (id : List ℕ) (keeps : ℕ → Bool) (n : ℕ) (items : List Item) : Type 0 where
  pub i : ℕ
  pub side : Side
  pub message : Message
  pub listed : slice_get items i ≡ Some (Sent side message)
  pub kept : keeps (n + i) ≡ true
  pub has : carries end id side message ≡ true

-- It is also in a list with one more item before.
carrier_later : (end : Side) (id : List ℕ) (keeps : ℕ → Bool) (n : ℕ) (item : Item) (items : List Item) → Carrier end id keeps (n + 1) items
    → Carrier end id keeps n (item ∷ items)
carrier_later end id keeps n item items c =
    record { i = suc c.i; side = c.side; message = c.message; listed = c.listed; kept = rw (← further n c.i) c.kept; has = c.has }

-- If a message has the ID, this is one.
pub carried_by : (end : Side) (id : List ℕ) (keeps : ℕ → Bool) (n : ℕ) (items : List Item) → is_carried end id keeps n items ≡ true
    → Carrier end id keeps n items
carried_by end id keeps n [] is = cc
carried_by end id keeps n (Item.Quiet ∷ items) is = carrier_later end id keeps n Item.Quiet items (carried_by end id keeps (n + 1) items is)
carried_by end id keeps n (Sent sender m ∷ items) is =
    by (keeps n) refl (carries end id sender m) refl is
    (λ rest. carrier_later end id keeps n (Sent sender m) items (carried_by end id keeps (n + 1) items rest))
  where
    by : (b : Bool) → keeps n ≡ b → (c : Bool) → carries end id sender m ≡ c → ((b && c) || is_carried end id keeps (n + 1) items) ≡ true
        → (is_carried end id keeps (n + 1) items ≡ true → Carrier end id keeps n (Sent sender m ∷ items))
        → Carrier end id keeps n (Sent sender m ∷ items)
    by true so true has is later =
        let at_front : n + 0 ≡ n = omega arith in
        record { i = 0; side = sender; message = m; listed = refl; kept = ap keeps at_front ∙ so; has = has }
    by true so false has is later = later is
    by false so c has is later = later is
