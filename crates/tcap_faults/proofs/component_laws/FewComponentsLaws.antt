-- What a half heard, sent and invoked has at most as many components as the items.
use Rattle.std.proofs.Common.{◌≡◌, ℕ, ◌+◌, ◌*◌, ◌≤◌, ◌<◌, ◌^◌, arith, Bool, true, false, cond, ◌&&◌, List, [], ◌∷◌, ◌++◌, length, filter, Option, Some, None, refl}
use Rattle.std.specs.Prelude.{is_none}
use Rattle.std.specs.List.{find}
use Rattle.std.specs.Option.{option_to_list}
use Rattle.std.proofs.lemmas.List.{length-append}
use Rattle.tcap_msg.specs.declared.kind.Kind.TheVariants as forms
use Rattle.tcap_msg.specs.declared.message.Message.{Message}
use Rattle.tcap_msg.specs.declared.message.Message.TheVariants.{Unidirectional, Begin, Continue, End as EndMessage, Abort}
use Rattle.tcap_msg.specs.Parts.{cause_in, components_in, dtid_in, otid_in}
use Rattle.tcap_record.specs.declared.entry.End.{End as Side}
use Rattle.tcap_record.specs.declared.entry.End.TheVariants as sides
use Rattle.tcap_end.specs.End.{is_id}
use Rattle.tcap_record.specs.Ends.{other}
use Rattle.tcap_model.specs.World.{Item, Sent, has_quiet}
use Rattle.tcap_refute.specs.EarlierMessages.{peer_sent_from, components_of, has_a, is_a, sent_by, since_quiet}
use Rattle.tcap_faults.specs.SentToId.{begin_from, is_continue_to, is_request_of, is_outgoing_to, outgoing}
use Rattle.tcap_faults.specs.HalfByPeerId.{answered_from, begun_from, continued_to, from_first, half_by, half_of, incoming_continues, responds}
use Rattle.tcap_faults.specs.SearchState.{AreCounted, AreRoomy, components_in_all}
use Rattle.tcap_faults.specs.InvokeCounts.{AreFew}

-- The number of components of messages.
abbrev weight : List Message → ℕ
weight ms = length (components_of ms)

weight_more : (m : Message) (ms : List Message) → weight (m ∷ ms) ≡ length (components_in m) + weight ms
weight_more m ms = length-append (components_in m) (components_of ms)

weight_both : (xs ys : List Message) → weight (xs ++ ys) ≡ weight xs + weight ys
weight_both [] ys = omega arith
weight_both (x ∷ xs) ys =
    let e = weight_more x (xs ++ ys) in let f = weight_both xs ys in let g = weight_more x xs in omega arith

-- Two disjoint parts of messages have at most the components of all.
apart : (p q : Message → Bool) (xs : List Message) → ((m : Message) → p m ≡ true → q m ≡ true → ⊥)
    → weight (filter p xs) + weight (filter q xs) ≤ weight xs
apart p q [] never = omega arith
apart p q (x ∷ xs) never =
    grind (arith, apart p q xs never, weight_more x (filter p xs), weight_more x xs, weight_more x (filter q xs))

part : (p : Message → Bool) (xs : List Message) → weight (filter p xs) ≤ weight xs
part p xs = let e = apart p (λ m. false) xs (λ m is other. cc) in omega (arith, e)

first_part : (p : Message → Bool) (xs : List Message) → weight (option_to_list (find p xs)) ≤ weight (filter p xs)
first_part p [] = omega arith
first_part p (x ∷ xs) = grind (arith, first_part p xs, weight_more x (filter p xs), weight_more x [])

-- ---- what an end sent

sent_items : (side : Side) (items : List Item) → weight (sent_by side items) + weight (sent_by (other side) items) ≤ components_in_all items
sent_items side [] = omega arith
sent_items sides.A (Sent sides.A m ∷ items) =
    let e = weight_more m (sent_by sides.A items) in let f = sent_items sides.A items in omega arith
sent_items sides.A (Sent sides.B m ∷ items) =
    let e = weight_more m (sent_by sides.B items) in let f = sent_items sides.A items in omega arith
sent_items sides.B (Sent sides.A m ∷ items) =
    let e = weight_more m (sent_by sides.A items) in let f = sent_items sides.B items in omega arith
sent_items sides.B (Sent sides.B m ∷ items) =
    let e = weight_more m (sent_by sides.B items) in let f = sent_items sides.B items in omega arith
sent_items sides.A (Item.Quiet ∷ items) = sent_items sides.A items
sent_items sides.B (Item.Quiet ∷ items) = sent_items sides.B items

sent_few : (side : Side) (items : List Item) → weight (sent_by side items) ≤ components_in_all items
sent_few side items = let e = sent_items side items in omega arith

asked_few : (side : Side) (id : List ℕ) (items : List Item) → weight (peer_sent_from side id items) ≤ components_in_all items
asked_few side id items =
    let e = part (λ m. is_id id (otid_in m)) (sent_by (other side) items) in
    let f = sent_few (other side) items in omega arith

outgoing_few : (side : Side) (id : List ℕ) (items : List Item) → weight (outgoing side id items) ≤ components_in_all items
outgoing_few side id items =
    let e = part (λ m. is_id id (dtid_in m) && is_none (cause_in m)) (sent_by side items) in
    let f = sent_few side items in omega arith

-- ---- own invocations

-- The Begin from the own ID is not among what was sent to the peer.
abbrev is_begin_from : List ℕ → Message → Bool
is_begin_from own m = is_a forms.Begin m && is_id own (otid_in m)

no_both : (own id : List ℕ) (m : Message) → is_begin_from own m ≡ true → is_outgoing_to id m ≡ true → ⊥
no_both own id m is outgoing = grind (arith, is, outgoing)

begun_invoked : (side : Side) (id : List ℕ) (items : List Item) (own : List ℕ)
    → weight (option_to_list (begin_from side own items) ++ outgoing side id items) ≤ components_in_all items
begun_invoked side id items own =
    let a = weight_both (option_to_list (begin_from side own items)) (outgoing side id items) in
    let c = first_part (is_begin_from own) (sent_by side items) in
    let d = apart (is_begin_from own) (is_outgoing_to id) (sent_by side items) (no_both own id) in
    let e = sent_few side items in
    omega arith

-- ---- what was heard

begin_or_on : (own : List ℕ) (m : Message) → is_a forms.Begin m ≡ true → is_continue_to own m ≡ true → ⊥
begin_or_on own m is goes = grind (arith, is, goes)

accepted_incoming : (side : Side) (id : List ℕ) (items : List Item) (own : Option (List ℕ))
    → weight (option_to_list (find (is_a forms.Begin) (peer_sent_from side id items)) ++ continued_to side items id own)
    ≤ components_in_all items
accepted_incoming side id items None =
    let a = weight_both (option_to_list (find (is_a forms.Begin) (peer_sent_from side id items))) [] in
    let b = first_part (is_a forms.Begin) (peer_sent_from side id items) in
    let c = part (is_a forms.Begin) (peer_sent_from side id items) in
    let d = asked_few side id items in
    omega arith
accepted_incoming side id items (Some own) =
    let a = weight_both (option_to_list (find (is_a forms.Begin) (peer_sent_from side id items)))
    (filter (is_continue_to own) (peer_sent_from side id items)) in
    let b = first_part (is_a forms.Begin) (peer_sent_from side id items) in
    let c = apart (is_a forms.Begin) (is_continue_to own) (peer_sent_from side id items) (begin_or_on own) in
    let d = asked_few side id items in
    omega arith

from_part : (p : Message → Bool) (xs : List Message) → weight (from_first p xs) ≤ weight xs
from_part p [] = omega arith
from_part p (x ∷ xs) = grind (arith, from_part p xs, weight_more x xs)

incoming_part : (begin : Option Message) (xs : List Message) → weight (incoming_continues begin xs) ≤ weight xs
incoming_part begin xs = by (is_request_of begin)
  where
    by : (b : Bool) → weight (cond b (from_first responds xs) xs) ≤ weight xs
    by true = from_part responds xs
    by false = omega arith

begun_incoming : (side : Side) (id : List ℕ) (items : List Item) (own : List ℕ)
    → weight (incoming_continues (begin_from side own items) (continued_to side items id (Some own))) ≤ components_in_all items
begun_incoming side id items own =
    let a = incoming_part (begin_from side own items) (filter (is_continue_to own) (peer_sent_from side id items)) in
    let b = part (is_continue_to own) (peer_sent_from side id items) in
    let c = asked_few side id items in
    omega arith

-- ---- a half

module _ (side : Side) (items : List Item) (id : List ℕ) where
  incoming_by : (begun : Bool) (own : Option (List ℕ)) → length (half_by side items id begun own).incoming ≤ components_in_all items
  incoming_by true own = accepted_incoming side id items (answered_from side items id)
  incoming_by false None = omega arith
  incoming_by false (Some own) = begun_incoming side id items own

  outgoing_by : (begun : Bool) (own : Option (List ℕ)) → length (half_by side items id begun own).outgoing ≤ components_in_all items
  outgoing_by true own = outgoing_few side id items
  outgoing_by false None = omega arith
  outgoing_by false (Some own) = outgoing_few side id items

  invoked_by : (begun : Bool) (own : Option (List ℕ))
      → length (half_by side items id begun own).invoked ≤ components_in_all items
  invoked_by true own = outgoing_few side id items
  invoked_by false None = omega arith
  invoked_by false (Some own) = begun_invoked side id items own

  incoming_few : length (half_of side items id).incoming ≤ components_in_all items
  incoming_few = incoming_by (has_a forms.Begin (peer_sent_from side id items)) (begun_from side items id)

  half_outgoing : length (half_of side items id).outgoing ≤ components_in_all items
  half_outgoing = outgoing_by (has_a forms.Begin (peer_sent_from side id items)) (begun_from side items id)

  invoked_few : length (half_of side items id).invoked ≤ components_in_all items
  invoked_few = invoked_by (has_a forms.Begin (peer_sent_from side id items)) (begun_from side items id)

-- ---- one item after the other

in_all : (items : List Item) (item : Item)
    → components_in_all (items ++ item ∷ []) ≡ components_in_all items + components_in_all (item ∷ [])
in_all [] item = omega arith
in_all (Sent side m ∷ items) item = let e = in_all items item in omega (arith, e)
in_all (Item.Quiet ∷ items) item = in_all items item

pub all_more : (items : List Item) (side : Side) (m : Message)
    → components_in_all (items ++ Sent side m ∷ []) ≡ components_in_all items + length (components_in m)
all_more items side m = let e = in_all items (Sent side m) in omega (arith, e)

pub none_counted : AreCounted [] 0
none_counted = record { few = omega arith; components = omega arith }

-- An entry that is no item adds none.
pub still_counted : (items : List Item) (number : ℕ) → AreCounted items number → AreCounted items (number + 1)
still_counted items number are =
    let a = are.few in
    let b = are.components in
    record { few = omega (arith, a); components = omega (arith, b) }

module _ (items : List Item) (number : ℕ) (are : AreCounted items number) (item : Item) (count : ℕ)
    (counted : components_in_all (item ∷ []) ≤ count) (small : count < 2 ^ 63) where
  pub more_counted : AreCounted (items ++ item ∷ []) (number + 1)
  more_counted =
      let a = are.few in
      let b = are.components in
      let c = length-append items (item ∷ []) in
      let d = in_all items item in
      record { few = omega (arith, a, c); components = omega (arith, b, d, counted, small) }

  pub counted_roomy : number < 2 ^ 63 → AreRoomy (items ++ item ∷ [])
  counted_roomy few =
      let a = are.few in
      let b = are.components in
      let c = length-append items (item ∷ []) in
      let d = in_all items item in
      record {
        few = omega (arith, a, c, few);
        components = bound number (components_in_all items) (components_in_all (item ∷ [])) _ few b
            (omega (arith, counted, small)) d;
      }
    where
      bound : (number a b all : ℕ) → number < 2 ^ 63 → a ≤ number * 2 ^ 63 → b < 2 ^ 63 → all ≡ a + b → all ≤ 2 ^ 126
      bound number a b all few is_a is_b is = omega (arith, few, is_a, is_b, is)

-- ---- the components of a half

module _ (side : Side) (id : List ℕ) (items : List Item) (m : Message) (roomy : AreRoomy (items ++ Sent side m ∷ [])) where
  all_items : components_in_all items + length (components_in m) ≤ 2 ^ 126
  all_items = let a = roomy.components in let b = all_more items side m in omega (arith, a, b)

  pub incoming_are_few : AreFew (half_of side items id).incoming
  incoming_are_few = let a = all_items in let b = incoming_few side items id in omega (arith, a, b)

  pub invoked_are_few : AreFew (half_of side items id).invoked
  invoked_are_few = let a = all_items in let b = invoked_few side items id in omega (arith, a, b)

  pub outgoing_are_few : AreFew ((half_of side items id).outgoing ++ components_in m)
  outgoing_are_few =
      let a = all_items in
      let b = half_outgoing side items id in
      let c = length-append (half_of side items id).outgoing (components_in m) in
      omega (arith, a, b, c)

-- ---- since the last quiet mark

since_few : (items : List Item) → components_in_all (since_quiet items) ≤ components_in_all items
since_few [] = omega arith
since_few (item ∷ items) = grind (arith, since_few items)

since_short : (items : List Item) → length (since_quiet items) ≤ length items
since_short [] = omega arith
since_short (item ∷ items) = grind (arith, since_short items)

-- Few items are few since the last quiet mark.
pub still_roomy : (side : Side) (items : List Item) (m : Message) → AreRoomy (items ++ Sent side m ∷ [])
    → AreRoomy (since_quiet items ++ Sent side m ∷ [])
still_roomy side items m roomy =
    let a = since_few items in
    let b = since_short items in
    let c = all_more items side m in
    let d = all_more (since_quiet items) side m in
    let e = length-append items (Sent side m ∷ []) in
    let f = length-append (since_quiet items) (Sent side m ∷ []) in
    let g = roomy.few in
    let h = roomy.components in
    record { few = omega (arith, a, b, e, f, g); components = omega (arith, a, c, d, h) }
