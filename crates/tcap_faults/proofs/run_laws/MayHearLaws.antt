-- What a half may have heard grows with the messages that are no longer on their way, and with what its own end
-- sends.
use Rattle.std.proofs.Common.{◌≡◌, ◌≤◌, ◌+◌, arith, ℕ, Bool, true, false, cond, List, [], ◌∷◌, ◌++◌, Option, Some, None, refl, sym, ap, subst, ◌∙◌}
use Rattle.std.specs.Prelude.{filter}
use Rattle.std.proofs.lemmas.Grind.{flat_map-append}
use Rattle.std.proofs.lemmas.List.{append-nil}
use Rattle.std.proofs.lemmas.List.Elements.{filter-append}
use Rattle.tcap_parts.specs.declared.component.Component.{Component}
use Rattle.tcap_msg.specs.declared.kind.Kind.TheVariants as forms
use Rattle.tcap_msg.specs.declared.message.Message.{Message}
use Rattle.tcap_msg.specs.Parts.{components_in, otid_in}
use Rattle.tcap_record.specs.declared.entry.End.{End as Side}
use Rattle.tcap_end.specs.declared.half.Slot.{Slot}
use Rattle.tcap_end.specs.declared.half.Slot.TheVariants.{Begun, Accepted}
use Rattle.tcap_end.specs.End.{is_id}
use Rattle.tcap_model.specs.World.{Item}
use Rattle.tcap_refute.specs.EarlierMessages.{components_of, is_a}
use Rattle.tcap_model.specs.SinceMark.{is_begin_with_request}
use Rattle.tcap_faults.specs.Counts.{count}
use Rattle.tcap_faults.specs.HalfByPeerId.{from_first, responds}
use Rattle.tcap_faults.specs.SentToId.{begin_from, is_continue_to}
use Rattle.tcap_faults.proofs.story_laws.Stories.{continues_to, from, incoming_behind, may_have_incoming}
use Rattle.tcap_faults.proofs.list_laws.CountLaws.{count_both}

-- ---- counts

-- The number of components of these messages that pass a test.
abbrev pub count_in : (Component → Bool) → List Message → ℕ
count_in p messages = count p (components_of messages)

pub count_in_append : (p : Component → Bool) (xs ys : List Message)
    → count_in p (xs ++ ys) ≡ count_in p xs + count_in p ys
count_in_append p xs ys =
    ap (count p) (flat_map-append components_in xs ys) ∙ count_both p (components_of xs) (components_of ys)

pub count_in_first : (p : Component → Bool) (m : Message) (xs : List Message)
    → count_in p (m ∷ xs) ≡ count p (components_in m) + count_in p xs
count_in_first p m xs = count_both p (components_in m) (components_of xs)

pub count_in_one : (p : Component → Bool) (m : Message) → count_in p (m ∷ []) ≡ count p (components_in m)
count_in_one p m = ap (count p) (append-nil (components_in m))

-- The first messages have at most the components of the second, of every sort.
abbrev pub HaveNoMore : List Message → List Message → Type 0
HaveNoMore xs ys = (p : Component → Bool) → count_in p xs ≤ count_in p ys

pub no_more_self : (xs : List Message) → HaveNoMore xs xs
no_more_self xs p = omega arith

no_more_than_all : (xs ys : List Message) → HaveNoMore xs (xs ++ ys)
no_more_than_all xs ys p = let all = count_in_append p xs ys in omega arith

no_more_both : (xs ys us vs : List Message) → HaveNoMore xs ys → HaveNoMore us vs → HaveNoMore (xs ++ us) (ys ++ vs)
no_more_both xs ys us vs first second p =
    let here = first p in
    let there = second p in
    let left = count_in_append p xs us in
    let right = count_in_append p ys vs in omega arith

-- ---- what is heard

-- The end keeps its Begins.
abbrev pub KeepsBegins : Side → List Item → List Item → Type 0
KeepsBegins side items later =
    (own : List ℕ) (begin : Message) → begin_from side own items ≡ Some begin → begin_from side own later ≡ Some begin

-- More messages have more components from the first that passes on.
first_grows : (p : Message → Bool) (xs ys : List Message) → HaveNoMore (from_first p xs) (from_first p (xs ++ ys))
first_grows p [] ys = λ c. omega arith
first_grows p (x ∷ xs) ys = by (p x) (first_grows p xs ys)
  where
    by : (b : Bool) → HaveNoMore (from_first p xs) (from_first p (xs ++ ys))
        → HaveNoMore (cond b (x ∷ xs) (from_first p xs)) (cond b (x ∷ xs ++ ys) (from_first p (xs ++ ys)))
    by true rest = no_more_than_all (x ∷ xs) ys
    by false rest = rest

-- More Continues have more that is heard, with any Begin.
behind_grows : (begin : Option Message) (xs ys : List Message)
    → HaveNoMore (incoming_behind begin xs) (incoming_behind begin (xs ++ ys))
behind_grows None xs ys = no_more_self []
behind_grows (Some begin) xs ys = by (is_begin_with_request begin)
  where
    by : (b : Bool) → HaveNoMore (cond b (from_first responds xs) xs) (cond b (from_first responds (xs ++ ys)) (xs ++ ys))
    by true = first_grows responds xs ys
    by false = no_more_than_all xs ys

-- A half hears no less if the end keeps its Begins.
behind_later : (side : Side) (items later : List Item) (own : List ℕ) (xs : List Message) → KeepsBegins side items later
    → HaveNoMore (incoming_behind (begin_from side own items) xs) (incoming_behind (begin_from side own later) xs)
behind_later side items later own xs keeps = by (begin_from side own items) refl
  where
    by : (o : Option Message) → begin_from side own items ≡ o
        → HaveNoMore (incoming_behind o xs) (incoming_behind (begin_from side own later) xs)
    by None none = λ p. omega arith
    by (Some begin) found = rw (keeps own begin found) (no_more_self (incoming_behind (Some begin) xs))

-- ---- what a half may have heard

pub filters_append : (p q : Message → Bool) (xs ys : List Message)
    → filter q (filter p (xs ++ ys)) ≡ filter q (filter p xs) ++ filter q (filter p ys)
filters_append p q xs ys = rw (filter-append p xs ys) (filter-append q (filter p xs) (filter p ys))

filters_grow : (p q : Message → Bool) (xs ys : List Message)
    → HaveNoMore (filter q (filter p xs)) (filter q (filter p (xs ++ ys)))
filters_grow p q xs ys =
    rw (filters_append p q xs ys) (no_more_than_all (filter q (filter p xs)) (filter q (filter p ys)))

continues_grow : (id : List ℕ) (gone more : List Message) (own : Option (List ℕ))
    → HaveNoMore (continues_to id gone own) (continues_to id (gone ++ more) own)
continues_grow id gone more None = no_more_self []
continues_grow id gone more (Some own) = filters_grow _ (is_continue_to own) gone more

-- More messages mean that more may have been heard.
pub incoming_grows : (side : Side) (items : List Item) (gone more : List Message) (slot : Slot)
    (own peer : Option (List ℕ))
    → HaveNoMore (may_have_incoming side items gone slot own peer) (may_have_incoming side items (gone ++ more) slot own peer)
incoming_grows side items gone more Begun None None = no_more_self []
incoming_grows side items gone more Begun (Some own) None = no_more_self []
incoming_grows side items gone more Accepted own None = no_more_self []
incoming_grows side items gone more Accepted own (Some id) =
    no_more_both (filter (is_a forms.Begin) (from id gone)) (filter (is_a forms.Begin) (from id (gone ++ more)))
    (continues_to id gone own) (continues_to id (gone ++ more) own) (filters_grow _ (is_a forms.Begin) gone more)
    (continues_grow id gone more own)
incoming_grows side items gone more Begun None (Some id) = no_more_self []
incoming_grows side items gone more Begun (Some own) (Some id) =
    subst (λ (ms : List Message). HaveNoMore (incoming_behind (begin_from side own items) (continues_to id gone (Some own)))
    (incoming_behind (begin_from side own items) ms))
    (sym (filters_append (λ m. is_id id (otid_in m)) (is_continue_to own) gone more))
    (behind_grows (begin_from side own items) (continues_to id gone (Some own)) (continues_to id more (Some own)))

-- If the end keeps its Begins, no less may have been heard.
pub incoming_later : (side : Side) (items later : List Item) (gone : List Message) (slot : Slot)
    (own peer : Option (List ℕ))
    → KeepsBegins side items later
    → HaveNoMore (may_have_incoming side items gone slot own peer) (may_have_incoming side later gone slot own peer)
incoming_later side items later gone Begun None None keeps = no_more_self []
incoming_later side items later gone Begun (Some own) None keeps = no_more_self []
incoming_later side items later gone Accepted own None keeps = no_more_self []
incoming_later side items later gone Accepted own (Some id) keeps =
    no_more_self (may_have_incoming side items gone Accepted own (Some id))
incoming_later side items later gone Begun None (Some id) keeps = no_more_self []
incoming_later side items later gone Begun (Some own) (Some id) keeps =
    behind_later side items later own (continues_to id gone (Some own)) keeps

-- If an accepted half chooses an own ID, no less may have been heard.
pub incoming_chosen : (side : Side) (items : List Item) (gone : List Message) (own : List ℕ) (peer : Option (List ℕ))
    → HaveNoMore (may_have_incoming side items gone Accepted None peer)
    (may_have_incoming side items gone Accepted (Some own) peer)
incoming_chosen side items gone own None = no_more_self []
incoming_chosen side items gone own (Some id) =
    rw (append-nil begins) (no_more_than_all begins (continues_to id gone (Some own)))
  where
    begins : List Message
    begins = filter (is_a forms.Begin) (from id gone)
