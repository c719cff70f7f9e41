-- A live dialogue with one more ID, dialogue or entry.
use Rattle.std.proofs.Common.{◌≡◌, ℕ, Bool, true, false, cond, List, [], ◌++◌, Option, Some, None, is_none, is_some, bytes_eq, map, refl, sym, ap, ◌∙◌}
use Rattle.std.proofs.Math.Bool.{or_assoc}
use Rattle.std.specs.Prelude.{◌&&◌, ◌||◌, ◌==◌, length, nat_lt, not}
use Rattle.std.specs.BTreeMap.{is_at}
use Rattle.std.specs.BTreeSet as set
use Rattle.std.specs.BTreeSet.{BTreeSet}
use Rattle.std.specs.Cmp.{unsigned_tied}
use Rattle.std.specs.Iterator.{Yields}
use Rattle.std.specs.List.{list_any}
use Rattle.std.specs.Map.Iter.{TakesFirst}
use Rattle.std.specs.Ordering.{nat_cmp}
use Rattle.std.proofs.lemmas.List.{append-nil, map-id}
use Rattle.std.proofs.lemmas.List.Folds.{list_any-append}
use Rattle.std.proofs.lemmas.Map.Iter.{rest_so_far}
use Rattle.tcap_end.specs.Table.{octets_cmp}
use Rattle.tcap_record.specs.declared.entry.End.{End as Side}
use Rattle.tcap_record.specs.declared.entry.End.TheVariants as sides
use Rattle.tcap_model.specs.World.{is_side}
use Rattle.tcap_dialogues.specs.DialoguesOfList.{IdOf, is_among, is_same}
use Rattle.tcap_dialogues.specs.CutDialogues.{by_end, has_id}
use Rattle.tcap_dialogues.specs.Course.{Course, Heading, begun_by, first_over, has_begin, has_entry, lower, over_by, own_ids, peer_ids}
use Rattle.tcap_dialogues.specs.CutState.{HasValuesOf, earlier_of, has_sent, higher, is_unsettled}
use Rattle.tcap_dialogues.specs.CutUpdate.{HasEntry, HasId, HasSender, ids_at}
use Rattle.tcap_dialogues.specs.declared.known_ids.IdState.{IdState}
use Rattle.tcap_dialogues.specs.declared.live.LiveDialogue.{LiveDialogue}
use Rattle.tcap_dialogues.proofs.HeldLists.{or_none}
use Rattle.tcap_dialogues.proofs.HeldOvers.{over_appended}
use Rattle.tcap_dialogues.proofs.KnownLaws.{at_octets}

-- ---- one more ID

abbrev pub Adds : BTreeSet (List ℕ) → BTreeSet (List ℕ) → List ℕ → Type 0
Adds old new key = (q : List ℕ) → set.contains octets_cmp new q ≡ cond (is_at (octets_cmp key) q) true (set.contains octets_cmp old q)

added : (old new : BTreeSet (List ℕ)) (key : List ℕ) → Adds old new key → (q : List ℕ)
    → set.contains octets_cmp new q ≡ (set.contains octets_cmp old q || (bytes_eq q key || false))
added old new key adds q =
    adds q ∙ ap (λ b. cond b true (set.contains octets_cmp old q)) (at_octets key q) ∙ by (set.contains octets_cmp old q) (bytes_eq q key)
  where
    by : (was is : Bool) → cond is true was ≡ (was || (is || false))
    by true true = refl
    by true false = refl
    by false true = refl
    by false false = refl

pub add_to_a : (old : LiveDialogue) (new : BTreeSet (List ℕ)) (key : List ℕ) → Adds old.a new key
    → HasId (ids_at sides.A (Some key)) old (record old { a = new })
add_to_a old new key adds = record { ids_are = λ id. by id id.end; rest = refl }
  where
    by : (id : IdOf) (end : Side) → set.contains octets_cmp (by_end end new old.b) id.octets
        ≡ (set.contains octets_cmp (by_end end old.a old.b) id.octets || ((is_side end sides.A && bytes_eq id.octets key) || false))
    by id sides.A = added old.a new key adds id.octets
    by id sides.B = sym (or_none (set.contains octets_cmp old.b id.octets))

pub add_to_b : (old : LiveDialogue) (new : BTreeSet (List ℕ)) (key : List ℕ) → Adds old.b new key
    → HasId (ids_at sides.B (Some key)) old (record old { b = new })
add_to_b old new key adds = record { ids_are = λ id. by id id.end; rest = refl }
  where
    by : (id : IdOf) (end : Side) → set.contains octets_cmp (by_end end old.a new) id.octets
        ≡ (set.contains octets_cmp (by_end end old.a old.b) id.octets || ((is_side end sides.B && bytes_eq id.octets key) || false))
    by id sides.A = sym (or_none (set.contains octets_cmp old.a id.octets))
    by id sides.B = added old.b new key adds id.octets

-- ---- another dialogue

-- An iterator gives all elements before it ends.
pub drained : {X : Type 0} (keys xs s t : List X) → s ≡ keys → Yields (TakesFirst {A = X} {X = X} (λ x. x)) s xs t → t ≡ [] → xs ≡ keys
drained keys xs s t begins yields ends =
    sym (map-id xs) ∙ sym (append-nil (map (λ x. x) xs)) ∙ ap (λ more. map (λ x. x) xs ++ more) (sym ends)
    ∙ sym (rest_so_far (λ x. x) xs s t yields) ∙ begins

pub either : (p q a b : Bool) → p ≡ a → q ≡ b → (p || q) ≡ (a || b)
either p q a b first second = ap (λ x. x || q) first ∙ ap (λ x. a || x) second

-- The higher of two numbers exists if one of them does.
pub some_higher : (a b : Option ℕ) → is_some (higher a b) ≡ (is_some a || is_some b)
some_higher None b = refl
some_higher (Some a) None = refl
some_higher (Some a) (Some b) = refl

-- An ID has an earlier dialogue if one that is done had it and no live one has it.
pub some_earlier : (known : IdState) → is_some (earlier_of known) ≡ (is_none known.dialogue && is_some known.last)
some_earlier known = by (is_none known.dialogue)
  where
    by : (b : Bool) → is_some (cond b known.last None) ≡ (b && is_some known.last)
    by true = refl
    by false = refl

-- It is unsettled if it is not firm, either.
pub some_unsettled : (known : IdState) → is_unsettled known ≡ (is_none known.dialogue && (is_some known.last && not known.firm))
some_unsettled known = by (is_none known.dialogue)
  where
    by : (b : Bool) → (is_some (cond b known.last None) && not known.firm) ≡ (b && (is_some known.last && not known.firm))
    by true = refl
    by false = refl

-- all values of both dialogues
pub absorbed : (ds es : List Course) (l m : LiveDialogue) (numbers : BTreeSet ℕ) (a b : BTreeSet (List ℕ)) (over earlier : Option ℕ)
    → HasValuesOf ds l → HasValuesOf es m
    → ((n : ℕ) → set.contains nat_cmp numbers n ≡ (set.contains nat_cmp l.numbers n || set.contains nat_cmp m.numbers n))
    → ((id : List ℕ) → set.contains octets_cmp a id ≡ (set.contains octets_cmp l.a id || set.contains octets_cmp m.a id))
    → ((id : List ℕ) → set.contains octets_cmp b id ≡ (set.contains octets_cmp l.b id || set.contains octets_cmp m.b id))
    → over ≡ lower l.over m.over → earlier ≡ higher l.earlier m.earlier
    → HasValuesOf (ds ++ es) (record {
      name = l.name;
      numbers = numbers;
      a = a;
      b = b;
      a_sent = l.a_sent || m.a_sent;
      b_sent = l.b_sent || m.b_sent;
      begun = l.begun || m.begun;
      over = over;
      early = l.early || m.early;
      earlier = earlier;
      unsettled = l.unsettled || m.unsettled;
    })
absorbed ds es l m numbers a b over earlier kept other numbers_are a_is b_is over_is earlier_is = record {
  numbers = λ n.
      numbers_are n ∙ either _ _ _ _ (kept.numbers n) (other.numbers n) ∙ sym (list_any-append (λ d. has_entry d n) ds es);
  ids = λ id.
      ids_are id id.end ∙ either _ _ _ _ (kept.ids id) (other.ids id) ∙ sym (list_any-append (λ d. is_among d.ids id) ds es);
  senders = λ side.
      senders_are side ∙ either _ _ _ _ (kept.senders side) (other.senders side)
      ∙ sym (list_any-append (λ d. list_any (is_side side) d.senders) ds es);
  begun = either _ _ _ _ kept.begun other.begun ∙ sym (list_any-append has_begin ds es);
  over = over_is ∙ ap (λ o. lower o m.over) kept.over ∙ ap (lower (first_over ds)) other.over ∙ sym (over_appended ds es);
  early = either _ _ _ _ kept.early other.early ∙ sym (list_any-append (λ d. d.early) ds es);
  again = ap is_some earlier_is ∙ some_higher l.earlier m.earlier ∙ either _ _ _ _ kept.again other.again ∙ sym (list_any-append (λ d. d.again) ds es);
  unsettled = either _ _ _ _ kept.unsettled other.unsettled ∙ sym (list_any-append (λ d. d.unsettled) ds es);
}
  where
    ids_are : (id : IdOf) (end : Side) → set.contains octets_cmp (by_end end a b) id.octets
        ≡ (set.contains octets_cmp (by_end end l.a l.b) id.octets || set.contains octets_cmp (by_end end m.a m.b) id.octets)
    ids_are id sides.A = a_is id.octets
    ids_are id sides.B = b_is id.octets

    senders_are : (side : Side) → by_end side (l.a_sent || m.a_sent) (l.b_sent || m.b_sent) ≡ (has_sent l side || has_sent m side)
    senders_are sides.A = refl
    senders_are sides.B = refl

-- ---- one more entry

-- the values after the entry's number, IDs and sender are added
module _ (number : ℕ) (h : Heading) (own peer : IdState) (old noted one new : LiveDialogue) (numbers : BTreeSet ℕ) (begun early unsettled : Bool)
    (over earlier : Option ℕ)
    (adds : (n : ℕ) → set.contains nat_cmp numbers n ≡ cond (is_at (nat_cmp number) n) true (set.contains nat_cmp old.numbers n))
    (sends : HasSender h.sender (record old { numbers = numbers }) noted)
    (first : HasId (own_ids h) (record noted { begun = begun; over = over; early = early; earlier = earlier; unsettled = unsettled }) one)
    (second : HasId (peer_ids h) one new) where
  pub entry_added : begun ≡ (noted.begun || nat_lt 0 (length (begun_by h))) → over ≡ lower noted.over (over_by number h)
      → early ≡ (noted.early || not h.under_way) → earlier ≡ higher noted.earlier (higher (earlier_of own) (earlier_of peer))
      → unsettled ≡ (noted.unsettled || (is_unsettled own || is_unsettled peer)) → HasEntry number h own peer old new
  entry_added begun_is over_is early_is earlier_is unsettled_is = record {
    name = ap (λ l. l.name) second.rest ∙ ap (λ l. l.name) first.rest ∙ ap (λ l. l.name) sends.rest;
    numbers = λ n.
        ap (λ l. set.contains nat_cmp l.numbers n) second.rest ∙ ap (λ l. set.contains nat_cmp l.numbers n) first.rest
        ∙ ap (λ l. set.contains nat_cmp l.numbers n) sends.rest ∙ adds n
        ∙ ap (λ b. cond b true (set.contains nat_cmp old.numbers n)) (unsigned_tied number n)
        ∙ put (set.contains nat_cmp old.numbers n) (number == n);
    ids = λ id.
        second.ids_are id ∙ ap (λ b. b || is_among (peer_ids h) id) (first.ids_are id)
        ∙ ap (λ l. (has_id l.a l.b id || is_among (own_ids h) id) || is_among (peer_ids h) id) sends.rest
        ∙ or_assoc (has_id old.a old.b id) (is_among (own_ids h) id) (is_among (peer_ids h) id)
        ∙ ap (λ b. has_id old.a old.b id || b) (sym (list_any-append (is_same id) (own_ids h) (peer_ids h)));
    senders = λ side. ap (λ l. has_sent l side) second.rest ∙ ap (λ l. has_sent l side) first.rest ∙ sends.senders side;
    begun = ap (λ l. l.begun) second.rest ∙ ap (λ l. l.begun) first.rest ∙ begun_is
        ∙ ap (λ l. l.begun || nat_lt 0 (length (begun_by h))) sends.rest;
    over = ap (λ l. l.over) second.rest ∙ ap (λ l. l.over) first.rest ∙ over_is ∙ ap (λ l. lower l.over (over_by number h)) sends.rest;
    early = ap (λ l. l.early) second.rest ∙ ap (λ l. l.early) first.rest ∙ early_is ∙ ap (λ l. l.early || not h.under_way) sends.rest;
    earlier_is = ap (λ l. l.earlier) second.rest ∙ ap (λ l. l.earlier) first.rest ∙ earlier_is
        ∙ ap (λ l. higher l.earlier (higher (earlier_of own) (earlier_of peer))) sends.rest;
    unsettled = ap (λ l. l.unsettled) second.rest ∙ ap (λ l. l.unsettled) first.rest ∙ unsettled_is
        ∙ ap (λ l. l.unsettled || (is_unsettled own || is_unsettled peer)) sends.rest;
  }
    where
      put : (was is : Bool) → cond is true was ≡ (was || is)
      put true true = refl
      put true false = refl
      put false true = refl
      put false false = refl
