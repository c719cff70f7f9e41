-- The transaction IDs of a message and of a dialogue.
use Rattle.std.proofs.Common.{◌≡◌, ℕ, Bool, true, false, cond, List, Option, Some, None, map, refl, sym, ap, subst, ◌∙◌}
use Rattle.std.specs.Prelude.{◌&&◌, ◌||◌, Contains}
use Rattle.std.specs.List.{list_any}
use Rattle.std.specs.Option.{option_to_list}
use Rattle.std.proofs.lemmas.Bool.{and_from, and_parts}
use Rattle.std.proofs.lemmas.List.Folds.{list_any-append}
use Rattle.std.proofs.lemmas.Slice.Eq.{bytes_eq-Decides}
use Rattle.tcap_msg.specs.declared.message.Message.{Message}
use Rattle.tcap_msg.specs.Parts.{dtid_in, otid_in}
use Rattle.tcap_record.specs.declared.entry.End.{End as Side}
use Rattle.tcap_record.specs.declared.entry.End.TheVariants as sides
use Rattle.tcap_record.specs.Ends.{other}
use Rattle.tcap_end.specs.End.{is_id}
use Rattle.tcap_model.specs.World.{is_side}
use Rattle.tcap_model.proofs.RunLaws.{same_side}
use Rattle.tcap_model.proofs.WorldLaws.{itself}
use Rattle.tcap_dialogues.specs.DialoguesOfList.{IdOf, ids_of, is_among, is_same}
use Rattle.tcap_dialogues.specs.Part.{carries}
use Rattle.tcap_dialogues.proofs.CutLists.{found, finds}

-- ---- equal IDs

-- IDs with equal parts are equal.
same_parts : {e f : Side} {o p : List ℕ} → e ≡ f → o ≡ p
    → (let a : IdOf = record { end = e; octets = o } in a) ≡ record { end = f; octets = p }
same_parts ends octets = rw (ends, octets) refl

-- The test decides equality.
pub same_id : (a b : IdOf) → is_same a b ≡ true → a ≡ b
same_id a b is =
    let both = and_parts _ _ is in
    same_parts (same_side a.end b.end both.0) ((bytes_eq-Decides a.octets b.octets).0 both.1)

-- An ID equals itself.
pub is_itself : (id : IdOf) → is_same id id ≡ true
is_itself id = and_from _ _ (itself id.end) ((bytes_eq-Decides id.octets id.octets).1 refl)

-- ---- lists of IDs

-- The test finds an ID of the list.
pub in_among : (ids : List IdOf) (id : IdOf) → Contains ids id → is_among ids id ≡ true
in_among ids id has = finds (is_same id) ids id has (is_itself id)

-- It finds no other.
pub among_in : (ids : List IdOf) (id : IdOf) → is_among ids id ≡ true → Contains ids id
among_in ids id is = let (x, has, so) = found (is_same id) ids is in subst (Contains ids) (sym (same_id id x so)) has

-- If two lists share an ID, this is one.
pub one_of : (ids those : List IdOf) → list_any (is_among those) ids ≡ true
    → (id : IdOf) × (is_among ids id ≡ true) × (is_among those id ≡ true)
one_of ids those is = let (id, has, so) = found (is_among those) ids is in (id, in_among ids id has, so)

-- If this ID is in both lists, they share one.
pub one_from : (ids those : List IdOf) (id : IdOf) → is_among ids id ≡ true → is_among those id ≡ true
    → list_any (is_among those) ids ≡ true
one_from ids those id is has = finds (is_among those) ids id (among_in ids id is) has

-- ---- the IDs of a message

-- the ID of an end, or none
abbrev ids_at : Side → Option (List ℕ) → List IdOf
ids_at end o = map (λ id. record { end = end; octets = id }) (option_to_list o)

-- An ID equals another if both are of one end, with equal octets.
at_end : (id : IdOf) (end : Side) (o : Option (List ℕ)) → is_among (ids_at end o) id ≡ (is_side id.end end && is_id id.octets o)
at_end id end None = none (is_side id.end end)
  where
    none : (b : Bool) → false ≡ (b && false)
    none true = refl
    none false = refl
at_end id end (Some octets) = alone (is_same id (record { end = end; octets = octets }))
  where
    alone : (b : Bool) → (b || false) ≡ b
    alone true = refl
    alone false = refl

-- It is of one end, or of the other.
of_ends : (end sender : Side) (x y : Bool) → ((is_side end sender && x) || (is_side end (other sender) && y)) ≡ cond (is_side end sender) x y
of_ends sides.A sides.A true y = refl
of_ends sides.A sides.A false y = refl
of_ends sides.A sides.B x y = refl
of_ends sides.B sides.A x y = refl
of_ends sides.B sides.B true y = refl
of_ends sides.B sides.B false y = refl

-- The IDs of a message are those that it carries.
pub among_is : (sender : Side) (m : Message) (id : IdOf) → is_among (ids_of sender m) id ≡ carries id.end id.octets sender m
among_is sender m id =
    list_any-append (is_same id) (ids_at sender (otid_in m)) (ids_at (other sender) (dtid_in m))
    ∙ ap (λ b. b || is_among (ids_at (other sender) (dtid_in m)) id) (at_end id sender (otid_in m))
    ∙ ap (λ b. (is_side id.end sender && is_id id.octets (otid_in m)) || b) (at_end id (other sender) (dtid_in m))
    ∙ of_ends id.end sender (is_id id.octets (otid_in m)) (is_id id.octets (dtid_in m))
