-- Which transaction IDs are tangled? One transaction was given two IDs, two transactions were given one, an ID was
-- begun twice, or an end guessed an ID of the other. Q.774 3.3 does not use the originating ID of a Continue to an
-- active transaction, and has no rule for a peer that does any of this. So nothing that an end does over such IDs is
-- a fault.
use Rattle.std.specs.Prelude.{◌≡◌, ◌⊎◌, ℕ, Bool, false, List, [], ◌∷◌, ◌++◌, Contains, filter, filter_map, flat_map, Option, Some, None, ◌&&◌, ◌||◌, not, nat_le, cond}
use Rattle.std.specs.Option.{option_or}
use Rattle.std.specs.List.{list_any}
use Rattle.std.specs.Str.{bytes_eq}
use Rattle.tcap_msg.specs.declared.kind.Kind.TheVariants as forms
use Rattle.tcap_msg.specs.declared.message.Message.{Message}
use Rattle.tcap_msg.specs.declared.message.Message.TheVariants.{Continue}
use Rattle.tcap_msg.specs.Parts.{dtid_in, otid_in}
use Rattle.tcap_record.specs.declared.entry.End.{End as Side}
use Rattle.tcap_record.specs.Ends.{other}
use Rattle.tcap_model.specs.World.{Item, Sent, is_side}
use Rattle.tcap_refute.specs.EarlierMessages.{peer_sent_from, has_a, is_a, sent_by}
use Rattle.tcap_faults.specs.declared.verdict.unblamed_reason.Tangle.{Tangle}
use Rattle.tcap_faults.specs.declared.verdict.unblamed_reason.Tangle.TheVariants.{TwoIds, BegunTwice, BothBegan, Guessed}
use Rattle.tcap_faults.specs.declared.verdict.unblamed_reason.TangledId.{TangledId}
use Rattle.tcap_faults.specs.Counts.{count}
use Rattle.tcap_faults.specs.SentToId.{began, is_continue_from, is_continue_to, has_used, one_passes}

-- ---- joined IDs

-- The IDs of the peer that are joined with an own ID. The end sent a Continue from the own ID to them, or the peer
-- sent one from them to the own ID, and the end used the own ID.
abbrev pub peers_of : Side → List Item → List ℕ → List (List ℕ)
peers_of side items own =
    filter_map dtid_in (filter (is_continue_from own) (sent_by side items))
    ++ cond (has_used side items own) (filter_map otid_in (filter (is_continue_to own) (sent_by (other side) items))) []

-- The own IDs that are joined with an ID of the peer.
abbrev pub owns_of : Side → List Item → List ℕ → List (List ℕ)
owns_of side items id =
    filter_map otid_in (filter (is_continue_to id) (sent_by side items))
    ++ filter (has_used side items) (filter_map dtid_in (filter (is_continue_from id) (sent_by (other side) items)))

-- Whether two of these IDs differ.
abbrev pub two_differ : List (List ℕ) → Bool
two_differ [] = false
two_differ (id ∷ more) = list_any (λ other. not (bytes_eq id other)) more

-- ---- tangled IDs

-- An own ID is tangled if two IDs of the peer are joined with it.
abbrev pub is_own_tangled : Side → List Item → List ℕ → Bool
is_own_tangled side items own = two_differ (peers_of side items own)

-- A Continue to an ID that the end began.
abbrev pub goes_to_begun : Side → List Item → Message → Bool
goes_to_begun side items m = by (dtid_in m)
  where
    by : Option (List ℕ) → Bool
    by None = false
    by (Some own) = is_a forms.Continue m && began side own items

-- A Continue of the peer from an ID that it began before, to an ID that the end had not used by then: the peer
-- guesses that ID.
abbrev pub guesses : Side → List ℕ → List Item → Item → Bool
guesses side id seen (Sent sender m) =
    is_side (other side) sender && is_continue_from id m && has_a forms.Begin (peer_sent_from side id seen)
    && by (dtid_in m)
  where
    by : Option (List ℕ) → Bool
    by None = false
    by (Some own) = not (has_used side seen own)
guesses side id seen Item.Quiet = false

-- An ID of the peer is tangled if one of these holds:
-- - two own IDs are joined with it;
-- - the peer sent two Begins from it;
-- - the peer sent a Begin from it, and a Continue from it to an ID that the end began;
-- - the peer sent a Begin from it, and then a Continue from it to an ID that the peer guesses.
abbrev pub is_peer_tangled : Side → List Item → List ℕ → Bool
is_peer_tangled side items id =
    two_differ (owns_of side items id)
    || nat_le 2 (count (is_a forms.Begin) (peer_sent_from side id items))
    || (has_a forms.Begin (peer_sent_from side id items)
    && list_any (goes_to_begun side items) (peer_sent_from side id items))
    || one_passes (guesses side id) [] items

-- ---- a message that goes over them

-- The originating ID of a Continue.
abbrev pub own_of_continue : Message → List (List ℕ)
own_of_continue (Continue otid dtid dialogue components) = otid ∷ []
own_of_continue m = []

-- The own IDs near an ID of the peer: those that are joined with it, and `own`.
abbrev pub near : Side → List Item → List (List ℕ) → List ℕ → List (List ℕ)
near side items own id = owns_of side items id ++ own

-- The peer's IDs that a message goes over: `id`, and those that are joined with an own ID near it.
abbrev pub far : Side → List Item → List (List ℕ) → List ℕ → List (List ℕ)
far side items own id = id ∷ flat_map (peers_of side items) (near side items own id)

-- Whether one of these IDs, own or the peer's, is tangled.
abbrev pub are_tangled : Side → List Item → List (List ℕ) → List ℕ → Bool
are_tangled side items own id =
    list_any (is_own_tangled side items) (near side items own id)
    || list_any (is_peer_tangled side items) (far side items own id)

-- Whether a message goes over tangled IDs; one without destination ID never does.
abbrev pub goes_over_tangled : Side → List Item → Message → Bool
goes_over_tangled side items m = by (dtid_in m)
  where
    by : Option (List ℕ) → Bool
    by None = false
    by (Some id) = are_tangled side items (own_of_continue m) id

-- ---- which ID is tangled, and why

-- Why an own ID is tangled, if it is.
abbrev pub tangle_of_own : Side → List Item → List ℕ → Option Tangle
tangle_of_own side items own = cond (is_own_tangled side items own) (Some TwoIds) None

-- Why an ID of the peer is tangled, if it is: the first of four reasons that holds.
abbrev pub tangle_of_peer : Side → List Item → List ℕ → Option Tangle
tangle_of_peer side items id =
    cond (two_differ (owns_of side items id)) (Some TwoIds)
    (cond (nat_le 2 (count (is_a forms.Begin) (peer_sent_from side id items))) (Some BegunTwice)
    (cond (has_a forms.Begin (peer_sent_from side id items)
    && list_any (goes_to_begun side items) (peer_sent_from side id items)) (Some BothBegan)
    (cond (one_passes (guesses side id) [] items) (Some Guessed) None)))

-- An ID of this end, if there is a reason why it is tangled.
abbrev pub tangled_for : Side → List ℕ → Option Tangle → Option TangledId
tangled_for of id None = None
tangled_for of id (Some why) = Some (record { side = of; id = id; why = why })

-- The first of these IDs of this end that is tangled.
abbrev pub first_tangled : Side → (List ℕ → Option Tangle) → List (List ℕ) → Option TangledId
first_tangled of why [] = None
first_tangled of why (id ∷ more) = option_or (tangled_for of id (why id)) (first_tangled of why more)

-- The first tangled ID: the peer's ID `id`; else the first own ID near it; else the first ID of the peer that is
-- joined with one of these.
abbrev pub tangled_id : Side → List Item → List (List ℕ) → List ℕ → Option TangledId
tangled_id side items own id =
    option_or (tangled_for (other side) id (tangle_of_peer side items id))
    (option_or (first_tangled side (tangle_of_own side items) (near side items own id))
    (first_tangled (other side) (tangle_of_peer side items) (flat_map (peers_of side items) (near side items own id))))

-- The first tangled ID that a message goes over.
abbrev pub tangled_in : Side → List Item → Message → Option TangledId
tangled_in side items m = by (dtid_in m)
  where
    by : Option (List ℕ) → Option TangledId
    by None = None
    by (Some id) = tangled_id side items (own_of_continue m) id

-- The ID is tangled for this reason, and a message to `id` goes over it: as an own ID near `id`, as `id`, or as an ID
-- of the peer that is joined with an own one.
abbrev pub IsOver : Side → List Item → List (List ℕ) → List ℕ → TangledId → Type 0
IsOver side items own id t =
    ((t.side ≡ side) × Contains (near side items own id) t.id × (tangle_of_own side items t.id ≡ Some t.why))
    ⊎ ((t.side ≡ other side) × Contains (far side items own id) t.id × (tangle_of_peer side items t.id ≡ Some t.why))
