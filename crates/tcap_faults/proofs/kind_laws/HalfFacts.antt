-- A half of an end, and the facts about it in the list: its IDs, its Begin, and what it may have received.
use Rattle.std.proofs.Common.{◌≡◌, ◌⊎◌, inl, inr, ℕ, ◌<◌, arith, Bool, true, false, List, [], ◌∷◌, ◌++◌, Option, Some, None, is_some, refl, sym, ap, subst, ◌∙◌}
use Rattle.std.specs.Prelude.{Contains, filter}
use Rattle.std.proofs.lemmas.Bool.{and_parts}
use Rattle.tcap_msg.specs.declared.kind.Kind.TheVariants as forms
use Rattle.tcap_msg.specs.declared.message.Message.{Message}
use Rattle.tcap_msg.specs.declared.message.Message.TheVariants.{Continue}
use Rattle.tcap_msg.specs.Parts.{dtid_in, otid_in}
use Rattle.tcap_record.specs.declared.entry.End.{End as Side}
use Rattle.tcap_record.specs.Ends.{other}
use Rattle.tcap_end.specs.declared.half.Phase.{Phase}
use Rattle.tcap_end.specs.declared.half.Phase.TheVariants as phases
use Rattle.tcap_end.specs.declared.half.Slot.{Slot}
use Rattle.tcap_end.specs.declared.half.Slot.TheVariants.{Begun, Accepted}
use Rattle.tcap_end.specs.Table.{Table}
use Rattle.tcap_end.specs.Half.{Half}
use Rattle.tcap_end.specs.End.{End, KeyedHalf, is_id}
use Rattle.tcap_end.specs.ReachableEnd.{FitsPhase, HasHalf, IsEnd}
use Rattle.tcap_model.specs.World.{Item}
use Rattle.tcap_model.proofs.TurnLaws.{id_is}
use Rattle.tcap_refute.specs.EarlierMessages.{peer_sent_from, has_a, is_a, sent_by}
use Rattle.tcap_refute.proofs.Members.{any_has, has_not}
use Rattle.tcap_model.proofs.UsedLaws.{one_half}
use Rattle.tcap_faults.specs.Counts.{count, is_nothing}
use Rattle.tcap_faults.specs.HalfByPeerId.{continued_to, incoming_continues}
use Rattle.tcap_faults.specs.SentToId.{began, begin_from, is_abort_with, outgoing, was_refused}
use Rattle.tcap_faults.proofs.story_laws.Stories.{continues_to, incoming_behind, may_have_incoming, outgoing_to}
use Rattle.tcap_faults.proofs.list_laws.CountLaws.{any_counts}
use Rattle.tcap_faults.proofs.run_laws.HalfGoesOnLaws.{ToldOver}
use Rattle.tcap_faults.proofs.view_laws.AcceptedHalfLaws.{all_asked}
use Rattle.tcap_faults.proofs.view_laws.ActLaws.{Uses}
use Rattle.tcap_faults.proofs.view_laws.AskedLaws.{OfBegins, all_paid}
use Rattle.tcap_faults.proofs.list_laws.FindLaws.{filter_is}
use Rattle.tcap_faults.proofs.view_laws.BegunHalfLaws.{all_use}
use Rattle.tcap_faults.proofs.view_laws.ViewLaws.{View, view_sound}

-- ---- tests

-- A list with an element is not empty.
pub not_nothing : {A P : Type 0} (xs : List A) (x : A) → Contains xs x → is_nothing xs ≡ true → P
not_nothing [] x has is = has_not x has
not_nothing (y ∷ ys) x has is = cc

-- A Continue has an originating ID.
pub goes_from : (m : Message) → is_a forms.Continue m ≡ true → (own : List ℕ) × (otid_in m ≡ Some own)
goes_from (Continue otid dtid dialogue components) is = (otid, refl)
goes_from m is = cc

-- A slot is one of two.
pub either_slot : (s : Slot) → (s ≡ Begun) ⊎ (s ≡ Accepted)
either_slot Begun = inl refl
either_slot Accepted = inr refl

-- ---- a half of an end

module _ (e : End) (f : KeyedHalf) (sound : IsEnd e) (had : HasHalf e f) where
  -- A begun half is kept by its own ID.
  pub kept_own : f.slot ≡ Begun → f.half.own ≡ Some f.key
  kept_own slot = rw slot at (sound.kept f had)

  -- A half in Received has no own ID.
  pub waits_so : f.half.phase ≡ phases.Received → f.half.own ≡ None
  waits_so at = (subst (λ (p : Phase). FitsPhase p f.half) at (sound.halves f had).phase).0

-- What was sent over a begun half: its Begin, and the messages to its peer.
pub over_begun : (side : Side) (items : List Item) (f : KeyedHalf) (messages : List Message)
    → ToldOver side items f.slot f.key f.half.peer messages → f.slot ≡ Begun
    → (begin : Message) × (begin_from side f.key items ≡ Some begin)
    × (messages ≡ begin ∷ outgoing_to side items f.half.peer)
over_begun side items f messages is slot = rw slot at is

-- What was sent over an accepted half: the messages to its peer.
pub over_accepted : (side : Side) (items : List Item) (f : KeyedHalf) (messages : List Message)
    → ToldOver side items f.slot f.key f.half.peer messages → f.slot ≡ Accepted → messages ≡ outgoing_to side items f.half.peer
over_accepted side items f messages is slot = rw slot at is

-- If there is a Begin, what may have been heard is what was heard.
pub behind_is : (begin : Option Message) (continues : List Message) → is_some begin ≡ true
    → incoming_behind begin continues ≡ incoming_continues begin continues
behind_is begin continues is = grind (arith, is)

pub come_begun : (side : Side) (items : List Item) (slot : Slot) (own peer : Option (List ℕ)) (w id : List ℕ)
    → slot ≡ Begun → own ≡ Some w → peer ≡ Some id → began side w items ≡ true
    → may_have_incoming side items (sent_by (other side) items) slot own peer
    ≡ incoming_continues (begin_from side w items) (continued_to side items id (Some w))
come_begun side items slot own peer w id is mine theirs begun =
    rw (is, mine, theirs) (behind_is (begin_from side w items) (continued_to side items id (Some w)) begun)

pub come_accepted : (side : Side) (items : List Item) (slot : Slot) (own peer : Option (List ℕ)) (id : List ℕ)
    → slot ≡ Accepted → peer ≡ Some id
    → may_have_incoming side items (sent_by (other side) items) slot own peer
    ≡ filter (is_a forms.Begin) (peer_sent_from side id items) ++ continued_to side items id own
come_accepted side items slot own peer id is theirs = rw (is, theirs) (by own)
  where
    by : (o : Option (List ℕ))
        → filter (is_a forms.Begin) (peer_sent_from side id items) ++ continues_to id (sent_by (other side) items) o
        ≡ filter (is_a forms.Begin) (peer_sent_from side id items) ++ continued_to side items id o
    by o = grind arith

-- ---- a half with that peer

module _ {table : Table} {side : Side} {e : End} {coming : List Message} {items : List Item}
    (view : View table side e coming items) (id : List ℕ) (f : KeyedHalf) (had : HasHalf e f)
    (peer : f.half.peer ≡ Some id) where
  is_end : IsEnd e
  is_end = view_sound view

  -- An accepted half is kept by its peer's ID.
  pub keyed : f.slot ≡ Accepted → f.key ≡ id
  keyed slot =
      let kept : f.half.peer ≡ Some f.key = rw slot at (is_end.kept f had) in
      let both : Some f.key ≡ Some id = sym kept ∙ peer in cc

  -- The peer sent its Begin, and the provider did not refuse it, if the peer sent at most one Begin from the ID.
  pub stands_so : count (is_a forms.Begin) (peer_sent_from side id items) < 2 → f.slot ≡ Accepted
      → (has_a forms.Begin (peer_sent_from side id items) ≡ true) × (was_refused side id items ≡ false)
  stands_so few slot =
      let of = all_asked view f had slot in
      let there : Contains (peer_sent_from side id items) of.begin =
      subst (λ (i : List ℕ). Contains (peer_sent_from side i items) of.begin) (keyed slot) of.was_asked in (
        any_has (is_a forms.Begin) (peer_sent_from side id items) of.begin there of.begins,
        by (was_refused side id items) refl,
      )
    where
      by : (b : Bool) → was_refused side id items ≡ b → b ≡ false
      by true refused =
          let one = any_counts (is_abort_with 4 id) (sent_by side items) refused in
          let paid = (all_paid view OfBegins id).half f had (slot, keyed slot) in absurd (omega arith)
      by false refused = refl

  -- A Continue to the peer comes from the half's own ID.
  pub outgoing_own : (m : Message) (own : List ℕ) → Contains (outgoing side id items) m → is_a forms.Continue m ≡ true
      → otid_in m ≡ Some own → f.half.own ≡ Some own
  outgoing_own m own has goes_on from =
      let (there, passes) = filter_is _ (sent_by side items) m has in
      let (to, causeless) = and_parts (is_id id (dtid_in m)) _ passes in
      by m goes_on from (id_is id (dtid_in m) to) (all_use view m there)
    where
      by : (m : Message) → is_a forms.Continue m ≡ true → otid_in m ≡ Some own → dtid_in m ≡ Some id → Uses e m
          → f.half.own ≡ Some own
      by (Continue otid dtid dialogue components) goes_on from to (g, there, g_own, g_peer) =
          let one = is_end.one_peer f g id had there peer (g_peer ∙ to) in
          ap (λ (h : Half). h.own) (sym (one_half e f g had there one)) ∙ g_own ∙ from
      by m goes_on from to uses = cc
