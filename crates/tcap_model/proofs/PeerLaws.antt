-- What a half knows of its peer, the peer sent since the last mark.
use Rattle.std.proofs.Common.{◌≡◌, ◌⊎◌, true, inl, inr, ℕ, ℤ, List, [], Option, Some, None, IsSome, refl, sym, ◌∙◌}
use Rattle.std.specs.List.{AllByRecursion}
use Rattle.tcap_parts.specs.declared.component.Component.{Component}
use Rattle.tcap_parts.specs.declared.component.Component.TheVariants.{Invoke}
use Rattle.tcap_msg.specs.declared.message.Message.{Message}
use Rattle.tcap_record.specs.declared.entry.End.{End as Side}
use Rattle.tcap_end.specs.declared.half.Phase.{Phase}
use Rattle.tcap_end.specs.declared.half.Phase.TheVariants as phases
use Rattle.tcap_end.specs.declared.half.DialogueState.TheVariants as dialogue_states
use Rattle.tcap_end.specs.Table.{Table}
use Rattle.tcap_end.specs.Half.{Answer, Half, Invocation, listed}
use Rattle.tcap_end.specs.End.{KeyedHalf}
use Rattle.tcap_end.specs.ReachableEnd.{FitsPhase, HasHalf, IsEnd, IsHalf}
use Rattle.tcap_record.specs.Ends.{other}
use Rattle.tcap_model.specs.World.{World, end_at}
use Rattle.tcap_model.specs.Run.{Event, Runs}
use Rattle.tcap_msg.specs.Parts.{otid_in}
use Rattle.tcap_model.specs.SinceMark.{AnswersWereSent, PeerSentComponent, InvokesWereSent, IsAnswer, PeerWasSent, RequestWasSent, SentSince, is_begin_with_request}
use Rattle.tcap_model.proofs.ListLaws.{all_weaker}
use Rattle.tcap_model.proofs.Moves.{HasCome, IsAsked, IsFrom, Turns, blank}
use Rattle.tcap_model.proofs.WorldMoves.{Advances, CameSince, EndMoves, SentMore, worlds_keep}

-- all four properties of one half
pub record Knows (w : World) (side : Side) (f : KeyedHalf) : Type 0 where
  pub peer : PeerWasSent w side f
  pub request : RequestWasSent w side f
  pub invokes : InvokesWereSent w side f
  pub answers : AnswersWereSent w side f

-- ---- halves without a peer's ID

-- a half that received nothing
abbrev IsBare : Half → Type 0
IsBare h = (h.phase ≡ phases.Received → ⊥) × (h.inn ≡ []) × (h.grants ≡ [])

-- a half that knows its peer ID
abbrev HasPeer : Half → Type 0
HasPeer h = (id : List ℕ) × (h.peer ≡ Some id)

-- An option that is Some has a value.
some_is : {A : Type 0} (o : Option A) → IsSome o → (x : A) × (o ≡ Some x)
some_is None is = cc
some_is (Some x) is = (x, refl)

-- A half knows its peer ID, or received nothing.
peer_or_bare : (h : Half) → IsHalf h → HasPeer h ⊎ IsBare h
peer_or_bare h half = by h.phase refl half.phase
  where
    by : (p : Phase) → h.phase ≡ p → FitsPhase p h → HasPeer h ⊎ IsBare h
    by phases.Sent at fits = inr (λ received. cc, fits.3, fits.4)
    by phases.Received at fits = inl (some_is h.peer fits.1)
    by phases.Active at fits = inl (some_is h.peer fits.1)
    by phases.Closed at fits = inr (λ received. cc, fits.2, fits.3)

-- ---- one half

-- A component that came from the peer still did, if the half keeps its peer ID.
still_came : {event : Event} → (w next : World) (side : Side) (f g : KeyedHalf) (component : Component) → SentMore event w next → f.half.peer ≡ g.half.peer
    → PeerSentComponent w side f component → PeerSentComponent next side g component
still_came w next side f g component sent same (m, since, from, has) = (m, sent.keeps (other side) m since, from ∙ same, has)

-- The components of the received message come from the peer.
now_came : {event : Event} → (w next : World) (side : Side) (g : KeyedHalf) (came : Option Message) (component : Component) → SentMore event w next
    → CameSince w side came → HasCome came component → IsFrom came g.half.peer → PeerSentComponent next side g component
now_came w next side g None component sent since has from = absurd has
now_came w next side g (Some m) component sent since has from = (m, sent.keeps (other side) m since, from, has)

-- the peer sent this invocation, or this answer
abbrev IsInvoked : World → Side → ℤ → KeyedHalf → Invocation → Type 0
IsInvoked w side id f item =
    (linked : Option ℤ) × (parameter : Option (List ℕ)) × PeerSentComponent w side f (Invoke id linked item.code parameter)

abbrev IsAnswered : World → Side → ℤ → KeyedHalf → Answer → Type 0
IsAnswered w side id f answer = (component : Component) × IsAnswer answer id component × PeerSentComponent w side f component

-- a half before and after a step
module _ {event : Event} (w next : World) (side : Side) (g : KeyedHalf) (h : Half) (came : Option Message) (since : CameSince w side came)
    (sent : SentMore event w next) (turns : Turns came h g.half) (known : HasPeer h ⊎ IsBare h) where
  abbrev was : KeyedHalf
  was = record g { half = h }

  same_peer : HasPeer h → h.peer ≡ g.half.peer
  same_peer (id, is) = is ∙ sym (turns.peer id is)

  peer_kept : PeerWasSent w side was → PeerWasSent next side g
  peer_kept old id is = by came since (turns.learned id is)
    where
      by : (came : Option Message) → CameSince w side came → (h.peer ≡ Some id) ⊎ IsFrom came g.half.peer
          → (m : Message) × SentSince (other side) m next.sent × (otid_in m ≡ Some id)
      by came since (inl had) = let (m, there, from) = old id had in (m, sent.keeps (other side) m there, from)
      by None since (inr from) = absurd from
      by (Some m) since (inr from) = (m, sent.keeps (other side) m since, from ∙ is)

  request_kept : RequestWasSent w side was → RequestWasSent next side g
  request_kept old received is_asked = by came since known (turns.asked received is_asked)
    where
      by : (came : Option Message) → CameSince w side came → HasPeer h ⊎ IsBare h
          → ((h.phase ≡ phases.Received) × (h.dialogue_state ≡ dialogue_states.Requested)) ⊎ (IsAsked came × IsFrom came g.half.peer)
          → (m : Message) × SentSince (other side) m next.sent × (is_begin_with_request m ≡ true) × (otid_in m ≡ g.half.peer)
      by came since (inl peer) (inl had) =
          let (m, there, so, from) = old had.0 had.1 in
          (m, sent.keeps (other side) m there, so, from ∙ same_peer peer)
      by came since (inr bare) (inl had) = absurd (bare.0 had.0)
      by None since known (inr new) = absurd new.0
      by (Some m) since known (inr new) = (m, sent.keeps (other side) m since, new.0, new.1)

  invokes_kept : InvokesWereSent w side was → InvokesWereSent next side g
  invokes_kept old id = turns.inn id (IsInvoked next side id g) (by known)
      (λ item linked parameter has from. (linked, parameter, now_came w next side g came _ sent since has from))
    where
      by : HasPeer h ⊎ IsBare h → AllByRecursion (IsInvoked next side id g) (listed id h.inn)
      by (inl peer) = all_weaker (IsInvoked w side id was) (IsInvoked next side id g) (listed id h.inn)
          (λ item (linked, parameter, from). (linked, parameter, still_came w next side was g _ sent (same_peer peer) from)) (old id)
      by (inr bare) = rw (bare.1) tt

  answers_kept : AnswersWereSent w side was → AnswersWereSent next side g
  answers_kept old id = turns.grants id (IsAnswered next side id g) (by known)
      (λ answer component is has from. (component, is, now_came w next side g came component sent since has from))
    where
      by : HasPeer h ⊎ IsBare h → AllByRecursion (IsAnswered next side id g) (listed id h.grants)
      by (inl peer) = all_weaker (IsAnswered w side id was) (IsAnswered next side id g) (listed id h.grants)
          (λ answer (component, is, from). (component, is, still_came w next side was g component sent (same_peer peer) from)) (old id)
      by (inr bare) = rw (bare.2) tt

  knows_kept : Knows w side was → Knows next side g
  knows_kept old = record {
    peer = peer_kept old.peer;
    request = request_kept old.request;
    invokes = invokes_kept old.invokes;
    answers = answers_kept old.answers;
  }

-- ---- worlds

-- A new half knows nothing.
knows_blank : (w : World) (side : Side) (g : KeyedHalf) → Knows w side (record g { half = blank })
knows_blank w side g = record {
  peer = λ id is. cc;
  request = λ received asked. cc;
  invokes = λ id. tt;
  answers = λ id. tt;
}

-- all halves of both ends have the four properties
abbrev AllKnow : World → Type 0
AllKnow w = (side : Side) (f : KeyedHalf) → HasHalf (end_at side w) f → Knows w side f

-- A step keeps this.
keeps_known : (event : Event) (w next : World) → ((side : Side) → IsEnd (end_at side w)) → Advances event w next → AllKnow w → AllKnow next
keeps_known event w next sound advances held side g had = by (moves.moves.back g had)
  where
    moves : EndMoves side w next
    moves = advances.ends side

    from : (h : Half) → HasPeer h ⊎ IsBare h → Turns moves.came h g.half → Knows w side (record g { half = h }) → Knows next side g
    from h known turns = knows_kept w next side g h moves.came moves.since advances.sent turns known

    by : (h : Half) × (HasHalf (end_at side w) (record g { half = h }) ⊎ (h ≡ blank)) × Turns moves.came h g.half → Knows next side g
    by (h, inl there, turns) =
        let f : KeyedHalf = record g { half = h } in
        from h (peer_or_bare h ((sound side).halves f there)) turns (held side f there)
    by (h, inr new, turns) = from h (rw new (inr (λ received. cc, refl, refl))) turns (rw new (knows_blank w side g))

-- It holds after each run.
all_know : (table : Table) (events : List Event) (w : World) → Runs table events w → AllKnow w
all_know table = worlds_keep table (λ events w. AllKnow w) (λ events w none side f had. absurd (none.halves side f had))
    (λ before. keeps_known)

-- The four properties hold in each run.
pub knows : (table : Table) (events : List Event) (w : World) (side : Side) (f : KeyedHalf) → Runs table events w → HasHalf (end_at side w) f
    → Knows w side f
knows table events w side f runs had = all_know table events w runs side f had
