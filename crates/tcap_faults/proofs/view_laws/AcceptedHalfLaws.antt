-- An accepted half and the list: the Begin that its peer sent, and the Continue with which it answered.
use Rattle.std.proofs.Common.{◌≡◌, ◌⊎◌, inl, inr, true, List, [], ◌∷◌, Some, refl, sym, ap, ◌∙◌}
use Rattle.std.specs.Prelude.{Contains, ◌&&◌}
use Rattle.std.proofs.lemmas.Bool.{and_from}
use Rattle.std.proofs.lemmas.List.Elements.{Contains-append_right}
use Rattle.tcap_msg.specs.declared.kind.Kind.TheVariants as forms
use Rattle.tcap_msg.specs.declared.message.Message.{Message}
use Rattle.tcap_msg.specs.declared.message.Message.TheVariants.{Begin, Continue}
use Rattle.tcap_msg.specs.Parts.{dialogue_in, otid_in}
use Rattle.tcap_record.specs.declared.entry.End.{End as Side}
use Rattle.tcap_end.specs.declared.half.Phase.{Phase}
use Rattle.tcap_end.specs.declared.half.Phase.TheVariants as phases
use Rattle.tcap_end.specs.declared.half.Slot.TheVariants.{Accepted}
use Rattle.tcap_end.specs.Table.{Table}
use Rattle.tcap_end.specs.Half.{Half}
use Rattle.tcap_end.specs.End.{End, KeyedHalf, is_id}
use Rattle.tcap_end.specs.ReachableEnd.{HasHalf}
use Rattle.tcap_end.proofs.EndLaws.{no_half}
use Rattle.tcap_record.specs.Ends.{other}
use Rattle.tcap_model.specs.World.{Item}
use Rattle.tcap_refute.specs.EarlierMessages.{peer_sent_from, is_a, sent_by}
use Rattle.tcap_end.proofs.FoundLaws.{is_that_id}
use Rattle.tcap_refute.proofs.Members.{filter_has, has_first}
use Rattle.tcap_refute.proofs.HalfLawsTurns.{Accepts, Answers, Starts, Turned, answers, closes, learns, stays}
use Rattle.tcap_faults.specs.SentToId.{outgoing}
use Rattle.tcap_faults.proofs.view_laws.AdvanceLaws.{Advance, advances_keep}
use Rattle.tcap_faults.proofs.view_laws.BegunHalfLaws.{stands_on, standing_of}
use Rattle.tcap_faults.proofs.view_laws.GrowthLaws.{asked_still, outgoing_still}
use Rattle.tcap_faults.proofs.view_laws.ViewLaws.{View}

-- ---- the Begin

-- The peer sent a Begin, and the dialogue has the state that the Begin gives.
pub record IsAskedBy (side : Side) (items : List Item) (f : KeyedHalf) : Type 0 where
  pub begin : Message
  pub was_asked : Contains (peer_sent_from side f.key items) begin
  pub begins : is_a forms.Begin begin ≡ true
  pub stands : f.half.dialogue_state ≡ standing_of f.half.phase (dialogue_in begin)

abbrev AllAsked : Side → End → List Item → Type 0
AllAsked side e items = (f : KeyedHalf) → HasHalf e f → f.slot ≡ Accepted → IsAskedBy side items f

module _ {table : Table} {side : Side} (e next : End) (items after : List Item)
    (step : Advance table side e next items after) where
  accepted : (g : KeyedHalf) → Accepts step.deed e g → IsAskedBy side after g
  accepted g it = record {
    begin = m;
    was_asked = asked_still step.grows g.key m
        (filter_has _ (sent_by (other side) items) m (step.incoming m it.deed_is) (is_that_id g.key (Some g.key) refl));
    begins = refl;
    stands = it.dialogue_state ∙ ap (λ (p : Phase). standing_of p it.dialogue) (sym it.phase);
  }
    where
      m : Message
      m = Begin g.key it.dialogue it.components

  asked_then : AllAsked side e items → AllAsked side next after
  asked_then held g had slot = by (step.acts.back g had)
    where
      by : (Starts step.deed e g ⊎ Accepts step.deed e g)
          ⊎ ((h : Half) × HasHalf e (record g { half = h }) × Turned table step.deed h g.half) → IsAskedBy side after g
      by (inl (inl new)) = let bad = sym slot ∙ new.slot in cc
      by (inl (inr new)) = accepted g new
      by (inr (h, was, turned)) =
          let old = held (record g { half = h }) was slot in
          record {
            begin = old.begin;
            was_asked = asked_still step.grows g.key old.begin old.was_asked;
            begins = old.begins;
            stands = stands_on h g.half (dialogue_in old.begin) turned old.stands;
          }

pub all_asked : {table : Table} {side : Side} {e : End} {coming : List Message} {items : List Item}
    → View table side e coming items → (f : KeyedHalf) → HasHalf e f → f.slot ≡ Accepted → IsAskedBy side items f
all_asked {table} {side} {e} {coming} {items} view =
    advances_keep table side (AllAsked side) (λ f had slot. no_half f.slot f.key f.half had)
    (λ e next coming items after view step. asked_then e next items after step) e coming items view

-- ---- its answer

-- The half sent its peer a Continue from its own ID.
pub record HasTold (side : Side) (items : List Item) (f : KeyedHalf) : Type 0 where
  pub message : Message
  pub was_outgoing : Contains (outgoing side f.key items) message
  pub goes_on : is_a forms.Continue message ≡ true
  pub from : otid_in message ≡ f.half.own

abbrev AllTold : Side → End → List Item → Type 0
AllTold side e items =
    (f : KeyedHalf) → HasHalf e f → f.slot ≡ Accepted → f.half.phase ≡ phases.Active → HasTold side items f

module _ {table : Table} {side : Side} (e next : End) (items after : List Item)
    (step : Advance table side e next items after) where
  answered : (g : KeyedHalf) (h : Half) → HasHalf e (record g { half = h }) → g.slot ≡ Accepted → Answers step.deed h g.half
      → HasTold side after g
  answered g h was slot it = record {
    message = m;
    was_outgoing = filter_has _ (sent_by side after) m there to;
    goes_on = refl;
    from = sym it.own;
  }
    where
      m : Message
      m = Continue it.id it.to it.dialogue it.components

      there : Contains (sent_by side after) m
      there =
          rw (step.grows.mine_is, step.said m it.deed_is)
          (Contains-append_right (sent_by side items) (m ∷ []) m (has_first m []))

      to : (is_id g.key (Some it.to) && true) ≡ true
      to =
          let kept : h.peer ≡ Some g.key = rw slot at (step.is_end.kept (record g { half = h }) was) in
          and_from (is_id g.key (Some it.to)) true (is_that_id g.key (Some it.to) (sym it.peer_was ∙ kept)) refl

  outgoing_then : AllTold side e items → AllTold side next after
  outgoing_then held g had slot active = by (step.acts.back g had)
    where
      turns : (h : Half) → HasHalf e (record g { half = h }) → Turned table step.deed h g.half → HasTold side after g
      turns h was (stays it) =
          let old = held (record g { half = h }) was slot (sym it.phase ∙ active) in
          record {
            message = old.message;
            was_outgoing = outgoing_still step.grows g.key old.message old.was_outgoing;
            goes_on = old.goes_on;
            from = old.from ∙ sym it.own;
          }
      turns h was (closes it) = let bad = sym active ∙ it.phase in cc
      turns h was (answers it) = answered g h was slot it
      turns h was (learns it) =
          let kept : h.peer ≡ Some g.key = rw slot at (step.is_end.kept (record g { half = h }) was) in
          let bad = sym kept ∙ it.peer_was in cc

      by : (Starts step.deed e g ⊎ Accepts step.deed e g)
          ⊎ ((h : Half) × HasHalf e (record g { half = h }) × Turned table step.deed h g.half) → HasTold side after g
      by (inl (inl new)) = let bad = sym slot ∙ new.slot in cc
      by (inl (inr new)) = let bad = sym active ∙ new.phase in cc
      by (inr (h, was, turned)) = turns h was turned

pub all_outgoing : {table : Table} {side : Side} {e : End} {coming : List Message} {items : List Item}
    → View table side e coming items → (f : KeyedHalf) → HasHalf e f → f.slot ≡ Accepted → f.half.phase ≡ phases.Active
    → HasTold side items f
all_outgoing {table} {side} {e} {coming} {items} view =
    advances_keep table side (AllTold side) (λ f had slot active. no_half f.slot f.key f.half had)
    (λ e next coming items after view step. outgoing_then e next items after step) e coming items view
