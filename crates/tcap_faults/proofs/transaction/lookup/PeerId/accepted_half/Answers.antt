use Rattle.std.proofs.Common.{◌≡◌, Bor, cond, List, ◌∷◌, map, Some, option_copied, refl, sym, ap, ◌∙◌}
use Rattle.tcap_record.specs.declared.entry.End.{End as Side}
use Rattle.tcap_end.specs.Table.{Table}
use Rattle.tcap_model.specs.World.{Item}
use Rattle.tcap_msg.specs.Meaning.{id_of}
use Rattle.std.specs.List.{list_any}
use Rattle.tcap_msg.specs.Parts.{cause_in}
use Rattle.tcap_faults.specs.SentToId.{is_cause, was_refused}
use Rattle.tcap_faults.specs.declared.transaction.sent_to_id.SentTo.{SentTo}
use Rattle.tcap_faults.specs.declared.dialogue.half_origin.HalfOrigin.TheVariants.{Accepted, Refused}
use Rattle.tcap_faults.specs.HalfByPeerId.{answered_from}
use Rattle.tcap_faults.specs.IdList.{ids_first}
use Rattle.tcap_faults.specs.History.{IsToAt, otids_of, sent_to}
use Rattle.tcap_faults.proofs.dialogue_laws.HalfLookupLaws.{first_answer, is_accepted, later_of, refused_is, outgoing_nowhere, outgoing_there}
use Rattle.tcap_faults.proofs.transaction.lookup.PeerId.accepted_half.Goals as goal
use Rattle.tcap_faults.proofs.transaction.lookup.PeerId.accepted_half.Goals.{in-Some, in-None, in-Some-own, in-None-own, in-Some-own-2+in_ok-push_came, in_default, in-Some-outgoing, in_default-outgoing-2, in_default-outgoing}

pub returns : goal.returns
returns c = λ table side items is kept begun.
    let at = is.to in
    is_accepted table side c.args.self.id.now items _ c.args.asked.now c.args.begin.now (option_copied c.args.self.to) kept
    begun at (origin table side items at) (its side items (first table side items at)) refl incoming c.in_ok-outgoing_after.ensures
    c.in_ok-outgoing_after-2.ensures
  where
    origin : (table : Table) (side : Side) (items : List Item)
        → IsToAt table (sent_to side items c.args.self.id.now) (option_copied c.args.self.to)
        → c.match-outgoing-2.origin ≡ cond (was_refused side c.args.self.id.now items) Refused Accepted
    origin table side items at = elim c.match-outgoing-2.branch [
      | in-Some-outgoing w ↦
          w.origin-is
          ∙ ap (λ b. cond b Refused Accepted) (sym w.if-outgoing.true ∙ refused w.in-Some-outgoing.outgoing w.in-Some-outgoing.is)
      | in_default-outgoing-2 w ↦
          w.origin-is
          ∙ ap (λ b. cond b Refused Accepted) (sym w.if-outgoing.false ∙ refused w.in-Some-outgoing.outgoing w.in-Some-outgoing.is)
      | in_default-outgoing w ↦
          w.origin-is
          ∙ ap (λ b. cond b Refused Accepted)
          (ap (list_any (λ m. is_cause 4 (cause_in m)))
          (sym (outgoing_nowhere table (sent_to side items c.args.self.id.now) c.args.self.to at w.in_default-outgoing.is))
          ∙ refused_is side c.args.self.id.now items)
    ]
      where
        refused : (to : Bor SentTo) → c.args.self.to ≡ Some to
            → to.now.refused ≡ was_refused side c.args.self.id.now items
        refused to is =
            (outgoing_there table (sent_to side items c.args.self.id.now) c.args.self.to at to is).refused
            ∙ refused_is side c.args.self.id.now items

    first : (table : Table) (side : Side) (items : List Item)
        → IsToAt table (sent_to side items c.args.self.id.now) (option_copied c.args.self.to)
        → id_of c.match-outgoing.own ≡ ids_first (otids_of (sent_to side items c.args.self.id.now))
    first table side items at = elim c.match-outgoing.branch [
      | in-Some w ↦
          ap id_of w.own-is
          ∙ w.first-own.ensures (otids_of (sent_to side items c.args.self.id.now))
          (outgoing_there table (sent_to side items c.args.self.id.now) c.args.self.to at w.in-Some.outgoing w.in-Some.is).from
      | in-None w ↦
          ap id_of w.own-is
          ∙ ap (λ ms. ids_first (otids_of ms))
          (sym (outgoing_nowhere table (sent_to side items c.args.self.id.now) c.args.self.to at w.in-None.is))
    ]

    its : (side : Side) (items : List Item) → id_of c.match-outgoing.own ≡ ids_first (otids_of (sent_to side items c.args.self.id.now))
        → c.match-own.own ≡ answered_from side items c.args.self.id.now
    its side items is_first = elim c.match-own.branch [
      | in-Some-own w ↦
          w.own-is ∙ ap Some w.to_transaction_id.ensures ∙ sym (ap id_of w.in-Some-own.is) ∙ is_first
          ∙ first_answer side c.args.self.id.now items
      | in-None-own w ↦
          w.own-is ∙ sym (ap id_of w.in-None-own.is) ∙ is_first ∙ first_answer side c.args.self.id.now items
    ]

    incoming : map (λ b. b.now) c.match-own-2.incoming.items
        ≡ c.args.begin.now.components ∷ later_of c.args.asked.now c.match-own.own
    incoming = elim c.match-own-2.branch [
      | in-Some-own-2+in_ok-push_came w ↦
          rw (
            w.incoming-is,
            w.in_ok-push_came.ensures,
            c.in_ok-push.ensures.items,
            c.new-incoming.ensures.items,
            w.in-Some-own-2.is,
            w.get.ensures.value,
          ) refl
      | in_default w ↦
          rw (w.incoming-is, c.in_ok-push.ensures.items, c.new-incoming.ensures.items, w.in_default.is) refl
    ]
