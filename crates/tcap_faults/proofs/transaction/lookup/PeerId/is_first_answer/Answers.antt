use denote.Enum.Bare.{sameb}
use Rattle.std.specs.Prelude.{is_none}
use Rattle.tcap_msg.specs.declared.kind.Kind.TheVariants as forms
use Rattle.tcap_msg.specs.declared.transaction_id.TransactionIdView.{TransactionIdView}
use Rattle.tcap_msg.specs.Meaning.{id_of}
use Rattle.tcap_record.specs.declared.entry.End.{End as Side}
use Rattle.tcap_model.specs.World.{Item}
use Rattle.std.proofs.Common.{◌≡◌, ℕ, Bool, List, Option, None, Some, ◌&&◌, is_some, false, true, not, refl, sym, ap, ◌∙◌, arith}
use Rattle.tcap_refute.specs.EarlierMessages.{has_a}
use Rattle.tcap_faults.specs.SentToId.{outgoing}
use Rattle.tcap_faults.specs.HalfByPeerId.{HalfMessages}
use Rattle.tcap_faults.specs.IdList.{ids_first}
use Rattle.tcap_faults.specs.contracts.dialogue.half_origin.HalfOrigin.{the_type}
use Rattle.tcap_faults.specs.declared.dialogue.half_origin.HalfOrigin.{HalfOrigin}
use Rattle.tcap_faults.specs.declared.dialogue.half_origin.HalfOrigin.TheVariants as origins
use Rattle.tcap_faults.specs.HalfKinds.{is_accepted, is_first_answer}
use Rattle.tcap_faults.specs.History.{otids_of, sent_to}
use Rattle.tcap_faults.proofs.dialogue_laws.HalfLookupLaws.{went_on}
use Rattle.tcap_faults.proofs.transaction.lookup.PeerId.is_first_answer.Goals as goal

is_so : (origin : HalfOrigin) → false ≡ not (sameb the_type origin origins.Accepted) → is_accepted origin ≡ true
is_so origin same = grind (arith, same)

-- A Continue was sent to the ID exactly if a first own ID is kept.
is_first : (side : Side) (items : List Item) (id : List ℕ) (h : HalfMessages) (first : Option (List ℕ))
    → is_accepted h.origin ≡ true → first ≡ ids_first (otids_of (sent_to side items id))
    → is_none first ≡ is_first_answer side items id h
is_first side items id h first so is =
    ap is_none is ∙ went_on side id items
    ∙ ap (λ b. b && not (has_a forms.Continue (outgoing side id items))) (sym so)

none_so : (o : Option TransactionIdView) (b : Bool) → is_some o ≡ not b → b ≡ is_none (id_of o)
none_so o b is = grind (arith, is)

pub returns-in-Some : goal.returns-in-Some
returns-in-Some c = λ table side items h is half.
    let to = (rw c.in-Some.is at is.to).1 in
    let so = ap is_accepted (sym half.origin) ∙ is_so c.args.half.now.origin c.if-ne.ensures in
    none_so c.first.result c.is_none.result c.is_none.ensures
    ∙ is_first side items c.args.self.id.now h (id_of c.first.result) so
    (c.first.ensures (otids_of (sent_to side items c.args.self.id.now)) to.from)

pub returns-in-None : goal.returns-in-None
returns-in-None c = λ table side items h is half.
    let so = ap is_accepted (sym half.origin) ∙ is_so c.args.half.now.origin c.if-ne.ensures in
    let none = rw c.in-None.is at is.to in
    is_first side items c.args.self.id.now h None so (ap (λ ms. ids_first (otids_of ms)) (sym none))
