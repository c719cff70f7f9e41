use Rattle.std.proofs.Common.{refl}
use Rattle.std.proofs.lemmas.Result.{on_ok_weaker}
use Rattle.tcap_refute.specs.EarlierMessages.{components_of}
use Rattle.tcap_faults.specs.HalfByPeerId.{from_first, responds}
use Rattle.tcap_faults.specs.History.{before_response}
use Rattle.tcap_faults.proofs.transaction_laws.SentFromLaws.{came_since, came_sooner}
use Rattle.tcap_faults.proofs.transaction.sent_from_id.ContinueTalliesMessageSummary.note.Goals as goal

pub returns-then-self : goal.returns-then-self
returns-then-self g c = λ ms was.
    on_ok_weaker c.note_all.result
    (came_since c.args.table.now ms (g.M.MessageParts.meaning c.args.message.now) c.args.self.now _ was
    (rw (c.is_response.ensures, c.dialogue.ensures) refl) c.if-self.true refl)
    (rw c.components.ensures at (c.note_all.ensures (components_of (from_first responds ms)) was.since))

pub returns-else-self : goal.returns-else-self
returns-else-self g c = λ ms was.
    on_ok_weaker c.note_all-else-self.result
    (came_sooner c.args.table.now ms (g.M.MessageParts.meaning c.args.message.now) c.args.self.now _ was
    (rw (c.is_response.ensures, c.dialogue.ensures) refl) c.if-self.false refl)
    (rw c.components-else-self.ensures at
    (c.note_all-else-self.ensures (components_of (before_response ms)) was.sooner))
