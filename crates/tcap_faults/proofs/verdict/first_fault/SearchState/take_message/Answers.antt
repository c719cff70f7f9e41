use Rattle.std.proofs.Common.{refl, sym, subst}
use Rattle.std.proofs.lemmas.Bool.{not-false, not-true}
use Rattle.std.proofs.lemmas.Result.{IfOk-at_ok, on_ok_weaker}
use Rattle.tcap_faults.specs.declared.transaction.history.Facts.{Facts}
use Rattle.tcap_refute.specs.EarlierMessages.{since_quiet}
use Rattle.tcap_faults.specs.KeptForMessage.{AreMessageIds}
use Rattle.tcap_faults.specs.SearchState.{IsHalfKey}
use Rattle.tcap_faults.proofs.verdict_laws.SearchLaws.{IsLookedAt, looked_over, looked_put, message_taken}
use Rattle.tcap_faults.proofs.verdict.first_fault.SearchState.take_message.Goals.{then-not-end_search+in_ok-kind, else-not-end_search}
use Rattle.tcap_faults.proofs.verdict.first_fault.SearchState.take_message.Goals as goal

pub returns : goal.returns
returns g c = λ items are roomy.
    let m = g.M.MessageParts.meaning c.args.message.now in
    let table = c.args.table.now in
    let old = c.args.self.now in
    let found : AreMessageIds table c.args.sender (since_quiet items) m c.find-found.result =
    c.find-found.ensures table items m are (rw (c.as_ref.ensures.value, c.key_of-otid.ensures, c.otid.ensures) refl)
    (rw (c.as_ref-2.ensures.value, c.key_of-dtid.ensures, c.dtid.ensures) refl) in
    let effects = c.effects-effects.ensures items m are found in
    let looked : IsLookedAt table items c.args.number c.args.sender m old c.if-not-end_search.self = elim c.if-not-end_search.branch [
      | then-not-end_search+in_ok-kind w ↦ rw (w.self-is, w.put.ensures)
          (looked_put table items c.args.number c.args.sender m old c.of-end_search.result w.with.result w.in_ok-kind.kind
          c.of-end_search.ensures (not-true c.of-end_search.result.is_over w.if-not-end_search.true)
          (IfOk-at_ok _ w.in_ok-kind.was (w.fault_of.ensures items are roomy found effects)) w.with.ensures)
      | else-not-end_search w ↦ rw w.self-is
          (looked_over table items c.args.number c.args.sender m old c.of-end_search.result
          c.of-end_search.ensures (not-false c.of-end_search.result.is_over w.if-not-end_search.false))
    ] in
    on_ok_weaker c.note.result
    (message_taken table items c.args.number c.args.sender m old c.if-not-end_search.self c.note.new.self looked)
    (c.note.ensures items (subst (λ (k : Facts). IsHalfKey table items k) (sym looked.kept) are) effects)
