use Rattle.std.proofs.Common.{◌≡◌, true, sym, ap, ◌∙◌}
use Rattle.tcap_dialogues.specs.CutState.{known_in}
use Rattle.tcap_dialogues.proofs.KnownLaws.{sent_added}
use Rattle.tcap_dialogues.proofs.known_ids.EndIds.add_sent.Goals as goal

pub returns-in_ok-insert : goal.returns-in_ok-insert
returns-in_ok-insert c =
    let self = c.args.self.now in
    let sent : (known_in self c.args.id.now).sent ≡ true =
    sym (ap (λ known. known.sent) (c.get.ensures ∙ ap (known_in self) c.view.ensures)) ∙ c.if-get.true in
    sent_added self c.args.id.now c.args.ids.now c.insert.new.self sent
    (rw (c.to_transaction_id.ensures, c.view-then-get.ensures) at c.in_ok-insert.ensures.updates.0)
