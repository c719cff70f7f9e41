use Rattle.std.proofs.Common.{◌||◌, sym, ap, ◌∙◌}
use Rattle.std.specs.BTreeSet as set
use Rattle.std.proofs.lemmas.Result.{on_ok_weaker}
use Rattle.tcap_end.specs.Table.{octets_cmp}
use Rattle.tcap_faults.proofs.transaction_laws.JoinedIdsLaws.{has_none}
use Rattle.tcap_faults.proofs.transaction_laws.MessageMoreLaws.{begin_only, end_only}
use Rattle.tcap_faults.proofs.transaction_laws.ShownClosedLaws.{guessed_is, guesses_not}
use Rattle.tcap_faults.proofs.transaction.history_update.note_guessed.Goals as goal

pub returns-in_default : goal.returns-in_default
returns-in_default g c = λ table side items are.
    let m = g.M.MessageParts.meaning c.args.message.now in
    has_none _ c.args.guessed.now (guesses_not side items m (end_only m (sym c.in_default.ensures)))

pub returns-in-Some-dtid : goal.returns-in-Some-dtid
returns-in-Some-dtid g c = λ table side items are.
    let m = g.M.MessageParts.meaning c.args.message.now in
    let otid = sym c.in-Some.ensures in
    let dtid = sym c.in-Some-dtid.ensures in
    on_ok_weaker c.insert_if.result
    (λ more id. more id
    ∙ ap (λ b. set.contains octets_cmp c.args.guessed.now id || b)
    (guessed_is side items m _ _ otid dtid id c.args.effects.guesses (are.guesses _ _ otid dtid)))
    c.insert_if.ensures

pub returns-in-None : goal.returns-in-None
returns-in-None g c = λ table side items are.
    let m = g.M.MessageParts.meaning c.args.message.now in
    has_none _ c.args.guessed.now (guesses_not side items m (begin_only m (sym c.in-None.ensures)))
