use Rattle.tcap_refute.specs.EarlierMessages.{since_quiet}
use Rattle.tcap_faults.proofs.transaction.history.Facts.effects.Goals as goal

pub returns : goal.returns
returns c = λ items m are found.
    let table = c.args.table.now in
    let side = c.args.side in
    let xs = since_quiet items in
    let (own, peer) = c.ends.ensures table items are in
    c.effects.ensures table side xs m found (c.uses_again-again.ensures side xs m own found)
