use Rattle.tcap_refute.specs.EarlierMessages.{since_quiet}
use Rattle.tcap_faults.proofs.transaction.history.Facts.find.Goals as goal

pub returns : goal.returns
returns c = λ table items m are.
    let (own, peer) = c.ends.ensures table items are in
    c.find.ensures table c.args.side (since_quiet items) m own peer
