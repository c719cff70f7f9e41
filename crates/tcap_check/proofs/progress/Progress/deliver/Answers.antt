use Rattle.std.proofs.Common.{sym}
use Rattle.tcap_check.specs.Progress.{HasNoMore}
use Rattle.tcap_check.specs.ReplaySteps.{message_received}
use Rattle.tcap_check.proofs.progress_laws.KeptGrowth.{received_grows, yields_so}
use Rattle.tcap_check.proofs.progress.Progress.deliver.Goals as goal

pub returns-clause-grows : goal.returns-clause-grows
returns-clause-grows c =
    yields_so (HasNoMore c.args.self.now) (message_received c.args.judged c.args.table.now c.args.sender c.args.number c.args.self.now) c.deliver_first.result c.deliver_first.new.self
    (rw (sym c.in_ok-lose_front.ensures.lost) c.deliver_first.ensures.delivered)
    (λ next is. received_grows c.args.judged c.args.table.now c.args.sender c.args.number c.args.self.now next is)
