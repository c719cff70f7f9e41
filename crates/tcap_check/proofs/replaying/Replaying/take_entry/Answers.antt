use Rattle.std.proofs.Common.{length}
use Rattle.tcap_check.specs.ReplayInvariants.{kept_in}
use Rattle.tcap_check.proofs.refusal_laws.SendShows.{mark_shows}
use Rattle.tcap_check.proofs.replaying.Replaying.take_entry.Goals as goal

pub returns-in-None-Quiet-clause-shows : goal.returns-in-None-Quiet-clause-shows
returns-in-None-Quiet-clause-shows c =
    let x = c.args.self.now in
    rw (c.in-None-Quiet.is-0, c.in-None-Quiet.is-1) (mark_shows x.judged x.table.now x.certificate.now (kept_in x) (kept_in c.take_mark.new.self)
    (length x.entries.items) c.take_mark.new.self.progress c.take_mark.result c.take_mark.ensures.taken)
