use Rattle.std.proofs.Common.{sym, ◌∙◌}
use Rattle.tcap_check.proofs.progress_laws.KeptMarks.{listed_is}
use Rattle.tcap_check.proofs.progress.Progress.take_mark.Goals as goal

pub returns-in-Some-Some-clause-taken : goal.returns-in-Some-Some-clause-taken
returns-in-Some-Some-clause-taken c =
    listed_is c.args.judged c.in-Some-Some.alone c.args.table.now c.args.number c.args.takes.now c.args.self.now c.mark_listed.new.self
    c.mark_listed.result c.in-Some-Some.is-0 (sym c.is_empty.ensures ∙ c.if-not-is_empty.false) c.mark_listed.ensures.taken
