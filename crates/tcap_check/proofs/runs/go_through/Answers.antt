use Rattle.std.proofs.Common.{Err, sym, ap, subst, true}
use Rattle.std.proofs.lemmas.Result.{err_from_is_err_and}
use Rattle.tcap_end.specs.Table.{Table}
use Rattle.tcap_certificate.specs.declared.fault.CheckFault.{CheckFault}
use Rattle.tcap_check.specs.ReplayInvariants.{kept_in}
use Rattle.tcap_check.specs.RunSoFar.{ShowsAmong}
use Rattle.tcap_check.proofs.checker_laws.ListedStepsLaws.{ends_listed, refused_listed}
use Rattle.tcap_check.proofs.refusal_laws.SendShows.{end_shows}
use Rattle.tcap_check.proofs.refusal_laws.TakenEntriesLaws.{GoesAlike, among_ends}
use Rattle.tcap_check.proofs.runs.go_through.Goals as goal

pub returns-in_err-take_all-clause-answer : goal.returns-in_err-take_all-clause-answer
returns-in_err-take_all-clause-answer c =
    let x = c.args.replaying.now in
    let p = err_from_is_err_and c.from_residual.result c.from_residual.ensures.1 in
    rw p.1 (λ start other. refused_listed x.judged x.table.now x.certificate.now c.args.record.now.entries.items p.0 c.take_all.new.self.progress
    (c.in_err-take_all.ensures.refused true p.0 start (ap (λ (f : CheckFault). Err f) (sym p.2)) other))

pub returns-clause-answer : goal.returns-clause-answer
returns-clause-answer c = λ start.
    let kept = c.in_ok-take_all.ensures in
    let alike : GoesAlike c.args.replaying.now c.take_all.new.self = record { judged = kept.judged; table = kept.table; certificate = kept.certificate } in
    ends_listed c.args.replaying.now c.take_all.new.self c.args.record.now.entries.items c.end.result c.end.new.self.progress alike
    (kept.took true start) c.end.ensures.ended

pub returns-clause-so_far : goal.returns-clause-so_far
returns-clause-so_far c = λ start.
    let kept = c.in_ok-take_all.ensures in
    let alike : GoesAlike c.args.replaying.now c.take_all.new.self = record { judged = kept.judged; table = kept.table; certificate = kept.certificate } in
    among_ends c.args.replaying.now c.take_all.new.self c.args.record.now.entries.items c.end.result c.end.new.self.progress
    alike (kept.took true start) c.end.ensures.left

pub returns-clause-shows : goal.returns-clause-shows
returns-clause-shows c = λ start.
    let x = c.take_all.new.self in
    let entries = c.args.record.now.entries.items in
    subst (λ (t : Table). ShowsAmong t entries c.end.result c.end.new.self.progress) (ap (λ y. y.now) c.in_ok-take_all.ensures.table)
    (end_shows x.judged x.table.now x.certificate.now (kept_in x) entries c.end.new.self.progress c.end.result c.end.ensures.ended)
