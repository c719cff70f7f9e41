use Rattle.std.proofs.Common.{◌++◌, sym, ap, subst, ◌∙◌}
use Rattle.tcap_dialogues.specs.Course.{courses_so_far}
use Rattle.tcap_dialogues.specs.CutDialogues.{AreCompleteDialogues}
use Rattle.tcap_dialogues.specs.CutState.{IsCut}
use Rattle.tcap_report.proofs.trace.Trace.finished.Goals as goal

pub returns-clause-live : goal.returns-clause-live
returns-clause-live c = λ reuse headings cut.
    let (given, is, are) =
    c.in_ok-finish.ensures reuse headings (subst (IsCut reuse headings) (sym c.replace-cut.ensures.value) cut) in
    subst (AreCompleteDialogues (courses_so_far reuse headings).live) (sym (is ∙ ap (λ l. l ++ given) c.new-given.ensures.items)) are
