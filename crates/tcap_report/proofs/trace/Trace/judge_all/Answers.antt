use Rattle.std.proofs.Common.{refl, sym, subst, ◌∙◌}
use Rattle.std.proofs.lemmas.Iterator.Adapters.{YieldsList-from_vec}
use Rattle.std.proofs.lemmas.Iterator.Consumers.{YieldsList-end}
use Rattle.std.proofs.lemmas.List.{map-id}
use Rattle.tcap_report.proofs.JudgedListLaws.{HasJudgedAll, none_judged, one_more_judged}
use Rattle.tcap_report.proofs.trace.Trace.judge_all.Goals as goal

pub loop-gathered-init : goal.loop-gathered-init
loop-gathered-init g c = record {
  judged = none_judged c.args.next c.args.self.now;
  same = (refl, refl);
  same_sum = refl;
}

pub loop-gathered-preserved : goal.loop-gathered-preserved
loop-gathered-preserved g c = record {
  judged = one_more_judged c.args.next c.loop-gathered.yielded c.in-Some.gathered c.args.self.now c.loop-gathered.self c.judge.new.self
      c.loop-gathered.invariant.judged c.in_ok-judge.ensures.keeps;
  same = (c.in_ok-judge.ensures.same.0 ∙ c.loop-gathered.invariant.same.0, c.in_ok-judge.ensures.same.1 ∙ c.loop-gathered.invariant.same.1);
  same_sum = cc;
}

pub returns-clause-keeps : goal.returns-clause-keeps
returns-clause-keeps g c =
    let all = YieldsList-end (YieldsList-from_vec c.args.given.items (cc) (cc)) c.loop-gathered.yielded c.loop-gathered.gathered-iterator
    c.loop-gathered.yielded_by c.next.result c.next.new.self c.in-None.is c.next.ensures.steps in
    subst (λ xs. HasJudgedAll c.args.next xs c.args.self.now c.loop-gathered.self)
    (sym (map-id c.loop-gathered.yielded) ∙ all.0) c.loop-gathered.invariant.judged
