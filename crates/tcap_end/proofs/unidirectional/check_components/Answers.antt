use Rattle.std.proofs.Common.{sym, ◌∙◌, to_z-of_z, SFits, w8, rules}
use Rattle.tcap_parts.specs.Meaning.{components_left}
use Rattle.tcap_end.proofs.UniLaws.{uni_all, uni_busy, uni_linked, uni_more, uni_reports, uni_unknown}
use Rattle.tcap_end.proofs.AnswerLaws.{on_ok}
use Rattle.tcap_end.proofs.unidirectional.check_components.Goals as goal

pub loop-component-init : goal.loop-component-init
loop-component-init c = rw (c.into_iter-component-iterator.ensures.into_iter_gives, c.new-used.ensures.empty)
    (uni_all c.args.table.now (components_left c.args.components))

pub loop-component-preserved : goal.loop-component-preserved
loop-component-preserved c =
    let fits : SFits w8 c.in-Invoke.id = search rules in
    uni_more c.loop-component.invariant (rw c.in-Invoke.is at c.in-Some.ensures.steps) (sym c.in-Some-class_of.ensures.exact)
    (sym c.reports_neither.ensures ∙ c.if-not-reports_neither.false)
    (sym (rw (to_z-of_z fits) at c.contains_key.ensures) ∙ c.if-contains_key.false)
    c.insert.new.self.entries (sym c.is_some.ensures ∙ c.if-is_some.false)
    (on_ok c.insert.result (sym c.is_err.ensures.value ∙ c.if-is_err.false) (rw (to_z-of_z fits) at c.insert.ensures.updates)).0

pub returns-in_default-class_of : goal.returns-in_default-class_of
returns-in_default-class_of c = record {
  step = λ other. uni_unknown c.loop-component.invariant (rw c.in-Invoke.is at c.in-Some.ensures.steps)
      (sym c.in_default-class_of.ensures.exact);
}

pub returns-then-not-reports_neither : goal.returns-then-not-reports_neither
returns-then-not-reports_neither c = record {
  step = λ other. uni_reports c.loop-component.invariant (rw c.in-Invoke.is at c.in-Some.ensures.steps)
      (sym c.in-Some-class_of.ensures.exact) (sym c.reports_neither.ensures ∙ c.if-not-reports_neither.true);
}

pub returns-then-contains_key : goal.returns-then-contains_key
returns-then-contains_key c =
    let fits : SFits w8 c.in-Invoke.id = search rules in
    record {
      step = λ other. uni_busy c.loop-component.invariant (rw c.in-Invoke.is at c.in-Some.ensures.steps)
          (sym c.in-Some-class_of.ensures.exact) (sym c.reports_neither.ensures ∙ c.if-not-reports_neither.false)
          (sym (rw (to_z-of_z fits) at c.contains_key.ensures) ∙ c.if-contains_key.true);
    }

pub returns-then-is_some : goal.returns-then-is_some
returns-then-is_some c =
    let fits : SFits w8 c.in-Invoke.id = search rules in
    record {
      step = λ other. uni_linked c.loop-component.invariant (rw c.in-Invoke.is at c.in-Some.ensures.steps)
          (sym c.in-Some-class_of.ensures.exact) (sym c.reports_neither.ensures ∙ c.if-not-reports_neither.false)
          (sym (rw (to_z-of_z fits) at c.contains_key.ensures) ∙ c.if-contains_key.false) (sym c.is_some.ensures ∙ c.if-is_some.true);
    }
