use Rattle.std.proofs.Common.{rules, refl, ◌∙◌}
use Rattle.tcap_check.proofs.checker.Checker.take.Goals as goal

pub returns-in-Some-Good-clause-refuses : goal.returns-in-Some-Good-clause-refuses
returns-in-Some-Good-clause-refuses c = λ entries entry fault took same is other.
    c.step.ensures.refuses entries entry fault took (same ∙ rw (c.in-Some-Good.is-0, c.in-Some-Good.is-1) refl) is other

pub returns-in-None-Quiet-clause-refuses : goal.returns-in-None-Quiet-clause-refuses
returns-in-None-Quiet-clause-refuses c = λ entries entry fault took same is other.
    c.mark.ensures.refuses entries entry fault took (same ∙ rw (c.in-None-Quiet.is-0, c.in-None-Quiet.is-1) refl) is other

pub returns-in_default-clause-refuses : goal.returns-in_default-clause-refuses
returns-in_default-clause-refuses c = λ entries entry fault took same is other.
    c.no_item.ensures.refuses entries entry fault took (same ∙ search rules) is other

pub returns-in_default-Bad-clause-refuses : goal.returns-in_default-Bad-clause-refuses
returns-in_default-Bad-clause-refuses c = λ entries entry fault took same is other.
    c.step-in_default-Bad.ensures.refuses entries entry fault took (same ∙ search rules) is other
