use Rattle.std.proofs.Common.{◌≡◌, ◌⊎◌, ◌++◌, ℕ, List, [], Result, ap, subst, sym, ◌∙◌, inl, inr}
use Rattle.std.proofs.lemmas.Bool.{eqb-true}
use Rattle.std.proofs.lemmas.List.{append-nil, nil_from_length}
use Rattle.std.specs.Prelude.{length}
use Rattle.tcap_ber.specs.declared.fault.Fault.{Fault}
use Rattle.tcap_ber.specs.declared.element.Outer.{Outer}
use Rattle.tcap_ber.specs.HeaderReading.{Gives}
use Rattle.tcap_ber.specs.ResumedWalk.{resumes, IsStopped}
use Rattle.tcap_ber.proofs.ResumingLaws.{ends_with}
use Rattle.tcap_ber.proofs.walk.Walk.go_on.Goals.{then-is_empty-via-then-is_empty, then-is_empty-via-else-is_empty+then-is_stopped}
use Rattle.tcap_ber.proofs.walk.Walk.go_on.Goals as goal

-- after the loop no octets are left, or the walk is over
over : (c : goal.After-answer) → (c.skipping.result.1.now ≡ []) ⊎ IsStopped c.skipping.result.0
over c = elim c.then-is_empty.branch [
  | then-is_empty-via-then-is_empty w ↦ inl (nil_from_length c.skipping.result.1.now (eqb-true (length c.skipping.result.1.now) 0 (sym c.is_empty.ensures ∙ w.if-is_empty.true)))
  | then-is_empty-via-else-is_empty+then-is_stopped w ↦ inr (w.is_stopped.ensures.0 w.if-is_stopped.true)
]

-- the walk returns for later octets what it returned for all of them before
gives : (c : goal.After-answer) (more : List ℕ) → resumes c.skipping.result.0 more ≡ resumes c.args.self.now (c.args.octets.now ++ more)
gives c = ends_with c.skipping.result.0 c.args.self.now c.skipping.result.1.now c.args.octets.now (λ more. c.skipping.ensures.same more ∙ c.loop-rest.invariant more) (over c)

pub returns-clause-answer : goal.returns-clause-answer
returns-clause-answer c =
    subst (λ (r : Result Outer Fault). Gives {X = Outer} {Y = Outer} (λ x. x) c.answer.result r) (gives c [] ∙ ap (resumes c.args.self.now) (append-nil c.args.octets.now)) c.answer.ensures.exact

pub returns-clause-goes_on : goal.returns-clause-goes_on
returns-clause-goes_on c = gives c
