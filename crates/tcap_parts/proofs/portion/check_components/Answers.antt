use Rattle.std.proofs.Common.{[], ◌∷◌, length, sym, ap, ◌∙◌, arith}
use Rattle.std.proofs.lemmas.Result.{err_from_is_err_and}
use Rattle.tcap_ber.specs.Reading.{span, is_read}
use Rattle.tcap_ber.proofs.EachLoopLaws.{with_front-err, not_empty, is_empty}
use Rattle.tcap_parts.specs.Meaning.{component_of}
use Rattle.tcap_parts.proofs.PortionLaws.{components_end, components_fault, components_step, left_end, left_step, rest_is_read, rest_is_shorter}
use Rattle.tcap_parts.proofs.portion.check_components.Goals as goal

pub returns-in_err-behind-clause-err : goal.returns-in_err-behind-clause-err
returns-in_err-behind-clause-err c =
    let p = err_from_is_err_and c.from_residual.result c.from_residual.ensures.1 in
    let some = not_empty (length c.loop-rest.rest.octets.now) c.is_empty.result c.is_empty.ensures c.loop-rest-test.true in
    rw (p.1, p.2) (c.loop-rest.invariant.fault _ (components_fault (span c.loop-rest.rest) _ some c.in_err-behind.ensures.exact))

pub loop-rest-smaller : goal.loop-rest-smaller
loop-rest-smaller c = rest_is_shorter (span c.loop-rest.rest) _ (span c.in_ok-behind.behind) c.in_ok-behind.ensures.exact

pub loop-rest-preserved : goal.loop-rest-preserved
loop-rest-preserved c =
    let some = not_empty (length c.loop-rest.rest.octets.now) c.is_empty.result c.is_empty.ensures c.loop-rest-test.true in
    let step = components_step (span c.loop-rest.rest) _ (span c.in_ok-behind.behind) some c.in_ok-behind.ensures.exact in
    record {
      read = c.loop-rest.invariant.read ∙ sym (rest_is_read (span c.loop-rest.rest) _ (span c.in_ok-behind.behind) some c.in_ok-behind.ensures.exact);
      fault = λ f e. c.loop-rest.invariant.fault f (step ∙ with_front-err (component_of c.in_ok-behind.field-0-0 ∷ []) _ f e);
      few = omega (arith, c.loop-rest.invariant.few, rest_is_shorter (span c.loop-rest.rest) _ (span c.in_ok-behind.behind) c.in_ok-behind.ensures.exact);
      counted = λ whole.
          let here = sym c.loop-rest.invariant.read ∙ whole in
          let more = left_step (span c.loop-rest.rest) _ (span c.in_ok-behind.behind) some c.in_ok-behind.ensures.exact here in
          omega (arith, c.loop-rest.invariant.counted whole, ap length more);
    }

pub returns-clause-ok : goal.returns-clause-ok
returns-clause-ok c =
    let none = is_empty (length c.loop-rest.rest.octets.now) c.is_empty.result c.is_empty.ensures c.loop-rest-test.false in
    c.loop-rest.invariant.read ∙ ap is_read (components_end (span c.loop-rest.rest) none)

pub returns-clause-counted : goal.returns-clause-counted
returns-clause-counted c =
    let none = is_empty (length c.loop-rest.rest.octets.now) c.is_empty.result c.is_empty.ensures c.loop-rest-test.false in
    let whole = c.loop-rest.invariant.read ∙ ap is_read (components_end (span c.loop-rest.rest) none) in
    omega (arith, c.loop-rest.invariant.counted whole, ap length (left_end (span c.loop-rest.rest) none))
