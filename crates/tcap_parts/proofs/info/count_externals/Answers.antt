use Rattle.std.proofs.Common.{length}
use Rattle.std.proofs.lemmas.Result.{err_from_is_err_and}
use Rattle.tcap_ber.specs.Reading.{span}
use Rattle.tcap_ber.proofs.EachLoopLaws.{not_empty, is_empty}
use Rattle.tcap_parts.proofs.InfoLaws.{rest_is_shorter, counted_more, counted_fault, counted_all}
use Rattle.tcap_parts.proofs.info.count_externals.Goals as goal

pub returns-in_err-behind-clause-err : goal.returns-in_err-behind-clause-err
returns-in_err-behind-clause-err c =
    let p = err_from_is_err_and c.from_residual.result c.from_residual.ensures.1 in
    let some = not_empty (length c.loop-rest.rest.octets.now) c.is_empty.result c.is_empty.ensures c.loop-rest-test.true in
    rw (p.1, p.2) (counted_fault (span c.args.content) (span c.loop-rest.rest) c.loop-rest.count _ c.loop-rest.invariant.so_far some c.in_err-behind.ensures.exact)

pub loop-rest-smaller : goal.loop-rest-smaller
loop-rest-smaller c = rest_is_shorter (span c.loop-rest.rest) c.in_ok-behind.field-0-0.octets.now (span c.in_ok-behind.behind) c.in_ok-behind.ensures.exact

pub loop-rest-preserved : goal.loop-rest-preserved
loop-rest-preserved c =
    let some = not_empty (length c.loop-rest.rest.octets.now) c.is_empty.result c.is_empty.ensures c.loop-rest-test.true in
    record {
      so_far =
          counted_more (span c.args.content) (span c.loop-rest.rest) c.loop-rest.count c.in_ok-behind.field-0-0.octets.now (span c.in_ok-behind.behind)
          c.loop-rest.invariant.so_far some c.in_ok-behind.ensures.exact;
    }

pub returns-clause-ok : goal.returns-clause-ok
returns-clause-ok c =
    let none = is_empty (length c.loop-rest.rest.octets.now) c.is_empty.result c.is_empty.ensures c.loop-rest-test.false in
    counted_all (span c.args.content) (span c.loop-rest.rest) c.loop-rest.count c.loop-rest.invariant.so_far none
