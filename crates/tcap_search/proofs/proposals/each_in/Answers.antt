use Rattle.std.proofs.Common.{None, Some, sym}
use Rattle.tcap_record.specs.declared.entry.End.TheVariants as sides
use Rattle.tcap_search.proofs.StretchLaws.{all_found, answers_so, mark_is_before, segment_begins, segment_goes_on}
use Rattle.tcap_search.proofs.proposals.each_in.Goals.{then-is_mark+in_ok-with_segment+in_ok-each, else-is_mark}
use Rattle.tcap_search.proofs.proposals.each_in.Goals as goal

pub loop-number-preserved : goal.loop-number-preserved
loop-number-preserved c =
    let was = c.loop-number.invariant in
    elim c.if-is_mark.branch [
      | then-is_mark+in_ok-with_segment+in_ok-each w ↦ record {
        so = rw (w.first-is) (segment_begins c.args.entries.now c.loop-number.number c.loop-number-test.true);
        both =
            rw (w.first-is, w.each-is)
            (mark_is_before None c.args.entries.now c.loop-number.first c.loop-number.number was.so
            c.loop-number.each.both was.both c.index-entries-number.result c.loop-number-test.true
            c.index-entries-number.is (sym w.if-is_mark.ensures) _ _ w.in_ok-with_segment.ensures.both
            w.in_ok-each.ensures.both);
        a =
            rw (w.first-is, w.each-is)
            (mark_is_before (Some sides.A) c.args.entries.now c.loop-number.first c.loop-number.number was.so
            c.loop-number.each.a was.a c.index-entries-number.result c.loop-number-test.true
            c.index-entries-number.is (sym w.if-is_mark.ensures) _ _ w.in_ok-with_segment.ensures.a
            w.in_ok-each.ensures.a);
        b =
            rw (w.first-is, w.each-is)
            (mark_is_before (Some sides.B) c.args.entries.now c.loop-number.first c.loop-number.number was.so
            c.loop-number.each.b was.b c.index-entries-number.result c.loop-number-test.true
            c.index-entries-number.is (sym w.if-is_mark.ensures) _ _ w.in_ok-with_segment.ensures.b
            w.in_ok-each.ensures.b);
      }
      | else-is_mark w ↦ record {
        so = rw (w.first-is)
            (segment_goes_on c.args.entries.now c.loop-number.first c.loop-number.number c.index-entries-number.result was.so
            c.loop-number-test.true c.index-entries-number.is (sym w.if-is_mark.ensures));
        both = rw (w.first-is, w.each-is) (was.both);
        a = rw (w.first-is, w.each-is) (was.a);
        b = rw (w.first-is, w.each-is) (was.b);
      }
    ]

pub returns-clause-both : goal.returns-clause-both
returns-clause-both c =
    let was = c.loop-number.invariant in
    answers_so _ _ c.with_segment-2.result
    (λ each is. all_found None c.args.entries.now c.loop-number.first c.loop-number.number was.so
    c.loop-number.each.both was.both c.loop-number-test.false each.both is)
    c.with_segment-2.ensures.both

pub returns-clause-a : goal.returns-clause-a
returns-clause-a c =
    let was = c.loop-number.invariant in
    answers_so _ _ c.with_segment-2.result
    (λ each is. all_found (Some sides.A) c.args.entries.now c.loop-number.first c.loop-number.number was.so
    c.loop-number.each.a was.a c.loop-number-test.false each.a is)
    c.with_segment-2.ensures.a

pub returns-clause-b : goal.returns-clause-b
returns-clause-b c =
    let was = c.loop-number.invariant in
    answers_so _ _ c.with_segment-2.result
    (λ each is. all_found (Some sides.B) c.args.entries.now c.loop-number.first c.loop-number.number was.so
    c.loop-number.each.b was.b c.loop-number-test.false each.b is)
    c.with_segment-2.ensures.b
