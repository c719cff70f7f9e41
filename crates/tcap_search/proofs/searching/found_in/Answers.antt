use Rattle.std.proofs.Common.{sym}
use Rattle.tcap_search.proofs.StretchLaws.{all_found, answers_so, mark_is_before, segment_begins, segment_goes_on}
use Rattle.tcap_search.proofs.searching.found_in.Goals.{then-is_mark+in_ok-with_segment+in_ok-found, else-is_mark}
use Rattle.tcap_search.proofs.searching.found_in.Goals as goal

pub loop-number-preserved : goal.loop-number-preserved
loop-number-preserved c =
    let was = c.loop-number.invariant in
    elim c.if-is_mark.branch [
      | then-is_mark+in_ok-with_segment+in_ok-found w ↦ record {
        so = rw (w.first-is) (segment_begins c.args.entries.now c.loop-number.number c.loop-number-test.true);
        found =
            rw (w.first-is, w.found-is)
            (mark_is_before c.args.judged c.args.entries.now c.loop-number.first c.loop-number.number was.so
            c.loop-number.found was.found c.index-entries-number.result c.loop-number-test.true
            c.index-entries-number.is (sym w.if-is_mark.ensures) _ _ w.in_ok-with_segment.ensures w.in_ok-found.ensures);
      }
      | else-is_mark w ↦ record {
        so = rw (w.first-is)
            (segment_goes_on c.args.entries.now c.loop-number.first c.loop-number.number c.index-entries-number.result was.so
            c.loop-number-test.true c.index-entries-number.is (sym w.if-is_mark.ensures));
        found = rw (w.first-is, w.found-is) (was.found);
      }
    ]

pub returns : goal.returns
returns c =
    let was = c.loop-number.invariant in
    answers_so _ _ c.with_segment-2.result
    (λ found is. all_found c.args.judged c.args.entries.now c.loop-number.first c.loop-number.number was.so
    c.loop-number.found was.found c.loop-number-test.false found is)
    c.with_segment-2.ensures
