-- The certificate found for a segment is the proposed one, within the limits.
use Rattle.std.proofs.Common.{refl, ◌∙◌}
use Rattle.tcap_search.proofs.FoundLaws.{closings_are, expiries_are, in_order, segment_is}
use Rattle.tcap_search.proofs.LimitLaws.{closings_small, expiries_small, fates_small}
use Rattle.tcap_search.proofs.LossLaws.{count_fates}
use Rattle.tcap_search.proofs.certificate_so_far.PartialCertificate.of_fates.Goals as goal

pub expiries_of-requires-clause-count : goal.expiries_of-requires-clause-count
expiries_of-requires-clause-count c =
    let (judged, marked, are) = c.requires.fates in
    count_fates judged marked c.args.entries.now c.deref.result.now (c.deref.ensures.value ∙ are)

pub expiries_of-requires-clause-order : goal.expiries_of-requires-clause-order
expiries_of-requires-clause-order c =
    let (judged, marked, are) = c.requires.fates in
    in_order judged marked c.args.entries.now c.deref.result.now (c.deref.ensures.value ∙ are)

pub closings_of-requires-clause-count : goal.closings_of-requires-clause-count
closings_of-requires-clause-count c =
    let (judged, marked, are) = c.requires.fates in
    count_fates judged marked c.args.entries.now c.deref-2.result.now (c.deref-2.ensures.value ∙ are)

pub invariant_of-result : goal.invariant_of-result
invariant_of-result c =
    let (judged, marked, are) = c.requires.fates in (
      fates_small judged marked c.args.entries.now c.requires.few c.args.fates.items are,
      expiries_small judged marked c.args.entries.now c.requires.few c.in_ok-expire.expire.items
          (expiries_are judged marked c.args.entries.now c.args.fates.items are c.in_ok-expire.expire.items
          (rw c.deref.ensures.value at c.in_ok-expire.ensures)),
      closings_small judged marked c.args.entries.now c.requires.few c.in_ok-close.close.items
          (closings_are judged marked c.args.entries.now c.args.fates.items are c.in_ok-close.close.items
          (rw c.deref-2.ensures.value at c.in_ok-close.ensures)),
    )

pub returns : goal.returns
returns c =
    λ judged marked are.
    segment_is judged marked c.args.entries.now c.args.fates.items are _ refl
    (rw c.deref.ensures.value at c.in_ok-expire.ensures) (rw c.deref-2.ensures.value at c.in_ok-close.ensures)
