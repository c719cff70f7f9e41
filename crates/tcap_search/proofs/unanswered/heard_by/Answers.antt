-- One more entry.
use Rattle.std.proofs.Common.{◌∙◌, arith}
use Rattle.tcap_search.proofs.UnansweredLaws.{heard_all, heard_step}
use Rattle.tcap_search.proofs.unanswered.heard_by.Goals as goal

pub bounds-fates-number : goal.bounds-fates-number
bounds-fates-number c = omega (arith, c.requires)

pub loop-number-preserved : goal.loop-number-preserved
loop-number-preserved c =
    c.in_ok-push.ensures.items
    ∙ rw c.fate_heard.ensures
    (heard_step c.args.side c.args.entries.now c.in_ok-spoken.spoken c.in_ok-spoken.ensures c.args.fates.now c.requires
    c.loop-number.number c.index-entries-number.result c.loop-number.heard.items c.loop-number-test.true
    c.index-entries-number.is c.loop-number.invariant)

pub returns : goal.returns
returns c =
    heard_all c.args.side c.args.entries.now c.in_ok-spoken.spoken c.in_ok-spoken.ensures c.args.fates.now c.requires
    c.loop-number.number c.loop-number.heard.items c.loop-number-test.false c.loop-number.invariant
