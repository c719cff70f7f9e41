use Rattle.tcap_faults.proofs.dialogue_laws.WhichHalf.{begun_it, half_unasked}
use Rattle.tcap_faults.proofs.transaction.tangled_ids.Ends.half.Goals as goal

pub returns-in_default : goal.returns-in_default
returns-in_default c = λ table side items own is.
    rw (half_unasked table side items c.args.peer_id.id.now (rw c.in_default.is at is.from)) (c.no_half.ensures table)

pub returns-in-Some-begin : goal.returns-in-Some-begin
returns-in-Some-begin c = λ table side items own is.
    let kept = (rw c.in-Some.is at is.from).1.from in
    rw (begun_it table side items c.args.peer_id.id.now c.in-Some.asked.now kept c.in-Some-begin.begin c.in-Some-begin.is)
    (c.accepted_half.ensures table side items is kept c.in-Some-begin.is)

pub returns-in-None : goal.returns-in-None
returns-in-None c = λ table side items own is.
    let kept = (rw c.in-Some.is at is.from).1.from in
    c.other_half.ensures table side items own is kept c.in-None.is
