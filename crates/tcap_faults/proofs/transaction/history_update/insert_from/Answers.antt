use Rattle.tcap_faults.specs.History.{otids_of}
use Rattle.tcap_faults.proofs.transaction_laws.JoinStepLaws.{from_none, from_some}
use Rattle.tcap_faults.proofs.transaction.history_update.insert_from.Goals as goal

pub returns-in_default : goal.returns-in_default
returns-in_default c = λ table lists are.
    from_none table (lists c.args.id.now) (rw (← c.in_default.ensures.value) at (are c.args.id.now)) c.args.set.now

pub returns : goal.returns
returns c = λ table lists are.
    c.insert_all.ensures (otids_of (lists c.args.id.now))
    (from_some table (lists c.args.id.now) c.in-Some.kept.now
    (rw (← c.in-Some.ensures.value) at (are c.args.id.now)))
