use Rattle.std.proofs.Common.{◌∙◌}
use Rattle.tcap_msg.specs.Parts.{dtid_in, otid_in}
use Rattle.tcap_faults.proofs.transaction_laws.LookupLaws.{over_nothing, over_those, there_is, there_none}
use Rattle.tcap_faults.proofs.transaction.tangled_ids.Ends.tangled_in.Goals as goal

pub returns-in-Some : goal.returns-in-Some
returns-in-Some c = λ table items m was their found.
    let end = c.args.end in
    let there = c.in-Some.peer_id in
    let (id, named, at) = there_is table end items (dtid_in m) there (rw c.in-Some.is at found.peer_id) in
    c.tangled_id.ensures table items id (otid_in m) was their at found.own ∙ over_those end items m id named

pub returns-in-None : goal.returns-in-None
returns-in-None c = λ table items m was their found.
    over_nothing c.args.end items m (there_none table c.args.end items (dtid_in m) (rw c.in-None.is at found.peer_id))
