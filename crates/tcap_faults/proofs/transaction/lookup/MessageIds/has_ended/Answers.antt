use Rattle.std.proofs.Common.{refl}
use Rattle.tcap_msg.specs.Parts.{dtid_in}
use Rattle.tcap_faults.proofs.transaction_laws.LookupLaws.{there_is, there_none}
use Rattle.tcap_faults.proofs.transaction.lookup.MessageIds.has_ended.Goals as goal

pub returns-in-Some : goal.returns-in-Some
returns-in-Some c = λ table side items m is.
    let (id, named, at) = there_is table side items (dtid_in m) c.in-Some.peer_id (rw c.in-Some.is at is.peer_id) in
    rw named (c.is_ended.ensures table side items id at.to)

pub returns-in-None : goal.returns-in-None
returns-in-None c = λ table side items m is.
    rw (there_none table side items (dtid_in m) (rw c.in-None.is at is.peer_id)) refl
