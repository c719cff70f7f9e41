use Rattle.tcap_msg.specs.Meaning.{id_of}
use Rattle.tcap_faults.proofs.transaction_laws.SameIdsLaws.{among_one}
use Rattle.tcap_faults.proofs.transaction.lookup.first_in.Goals as goal

pub returns-in-Some : goal.returns-in-Some
returns-in-Some c = λ xs are.
    rw c.key_of.ensures (among_one (id_of c.first.result) c.first.ensures (rw c.in-Some.is at are))

pub returns-in-None : goal.returns-in-None
returns-in-None c = λ xs are. rw c.in-None.is at are
