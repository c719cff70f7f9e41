use Rattle.std.proofs.Common.{refl}
use Rattle.tcap_msg.specs.Parts.{otid_in}
use Rattle.tcap_faults.proofs.transaction_laws.LookupLaws.{own_is, own_none}
use Rattle.tcap_faults.proofs.transaction.lookup.MessageIds.first_own.Goals as goal

pub returns-in-Some : goal.returns-in-Some
returns-in-Some c = λ table side items m fact is.
    let (id, named, at) = own_is table side items (otid_in m) c.in-Some.own (rw c.in-Some.is at is.own) in
    rw named (c.first_of.ensures table side items id fact at.from)

pub returns-in-None : goal.returns-in-None
returns-in-None c = λ table side items m fact is.
    rw (own_none table side items (otid_in m) (rw c.in-None.is at is.own)) refl
