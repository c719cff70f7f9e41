use Rattle.std.proofs.Common.{◌∙◌}
use Rattle.tcap_faults.specs.TangledIds.{tangle_of_own}
use Rattle.tcap_faults.proofs.transaction_laws.FirstTangled.{first_none_of, first_one_of}
use Rattle.tcap_faults.proofs.transaction.tangled_ids.Ends.tangled_near.Goals as goal

pub returns-in-Some : goal.returns-in-Some
returns-in-Some c = λ table side items near ids was their is one same.
    c.tangled.ensures table side items c.in-Some.id.now (c.own_near.ensures table side items near was their is)
    ∙ first_one_of c.args.end (tangle_of_own side items) ids c.in-Some.id.now (rw c.in-Some.is at one) same

pub returns-in-None : goal.returns-in-None
returns-in-None c = λ table side items near ids was their is one same.
    first_none_of c.args.end (tangle_of_own side items) ids (rw c.in-None.is at one)
