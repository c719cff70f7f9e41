use Rattle.std.proofs.Common.{refl}
use Rattle.tcap_faults.proofs.transaction.tangled_ids.Ends.tangled_of.Goals as goal

pub returns : goal.returns
returns g c = λ table items was their.
    c.tangled_in.ensures table items (g.M.MessageParts.meaning c.args.message.now) was their
    (c.find-found.ensures table c.args.end items (g.M.MessageParts.meaning c.args.message.now) was their
    (rw (c.as_ref.ensures.value, c.key_of-otid.ensures, c.otid.ensures) refl)
    (rw (c.as_ref-2.ensures.value, c.key_of-dtid.ensures, c.dtid.ensures) refl))
