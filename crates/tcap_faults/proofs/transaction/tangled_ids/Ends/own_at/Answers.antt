use Rattle.std.proofs.Common.{refl}
use Rattle.tcap_faults.proofs.transaction.tangled_ids.Ends.own_at.Goals as goal

pub returns : goal.returns
returns c = λ table side items own_is peer_is. record {
  it = refl;
  from = rw c.get.ensures.value (own_is.from c.args.id.now);
  to = rw c.get-2.ensures.value (peer_is.to c.args.id.now);
}
