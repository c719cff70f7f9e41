use Rattle.std.proofs.Common.{refl}
use Rattle.std.specs.Prelude.{option_copied}
use Rattle.tcap_faults.proofs.transaction_laws.JoinTestLaws.{incoming_among}
use Rattle.tcap_faults.proofs.transaction.tangled_ids.Ends.peer_id.Goals as goal

pub returns : goal.returns
returns c = λ table side items own_is peer_is. record {
  it = refl;
  from = rw c.get.ensures.value (peer_is.from c.args.id.now);
  to = rw c.get-2.ensures.value (own_is.to c.args.id.now);
  joined = incoming_among side items c.args.id.now (option_copied c.get-3.result)
      (rw c.get-3.ensures.value (peer_is.joined c.args.id.now));
}
