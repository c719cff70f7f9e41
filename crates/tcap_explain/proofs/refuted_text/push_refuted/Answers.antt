use Rattle.tcap_explain.proofs.NamedEnds.{refuted_for}
use Rattle.tcap_explain.proofs.refuted_text.push_refuted.Goals as goal

pub push_why-requires : goal.push_why-requires
push_why-requires c = record {
  of_end = rw c.sender_of-end.ensures
      (refuted_for c.args.table.now c.args.read.now.entries.items c.args.refutation c.requires.refuted);
}
