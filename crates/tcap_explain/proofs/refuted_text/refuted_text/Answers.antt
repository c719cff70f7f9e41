use Rattle.tcap_evidence.proofs.NamedLaws.{blamed_for}
use Rattle.tcap_explain.proofs.refuted_text.refuted_text.Goals as goal

pub push_why-requires : goal.push_why-requires
push_why-requires c = record {
  of_end = blamed_for c.args.table.now c.in-Some.end c.args.read.now.entries.items c.args.refutation
      (rw c.in-Some.is at c.requires.named);
}
