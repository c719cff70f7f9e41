use Rattle.tcap_evidence.proofs.NamedLaws.{blamed_for}
use Rattle.tcap_explain.proofs.refuted_text.push_after.Goals as goal

pub push_why-requires : goal.push_why-requires
push_why-requires c =
    let refutation = c.in-Blamed.refutation in record {
      of_end = blamed_for c.args.table.now c.args.end c.args.read.now.entries.items refutation
          (c.requires.named refutation c.in-Blamed.is);
    }
