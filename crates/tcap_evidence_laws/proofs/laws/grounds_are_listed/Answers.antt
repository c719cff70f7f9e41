use Rattle.tcap_evidence_laws.proofs.GroundLaws.{of_mark, of_message}
use Rattle.tcap_evidence_laws.proofs.laws.grounds_are_listed.Goals as goal

pub returns : goal.returns
returns c = record {
  message = λ of_one table side sender entries r m fact numbers.
      of_message of_one table side entries r fact numbers sender m;
  mark = of_mark;
}
