use Rattle.tcap_evidence_laws.proofs.GivenLaws.{given_of_mark, given_of_message}
use Rattle.tcap_evidence_laws.proofs.laws.lists_are_given.Goals as goal

pub returns : goal.returns
returns c = record {
  message = λ of_one table side sender entries r m. given_of_message of_one table side entries r sender m;
  mark = given_of_mark;
}
