use Rattle.tcap_evidence_laws.proofs.InvocationLaws.{are_listed, is_invoke, none_given}
use Rattle.tcap_evidence_laws.proofs.laws.invocations_are_listed.Goals as goal

pub returns : goal.returns
returns c = record {
  listed = λ of_one table side sender entries r m fact is. are_listed of_one table side entries r sender m is fact;
  each = λ of_one table side sender entries r m fact i is. is_invoke of_one table side entries r sender m is fact i;
  none = λ of_one table side sender entries r m is. none_given of_one table side entries r sender m is;
}
