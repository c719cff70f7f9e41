use Rattle.tcap_evidence_laws.proofs.PairedEntries.{is_one_listed}
use Rattle.tcap_evidence_laws.proofs.PairedLaws.{begin_is_listed, is_paired}
use Rattle.tcap_evidence_laws.proofs.laws.pairs_are_listed.Goals as goal

pub returns : goal.returns
returns c = record {
  begins = begin_is_listed;
  continues = λ of sender id partner entries number n m. is_paired of id entries number sender n m partner;
  listed = is_one_listed;
}
