use Rattle.tcap_evidence_laws.proofs.CountedLaws.{components_counted, messages_counted}
use Rattle.tcap_evidence_laws.proofs.laws.grounds_are_counts.Goals as goal

pub returns : goal.returns
returns c = record { components = components_counted; messages = messages_counted }
