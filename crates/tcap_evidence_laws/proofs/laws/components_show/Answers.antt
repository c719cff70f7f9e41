use Rattle.tcap_evidence_laws.proofs.AnswerShows.{again_shows}
use Rattle.tcap_evidence_laws.proofs.AskedShows.{unasked_shows}
use Rattle.tcap_evidence_laws.proofs.BusyShows.{busy_shows, link_shows}
use Rattle.tcap_evidence_laws.proofs.OperationShows.{operation_shows}
use Rattle.tcap_evidence_laws.proofs.RejectShows.{reject_shows}
use Rattle.tcap_evidence_laws.proofs.laws.components_show.Goals as goal

pub returns : goal.returns
returns c = record {
  answers_nothing = unasked_shows;
  wrong_operation = operation_shows;
  busy = busy_shows;
  bad_link = link_shows;
  answered = again_shows;
  rejected = reject_shows;
}
