use Rattle.tcap_evidence_laws.proofs.KindShows.{ended_shows, open_shows, reused_shows, unknown_shows}
use Rattle.tcap_evidence_laws.proofs.ReplyShows.{misplaced_shows, reply_shows}
use Rattle.tcap_evidence_laws.proofs.laws.kinds_show.Goals as goal

pub returns : goal.returns
returns c = record {
  unknown = unknown_shows;
  reused = reused_shows;
  ended = ended_shows;
  misplaced = misplaced_shows;
  wrong_reply = reply_shows;
  left_open = open_shows;
}
