use Rattle.tcap_evidence_laws.proofs.DialogueShows.{dialogue_shows}
use Rattle.tcap_evidence_laws.proofs.HalfShows.{half_shows}
use Rattle.tcap_evidence_laws.proofs.laws.halves_show.Goals as goal

pub returns : goal.returns
returns c = record { wrong_half = half_shows; wrong_dialogue = dialogue_shows }
