use Rattle.tcap_evidence_laws.proofs.Common.{refl, mark_scene, scene_of}
use Rattle.tcap_evidence_laws.proofs.ListedLaws.{is_listed}
use Rattle.tcap_evidence_laws.proofs.laws.entries_are_listed.Goals as goal

pub returns : goal.returns
returns c = record {
  message = λ table side entries number m kind about.
      is_listed entries (scene_of table side entries number m kind about) refl refl;
  mark = λ table side entries number. is_listed entries (mark_scene table side entries number) refl refl;
}
