-- What does a walk that stopped return for the octets that come next?
use Rattle.std.specs.Prelude.{◌≡◌, ◌≢◌, ℕ, ◌<◌, ◌⊎◌, List, take, None, Result}
use Rattle.tcap_ber.specs.declared.fault.Fault.{Fault}
use Rattle.tcap_ber.specs.declared.element.Outer.{Outer}
use Rattle.tcap_ber.specs.declared.walk.Walk.{Walk}
use Rattle.tcap_ber.specs.WalkResult.{resume_unless}

-- the walk's result if these octets come after all octets so far
abbrev pub resumes : Walk → List ℕ → Result Outer Fault
resumes walk octets = resume_unless walk.fault walk.skip (take walk.held walk.header) walk.progress octets

-- No later octet can change the result: the walk has a fault, or it found the element's end.
abbrev pub IsStopped : Walk → Type 0
IsStopped walk = (walk.fault ≢ None) ⊎ ((walk.skip ≡ 0) × (walk.progress.depth ≡ 0) × (0 < walk.progress.at))
