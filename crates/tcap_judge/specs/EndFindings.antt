-- Which verdict and findings `blame_record` returns, and how many messages of an end the fates of a record lose.
use Rattle.std.specs.Prelude.{◌≡◌, ℕ, ◌+◌, List, [], ◌∷◌, Option, Some, None, cond}
use Rattle.tcap_record.specs.declared.entry.End.{End as Side}
use Rattle.tcap_record.specs.declared.entry.Entry.{Entry}
use Rattle.tcap_certificate.specs.declared.certificate.Fate.{Fate}
use Rattle.tcap_certificate.specs.declared.certificate.Fate.TheVariants.{Lost}
use Rattle.tcap_end.specs.Table.{Table}
use Rattle.tcap_record.specs.Ends.{is_entry_of}
use Rattle.tcap_judge.specs.declared.findings.Ends.{Ends}
use Rattle.tcap_judge.specs.declared.outcome.Outcome.{Outcome}
use Rattle.tcap_judge.specs.BlameOutcome.{AreFound, ends_of, joint_verdict}
use Rattle.tcap_judge.specs.LawfulOutcome.{IsShown}

-- 1 if the entry is from this end and lost, else 0
abbrev pub lost_by : Side → Fate → Option Side → ℕ
lost_by side Lost sender = cond (is_entry_of side sender) 1 0
lost_by side fate sender = 0

-- the number of messages of this end that these fates lose
abbrev pub lost_of : Side → List Fate → List Entry → ℕ
lost_of side (fate ∷ fates) (entry ∷ entries) = lost_by side fate entry.side + lost_of side fates entries
lost_of side _ _ = 0

-- The outcome is the verdict on both ends, and it holds; the findings are those on each end, and they hold.
abbrev pub AreBlamed : Table → List Entry → Outcome → Option Ends → Type 0
AreBlamed table entries outcome ends = (outcome ≡ joint_verdict None table entries) × IsShown None table entries outcome
    × ((reported : Ends) × (ends ≡ Some reported) × (reported ≡ ends_of table entries)
    × AreFound table entries reported)
