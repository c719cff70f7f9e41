-- What lawful means for the judged ends: both ends of a record, or one end alone, no matter what its peer sent.
use Rattle.std.specs.Prelude.{ℕ, List, Option, Some, None}
use Rattle.tcap_record.specs.declared.entry.End.{End as Side}
use Rattle.tcap_record.specs.declared.entry.Entry.{Entry}
use Rattle.tcap_end.specs.Table.{Table}
use Rattle.tcap_model.specs.World.{Item}
use Rattle.tcap_model.specs.Run.{Event}
use Rattle.tcap_model.specs.Entries.{AreItems}
pub use Rattle.tcap_certificate.specs.Replay.{replayed_by}
pub use Rattle.tcap_check.specs.GivenRun.{MayBeSent}
use Rattle.tcap_certificate.specs.LossCounts.{unheard_of}
use Rattle.tcap_certificate.specs.LossCounts.{IsLawfulUnheard}
use Rattle.tcap_judge.specs.declared.outcome.Outcome.{Outcome}
use Rattle.tcap_judge.specs.declared.outcome.Outcome.TheVariants.{Lawful, LawfulFor}

-- the outcome for this many entries, if the certificate gives these events
abbrev pub lawful_by : Option Side → ℕ → List Event → Outcome
lawful_by None count events = Lawful count
lawful_by (Some side) count events = LawfulFor count (unheard_of side events)

-- the lawful outcome for this many entries and, for one end, this many unheard messages of its peer
abbrev pub lawful_outcome : Option Side → ℕ → ℕ → Outcome
lawful_outcome None count unheard = Lawful count
lawful_outcome (Some side) count unheard = LawfulFor count unheard

-- The entries are items that the judged ends may have sent.
abbrev pub AreLawful : Option Side → Table → List Entry → Type 0
AreLawful judged table entries = (items : List Item) × AreItems entries items × MayBeSent judged items table

-- The judged ends may have sent these items; for one end, by a run with this many unheard messages of its peer.
abbrev pub MayBeSentUnheard : Option Side → List Item → Table → ℕ → Type 0
MayBeSentUnheard None items table unheard = MayBeSent None items table
MayBeSentUnheard (Some side) items table unheard = IsLawfulUnheard side items table unheard

-- The entries are items that the judged ends may have sent, with this many unheard messages.
abbrev pub AreLawfulUnheard : Option Side → Table → List Entry → ℕ → Type 0
AreLawfulUnheard judged table entries unheard =
    (items : List Item) × AreItems entries items × MayBeSentUnheard judged items table unheard

-- If the outcome is lawful, the entries are lawful, with this many unheard messages.
abbrev pub IsShown : Option Side → Table → List Entry → Outcome → Type 0
IsShown judged table entries (Lawful count) = AreLawful judged table entries
IsShown judged table entries (LawfulFor count unheard) = AreLawfulUnheard judged table entries unheard
IsShown judged table entries outcome = Unit {0}
