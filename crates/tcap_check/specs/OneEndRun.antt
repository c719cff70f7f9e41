-- What does a certificate give for one end that is judged alone? It gives a run in which that end keeps the rules.
-- `Replay` of tcap_certificate defines the run, and `LossCounts` counts its losses.
use Rattle.std.specs.Prelude.{◌≡◌, ◌+◌, ◌*◌, ◌≤◌, List, [], length, Option, Some, None}
use Rattle.tcap_record.specs.declared.entry.End.{End as Side}
use Rattle.tcap_record.specs.declared.entry.Entry.{Entry}
use Rattle.tcap_end.specs.Table.{Table}
use Rattle.tcap_record.specs.Ends.{other}
use Rattle.tcap_model.specs.World.{Item, channel_from}
use Rattle.tcap_model.specs.Run.{Event, IsRunOf, KeepsRules}
use Rattle.tcap_certificate.specs.Certificate.{Certificate}
use Rattle.tcap_model.specs.Entries.{AreItems, count_components}
use Rattle.tcap_certificate.specs.DescribedRun.{losses_from, lost_from}
use Rattle.tcap_check.specs.GivenRun.{IsGiven}
use Rattle.tcap_certificate.specs.LossCounts.{steps_of, unheard_of}

-- The entries are items, and these events are a run that sends them. In the run this end keeps the rules, its peer may
-- send anything, and nothing is left on its way to this end. The run's counts are bounded.
pub record IsGivenFor (side : Side) (table : Table) (entries : List Entry) (events : List Event) : Type 0 where
  pub items : List Item
  pub are : AreItems entries items
  pub run : IsRunOf items table events
  pub keeps : KeepsRules side events
  pub left : channel_from (other side) run.0 ≡ []
  pub bound : steps_of side events ≤ 3 * length entries + count_components items
  pub unheard : unheard_of side events ≤ length entries

-- What a certificate gives for the judged ends: a run of both ends (`IsGiven`), or of one end alone (`IsGivenFor`).
abbrev pub IsGivenTo : Option Side → Table → Certificate → List Entry → List Event → Type 0
IsGivenTo None table c entries events = IsGiven table c entries events
IsGivenTo (Some side) table c entries events = IsGivenFor side table entries events

-- The run loses exactly those messages of the peer whose fates are losses, so it discards none.
abbrev pub DiscardsNothing : Side → Certificate → List Item → List Event → Type 0
DiscardsNothing side c items events = losses_from (other side) events ≡ lost_from (other side) 0 c.fates items
