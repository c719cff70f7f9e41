use Rattle.tcap_record.specs.declared.entry.End.{End as Side}
use Rattle.tcap_record.specs.declared.entry.End.TheVariants as sides
use Rattle.tcap_model.specs.Run.{BothKeepRules, Event, KeepsRules}
use Rattle.std.proofs.Common.{List}
use Rattle.tcap_model.proofs.laws.lawful_for_each.Goals as goal

keeps : (side : Side) (events : List Event) → BothKeepRules events → KeepsRules side events
keeps sides.A events both = both.0
keeps sides.B events both = both.1

pub returns : goal.returns
returns c = λ items table moves side lawful. (lawful.0, lawful.1, keeps side lawful.0 lawful.2)
