use Rattle.std.proofs.Common.{map}
use Rattle.tcap_model.specs.Entries.{item_of}
use Rattle.tcap_check.proofs.replay_laws.DiscardReasons.{all_told}
use Rattle.tcap_check.proofs.one_end_laws.losses_are_reported.Goals as goal

pub returns : goal.returns
returns c side table certificate entries events discards run are number lost =
    all_told side table certificate (map item_of entries) events discards run are number lost
