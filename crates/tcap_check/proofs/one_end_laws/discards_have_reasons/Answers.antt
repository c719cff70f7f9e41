use Rattle.std.proofs.Common.{map}
use Rattle.tcap_model.specs.Entries.{item_of}
use Rattle.tcap_check.proofs.replay_laws.DiscardReasons.{all_refused}
use Rattle.tcap_check.proofs.one_end_laws.discards_have_reasons.Goals as goal

pub returns : goal.returns
returns c side table certificate entries events discards run are =
    all_refused side table certificate (map item_of entries) events discards run are
