use Rattle.tcap_faults.proofs.transaction_laws.FirstTangled.{tangled_over, tangled_outgoing}
use Rattle.tcap_faults.proofs.laws.tangled_is_named.Goals as goal

pub returns : goal.returns
returns c = record { named = tangled_outgoing; over = tangled_over }
