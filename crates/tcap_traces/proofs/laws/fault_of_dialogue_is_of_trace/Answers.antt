use Rattle.tcap_traces.proofs.TraceLaws.{fault_of_trace}
use Rattle.tcap_traces.proofs.laws.fault_of_dialogue_is_of_trace.Goals as goal

pub returns : goal.returns
returns c = fault_of_trace
