use Rattle.tcap_traces.specs.ResultOfEnd.{result_at}
use Rattle.tcap_uses.proofs.trace_verdicts.end_of_fail.Goals as goal

pub returns : goal.returns
returns c asked octets fails =
    let means = c.fail_is_at_fault.ensures.verdict asked octets fails in
    (means.judged.dialogue, means.side, result_at means.side means.ends, means.is_asked, means.fails)
