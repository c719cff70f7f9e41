use Rattle.tcap_uses.proofs.trace_verdicts.entry_of_pass.Goals as goal

pub returns : goal.returns
returns c asked octets entry side passes has so =
    let means = c.pass_is_lawful.ensures asked octets passes in
    let (j, there, own) = means.whole entry has in
    (j.dialogue, own, means.lawful j side there so)
