use Rattle.std.proofs.Common.{◌∙◌}
use Rattle.tcap_dialogues.proofs.HeldLaws.{found_live, found_some, senders_one}
use Rattle.tcap_dialogues.proofs.cut.Cut.has_sent.Goals as goal

pub returns-in-Some : goal.returns-in-Some
returns-in-Some c = λ live names are d has named.
    let (name, kept) = found_live live names c.args.self.now.live are d c.args.name c.in-Some.live.now has named c.in-Some.ensures.value in
    c.has_sent.ensures ∙ senders_one d c.in-Some.live.now c.args.end kept

pub returns-in-None : goal.returns-in-None
returns-in-None c = λ live names are d has named.
    absurd (found_some live names c.args.self.now.live are d c.args.name has named c.in-None.ensures.value)
