use Rattle.std.proofs.Common.{is_some, ap, ◌∙◌}
use Rattle.tcap_dialogues.proofs.HeldLaws.{found_live, found_some, over_one}
use Rattle.tcap_dialogues.proofs.cut.Cut.is_over.Goals as goal

pub returns-in-Some : goal.returns-in-Some
returns-in-Some c = λ live names are d has named.
    let (name, kept) = found_live live names c.args.self.now.live are d c.args.name c.in-Some.live.now has named c.in-Some.ensures.value in
    c.is_some.ensures ∙ ap is_some (over_one d c.in-Some.live.now kept)

pub returns-in-None : goal.returns-in-None
returns-in-None c = λ live names are d has named.
    absurd (found_some live names c.args.self.now.live are d c.args.name has named c.in-None.ensures.value)
