use Rattle.tcap_dialogues.proofs.HeldLaws.{begun_one, found_live, found_some}
use Rattle.tcap_dialogues.proofs.cut.Cut.has_begin.Goals as goal

pub returns-in-Some : goal.returns-in-Some
returns-in-Some c = λ live names are d has named.
    let (name, kept) = found_live live names c.args.self.now.live are d c.args.name c.in-Some.live.now has named c.in-Some.ensures.value in
    begun_one d c.in-Some.live.now kept

pub returns-in-None : goal.returns-in-None
returns-in-None c = λ live names are d has named.
    absurd (found_some live names c.args.self.now.live are d c.args.name has named c.in-None.ensures.value)
