use Rattle.tcap_evidence.proofs.Common.{◌&&◌, not, sym, ap₂, ◌∙◌}
use Rattle.tcap_evidence.proofs.MarkLaws.{open_nowhere, open_there}
use Rattle.tcap_evidence.proofs.mark.Halves.has.Goals as goal

pub returns-then-not-contains : goal.returns-then-not-contains
returns-then-not-contains c = λ s are unarranged.
    rw c.in-Continue.is
    (sym (ap₂ (λ a b. not a && not b) (sym c.contains.ensures ∙ c.if-not-contains.true)
    (sym c.contains-then-not-contains.ensures))
    ∙ open_there s c.args.self.now are unarranged c.in-Continue.otid c.in-Some.to.now c.in-Some.ensures.value)

pub returns-else-not-contains : goal.returns-else-not-contains
returns-else-not-contains c = λ s are unarranged.
    let ended = sym c.contains.ensures ∙ c.if-not-contains.false in
    rw (c.in-Continue.is, c.if-not-contains.false)
    (rw ended at (open_there s c.args.self.now are unarranged c.in-Continue.otid c.in-Some.to.now c.in-Some.ensures.value))

pub returns-in-None : goal.returns-in-None
returns-in-None c = λ s are unarranged.
    rw c.in-Continue.is (open_nowhere s c.args.self.now are unarranged c.in-Continue.otid c.in-None.ensures.value)
