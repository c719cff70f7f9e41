use Rattle.tcap_record.proofs.FrontLaws.{part_not_whole}
use Rattle.tcap_record.proofs.frames.Frames.front.Goals as goal

pub returns-then-not-self-clause-exact : goal.returns-then-not-self-clause-exact
returns-then-not-self-clause-exact c =
    rw (← c.self.view_is) (λ no. absurd cc, λ there. absurd (part_not_whole c.self.inside.octets.items (c.self.invariant.2 c.if-not-self.true there.0).0 there.1))
