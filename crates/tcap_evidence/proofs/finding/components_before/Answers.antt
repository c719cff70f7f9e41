-- The items of the iterator before this number.
use Rattle.tcap_evidence.proofs.Common.{ap, ◌∙◌, YieldsList-from_first, component_of, components_left, components_in}
use Rattle.std.proofs.lemmas.Iterator.{YieldsList-from_take}
use Rattle.std.proofs.lemmas.Iterator.Consumers.{map_from_collect}
use Rattle.tcap_evidence.proofs.finding.components_before.Goals as goal

pub returns-in-Some : goal.returns-in-Some
returns-in-Some c =
    rw c.in-Some.is
    (map_from_collect c.collect.result c.collect.ensures.ran
    (YieldsList-from_take c.in-Some.number
    (YieldsList-from_first component_of components_left (components_in c.args.message.now)
    (ap components_left c.take.ensures.source ∙ c.components.ensures))
    c.take.ensures.count))
