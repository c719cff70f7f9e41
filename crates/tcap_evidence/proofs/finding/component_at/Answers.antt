-- The item of the iterator with this number.
use Rattle.tcap_evidence.proofs.Common.{sym, ap, ◌∙◌, YieldsList-from_first, component_of, components_left, components_in, component_at}
use Rattle.std.proofs.lemmas.Iterator.Consumers.{nth_from_yields_List}
use Rattle.tcap_evidence.proofs.finding.component_at.Goals as goal

pub returns : goal.returns
returns c =
    nth_from_yields_List c.nth.result c.nth.new.self c.in_ok-number.field-0 c.nth.ensures.ran
    (YieldsList-from_first component_of components_left (components_in c.args.message.now) c.components.ensures)
    ∙ ap (λ n. component_at n (components_in c.args.message.now)) (sym c.in_ok-number.was)
