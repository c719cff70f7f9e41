-- From the message's scene.
use Rattle.tcap_evidence.proofs.Common.{ap, ◌∙◌, components_in, dtid_in, component_at, grounds_in, scene_of, shows, invocations_of}
use Rattle.tcap_evidence.proofs.AskedLaws.{never_open}
use Rattle.tcap_evidence.proofs.finding.of_message.Goals as goal

pub returns-clause-grounds : goal.returns-clause-grounds
returns-clause-grounds c = λ side entries own peer.
    let m = c.args.message.now in
    let kind = c.args.at.kind in
    let about = c.args.about in
    let known = scene_of c.args.table.now side entries c.args.at.entry m kind about in
    let are = c.facts_of-facts.ensures ∙ ap (λ x. shows (dtid_in m) about.origin x kind) c.component_at-component.ensures in
    c.in_ok-grounds.ensures known (c.in_ok-scene.ensures side entries own peer)
    (rw are (never_open (dtid_in m) about.origin (component_at about.component (components_in m)) kind))
    ∙ ap (grounds_in known) are

pub returns-clause-invocations : goal.returns-clause-invocations
returns-clause-invocations c = λ side entries own peer.
    let kind = c.args.at.kind in
    let known = scene_of c.args.table.now side entries c.args.at.entry c.args.message.now kind c.args.about in
    c.in_ok-invocations.ensures known (c.in_ok-scene.ensures side entries own peer)
    ∙ ap (invocations_of known kind) c.component_at-component.ensures
