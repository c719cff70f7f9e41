-- The texts are appended one after another.
use Rattle.tcap_evidence.proofs.Common.{◌++◌, map, ap, ◌∙◌, on_ok_weaker, slice_get, string_bytes}
use Rattle.tcap_evidence.specs.EvidenceWords.{fault_text, invocation_lines}
use Rattle.tcap_evidence.proofs.TextLaws.{also}
use Rattle.tcap_evidence.proofs.evidence_lines.push_evidence.Goals as goal

pub returns : goal.returns
returns c =
    let found = c.args.found.now in
    let t = string_bytes c.args.text.now in
    let t1 = string_bytes c.push_fault.new.text in
    let fault = fault_text c.args.table.now c.args.end (slice_get c.args.record.now.entries.items c.args.at.entry) c.args.at found.about
    found.id (map (λ g. (g.fact, g.entries.items)) found.grounds.items) in
    let lines = invocation_lines c.args.table.now found.id in
    on_ok_weaker c.push_invocations.result
    (λ e. also t t1 (string_bytes c.push_invocations.new.text) fault (lines found.invocations.items) c.in_ok-push_fault.ensures
    (e ∙ ap (λ x. t1 ++ lines x) c.deref.ensures.value))
    c.push_invocations.ensures
