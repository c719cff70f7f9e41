-- The texts are appended one after another.
use Rattle.tcap_evidence.proofs.Common.{◌++◌, map, ap, ◌∙◌, on_ok_weaker, flat_map, codes, string_bytes, components_in, dtid_in, line_end, component_at, ground_line}
use Rattle.tcap_record.specs.Lines.{head_text}
use Rattle.tcap_evidence.specs.EvidenceWords.{component_shown, doubt_lines, entry_line, half_line, message_lines}
use Rattle.tcap_evidence.proofs.TextLaws.{also}
use Rattle.tcap_evidence.proofs.evidence_lines.push_of_message.Goals as goal

pub returns : goal.returns
returns c =
    let end = c.args.end in
    let at = c.args.at in
    let m = c.args.message.now in
    let about = c.args.found.now.about in
    let component = component_at about.component (components_in m) in
    let grounds = map (λ g. (g.fact, g.entries.items)) c.args.found.now.grounds.items in
    let t = string_bytes c.args.text.now in
    let t1 = string_bytes c.push_entry.new.text in
    let t2 = string_bytes c.push_message.new.text in
    let t3 = string_bytes c.push_half.new.text in
    let t4 = string_bytes c.push_grounds.new.text in
    let a1 = entry_line end at about.component in
    let a2 = a1 ++ message_lines m about.component in
    let a3 = a2 ++ half_line end at.kind (dtid_in m) about in
    let a4 = a3 ++ flat_map (ground_line end c.args.found.now.id) grounds in
    let shown = ap (λ x. t1 ++ (codes "    " ++ head_text m ++ line_end ++ component_shown x)) c.component_at-component.ensures in
    let e2 = also t t1 t2 a1 (message_lines m about.component) c.in_ok-push_entry.ensures (c.in_ok-push_message.ensures ∙ shown) in
    let e3 = also t t2 t3 a2 (half_line end at.kind (dtid_in m) about) e2 c.in_ok-push_half.ensures in
    let listed = ap (λ x. t3 ++ flat_map (ground_line end c.args.found.now.id) (map (λ g. (g.fact, g.entries.items)) x)) c.deref.ensures.value in
    let e4 = also t t3 t4 a3 (flat_map (ground_line end c.args.found.now.id) grounds) e3 (c.in_ok-push_grounds.ensures ∙ listed) in
    let doubt = ap (λ x. t4 ++ doubt_lines c.args.table.now at.kind x) c.component_at-component.ensures in
    on_ok_weaker c.push_doubt.result
    (λ e. also t t4 (string_bytes c.push_doubt.new.text) a4 (doubt_lines c.args.table.now at.kind component) e4 (e ∙ doubt))
    c.push_doubt.ensures
