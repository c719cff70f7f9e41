-- The texts are appended one after another.
use Rattle.tcap_evidence.proofs.Common.{◌++◌, ap, ◌∙◌, on_ok_weaker, string_bytes, line_end, paired_before}
use Rattle.tcap_evidence.specs.Unblamed.{id_lines, tangled_text}
use Rattle.tcap_evidence.specs.EvidenceWords.{entries_words}
use Rattle.tcap_evidence.proofs.TextLaws.{also}
use Rattle.tcap_evidence.proofs.unblamed.push_tangled.Goals as goal

pub returns : goal.returns
returns c =
    let it = c.args.tangled.now in
    let entries = c.args.record.now.entries.items in
    let named = paired_before it.side it.id entries c.args.number in
    let ids = id_lines c.args.table.now c.args.end entries c.args.number in
    let t = string_bytes c.args.text.now in
    let t1 = string_bytes c.push_tangled_id.new.text in
    let t2 = string_bytes c.push_entries.new.text in
    let t3 = string_bytes c.push_str.new.self in
    let a1 = tangled_text it in
    let a2 = a1 ++ entries_words named in
    let a3 = a2 ++ line_end in
    let e2 = also t t1 t2 a1 (entries_words named) c.in_ok-push_tangled_id.ensures
    (c.in_ok-push_entries.ensures ∙ ap (λ x. t1 ++ entries_words x) (c.deref.ensures.value ∙ c.in_ok-entries.ensures)) in
    let e3 = also t t2 t3 a2 line_end e2 c.in_ok-push_str.ensures.bytes in
    on_ok_weaker c.push_id_uses.result (λ e. also t t3 (string_bytes c.push_id_uses.new.text) a3 ids e3 e)
    c.push_id_uses.ensures
