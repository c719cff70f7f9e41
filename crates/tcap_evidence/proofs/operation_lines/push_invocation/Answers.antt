-- The texts are appended one after another.
use Rattle.tcap_evidence.proofs.Common.{◌++◌, append_assoc, sym, ap, ◌∙◌, to_z-of_z, decimal, signed_decimal, codes, string_bytes, line_end}
use Rattle.tcap_record.specs.Lines.{code_text}
use Rattle.tcap_end.specs.Table.{class_of}
use Rattle.tcap_evidence.specs.EvidenceWords.{class_text, link_text}
use Rattle.tcap_evidence.proofs.TextLaws.{also, at_last}
use Rattle.tcap_evidence.proofs.operation_lines.push_invocation.Goals as goal

pub returns : goal.returns
returns c =
    let i = c.args.invocation.now in
    let class = class_of c.args.table.now i.code in
    let t = string_bytes c.args.text.now in
    let t1 = string_bytes c.write.new.self in
    let t2 = string_bytes c.write-2.new.self in
    let t3 = string_bytes c.push_str.new.self in
    let t4 = string_bytes c.push_code.new.text in
    let t5 = string_bytes c.push_class.new.text in
    let t6 = string_bytes c.push_linked.new.text in
    let entry_words = codes " in entry " ++ decimal i.entry in
    let a1 = codes "  invocation " ++ signed_decimal c.args.id in
    let a2 = a1 ++ codes " in entry " ++ decimal i.entry in
    let a3 = a2 ++ codes " is of " in
    let a4 = a3 ++ code_text i.code in
    let a5 = a4 ++ class_text class in
    let a6 = a5 ++ link_text i.linked in
    let e1 = rw (to_z-of_z c.ranges.id) at c.in_ok-write.ensures.bytes in
    let e2 = also t t1 t2 a1 entry_words e1 c.in_ok-write-2.ensures.bytes
    ∙ ap (λ x. t ++ x) (sym (append_assoc a1 (codes " in entry ") (decimal i.entry))) in
    let e3 = also t t2 t3 a2 (codes " is of ") e2 c.in_ok-push_str.ensures.bytes in
    let e4 = also t t3 t4 a3 (code_text i.code) e3
    (c.in_ok-push_code.ensures ∙ ap (λ x. t3 ++ code_text x) c.view-code.ensures) in
    let known = c.class_of.ensures.exact ∙ ap (class_of c.args.table.now) c.view-code.ensures in
    let e5 = also t t4 t5 a4 (class_text class) e4 (c.in_ok-push_class.ensures ∙ ap (λ x. t4 ++ class_text x) known) in
    let e6 = also t t5 t6 a5 (link_text i.linked) e5 c.in_ok-push_linked.ensures in
    at_last c.push_str-2.result t t6 (string_bytes c.push_str-2.new.self) a6 line_end t6 e6 c.push_str-2.ensures.bytes
