-- The texts are appended one after another.
use Rattle.tcap_evidence.proofs.Common.{◌++◌, decimal, codes, string_bytes, line_end}
use Rattle.tcap_evidence.specs.EvidenceWords.{open_words}
use Rattle.tcap_evidence.proofs.TextLaws.{also, at_last}
use Rattle.tcap_evidence.proofs.evidence_lines.push_mark.Goals as goal

pub returns : goal.returns
returns c =
    let t = string_bytes c.args.text.now in
    let t1 = string_bytes c.write.new.self in
    let t2 = string_bytes c.push_str.new.self in
    let t3 = string_bytes c.push_open.new.text in
    let a1 = codes "  entry " ++ decimal c.args.at.entry in
    let a2 = a1 ++ codes ": " in
    let a3 = a2 ++ open_words c.args.end in
    let e2 = also t t1 t2 a1 (codes ": ") c.in_ok-write.ensures.bytes c.in_ok-push_str.ensures.bytes in
    let e3 = also t t2 t3 a2 (open_words c.args.end) e2 c.in_ok-push_open.ensures in
    at_last c.push_str-2.result t t3 (string_bytes c.push_str-2.new.self) a3 line_end t3 e3 c.push_str-2.ensures.bytes
