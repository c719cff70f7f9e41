-- The texts are appended one after another.
use Rattle.tcap_evidence.proofs.Common.{◌++◌, ap, ◌∙◌, codes, string_bytes, letter}
use Rattle.tcap_evidence.proofs.TextLaws.{also, at_last}
use Rattle.tcap_evidence.proofs.evidence_lines.push_open.Goals as goal

pub returns : goal.returns
returns c =
    let t = string_bytes c.args.text.now in
    let t1 = string_bytes c.push_str.new.self in
    let t2 = string_bytes c.push_str-2.new.self in
    let a1 = codes "a transaction of " in
    let a2 = a1 ++ letter c.args.end in
    let outgoing = codes " is open at this quiet mark" in
    let e2 = also t t1 t2 a1 (letter c.args.end) c.in_ok-push_str.ensures.bytes
    (c.in_ok-push_str-2.ensures.bytes ∙ ap (λ x. t1 ++ x) c.letter.ensures) in
    at_last c.push_str-3.result t t2 (string_bytes c.push_str-3.new.self) a2 outgoing t2 e2 c.push_str-3.ensures.bytes
