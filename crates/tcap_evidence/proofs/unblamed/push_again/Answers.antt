-- The texts are appended one after another.
use Rattle.tcap_evidence.proofs.Common.{◌++◌, ap, ◌∙◌, decimal, codes, string_bytes, letter, line_end}
use Rattle.tcap_evidence.proofs.TextLaws.{also, at_last}
use Rattle.tcap_evidence.proofs.unblamed.push_again.Goals as goal

pub returns : goal.returns
returns c =
    let t = string_bytes c.args.text.now in
    let t1 = string_bytes c.push_str.new.self in
    let t2 = string_bytes c.push_str-2.new.self in
    let t3 = string_bytes c.write.new.self in
    let t4 = string_bytes c.push_str-3.new.self in
    let used = codes " used an own ID again in entry " ++ decimal c.args.again in
    let apart = codes ", so that its transactions can't be told apart" in
    let a1 = codes "  nobody is blamed for it: " in
    let a2 = a1 ++ letter c.args.end in
    let a3 = a2 ++ used in
    let a4 = a3 ++ apart in
    let e2 = also t t1 t2 a1 (letter c.args.end) c.in_ok-push_str.ensures.bytes
    (c.in_ok-push_str-2.ensures.bytes ∙ ap (λ x. t1 ++ x) c.letter.ensures) in
    let e3 = also t t2 t3 a2 used e2 c.in_ok-write.ensures.bytes in
    let e4 = also t t3 t4 a3 apart e3 c.in_ok-push_str-3.ensures.bytes in
    at_last c.push_str-4.result t t4 (string_bytes c.push_str-4.new.self) a4 line_end t4 e4 c.push_str-4.ensures.bytes
