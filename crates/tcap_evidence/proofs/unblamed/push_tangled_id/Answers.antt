-- The texts are appended one after another.
use Rattle.tcap_evidence.proofs.Common.{◌++◌, ap, ◌∙◌, codes, if◌then◌else◌, is_ok, string_bytes, letter}
use Rattle.hex.specs.Hex.{encode_lower}
use Rattle.tcap_evidence.specs.Unblamed.{tangle_words}
use Rattle.tcap_evidence.proofs.TextLaws.{also, at_last}
use Rattle.tcap_evidence.proofs.unblamed.push_tangled_id.Goals as goal

pub returns : goal.returns
returns c =
    let it = c.args.tangled.now in
    let t = string_bytes c.args.text.now in
    let t1 = string_bytes c.push_str.new.self in
    let t2 = string_bytes c.push_hex.new.text in
    let t3 = string_bytes c.push_str-2.new.self in
    let t4 = string_bytes c.push_str-3.new.self in
    let a1 = codes "  nobody is blamed for it: transaction ID " in
    let a2 = a1 ++ encode_lower it.id in
    let a3 = a2 ++ codes " of " in
    let a4 = a3 ++ letter it.side in
    let e2 = also t t1 t2 a1 (encode_lower it.id) c.in_ok-push_str.ensures.bytes
    (c.in_ok-push_hex.ensures ∙ ap (λ x. t1 ++ encode_lower x) c.octets.ensures.value) in
    let e3 = also t t2 t3 a2 (codes " of ") e2 c.in_ok-push_str-2.ensures.bytes in
    let e4 = also t t3 t4 a3 (letter it.side) e3 (c.in_ok-push_str-3.ensures.bytes ∙ ap (λ x. t3 ++ x) c.letter.ensures) in
    at_last c.push_str-4.result t t4 (string_bytes c.push_str-4.new.self) a4 (tangle_words it.why) t4 e4
    (c.push_str-4.ensures.bytes ∙ ap (λ x. if is_ok c.push_str-4.result then (t4 ++ x) else t4) c.tangle_words.ensures)
