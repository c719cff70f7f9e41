-- The texts are appended one after another.
use Rattle.tcap_evidence.proofs.Common.{◌++◌, ap, ◌∙◌, codes, string_bytes, letter, line_end}
use Rattle.tcap_evidence.specs.EvidenceWords.{origin_words, own_words}
use Rattle.tcap_evidence.proofs.TextLaws.{also, at_last}
use Rattle.tcap_evidence.proofs.evidence_lines.push_origin.Goals as goal

pub returns : goal.returns
returns c =
    let t = string_bytes c.args.text.now in
    let t1 = string_bytes c.push_str.new.self in
    let t2 = string_bytes c.push_str-2.new.self in
    let t3 = string_bytes c.push_str-3.new.self in
    let t4 = string_bytes c.push_str-4.new.self in
    let t5 = string_bytes c.push_own.new.text in
    let a1 = codes "  the transaction of " in
    let a2 = a1 ++ letter c.args.end in
    let a3 = a2 ++ codes ": " in
    let a4 = a3 ++ origin_words c.args.about.now.origin in
    let a5 = a4 ++ own_words c.args.about.now.own in
    let e2 = also t t1 t2 a1 (letter c.args.end) c.in_ok-push_str.ensures.bytes
    (c.in_ok-push_str-2.ensures.bytes ∙ ap (λ x. t1 ++ x) c.letter.ensures) in
    let e3 = also t t2 t3 a2 (codes ": ") e2 c.in_ok-push_str-3.ensures.bytes in
    let e4 = also t t3 t4 a3 (origin_words c.args.about.now.origin) e3
    (c.in_ok-push_str-4.ensures.bytes ∙ ap (λ x. t3 ++ x) c.origin_words.ensures) in
    let e5 = also t t4 t5 a4 (own_words c.args.about.now.own) e4
    (c.in_ok-push_own.ensures ∙ ap (λ x. t4 ++ own_words x) c.as_ref.ensures.value) in
    at_last c.push_str-5.result t t5 (string_bytes c.push_str-5.new.self) a5 line_end t5 e5 c.push_str-5.ensures.bytes
