-- The texts are appended one after another.
use Rattle.tcap_evidence.proofs.Common.{◌++◌, ap, ◌∙◌, to_z-of_z, on_ok_weaker, signed_decimal, codes, string_bytes}
use Rattle.tcap_evidence.proofs.TextLaws.{also}
use Rattle.tcap_evidence.proofs.operation_lines.push_link.Goals as goal

pub returns : goal.returns
returns c =
    let t = string_bytes c.args.text.now in
    let t1 = string_bytes c.push_str.new.self in
    on_ok_weaker c.write.result
    (λ e. also t t1 (string_bytes c.write.new.self) (codes ", linked to ") (signed_decimal c.args.id) c.in_ok-push_str.ensures.bytes
    (e ∙ ap (λ x. t1 ++ signed_decimal x) (to_z-of_z c.ranges.id)))
    c.write.ensures.bytes
