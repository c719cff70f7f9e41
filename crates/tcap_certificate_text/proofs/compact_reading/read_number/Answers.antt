use Rattle.std.proofs.Common.{◌≡◌, ◌++◌, IfSome, decimal, subst, sym, arith}
use Rattle.tcap_certificate_text.proofs.CompactLaws.{digit_first}
use Rattle.tcap_certificate_text.proofs.compact_reading.read_number.Goals as goal

pub returns-in-48-clause-text : goal.returns-in-48-clause-text
returns-in-48-clause-text c = digit_first 0 c.args.octets.now (omega arith) (omega arith) (omega arith) (omega arith)

pub returns-in-49-to-57-clause-text : goal.returns-in-49-to-57-clause-text
returns-in-49-to-57-clause-text c =
    let first = digit_first c.from.result c.args.octets.now (omega arith) (omega arith) (omega arith) (omega arith) in
    subst (λ l. IfSome c.more_digits.result (λ x. l ≡ decimal x.0 ++ x.1.now)) (sym first) c.more_digits.ensures.text
