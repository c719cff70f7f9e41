use Rattle.std.proofs.Common.{rules}
use Rattle.tcap_ber.specs.Reading.{span}
use Rattle.tcap_parts.proofs.ShortIntegerLaws.{short_code}
use Rattle.tcap_parts.proofs.code.read_code.Goals as goal

pub returns-in-Some : goal.returns-in-Some
returns-in-Some c =
    let law = short_code c.in-Some.local (span c.args.window) c.in-Some.ensures.found in
    record { exact = search rules }
