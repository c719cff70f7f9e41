use Rattle.std.proofs.Common.{rules}
use Rattle.tcap_ber.specs.Reading.{span}
use Rattle.tcap_parts.proofs.ShortIntegerLaws.{short_invoke_id}
use Rattle.tcap_parts.proofs.reading.invoke_id.Goals as goal

pub returns-in-Some : goal.returns-in-Some
returns-in-Some c =
    let law = short_invoke_id c.in-Some.id (span c.args.window) c.in-Some.ensures.found in
    record { exact = search rules }
