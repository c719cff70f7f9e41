use Rattle.tcap_ber.specs.Reading.{span}
use Rattle.tcap_parts.proofs.InfoLaws.{read_are}
use Rattle.tcap_parts.proofs.info.InfoView.from_content.Goals as goal

pub invariant_of-result : goal.invariant_of-result
invariant_of-result c =
    let h = c.in_ok-count_externals.ensures.ok in
    record { externals = read_are (span c.args.tlv.content) h.0 h.1 }
