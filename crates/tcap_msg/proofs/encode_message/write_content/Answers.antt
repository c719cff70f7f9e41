use Rattle.std.proofs.Common.{sym}
use Rattle.tcap_parts.proofs.WritingLaws.{both_written, joined_written, rest_there}
use Rattle.tcap_msg.proofs.encode_message.write_content.Goals as goal

pub write_component_portion-requires : goal.write_component_portion-requires
write_component_portion-requires g c = rw c.its_portion.ensures (rest_there _ _ c.requires)

pub returns-clause-ok : goal.returns-clause-ok
returns-clause-ok g c =
    let two = both_written _ _ _ _ _ c.in_ok-write_id.ensures.ok c.in_ok-write_id-2.ensures.ok in
    let three = both_written _ _ _ _ _ two c.in_ok-write_cause.ensures.ok in
    let four = both_written _ _ _ _ _ three c.in_ok-write_dialogue_portion.ensures.ok in
    rw (sym c.otid.ensures, sym c.dtid.ensures, sym c.cause.ensures, sym c.dialogue.ensures, sym c.its_portion.ensures)
    (joined_written _ _ _ _ _ c.write_component_portion.result four c.write_component_portion.ensures.ok)
