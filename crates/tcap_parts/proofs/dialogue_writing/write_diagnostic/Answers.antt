use Rattle.tcap_parts.proofs.WritingLaws.{around_written}
use Rattle.tcap_parts.proofs.DialogueWritingLaws.{source_len}
use Rattle.tcap_parts.proofs.dialogue_writing.write_diagnostic.Goals as goal

pub returns-clause-ok : goal.returns-clause-ok
returns-clause-ok g c = around_written 0xA3 5 _ _ _ _ c.write_source.result (source_len _) c.in_ok-put_header.ensures.ok c.write_source.ensures.ok
