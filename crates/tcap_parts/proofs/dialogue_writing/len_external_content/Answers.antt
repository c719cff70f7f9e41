use Rattle.std.proofs.Common.{◌∙◌}
use Rattle.tcap_parts.proofs.WritingLaws.{joined_len, around_of}
use Rattle.tcap_parts.proofs.DialogueWritingLaws.{name_len, joined_no_len}
use Rattle.tcap_parts.proofs.dialogue_writing.len_external_content.Goals as goal

pub returns-in_err-element_len : goal.returns-in_err-element_len
returns-in_err-element_len c = record {
  exact = c.from_residual-in_err-element_len.ensures ∙ joined_no_len _ _ (around_of 0xA0 _ _ _ c.in_ok-len_pdu.ensures.exact c.in_err-element_len.ensures.exact);
}

pub returns : goal.returns
returns c = record { exact = joined_len _ _ 9 _ (name_len _) (around_of 0xA0 _ _ _ c.in_ok-len_pdu.ensures.exact c.in_ok-element_len.ensures.exact) }
