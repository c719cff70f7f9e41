use Rattle.tcap_parts.proofs.WritingLaws.{around_of}
use Rattle.tcap_parts.proofs.writing.len_component.Goals as goal

pub returns-clause-exact : goal.returns-clause-exact
returns-clause-exact c = around_of _ _ _ _ c.in_ok-len_content.ensures.exact c.element_len.ensures.exact
