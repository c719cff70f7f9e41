use Rattle.tcap_parts.proofs.WritingLaws.{inside_within, around_written}
use Rattle.tcap_parts.proofs.writing.write_component.Goals as goal

pub put_header-requires : goal.put_header-requires
put_header-requires g c = inside_within _ _ _ c.requires c.in-Some.ensures.exact

pub returns-clause-ok : goal.returns-clause-ok
returns-clause-ok g c =
    around_written _ _ _ _ _ _ c.write_content.result c.in-Some.ensures.exact (rw c.tag.ensures at c.in_ok-put_header.ensures.ok) c.write_content.ensures.ok
