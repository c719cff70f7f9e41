use Rattle.std.proofs.Common.{append_assoc}
use Rattle.std.specs.Prelude.{codes}
use Rattle.std.specs.String.{string_bytes}
use Rattle.tcap_record.proofs.lines.push_abort_source.Goals as goal

pub returns : goal.returns
returns c =
    rw (c.in_ok-push_str.ensures.bytes, append_assoc (string_bytes c.args.text.now) (codes " ABRT source=") _) at
    c.write.ensures.bytes
