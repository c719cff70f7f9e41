use Rattle.std.proofs.Common.{append_assoc}
use Rattle.std.specs.Prelude.{codes}
use Rattle.std.specs.String.{string_bytes}
use Rattle.tcap_record.proofs.component_lines.push_parameter.Goals as goal

pub returns-in_ok-push_str-in-Some : goal.returns-in_ok-push_str-in-Some
returns-in_ok-push_str-in-Some c =
    rw (
      c.in-Some.is,
      ← append_assoc (string_bytes c.args.text.now) (codes " parameter=") _,
      ← c.in_ok-push_str-in-Some.ensures.bytes,
    ) c.push_hex.ensures
