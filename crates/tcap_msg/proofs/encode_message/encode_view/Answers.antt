use Rattle.std.proofs.Common.{rules, refl, Ok, ◌∙◌, ap}
use Rattle.tcap_ber.specs.Device.{one_more}
use Rattle.tcap_parts.proofs.WritingLaws.{around_written}
use Rattle.tcap_msg.specs.Meaning.{message_of}
use Rattle.tcap_msg.proofs.EncodeLaws.{none_inside, too_long, fits, content_there, write_failed}
use Rattle.tcap_msg.proofs.encode_message.encode_view.Goals as goal

pub returns-in_default-clause-exact : goal.returns-in_default-clause-exact
returns-in_default-clause-exact g c = (none_inside (message_of c.args.message) c.in_default.ensures, search rules, refl)

pub returns-then-len-gt-CONTENT_LIMIT-clause-exact : goal.returns-then-len-gt-CONTENT_LIMIT-clause-exact
returns-then-len-gt-CONTENT_LIMIT-clause-exact g c =
    (too_long (message_of c.args.message) c.in-Some.len c.in-Some.ensures c.if-len-gt-CONTENT_LIMIT.true, search rules, refl)

pub returns-in_err-put_header-clause-exact : goal.returns-in_err-put_header-clause-exact
returns-in_err-put_header-clause-exact g c =
    write_failed (message_of c.args.message) c.in-Some.len _ _ _ _ c.from_residual.result c.in-Some.ensures c.if-len-gt-CONTENT_LIMIT.false c.in_err-put_header.ensures.counts c.from_residual.ensures.1

pub write_content-requires : goal.write_content-requires
write_content-requires g c = content_there _ c.in-Some.len c.in-Some.ensures

pub returns-in_err-write_content-clause-exact : goal.returns-in_err-write_content-clause-exact
returns-in_err-write_content-clause-exact g c =
    write_failed (message_of c.args.message) c.in-Some.len _ _ _ _ c.from_residual-in_err-write_content.result c.in-Some.ensures c.if-len-gt-CONTENT_LIMIT.false
    (c.in_err-write_content.ensures.counts ∙ ap one_more c.in_ok-put_header.ensures.counts) c.from_residual-in_err-write_content.ensures.1

pub returns-clause-exact : goal.returns-clause-exact
returns-clause-exact g c =
    let there = fits (message_of c.args.message) c.in-Some.len c.in-Some.ensures c.if-len-gt-CONTENT_LIMIT.false in
    let header = rw (c.tag.ensures, c.kind.ensures) at c.in_ok-put_header.ensures.ok in
    let written = around_written _ c.in-Some.len _ _ _ _ (Ok tt) c.in-Some.ensures header c.in_ok-write_content.ensures.ok in (
      (there.0, there.1, written there.0 there.1),
      c.in_ok-write_content.ensures.counts ∙ c.in_ok-put_header.ensures.counts,
    )
