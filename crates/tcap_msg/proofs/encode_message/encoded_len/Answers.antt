use Rattle.std.proofs.Common.{length, ◌∙◌, sym, ap}
use Rattle.std.specs.Option.{option_map}
use Rattle.tcap_parts.proofs.WritingLaws.{around_of}
use Rattle.tcap_msg.specs.Canonical.{canonical_content}
use Rattle.tcap_msg.proofs.EncodeLaws.{none_inside}
use Rattle.tcap_msg.proofs.encode_message.encoded_len.Goals as goal

pub returns-in_err-len_content : goal.returns-in_err-len_content
returns-in_err-len_content c =
    c.from_residual.ensures ∙ sym (ap (option_map length) (none_inside c.args.message.now (rw c.view.ensures at c.in_err-len_content.ensures)))

pub returns : goal.returns
returns c =
    around_of _ _ (canonical_content c.args.message.now) c.element_len.result (rw c.view.ensures at c.in_ok-len_content.ensures) c.element_len.ensures.exact
