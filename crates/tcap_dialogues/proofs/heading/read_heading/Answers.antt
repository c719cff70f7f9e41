use Rattle.std.proofs.Common.{ap, ◌∙◌}
use Rattle.std.specs.Prelude.{option_map}
use Rattle.tcap_ber.specs.Reading.{span}
use Rattle.tcap_dialogues.specs.HeadingReading.{ids_of, kind_at, outer_content}
use Rattle.tcap_dialogues.proofs.HeadingLaws.{heading_is, with_ids}
use Rattle.tcap_dialogues.proofs.heading.read_heading.Goals as goal

-- The heading that was read is that of the message.
pub returns-clause-message : goal.returns-clause-message
returns-clause-message c m spelled =
    let octets = c.args.octets.now in
    let ids = c.ids_of.ensures ∙ ap (λ kind. ids_of kind (option_map span c.outer_content.result)) c.kind_at-kind.ensures
    ∙ ap (ids_of (kind_at octets)) c.outer_content.ensures in
    ap (with_ids c.args.sender c.kind_at-kind.result) ids
    ∙ ap (λ kind. with_ids c.args.sender kind (ids_of (kind_at octets) (outer_content octets))) c.kind_at-kind.ensures
    ∙ heading_is c.args.sender octets m spelled
