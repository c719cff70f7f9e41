use Rattle.std.proofs.Common.{[]}
use Rattle.tcap_ber.specs.Reading.{span}
use Rattle.tcap_ber.proofs.ResultLaws.{body_found, body_only, body_faulty}
use Rattle.tcap_parts.specs.Dialogue.{dialogue}
use Rattle.tcap_parts.specs.DialogueMeaning.{dialogue_of}
use Rattle.tcap_parts.specs.DialogueReading.{dialogue_at}
use Rattle.tcap_parts.proofs.DialogueLaws.{reads_dialogue}
use Rattle.tcap_parts.proofs.dialogue_reading.view_dialogue.Goals as goal

pub returns-clause-found : goal.returns-clause-found
returns-clause-found c =
    body_found dialogue (λ e. dialogue_at e.content) reads_dialogue dialogue_of (record { tag = []; content = span c.args.content; place = c.args.content.place })
    c.read_dialogue.result c.read_dialogue.ensures.exact

pub returns-clause-only : goal.returns-clause-only
returns-clause-only c =
    body_only dialogue (λ e. dialogue_at e.content) reads_dialogue dialogue_of (record { tag = []; content = span c.args.content; place = c.args.content.place })
    c.read_dialogue.result c.read_dialogue.ensures.exact

pub returns-clause-faulty : goal.returns-clause-faulty
returns-clause-faulty c =
    λ fault at. body_faulty dialogue (λ e. dialogue_at e.content) reads_dialogue dialogue_of (record { tag = []; content = span c.args.content; place = at })
    c.read_dialogue.result c.read_dialogue.ensures.exact fault
