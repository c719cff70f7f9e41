-- The entry at the front, and the fault of its element.
use Rattle.std.specs.Prelude.{Ok}
use Rattle.std.proofs.Common.{arith, ap, ◌∙◌}
use Rattle.tcap_record.specs.RecordOctets.{octet_of}
use Rattle.tcap_traces.specs.declared.pieces.FormRule.TheVariants.{BadElement}
use Rattle.tcap_traces.specs.Pieces.{stopped}
use Rattle.tcap_traces.proofs.PieceLaws.{front_entry, front_fault, letter_of, no_mark, whole_within}
use Rattle.tcap_traces.proofs.pieces.front_entry.Goals as goal

pub returns-in-Ok-Whole : goal.returns-in-Ok-Whole
returns-in-Ok-Whole c =
    let element = c.args.element.now in
    let sender = c.args.sender in
    let is = c.in-Ok-Whole.ensures.exact ∙ ap Ok c.in-Ok-Whole.field-0-is in (
      omega (whole_within element c.in-Ok-Whole.len is, arith),
      λ more. front_entry (octet_of sender) element more c.args.place c.in-Ok-Whole.len sender (no_mark sender) (letter_of sender) is,
    )

pub returns-in-Err : goal.returns-in-Err
returns-in-Err c = λ more ended.
    let sender = c.args.sender in
    front_fault (octet_of sender) c.args.element.now more c.args.place sender c.in-Err.fault (no_mark sender) (letter_of sender)
    c.in-Err.ensures.exact
    ∙ ap (λ place. stopped (BadElement c.in-Err.fault.reason place)) (omega (c.saturating_add.ensures, c.saturating_add-in-Err.ensures, arith))
