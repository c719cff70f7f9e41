use Rattle.tcap_uses.proofs.search.is_shown_lawful.Goals as goal

pub returns-in-Ok-check : goal.returns-in-Ok-check
returns-in-Ok-check c = record {
  lawful = λ shown.
      let (items, are, run) = c.check.ensures.lawful c.in-Ok-check.field-0 c.in-Ok-check.is in
      (items, c.in-Ok-check.field-0.moves, are, run);
}
