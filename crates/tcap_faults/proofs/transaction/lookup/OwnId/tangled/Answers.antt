use Rattle.std.proofs.Common.{refl, sym, ◌∙◌}
use Rattle.tcap_faults.proofs.transaction.lookup.OwnId.tangled.Goals as goal

pub returns-then-not-is_tangled : goal.returns-then-not-is_tangled
returns-then-not-is_tangled c = λ table side items id is.
    rw (sym (c.is_tangled.ensures table side items id is) ∙ c.if-not-is_tangled.true) refl

pub returns : goal.returns
returns c = λ table side items id is.
    rw (
      sym (c.is_tangled.ensures table side items id is) ∙ c.if-not-is_tangled.false,
      c.to_transaction_id.ensures,
      c.view.ensures,
      is.it,
    ) refl
