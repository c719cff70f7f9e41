use Rattle.std.proofs.Common.{Vec, Global, Option, ℕ, refl, ap, ◌∙◌}
use Rattle.tcap_search.specs.Candidates.{numbers_of, under_top}
use Rattle.tcap_search.proofs.UntiedLaws.{popped, put_stack, same_stack}
use Rattle.tcap_search.proofs.stacks.pop_from.Goals as goal

pub returns-in_err-get_mut-clause-left : goal.returns-in_err-get_mut-clause-left
returns-in_err-get_mut-clause-left c =
    same_stack under_top c.args.id.octets.now c.args.stacks.now.entries _ (rw c.get_mut.follows.holds-at-none refl)
    (rw (← (rw c.to_transaction_id-key.ensures at c.in_err-get_mut.ensures.value)) refl)

pub returns-clause-left : goal.returns-clause-left
returns-clause-left c =
    let written = c.get_mut.follows.holds c.pop.new.self in
    let found = rw c.to_transaction_id-key.ensures at c.in_ok-get_mut.ensures.value in
    put_stack under_top c.args.id.octets.now c.args.stacks.now.entries _ c.pop.new.self
    (rw c.to_transaction_id-key.ensures at ((written.3 (rw (← c.in_ok-get_mut.ensures.value) refl)).0))
    (popped c.in_ok-get_mut.field-0.now.items c.pop.new.self.items c.pop.result _ _ c.in_ok-get_mut.field-0.now.ok.0
    c.pop.ensures.items c.pop.ensures.cases
    ∙ ap (λ (o : Option (Vec ℕ Global)). under_top (numbers_of o)) found)
