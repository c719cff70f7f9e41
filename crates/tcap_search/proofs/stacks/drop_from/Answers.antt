use Rattle.std.proofs.Common.{Vec, Global, Option, ℕ, reverse, refl, ap, sym, ◌∙◌}
use Rattle.tcap_search.specs.Candidates.{numbers_of, without}
use Rattle.tcap_search.proofs.UntiedLaws.{left_on, popped, put_stack, same_stack, taken_off}
use Rattle.tcap_search.proofs.stacks.drop_from.Goals as goal

pub returns-then-is_top : goal.returns-then-is_top
returns-then-is_top c =
    let written = c.get_mut.follows.holds c.pop.new.self in
    let found = rw c.to_transaction_id-key.ensures at c.in-Some.ensures.value in
    put_stack (without c.args.number) c.args.id.octets.now c.args.stacks.now.entries _ c.pop.new.self
    (rw c.to_transaction_id-key.ensures at ((written.3 (rw (← c.in-Some.ensures.value) refl)).0))
    (popped c.in-Some.stack.now.items c.pop.new.self.items c.pop.result _ _ c.in-Some.stack.now.ok.0
    c.pop.ensures.items c.pop.ensures.cases
    ∙ (taken_off c.args.number (reverse c.in-Some.stack.now.items)
    (rw c.deref.ensures.value at (sym c.is_top.ensures ∙ c.if-is_top.true))
    ∙ ap (λ (o : Option (Vec ℕ Global)). without c.args.number (numbers_of o)) found))

pub returns-else-is_top : goal.returns-else-is_top
returns-else-is_top c =
    let written = c.get_mut.follows.holds c.in-Some.stack.now in
    let found = rw c.to_transaction_id-key.ensures at c.in-Some.ensures.value in
    put_stack (without c.args.number) c.args.id.octets.now c.args.stacks.now.entries _ c.in-Some.stack.now
    (rw c.to_transaction_id-key.ensures at ((written.3 (rw (← c.in-Some.ensures.value) refl)).0))
    (left_on c.args.number (reverse c.in-Some.stack.now.items)
    (rw c.deref.ensures.value at (sym c.is_top.ensures ∙ c.if-is_top.false))
    ∙ ap (λ (o : Option (Vec ℕ Global)). without c.args.number (numbers_of o)) found)

pub returns-in_default : goal.returns-in_default
returns-in_default c =
    same_stack (without c.args.number) c.args.id.octets.now c.args.stacks.now.entries _
    (rw c.get_mut.follows.holds-at-none refl)
    (rw (← (rw c.to_transaction_id-key.ensures at c.in_default.ensures.value)) refl)
