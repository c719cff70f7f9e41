use Rattle.std.proofs.Common.{ℕ, List, ◌∷◌, refl}
use Rattle.tcap_search.proofs.UntiedLaws.{pushed, pushed_first, put_stack}
use Rattle.tcap_search.proofs.stacks.push_to.Goals as goal

pub returns-in_ok-push-in-Some : goal.returns-in_ok-push-in-Some
returns-in_ok-push-in-Some c =
    let written = c.get_mut.follows.holds c.push.new.self in
    put_stack (λ (ns : List ℕ). c.args.number ∷ ns) c.args.id.octets.now c.args.stacks.now.entries _ c.push.new.self
    (rw c.to_transaction_id-key.ensures at ((written.3 (rw (← c.in-Some.ensures.value) refl)).0))
    (pushed c.args.number _ c.in-Some.stack.now c.push.new.self
    (rw c.to_transaction_id-key.ensures at c.in-Some.ensures.value)
    c.in_ok-push-in-Some.ensures.items)

pub returns-in_ok-insert-in-None : goal.returns-in_ok-insert-in-None
returns-in_ok-insert-in-None c =
    put_stack (λ (ns : List ℕ). c.args.number ∷ ns) c.args.id.octets.now c.args.stacks.now.entries _
    c.push-in-None.new.self
    (rw (c.get_mut.follows.holds-at-none, c.to_transaction_id-key.ensures) at c.in_ok-insert-in-None.ensures.updates.0)
    (pushed_first c.args.number _ c.new-stack.result.items c.push-in-None.new.self.items
    (rw c.to_transaction_id-key.ensures at c.in-None.ensures.value) c.new-stack.ensures.items
    c.in_ok-push-in-None.ensures.items)
