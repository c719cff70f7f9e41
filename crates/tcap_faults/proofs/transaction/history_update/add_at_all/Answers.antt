use Rattle.std.proofs.Common.{bytes_eq, sym}
use Rattle.tcap_faults.proofs.transaction_laws.JoinedIdsLaws.{any_all, gets_first, gets_next, gets_none, gets_same, none_at_all}
use Rattle.tcap_faults.proofs.transaction.history_update.add_at_all.Goals as goal

pub loop-key-init : goal.loop-key-init
loop-key-init c =
    gets_first c.args.keys.now.first c.in-Some.first c.in-Some.is c.deref-key-items.result.now c.args.id.octets.now
    c.args.map.now c.add_at.new.map (rw c.view.ensures at c.in_ok-add_at.ensures)

pub loop-key-preserved : goal.loop-key-preserved
loop-key-preserved c =
    gets_next c.args.keys.now.first c.in-Some.first c.in-Some.is c.deref-key-items.result.now c.args.id.octets.now
    c.args.map.now c.loop-key.key-index c.key-item.result c.loop-key-test.true c.key-item.is c.loop-key.map c.add_at-in-loop-key.new.map
    c.loop-key.invariant (rw c.view-in-loop-key.ensures at c.in_ok-add_at-2.ensures)

pub returns-after-loop-key : goal.returns-after-loop-key
returns-after-loop-key c = λ those are.
    gets_same c.args.id.octets.now _ _ c.args.map.now c.loop-key.map
    (λ key. any_all (bytes_eq key) c.args.keys.now those c.deref-key-items.result.now c.loop-key.key-index
    c.deref-key-items.ensures.value c.loop-key-test.false are)
    c.loop-key.invariant

pub returns-in_default : goal.returns-in_default
returns-in_default c = λ those are.
    gets_none c.args.id.octets.now _ c.args.map.now
    (λ key. none_at_all (bytes_eq key) c.args.keys.now those (sym c.in_default.is) are)
