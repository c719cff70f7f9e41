-- the answers of the entries so far
use Rattle.std.proofs.Common.{◌≡◌, ℕ, ℤ, Bool, Some, cond, take}
use Rattle.std.specs.List.{list_any}
use Rattle.tcap_record.specs.declared.entry.End.{End as Side}
use Rattle.tcap_search.specs.InvocationMap.{kept_at}
use Rattle.tcap_search.specs.Sweep.{answer_at, answer_kept, answers_at}
use Rattle.tcap_search.proofs.sweep.Sweep.deliver_all.Given as goal

abbrev pub invariant-loop-number : goal.invariant-loop-number
invariant-loop-number l = record {
  noted : (is_result : Bool) (t : ℕ) (s : Side) (id : ℤ) → answer_kept is_result t s id l.self
      ≡ cond (list_any (answers_at l.entries l.transactions is_result t s id) (take l.number-index l.due))
      (Some (answer_at l.gap (kept_at t s id l.fn.self.invokes))) (answer_kept is_result t s id l.fn.self);
  invokes : l.self.invokes ≡ l.fn.self.invokes;
}
