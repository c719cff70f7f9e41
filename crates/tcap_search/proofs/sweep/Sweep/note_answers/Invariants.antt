-- the answers among the components so far
use Rattle.std.proofs.Common.{◌≡◌, ◌==◌, ◌&&◌, ℕ, ℤ, Bool, Some, cond, take}
use Rattle.std.specs.List.{list_any}
use Rattle.tcap_record.specs.declared.entry.End.{End as Side}
use Rattle.tcap_model.specs.World.{is_side}
use Rattle.tcap_search.specs.ProposedCertificate.{is_answer_of}
use Rattle.tcap_search.specs.InvocationMap.{kept_at}
use Rattle.tcap_search.specs.Sweep.{answer_at, answer_kept}
use Rattle.tcap_search.proofs.sweep.Sweep.note_answers.Given as goal

abbrev pub invariant-loop-component : goal.invariant-loop-component
invariant-loop-component l = record {
  noted : (is_result : Bool) (t : ℕ) (s : Side) (id : ℤ) → answer_kept is_result t s id l.self
      ≡ cond (t == l.transaction && is_side s l.receiver
      && list_any (is_answer_of is_result id) (take l.component-index l.components))
      (Some (answer_at l.gap (kept_at t s id l.fn.self.invokes))) (answer_kept is_result t s id l.fn.self);
  invokes : l.self.invokes ≡ l.fn.self.invokes;
}
