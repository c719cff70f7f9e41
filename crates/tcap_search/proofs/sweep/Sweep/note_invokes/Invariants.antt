-- the Invokes so far, with those of the rest
use Rattle.std.proofs.Common.{◌≡◌, ◌==◌, ◌&&◌, ℕ, ℤ, drop}
use Rattle.std.specs.Option.{option_or}
use Rattle.std.specs.Prelude.{option_map}
use Rattle.tcap_record.specs.declared.entry.End.{End as Side}
use Rattle.tcap_model.specs.World.{is_side}
use Rattle.tcap_model.specs.Run.{only_if}
use Rattle.tcap_search.specs.ProposedCertificate.{last_invoke}
use Rattle.tcap_search.specs.InvocationMap.{kept_at}
use Rattle.tcap_search.proofs.sweep.Sweep.note_invokes.Given as goal

abbrev pub invariant-loop-place : goal.invariant-loop-place
invariant-loop-place l = record {
  noted : (t : ℕ) (s : Side) (id : ℤ) → option_or (only_if (t == l.transaction && is_side s l.side)
      (option_map (λ place. (l.number, place)) (last_invoke id l.place (drop l.place l.components))))
      (kept_at t s id l.self.invokes)
      ≡ option_or (only_if (t == l.transaction && is_side s l.side)
      (option_map (λ place. (l.number, place)) (last_invoke id 0 l.components))) (kept_at t s id l.fn.self.invokes);
  results : l.self.results ≡ l.fn.self.results;
  errors : l.self.errors ≡ l.fn.self.errors;
}
