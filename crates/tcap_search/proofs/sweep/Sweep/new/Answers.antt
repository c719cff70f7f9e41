-- Both maps are empty.
use Rattle.std.proofs.Common.{◌≡◌, ℕ, ℤ, Bool, true, false, None}
use Rattle.tcap_record.specs.declared.entry.End.{End as Side}
use Rattle.tcap_search.specs.Sweep.{answer_kept}
use Rattle.tcap_search.proofs.sweep.Sweep.new.Goals as goal

pub returns-clause-answers : goal.returns-clause-answers
returns-clause-answers c = λ is_result t s id. by t s id is_result
  where
    by : (t : ℕ) (s : Side) (id : ℤ) (is_result : Bool)
        → answer_kept is_result t s id
        (record { invokes = c.new.result; results = c.new-2.result; errors = c.new-3.result }) ≡ None
    by t s id true = c.new-2.ensures t s id
    by t s id false = c.new-3.ensures t s id
