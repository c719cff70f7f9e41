use Rattle.std.proofs.Common.{◌≡◌, ℕ, List, Result, Ok, Err, ap, subst, inr}
use Rattle.std.specs.Prelude.{◌≢◌}
use Rattle.tcap_end.specs.declared.table.TableFault.{TableFault}
use Rattle.tcap_end.specs.declared.table.TableReason.TheVariants.{Memory}
use Rattle.tcap_end.specs.Table.{Table}
use Rattle.tcap_end.specs.TableText.{IsTableOf, table_fault}
use Rattle.tcap_judge.specs.declared.outcome.Outcome.{Outcome}
use Rattle.tcap_judge.specs.declared.outcome.Outcome.TheVariants.{Faulty}
use Rattle.tcap_judge.proofs.table_and_certificate.read_table.Goals.{in-Memory, in_default}
use Rattle.tcap_judge.proofs.table_and_certificate.read_table.Goals as goal

pub returns-in-Ok : goal.returns-in-Ok
returns-in-Ok g c =
    let f = c.in-Err-from_json.fault in
    let other : f ≢ table_fault Memory 0 = elim c.match-matches.branch [
      | in-Memory w ↦ λ e. cc
      | in_default w ↦ λ e. w.in_default.not-Memory (ap (λ (x : TableFault). x.reason) e)
    ] in
    let result : Result Table TableFault = Err f in
    let other_result : result ≢ Err (table_fault Memory 0) = λ e.
    let same : f ≡ table_fault Memory 0 = cc in other same in
    record {
      text = Ok c.in-Ok.text.items;
      reads = c.in-Ok.ensures.reads;
      is = inr (
        result,
        subst (λ (o : List ℕ). IsTableOf o result) c.deref.ensures.value (c.in-Err-from_json.ensures other_result),
        ap (λ (n : ℕ). let r : Result Table Outcome = Err (Faulty n f.place) in r) c.number.ensures,
      );
    }
