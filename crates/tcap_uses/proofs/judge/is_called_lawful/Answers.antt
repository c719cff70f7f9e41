use Rattle.std.proofs.Common.{◌≡◌, ℕ, List, Ok, Option, Some, refl, ap, subst}
use Rattle.std.specs.Io.KnownBytes.{Consumes}
use Rattle.tcap_end.specs.Table.{Table}
use Rattle.tcap_end.specs.TableText.{IsTableOf}
use Rattle.tcap_model.specs.World.{Item}
use Rattle.tcap_model.specs.Run.{IsLawful}
use Rattle.tcap_lines.specs.declared.status.Status.{Status}
use Rattle.tcap_lines.specs.declared.status.Status.TheVariants.{Fine}
use Rattle.tcap_judge.specs.Device.{Device}
use Rattle.tcap_judge.specs.LawfulRecord.{FindsLawful, SpellsRecord}
use Rattle.tcap_uses.proofs.Results.{told_all}
use Rattle.tcap_uses.proofs.judge.is_called_lawful.Goals.{in-Fine, in_default}
use Rattle.tcap_uses.proofs.judge.is_called_lawful.Goals as goal

-- A record that is found lawful from two readers of known octets is lawful by these octets.
known_lawful : (entries table : Device) (taken taken' : Option (List ℕ)) (octets text : List ℕ)
    → entries.before ≡ Some octets → table.before ≡ Some text → FindsLawful entries table taken taken'
    → (items : List Item) × (operations : Table) × (moves : ℕ) × SpellsRecord items octets
    × IsTableOf text (Ok operations) × IsLawful items operations moves
known_lawful entries table taken taken' octets text is text_is found =
    let returned = subst (λ (o : Option (List ℕ)). Consumes o entries.after found.returned.octets) is found.returned.tells.0 in
    let refutation_text = subst (λ (o : Option (List ℕ)). Consumes o table.after found.returned.text) text_is found.returned.tells_table.0 in
    let all = told_all octets found.returned.octets entries.after returned found.returned.tells.1 in
    let all_text = told_all text found.returned.text table.after refutation_text found.returned.tells_table.1 in (
      found.items,
      found.operations,
      found.moves,
      subst (SpellsRecord found.items) all found.returned.spells,
      subst (λ (t : List ℕ). IsTableOf t (Ok found.operations)) all_text found.returned.is_table,
      found.lawful,
    )

pub returns : goal.returns
returns c = record {
  lawful = λ is.
      let fine : c.in_ok-status.status ≡ Fine = elim c.match-matches.branch [
        | in-Fine w ↦ w.in-Fine.is
        | in_default w ↦ cc
      ] in
      let found = c.in_ok-status.ensures.lawful (ap (λ (s : Status). Ok s) fine) in
      known_lawful _ _ _ _ c.args.octets.now c.args.table.now (rw c.new-entries.ensures.inner refl)
      (rw c.new-of_table.ensures.inner refl) found;
}
