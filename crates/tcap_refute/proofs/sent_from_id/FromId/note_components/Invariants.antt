-- The facts so far, and those of the components that are left, are the facts at the end.
use Rattle.std.proofs.Common.{◌≡◌, ◌||◌, ℤ}
use Rattle.std.specs.List.{list_any}
use Rattle.std.proofs.lemmas.Map.Lookups.{exact_signed}
use Rattle.tcap_parts.specs.Meaning.{components_left}
use Rattle.tcap_refute.specs.Facts.{IdFact, shows}
use Rattle.tcap_refute.specs.KeptFacts.{id_fact_noted}
use Rattle.tcap_refute.specs.NotesUpdate.{IsSameHead}
use Rattle.tcap_refute.proofs.SetLaws.{told_at}
use Rattle.tcap_refute.proofs.sent_from_id.FromId.note_components.Given as goal

abbrev pub invariant-loop-component : goal.invariant-loop-component
invariant-loop-component l = record {
  facts : (id : ℤ) (fact : IdFact)
      → (told_at exact_signed id_fact_noted l.self.ids.entries id fact
      || list_any (shows l.table id fact) (components_left l.component-iterator))
      ≡ (told_at exact_signed id_fact_noted l.fn.self.ids.entries id fact
      || list_any (shows l.table id fact) (components_left l.fn.components));
  head : IsSameHead l.fn.self l.self;
}
