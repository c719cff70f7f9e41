use Rattle.std.proofs.Common.{◌∙◌, rules}
use Rattle.std.specs.List.{list_any}
use Rattle.std.proofs.lemmas.Map.Lookups.{exact_signed}
use Rattle.tcap_parts.specs.Meaning.{component_of, components_left}
use Rattle.tcap_refute.specs.Facts.{shows}
use Rattle.tcap_refute.specs.KeptFacts.{id_fact_noted}
use Rattle.tcap_refute.proofs.TestLaws.{or_none}
use Rattle.tcap_refute.proofs.SetLaws.{told_at}
use Rattle.tcap_refute.proofs.IdLaws.{one_more}
use Rattle.tcap_refute.proofs.sent_from_id.FromId.note_components.Goals as goal

pub loop-component-preserved : goal.loop-component-preserved
loop-component-preserved c = record {
  facts = λ id fact. one_more (told_at exact_signed id_fact_noted c.loop-component.self.ids.entries id fact)
      (shows c.args.table.now id fact (component_of c.in-Some.component))
      (list_any (shows c.args.table.now id fact) (components_left c.next.new.self)) _ _
      (c.in_ok-note_component.ensures.ids id fact)
      (rw c.in-Some.ensures.steps at c.loop-component.invariant.facts id fact);
  head = search rules;
}

pub returns-clause-ids : goal.returns-clause-ids
returns-clause-ids c = λ id fact. or_none _ ∙ rw c.in-None.ensures.steps.0 at c.loop-component.invariant.facts id fact
