-- The first that passes is the first among those left, and those before and those left are all components.
use Rattle.std.proofs.Common.{◌≡◌, ◌+◌, length, option_copied}
use Rattle.tcap_parts.specs.Meaning.{components_left}
use Rattle.tcap_msg.specs.Parts.{components_in}
use Rattle.tcap_refute.specs.FirstComponent.{first_where}
use Rattle.tcap_refute.specs.KeptFacts.{fact_by_from}
use Rattle.tcap_refute.specs.KindsByFacts.{first_passing, passes}
use Rattle.tcap_refute.proofs.components.first_passing.Given as goal

abbrev pub invariant-loop-component : goal.invariant-loop-component
invariant-loop-component g l = record {
  so_far : first_where (passes l.table (fact_by_from (option_copied l.fn.from)) l.test) l.number
      (components_left l.component-iterator)
      ≡ first_passing l.table (fact_by_from (option_copied l.fn.from)) l.test (g.M.MessageParts.meaning l.message);
  counted : l.number + length (components_left l.component-iterator)
      ≡ length (components_in (g.M.MessageParts.meaning l.message));
}
