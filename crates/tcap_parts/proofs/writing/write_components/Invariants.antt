-- the components so far were written, and no failure was counted
use Rattle.std.proofs.Common.{◌≡◌}
use Rattle.tcap_parts.specs.Meaning.{components_of, components_left}
use Rattle.tcap_parts.proofs.WritingLaws.{Wrote}
use Rattle.tcap_parts.proofs.writing.write_components.Given as goal

abbrev pub invariant-loop-component : goal.invariant-loop-component
invariant-loop-component g l = record {
  wrote : Wrote (components_of l.portion) (components_left l.component-iterator) (g.W.Write.taken l.fn.writer) (g.W.Write.taken l.writer);
  count : g.W.Write.failures l.writer ≡ g.W.Write.failures l.fn.writer;
}
