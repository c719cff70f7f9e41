use Rattle.tcap_explain.proofs.NamedEnds.{named_a, named_b}
use Rattle.tcap_explain.proofs.refuted_text.push_both.Goals as goal

pub push_end-requires-then-comes_after : goal.push_end-requires-then-comes_after
push_end-requires-then-comes_after c =
    record { named = named_a c.args.table.now c.args.read.now.entries.items c.args.ends c.requires.found }

pub push_end-requires : goal.push_end-requires
push_end-requires c =
    record { named = named_b c.args.table.now c.args.read.now.entries.items c.args.ends c.requires.found }

pub push_end-requires-else-comes_after : goal.push_end-requires-else-comes_after
push_end-requires-else-comes_after c =
    record { named = named_a c.args.table.now c.args.read.now.entries.items c.args.ends c.requires.found }

pub push_end-requires-else-comes_after-2 : goal.push_end-requires-else-comes_after-2
push_end-requires-else-comes_after-2 c =
    record { named = named_b c.args.table.now c.args.read.now.entries.items c.args.ends c.requires.found }
