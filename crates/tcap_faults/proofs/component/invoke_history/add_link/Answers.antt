use Rattle.std.proofs.Common.{to_z-of_z}
use Rattle.std.proofs.lemmas.Result.{on_ok_weaker}
use Rattle.tcap_parts.specs.Meaning.{code_of}
use Rattle.tcap_faults.proofs.component_laws.LinkLaws.{link_made, link_written}
use Rattle.tcap_faults.proofs.component.invoke_history.add_link.Goals as goal

pub returns-in-Some : goal.returns-in-Some
returns-in-Some c =
    on_ok_weaker c.add.result
    (link_written c.args.linked (code_of c.args.code) c.args.by_link.now (c.get_mut.follows.lender c.add.new.self)
    c.add.new.self c.in-Some.counts.now (rw (to_z-of_z c.ranges.linked) at c.in-Some.ensures.value)
    (rw (to_z-of_z c.ranges.linked) at c.get_mut.follows.holds c.add.new.self))
    c.add.ensures.codes

pub returns : goal.returns
returns c =
    link_made c.args.linked (code_of c.args.code) c.args.by_link.now c.insert.new.self c.add-2.new.self
    c.new-counts.result (rw (to_z-of_z c.ranges.linked) at c.in_default.ensures.value)
    (rw (c.get_mut.follows.holds-at-none, to_z-of_z c.ranges.linked) at c.in_ok-insert.ensures.entries)
    c.new-counts.ensures.codes c.in_ok-add.ensures.codes
