use Rattle.std.proofs.Common.{to_z-of_z}
use Rattle.std.proofs.lemmas.Result.{on_ok_weaker}
use Rattle.tcap_parts.specs.Meaning.{component_of}
use Rattle.tcap_refute.proofs.IdLaws.{id_made, id_written}
use Rattle.tcap_refute.proofs.sent_from_id.FromId.note_of_id.Goals as goal

pub returns-in-Some-clause-ids : goal.returns-in-Some-clause-ids
returns-in-Some-clause-ids c =
    on_ok_weaker c.note.result
    (id_written c.args.table.now c.args.id (component_of c.args.component) c.requires
    c.args.self.now.ids (c.get_mut.follows.lender c.note.new.self) c.note.new.self c.in-Some.kept.now
    (rw (to_z-of_z c.ranges.id) at c.in-Some.ensures.value)
    (rw (to_z-of_z c.ranges.id) at c.get_mut.follows.holds c.note.new.self))
    (c.note.ensures c.args.id c.requires)

pub returns-clause-ids : goal.returns-clause-ids
returns-clause-ids c =
    id_made c.args.table.now c.args.id (component_of c.args.component) c.requires
    c.args.self.now.ids c.insert.new.self c.note-2.new.self c.new-kept.result
    (rw (to_z-of_z c.ranges.id) at c.in_default.ensures.value)
    (rw (c.get_mut.follows.holds-at-none, to_z-of_z c.ranges.id) at c.in_ok-insert.ensures.updates.0)
    c.new-kept.ensures
    (c.in_ok-note.ensures c.args.id c.requires)
