use Rattle.std.proofs.Common.{Some, is_some, option_map, to_z-of_z, sym, ap, ◌∙◌}
use Rattle.std.specs.Box.{with_value}
use Rattle.std.proofs.lemmas.Result.{on_ok_weaker}
use Rattle.tcap_parts.specs.Meaning.{component_of}
use Rattle.tcap_faults.specs.TallyMeaning.{kept_of}
use Rattle.tcap_faults.proofs.component_laws.TallyLaws.{steps_first, steps_on, tally_noted}
use Rattle.tcap_faults.proofs.component.tally.Tally.note_of_id.Goals as goal

pub returns-in-Some : goal.returns-in-Some
returns-in-Some c =
    let now = with_value c.in-Some.kept.now c.note.new.self in
    let found = rw (to_z-of_z c.ranges.id) at c.in-Some.ensures.value in
    let written = rw (to_z-of_z c.ranges.id) at c.get_mut.follows.holds now in
    on_ok_weaker c.note.result
    (λ noted. tally_noted c.args.table.now (component_of c.args.component) c.args.id c.requires c.args.self.now
    (record { ids = c.get_mut.follows.lender now }) now (written.3 (sym (ap is_some found))).0
    (steps_on c.args.table.now (component_of c.args.component) (kept_of c.args.id c.args.self.now) c.note.new.self
    c.deref_mut.result.now (ap Some c.deref_mut.ensures.value ∙ ap (option_map (λ kept. kept.value)) found) noted))
    c.note.ensures

pub returns : goal.returns
returns c =
    tally_noted c.args.table.now (component_of c.args.component) c.args.id c.requires c.args.self.now
    (record { ids = c.insert.new.self }) c.in_ok-new.field-0
    (rw (c.get_mut.follows.holds-at-none, to_z-of_z c.ranges.id) at c.in_ok-insert.ensures.updates.0)
    (rw c.in_ok-new.ensures.ok
    (steps_first c.args.table.now (component_of c.args.component) (kept_of c.args.id c.args.self.now) c.note-2.new.self
    c.new-kept.result
    (ap (option_map (λ kept. kept.value)) (rw (to_z-of_z c.ranges.id) at c.in_default.ensures.value))
    c.new-kept.ensures c.in_ok-note.ensures))
