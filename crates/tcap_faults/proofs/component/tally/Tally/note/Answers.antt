use Rattle.std.proofs.Common.{sym}
use Rattle.std.proofs.lemmas.Result.{on_ok_weaker}
use Rattle.tcap_parts.specs.Meaning.{component_of}
use Rattle.tcap_faults.specs.TallyMeaning.{tally_of}
use Rattle.tcap_faults.proofs.component_laws.TallyLaws.{is_more, none_tallied}
use Rattle.tcap_faults.proofs.component.tally.Tally.note.Goals as goal

pub returns-in-Some : goal.returns-in-Some
returns-in-Some c = λ cs was.
    on_ok_weaker c.note_of_id.result
    (λ is. is_more c.args.table.now cs (component_of c.args.component) c.args.self.now c.note_of_id.new.self is was)
    c.note_of_id.ensures

pub returns-in-None : goal.returns-in-None
returns-in-None c = λ cs was.
    is_more c.args.table.now cs (component_of c.args.component) c.args.self.now c.args.self.now
    (none_tallied c.args.table.now (component_of c.args.component) (tally_of c.args.self.now)
    (sym c.in-None.ensures))
    was
