use mir.Syntax.{w8}
use Rattle.std.proofs.Common.{ap, ◌∙◌}
use Rattle.std.proofs.lemmas.Int.{to_z-of_z}
use Rattle.tcap_end.specs.declared.half.InvocationState.TheVariants as states
use Rattle.tcap_end.specs.declared.half_state.Change.TheVariants.{Waits}
use Rattle.tcap_end.specs.HalfState.{kept_of}
use Rattle.tcap_end.specs.OwnInvocations.{with_state}
use Rattle.tcap_end.proofs.NoteLaws.{out_noted}
use Rattle.tcap_end.proofs.ReceivingLaws.{sent_place, waits_back}
use Rattle.tcap_end.proofs.half_state.HalfState.wait.Goals as goal

pub set_state-requires : goal.set_state-requires
set_state-requires c = record { made = rw (to_z-of_z w8 c.args.id c.ranges.id) (sent_place c.args.id c.args.self.now.out c.requires.exists) }

pub note-requires : goal.note-requires
note-requires c =
    record {
      can = rw (to_z-of_z w8 c.args.id c.ranges.id)
          (c.set_state.ensures.others c.args.id (sent_place c.args.id c.args.self.now.out c.requires.exists));
    }

pub returns-clause-undoes : goal.returns-clause-undoes
returns-clause-undoes c =
    let id = c.args.id in
    let out = c.args.self.now.out in
    let there = c.requires.exists in
    out_noted c.note.result c.args.changes.now c.note.new.changes c.args.self.now c.note.new.self (Waits id) c.set_state.new.self
    (ap (λ outs. record (kept_of c.args.self.now) { out = outs })
    (ap (with_state id states.OperationSent) (rw (to_z-of_z w8 id c.ranges.id) at c.set_state.ensures.in_state) ∙ waits_back id out there))
    c.set_state.ensures.others (c.set_state.ensures.others id (sent_place id out there))
    (rw (to_z-of_z w8 id c.ranges.id) at c.note.ensures.noted) (rw (to_z-of_z w8 id c.ranges.id) at c.note.ensures.undone)
