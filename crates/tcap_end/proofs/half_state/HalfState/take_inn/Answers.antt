use mir.Syntax.{w8}
use Rattle.std.proofs.Common.{ap}
use Rattle.std.proofs.lemmas.Int.{to_z-of_z}
use Rattle.tcap_end.specs.declared.half_state.HalfState.{HalfState}
use Rattle.tcap_end.specs.declared.half_state.Change.TheVariants.{InnTaken}
use Rattle.tcap_end.specs.HalfState.{kept_of}
use Rattle.tcap_end.proofs.NoteLaws.{keeps_inn, read_noted, still_noted}
use Rattle.tcap_end.proofs.SendLaws.{goes_back, is_back}
use Rattle.tcap_end.proofs.half_state.HalfState.take_inn.Goals as goal

pub take-kind-requires : goal.take-kind-requires
take-kind-requires c = record { exists = rw (to_z-of_z w8 c.args.id c.ranges.id) c.requires.exists }

pub note-requires : goal.note-requires
note-requires c =
    let list = c.take-kind in
    record {
      can = goes_back _ c.args.at list.result c.args.self.now.inn list.new.self (rw (to_z-of_z w8 c.args.id c.ranges.id) c.requires.exists)
          list.ensures.kind list.ensures.taken list.ensures.keeps;
    }

pub returns-clause-taken : goal.returns-clause-taken
returns-clause-taken c =
    let h : HalfState = c.args.self.now in
    read_noted c.note.result _ c.note.new.changes (record h { inn = c.take-kind.new.self }) c.note.new.self kept_of _ c.note.ensures.noted
    (ap (λ rows. record (kept_of h) { inn = rows }) (rw (to_z-of_z w8 c.args.id c.ranges.id) at c.take-kind.ensures.taken))

pub returns-clause-undoes : goal.returns-clause-undoes
returns-clause-undoes c =
    let h : HalfState = c.args.self.now in let list = c.take-kind in
    still_noted c.note.result (InnTaken _ c.args.at list.result) c.args.changes.now c.note.new.changes h
    (record h { inn = list.new.self }) c.note.new.self
    (ap (λ rows. record (kept_of h) { inn = rows })
    (is_back _ c.args.at list.result h.inn list.new.self (rw (to_z-of_z w8 c.args.id c.ranges.id) c.requires.exists)
    list.ensures.kind list.ensures.taken list.ensures.keeps))
    (keeps_inn h list.new.self list.ensures.keeps)
    (goes_back _ c.args.at list.result h.inn list.new.self (rw (to_z-of_z w8 c.args.id c.ranges.id) c.requires.exists)
    list.ensures.kind list.ensures.taken list.ensures.keeps)
    c.note.ensures.noted c.note.ensures.undone
