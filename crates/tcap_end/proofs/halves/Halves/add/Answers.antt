use Rattle.tcap_end.proofs.AddLaws.{Adds, Same, adds, end_added, freed, grown, held_added, same_end, same_held}
use Rattle.tcap_end.proofs.AllPlacedLaws.{placed_added}
use Rattle.tcap_end.proofs.halves.Halves.add.Goals as goal

pub returns-in_err-number-clause-held : goal.returns-in_err-number-clause-held
returns-in_err-number-clause-held c =
    same_held c.requires.held (grown c.args.self.now c.insert.new.self c.insert.new.self.capacity c.in_err-number.ensures.err)

-- the place was put
added : (c : goal.In-Ok) → Adds c.args.key c.in_ok-number.number c.args.half c.args.self.now c.put_place.new.self
added c =
    adds c.args.self.now c.put_place.new.self c.insert.new.self c.args.key c.in_ok-number.number c.args.half
    c.in_ok-number.ensures.was_vacant c.in_ok-number.ensures.updates c.in-Ok.ensures.begun c.in-Ok.ensures.accepted
    c.in-Ok.ensures.others c.in-Ok.ensures.put

pub returns-in-Ok-clause-added : goal.returns-in-Ok-clause-added
returns-in-Ok-clause-added c = end_added c.requires.held c.requires.new (added c)

pub returns-in-Ok-clause-held : goal.returns-in-Ok-clause-held
returns-in-Ok-clause-held c = held_added c.requires.held c.requires.new (added c)

pub returns-in-Ok-clause-placed : goal.returns-in-Ok-clause-placed
returns-in-Ok-clause-placed c =
    placed_added c.args.self.now c.put_place.new.self c.insert.new.self c.args.key c.in_ok-number.number c.args.half
    c.in_ok-number.ensures.updates c.in-Ok.ensures.begun c.in-Ok.ensures.accepted c.in-Ok.ensures.others c.requires.new.free
    c.in-Ok.ensures.put

-- the place was not put
unchanged : (c : goal.Joined-try_remove) → Same c.args.self.now (record c.put_place.new.self { slab = c.try_remove.new.self })
unchanged c =
    freed c.args.self.now c.put_place.new.self c.insert.new.self c.args.key c.in_ok-number.number c.args.half
    c.in_ok-number.ensures.was_vacant c.in_ok-number.ensures.updates c.in-Err.ensures.begun c.in-Err.ensures.accepted
    c.in-Err.ensures.others
    c.try_remove.new.self c.try_remove.ensures.updates c.in-Err.ensures.kept

pub returns-in-Err-clause-kept : goal.returns-in-Err-clause-kept
returns-in-Err-clause-kept c = same_end c.requires.held (unchanged c)

pub returns-in-Err-clause-held : goal.returns-in-Err-clause-held
returns-in-Err-clause-held c = same_held c.requires.held (unchanged c)
