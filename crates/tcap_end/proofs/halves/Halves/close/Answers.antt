use Rattle.std.proofs.Common.{sym, ◌∙◌}
use Rattle.std.proofs.lemmas.Result.{IfOk-at_ok}
use Rattle.tcap_end.proofs.ChangeLaws.{Closes, closes_accepted, closes_begun}
use Rattle.tcap_end.proofs.AllPlacedLaws.{placed_accepted, placed_begun}
use Rattle.tcap_end.proofs.halves.Halves.close.Goals as goal
use Rattle.tcap_end.proofs.halves.Halves.close.Goals.{in-Begun, in-Accepted}

closes : (c : goal.After-drop-half-3) → Closes c.args.found.slot c.args.found.key c.args.self.now c.match-found.self
closes c = elim c.match-found.branch [
  | in-Begun w ↦
      closes_begun c.args.self.now c.match-found.self c.try_remove.new.self w.insert-closed.new.self
      c.args.found.slot c.args.found.key c.number-number.result c.in-Some.half
      c.requires.held c.number-number.ensures (sym c.in-Some.ensures.value) c.try_remove.ensures.updates w.in-Begun.is
      (IfOk-at_ok _ (sym w.closed-is ∙ c.in-Ok.is) w.insert-closed.ensures.entries) w.self-is
  | in-Accepted w ↦
      closes_accepted c.args.self.now c.match-found.self c.try_remove.new.self w.insert-closed-in-Accepted.new.self
      c.args.found.slot c.args.found.key c.number-number.result c.in-Some.half
      c.requires.held c.number-number.ensures (sym c.in-Some.ensures.value) c.try_remove.ensures.updates w.in-Accepted.is
      (IfOk-at_ok _ (sym w.closed-is ∙ c.in-Ok.is) w.insert-closed-in-Accepted.ensures.entries)
      w.self-is
]

pub returns-clause-closed : goal.returns-clause-closed
returns-clause-closed c = (closes c).closed

pub returns-clause-held : goal.returns-clause-held
returns-clause-held c = (closes c).held

pub returns-clause-placed : goal.returns-clause-placed
returns-clause-placed c = elim c.match-found.branch [
  | in-Begun w ↦
      placed_begun c.args.self.now c.match-found.self c.try_remove.new.self w.insert-closed.new.self
      c.args.found.slot c.args.found.key c.number-number.result c.in-Some.half.peer
      c.number-number.ensures c.try_remove.ensures.updates w.in-Begun.is
      (IfOk-at_ok _ (sym w.closed-is ∙ c.in-Ok.is) w.insert-closed.ensures.entries) w.self-is
  | in-Accepted w ↦
      placed_accepted c.args.self.now c.match-found.self c.try_remove.new.self w.insert-closed-in-Accepted.new.self
      c.args.found.slot c.args.found.key c.number-number.result c.in-Some.half.own
      c.number-number.ensures c.try_remove.ensures.updates w.in-Accepted.is
      (IfOk-at_ok _ (sym w.closed-is ∙ c.in-Ok.is) w.insert-closed-in-Accepted.ensures.entries) w.self-is
]
