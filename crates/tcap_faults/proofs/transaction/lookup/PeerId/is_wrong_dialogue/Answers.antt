use Rattle.std.proofs.Common.{sym, ◌∙◌}
use Rattle.tcap_faults.proofs.dialogue_laws.HalfLookupLaws.{aborting_so, going_on_else}
use Rattle.tcap_faults.proofs.transaction.lookup.PeerId.is_wrong_dialogue.Goals as goal
use Rattle.tcap_faults.proofs.transaction.lookup.PeerId.is_wrong_dialogue.Goals.{in-Abort, in_default}

pub returns-then-matches : goal.returns-then-matches
returns-then-matches g c = λ table side items h is half. elim c.match-matches.branch [
  | in-Abort w ↦
      rw (
        c.is_wrong_in_abort.ensures,
        c.is_first_answer-is_first.ensures table side items h is half,
        half.requests,
        c.dialogue.ensures,
      ) (aborting_so side items c.args.self.id.now (g.M.MessageParts.meaning c.args.message.now) h
      (sym c.kind.ensures ∙ w.in-Abort.is))
  | in_default w ↦ let bad = sym w.matches-is ∙ c.if-matches.true in cc
]

pub returns-else-matches : goal.returns-else-matches
returns-else-matches g c = λ table side items h is half. elim c.match-matches.branch [
  | in-Abort w ↦ let bad = sym w.matches-is ∙ c.if-matches.false in cc
  | in_default w ↦
      rw (
        c.is_wrong_in_continue.ensures,
        c.is_first_answer-is_first.ensures table side items h is half,
        half.requests,
        c.dialogue-else-matches.ensures,
      ) (going_on_else side items c.args.self.id.now (g.M.MessageParts.meaning c.args.message.now) h
      (λ is. w.in_default.not-Abort (c.kind.ensures ∙ is)))
]
