use Rattle.std.proofs.Common.{map, sym, ap, ◌∙◌}
use Rattle.std.proofs.lemmas.List.{map_push}
use Rattle.tcap_traces.specs.declared.before_marks.Before.{Before}
use Rattle.tcap_traces.specs.declared.before_marks.EndMarks.{EndMarks}
use Rattle.tcap_traces.specs.IdsBeforeMarks.{known_in}
use Rattle.tcap_traces.proofs.MarksLaws.{adds_none, adds_one}
use Rattle.tcap_traces.proofs.before_marks.EndMarks.note_closed.Goals as goal

pub loop-id-preserved-in_ok-insert : goal.loop-id-preserved-in_ok-insert
loop-id-preserved-in_ok-insert c = record {
  noted = rw (map_push (λ id. id.now) c.loop-id.yielded c.in-Some.id)
      (adds_one (λ q. (known_in c.args.self.now q).open) (map (λ id. id.now) c.loop-id.yielded) c.in-Some.id.now
      c.args.self.now.closed c.loop-id.self.closed c.insert.new.self c.loop-id.invariant.noted
      (sym
      (ap (λ (b : Before). b.open) c.get.ensures
      ∙ ap (λ (m : EndMarks). (known_in m c.in-Some.id.now).open) c.loop-id.invariant.rest)
      ∙ c.if-get.true)
      (rw (c.to_transaction_id.ensures, c.view.ensures) at c.in_ok-insert.ensures.updates.0));
  rest = ap (λ (m : EndMarks). record m { closed = c.insert.new.self }) c.loop-id.invariant.rest;
}

pub loop-id-preserved : goal.loop-id-preserved
loop-id-preserved c = record {
  noted = rw (map_push (λ id. id.now) c.loop-id.yielded c.in-Some.id)
      (adds_none (λ q. (known_in c.args.self.now q).open) (map (λ id. id.now) c.loop-id.yielded) c.in-Some.id.now
      c.args.self.now.closed c.loop-id.self.closed c.loop-id.invariant.noted
      (sym
      (ap (λ (b : Before). b.open) c.get.ensures
      ∙ ap (λ (m : EndMarks). (known_in m c.in-Some.id.now).open) c.loop-id.invariant.rest)
      ∙ c.if-get.false));
  rest = c.loop-id.invariant.rest;
}
