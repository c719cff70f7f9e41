use Rattle.std.proofs.Common.{rules, ◌≡◌, map, refl, ap}
use Rattle.std.proofs.lemmas.List.{map_push}
use Rattle.std.proofs.lemmas.Map.Iter.{iter_end}
use Rattle.tcap_traces.specs.declared.before_marks.EndMarks.{EndMarks}
use Rattle.tcap_traces.proofs.MarksLaws.{adds_all, adds_one}
use Rattle.tcap_traces.proofs.before_marks.EndMarks.note_open.Goals as goal

pub loop-id-preserved : goal.loop-id-preserved
loop-id-preserved c = record {
  noted = rw (map_push (λ id. id.now) c.loop-id.yielded c.in-Some.id)
      (adds_one _ (map (λ id. id.now) c.loop-id.yielded) c.in-Some.id.now c.args.self.now.opened c.loop-id.self.opened
      c.insert.new.self c.loop-id.invariant.noted refl (rw (c.to_transaction_id.ensures, c.view.ensures) at c.in_ok-insert.ensures.updates.0));
  rest = ap (λ (m : EndMarks). record m { opened = c.insert.new.self }) c.loop-id.invariant.rest;
}

pub returns-clause-noted : goal.returns-clause-noted
returns-clause-noted c =
    let all : map (λ id. id.now) c.loop-id.yielded ≡ c.args.ids.now.keys = search (rules, iter_end) in
    adds_all c.args.ids.now.keys c.args.self.now.opened c.loop-id.self.opened (rw all at c.loop-id.invariant.noted)
