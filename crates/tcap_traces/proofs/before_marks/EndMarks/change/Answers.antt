use Rattle.std.proofs.Common.{rules, ◌≡◌, map, ap}
use Rattle.std.proofs.lemmas.List.{map_push}
use Rattle.std.proofs.lemmas.Map.Iter.{iter_end}
use Rattle.tcap_traces.specs.declared.before_marks.EndMarks.{EndMarks}
use Rattle.tcap_traces.proofs.MarksLaws.{changes_more}
use Rattle.tcap_traces.proofs.before_marks.EndMarks.change.Goals as goal

pub loop-id-preserved : goal.loop-id-preserved
loop-id-preserved c = record {
  known = rw (map_push (λ id. id.now) c.loop-id.yielded c.in-Some.id)
      (changes_more (map (λ id. id.now) c.loop-id.yielded) c.in-Some.id.now c.args.change c.args.self.now c.loop-id.self
      (record c.loop-id.self { known = c.insert.new.self }) c.loop-id.invariant.known
      (rw (c.to_transaction_id.ensures, c.view.ensures, c.changed-before.ensures, c.get.ensures) at c.in_ok-insert.ensures.updates.0));
  rest = ap (λ (m : EndMarks). record m { known = c.insert.new.self }) c.loop-id.invariant.rest;
}

pub returns-clause-known : goal.returns-clause-known
returns-clause-known c =
    let all : map (λ id. id.now) c.loop-id.yielded ≡ c.args.ids.now.keys = search (rules, iter_end) in
    rw (← all) c.loop-id.invariant.known
