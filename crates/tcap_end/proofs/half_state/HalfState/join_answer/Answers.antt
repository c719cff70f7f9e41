use mir.Syntax.{w8}
use Rattle.std.proofs.Common.{Bool, rules, ap, ◌∙◌}
use Rattle.std.proofs.lemmas.Int.{to_z-of_z}
use Rattle.tcap_end.specs.declared.received.Target.{Target}
use Rattle.tcap_end.specs.Half.{Answer}
use Rattle.tcap_end.specs.RejectProblems.{target_problems}
use Rattle.tcap_end.specs.HalfState.{half_of, kept_of}
use Rattle.tcap_lists.specs.Lists.{items_of, rows_of}
use Rattle.tcap_lists.proofs.ListLaws.{items_newest, whole_rows}
use Rattle.tcap_end.proofs.NoteLaws.{grant_noted, keeps_grants, read_noted, still_same}
use Rattle.tcap_end.proofs.half_state.HalfState.join_answer.Goals as goal

abbrev item : Bool → Target → Answer
item is_result target = record { is_result = is_result; problems = target_problems is_result target }

pub returns-in_err-keep-clause-undoes : goal.returns-in_err-keep-clause-undoes
returns-in_err-keep-clause-undoes c =
    let its = item c.args.is_result c.args.target in
    still_same c.args.changes.now c.args.self.now _
    (ap (λ rows. record (kept_of c.args.self.now) { grants = rows }) (c.in_err-keep.ensures.kept its (λ row next r k. search rules)))
    (keeps_grants c.args.self.now c.keep.new.lists (c.keep.ensures.keeps its (λ row next r k. search rules)))

pub returns-clause-joined : goal.returns-clause-joined
returns-clause-joined c =
    let id = c.args.id in
    let its = item c.args.is_result c.args.target in
    read_noted c.note.result _ c.note.new.changes (record c.args.self.now { grants = c.keep.new.lists }) c.note.new.self half_of _
    (rw (to_z-of_z w8 id c.ranges.id) at c.note.ensures.noted)
    (ap (λ rows. record (half_of c.args.self.now) { grants = items_of rows })
    (rw (to_z-of_z w8 id c.ranges.id) at (c.in_ok-keep.ensures.added its (λ row next r k. search rules)))
    ∙ ap (λ grants. record (half_of c.args.self.now) { grants = grants })
    (items_newest id _ (rows_of c.args.self.now.grants) (whole_rows c.args.self.now.grants)))

pub returns-clause-undoes : goal.returns-clause-undoes
returns-clause-undoes c =
    let id = c.args.id in
    let its = item c.args.is_result c.args.target in
    grant_noted c.note.result c.args.changes.now c.note.new.changes c.args.self.now c.note.new.self id _ c.keep.new.lists
    (rw (to_z-of_z w8 id c.ranges.id) at (c.in_ok-keep.ensures.added its (λ row next r k. search rules)))
    (c.keep.ensures.keeps its (λ row next r k. search rules))
    (rw (to_z-of_z w8 id c.ranges.id) at c.in_ok-keep.ensures.made)
    (rw (to_z-of_z w8 id c.ranges.id) at c.note.ensures.noted) (rw (to_z-of_z w8 id c.ranges.id) at c.note.ensures.undone)
