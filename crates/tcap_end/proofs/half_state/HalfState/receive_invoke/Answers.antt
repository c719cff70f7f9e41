use mir.Syntax.{w8}
use Rattle.std.proofs.Common.{Bool, rules, refl, ap, ◌∙◌}
use Rattle.std.proofs.lemmas.Int.{to_z-of_z}
use Rattle.tcap_parts.specs.declared.code.Code.{Code}
use Rattle.tcap_parts.specs.Meaning.{code_of}
use Rattle.tcap_end.specs.declared.received.Link.{Link}
use Rattle.tcap_end.specs.Half.{Invocation, listed, with_newest}
use Rattle.tcap_end.specs.RejectProblems.{invoke_problems}
use Rattle.tcap_end.specs.HalfState.{half_of, kept_of}
use Rattle.tcap_lists.specs.Lists.{items_of, rows_of}
use Rattle.tcap_lists.proofs.ListLaws.{items_newest, whole_rows}
use Rattle.tcap_end.proofs.NoteLaws.{inn_noted, keeps_inn, read_noted, still_same}
use Rattle.tcap_end.proofs.ReceivingLaws.{are_some, kept_item}
use Rattle.tcap_end.proofs.half_state.HalfState.receive_invoke.Goals as goal

abbrev item : Code → Bool → Link → Invocation
item code duplicate link = record { code = code; problems = invoke_problems duplicate link }

pub returns-in_err-keep-clause-undoes : goal.returns-in_err-keep-clause-undoes
returns-in_err-keep-clause-undoes c =
    let its = item (code_of c.args.code) c.has_invocation-duplicate.result c.link-link.result in
    still_same c.args.changes.now c.args.self.now _
    (ap (λ rows. record (kept_of c.args.self.now) { inn = rows }) (c.in_err-keep.ensures.kept its (λ row next r k. search rules)))
    (keeps_inn c.args.self.now c.keep.new.lists (c.keep.ensures.keeps its (λ row next r k. search rules)))

pub returns-clause-received : goal.returns-clause-received
returns-clause-received c =
    let id = c.args.id in
    let its = item (code_of c.args.code) c.has_invocation-duplicate.result c.link-link.result in
    read_noted c.note.result _ c.note.new.changes (record c.args.self.now { inn = c.keep.new.lists }) c.note.new.self half_of _
    (rw (to_z-of_z w8 id c.ranges.id) at c.note.ensures.noted)
    (ap (λ rows. record (half_of c.args.self.now) { inn = items_of rows })
    (rw (to_z-of_z w8 id c.ranges.id) at (c.in_ok-keep.ensures.added its (λ row next r k. search rules)))
    ∙ ap (λ inn. record (half_of c.args.self.now) { inn = inn })
    (items_newest id _ (rows_of c.args.self.now.inn) (whole_rows c.args.self.now.inn)
    ∙ ap (λ item. with_newest id item (half_of c.args.self.now).inn)
    (kept_item _ _ c.has_invocation-duplicate.result c.link-link.result _ _ refl
    (rw (rw (to_z-of_z w8 id c.ranges.id) at c.has_invocation-duplicate.ensures) (are_some (listed id (half_of c.args.self.now).inn)))
    c.link-link.ensures)))

pub returns-clause-undoes : goal.returns-clause-undoes
returns-clause-undoes c =
    let id = c.args.id in
    let its = item (code_of c.args.code) c.has_invocation-duplicate.result c.link-link.result in
    inn_noted c.note.result c.args.changes.now c.note.new.changes c.args.self.now c.note.new.self id _ c.keep.new.lists
    (rw (to_z-of_z w8 id c.ranges.id) at (c.in_ok-keep.ensures.added its (λ row next r k. search rules)))
    (c.keep.ensures.keeps its (λ row next r k. search rules))
    (rw (to_z-of_z w8 id c.ranges.id) at c.in_ok-keep.ensures.made)
    (rw (to_z-of_z w8 id c.ranges.id) at c.note.ensures.noted) (rw (to_z-of_z w8 id c.ranges.id) at c.note.ensures.undone)
