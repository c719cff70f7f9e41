use Rattle.std.proofs.Common.{rules, sym, ◌∙◌}
use Rattle.std.specs.Prelude.{option_map}
use Rattle.tcap_parts.specs.Meaning.{code_of}
use Rattle.tcap_lists.specs.Lists.{row_kinds, row_places}
use Rattle.tcap_end.specs.Component.{may_answer}
use Rattle.tcap_lists.proofs.PlaceLaws.{none_at_all, oldest_fits}
use Rattle.tcap_end.proofs.places.first_answerable.Goals as goal

pub returns-in-None : goal.returns-in-None
returns-in-None c = sym (none_at_all (may_answer c.args.table.now c.args.is_result (option_map code_of c.args.named)) (row_kinds c.args.row.now) (row_places c.args.row.now) c.in-None.ensures)

pub returns-in-Some : goal.returns-in-Some
returns-in-Some c = sym (oldest_fits (may_answer c.args.table.now c.args.is_result (option_map code_of c.args.named)) (row_kinds c.args.row.now) (row_places c.args.row.now) c.in-Some.at c.in-Some.kind.now
    c.in-Some.ensures.0 c.in-Some.ensures.1 (sym c.may_answer.ensures ∙ c.if-may_answer.true))

pub returns-in-Some-2 : goal.returns-in-Some-2
returns-in-Some-2 c =
    c.oldest_that.ensures (may_answer c.args.table.now c.args.is_result (option_map code_of c.args.named)) (λ kind fit k. search rules)
