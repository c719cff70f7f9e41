use Rattle.std.proofs.Common.{◌≡◌, ◌≤◌, arith, length, rules, vec_len}
use Rattle.tcap_lists.specs.Chains.{kinds_in}
use Rattle.tcap_lists.proofs.ChainLaws.{kinds_length, not_wanted}
use Rattle.tcap_lists.proofs.row.end_of.Goals as goal

pub returns-then-end-places-clause-none : goal.returns-then-end-places-clause-none
returns-then-end-places-clause-none c = λ at past.
    let marks = c.args.chains.now.marks.items in
    let count : vec_len c.args.chains.now.marks ≡ length marks = search rules in
    let all : length c.args.places.now ≤ length (kinds_in marks) = omega (arith, c.requires.all, count, kinds_length marks) in
    not_wanted c.args.places.now (kinds_in marks) c.args.kind at c.requires.marked all
    (λ here. let under = c.end_of-end.ensures at here in omega (arith, under, past))
