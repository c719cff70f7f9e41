use Rattle.std.proofs.Common.{◌≡◌, ◌≤◌, get_or, length, rules}
use Rattle.std.proofs.lemmas.List.{get_or_default}
use Rattle.tcap_lists.proofs.ChainLaws.{got_past, is_under}
use Rattle.tcap_lists.proofs.chains.Chains.end_of.Goals as goal

pub returns-then-kind-len : goal.returns-then-kind-len
returns-then-kind-len c = λ at here.
    let ends = c.args.self.now.ends.items in
    let is : get_or ends c.args.kind 0 ≡ c.index.result.now = search (rules, get_or_default) in
    rw is at (is_under c.args.self.now.marks.items ends c.args.kind c.args.self.now.all_ended at here)

pub returns-else-kind-len : goal.returns-else-kind-len
returns-else-kind-len c = λ at here.
    let ends = c.args.self.now.ends.items in
    let past : length ends ≤ c.args.kind = search rules in
    rw (got_past ends c.args.kind 0 past) at (is_under c.args.self.now.marks.items ends c.args.kind c.args.self.now.all_ended at here)
