use Rattle.std.proofs.Common.{◌≡◌, ◌<◌, ◌+◌, arith, get_or, is_ok, length, rules, vec_len}
use Rattle.tcap_lists.specs.Chains.{AreEnds}
use Rattle.tcap_lists.proofs.ChainLaws.{kind_within, pushed_before, pushed_ends}
use Rattle.tcap_lists.proofs.chains.Chains.push.Goals as goal

pub set_end-requires : goal.set_end-requires
set_end-requires c = λ n here.
    let count : length c.args.self.now.marks.items ≡ vec_len c.args.self.now.marks = search rules in
    let at = c.len-at.ensures in
    omega (arith, kind_within c.args.self.now.marks.items n c.args.kind (rw c.link.ensures at here), count, at)

pub invariant_of-self-clause-all_before : goal.invariant_of-self-clause-all_before
invariant_of-self-clause-all_before c =
    rw (c.push.ensures.items, c.set_end.ensures.marks, c.link.ensures)
    (pushed_before (is_ok c.push.result) c.args.self.now.marks.items _ c.args.self.now.all_before c.end_of-before.ensures)

pub invariant_of-self-clause-all_ended : goal.invariant_of-self-clause-all_ended
invariant_of-self-clause-all_ended c =
    let marks = c.args.self.now.marks.items in let ends = c.set_end.new.self.ends.items in
    let count : length marks ≡ vec_len c.args.self.now.marks = search rules in
    let at = c.len-at.ensures in let end : get_or ends c.args.kind 0 ≡ c.len-at.result + 1 = c.in_ok-set_end.ensures.end in
    let under : length marks < get_or ends c.args.kind 0 = omega (arith, count, at, end) in
    let ended : AreEnds marks ends = rw (c.set_end.ensures.marks, c.link.ensures) at c.set_end.new.self.all_ended in
    rw (c.push.ensures.items, c.set_end.ensures.marks, c.link.ensures) (pushed_ends (is_ok c.push.result) marks ends _ ended under)
