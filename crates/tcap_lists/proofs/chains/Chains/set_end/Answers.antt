use Rattle.std.proofs.Common.{◌≡◌, ◌<◌, arith, length, rules, vec_len}
use Rattle.tcap_lists.proofs.ChainLaws.{padded_ends, set_ends}
use Rattle.tcap_lists.proofs.chains.Chains.set_end.Goals as goal

pub invariant_of-self-2-clause-all_ended : goal.invariant_of-self-2-clause-all_ended
invariant_of-self-2-clause-all_ended c =
    let marks = c.args.self.now.marks.items in
    let count : length c.pad.new.ends.items ≡ vec_len c.pad.new.ends = search rules in
    let within : c.args.kind < length c.pad.new.ends.items = omega (arith, c.in_ok-pad.ensures.long, count) in
    set_ends marks c.pad.new.ends.items c.args.kind c.args.end within c.requires
    (padded_ends marks c.args.self.now.ends.items c.pad.new.ends.items c.pad.ensures.same c.args.self.now.all_ended)
