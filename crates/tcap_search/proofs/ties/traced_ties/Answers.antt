use Rattle.std.proofs.Common.{◌≡◌, ◌+◌, ◌-◌, ◌<◌, length, Some, None, refl, arith}
use Rattle.tcap_search.proofs.LineLaws.{reverse_push}
use Rattle.tcap_search.proofs.TieLaws.{tied_more}
use Rattle.tcap_search.proofs.ties.traced_ties.Goals as goal

pub loop-number-preserved-in-Continue-branch-2 : goal.loop-number-preserved-in-Continue-branch-2
loop-number-preserved-in-Continue-branch-2 c =
    let l = c.loop-number in
    let next : c.loop-number.number ≡ (c.loop-number.number - 1) + 1 = omega arith in
    let below : c.loop-number.number - 1 < length c.args.entries.now = omega arith in
    tied_more c.args.entries.now (l.number - 1) l.candidates c.drop_top.new.self c.answered.new.self l.ties.items
    c.push.new.self.items c.index-entries-number.result (Some c.in-Some.answered) below c.index-entries-number.is
    (rw next at l.invariant) c.drop_top.ensures c.in-Some.ensures.answered c.answered.ensures.left
    (rw c.in_ok-push.ensures.items (reverse_push l.ties.items _))

pub loop-number-preserved : goal.loop-number-preserved
loop-number-preserved c =
    let l = c.loop-number in
    let next : c.loop-number.number ≡ (c.loop-number.number - 1) + 1 = omega arith in
    let below : c.loop-number.number - 1 < length c.args.entries.now = omega arith in
    tied_more c.args.entries.now (l.number - 1) l.candidates c.drop_top.new.self c.answered.new.self l.ties.items
    l.ties.items c.index-entries-number.result None below c.index-entries-number.is (rw next at l.invariant)
    c.drop_top.ensures c.in_default.ensures.answered c.answered.ensures.left refl
