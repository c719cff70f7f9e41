use Rattle.std.proofs.Common.{◌≡◌, ◌+◌, ap, subst, sym, refl, ◌∙◌, arith, length}
use Rattle.std.specs.LinkedList.{linked_list_len}
use Rattle.tcap_check.specs.declared.progress.Progress.{Progress}
use Rattle.tcap_check.specs.declared.progress.SideState.{SideState}
use Rattle.tcap_check.specs.Progress.{HasNoMore, front_lost, side_at}
use Rattle.tcap_check.proofs.progress_laws.KeptGrowth.{no_more, none_left, one_grows, one_left, one_lost, side_way}
use Rattle.tcap_check.proofs.progress.Progress.lose_front.Goals as goal

pub loop-init : goal.loop-init
loop-init c =
    let count : c.len-end.result ≡ length (side_at c.args.side c.args.self.now).waiting =
    c.len-end.ensures.value ∙ ap (λ (s : SideState). linked_list_len s.waiting) c.side_state.ensures in
    record { same = refl; left = omega (arith, count); grown = (omega arith, omega arith) }

pub lose_first-requires : goal.lose_first-requires
lose_first-requires c =
    let first = sym c.first_lost.ensures ∙ c.in-Some.is in
    let one = one_left c.args.judged c.args.side c.in-Some.number c.loop.self first in
    let way = side_way c.args.side c.loop.self in
    let a = c.loop.invariant.grown.0 in let b = c.loop.invariant.grown.1 in
    record { no_overflow = omega (arith, one, way, a, c.requires.no_overflow); count = omega (arith, one, way, b, c.requires.count) }

pub loop-preserved : goal.loop-preserved
loop-preserved c =
    let first = sym c.first_lost.ensures ∙ c.in-Some.is in
    let behind = c.in_ok-lose_first.ensures.lost in
    let left = one_left c.args.judged c.args.side c.in-Some.number c.loop.self first
    ∙ ap (λ (p : Progress). length (side_at c.args.side p).waiting + 1) (sym behind) in
    let before = c.loop.invariant.left in
    let grows = subst (HasNoMore c.loop.self) (sym behind) (one_grows c.args.judged c.args.side c.in-Some.number c.loop.self first) in
    record {
      same = ap (front_lost c.args.judged c.args.side) behind
          ∙ (one_lost c.args.judged c.args.side c.in-Some.number c.loop.self first ∙ c.loop.invariant.same);
      left = omega (arith, left, before);
      grown = no_more c.args.self.now c.loop.self c.lose_first.new.self c.loop.invariant.grown grows;
    }

pub returns : goal.returns
returns c =
    let left = c.loop.invariant.left in
    let over = c.loop-test.false in
    record {
      lost = sym (none_left c.args.judged c.args.side c.loop.self (omega (arith, left, over))) ∙ c.loop.invariant.same;
      memory = tt;
      grows = c.loop.invariant.grown;
    }
