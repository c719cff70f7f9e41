use Rattle.std.proofs.Common.{◌||◌, sym, ap, ◌∙◌}
use Rattle.std.specs.List.{list_any}
use Rattle.tcap_refute.proofs.Members.{has_later}
use Rattle.tcap_faults.proofs.dialogue_laws.OpenHalvesLaws.{leaves, next_kept, open_at_mark}
use Rattle.tcap_faults.proofs.transaction.tangled_ids.Ends.is_open_at_mark.Goals as goal

pub loop-own-init : goal.loop-own-init
loop-own-init c = record {
  kept = λ e has. rw c.into_iter-own-iterator.ensures.into_iter_gives.0 at has;
  left = λ items own_is peer_is.
      ap (list_any (leaves c.args.table.now c.args.end items)) c.into_iter-own-iterator.ensures.into_iter_gives.0;
}

pub returns-then-is_left_open : goal.returns-then-is_left_open
returns-then-is_left_open c = λ items own_is peer_is.
    let table = c.args.table.now in
    let side = c.args.end in
    let ordered = c.into_iter-own-iterator.ensures.into_iter_gives.5 in
    let here = sym (c.is_left_open.ensures items own_is peer_is
    (next_kept own_is ordered _ _ _ _ c.loop-own.invariant.kept c.in-Some.ensures.steps)) ∙ c.if-is_left_open.true in
    sym (ap (list_any (leaves table side items)) c.in-Some.ensures.steps
    ∙ ap (λ b. b || list_any (leaves table side items) c.next.new.self) here)
    ∙ c.loop-own.invariant.left items own_is peer_is
    ∙ open_at_mark own_is ordered

pub loop-own-preserved : goal.loop-own-preserved
loop-own-preserved c = record {
  kept = λ e has. c.loop-own.invariant.kept e
      (rw c.in-Some.ensures.steps (has_later (c.in-Some.own.now, c.in-Some.kept.now) c.next.new.self e has));
  left = λ items own_is peer_is.
      let table = c.args.table.now in
      let side = c.args.end in
      let ordered = c.into_iter-own-iterator.ensures.into_iter_gives.5 in
      let here = sym (c.is_left_open.ensures items own_is peer_is
      (next_kept own_is ordered _ _ _ _ c.loop-own.invariant.kept c.in-Some.ensures.steps)) ∙ c.if-is_left_open.false in
      sym (ap (list_any (leaves table side items)) c.in-Some.ensures.steps
      ∙ ap (λ b. b || list_any (leaves table side items) c.next.new.self) here)
      ∙ c.loop-own.invariant.left items own_is peer_is;
}

pub returns : goal.returns
returns c = λ items own_is peer_is.
    ap (list_any (leaves c.args.table.now c.args.end items)) (sym c.in-None.ensures.steps.0)
    ∙ c.loop-own.invariant.left items own_is peer_is
    ∙ open_at_mark own_is c.into_iter-own-iterator.ensures.into_iter_gives.5
