use Rattle.std.proofs.Common.{◌≡◌, ◌∷◌, [], ◌∙◌}
use Rattle.std.proofs.lemmas.Result.{on_ok_weaker, on_err_weaker}
use Rattle.tcap_lists.proofs.ItemLaws.{first_joined, first_kept, get_some}
use Rattle.tcap_lists.proofs.row.Row.join_first.Goals as goal

pub returns-clause-joined : goal.returns-clause-joined
returns-clause-joined g c =
    let row = c.args.self.now in
    let made = c.in_ok-number.ensures.number in
    on_ok_weaker c.join.result
    (first_joined row c.begin.new.self c.join.new.self c.args.kind c.in_ok-number.number row.numbered made.1
    c.in_ok-number.ensures.places c.join.ensures.kinds made.0)
    c.join.ensures.joined

pub returns-clause-kept : goal.returns-clause-kept
returns-clause-kept g c =
    let row = c.args.self.now in
    on_err_weaker c.join.result
    (first_kept row c.begin.new.self c.join.new.self c.args.kind c.in_ok-number.number row.numbered
    c.in_ok-number.ensures.number.1 c.in_ok-number.ensures.places c.join.ensures.kinds)
    c.join.ensures.kept

pub returns-clause-kinds : goal.returns-clause-kinds
returns-clause-kinds g c = λ number some.
    rw (c.join.ensures.kinds, c.in_ok-number.ensures.number.1) (get_some c.args.self.now.kinds.items (c.args.kind ∷ []) number some)
