use Rattle.std.proofs.Common.{sym}
use Rattle.std.proofs.lemmas.Result.{on_ok_weaker}
use Rattle.tcap_faults.proofs.transaction_laws.MessageMoreLaws.{ends_not, ends_nowhere}
use Rattle.tcap_faults.proofs.transaction_laws.HistoryUpdateLaws.{joined_begin, joined_continue, joined_end, joined_nothing}
use Rattle.tcap_faults.proofs.transaction.history_update.note_joined.Goals as goal

pub returns-in-Some-None : goal.returns-in-Some-None
returns-in-Some-None g c = λ table side items was their are.
    on_ok_weaker c.join_first.result
    (λ (gets, has, rest, their_rest).
    joined_begin table side items (g.M.MessageParts.meaning c.args.message.now) c.args.own.now c.args.peer.now was their
    c.in-Some-None.otid.octets.now (sym c.in-Some-None.ensures) c.join_first.new.own c.join_first.new.peer gets has rest
    their_rest (sym c.in-Some-None.ensures'))
    (c.join_first.ensures table side items was their (are.used _ (sym c.in-Some-None.ensures)))

pub returns-in_ok-join_first-in-Some-Some : goal.returns-in_ok-join_first-in-Some-Some
returns-in_ok-join_first-in-Some-Some g c = λ table side items was their are.
    let otid = sym c.in-Some-Some.ensures in
    let dtid = sym c.in-Some-Some.ensures' in
    let effects = c.args.effects in
    let (gets, has, rest, their_rest) =
    c.in_ok-join_first-in-Some-Some.ensures table side items was their (are.used _ otid) in
    on_ok_weaker c.join_continue.result
    (λ (gets_now, has_now, their_has, rest_now, their_rest_now).
    joined_continue table side items (g.M.MessageParts.meaning c.args.message.now) c.args.own.now c.args.peer.now was
    their c.in-Some-Some.otid.octets.now otid c.join_first-in-Some-Some.new.own
    c.join_first-in-Some-Some.new.peer gets has rest their_rest c.in-Some-Some.dtid.octets.now dtid effects.over
    effects.joins effects.peer_over (are.over _ dtid) (are.joins _ dtid) (are.peer_over _ _ otid dtid)
    c.join_continue.new.own c.join_continue.new.peer gets_now has_now their_has rest_now their_rest_now)
    c.join_continue.ensures

pub returns-in-None-Some : goal.returns-in-None-Some
returns-in-None-Some g c = λ table side items was their are.
    on_ok_weaker c.end_all.result
    (λ (more, rest).
    joined_end table side items (g.M.MessageParts.meaning c.args.message.now) c.args.own.now c.args.peer.now was their
    c.in-None-Some.dtid.octets.now (sym c.in-None-Some.ensures) (sym c.in-None-Some.ensures') (sym c.if-ends.ensures)
    c.end_all.new.own more rest)
    (c.end_all.ensures table side items was their (are.over _ (sym c.in-None-Some.ensures')))

pub returns-in_default : goal.returns-in_default
returns-in_default g c = λ table side items was their are.
    joined_nothing table side items (g.M.MessageParts.meaning c.args.message.now) c.args.own.now c.args.peer.now was
    their (sym c.in-None-Some.ensures) (ends_not _ (sym c.if-ends.ensures))

pub returns-in_default-2 : goal.returns-in_default-2
returns-in_default-2 g c = λ table side items was their are.
    joined_nothing table side items (g.M.MessageParts.meaning c.args.message.now) c.args.own.now c.args.peer.now was
    their (sym c.in_default.ensures)
    (ends_nowhere (g.M.MessageParts.meaning c.args.message.now) (sym c.in_default.ensures'))
