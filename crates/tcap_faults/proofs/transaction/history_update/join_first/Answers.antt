use Rattle.std.proofs.Common.{refl, sym, ◌∙◌}
use Rattle.std.proofs.lemmas.Result.{on_ok_weaker}
use Rattle.tcap_record.specs.Ends.{other}
use Rattle.tcap_faults.specs.History.{otids_of, sent_to}
use Rattle.tcap_faults.proofs.transaction_laws.JoinStepLaws.{first_gets, first_gets_none, first_has, first_has_none, sent_among, sent_none}
use Rattle.tcap_faults.proofs.transaction.history_update.join_first.Goals as goal

pub returns-in_default : goal.returns-in_default
returns-in_default c = λ table side items was their used_is.
    let id = c.args.otid.octets.now in
    let none = sent_none table (other side) items c.args.peer.now id their
    (rw c.to_transaction_id-id.ensures at c.in_default.ensures.value) in (
      first_gets_none side items id none c.args.peer.now.joined,
      first_has_none side items id none c.args.own.now.over,
      refl,
      refl,
    )

pub returns : goal.returns
returns c = λ table side items was their used_is.
    let id = c.args.otid.octets.now in
    let ids = otids_of (sent_to (other side) items id) in
    let among = sent_among table (other side) items c.args.peer.now id their c.in-Some.kept.now
    (rw c.to_transaction_id-id.ensures at c.in-Some.ensures.value) in
    let fresh = sym used_is ∙ c.if-used.false in
    on_ok_weaker c.insert_if.result
    (λ more. (
      first_gets side items id fresh c.args.peer.now.joined c.add_at_all.new.map
          (c.in_ok-add_at_all.ensures ids among),
      first_has side items id fresh c.ended_one-ended.result (c.ended_one-ended.ensures table side items ids was among)
          c.args.own.now.over c.insert_if.new.set more,
      refl,
      refl,
    ))
    c.insert_if.ensures
