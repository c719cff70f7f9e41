use Rattle.std.proofs.Common.{refl, sym, ◌∙◌}
use Rattle.std.specs.Prelude.{filter}
use Rattle.std.proofs.lemmas.Result.{on_ok_weaker}
use Rattle.tcap_record.specs.Ends.{other}
use Rattle.tcap_faults.specs.History.{dtids_of, sent_from, sent_to}
use Rattle.tcap_faults.specs.SentToId.{has_used}
use Rattle.tcap_faults.proofs.transaction_laws.JoinStepLaws.{end_more}
use Rattle.tcap_faults.proofs.transaction.history_update.end_all.Goals as goal

pub returns : goal.returns
returns c = λ table side items was their ended_is.
    let id = c.args.dtid.octets.now in
    let ended_not = sym ended_is ∙ c.if-ended.false in
    let ids = filter (has_used (other (other side)) items) (dtids_of (sent_from (other side) items id)) in
    on_ok_weaker c.insert_all.result
    (λ more. (
      end_more side items id ended_not c.args.own.now.over c.insert_from.new.set
          c.insert_all.new.set
          (rw c.to_transaction_id-id.ensures at (c.in_ok-insert_from.ensures table (sent_to side items) was.to)) more,
      refl,
    ))
    (c.insert_all.ensures ids (rw (c.get.ensures.value, c.to_transaction_id-id.ensures) (their.joined id)))
