use Rattle.std.proofs.Common.{ap, sym}
use Rattle.tcap_faults.specs.IdList.{ids_first}
use Rattle.tcap_faults.specs.History.{dtids_of}
use Rattle.tcap_faults.proofs.dialogue_laws.OpenHalvesLaws.{open_nowhere}
use Rattle.tcap_faults.proofs.transaction_laws.HistoryLookupLaws.{from_nowhere, from_there}
use Rattle.tcap_faults.proofs.transaction.tangled_ids.Ends.is_surely_open.Goals as goal

pub returns-in-Some : goal.returns-in-Some
returns-in-Some c = λ side items own_is peer_is.
    c.is_open.ensures side items own_is peer_is
    (from_there own_is c.args.own.now c.in-Some.kept.now c.in-Some.ensures.value)

pub returns-in-None : goal.returns-in-None
returns-in-None c = λ side items own_is peer_is.
    open_nowhere c.args.table.now side items c.args.own.now
    (ap (λ ms. ids_first (dtids_of ms)) (sym (from_nowhere own_is c.args.own.now c.in-None.ensures.value)))
