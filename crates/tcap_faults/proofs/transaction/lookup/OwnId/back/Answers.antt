use Rattle.std.proofs.Common.{refl, sym}
use Rattle.std.specs.Prelude.{option_copied}
use Rattle.tcap_record.specs.Ends.{other}
use Rattle.tcap_faults.specs.History.{sent_to}
use Rattle.tcap_faults.proofs.transaction_laws.HistoryLookupLaws.{used_at}
use Rattle.tcap_faults.proofs.transaction.lookup.OwnId.back.Goals as goal

pub returns-in-Some : goal.returns-in-Some
returns-in-Some c = λ table side items id is.
    let used = sym (rw c.in-Some.is at (used_at table side items id (option_copied c.args.self.from) is.from)) in
    rw used (c.comes_from.ensures table (sent_to (other side) items id) is.to)

pub returns-in-None : goal.returns-in-None
returns-in-None c = λ table side items id is.
    let unused = sym (rw c.in-None.is at (used_at table side items id (option_copied c.args.self.from) is.from)) in
    rw unused refl
