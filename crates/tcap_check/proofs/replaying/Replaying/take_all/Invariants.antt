-- The replay took the entries so far.
use Rattle.std.proofs.Common.{◌≡◌, Bool, [], map, take}
use Rattle.tcap_model.specs.Entries.{item_of}
use Rattle.tcap_check.specs.CheckerMeaning.{HasTakenListing}
use Rattle.tcap_check.specs.ReplayInvariants.{IsReady, checking_of}
use Rattle.tcap_check.proofs.replaying.Replaying.take_all.Given as goal

abbrev pub invariant-loop-entry : goal.invariant-loop-entry
invariant-loop-entry l = record {
  ready : IsReady l.self;
  took : (listed : Bool) → HasTakenListing listed (checking_of l.fn.self) [] → HasTakenListing listed (checking_of l.self) (map item_of (take l.entry-index l.record.entries.items));
  judged : l.self.judged ≡ l.fn.self.judged;
  table : l.self.table ≡ l.fn.self.table;
  certificate : l.self.certificate ≡ l.fn.self.certificate;
}
