-- A run makes exactly the expiries that its send needs.
use Rattle.tcap_check.proofs.described_run_laws.ImpliedLaws.{made_are_needed}
use Rattle.tcap_check.proofs.given_run_laws.implied_are_needed.Goals as goal

pub returns : goal.returns
returns c = made_are_needed
