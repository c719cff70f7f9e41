-- The components that are left have the same result from here as all components from the start.
use Rattle.tcap_parts.specs.Meaning.{components_left}
use Rattle.tcap_msg.specs.Parts.{components_in}
use Rattle.tcap_certificate.specs.DescribedRun.{invoking_half}
use Rattle.tcap_check.proofs.checker_laws.SendingLaws.{Ends}
use Rattle.tcap_check.proofs.progress.Progress.end_implied.Given as goal

abbrev pub invariant-loop-component : goal.invariant-loop-component
invariant-loop-component g l =
    let message = g.M.MessageParts.meaning l.fn.message in
    Ends l.table l.side (invoking_half message) (components_in message) l.fn.self (components_left l.component-iterator) l.self
