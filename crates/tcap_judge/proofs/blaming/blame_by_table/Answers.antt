use Rattle.std.proofs.Common.{ℕ, Ok, Err, ap, ◌∙◌}
use Rattle.tcap_judge.specs.declared.outcome.Outcome.TheVariants.{Faulty}
use Rattle.tcap_judge.proofs.BlamedLaws.{ends_said, found_none, found_said, gives_blame, shown_fault}
use Rattle.tcap_judge.proofs.blaming.blame_by_table.Goals as goal

pub returns-in-Ok-blame_record : goal.returns-in-Ok-blame_record
returns-in-Ok-blame_record g c =
    let read = c.in-Ok.ensures in
    let (returned, tells, is_read) = read.returned in
    let reported = c.in-Ok-blame_record.ensures in
    let (ends, is, are, found) = reported.2 in
    gives_blame c.blamed_is_at_fault.ensures c.args.table.now _ c.in-Ok.read.entries.items (Ok tt) _ _
    (record { returned = returned; tells = tells; is_read = is_read; ended = read.ended; failed = read.failed })
    reported.0 reported.1 (ends_said c.args.table.now c.in-Ok.read.entries.items _ ends is are)
    (found_said c.args.table.now c.in-Ok.read.entries.items _ ends is found)

pub returns : goal.returns
returns g c =
    let read = c.in-Err.ensures in
    let (returned, tells, (entries, is_read)) = read.returned in
    let fault = c.in-Err.fault in
    let reported = c.alone-in-Err.ensures in
    let outcome = reported.outcome ∙ ap (λ (n : ℕ). Faulty n fault.place) c.number.ensures in
    gives_blame c.blamed_is_at_fault.ensures c.args.table.now _ entries (Err fault) _ _
    (record { returned = returned; tells = tells; is_read = is_read; ended = read.ended; failed = read.failed })
    outcome (shown_fault c.args.table.now entries _ _ _ outcome) reported.ends
    (found_none c.args.table.now entries _ reported.ends)
