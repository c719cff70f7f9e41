use Rattle.std.proofs.Common.{◌≡◌, ℕ, Result, Err, ap, ◌∙◌}
use Rattle.tcap_record.specs.declared.fault.FeedFault.{FeedFault}
use Rattle.tcap_record.specs.declared.packing.PackFault.{PackFault}
use Rattle.tcap_lines.proofs.packing.run_pack.Goals as goal

-- equal refusals have equal faults
fault_is : (a : PackFault) (f g : FeedFault) → a ≡ PackFault.Fault f
    → (let r : Result ℕ PackFault = Err a in r) ≡ Err (PackFault.Fault g) → f ≡ g
fault_is a f g is e = let same : PackFault.Fault f ≡ PackFault.Fault g = cc in cc

pub returns-in_ok-write_fault-in-Err-Fault-clause-packed : goal.returns-in_ok-write_fault-in-Err-Fault-clause-packed
returns-in_ok-write_fault-in-Err-Fault-clause-packed g c =
    let f = c.in-Err-Fault.fault in
    let is = ap (λ (x : PackFault). let r : Result ℕ PackFault = Err x in r) c.in-Err-Fault.field-0-is in
    let refused = c.in-Err-Fault.ensures.refused f is in
    let line = c.in_ok-write_fault-in-Err-Fault.ensures.line in (
      refused.0,
      refused.1,
      record {
        fault = f;
        line = line.0;
        packed = refused.2;
        failed = c.in-Err-Fault.ensures.read f is;
        sound = λ other. c.in-Err-Fault.ensures.unread
            (λ fault e read. other (ap (λ (x : FeedFault). x.reason)
            (fault_is c.in-Err-Fault.field-0 f fault c.in-Err-Fault.field-0-is e) ∙ read));
        line_is = line.1;
        says = line.2;
      },
    )
