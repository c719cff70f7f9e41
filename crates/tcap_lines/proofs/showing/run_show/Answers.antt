use Rattle.std.proofs.Common.{Err, subst}
use Rattle.tcap_lines.specs.declared.stop.Stop.{Stop}
use Rattle.tcap_lines.specs.RecordLines.{ShowsAll, UnlessWrite}
use Rattle.tcap_lines.proofs.PrintLaws.{faulted}
use Rattle.tcap_lines.proofs.showing.run_show.Goals as goal

pub returns-clause-shown : goal.returns-clause-shown
returns-clause-shown g c =
    let f = c.in-Err-Fault.fault in
    let all = subst (λ (stop : Stop). UnlessWrite (ShowsAll (g.R.Read.remaining c.args.reader.now) (g.R.Read.remaining c.show_all.new.reader) (g.R.Read.failures c.args.reader.now) (g.R.Read.failures c.show_all.new.reader) c.show_all.new.showing.bad (g.W.Write.taken c.args.writer.now) (g.W.Write.taken c.show_all.new.writer)) (Err stop))
    c.in-Err-Fault.field-0-is c.in-Err-Fault.ensures.shows in
    let printed = faulted all.entries f (g.W.Write.taken c.args.writer.now) (g.W.Write.taken c.show_all.new.writer) (g.W.Write.taken c.write_fault.new.writer) all.written c.in_ok-write_fault-in-Err-Fault.ensures.line in
    record {
      returned = all.returned;
      entries = all.entries;
      end = Err f;
      text = printed.0;
      tells = all.tells;
      is_read = all.is_read;
      ended = all.ended;
      failed = all.failed;
      prints = printed.1;
      takes = printed.2;
    }
