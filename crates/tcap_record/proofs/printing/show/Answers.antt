use Rattle.std.proofs.Common.{List, ℕ, ◌++◌, ap, ◌∙◌}
use Rattle.std.specs.String.{string_bytes}
use Rattle.tcap_record.specs.declared.entry.Entry.{Entry}
use Rattle.tcap_record.specs.Lines.{entry_lines}
use Rattle.tcap_record.proofs.LineLaws.{lines_written}
use Rattle.tcap_record.proofs.printing.show.Goals as goal

pub loop-number-preserved : goal.loop-number-preserved
loop-number-preserved g c =
    let lent = c.deref-entry-items.ensures.value in
    let lines = entry_lines c.loop-number.number c.entry-item.result in
    let text = c.as_bytes.ensures.value ∙ c.in_ok-push_view.ensures
    ∙ ap (λ (x : Entry). string_bytes c.clear.new.self ++ entry_lines c.loop-number.number x) c.view.ensures
    ∙ ap (λ (l : List ℕ). l ++ lines) c.clear.ensures.bytes in
    record {
      wrote = lines_written _ _ _ c.args.record.now.entries.items c.loop-number.number c.entry-item.result _
          (rw lent at c.loop-number-test.true) (rw lent at c.entry-item.is) text
          c.loop-number.invariant.wrote c.in_ok-write_all.ensures.takes;
      none_failed = c.in_ok-write_all.ensures.counts ∙ c.loop-number.invariant.none_failed;
    }
