-- What was printed, given what each part printed.
use Rattle.std.proofs.Common.{◌≡◌, ℕ, ◌⊎◌, List, ◌++◌, length, Option, Err, refl, sym, ap, ◌∙◌, inl, inr, arith}
use Rattle.std.proofs.KnownBytes.{Appends-trans}
use Rattle.std.proofs.lemmas.List.{take_all}
use Rattle.std.specs.Io.KnownBytes.{Appends}
use Rattle.tcap_record.specs.declared.entry.Entry.{Entry}
use Rattle.tcap_record.specs.declared.fault.FeedFault.{FeedFault}
use Rattle.tcap_record.specs.Lines.{lines_of}
use Rattle.tcap_lines.specs.declared.status.Status.TheVariants as statuses
use Rattle.tcap_lines.specs.ShowRun.{Prints, feed_fault_line, memory_line}

-- all lines, and then the fault's or the memory line
pub faulted : (entries : List Entry) (fault : FeedFault) (old mid new : Option (List ℕ))
    → Appends old mid (lines_of entries)
    → ((line : List ℕ) × ((line ≡ feed_fault_line fault) ⊎ (line ≡ memory_line)) × Appends mid new line)
    → (text : List ℕ) × Prints entries (Err fault) text statuses.Fault × Appends old new text
faulted entries fault old mid new before behind =
    (lines_of entries ++ behind.0, which behind.1, Appends-trans old mid new _ _ before behind.2)
  where
    which : ((behind.0 ≡ feed_fault_line fault) ⊎ (behind.0 ≡ memory_line))
        → Prints entries (Err fault) (lines_of entries ++ behind.0) statuses.Fault
    which (inl e) = inl (ap (λ (x : List ℕ). lines_of entries ++ x) e, refl)
    which (inr e) = inr (
      length entries,
      ap (λ (x : List ℕ). lines_of entries ++ x) e
          ∙ ap (λ (x : List Entry). lines_of x ++ memory_line) (sym (take_all (length entries) entries (omega arith))),
      refl,
    )
