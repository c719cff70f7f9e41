-- Which lists the search keeps for the entries of a segment.
use Rattle.std.specs.Prelude.{◌≡◌, ℕ, Bool, List, map, Option}
use Rattle.tcap_record.specs.declared.entry.End.{End as Side}
use Rattle.tcap_record.specs.declared.entry.Entry.{Entry}
use Rattle.tcap_certificate.specs.declared.certificate.Fate.{Fate}
use Rattle.tcap_search.specs.declared.tie.Tie.{Tie}
use Rattle.tcap_search.specs.SegmentEntries.{lines_of}
use Rattle.tcap_search.specs.ProposedCertificate.{all_fated, ties_of}

-- the transaction of each entry
abbrev pub AreTransactions : List Entry → List (Option ℕ) → Type 0
AreTransactions entries transactions = transactions ≡ map (λ x. x.transaction) (lines_of entries)

-- the ties of the entries
abbrev pub AreTies : List Entry → List Tie → Type 0
AreTies entries ties = ties ≡ ties_of (lines_of entries)

-- the fate of each entry after all rules
abbrev pub AreFates : Option Side → Bool → List Entry → List Fate → Type 0
AreFates judged marked entries fates = fates ≡ map (λ x. x.fate) (all_fated judged marked (lines_of entries))
