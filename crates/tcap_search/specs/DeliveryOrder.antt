-- Whether the delivered messages of each end are in order.
use Rattle.std.specs.Prelude.{◌≡◌, ℕ, ◌≤◌, true, List, [], ◌∷◌, is_some}
use Rattle.std.specs.List.{AllByRecursion}
use Rattle.tcap_certificate.specs.declared.certificate.Fate.TheVariants.{Gap}
use Rattle.tcap_search.specs.SegmentEntries.{are_of_one_end, message_of}
use Rattle.tcap_search.specs.ProposedCertificate.{Fated}

-- If the first is a message, both are from one end, and both are delivered, then the second is not delivered in an
-- earlier gap.
abbrev pub ComesNoEarlier : Fated → Fated → Type 0
ComesNoEarlier x y = (g h : ℕ) → x.fate ≡ Gap g → y.fate ≡ Gap h → is_some (message_of x.line.entry) ≡ true
    → are_of_one_end x.line.entry y.line.entry ≡ true → g ≤ h

-- No message is delivered before an earlier one of its end.
abbrev pub AreInOrder : List Fated → Type 0
AreInOrder [] = Unit {0}
AreInOrder (x ∷ later) = AllByRecursion (ComesNoEarlier x) later × AreInOrder later
