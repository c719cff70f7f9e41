-- The certificate that the search has found so far.
use Rattle.std.specs.Prelude.{ℕ, [], Option, Some, None}
use Rattle.std.specs.List.{AllByRecursion}
use Rattle.tcap_certificate.specs.Certificate.{Certificate}
use Rattle.tcap_certificate.specs.Certificate.{ClosingFits, ExpiryFits, FateFits}
use Rattle.tcap_search.specs.ProposedCertificate.{behind}

-- the empty certificate
abbrev pub nothing_found : Certificate
nothing_found = record { fates = []; expire = []; close = [] }

-- The numbers of a certificate are within the limits after `first` entries.
abbrev pub FitsBehind : ℕ → Certificate → Type 0
FitsBehind first c = AllByRecursion FateFits (behind first c).fates × AllByRecursion ExpiryFits (behind first c).expire
    × AllByRecursion ClosingFits (behind first c).close

-- the certificate for one end alone, which is given only if it differs from that for both ends
abbrev pub or_both : Certificate → Option Certificate → Certificate
or_both both None = both
or_both both (Some alone) = alone
