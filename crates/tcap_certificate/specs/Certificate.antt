-- What a certificate is: it says what became of each message of a record, and which invocations expired and halves
-- closed without a message. Entries are counted from 0. Gap 0 is before the first entry, gap g is between entries g - 1
-- and g, and the last gap is after the last entry.
use Rattle.std.specs.Prelude.{◌≡◌, ◌≤◌, ℕ, zero, suc, ◌+◌, List, [], ◌∷◌, length}
use Rattle.std.specs.List.{AllByRecursion}
use Rattle.tcap_certificate.specs.declared.certificate.Closing.{Closing}
use Rattle.tcap_certificate.specs.declared.certificate.Expiry.{Expiry}
use Rattle.tcap_certificate.specs.declared.certificate.Fate.{Fate}
use Rattle.tcap_certificate.specs.declared.certificate.Fate.TheVariants.{Gap, Lost, By}

-- The fate of each entry, and the listed expiries and closings. Those of one gap happen in the listed order.
pub record Certificate : Type 0 where
  pub fates : List Fate
  pub expire : List Expiry
  pub close : List Closing

-- each message is delivered in the gap after its entry; the first of these fates is that of this entry
abbrev pub prompt_from : ℕ → List Fate → Type 0
prompt_from entry [] = Unit {0}
prompt_from entry (fate ∷ more) = (fate ≡ Gap (entry + 1)) × prompt_from (entry + 1) more

-- Each message is delivered before the next one is sent, and there are no expiries or closings.
abbrev pub IsPrompt : Certificate → Type 0
IsPrompt certificate = prompt_from 0 certificate.fates × (certificate.expire ≡ []) × (certificate.close ≡ [])

-- the fates in the prompt certificate of `count` entries, from this entry on
abbrev pub prompt_fates : ℕ → ℕ → List Fate
prompt_fates entry zero = []
prompt_fates entry (suc count) = Gap (entry + 1) ∷ prompt_fates (entry + 1) count

-- the prompt certificate of `count` entries
abbrev pub prompt : ℕ → Certificate
prompt count = record { fates = prompt_fates 0 count; expire = []; close = [] }

-- ---- limits

-- the greatest number in a certificate, and the greatest number of fates
abbrev pub number_limit : ℕ
number_limit = 100000

abbrev pub fates_limit : ℕ
fates_limit = 100000

-- The number of a fate is within the limit.
abbrev pub FateFits : Fate → Type 0
FateFits (Gap gap) = gap ≤ number_limit
FateFits Lost = Unit {0}
FateFits (By reply) = reply ≤ number_limit

-- The numbers of a closing are within the limit.
abbrev pub ClosingFits : Closing → Type 0
ClosingFits x = (x.gap ≤ number_limit) × (x.entry ≤ number_limit)

-- The numbers of an expiry are within the limit.
abbrev pub ExpiryFits : Expiry → Type 0
ExpiryFits x = (x.gap ≤ number_limit) × (x.component ≤ number_limit) × (x.entry ≤ number_limit)

-- No number is above the limit, and there are not too many fates.
pub record IsInLimits (c : Certificate) : Type 0 where
  pub count : length c.fates ≤ fates_limit
  pub fates : AllByRecursion FateFits c.fates
  pub closings : AllByRecursion ClosingFits c.close
  pub expiries : AllByRecursion ExpiryFits c.expire
