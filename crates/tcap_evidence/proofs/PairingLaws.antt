-- The loop over the entries for the partners of a transaction ID.
use Rattle.tcap_evidence.proofs.Common.{◌≡◌, ◌⊎◌, ℕ, ◌+◌, ◌<◌, ◌≤◌, List, map, take, drop, ◌∙◌, Side, Entry, item_of}
use Rattle.tcap_evidence.specs.Partners.{Pairing, with_pairs}

module _ (of : Side) (id : List ℕ) (entries : List Entry) (number : ℕ) where
  -- the entries so far, and those found from entry `at` on
  abbrev pub pairs_from : ℕ → Pairing → List ℕ
  pairs_from at pairing = (with_pairs of id at (map item_of (drop at (take number entries))) pairing).0
