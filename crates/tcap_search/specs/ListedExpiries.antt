-- Which expiries the search lists, from the answers that are rejected as unrecognized.
use Rattle.std.specs.Prelude.{◌≡◌, ℕ, ℤ, Bool, List, [], ◌∷◌, Option, Some, None}
use Rattle.std.specs.List.{list_any}
use Rattle.std.specs.Ordering.{nat_cmp, ordering_then}
use Rattle.std.specs.declared.cmp.Ordering.{Ordering}
use Rattle.std.specs.BTreeSet.{contains}
use Rattle.tcap_parts.specs.declared.component.Component.{Component}
use Rattle.tcap_record.specs.declared.entry.End.{End as Side}
use Rattle.tcap_record.specs.declared.entry.Entry.{Entry}
use Rattle.tcap_certificate.specs.declared.certificate.Expiry.{Expiry}
use Rattle.tcap_search.specs.declared.expiries.ExpiryList.{ExpiryList}
use Rattle.tcap_search.specs.declared.sweep.Answer.{Answer}
use Rattle.tcap_search.specs.ProposedCertificate.{is_expiry_of, unrecognized, with_expiry}
use Rattle.tcap_search.specs.Sweep.{components_of}

-- the order of pairs
abbrev pub pair_cmp : ℕ × ℕ → ℕ × ℕ → Ordering
pair_cmp k l = ordering_then (nat_cmp k.0 l.0) (nat_cmp k.1 l.1)

-- The invocations kept as named are those of the listed expiries.
abbrev pub IsListed : ExpiryList → Type 0
IsListed l = (entry component : ℕ)
    → contains pair_cmp l.named (entry, component) ≡ list_any (is_expiry_of (entry, component)) l.expiries.items

-- the list after the rejection of an answer, if there is one
abbrev pub with_answer : Side → List Expiry → Option Answer → List Expiry
with_answer side listed None = listed
with_answer side listed (Some answer) = with_expiry listed (Some side) answer.gap answer.invoked

-- the list after these components of an end; `found` returns the answer that a component rejects
abbrev pub all_rejected : (Option (Bool × ℤ) → Option Answer) → Side → List Expiry → List Component → List Expiry
all_rejected found side listed [] = listed
all_rejected found side listed (c ∷ more) =
    all_rejected found side (with_answer side listed (found (unrecognized c))) more

-- the list after these components of an end in a transaction
abbrev pub rejected_of : (ℕ → Side → Option (Bool × ℤ) → Option Answer) → List Expiry → Option Side → Option ℕ
    → List Component → List Expiry
rejected_of found listed (Some side) (Some transaction) components =
    all_rejected (found transaction side) side listed components
rejected_of found listed _ _ components = listed

-- the list after an entry; `found` returns the answer that its end rejects in its transaction
abbrev pub entry_rejected : (ℕ → Side → Option (Bool × ℤ) → Option Answer) → List Expiry → Entry → Option ℕ
    → List Expiry
entry_rejected found listed e transaction = rejected_of found listed e.side transaction (components_of e)
