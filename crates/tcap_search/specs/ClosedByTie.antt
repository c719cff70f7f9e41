-- Which half the tie of a Continue shows to have closed (Q.774 3.3).
use Rattle.std.specs.Prelude.{◌≡◌, ◌<◌, ℕ, List, Option, Some, None, ◌&&◌, not, cond, is_some, option_map}
use Rattle.std.specs.List.{list_any}
use Rattle.tcap_msg.specs.declared.message.Message.{Message}
use Rattle.tcap_record.specs.declared.entry.End.{End as Side}
use Rattle.tcap_record.specs.Ends.{other}
use Rattle.tcap_certificate.specs.declared.certificate.Closing.{Closing}
use Rattle.tcap_certificate.specs.declared.certificate.Fate.{Fate}
use Rattle.tcap_certificate.specs.declared.certificate.Fate.TheVariants.{Gap}
use Rattle.tcap_search.specs.declared.leasts.Leasts.{Leasts}
use Rattle.tcap_search.specs.LeastNumbers.{is_below, is_within, least_at}
use Rattle.tcap_search.specs.SegmentEntries.{Line, message_of}
use Rattle.tcap_search.specs.ProposedCertificate.{Fated, is_closing_of, is_continue, is_end_or_abort, was_ended, was_end_delivered}

-- both values, if there are both
abbrev pub both_of : {A B : Type 0} → Option A → Option B → Option (A × B)
both_of (Some a) (Some b) = Some (a, b)
both_of _ _ = None

-- the half, by its end and its transaction, that the reply to a line shows to have closed
abbrev pub shown_by : List Fated → List Line → ℕ → Option Line → Option (Side × ℕ)
shown_by all lines reply None = None
shown_by all lines reply (Some x) =
    cond (is_continue (message_of x.entry) && not (was_ended lines x reply) && not (was_end_delivered all x reply))
    (both_of (option_map other x.entry.side) x.transaction) None

-- the gap in which an End or an Abort with this fate is delivered
abbrev pub end_delivery_gap : Option Message → Fate → Option ℕ
end_delivery_gap message (Gap gap) = cond (is_end_or_abort message) (Some gap) None
end_delivery_gap message _ = None

-- For each end and transaction below `count`, the first entry among these lines that ends it is kept.
abbrev pub KeepsEnded : ℕ → List Line → Leasts → Type 0
KeepsEnded count lines ended =
    (x : Line) (side : Side) (transaction limit : ℕ) → x.entry.side ≡ Some side → x.transaction ≡ Some transaction
    → transaction < count → is_below limit (least_at (other side) transaction ended) ≡ was_ended lines x limit

-- For each end and transaction below `count`, the first gap in which its End or Abort is delivered is kept.
abbrev pub KeepsDelivered : ℕ → List Fated → Leasts → Type 0
KeepsDelivered count all delivered =
    (x : Line) (side : Side) (transaction limit : ℕ) → x.entry.side ≡ Some side → x.transaction ≡ Some transaction
    → transaction < count → is_within limit (least_at side transaction delivered) ≡ was_end_delivered all x limit

-- For each end and transaction below `count`, a number is kept if and only if its closing is listed.
abbrev pub KeepsListed : ℕ → List Closing → Leasts → Type 0
KeepsListed count listed kept =
    (side : Side) (transaction : ℕ) → transaction < count
    → is_some (least_at side transaction kept) ≡ list_any (is_closing_of side transaction) listed
