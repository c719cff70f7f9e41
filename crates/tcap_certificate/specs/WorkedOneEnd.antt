-- Worked replays of one end: the run that a certificate gives for this end, or why it gives none.
use Rattle.std.specs.Prelude.{◌≡◌, ℕ, List, [], ◌∷◌, map, None, Ok, Some}
use Rattle.tcap_msg.specs.declared.message.Message.TheVariants.{Unidirectional, Begin, Continue}
use Rattle.tcap_record.specs.declared.entry.End.{End as Side}
use Rattle.tcap_record.specs.declared.entry.End.TheVariants.{A, B}
use Rattle.tcap_end.specs.declared.fault.EndFault.{EndFault}
use Rattle.tcap_end.specs.declared.fault.EndFault.TheVariants as faults
use Rattle.tcap_end.specs.declared.half.HalfName.TheVariants.{Own, Peer}
use Rattle.tcap_end.specs.Table.{Table}
use Rattle.tcap_certificate.specs.declared.certificate.Fate.TheVariants.{Gap, Lost, By}
use Rattle.tcap_model.specs.declared.reason.Reason.{Reason}
use Rattle.tcap_model.specs.declared.reason.Reason.TheVariants.{BadReply, NotQuiet, OutOfOrder, SendRefused}
use Rattle.tcap_model.specs.World.{Item, Sent}
use Rattle.tcap_model.specs.Run.{Event, Sends, Receives, Replies, Loses, Closes, Quiet, Tells}
use Rattle.tcap_certificate.specs.Certificate.{Certificate}
use Rattle.tcap_model.specs.Entries.{entry_of, item_of}
use Rattle.tcap_certificate.specs.Replay.{discards_by, refused, replayed_by}
use Rattle.tcap_certificate.specs.WorkedRuns as worked
use Rattle.tcap_model.specs.WorkedItems.{answer, begin, end_to, id, invoke}
use Rattle.tcap_certificate.specs.WorkedRuns.{both_close, by_fates, continues_behind_its_end, end_is_not_heard}
use Rattle.tcap_certificate.specs.LossCounts.{steps_of, unheard_of}

-- The judged end, a record, a certificate, and the run that the certificate gives for this end.
pub record WorkedAlone : Type 0 where
  pub side : Side
  pub items : List Item
  pub certificate : Certificate
  pub events : List Event

-- The certificate gives this run. It has this many steps, not counting losses of the judged end's own messages, and
-- leaves this many of the peer's messages unheard.
abbrev pub IsGivenAlone : Table → WorkedAlone → ℕ → ℕ → Type 0
IsGivenAlone table w steps unheard =
    (replayed_by (Some w.side) table w.certificate (map entry_of w.items) ≡ Ok w.events)
    × (steps_of w.side w.events ≡ steps) × (unheard_of w.side w.events ≡ unheard)

-- The certificate gives no run, for this reason at this entry.
abbrev pub RefusesAlone : Side → Table → Certificate → List Item → Reason → ℕ → Type 0
RefusesAlone side table certificate items reason entry =
    replayed_by (Some side) table certificate (map entry_of items) ≡ refused reason entry

-- ---- a peer that continues after its End

-- A's provider answers B's Continue after B's End with an Abort of cause 1. A keeps the rules, and every message of B
-- is received or answered.
abbrev pub answered_behind_the_end : WorkedAlone
answered_behind_the_end = record {
  side = A;
  items = continues_behind_its_end.items;
  certificate = by_fates (Gap 1 ∷ Gap 2 ∷ Gap 3 ∷ By 4 ∷ Gap 5 ∷ []);
  events = Tells B (begin None None) ∷ Receives A 0 ∷ Sends A (answer None None) ∷ Loses A 1 ∷ Tells B (end_to 2 None)
      ∷ Receives A 2 ∷ Tells B (Continue (id 1) (id 2) None None) ∷ Replies A 3 ∷ Loses A 4 ∷ [];
}

-- A sends an End although B sent one before: by the certificate, B's End is lost.
abbrev pub goes_on_behind_a_lost_end : WorkedAlone
goes_on_behind_a_lost_end = record {
  side = A;
  items = end_is_not_heard.items;
  certificate = by_fates (Gap 1 ∷ Gap 2 ∷ Lost ∷ Gap 4 ∷ Gap 5 ∷ []);
  events = Tells B (begin None None) ∷ Receives A 0 ∷ Sends A (answer None None) ∷ Loses A 1 ∷ Tells B (end_to 2 None)
      ∷ Tells B (Continue (id 1) (id 2) None None) ∷ Loses B 2 ∷ Receives A 3 ∷ Sends A (end_to 1 None) ∷ Loses A 4
      ∷ [];
}

-- A discards a message that it cannot receive, even if the certificate delivers the message. Here it is the Continue
-- after B's End, which nothing answers.
abbrev pub discards_what_it_cannot_receive : WorkedAlone
discards_what_it_cannot_receive = record {
  side = A;
  items = Sent B (begin None None) ∷ Sent A (answer None None) ∷ Sent B (end_to 2 None)
      ∷ Sent B (Continue (id 1) (id 2) None None) ∷ [];
  certificate = by_fates (Gap 1 ∷ Gap 2 ∷ Gap 3 ∷ Gap 4 ∷ []);
  events = Tells B (begin None None) ∷ Receives A 0 ∷ Sends A (answer None None) ∷ Loses A 1 ∷ Tells B (end_to 2 None)
      ∷ Receives A 2 ∷ Tells B (Continue (id 1) (id 2) None None) ∷ Loses B 3 ∷ [];
}

-- The certificate discards these messages, for these reasons.
abbrev pub Discards : Table → WorkedAlone → List (ℕ × EndFault) → Type 0
Discards table w discards =
    discards_by (Some w.side) table w.certificate (map item_of (map entry_of w.items)) ≡ Ok discards

-- ---- order

-- The fates of A's own messages may be in any order: a replay of A does not use them.
abbrev pub own_order_is_free : WorkedAlone
own_order_is_free = record {
  side = A;
  items = Sent A (begin None None) ∷ Sent A (Begin (id 3) None None) ∷ Sent A (Begin (id 4) None None) ∷ [];
  certificate = by_fates (Gap 3 ∷ Gap 2 ∷ Gap 3 ∷ []);
  events = Sends A (begin None None) ∷ Loses A 0 ∷ Sends A (Begin (id 3) None None) ∷ Loses A 1
      ∷ Sends A (Begin (id 4) None None) ∷ Loses A 2 ∷ [];
}

-- ---- quiet marks

-- A gives up its unanswered Begin, and closes its half, before the mark.
abbrev pub gives_up_at_a_mark : WorkedAlone
gives_up_at_a_mark = record {
  side = A;
  items = Sent A (begin None None) ∷ Item.Quiet ∷ [];
  certificate = by_fates (Gap 1 ∷ Gap 2 ∷ []);
  events = Sends A (begin None None) ∷ Loses A 0 ∷ Closes A (Own (id 1)) ∷ Quiet ∷ [];
}

-- With prearranged end, B may close it.
abbrev pub closes_at_a_mark : WorkedAlone
closes_at_a_mark = record {
  side = B;
  items = Sent A (begin None None) ∷ Item.Quiet ∷ [];
  certificate = by_fates (Gap 1 ∷ Gap 2 ∷ []);
  events = Tells A (begin None None) ∷ Receives B 0 ∷ Closes B (Peer (id 1)) ∷ Quiet ∷ [];
}

-- Expiries and closings of the peer are ignored.
abbrev pub passes_over_the_peers : WorkedAlone
passes_over_the_peers = record {
  side = A;
  items = both_close.items;
  certificate = both_close.certificate;
  events = Sends A (begin None None) ∷ Loses A 0 ∷ Tells B (answer None None) ∷ Receives A 1
      ∷ Tells B (Unidirectional None (invoke 48 ∷ [])) ∷ Closes A (Own (id 1)) ∷ Receives A 2 ∷ Quiet ∷ [];
}
