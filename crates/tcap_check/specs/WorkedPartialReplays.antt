-- How far does the replay go for nine certificates that give no run?
use Rattle.std.specs.Prelude.{◌≡◌, ℕ, pos, List, [], ◌∷◌, map, Option, Some, None}
use Rattle.tcap_parts.specs.declared.code.Code.TheVariants.{Local}
use Rattle.tcap_parts.specs.declared.component.Component.TheVariants.{Invoke}
use Rattle.tcap_msg.specs.declared.message.Message.{Message}
use Rattle.tcap_msg.specs.declared.message.Message.TheVariants.{Begin, Continue}
use Rattle.tcap_record.specs.declared.entry.End.{End as Side}
use Rattle.tcap_record.specs.declared.entry.End.TheVariants.{A, B}
use Rattle.tcap_end.specs.declared.fault.EndFault.{EndFault}
use Rattle.tcap_end.specs.declared.fault.EndFault.TheVariants as faults
use Rattle.tcap_end.specs.declared.half.HalfName.TheVariants.{Own}
use Rattle.tcap_model.specs.declared.reason.Reason.{Reason}
use Rattle.tcap_model.specs.Entries.{entry_of}
use Rattle.tcap_model.specs.World.{Item, Sent}
use Rattle.tcap_model.specs.WorkedItems.{answer, begin, end_to, id, invoke, table}
use Rattle.tcap_model.specs.Run.{Event, Sends, Receives, Loses, Expires, Closes, Tells, provider_abort}
use Rattle.tcap_certificate.specs.declared.certificate.Fate.TheVariants.{Gap, Lost, By}
use Rattle.tcap_certificate.specs.Certificate.{Certificate}
use Rattle.tcap_certificate.specs.Replay.{Replay, refused, replayed_by}
use Rattle.tcap_certificate.specs.WorkedRuns.{by_fates}
use Rattle.tcap_check.specs.RunSoFar.{TakesFirst, stopped_at}

-- A record with a certificate that gives no run of it: who is judged, the count of entries that the replay takes, and
-- the events and discards up to the first step that cannot happen.
pub record WorkedSoFar : Type 0 where
  pub judged : Option Side
  pub items : List Item
  pub certificate : Certificate
  pub count : ℕ
  pub events : List Event
  pub discards : List (ℕ × EndFault)

-- The certificate is refused for this reason at this entry, and its replay takes this count of entries and makes these
-- events and discards.
abbrev pub StopsSoFar : WorkedSoFar → Reason → ℕ → Type 0
StopsSoFar w reason entry =
    (replayed_by w.judged table w.certificate (map entry_of w.items) ≡ refused reason entry)
    × (goes : TakesFirst w.judged table w.certificate (map entry_of w.items) w.count)
    × (let left : Replay = stopped_at w.judged table w.certificate (map entry_of w.items) w.count goes.front in
    (left.events ≡ w.events) × (left.discards ≡ w.discards))

-- ---- a gap

-- a Begin with two Invokes
abbrev two_invokes : Message
two_invokes = begin None (Some (Invoke (pos 2) None (Local (pos 45)) None ∷ invoke 45 ∷ []))

-- Three expiries are listed. The second cannot happen, since the first ended its invocation. So the third expiry and
-- the delivery do not happen.
abbrev pub expiry_after_a_refused_one : WorkedSoFar
expiry_after_a_refused_one = record {
  judged = None;
  items = Sent A two_invokes ∷ Sent B (end_to 1 None) ∷ [];
  certificate = record (by_fates (Gap 1 ∷ Gap 2 ∷ [])) {
    expire =
        record { gap = 1; side = A; entry = 0; component = 0 } ∷ record { gap = 1; side = A; entry = 0; component = 0 }
        ∷ record { gap = 1; side = A; entry = 0; component = 1 } ∷ [];
  };
  count = 1;
  events = Sends A two_invokes ∷ Expires A (Own (id 1)) (pos 2) ∷ [];
  discards = [];
}

-- Closings come before expiries. The second closing cannot happen, since the first closed its half. So the third
-- closing and the expiry do not happen.
abbrev pub expiry_after_a_refused_closing : WorkedSoFar
expiry_after_a_refused_closing = record {
  judged = None;
  items = Sent A (begin None None) ∷ Sent A (Begin (id 3) None (Some (invoke 45 ∷ []))) ∷ [];
  certificate = record {
    fates = Gap 2 ∷ Gap 2 ∷ [];
    close = record { gap = 2; side = A; entry = 0 } ∷ record { gap = 2; side = A; entry = 0 }
        ∷ record { gap = 2; side = A; entry = 1 } ∷ [];
    expire = record { gap = 2; side = A; entry = 1; component = 0 } ∷ [];
  };
  count = 2;
  events = Sends A (begin None None) ∷ Sends A (Begin (id 3) None (Some (invoke 45 ∷ []))) ∷ Closes A (Own (id 1)) ∷ [];
  discards = [];
}

-- A's End crosses two Continues of B. In the last gap B receives the End, then the first Continue is lost, and A cannot
-- receive the second.
abbrev pub delivery_after_its_losses : WorkedSoFar
delivery_after_its_losses = record {
  judged = None;
  items = Sent A (begin None None) ∷ Sent B (answer None None) ∷ Sent A (end_to 2 None) ∷ Sent B (answer None None)
      ∷ Sent B (answer None None) ∷ [];
  certificate = by_fates (Gap 1 ∷ Gap 2 ∷ Gap 5 ∷ Lost ∷ Gap 5 ∷ []);
  count = 5;
  events =
      Sends A (begin None None) ∷ Receives B 0 ∷ Sends B (answer None None) ∷ Receives A 1 ∷ Sends A (end_to 2 None)
      ∷ Sends B (answer None None) ∷ Sends B (answer None None) ∷ Receives B 2 ∷ Loses B 3 ∷ [];
  discards = [];
}

-- ---- an entry

-- A begins again with the ID of an open half, and invokes an ID that is in use there. The earlier invocation expires,
-- but A may not send.
abbrev pub send_after_what_it_implies : WorkedSoFar
send_after_what_it_implies = record {
  judged = None;
  items = Sent A (begin None (Some (invoke 45 ∷ []))) ∷ Sent A (begin None (Some (invoke 45 ∷ []))) ∷ [];
  certificate = by_fates (Gap 1 ∷ Gap 2 ∷ []);
  count = 1;
  events = Sends A (begin None (Some (invoke 45 ∷ []))) ∷ Receives B 0 ∷ Expires A (Own (id 1)) (pos 1) ∷ [];
  discards = [];
}

-- A's half is open, so its provider may not answer a Continue. The Continue before it is lost first.
abbrev pub reply_after_its_losses : WorkedSoFar
reply_after_its_losses = record {
  judged = None;
  items = Sent A (begin None None) ∷ Sent B (answer None None) ∷ Sent B (answer None None) ∷ Sent B (answer None None)
      ∷ Sent A (provider_abort (id 2) 1) ∷ [];
  certificate = by_fates (Gap 1 ∷ Gap 2 ∷ Lost ∷ By 4 ∷ Gap 5 ∷ []);
  count = 4;
  events =
      Sends A (begin None None) ∷ Receives B 0 ∷ Sends B (answer None None) ∷ Receives A 1 ∷ Sends B (answer None None)
      ∷ Sends B (answer None None) ∷ Loses B 2 ∷ [];
  discards = [];
}

-- A message that overtakes an earlier one is refused before its gap, so the closing that is listed for the gap does not
-- happen.
abbrev pub overtaking_before_its_gap : WorkedSoFar
overtaking_before_its_gap = record {
  judged = None;
  items = Sent A (begin None None) ∷ Sent A (Begin (id 3) None None) ∷ Sent A (Begin (id 4) None None) ∷ [];
  certificate = record (by_fates (Gap 3 ∷ Gap 2 ∷ Gap 3 ∷ [])) { close = record { gap = 1; side = A; entry = 0 } ∷ [] };
  count = 1;
  events = Sends A (begin None None) ∷ [];
  discards = [];
}

-- A is judged alone and sends an End that it may not. Before that it discards a message of B that it cannot receive.
abbrev pub send_after_a_discard : WorkedSoFar
send_after_a_discard = record {
  judged = Some A;
  items = Sent B (Continue (id 2) (id 1) None None) ∷ Sent A (end_to 2 None) ∷ [];
  certificate = by_fates (Gap 1 ∷ Gap 2 ∷ []);
  count = 1;
  events = Tells B (Continue (id 2) (id 1) None None) ∷ Loses B 0 ∷ [];
  discards = (0, faults.NoTransaction) ∷ [];
}

-- ---- a quiet mark

-- A is judged alone. Its half that was not answered closes, but its active half may not. So the Begin of B that is on
-- its way is not lost.
abbrev pub mark_after_a_half : WorkedSoFar
mark_after_a_half = record {
  judged = Some A;
  items = Sent A (begin None None) ∷ Sent A (Begin (id 3) None None) ∷ Sent B (Continue (id 2) (id 3) None None)
      ∷ Sent B (Begin (id 4) None None)
      ∷ Item.Quiet ∷ [];
  certificate = by_fates (Gap 1 ∷ Gap 2 ∷ Gap 3 ∷ Lost ∷ Gap 5 ∷ []);
  count = 4;
  events = Sends A (begin None None) ∷ Loses A 0 ∷ Sends A (Begin (id 3) None None) ∷ Loses A 1
      ∷ Tells B (Continue (id 2) (id 3) None None)
      ∷ Receives A 2 ∷ Tells B (Begin (id 4) None None) ∷ Closes A (Own (id 1)) ∷ [];
  discards = [];
}

-- Both ends are judged. A's Begin is lost, but its half is still open.
abbrev pub mark_after_its_losses : WorkedSoFar
mark_after_its_losses = record {
  judged = None;
  items = Sent A (begin None None) ∷ Item.Quiet ∷ [];
  certificate = by_fates (Lost ∷ Gap 2 ∷ []);
  count = 1;
  events = Sends A (begin None None) ∷ Loses A 0 ∷ [];
  discards = [];
}
