-- Worked runs, each with the certificate that describes it.
use Rattle.std.specs.Prelude.{◌≡◌, ℕ, pos, List, [], ◌∷◌, length, Some, None}
use Rattle.tcap_msg.specs.declared.message.Message.TheVariants.{Unidirectional, Begin, Continue}
use Rattle.tcap_record.specs.declared.entry.End.{End as Side}
use Rattle.tcap_record.specs.declared.entry.End.TheVariants.{A, B}
use Rattle.tcap_end.specs.declared.half.HalfName.TheVariants.{Own, Peer}
use Rattle.tcap_end.specs.Table.{Table}
use Rattle.tcap_model.specs.World.{Item, Sent}
use Rattle.tcap_model.specs.Run.{BothKeepRules, Event, Sends, Receives, Replies, Loses, Expires, Closes, Quiet, Tells, IsLawfulFor, IsRunOf, KeepsRules, provider_abort}
use Rattle.tcap_model.specs.WorkedItems.{accepting, answer, begin, crossing_items, dialogue_items, end_to, further, id, invoke, over_a_mark_items, rejects_result, request, result}
pub use Rattle.tcap_model.specs.WorkedItems.{prearranged, table}
use Rattle.tcap_certificate.specs.declared.certificate.Fate.{Fate}
use Rattle.tcap_certificate.specs.declared.certificate.Fate.TheVariants.{Gap, Lost, By}
use Rattle.tcap_certificate.specs.Certificate.{Certificate}
use Rattle.tcap_certificate.specs.DescribedRun.{Follows}
use Rattle.tcap_certificate.specs.HalfNames.{IsDescribedBy}

-- ---- runs

-- A run of two ends, and a certificate for the items that it sends.
pub record Worked : Type 0 where
  pub items : List Item
  pub certificate : Certificate
  pub events : List Event

-- The events are a run of this many steps that sends the items, both ends keep the rules, and the certificate describes
-- the run.
abbrev pub IsWorkedBy : Table → Worked → ℕ → Type 0
IsWorkedBy table w moves =
    IsRunOf w.items table w.events × BothKeepRules w.events × (length w.events ≡ moves)
    × Follows w.certificate w.items w.events

-- a worked run by the operation table `table`
abbrev pub IsWorked : Worked → ℕ → Type 0
IsWorked = IsWorkedBy table

-- a certificate with these fates, and without expiries or closings
abbrev pub by_fates : List Fate → Certificate
by_fates fates = record { fates = fates; expire = []; close = [] }

-- no entries
abbrev pub empty_record : Worked
empty_record = record { items = []; certificate = by_fates []; events = [] }

-- a Begin, and an End with a result
abbrev pub two_entries : Worked
two_entries = record {
  items = Sent A (begin None (Some (invoke 45 ∷ []))) ∷ Sent B (end_to 1 (Some (result ∷ []))) ∷ [];
  certificate = by_fates (Gap 1 ∷ Gap 2 ∷ []);
  events = Sends A (begin None (Some (invoke 45 ∷ []))) ∷ Receives B 0 ∷ Sends B (end_to 1 (Some (result ∷ [])))
      ∷ Receives A 1 ∷ [];
}

-- a dialogue: a Begin requests it, a Continue accepts it, an End ends it
abbrev pub three_entries : Worked
three_entries = record {
  items = dialogue_items;
  certificate = by_fates (Gap 1 ∷ Gap 2 ∷ Gap 3 ∷ []);
  events = Sends A (begin request (Some (invoke 45 ∷ []))) ∷ Receives B 0
      ∷ Sends B (answer accepting (Some (result ∷ []))) ∷ Receives A 1
      ∷ Sends A (end_to 2 None) ∷ Receives B 2 ∷ [];
}

-- A's End and B's Continue cross, and A's provider answers the Continue with an Abort of cause 1
abbrev pub crossing : Worked
crossing = record {
  items = crossing_items;
  certificate = by_fates (Gap 1 ∷ Gap 2 ∷ Gap 4 ∷ By 4 ∷ Gap 5 ∷ []);
  events =
      Sends A (begin None None) ∷ Receives B 0 ∷ Sends B (answer None None) ∷ Receives A 1 ∷ Sends A (end_to 2 None)
      ∷ Sends B (answer None None) ∷ Receives B 2 ∷ Replies A 3 ∷ Receives B 4 ∷ [];
}

-- A's invocation expires before its result comes, so A rejects the result
abbrev pub late_reject : Worked
late_reject = record {
  items = Sent A (begin None (Some (invoke 45 ∷ []))) ∷ Sent B (answer None (Some (result ∷ [])))
      ∷ Sent A (end_to 2 (Some (rejects_result 0 ∷ []))) ∷ [];
  certificate = record (by_fates (Gap 1 ∷ Gap 2 ∷ Gap 3 ∷ []))
      { expire = record { gap = 2; side = A; entry = 0; component = 0 } ∷ [] };
  events = Sends A (begin None (Some (invoke 45 ∷ []))) ∷ Receives B 0 ∷ Sends B (answer None (Some (result ∷ [])))
      ∷ Expires A (Own (id 1)) (pos 1) ∷ Receives A 1 ∷ Sends A (end_to 2 (Some (rejects_result 0 ∷ []))) ∷ Receives B 2
      ∷ [];
}

-- B's result comes late: A's invocation has ended, and A uses its ID again for an operation that reports no success, so
-- A rejects the result
abbrev pub delayed : Worked
delayed = record {
  items = Sent A (begin None (Some (invoke 45 ∷ []))) ∷ Sent B (answer None None)
      ∷ Sent B (answer None (Some (result ∷ [])))
      ∷ Sent A (further (invoke 46)) ∷ Sent A (further (rejects_result 1)) ∷ [];
  certificate = by_fates (Gap 1 ∷ Gap 2 ∷ Gap 4 ∷ Gap 4 ∷ Gap 5 ∷ []);
  events = Sends A (begin None (Some (invoke 45 ∷ []))) ∷ Receives B 0 ∷ Sends B (answer None None) ∷ Receives A 1
      ∷ Sends B (answer None (Some (result ∷ []))) ∷ Expires A (Own (id 1)) (pos 1) ∷ Sends A (further (invoke 46))
      ∷ Receives A 2
      ∷ Receives B 3 ∷ Sends A (further (rejects_result 1)) ∷ Receives B 4 ∷ [];
}

-- A's half closes, and A's provider answers B's Continue with an Abort of cause 1
abbrev pub closed_half : Worked
closed_half = record {
  items = Sent A (begin None None) ∷ Sent B (answer None None) ∷ Sent A (provider_abort (id 2) 1) ∷ [];
  certificate = record (by_fates (Gap 1 ∷ By 2 ∷ Gap 3 ∷ [])) { close = record { gap = 2; side = A; entry = 0 } ∷ [] };
  events = Sends A (begin None None) ∷ Receives B 0 ∷ Sends B (answer None None) ∷ Closes A (Own (id 1)) ∷ Replies A 1
      ∷ Receives B 2 ∷ [];
}

-- B's provider answers A's Begin with an Abort of cause 4
abbrev pub refused_begin : Worked
refused_begin = record {
  items = Sent A (begin None (Some (invoke 45 ∷ []))) ∷ Sent B (provider_abort (id 1) 4) ∷ [];
  certificate = by_fates (By 1 ∷ Gap 2 ∷ []);
  events = Sends A (begin None (Some (invoke 45 ∷ []))) ∷ Replies B 0 ∷ Receives A 1 ∷ [];
}

-- a Begin that is lost
abbrev pub lost_begin : Worked
lost_begin = record {
  items = Sent A (begin None (Some (invoke 45 ∷ []))) ∷ [];
  certificate = by_fates (Lost ∷ []);
  events = Sends A (begin None (Some (invoke 45 ∷ []))) ∷ Loses A 0 ∷ [];
}

-- after a quiet mark, A uses its transaction ID again
abbrev pub over_a_mark : Worked
over_a_mark = record {
  items = over_a_mark_items;
  certificate = by_fates (Gap 1 ∷ Gap 2 ∷ Gap 3 ∷ Gap 4 ∷ Gap 5 ∷ []);
  events = Sends A (begin None (Some (invoke 45 ∷ []))) ∷ Receives B 0 ∷ Sends B (end_to 1 (Some (result ∷ [])))
      ∷ Receives A 1 ∷ Quiet
      ∷ Sends A (begin None (Some (invoke 45 ∷ []))) ∷ Receives B 3 ∷ Sends B (end_to 1 (Some (result ∷ [])))
      ∷ Receives A 4 ∷ [];
}

-- after a quiet mark, both ends use their transaction IDs again
abbrev pub both_again : Worked
both_again = record {
  items = Sent A (begin None None) ∷ Sent B (answer None None) ∷ Sent A (end_to 2 None) ∷ Item.Quiet
      ∷ Sent A (begin None None) ∷ Sent B (answer None None) ∷ Sent A (end_to 2 None) ∷ [];
  certificate = by_fates (Gap 1 ∷ Gap 2 ∷ Gap 3 ∷ Gap 4 ∷ Gap 5 ∷ Gap 6 ∷ Gap 7 ∷ []);
  events = Sends A (begin None None) ∷ Receives B 0 ∷ Sends B (answer None None) ∷ Receives A 1
      ∷ Sends A (end_to 2 None) ∷ Receives B 2
      ∷ Quiet ∷ Sends A (begin None None) ∷ Receives B 4 ∷ Sends B (answer None None) ∷ Receives A 5
      ∷ Sends A (end_to 2 None)
      ∷ Receives B 6 ∷ [];
}

-- two messages are in transit at once, and both are delivered
abbrev pub in_a_row : Worked
in_a_row = record {
  items = Sent A (begin None None) ∷ Sent A (Begin (id 3) None None) ∷ [];
  certificate = by_fates (Gap 2 ∷ Gap 2 ∷ []);
  events = Sends A (begin None None) ∷ Sends A (Begin (id 3) None None) ∷ Receives B 0 ∷ Receives B 1 ∷ [];
}

-- B's End invokes an ID again, which implies an expiry in the half with this peer ID
abbrev pub end_implies : Worked
end_implies = record {
  items = Sent A (begin None None) ∷ Sent B (answer None (Some (invoke 45 ∷ [])))
      ∷ Sent B (end_to 1 (Some (invoke 45 ∷ []))) ∷ [];
  certificate = by_fates (Gap 1 ∷ Gap 2 ∷ Gap 3 ∷ []);
  events = Sends A (begin None None) ∷ Receives B 0 ∷ Sends B (answer None (Some (invoke 45 ∷ []))) ∷ Receives A 1
      ∷ Expires B (Peer (id 1)) (pos 1) ∷ Sends B (end_to 1 (Some (invoke 45 ∷ []))) ∷ Receives A 2 ∷ [];
}

-- Both ends close by prearranged end: A's half by its own ID, B's half by its peer's ID. A Unidirectional is sent
-- before.
abbrev pub both_close : Worked
both_close = record {
  items = Sent A (begin None None) ∷ Sent B (answer None None) ∷ Sent B (Unidirectional None (invoke 48 ∷ []))
      ∷ Item.Quiet ∷ [];
  certificate = record (by_fates (Gap 1 ∷ Gap 2 ∷ Gap 3 ∷ Gap 4 ∷ [])) {
    close = record { gap = 3; side = A; entry = 0 } ∷ record { gap = 3; side = B; entry = 0 } ∷ [];
  };
  events = Sends A (begin None None) ∷ Receives B 0 ∷ Sends B (answer None None) ∷ Receives A 1
      ∷ Sends B (Unidirectional None (invoke 48 ∷ [])) ∷ Closes A (Own (id 1)) ∷ Closes B (Peer (id 1)) ∷ Receives A 2
      ∷ Quiet ∷ [];
}

-- A's Continue invokes an ID again, and the run names the half in which the earlier invocation expires by its peer's
-- ID.
abbrev pub by_the_other_name : Worked
by_the_other_name = record {
  items = Sent A (begin None (Some (invoke 45 ∷ []))) ∷ Sent B (answer None None) ∷ Sent A (further (invoke 45)) ∷ [];
  certificate = by_fates (Gap 1 ∷ Gap 2 ∷ Gap 3 ∷ []);
  events = Sends A (begin None (Some (invoke 45 ∷ []))) ∷ Receives B 0 ∷ Sends B (answer None None) ∷ Receives A 1
      ∷ Expires A (Peer (id 2)) (pos 1) ∷ Sends A (further (invoke 45)) ∷ Receives B 2 ∷ [];
}

-- The events are a run of this many steps that sends the items, and the certificate describes it up to the names of
-- halves.
abbrev pub IsDescribedRun : Worked → ℕ → Type 0
IsDescribedRun w moves =
    IsRunOf w.items table w.events × (length w.events ≡ moves) × IsDescribedBy table w.certificate w.items w.events

-- ---- an end that keeps the rules, and one that does not

-- A run that sends the items, in which this end keeps the rules and its peer may do anything.
pub record OneSided : Type 0 where
  pub side : Side
  pub items : List Item
  pub events : List Event

-- The events are such a run, so this end may have sent its part.
abbrev pub IsWorkedFor : Table → OneSided → Type 0
IsWorkedFor table w = IsRunOf w.items table w.events × KeepsRules w.side w.events × IsLawfulFor w.side w.items table

-- B sends a Begin, an End and then, against the rules, a Continue. The End closes A's half, so A's provider answers the
-- Continue with an Abort of cause 1.
abbrev pub continues_behind_its_end : OneSided
continues_behind_its_end = record {
  side = A;
  items = Sent B (begin None None) ∷ Sent A (answer None None) ∷ Sent B (end_to 2 None)
      ∷ Sent B (Continue (id 1) (id 2) None None) ∷ Sent A (provider_abort (id 1) 1) ∷ [];
  events =
      Tells B (begin None None) ∷ Receives A 0 ∷ Sends A (answer None None) ∷ Tells B (end_to 2 None) ∷ Receives A 2
      ∷ Tells B (Continue (id 1) (id 2) None None) ∷ Replies A 3 ∷ [];
}

-- B sends the messages of `continues_behind_its_end`, but its End is lost, and A goes on.
abbrev pub end_is_not_heard : OneSided
end_is_not_heard = record {
  side = A;
  items = Sent B (begin None None) ∷ Sent A (answer None None) ∷ Sent B (end_to 2 None)
      ∷ Sent B (Continue (id 1) (id 2) None None) ∷ Sent A (end_to 1 None) ∷ [];
  events = Tells B (begin None None) ∷ Receives A 0 ∷ Sends A (answer None None) ∷ Tells B (end_to 2 None) ∷ Loses B 2
      ∷ Tells B (Continue (id 1) (id 2) None None) ∷ Receives A 3 ∷ Sends A (end_to 1 None) ∷ [];
}
