-- Worked refusals: events that cannot happen after a run, and runs that a certificate does not describe.
use Rattle.std.specs.Prelude.{◌≡◌, pos, List, [], ◌∷◌, Some, None, option_map}
use Rattle.tcap_parts.specs.declared.code.Code.TheVariants.{Local}
use Rattle.tcap_parts.specs.declared.component.Component.TheVariants.{ReturnError}
use Rattle.tcap_msg.specs.declared.message.Message.TheVariants.{Begin, Unidirectional}
use Rattle.tcap_record.specs.declared.entry.End.TheVariants.{A, B}
use Rattle.tcap_end.specs.declared.half.HalfName.TheVariants.{Own}
use Rattle.tcap_end.specs.Table.{Table}
use Rattle.tcap_model.specs.World.{Item, Sent, empty}
use Rattle.tcap_model.specs.Run.{Event, Sends, Receives, Replies, Loses, Expires, Closes, Quiet, IsRunOf, after, played}
use Rattle.tcap_certificate.specs.declared.certificate.Fate.TheVariants.{Gap, Lost, By}
use Rattle.tcap_certificate.specs.DescribedRun.{Follows}
use Rattle.tcap_model.specs.WorkedItems.{answer, begin, end_to, id, invoke, lasting, result, table}
use Rattle.tcap_certificate.specs.WorkedRuns.{Worked, by_fates}

-- ---- events that cannot happen

-- After these events, which are a run, the next event cannot happen.
abbrev pub HasNoStep : Table → List Event → Event → Type 0
HasNoStep table events event = option_map (after table event) (played table events empty) ≡ Some None

-- A's Begin with an Invoke of 45
abbrev pub begins : Event
begins = Sends A (begin None (Some (invoke 45 ∷ [])))

-- ---- runs that a certificate does not describe

-- The events are a run that sends the items, and the certificate does not describe it.
abbrev pub IsNotDescribed : Worked → Type 0
IsNotDescribed w = IsRunOf w.items table w.events × (Follows w.certificate w.items w.events → ⊥)

-- The fate is a loss, but the message is not lost.
abbrev pub not_lost : Worked
not_lost = record {
  items = Sent A (begin None None) ∷ [];
  certificate = by_fates (Lost ∷ []);
  events = Sends A (begin None None) ∷ [];
}

-- The fate is a gap after the last one.
abbrev pub never_delivered : Worked
never_delivered = record {
  items = Sent A (begin None None) ∷ [];
  certificate = by_fates (Gap 2 ∷ []);
  events = Sends A (begin None None) ∷ [];
}

-- The fate is a reply, but there is no such entry.
abbrev pub never_taken : Worked
never_taken = record {
  items = Sent A (begin None None) ∷ [];
  certificate = by_fates (By 1 ∷ []);
  events = Sends A (begin None None) ∷ [];
}

-- An expiry is in a gap after the last one.
abbrev pub expired_behind_the_end : Worked
expired_behind_the_end = record {
  items = Sent A (begin None (Some (invoke 45 ∷ []))) ∷ [];
  certificate = record (by_fates (Gap 1 ∷ [])) { expire = record { gap = 2; side = A; entry = 0; component = 0 } ∷ [] };
  events = begins ∷ Receives B 0 ∷ [];
}

-- A closing is in a gap after the last one.
abbrev pub closed_behind_the_end : Worked
closed_behind_the_end = record {
  items = Sent A (begin None None) ∷ [];
  certificate = record (by_fates (Gap 1 ∷ [])) { close = record { gap = 2; side = A; entry = 0 } ∷ [] };
  events = Sends A (begin None None) ∷ Receives B 0 ∷ [];
}

-- The fate of a quiet mark is not the next gap.
abbrev pub marks_fate : Worked
marks_fate = record { items = Item.Quiet ∷ []; certificate = by_fates (Lost ∷ []); events = Quiet ∷ [] }

-- An expiry names an entry before a quiet mark, while its invoke ID is in use again.
abbrev pub expiry_over_a_mark : Worked
expiry_over_a_mark = record {
  items = Sent A (begin None (Some (invoke 45 ∷ []))) ∷ Sent B (end_to 1 (Some (result ∷ []))) ∷ Item.Quiet
      ∷ Sent A (begin None (Some (invoke 45 ∷ []))) ∷ [];
  certificate = record (by_fates (Gap 1 ∷ Gap 2 ∷ Gap 3 ∷ Gap 4 ∷ []))
      { expire = record { gap = 4; side = A; entry = 0; component = 0 } ∷ [] };
  events = begins ∷ Receives B 0 ∷ Sends B (end_to 1 (Some (result ∷ []))) ∷ Receives A 1 ∷ Quiet ∷ begins
      ∷ Expires A (Own (id 1)) (pos 1) ∷ Receives B 3 ∷ [];
}

-- An expiry that the certificate does not list comes before another half invokes the same invoke ID.
abbrev pub expiry_not_listed : Worked
expiry_not_listed = record {
  items = Sent A (begin None (Some (invoke 45 ∷ []))) ∷ Sent A (Begin (id 3) None (Some (invoke 45 ∷ []))) ∷ [];
  certificate = by_fates (Gap 1 ∷ Gap 2 ∷ []);
  events = begins ∷ Receives B 0 ∷ Expires A (Own (id 1)) (pos 1) ∷ Sends A (Begin (id 3) None (Some (invoke 45 ∷ [])))
      ∷ Receives B 1 ∷ [];
}
