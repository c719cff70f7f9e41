-- A lawful end may have sent its part of each part of a list that shares no ID with the rest.
use Rattle.std.proofs.Common.{◌≡◌, ℕ, Bool, List, [], ◌∷◌, ◌++◌, Some, refl, sym, ap, subst, ◌∙◌, append-nil, append_assoc}
use Rattle.std.specs.Prelude.{slice_get}
use Rattle.std.specs.List.{AllByRecursion}
use Rattle.tcap_msg.specs.declared.message.Message.{Message}
use Rattle.tcap_record.specs.declared.entry.End.{End as Side}
use Rattle.tcap_record.specs.declared.entry.End.TheVariants as sides
use Rattle.tcap_end.specs.Table.{Table}
use Rattle.tcap_record.specs.Ends.{other}
use Rattle.tcap_model.specs.World.{Item, MessageInTransit, Sent, World, channel_from, empty, end_at}
use Rattle.tcap_model.specs.Run.{Event, IsLawful, IsLawfulFor, KeepsRules, Runs, after}
use Rattle.tcap_model.specs.SinceMark.{WasSent}
use Rattle.tcap_model.proofs.ChannelLaws.{were_sent}
use Rattle.tcap_model.proofs.ListLaws.{all_weaker}
use Rattle.tcap_model.proofs.RunLaws.{grows, runs_keep, sound}
use Rattle.tcap_model.proofs.UsedLaws.{kept_before}
use Rattle.tcap_model.proofs.WholeLaws.{lawful_together}
use Rattle.tcap_dialogues.specs.Part.{IsClosed, part_of}
use Rattle.tcap_model.proofs.Acts.{Seen, seen, step_acts}
use Rattle.tcap_dialogues.proofs.Views.{Leads, acts_lead, blank, leads_lawful, leads_nowhere, leads_then}
use Rattle.tcap_dialogues.proofs.PartLists.{get_on}
use Rattle.tcap_dialogues.proofs.InsideLaws.{Matches, nothing_matches}
use Rattle.tcap_dialogues.proofs.SendLaws.{Fits}
use Rattle.tcap_dialogues.proofs.FitLaws.{all_came, all_fit, in_part}
use Rattle.tcap_dialogues.proofs.PartActs.{IsListed, part, part_acts}

-- The view of the empty world is empty.
pub seen_empty : (side : Side) → seen side empty ≡ blank
seen_empty sides.A = refl
seen_empty sides.B = refl

module _ (table : Table) (side : Side) (keeps : ℕ → Bool) (own peer : List ℕ → Bool) (all : List Item)
    (fit : (i : ℕ) (m : Message) → slice_get all i ≡ Some (Sent side m) → Fits own peer (keeps i) m)
    (came : (i : ℕ) (m : Message) → slice_get all i ≡ Some (Sent (other side) m) → Fits peer own (keeps i) m) where
  -- the part of a world
  abbrev left : World → Seen
  left w = part keeps own peer all (seen side w)

  -- A run of the part leads to the part of this world.
  record Follows (w : World) : Type 0 where
    run : Leads table side blank (left w)
    matches : Matches own peer (end_at side w)

  -- This holds if the end kept the rules and the items sent are a front of the list.
  abbrev Holds : List Event → World → Type 0
  Holds before w = KeepsRules side before → (rest : List Item) → w.sent ++ rest ≡ all → Follows w

  -- It holds before the first step.
  none : Holds [] empty
  none kept rest is = record {
    run = subst (λ (t : Seen). Leads table side blank (part keeps own peer all t)) (sym (seen_empty side)) leads_nowhere;
    matches = subst (λ (t : Seen). Matches own peer t.at) (sym (seen_empty side)) (nothing_matches own peer);
  }

  -- Messages in transit are in the list.
  listed : (before : List Event) (w : World) (rest : List Item) → Runs table before w → w.sent ++ rest ≡ all
      → AllByRecursion (IsListed side all) (seen side w).coming
  listed before w rest ran is = all_weaker (WasSent w (other side)) _ (channel_from (other side) w) here (were_sent table before w ran (other side))
    where
      here : (m : MessageInTransit) → WasSent w (other side) m → slice_get all m.number ≡ Some (Sent (other side) m.message)
      here m was = rw (← is) (get_on w.sent rest m.number (Sent (other side) m.message) was.listed)

  -- Each step keeps it.
  step : (before : List Event) (event : Event) (w next : World) → Runs table before w → after table event w ≡ Some next → Holds before w
      → Holds (before ++ event ∷ []) next
  step before event w next ran is old kept rest sent =
      let (kept_then, untold) = kept_before side before event kept in
      let (items, adds, more) = grows table event w next is in
      let sent_before : w.sent ++ (items ++ rest) ≡ all = sym (append_assoc w.sent items rest) ∙ ap (λ l. l ++ rest) (sym more) ∙ sent in
      let was = old kept_then (items ++ rest) sent_before in
      let now = part_acts table side keeps own peer all fit came (seen side w) (sound table before w ran side) was.matches (seen side next)
      rest (listed before w (items ++ rest) ran sent_before) sent (step_acts table side event w next is untold) in
      record { run = leads_then was.run (acts_lead table side _ _ now.acts); matches = now.matches }

  -- The part is lawful.
  pub lawful_part : IsLawfulFor side all table → IsLawfulFor side (part_of keeps 0 all) table
  lawful_part (events, (w, ran, sent), kept) =
      let last = runs_keep table Holds none step events w ran kept [] (append-nil w.sent ∙ sent) in
      rw (← sent) (leads_lawful table side (left w) last.run)

-- It is lawful if it shares no ID with the rest.
pub part_keeps : (side : Side) (items : List Item) (table : Table) (keeps : ℕ → Bool) → IsClosed keeps items
    → IsLawfulFor side items table → IsLawfulFor side (part_of keeps 0 items) table
part_keeps side items table keeps closed lawful =
    lawful_part table side keeps (in_part keeps items closed side) (in_part keeps items closed (other side)) items
    (all_fit keeps items closed side) (all_came keeps items closed side) lawful

-- The same for both ends.
pub part_lawful : (items : List Item) (table : Table) (keeps : ℕ → Bool) (moves : ℕ) → IsClosed keeps items
    → IsLawful items table moves → (fewer : ℕ) × IsLawful (part_of keeps 0 items) table fewer
part_lawful items table keeps moves closed (events, run, kept, length_is) =
    lawful_together table (part_of keeps 0 items)
    (part_keeps sides.A items table keeps closed (events, run, kept.0))
    (part_keeps sides.B items table keeps closed (events, run, kept.1))
