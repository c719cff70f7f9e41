-- An end may have sent the items after a quiet mark alone.
use Rattle.std.proofs.Common.{arith, ◌≡◌, ◌≤◌, ◌<◌, ◌⊎◌, inl, inr, ℕ, ◌+◌, ◌-◌, Bool, true, List, [], ◌∷◌, ◌++◌, length, drop, Some, refl, sym, ap, subst, ◌∙◌, append-nil, append_assoc, length-append, length-drop}
use Rattle.std.specs.Prelude.{slice_get}
use Rattle.std.proofs.Math.Seq.{drop-append_seam, drop-append-add}
use Rattle.std.proofs.lemmas.Bool.{cases_lt}
use Rattle.std.proofs.lemmas.List.{drop-append-le}
use Rattle.tcap_msg.specs.declared.message.Message.{Message}
use Rattle.tcap_record.specs.declared.entry.End.{End as Side}
use Rattle.tcap_end.specs.Table.{Table}
use Rattle.tcap_record.specs.Ends.{other}
use Rattle.tcap_model.specs.World.{Item, Sent, World, empty}
use Rattle.tcap_model.specs.Run.{Adds, Event, IsLawfulFor, KeepsRules, Runs, after}
use Rattle.tcap_model.proofs.RunLaws.{grows, runs_keep}
use Rattle.tcap_model.proofs.Acts.{Acts, Says, Hears, Refuses, Misses, Drops, Shuts, Told, Marked, Stays, Seen, newest, seen, step_acts}
use Rattle.tcap_dialogues.proofs.Views.{Leads, acts_lead, blank, leads_lawful, leads_nowhere, leads_then, same_seen}
use Rattle.tcap_dialogues.proofs.PartLists.{get_next, kept_more, kept_of}
use Rattle.tcap_model.proofs.UsedLaws.{kept_before}

-- all pass
abbrev each : ℕ → Bool
each n = true

module _ (k : ℕ) where
  -- a number after the mark
  abbrev behind : ℕ → ℕ
  behind n = n - k

  -- the view after the mark, with numbers from 0
  abbrev rest_of : Seen → Seen
  rest_of s = record { at = s.at; coming = kept_of each behind s.coming; sent = drop k s.sent }

  -- one more item after the mark
  sent_more : (sent : List Item) (item : Item) → k ≤ length sent → drop k (sent ++ item ∷ []) ≡ drop k sent ++ item ∷ []
  sent_more sent item is = drop-append-le k sent (item ∷ []) is

  -- the number of the next item
  next_is : (sent : List Item) → length sent - k ≡ length (drop k sent)
  next_is sent = sym (length-drop k sent)

  module _ (table : Table) (side : Side) (s : Seen) (within : k ≤ length s.sent) where
    -- An act after the mark is one of the view after it.
    rest_acts : (t : Seen) → Acts table side s t → Acts table side (rest_of s) (rest_of t)
    rest_acts t (Says m made step is) = rw is (Says m made step (same_seen refl refl (sent_more s.sent (Sent side m) within)))
    rest_acts t (Hears head more made was step is) = rw is
        (Hears (record { number = behind head.number; message = head.message }) (kept_of each behind more) made (rw was refl) step refl)
    rest_acts t (Refuses head more abort was step is) = rw is
        (Refuses (record { number = behind head.number; message = head.message }) (kept_of each behind more) abort (rw was refl) step
        (same_seen refl refl (sent_more s.sent (Sent side abort) within)))
    rest_acts t (Misses head more was is) = rw is
        (Misses (record { number = behind head.number; message = head.message }) (kept_of each behind more) (rw was refl) refl)
    rest_acts t (Drops name id made step is) = rw is (Drops name id made step refl)
    rest_acts t (Shuts name made step is) = rw is (Shuts name made step refl)
    rest_acts t (Told m is) = rw is (Told m (same_seen refl
        (kept_more each behind s.coming (newest s.sent m) refl
        ∙ ap (λ n. kept_of each behind s.coming ++ record { number = n; message = m } ∷ []) (next_is s.sent))
        (sent_more s.sent (Sent (other side) m) within)))
    rest_acts t (Marked none quiet_is is) = rw is
        (Marked (rw none refl) quiet_is (same_seen refl refl (sent_more s.sent Item.Quiet within)))
    rest_acts t (Stays is) = rw is (Stays refl)

-- A message is not at the place of the mark.
not_mark : {P : Type 0} (front sent items rest : List Item) (side : Side) (m : Message) → (sent ++ Sent side m ∷ []) ++ rest ≡ front ++ Item.Quiet ∷ items
    → length sent ≤ length front → length front < length (sent ++ Sent side m ∷ []) → P
not_mark front sent items rest side m is before past =
    let whole : length (sent ++ Sent side m ∷ []) ≡ length sent + 1 = length-append sent (Sent side m ∷ []) in
    let at : length sent ≡ length front = omega arith in
    let message = get_next sent rest (Sent side m) in
    let mark : slice_get (front ++ Item.Quiet ∷ items) (length front) ≡ Some Item.Quiet =
    subst (λ l. slice_get l (length front) ≡ Some Item.Quiet) (append_assoc front (Item.Quiet ∷ []) items) (get_next front items Item.Quiet) in
    let here : slice_get ((sent ++ Sent side m ∷ []) ++ rest) (length sent) ≡ Some Item.Quiet = rw (is, at) mark in
    let both : Some (Sent side m) ≡ Some Item.Quiet = sym message ∙ here in cc

-- The mark is not reached if nothing is sent.
not_past : {P : Type 0} (front sent : List Item) → length sent ≤ length front → length front < length sent → P
not_past front sent before past = absurd (omega arith)

-- Nothing comes after all items.
drop_all : (items : List Item) → drop (length items) items ≡ []
drop_all items = rw (append-nil items) at (drop-append_seam items [])

-- The act that reaches the mark is the mark itself.
reaches : (table : Table) (side : Side) (front items rest : List Item) (s t : Seen) → t.sent ++ rest ≡ front ++ Item.Quiet ∷ items
    → length s.sent ≤ length front → length front < length t.sent → Acts table side s t → rest_of (length front + 1) t ≡ blank
reaches table side front items rest s t is before past (Says m made step t_is) =
    not_mark front s.sent items rest side m (rw t_is at is) before (rw t_is at past)
reaches table side front items rest s t is before past (Hears head more made was step t_is) = not_past front s.sent before (rw t_is at past)
reaches table side front items rest s t is before past (Refuses head more abort was step t_is) =
    not_mark front s.sent items rest side abort (rw t_is at is) before (rw t_is at past)
reaches table side front items rest s t is before past (Misses head more was t_is) = not_past front s.sent before (rw t_is at past)
reaches table side front items rest s t is before past (Drops name id made step t_is) = not_past front s.sent before (rw t_is at past)
reaches table side front items rest s t is before past (Shuts name made step t_is) = not_past front s.sent before (rw t_is at past)
reaches table side front items rest s t is before past (Told m t_is) =
    not_mark front s.sent items rest (other side) m (rw t_is at is) before (rw t_is at past)
reaches table side front items rest s t is before past (Marked none quiet_is t_is) =
    rw t_is (same_seen refl refl (none_left (rw t_is at past)))
  where
    none_left : length front < length (s.sent ++ Item.Quiet ∷ []) → drop (length front + 1) (s.sent ++ Item.Quiet ∷ []) ≡ []
    none_left reached =
        let grown : length (s.sent ++ Item.Quiet ∷ []) ≡ length s.sent + 1 = length-append s.sent (Item.Quiet ∷ []) in
        let whole : length (s.sent ++ Item.Quiet ∷ []) ≡ length front + 1 = omega arith in
        ap (λ n. drop n (s.sent ++ Item.Quiet ∷ [])) (sym whole) ∙ drop_all (s.sent ++ Item.Quiet ∷ [])
reaches table side front items rest s t is before past (Stays t_is) = not_past front s.sent before (rw t_is at past)

module _ (table : Table) (side : Side) (front items : List Item) where
  -- the place after the mark
  abbrev start : ℕ
  start = length front + 1

  -- If a run sent a front of the list with the mark, a run leads to the view after the mark.
  abbrev Holds : List Event → World → Type 0
  Holds before w = KeepsRules side before → (rest : List Item) → w.sent ++ rest ≡ front ++ Item.Quiet ∷ items → length front < length w.sent
      → Leads table side blank (rest_of start (seen side w))

  -- It holds before the first step.
  none : Holds [] empty
  none kept rest is past = let bad : length front < 0 = past in absurd (omega arith)

  -- Each step keeps it.
  step : (before : List Event) (event : Event) (w next : World) → Runs table before w → after table event w ≡ Some next → Holds before w
      → Holds (before ++ event ∷ []) next
  step before event w next ran is old kept rest sent past =
      let (kept_then, untold) = kept_before side before event kept in
      by kept_then (step_acts table side event w next is untold) (cases_lt (length front) (length w.sent))
    where
      added : (new : List Item) × Adds w event new × (next.sent ≡ w.sent ++ new)
      added = grows table event w next is

      sent_before : w.sent ++ (added.0 ++ rest) ≡ front ++ Item.Quiet ∷ items
      sent_before = sym (append_assoc w.sent added.0 rest) ∙ ap (λ l. l ++ rest) (sym added.2) ∙ sent

      by : KeepsRules side before → Acts table side (seen side w) (seen side next) → (length front < length w.sent) ⊎ (length w.sent ≤ length front)
          → Leads table side blank (rest_of start (seen side next))
      by kept_then acts (inl was) =
          let within : start ≤ length w.sent = omega arith in
          leads_then (old kept_then (added.0 ++ rest) sent_before was)
          (acts_lead table side _ _ (rest_acts start table side (seen side w) within (seen side next) acts))
      by kept_then acts (inr not_yet) =
          let new = reaches table side front items rest (seen side w) (seen side next) sent not_yet past acts in
          subst (λ (t : Seen). Leads table side blank t) (sym new) leads_nowhere

  -- The items after the mark are lawful.
  pub segment_keeps : IsLawfulFor side (front ++ Item.Quiet ∷ items) table → IsLawfulFor side items table
  segment_keeps (events, (w, ran, sent), kept) =
      let all : length w.sent ≡ length (front ++ Item.Quiet ∷ items) = ap length sent in
      let both : length (front ++ Item.Quiet ∷ items) ≡ length front + length (Item.Quiet ∷ items) = length-append front (Item.Quiet ∷ items) in
      let one : length (Item.Quiet ∷ items) ≡ length items + 1 = omega arith in
      let run = runs_keep table Holds none step events w ran kept [] (append-nil w.sent ∙ sent) (omega arith) in
      subst (λ l. IsLawfulFor side l table) left (leads_lawful table side (rest_of start (seen side w)) run)
    where
      left : drop start w.sent ≡ items
      left = ap (drop start) sent ∙ drop-append-add front (Item.Quiet ∷ items) 1
