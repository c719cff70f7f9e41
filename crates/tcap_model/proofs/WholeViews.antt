-- A run in which one end keeps the rules, as this end's turns over the items.
use Rattle.std.proofs.Common.{◌≡◌, ◌⊎◌, inl, inr, false, List, [], ◌∷◌, ◌++◌, Option, Some, None, refl, subst, ap, ◌∙◌, append_assoc, append-nil}
use Rattle.std.proofs.lemmas.Bool.{or_parts}
use Rattle.tcap_record.specs.declared.entry.End.{End as Side}
use Rattle.tcap_record.specs.declared.entry.End.TheVariants as sides
use Rattle.tcap_end.specs.Table.{Table}
use Rattle.tcap_end.specs.End.{nothing}
use Rattle.tcap_record.specs.Ends.{other}
use Rattle.tcap_model.specs.World.{Item, MessageInTransit, Sent, World, channel_from, empty, end_at}
use Rattle.tcap_model.specs.Run.{Event, IsLawfulFor, KeepsRules, after, is_tells_by, played, has_tells_by, option_then}
use Rattle.tcap_model.proofs.Acts.{Acts, Says, Hears, Refuses, Misses, Drops, Shuts, Told, Marked, Stays, Seen, seen, step_acts}
use Rattle.tcap_model.proofs.WholeTurns.{Drifts, Goes, Takes, closes, drifts_first, expires, hears, misses, no_drift, replies, sends}
use Rattle.tcap_model.proofs.WorldLaws.{apart, itself}

-- the messages in transit to an end
abbrev coming_to : Side → World → List MessageInTransit
coming_to side w = channel_from (other side) w

-- hidden steps happen at the end, and nothing is sent
abbrev Drifted : Table → Side → Seen → Seen → Type 0
Drifted table side s t = (t.sent ≡ s.sent) × Drifts table side s.at s.coming t.at t.coming

-- one item is sent, and the end takes it
abbrev Took : Table → Side → Seen → Seen → Type 0
Took table side s t = (item : Item) × (t.sent ≡ s.sent ++ item ∷ []) × Takes table side item s.sent s.at s.coming t.at t.coming

-- Each act is one of both.
acts_seen : (table : Table) (side : Side) (s t : Seen) → Acts table side s t → Drifted table side s t ⊎ Took table side s t
acts_seen table side s t (Says m made step is) = rw is (inr (Sent side m, refl, rw (itself side) (sends table s.at made side m s.coming step)))
acts_seen table side s t (Hears head more made was step is) = rw is (inl (refl, rw was (hears table s.at made side head more step)))
acts_seen table side s t (Refuses head more abort was step is) =
    rw is (inr (Sent side abort, refl, rw (itself side, was) (replies table s.at side head more abort step)))
acts_seen table side s t (Misses head more was is) = rw is (inl (refl, rw was (misses table s.at side head more)))
acts_seen table side s t (Drops name id made step is) = rw is (inl (refl, expires table s.at made side name id s.coming step))
acts_seen table side s t (Shuts name made step is) = rw is (inl (refl, closes table s.at made side name s.coming step))
acts_seen table side s t (Told m is) = rw is (inr (Sent (other side) m, refl, rw (apart side) (refl, refl)))
acts_seen table side s t (Marked none quiet_is is) = rw is (inr (Item.Quiet, refl, (none, quiet_is, refl, refl)))
acts_seen table side s t (Stays is) = rw is (inl (refl, no_drift))

-- ---- runs

-- the items sent between two worlds, and the end's turns over them
abbrev Went : Table → Side → World → World → Type 0
Went table side w last = (items : List Item) × (last.sent ≡ w.sent ++ items)
    × Goes table side items w.sent (end_at side w) (coming_to side w)

-- One more step comes before.
went_first : (table : Table) (side : Side) (w next last : World) → Drifted table side (seen side w) (seen side next) ⊎ Took table side (seen side w) (seen side next)
    → Went table side next last → Went table side w last
went_first table side w next last (inl (same, drift)) (items, sent, goes) = (
  items,
  sent ∙ ap (λ front. front ++ items) same,
  drifts_first items w.sent drift (subst (λ s. Goes table side items s (end_at side next) (coming_to side next)) same goes),
)
went_first table side w next last (inr (item, is, takes)) (items, sent, goes) = (
  item ∷ items,
  sent ∙ ap (λ front. front ++ items) is ∙ append_assoc w.sent (item ∷ []) items,
  (
    record {
      drifted = end_at side w;
      waiting = coming_to side w;
      drifts = no_drift;
      made = end_at side next;
      left = coming_to side next;
      takes = takes;
    },
    subst (λ s. Goes table side items s (end_at side next) (coming_to side next)) is goes,
  ),
)

went : (table : Table) (side : Side) (events : List Event) (w last : World) → played table events w ≡ Some last
    → KeepsRules side events → Went table side w last
went table side [] w last is keeps = let same : w ≡ last = cc in ([], rw (← same, append-nil w.sent) refl, tt)
went table side (event ∷ events) w last is keeps =
    let (untold, later) = or_parts (is_tells_by side event) (has_tells_by side events) keeps in
    by (after table event w) refl (λ next is. went table side events next last is later) untold is
  where
    by : (o : Option World) → after table event w ≡ o
        → ((next : World) → played table events next ≡ Some last → Went table side next last)
        → is_tells_by side event ≡ false → option_then o (played table events) ≡ Some last → Went table side w last
    by None at on untold is = cc
    by (Some next) at on untold is =
        went_first table side w next last (acts_seen table side (seen side w) (seen side next) (step_acts table side event w next at untold)) (on next is)

-- The end's part of a lawful list gives its turns.
pub goes_lawful : (table : Table) (side : Side) (items : List Item) → IsLawfulFor side items table
    → Goes table side items [] nothing []
goes_lawful table side items lawful = by side (went table side lawful.0 empty lawful.1.0 lawful.1.1 lawful.2)
  where
    by : (side : Side) → Went table side empty lawful.1.0 → Goes table side items [] nothing []
    by sides.A (all, sent, goes) = rw (← lawful.1.2, sent) goes
    by sides.B (all, sent, goes) = rw (← lawful.1.2, sent) goes
