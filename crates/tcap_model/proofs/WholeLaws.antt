-- Two ends that each do their part of the items give one run in which both keep the rules.
use Rattle.std.proofs.Common.{◌≡◌, ℕ, List, [], ◌∷◌, ◌++◌, length, Some, refl, sym, ◌∙◌, append_assoc, append-nil}
use Rattle.tcap_record.specs.declared.entry.End.TheVariants as sides
use Rattle.tcap_end.specs.Table.{Table}
use Rattle.tcap_end.specs.End.{End, nothing}
use Rattle.tcap_model.specs.World.{Item, MessageInTransit, Sent, World}
use Rattle.tcap_model.specs.Run.{BothKeepRules, Event, IsLawful, IsLawfulFor, Quiet, after, played}
use Rattle.tcap_model.proofs.RunLaws.{played_on}
use Rattle.tcap_model.proofs.WholeTurns.{Drifts, Goes, Takes, Turn, both_keep, with_newest}
use Rattle.tcap_model.proofs.WholeViews.{goes_lawful}

-- the world of two ends, the messages in transit to each, and the sent list
abbrev both : End → End → List MessageInTransit → List MessageInTransit → List Item → World
both a b to_a to_b sent = record { a = a; b = b; from_a = to_b; from_b = to_a; sent = sent }

-- From this world, a run in which both ends keep the rules sends the rest of the items.
record Sends (table : Table) (w : World) (all : List Item) : Type 0 where
  events : List Event
  last : World
  plays : played table events w ≡ Some last
  sent : last.sent ≡ all
  keep : BothKeepRules events

-- This still holds before a run that leads to the world.
sends_behind : (table : Table) (events : List Event) (w next : World) (all : List Item) → BothKeepRules events
    → played table events w ≡ Some next → Sends table next all → Sends table w all
sends_behind table events w next all keep is rest = record {
  events = events ++ rest.events;
  last = rest.last;
  plays = played_on table events rest.events w next is ∙ rest.plays;
  sent = rest.sent;
  keep = both_keep events rest.events keep rest.keep;
}

-- It still holds before one step that leads to the world.
one_behind : (table : Table) (event : Event) (w next : World) (all : List Item) → BothKeepRules (event ∷ [])
    → after table event w ≡ Some next → Sends table next all → Sends table w all
one_behind table event w next all keep is = sends_behind table (event ∷ []) w next all keep (rw is refl)

module _ (table : Table) (all : List Item) where
  -- Hidden steps of both ends come before.
  both_drift : (a b x y : End) (to_a to_b x_left y_left : List MessageInTransit) (sent : List Item)
      → Drifts table sides.A a to_a x x_left → Drifts table sides.B b to_b y y_left
      → Sends table (both x y x_left y_left sent) all → Sends table (both a b to_a to_b sent) all
  both_drift a b x y to_a to_b x_left y_left sent of_a of_b rest =
      sends_behind table of_a.events (both a b to_a to_b sent) (both x b x_left to_b sent) all of_a.keep
      (of_a.plays (both a b to_a to_b sent))
      (sends_behind table of_b.events (both x b x_left to_b sent) (both x y x_left y_left sent) all of_b.keep
      (of_b.plays (both x b x_left to_b sent)) rest)

  -- Both ends take one item, and then the rest.
  both_take : (item : Item) (a b x y : End) (to_a to_b x_left y_left : List MessageInTransit) (sent : List Item)
      → Takes table sides.A item sent a to_a x x_left → Takes table sides.B item sent b to_b y y_left
      → Sends table (both x y x_left y_left (sent ++ item ∷ [])) all → Sends table (both a b to_a to_b sent) all
  both_take (Sent sides.A m) a b x y to_a to_b x_left y_left sent of_a of_b rest =
      one_behind table of_a.event (both a b to_a to_b sent) (both x b x_left (with_newest sent m to_b) (sent ++ Sent sides.A m ∷ []))
      all of_a.keep (of_a.plays (both a b to_a to_b sent)) (rw (of_b.0, of_b.1) at rest)
  both_take (Sent sides.B m) a b x y to_a to_b x_left y_left sent of_a of_b rest =
      one_behind table of_b.event (both a b to_a to_b sent) (both a y (with_newest sent m to_a) y_left (sent ++ Sent sides.B m ∷ []))
      all of_b.keep (of_b.plays (both a b to_a to_b sent)) (rw (of_a.0, of_a.1) at rest)
  both_take Item.Quiet a b x y to_a to_b x_left y_left sent of_a of_b rest =
      one_behind table Quiet (both a b to_a to_b sent) (both nothing nothing [] [] (sent ++ Item.Quiet ∷ [])) all
      (refl, refl) is (rw (of_a.2, of_a.3, of_b.2, of_b.3) at rest)
    where
      is : after table Quiet (both a b to_a to_b sent) ≡ Some (both nothing nothing [] [] (sent ++ Item.Quiet ∷ []))
      is = rw (of_a.0, of_b.0, of_a.1, of_b.1) refl

-- Both ends take all items.
both_go : (table : Table) (items : List Item) (all sent : List Item) (a b : End) (to_a to_b : List MessageInTransit)
    → sent ++ items ≡ all → Goes table sides.A items sent a to_a → Goes table sides.B items sent b to_b
    → Sends table (both a b to_a to_b sent) all
both_go table [] all sent a b to_a to_b are of_a of_b = record {
  events = [];
  last = both a b to_a to_b sent;
  plays = refl;
  sent = sym (append-nil sent) ∙ are;
  keep = (refl, refl);
}
both_go table (item ∷ items) all sent a b to_a to_b are of_a of_b =
    both_drift table all a b x.drifted y.drifted to_a to_b x.waiting y.waiting sent x.drifts y.drifts
    (both_take table all item x.drifted y.drifted x.made y.made x.waiting y.waiting x.left y.left sent x.takes y.takes
    (both_go table items all (sent ++ item ∷ []) x.made y.made x.left y.left
    (append_assoc sent (item ∷ []) items ∙ are) of_a.1 of_b.1))
  where
    x : Turn table sides.A item sent a to_a
    x = of_a.0

    y : Turn table sides.B item sent b to_b
    y = of_b.0

-- A list that is lawful for each end alone is lawful for both.
pub lawful_together : (table : Table) (items : List Item) → IsLawfulFor sides.A items table
    → IsLawfulFor sides.B items table → (moves : ℕ) × IsLawful items table moves
lawful_together table items of_a of_b =
    let s = both_go table items items [] nothing nothing [] [] refl (goes_lawful table sides.A items of_a)
    (goes_lawful table sides.B items of_b) in
    (length s.events, (s.events, (s.last, s.plays, s.sent), s.keep, refl))
