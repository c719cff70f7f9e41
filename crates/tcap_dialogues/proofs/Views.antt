-- The view of one end with nothing else: runs in which only its acts happen.
use Rattle.std.proofs.Common.{◌≡◌, ℕ, true, List, [], ◌∷◌, ◌++◌, length, Some, refl, ◌∙◌}
use Rattle.std.specs.Prelude.{◌==◌}
use Rattle.std.proofs.lemmas.Bool.{eq-eqb}
use Rattle.tcap_record.specs.declared.entry.End.{End as Side}
use Rattle.tcap_record.specs.declared.entry.End.TheVariants as sides
use Rattle.tcap_end.specs.Table.{Table}
use Rattle.tcap_end.specs.End.{End, nothing}
use Rattle.tcap_model.specs.World.{Item, MessageInTransit, World}
use Rattle.tcap_model.specs.Run.{Event, Sends, Receives, Replies, Loses, Expires, Closes, Quiet, Tells, IsLawfulFor, KeepsRules, played}
use Rattle.tcap_model.proofs.Acts.{Acts, Says, Hears, Refuses, Misses, Drops, Shuts, Told, Marked, Stays, Seen}
use Rattle.tcap_model.proofs.RunLaws.{played_on}
use Rattle.tcap_model.proofs.WholeTurns.{keeps_both}

-- the empty view
abbrev pub blank : Seen
blank = record { at = nothing; coming = []; sent = [] }

-- Views with equal parts are equal.
pub same_seen : {e f : End} {c d : List MessageInTransit} {l k : List Item} → e ≡ f → c ≡ d → l ≡ k
    → (let s : Seen = record { at = e; coming = c; sent = l } in s) ≡ record { at = f; coming = d; sent = k }
same_seen ends coming sent = rw (ends, coming, sent) refl

-- the world with nothing else
abbrev pub alone : Side → Seen → World
alone sides.A s = record { a = s.at; b = nothing; from_a = []; from_b = s.coming; sent = s.sent }
alone sides.B s = record { a = nothing; b = s.at; from_a = s.coming; from_b = []; sent = s.sent }

-- A run, in which the end keeps the rules, leads from one view to the other.
pub record Leads (table : Table) (side : Side) (s t : Seen) : Type 0 where
  pub events : List Event
  pub plays : played table events (alone side s) ≡ Some (alone side t)
  pub keep : KeepsRules side events

-- No steps lead nowhere.
pub leads_nowhere : {table : Table} {side : Side} {s : Seen} → Leads table side s s
leads_nowhere = record { events = []; plays = refl; keep = refl }

-- Two runs in turn are one.
pub leads_then : {table : Table} {side : Side} {s t u : Seen} → Leads table side s t → Leads table side t u → Leads table side s u
leads_then {table} {side} {s} {t} {u} a b = record {
  events = a.events ++ b.events;
  plays = played_on table a.events b.events (alone side s) (alone side t) a.plays ∙ b.plays;
  keep = keeps_both side a.events b.events a.keep b.keep;
}

-- An end may have sent, by the rules, what such a run sends.
pub leads_lawful : (table : Table) (side : Side) (t : Seen) → Leads table side blank t → IsLawfulFor side t.sent table
leads_lawful table sides.A t run = (run.events, (alone sides.A t, run.plays, refl), run.keep)
leads_lawful table sides.B t run = (run.events, (alone sides.B t, run.plays, refl), run.keep)

-- A number equals itself.
same : (n : ℕ) → (n == n) ≡ true
same n = eq-eqb n n refl

-- These events lead from one view to the other, if they do so in a run in which the end keeps the rules.
leads_by : {table : Table} {side : Side} {s t u : Seen} → t ≡ u → (events : List Event)
    → played table events (alone side s) ≡ Some (alone side u) → KeepsRules side events → Leads table side s t
leads_by is events plays keep = rw is (record { events = events; plays = plays; keep = keep })

-- Each act is such a run: a message that the end sends is lost.
pub acts_lead : (table : Table) (side : Side) (s t : Seen) → Acts table side s t → Leads table side s t
acts_lead table sides.A s t (Says m made step is) =
    leads_by is (Sends sides.A m ∷ Loses sides.A (length s.sent) ∷ []) (rw (step, same (length s.sent)) refl) refl
acts_lead table sides.B s t (Says m made step is) =
    leads_by is (Sends sides.B m ∷ Loses sides.B (length s.sent) ∷ []) (rw (step, same (length s.sent)) refl) refl
acts_lead table sides.A s t (Hears head more made was step is) =
    leads_by is (Receives sides.A head.number ∷ []) (rw (was, same head.number, step) refl) refl
acts_lead table sides.B s t (Hears head more made was step is) =
    leads_by is (Receives sides.B head.number ∷ []) (rw (was, same head.number, step) refl) refl
acts_lead table sides.A s t (Refuses head more abort was step is) =
    leads_by is (Replies sides.A head.number ∷ Loses sides.A (length s.sent) ∷ [])
    (rw (was, same head.number, step, same (length s.sent)) refl) refl
acts_lead table sides.B s t (Refuses head more abort was step is) =
    leads_by is (Replies sides.B head.number ∷ Loses sides.B (length s.sent) ∷ [])
    (rw (was, same head.number, step, same (length s.sent)) refl) refl
acts_lead table sides.A s t (Misses head more was is) =
    leads_by is (Loses sides.B head.number ∷ []) (rw (was, same head.number) refl) refl
acts_lead table sides.B s t (Misses head more was is) =
    leads_by is (Loses sides.A head.number ∷ []) (rw (was, same head.number) refl) refl
acts_lead table sides.A s t (Drops name id made step is) = leads_by is (Expires sides.A name id ∷ []) (rw step refl) refl
acts_lead table sides.B s t (Drops name id made step is) = leads_by is (Expires sides.B name id ∷ []) (rw step refl) refl
acts_lead table sides.A s t (Shuts name made step is) = leads_by is (Closes sides.A name ∷ []) (rw step refl) refl
acts_lead table sides.B s t (Shuts name made step is) = leads_by is (Closes sides.B name ∷ []) (rw step refl) refl
acts_lead table sides.A s t (Told m is) = leads_by is (Tells sides.B m ∷ []) refl refl
acts_lead table sides.B s t (Told m is) = leads_by is (Tells sides.A m ∷ []) refl refl
acts_lead table sides.A s t (Marked none quiet_is is) = leads_by is (Quiet ∷ []) (rw (none, quiet_is) refl) refl
acts_lead table sides.B s t (Marked none quiet_is is) = leads_by is (Quiet ∷ []) (rw (none, quiet_is) refl) refl
acts_lead table side s t (Stays is) = rw is leads_nowhere
