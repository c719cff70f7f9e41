use Rattle.std.proofs.Common.{rules, ◌≡◌, pos, List, [], ◌∷◌, None, Some, refl, subst}
use Rattle.tcap_record.specs.declared.entry.End.TheVariants.{A, B}
use Rattle.tcap_end.specs.declared.half.HalfName.TheVariants.{Own, Peer}
use Rattle.tcap_model.specs.World.{World, empty}
use Rattle.tcap_model.specs.Run.{Event, Sends, Receives, Expires, after}
use Rattle.tcap_model.specs.WorkedItems.{answer, begin, further, invoke, table}
use Rattle.tcap_certificate.specs.HalfNames.{AreSameEvents, IsSameEvent}
use Rattle.tcap_certificate.specs.DescribedRun.{Follows}
use Rattle.tcap_certificate.specs.WorkedRuns.{Worked, by_the_other_name}
use Rattle.tcap_certificate.proofs.WorkedRuns.{follows, gap, implying, last}
use Rattle.tcap_certificate.proofs.worked_runs.by_the_other_name.Goals as goal

-- the run with the half's name that the certificate uses
abbrev named_by_own : Worked
named_by_own = record by_the_other_name {
  events = Sends A (begin None (Some (invoke 45 ∷ []))) ∷ Receives B 0 ∷ Sends B (answer None None) ∷ Receives A 1
      ∷ Expires A (Own (1 ∷ [])) (pos 1) ∷ Sends A (further (invoke 45)) ∷ Receives B 2 ∷ [];
}

named_by_own_follows : Follows by_the_other_name.certificate by_the_other_name.items named_by_own.events
named_by_own_follows = follows named_by_own refl (search rules) (search rules) (search rules) refl refl
    (gap [] refl refl (gap (Receives B 0 ∷ []) refl refl
    (implying (Receives A 1 ∷ []) (Expires A (Own (1 ∷ [])) (pos 1) ∷ []) ((refl, refl, (0, search rules, refl)), tt) refl refl
    (last refl))))

-- `AreSameEvents`, as a record
record SameFrom (w : World) (events others : List Event) : Type 0 where
  are : AreSameEvents table w events others

no_more : {w : World} → SameFrom w [] []
no_more = record { are = refl }

-- one more event
one_same : {w next : World} {event first : Event} {events rest : List Event} → after table event w ≡ Some next
    → IsSameEvent w event first → SameFrom next events rest → SameFrom w (event ∷ events) (first ∷ rest)
one_same {w} {next} {event} {first} {events} {rest} is same on = record {
  are =
      (first, rest, refl, same, λ found at. let one : next ≡ found = cc in subst (λ (x : World). AreSameEvents table x events rest) one on.are);
}

by_the_other_name_same : SameFrom empty by_the_other_name.events named_by_own.events
by_the_other_name_same =
    one_same refl refl (one_same refl refl (one_same refl refl (one_same refl refl
    (one_same refl (Own (1 ∷ []), refl, refl) (one_same refl refl (one_same refl refl no_more))))))

pub returns : goal.returns
returns c = ((_, refl, refl), refl, (named_by_own.events, by_the_other_name_same.are, named_by_own_follows))
