use Rattle.std.proofs.Common.{arith, ◌≡◌, ℕ, pos, List, [], ◌∷◌, ◌++◌, map, Option, Some, None, refl, subst}
use Rattle.std.specs.List.{AllByRecursion}
use Rattle.tcap_parts.specs.declared.code.Code.TheVariants.{Local}
use Rattle.tcap_parts.specs.declared.component.Component.TheVariants.{Invoke}
use Rattle.tcap_msg.specs.declared.message.Message.{Message}
use Rattle.tcap_msg.specs.declared.message.Message.TheVariants.{Begin}
use Rattle.tcap_record.specs.declared.entry.End.TheVariants.{A, B}
use Rattle.tcap_end.specs.declared.half.HalfName.TheVariants.{Own}
use Rattle.tcap_model.specs.World.{Sent}
use Rattle.tcap_model.specs.Run.{Event, Sends, Receives, Expires}
use Rattle.tcap_certificate.specs.DescribedRun.{Follows, IsImplied}
use Rattle.tcap_certificate.specs.WorkedRefusals as refused
use Rattle.tcap_certificate.proofs.worked_refusals.undescribed_runs.Goals as goal

pub returns-clause-not_lost : goal.returns-clause-not_lost
returns-clause-not_lost c = ((_, refl, refl), λ f. let bad = f.losses A in cc)

pub returns-clause-never_delivered : goal.returns-clause-never_delivered
returns-clause-never_delivered c = ((_, refl, refl), λ f. let bad = f.fates.1 in omega arith)

pub returns-clause-never_taken : goal.returns-clause-never_taken
returns-clause-never_taken c = ((_, refl, refl), λ f. let bad = f.fates.1 in omega arith)

pub returns-clause-expired_behind_the_end : goal.returns-clause-expired_behind_the_end
returns-clause-expired_behind_the_end c = ((_, refl, refl), λ f. let bad = f.expiries.0 in omega arith)

pub returns-clause-closed_behind_the_end : goal.returns-clause-closed_behind_the_end
returns-clause-closed_behind_the_end c = ((_, refl, refl), λ f. let bad = f.closings.0 in omega arith)

pub returns-clause-marks_fate : goal.returns-clause-marks_fate
returns-clause-marks_fate c = ((_, refl, refl), λ f. let no_mark = f.gaps.6 in cc)

-- A None among the events of a gap matches no events.
none_first : (events : List Event) (more : List (Option Event)) → map Some events ≡ None ∷ more → ⊥
none_first [] more is = cc
none_first (event ∷ events) more is = cc

pub returns-clause-expiry_over_a_mark : goal.returns-clause-expiry_over_a_mark
returns-clause-expiry_over_a_mark c = ((_, refl, refl), λ f. let fourth = f.gaps.8.8.8 in none_first fourth.2 _ fourth.8)

-- the Begins of the run with an unlisted expiry
abbrev begin_from : ℕ → Message
begin_from otid = Begin (otid ∷ []) None (Some (Invoke (pos 1) None (Local (pos 45)) None ∷ []))

-- In the first gap there is nothing, and the Begin sent first implies no expiry.
at_first : (here implied rest more : List Event) (sends : Event) → map Some here ≡ []
    → AllByRecursion (IsImplied (Sent A (begin_from 1))) implied
    → Sends A (begin_from 1) ∷ more ≡ here ++ implied ++ sends ∷ rest → rest ≡ more
at_first (x ∷ here) implied rest more sends here_is all is = cc
at_first [] [] rest more sends here_is all is = cc
at_first [] (x ∷ implied) rest more sends here_is all is =
    let first : x ≡ Sends A (begin_from 1) = cc in
    absurd (subst (IsImplied (Sent A (begin_from 1))) first all.0)

-- In the second gap, after the delivery, the next Begin implies no expiry in the first half.
not_implied : (here implied rest more : List Event) (sends : Event) → map Some here ≡ Some (Receives B 0) ∷ []
    → AllByRecursion (IsImplied (Sent A (begin_from 3))) implied → sends ≡ Sends A (begin_from 3)
    → Receives B 0 ∷ Expires A (Own (1 ∷ [])) (pos 1) ∷ more ≡ here ++ implied ++ sends ∷ rest → ⊥
not_implied [] implied rest more sends here_is all sends_is is = cc
not_implied (x ∷ y ∷ here) implied rest more sends here_is all sends_is is = cc
not_implied (x ∷ []) [] rest more sends here_is all sends_is is = cc
not_implied (x ∷ []) (y ∷ implied) rest more sends here_is all sends_is is =
    let expires : y ≡ Expires A (Own (1 ∷ [])) (pos 1) = cc in
    let other_half = subst (IsImplied (Sent A (begin_from 3))) expires all.0 in
    let name_is = other_half.1 in cc

pub returns-clause-expiry_not_listed : goal.returns-clause-expiry_not_listed
returns-clause-expiry_not_listed c = ((_, refl, refl), by)
  where
    by : Follows refused.expiry_not_listed.certificate refused.expiry_not_listed.items refused.expiry_not_listed.events → ⊥
    by f =
        let (a1, b1, c1, d1, e1, f1, g1, h1, second) = f.gaps in
        let (a2, b2, c2, d2, e2, f2, g2, h2, last) = second in
        let more : List Event = Receives B 0 ∷ Expires A (Own (1 ∷ [])) (pos 1) ∷ Sends A (begin_from 3) ∷ Receives B 1 ∷ [] in
        let same : c1 ≡ more = at_first a1 b1 c1 more d1 e1 f1 h1 in
        let sends_is : d2 ≡ Sends A (begin_from 3) = cc in
        let joined : more ≡ a2 ++ b2 ++ d2 ∷ c2 = cc in
        not_implied a2 b2 c2 _ d2 e2 f2 sends_is joined
