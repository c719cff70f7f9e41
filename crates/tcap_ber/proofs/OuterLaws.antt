-- The result of framing the front of a message or an entry.
use Rattle.std.proofs.Common.{◌≡◌, ℕ, ◌+◌, ◌<◌, ◌≤◌, true, List, [], ◌∷◌, ◌++◌, length, Option, Some, None, Result, Ok, Err, refl, sym, ap, subst, ◌∙◌, inl, inr, arith}
use Rattle.std.proofs.lemmas.List.{length-append, append-nil, nil_from_length}
use Rattle.std.proofs.lemmas.Bool.{eqb-true, eq-eqb}
use Rattle.std.specs.List.{concat}
use Rattle.tcap_ber.specs.declared.fault.Fault.{Fault}
use Rattle.tcap_ber.specs.declared.fault.Reason.{Reason}
use Rattle.tcap_ber.specs.declared.progress.Progress.{Progress}
use Rattle.tcap_ber.specs.declared.element.Outer.{Outer}
use Rattle.tcap_ber.specs.declared.element.Outer.TheVariants.{Whole, Need}
use Rattle.tcap_ber.specs.Element.{IsElement, IsRaw}
use Rattle.tcap_ber.specs.WalkPlaces.{Level, walked, IsWalked, IsWalkFault, IsUnfinished, innermost, IsInnermost, BeginsElement, NeedsMore}
use Rattle.tcap_ber.specs.WalkResult.{at_first, goes, outer_at, stopped, last_opened, innermost_by, innermost_at}
use Rattle.tcap_ber.specs.Reading.{fault, is_whole, is_raw}
use Rattle.tcap_ber.proofs.Steps.{ok_not_err}
use Rattle.tcap_ber.proofs.WalkLaws.{stops_there, left, left_shorter, walk, stops, notes, goes_sound}
use Rattle.tcap_ber.proofs.ReachLaws.{reaches_walk, reaches_stops, reaches_fewer, reaches_stop, progress_of, reaches_levels, walk_of_element}
use Rattle.tcap_ber.proofs.WalkedStepLaws.{nothing_walked}
use Rattle.tcap_ber.proofs.WalkedOpenLaws.{steps, stands}
use Rattle.tcap_ber.proofs.WalkedStopLaws.{whole_there, wrong_there, refused_there, wrong_within}
use Rattle.tcap_ber.proofs.WalkedInnermostLaws.{noted_there, opened_innermost}
use Rattle.tcap_ber.proofs.ResumeLaws.{needed, needs_more}

-- the place at which the walk over the octets stops
pub record Stop (octets : List ℕ) : Type 0 where
  pub levels : List Level
  pub rest : List ℕ
  pub is_walked : IsWalked octets levels rest
  pub ends : goes (progress_of levels) rest ≡ None
  pub walks : walk at_first octets ≡ walk (progress_of levels) rest
  pub stops_is : stops at_first octets ≡ (progress_of levels, rest)

pub stop_of : (octets : List ℕ) → Stop octets
stop_of octets =
    let r = reaches_stop at_first octets in
    let q : Progress = (stops at_first octets).0 in
    let rest : List ℕ = (stops at_first octets).1 in
    let s = stands octets octets rest [] q (nothing_walked octets) r.0 in
    record {
      levels = s.levels;
      rest = rest;
      is_walked = s.is_walked;
      ends = ap (λ (p : Progress). goes p rest) (sym s.place_is) ∙ r.1;
      walks = reaches_walk at_first q octets rest r.0 ∙ ap (λ (p : Progress). walk p rest) s.place_is;
      stops_is = ap (λ (p : Progress). (p, rest)) s.place_is;
    }

pub outer_whole : (octets : List ℕ) (n : ℕ) → outer_at octets ≡ Ok (Whole n) → BeginsElement octets n
unfolding outer_at
outer_whole octets n e = let s = stop_of octets in whole_there octets s.rest s.levels n s.is_walked s.ends (sym s.walks ∙ e)

pub outer_of_element : (tag content element rest : List ℕ) → IsElement tag content element → outer_at (element ++ rest) ≡ Ok (Whole (length element))
unfolding outer_at
outer_of_element tag content element rest e = walk_of_element tag content element rest e

pub outer_fault : (octets : List ℕ) (f : Fault) → outer_at octets ≡ Err f → IsWalkFault octets f.reason f.place
unfolding outer_at
outer_fault octets f e =
    let s = stop_of octets in
    (s.levels, s.rest, s.is_walked, wrong_there octets s.rest s.levels f s.is_walked s.ends (sym s.walks ∙ e))

pub outer_refused : (octets : List ℕ) (reason : Reason) (place : ℕ) → IsWalkFault octets reason place → outer_at octets ≡ Err (fault reason place)
unfolding outer_at
outer_refused octets reason place (levels, rest, w, wrong) =
    reaches_walk at_first (progress_of levels) octets rest (reaches_levels octets rest levels w) ∙ refused_there octets rest levels reason place w wrong

-- a fault's place is among the octets
pub walk_fault_within : (octets : List ℕ) (reason : Reason) (place : ℕ) → IsWalkFault octets reason place → place < length octets
walk_fault_within octets reason place (levels, rest, w, wrong) = wrong_within octets rest levels reason place w wrong

pub whole_is : (n m : ℕ) → (let a : Outer = Whole n in a) ≡ Whole m → n ≡ m
whole_is n m e = cc

-- ---- how many octets are needed

need_not_whole : (n m : ℕ) → (let a : Result Outer Fault = Ok (Need n) in a) ≡ Ok (Whole m) → ⊥
need_not_whole n m e = cc

pub is_unfinished : (octets : List ℕ) (n : ℕ) → outer_at octets ≡ Ok (Need n) → IsUnfinished octets
is_unfinished octets n e = record {
  no_element = λ tag content element rest is_element joined.
      need_not_whole n (length element) (sym e ∙ ap outer_at joined ∙ outer_of_element tag content element rest is_element);
  no_fault = λ reason place wrong. ok_not_err (Need n) (fault reason place) (sym e ∙ outer_refused octets reason place wrong);
}

pub outer_needs : (octets : List ℕ) (n : ℕ) → outer_at octets ≡ Ok (Need n) → NeedsMore octets n
unfolding outer_at
outer_needs octets n e = record {
  above = above e;
  least = least e;
  unfinished = is_unfinished octets n e;
}
  where
    above : outer_at octets ≡ Ok (Need n) → length octets < n
    above e = omega (arith, needs_more at_first octets n e)

    longer : (tag content element more : List ℕ) → IsElement tag content element → element ≡ octets ++ more → length octets + 1 ≤ length element
    longer tag content element [] is_element joined =
        absurd ((is_unfinished octets n e).no_element tag content element [] is_element (sym (append-nil octets) ∙ sym joined ∙ sym (append-nil element)))
    longer tag content element (x ∷ more) is_element joined = omega (arith, ap length joined, length-append octets (x ∷ more))

    least : outer_at octets ≡ Ok (Need n) → (tag content element more : List ℕ) → IsElement tag content element → element ≡ octets ++ more → n ≤ length element
    least e tag content element more is_element joined =
        let whole = ap (λ (x : List ℕ). walk at_first x) (sym joined ∙ sym (append-nil element)) ∙ walk_of_element tag content element [] is_element in
        elim (needed at_first octets more n (length element) e whole) [
          | inl k ↦ k
          | inr k ↦ omega (arith, k, longer tag content element more is_element joined)
        ]

-- ---- the innermost incomplete element

depth_is : (levels : List Level) → (progress_of levels).depth ≡ length levels
depth_is [] = refl
depth_is (level ∷ outer) = refl

at_is : (levels : List Level) → (progress_of levels).at ≡ length (walked levels)
at_is [] = refl
at_is (level ∷ outer) = refl

place_at : (octets rest : List ℕ) (levels : List Level) → IsWalked octets levels rest → goes (progress_of levels) rest ≡ None → innermost_by octets (progress_of levels, rest) ≡ innermost levels rest
unfolding last_opened
place_at octets [] levels w stop =
    ap (λ (d : ℕ). notes d 0 at_first octets) (depth_is levels)
    ∙ noted_there octets octets [] [] levels 0 (nothing_walked octets) w (reaches_levels octets [] levels w) stop (λ _. refl)
    ∙ opened_innermost levels
place_at octets (x ∷ more) [] w stop = refl
place_at octets (x ∷ more) (level ∷ outer) w stop = refl

-- where the walk stops, the function's place is the definition's
pub place_there : (octets rest : List ℕ) (levels : List Level) → IsWalked octets levels rest → goes (progress_of levels) rest ≡ None → innermost_at octets ≡ innermost levels rest
unfolding innermost_at stopped
place_there octets rest levels w stop =
    let r = reaches_levels octets rest levels w in
    let there : stops at_first octets ≡ (progress_of levels, rest) = reaches_stops at_first (progress_of levels) octets rest r ∙ stops_there (progress_of levels) rest stop in
    ap (innermost_by octets) there ∙ place_at octets rest levels w stop

pub innermost_sound : (octets : List ℕ) → IsInnermost octets (innermost_at octets)
innermost_sound octets =
    let s = stop_of octets in
    record {
      levels = s.levels;
      rest = s.rest;
      is_walked = s.is_walked;
      furthest = λ others behind w. furthest s others behind w;
      place_is = place_there octets s.rest s.levels s.is_walked s.ends;
    }
  where
    furthest : (s : Stop octets) (others : List Level) (behind : List ℕ) → IsWalked octets others behind → length s.rest ≤ length behind
    furthest s others behind w =
        let q : Progress = progress_of others in
        let same = sym s.stops_is ∙ reaches_stops at_first q octets behind (reaches_levels octets behind others w) in
        let fewer = reaches_fewer q (stops q behind).0 behind (stops q behind).1 (reaches_stop q behind).0 in
        omega (arith, fewer, ap (λ (x : Progress × List ℕ). length x.1) same)

pub innermost_unique : (octets : List ℕ) (place : ℕ) → IsInnermost octets place → place ≡ innermost_at octets
innermost_unique octets place i = i.place_is ∙ sym (place_there octets i.rest i.levels i.is_walked (ends (goes (progress_of i.levels) i.rest) refl))
  where
    ends : (next : Option Progress) → goes (progress_of i.levels) i.rest ≡ next → goes (progress_of i.levels) i.rest ≡ None
    ends None e = e
    ends (Some next) e =
        let g = goes_sound (progress_of i.levels) next i.rest e in
        let t = steps octets i.rest i.levels next i.is_walked g in
        absurd (omega (arith, i.furthest t.others (left (progress_of i.levels) next i.rest) t.is_walked, left_shorter (progress_of i.levels) next i.rest g, g.some))

pub innermost_within : (octets : List ℕ) → innermost_at octets ≤ length octets
innermost_within octets =
    let s = stop_of octets in
    omega (arith, place_there octets s.rest s.levels s.is_walked s.ends, before s.levels s.rest, ap length s.is_walked.joined, length-append (walked s.levels) s.rest)
  where
    before : (levels : List Level) (rest : List ℕ) → innermost levels rest ≤ length (walked levels)
    before [] rest = omega arith
    before (level ∷ outer) [] = omega (arith, length-append (walked outer) (level.tag ++ 0x80 ∷ concat level.items))
    before (level ∷ outer) (x ∷ more) = omega arith

-- ---- exactly one element

is_whole_true : (len : ℕ) (r : Result Outer Fault) → is_whole len r ≡ true → r ≡ Ok (Whole len)
is_whole_true len (Ok (Whole n)) e = ap (λ (m : ℕ). Ok (Whole m)) (eqb-true n len e)
is_whole_true len (Ok (Need n)) e = absurd cc
is_whole_true len (Err f) e = absurd cc

pub is_raw_sound : (octets : List ℕ) → is_raw octets ≡ true → IsRaw octets
unfolding is_raw
is_raw_sound octets e =
    let b = outer_whole octets (length octets) (is_whole_true (length octets) (outer_at octets) e) in
    let nothing : b.rest ≡ [] = nil_from_length b.rest (omega (arith, b.len, ap length b.joined, length-append b.element b.rest)) in
    let all : octets ≡ b.element = b.joined ∙ ap (λ (x : List ℕ). b.element ++ x) nothing ∙ append-nil b.element in
    (b.tag, b.content, subst (IsElement b.tag b.content) (sym all) b.is_element)

pub is_raw_complete : (octets : List ℕ) → IsRaw octets → is_raw octets ≡ true
unfolding is_raw
is_raw_complete octets r =
    let whole : outer_at octets ≡ Ok (Whole (length octets)) = ap outer_at (sym (append-nil octets)) ∙ outer_of_element r.0 r.1 octets [] r.2 in
    rw whole (eq-eqb (length octets) (length octets) refl)
