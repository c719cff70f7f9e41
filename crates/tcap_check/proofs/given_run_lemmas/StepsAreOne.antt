-- The events and the discards of a run determine its list of steps.
use Rattle.std.proofs.Common.{◌≡◌, ◌⊎◌, inl, inr, ℕ, Bool, true, false, List, [], ◌∷◌, ◌++◌, Option, Some, None, refl, sym, ap, ap₂, subst, ◌∙◌, append_assoc, arith}
use Rattle.std.specs.Prelude.{Contains, filter_map}
use Rattle.std.specs.List.Sorted.{IsStrictlySortedBy}
use Rattle.std.specs.Ordering.{nat_cmp}
use Rattle.tcap_record.specs.declared.entry.End.{End as Side}
use Rattle.tcap_end.specs.declared.fault.EndFault.{EndFault}
use Rattle.tcap_end.specs.Table.{Table}
use Rattle.tcap_model.specs.World.{Sent, World, channel_from, is_side}
use Rattle.tcap_model.specs.Run.{Event, Sends, Receives, Replies, Loses, Expires, Closes, Quiet, Tells, Runs, numbers_of, numbers_taken}
use Rattle.tcap_model.proofs.ChannelLaws.{in_order}
use Rattle.tcap_model.proofs.ListLaws.{contains_first}
use Rattle.tcap_model.proofs.RunLaws.{same_side, some_is}
use Rattle.tcap_check.specs.declared.step.Step.{Step}
use Rattle.tcap_check.specs.declared.step.Step.TheVariants as steps
use Rattle.tcap_check.specs.ReportedSteps.{discard_of, discards_of, event_of, events_of}
use Rattle.tcap_check.proofs.replay_laws.DiscardReasons.{none_in}
use Rattle.tcap_model.proofs.WorldLaws.{itself}
use Rattle.tcap_check.proofs.refusal_laws.TakenNumberLaws.{taken_sent}
use Rattle.tcap_check.proofs.replay_laws.ReplaySteps.{IsIn, in_left}
use Rattle.tcap_check.proofs.given_run_lemmas.NumberLaws.{parts_apart, taken_left, taken_right, taken_both}

-- ---- each message is lost once

-- A message that is lost is not taken afterwards.
abbrev LostOnce : List Event → Type 0
LostOnce events = (before behind : List Event) (a b : Side) (n : ℕ) → events ≡ before ++ Loses a n ∷ behind
    → IsIn n (numbers_taken b behind) → ⊥

takes_it : (side : Side) (n : ℕ) (more : List Event) → IsIn n (numbers_taken side (Loses side n ∷ more))
takes_it side n more = rw (itself side) (inl refl)

lost_once : (table : Table) (events : List Event) (w : World) → Runs table events w → LostOnce events
lost_once table events w runs before behind a b n are there = by (is_side a b) refl
  where
    front : List Event
    front = before ++ Loses a n ∷ []

    whole : events ≡ front ++ behind
    whole = are ∙ sym (append_assoc before (Loses a n ∷ []) behind)

    first : IsIn n (numbers_taken a front)
    first = taken_right a n before (Loses a n ∷ []) (takes_it a n [])

    by : (same : Bool) → is_side a b ≡ same → ⊥
    by true so =
        let one : b ≡ a = sym (same_side a b so) in
        let later : IsIn n (numbers_taken a behind) = subst (λ (x : Side). IsIn n (numbers_taken x behind)) one there in
        let channel = numbers_of (channel_from a w) in
        let taken : numbers_taken a events ++ channel ≡ numbers_taken a front ++ (numbers_taken a behind ++ channel) =
        ap (λ (x : List Event). numbers_taken a x ++ channel) whole ∙ ap (λ (x : List ℕ). x ++ channel) (taken_both a front behind)
        ∙ append_assoc (numbers_taken a front) (numbers_taken a behind) channel in
        parts_apart n (numbers_taken a front) (numbers_taken a behind ++ channel)
        (subst (IsStrictlySortedBy nat_cmp) taken (in_order table events w runs a)) first
        (in_left n (numbers_taken a behind) channel later)
    by false so =
        let of_a = taken_sent table events w a n runs
        (subst (λ (x : List Event). IsIn n (numbers_taken a x)) (sym whole) (taken_left a n front behind first)) in
        let of_b = taken_sent table events w b n runs
        (subst (λ (x : List Event). IsIn n (numbers_taken b x)) (sym whole) (taken_right b n front behind there)) in
        let both : Some (Sent a of_a.0) ≡ Some (Sent b of_b.0) = sym of_a.1 ∙ of_b.1 in
        let one : a ≡ b = cc in
        let yes : is_side a b ≡ true = ap (is_side a) (sym one) ∙ itself a in
        cc

-- ---- steps

-- the step of an event, other than a discard
abbrev step_by : Event → Step
step_by (Sends side m) = steps.Sends side m
step_by (Tells side m) = steps.Tells side m
step_by (Receives side n) = steps.Receives side n
step_by (Replies side n) = steps.Replies side n
step_by (Loses side n) = steps.Loses side n
step_by (Expires side name id) = steps.Expires side name id
step_by (Closes side name) = steps.Closes side name
step_by Quiet = steps.Quiet

plain_is : (s : Step) → discard_of s ≡ None → s ≡ step_by (event_of s)
plain_is (steps.Sends side m) none = refl
plain_is (steps.Tells side m) none = refl
plain_is (steps.Receives side n) none = refl
plain_is (steps.Replies side n) none = refl
plain_is (steps.Loses side n) none = refl
plain_is (steps.Discards side n reason) none = cc
plain_is (steps.Expires side name id) none = refl
plain_is (steps.Closes side name) none = refl
plain_is steps.Quiet none = refl

discard_is : (s : Step) (d : ℕ × EndFault) → discard_of s ≡ Some d → (side : Side) × (s ≡ steps.Discards side d.0 d.1)
discard_is (steps.Sends side m) d some = cc
discard_is (steps.Tells side m) d some = cc
discard_is (steps.Receives side n) d some = cc
discard_is (steps.Replies side n) d some = cc
discard_is (steps.Loses side n) d some = cc
discard_is (steps.Discards side n reason) d some = (side, ap (λ (x : ℕ × EndFault). steps.Discards side x.0 x.1) (some_is some))
discard_is (steps.Expires side name id) d some = cc
discard_is (steps.Closes side name) d some = cc
discard_is steps.Quiet d some = cc

lost_is : (s : Step) (d : ℕ × EndFault) → discard_of s ≡ Some d → (side : Side) × (event_of s ≡ Loses side d.0)
lost_is s d some = let is = discard_is s d some in (is.0, ap event_of is.1)

discards_first : (s : Step) (ss : List Step) (o : Option (ℕ × EndFault)) → discard_of s ≡ o
    → discards_of (s ∷ ss) ≡ filter_map (λ x. x) (o ∷ []) ++ discards_of ss
discards_first s ss None is = rw is refl
discards_first s ss (Some d) is = rw is refl

discard_taken : (ss : List Step) (d : ℕ × EndFault) → Contains (discards_of ss) d → (b : Side) × IsIn d.0 (numbers_taken b (events_of ss))
discard_taken [] d there = absurd (none_in d there)
discard_taken (s ∷ ss) d there =
    by (discard_of s) refl (discard_taken ss d) (subst (λ (x : List (ℕ × EndFault)). Contains x d) (discards_first s ss (discard_of s) refl) there)
  where
    later : (b : Side) × IsIn d.0 (numbers_taken b (events_of ss)) → (b : Side) × IsIn d.0 (numbers_taken b (events_of (s ∷ ss)))
    later (b, is) = (b, taken_right b d.0 (event_of s ∷ []) (events_of ss) is)

    here : (e : ℕ × EndFault) → discard_of s ≡ Some e → e ≡ d → (b : Side) × IsIn d.0 (numbers_taken b (events_of (s ∷ ss)))
    here e some same =
        let is = lost_is s e some in
        let number : e.0 ≡ d.0 = ap (λ (x : ℕ × EndFault). x.0) same in (
          is.0,
          subst (λ (x : Event). IsIn d.0 (numbers_taken is.0 (x ∷ events_of ss))) (sym (is.1 ∙ ap (Loses is.0) number))
              (takes_it is.0 d.0 (events_of ss)),
        )

    by : (o : Option (ℕ × EndFault)) → discard_of s ≡ o
        → (Contains (discards_of ss) d → (b : Side) × IsIn d.0 (numbers_taken b (events_of ss)))
        → Contains (filter_map (λ x. x) (o ∷ []) ++ discards_of ss) d → (b : Side) × IsIn d.0 (numbers_taken b (events_of (s ∷ ss)))
    by None is rest at = later (rest at)
    by (Some e) is rest at = of (contains_first e (discards_of ss) d at)
      where
        of : (e ≡ d) ⊎ Contains (discards_of ss) d → (b : Side) × IsIn d.0 (numbers_taken b (events_of (s ∷ ss)))
        of (inl same) = here e is same
        of (inr more) = later (rest more)

-- A step that is a discard, and one with the same event that is none, lead to different discards.
apart_there : (s : Step) (ss os : List Step) (d : ℕ × EndFault) → LostOnce (events_of (s ∷ ss)) → discard_of s ≡ Some d
    → events_of ss ≡ events_of os → d ∷ discards_of ss ≡ discards_of os → ⊥
apart_there s ss os d once some events discards =
    let is = lost_is s d some in
    let taken = discard_taken os d (subst (λ (x : List (ℕ × EndFault)). Contains x d) discards (first_in d (discards_of ss))) in
    once [] (events_of ss) is.0 taken.0 d.0 (ap (λ (x : Event). x ∷ events_of ss) is.1)
    (subst (λ (x : List Event). IsIn d.0 (numbers_taken taken.0 x)) (sym events) taken.1)
  where
    first_in : {A : Type 0} (x : A) (xs : List A) → Contains (x ∷ xs) x
    first_in x xs = (0, omega arith, refl)

steps_same : (ss os : List Step) → LostOnce (events_of ss) → events_of ss ≡ events_of os → discards_of ss ≡ discards_of os → ss ≡ os
steps_same [] [] once events discards = refl
steps_same [] (o ∷ os) once events discards = cc
steps_same (s ∷ ss) [] once events discards = cc
steps_same (s ∷ ss) (o ∷ os) once events discards =
    by (discard_of s) (discard_of o) refl refl
    (steps_same ss os (λ before behind a b n are. once (event_of s ∷ before) behind a b n (ap (λ (x : List Event). event_of s ∷ x) are)))
    (sym (discards_first s ss (discard_of s) refl) ∙ discards ∙ discards_first o os (discard_of o) refl)
  where
    ev : event_of s ≡ event_of o
    ev = cc

    next : events_of ss ≡ events_of os
    next = cc

    joined : s ≡ o → ss ≡ os → s ∷ ss ≡ o ∷ os
    joined first rest = ap₂ (λ (x : Step) (xs : List Step). x ∷ xs) first rest

    both : (d f : ℕ × EndFault) → discard_of s ≡ Some d → discard_of o ≡ Some f → d ≡ f → s ≡ o
    both d f is_s is_o same =
        let a = discard_is s d is_s in
        let b = discard_is o f is_o in
        let one : Loses a.0 d.0 ≡ Loses b.0 f.0 = sym (ap event_of a.1) ∙ ev ∙ ap event_of b.1 in
        let side : a.0 ≡ b.0 = cc in
        a.1 ∙ ap₂ (λ (x : Side) (y : ℕ × EndFault). steps.Discards x y.0 y.1) side same ∙ sym b.1

    by : (x y : Option (ℕ × EndFault)) → discard_of s ≡ x → discard_of o ≡ y
        → (events_of ss ≡ events_of os → discards_of ss ≡ discards_of os → ss ≡ os)
        → filter_map (λ z. z) (x ∷ []) ++ discards_of ss ≡ filter_map (λ z. z) (y ∷ []) ++ discards_of os → s ∷ ss ≡ o ∷ os
    by None None is_s is_o rest e = joined (plain_is s is_s ∙ ap step_by ev ∙ sym (plain_is o is_o)) (rest next e)
    by (Some d) (Some f) is_s is_o rest e =
        let one : d ≡ f = cc in
        let more : discards_of ss ≡ discards_of os = cc in
        joined (both d f is_s is_o one) (rest next more)
    by (Some d) None is_s is_o rest e = absurd (apart_there s ss os d once is_s next e)
    by None (Some f) is_s is_o rest e =
        absurd (apart_there o os ss f (subst LostOnce events once) is_o (sym next) (sym e))

-- The events and the discards of a run determine its list of steps.
pub one_list : (table : Table) (ss os : List Step) (w : World) → Runs table (events_of ss) w → events_of ss ≡ events_of os
    → discards_of ss ≡ discards_of os → ss ≡ os
one_list table ss os w runs = steps_same ss os (lost_once table (events_of ss) w runs)
