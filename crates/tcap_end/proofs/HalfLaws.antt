-- A half stays sound after each step, and is sound when it begins, is answered, or closes.
use Rattle.std.proofs.Common.{◌≡◌, ◌≢◌, ℕ, ℤ, Bool, true, false, cond, List, [], Option, Some, None, refl, sym, subst, ◌∙◌}
use Rattle.std.specs.List.Sorted.{IsStrictlySortedBy}
use Rattle.std.specs.Map.{remove_entry}
use Rattle.std.specs.BTreeMap.{is_at}
use Rattle.std.specs.Ordering.{int_cmp}
use Rattle.tcap_parts.specs.declared.dialogue.Dialogue.{Dialogue}
use Rattle.tcap_end.specs.declared.half.Phase.{Phase}
use Rattle.tcap_end.specs.declared.half.Phase.TheVariants as phases
use Rattle.tcap_end.specs.declared.half.DialogueState.{DialogueState}
use Rattle.tcap_end.specs.declared.half.DialogueState.TheVariants as dialogue_states
use Rattle.tcap_end.specs.declared.own_invocations.OwnInvocation.{OwnInvocation}
use Rattle.tcap_end.specs.Half.{Answer, Half, Invocation, closed_half, fresh}
use Rattle.tcap_end.specs.Dialogue.{confirm, first_dialogue_state, is_request}
use Rattle.tcap_end.specs.Message.{active_half, is_active, is_received}
use Rattle.tcap_end.specs.declared.half.Slot.TheVariants.{Begun, Accepted}
use Rattle.tcap_end.specs.ReachableEnd.{FitsPhase, HasItems, IsHalf, Rises}
use Rattle.tcap_lists.proofs.MapLaws.{rises_removed}

-- ---- a step from one half to another

-- The list is sorted by invoke ID, and no ID has an empty list.
abbrev pub IsListed : {A : Type 0} → List (ℤ × List A) → Type 0
IsListed items = Rises int_cmp items × HasItems items

-- The step keeps the phase, the IDs, the dialogue state, and the order of the lists.
pub record Follows (h g : Half) : Type 0 where
  pub phase : g.phase ≡ h.phase
  pub own : g.own ≡ h.own
  pub peer : g.peer ≡ h.peer
  pub dialogue_state : g.dialogue_state ≡ h.dialogue_state
  pub out : Rises int_cmp h.out → Rises int_cmp g.out
  pub inn : IsListed h.inn → IsListed g.inn
  pub grants : IsListed h.grants → IsListed g.grants

-- a step that changes only the lists
follows_lists : (h : Half) (out : List (ℤ × OwnInvocation)) (inn : List (ℤ × List Invocation)) (grants : List (ℤ × List Answer))
    → (Rises int_cmp h.out → Rises int_cmp out) → (IsListed h.inn → IsListed inn) → (IsListed h.grants → IsListed grants)
    → Follows h (record h { out = out; inn = inn; grants = grants })
follows_lists h out inn grants of_out of_inn of_grants =
    record { phase = refl; own = refl; peer = refl; dialogue_state = refl; out = of_out; inn = of_inn; grants = of_grants }

pub follows_self : (h : Half) → Follows h h
follows_self h = follows_lists h h.out h.inn h.grants (λ is. is) (λ is. is) (λ is. is)

pub follows_out : (h : Half) (out : List (ℤ × OwnInvocation)) → (Rises int_cmp h.out → Rises int_cmp out)
    → Follows h (record h { out = out })
follows_out h out rises = follows_lists h out h.inn h.grants rises (λ is. is) (λ is. is)

pub follows_inn : (h : Half) (inn : List (ℤ × List Invocation)) → (IsListed h.inn → IsListed inn)
    → Follows h (record h { inn = inn })
follows_inn h inn is = follows_lists h h.out inn h.grants (λ rises. rises) is (λ is. is)

pub follows_grants : (h : Half) (grants : List (ℤ × List Answer)) → (IsListed h.grants → IsListed grants)
    → Follows h (record h { grants = grants })
follows_grants h grants is = follows_lists h h.out h.inn grants (λ rises. rises) (λ is. is) is

pub follows_then : (h g k : Half) → Follows h g → Follows g k → Follows h k
follows_then h g k first second = record {
  phase = second.phase ∙ first.phase;
  own = second.own ∙ first.own;
  peer = second.peer ∙ first.peer;
  dialogue_state = second.dialogue_state ∙ first.dialogue_state;
  out = λ is. second.out (first.out is);
  inn = λ is. second.inn (first.inn is);
  grants = λ is. second.grants (first.grants is);
}

-- ---- soundness of a half

-- A half without own invocations stays one, in Received and Closed.
abbrev pub StaysOut : Phase → Half → Half → Type 0
StaysOut phases.Received h g = h.out ≡ [] → g.out ≡ []
StaysOut phases.Closed h g = h.out ≡ [] → g.out ≡ []
StaysOut _ h g = Unit {0}

-- A half without received invocations and answers stays one, in Sent and Closed.
abbrev pub StaysInn : Phase → Half → Half → Type 0
StaysInn phases.Sent h g = (h.inn ≡ [] → g.inn ≡ []) × (h.grants ≡ [] → g.grants ≡ [])
StaysInn phases.Closed h g = (h.inn ≡ [] → g.inn ≡ []) × (h.grants ≡ [] → g.grants ≡ [])
StaysInn _ h g = Unit {0}

fits_follows : (p : Phase) (h g : Half) → Follows h g → StaysOut p h g → StaysInn p h g → FitsPhase p h → FitsPhase p g
fits_follows phases.Sent h g f out inn fits =
    (rw (f.own) (fits.0), f.peer ∙ fits.1, rw (f.dialogue_state) (fits.2), inn.0 fits.3, inn.1 fits.4)
fits_follows phases.Received h g f out inn fits = (f.own ∙ fits.0, rw (f.peer) (fits.1), rw (f.dialogue_state) (fits.2), out fits.3)
fits_follows phases.Active h g f out inn fits = (rw (f.own) (fits.0), rw (f.peer) (fits.1), rw (f.dialogue_state) (fits.2))
fits_follows phases.Closed h g f out inn fits = (f.dialogue_state ∙ fits.0, out fits.1, inn.0 fits.2, inn.1 fits.3)

-- A half is sound after a step that keeps its phase.
pub half_follows : (p : Phase) (h g : Half) → h.phase ≡ p → IsHalf h → Follows h g → StaysOut p h g → StaysInn p h g → IsHalf g
half_follows p h g is half f out inn =
    let fits = subst (λ (q : Phase). FitsPhase q h) is half.phase in
    record {
      phase = subst (λ (q : Phase). FitsPhase q g) (sym (f.phase ∙ is)) (fits_follows p h g f out inn fits);
      out = f.out half.out;
      inn = f.inn half.inn;
      grants = f.grants half.grants;
    }

-- ---- halves that begin, are answered, lose an invocation, close

asked_not_confirmed : (b : Bool) → cond b dialogue_states.Requested dialogue_states.Without ≢ dialogue_states.Confirmed
asked_not_confirmed true is = cc
asked_not_confirmed false is = cc

confirmed_not_asked : (dialogue_state : DialogueState) → confirm dialogue_state ≢ dialogue_states.Requested
confirmed_not_asked dialogue_states.Without is = cc
confirmed_not_asked dialogue_states.Requested is = cc
confirmed_not_asked dialogue_states.Confirmed is = cc

fresh_half : (phase : Phase) (own peer : Option (List ℕ)) (dialogue_state : DialogueState)
    → FitsPhase phase (fresh phase own peer dialogue_state) → IsHalf (fresh phase own peer dialogue_state)
unfolding IsStrictlySortedBy
fresh_half phase own peer dialogue_state fits = record { phase = fits; out = tt; inn = (tt, tt); grants = (tt, tt) }

pub half_sent : (own : List ℕ) (dialogue : Option Dialogue)
    → IsHalf (fresh phases.Sent (Some own) None (first_dialogue_state dialogue))
half_sent own dialogue = fresh_half _ _ _ _ (refl, refl, asked_not_confirmed (is_request dialogue), refl, refl)

pub half_received : (peer : List ℕ) (dialogue : Option Dialogue)
    → IsHalf (fresh phases.Received None (Some peer) (first_dialogue_state dialogue))
half_received peer dialogue = fresh_half _ _ _ _ (refl, refl, asked_not_confirmed (is_request dialogue), refl)

pub half_closed : (h : Half) → IsHalf (closed_half h)
half_closed h = fresh_half _ _ _ _ (refl, refl, refl, refl)

-- Its Begin is answered, by this end or by its peer.
pub half_answered : (own : List ℕ) (h : Half) → h.phase ≡ phases.Received → IsHalf h → IsHalf (active_half Accepted own h)
half_answered own h is half =
    let fits = rw is at half.phase in
    record { phase = (refl, fits.1, confirmed_not_asked h.dialogue_state); out = half.out; inn = half.inn; grants = half.grants }

pub half_learned : (peer : List ℕ) (h : Half) → h.phase ≡ phases.Sent → IsHalf h → IsHalf (active_half Begun peer h)
half_learned peer h is half =
    let fits = rw is at half.phase in
    record { phase = (fits.0, refl, confirmed_not_asked h.dialogue_state); out = half.out; inn = half.inn; grants = half.grants }

stays_out : (p : Phase) (h g : Half) → (h.out ≡ [] → g.out ≡ []) → StaysOut p h g
stays_out phases.Sent h g stays = tt
stays_out phases.Received h g stays = stays
stays_out phases.Active h g stays = tt
stays_out phases.Closed h g stays = stays

stays_inn : (p : Phase) (h g : Half) → (h.inn ≡ [] → g.inn ≡ []) → (h.grants ≡ [] → g.grants ≡ []) → StaysInn p h g
stays_inn phases.Sent h g inn grants = (inn, grants)
stays_inn phases.Received h g inn grants = tt
stays_inn phases.Active h g inn grants = tt
stays_inn phases.Closed h g inn grants = (inn, grants)

-- the half without an own invocation
pub half_without : (h : Half) (id : ℤ) → IsHalf h → IsHalf (record h { out = remove_entry (is_at (int_cmp id)) h.out })
half_without h id half = half_follows h.phase h left refl half
    (follows_out h left.out (rises_removed int_cmp (is_at (int_cmp id)) h.out))
    (stays_out h.phase h left (λ none. rw none refl)) (stays_inn h.phase h left (λ none. none) (λ none. none))
  where
    left : Half
    left = record h { out = remove_entry (is_at (int_cmp id)) h.out }

-- ---- phases

pub active_is : (p : Phase) → is_active p ≡ true → p ≡ phases.Active
active_is phases.Sent is = cc
active_is phases.Received is = cc
active_is phases.Active is = refl
active_is phases.Closed is = cc

pub received_is : (p : Phase) → is_received p ≡ true → p ≡ phases.Received
received_is phases.Sent is = cc
received_is phases.Received is = refl
received_is phases.Active is = cc
received_is phases.Closed is = cc
