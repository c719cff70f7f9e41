-- What a step of one end does to its halves.
use Rattle.std.proofs.Common.{◌≡◌, ◌⊎◌, ℤ, ℕ, true, List, Option, Some, None}
use Rattle.std.specs.Prelude.{Contains}
use Rattle.std.specs.List.{AllByRecursion}
use Rattle.tcap_parts.specs.declared.component.Component.{Component}
use Rattle.tcap_parts.specs.declared.component.Component.TheVariants.{Invoke}
use Rattle.tcap_msg.specs.declared.message.Message.{Message}
use Rattle.tcap_msg.specs.Parts.{components_in, otid_in}
use Rattle.tcap_end.specs.declared.half.Phase.TheVariants as phases
use Rattle.tcap_end.specs.declared.half.DialogueState.TheVariants as dialogue_states
use Rattle.tcap_end.specs.Half.{Answer, Half, Invocation, fresh, listed}
use Rattle.tcap_end.specs.End.{End, KeyedHalf}
use Rattle.tcap_end.specs.ReachableEnd.{HasHalf}
use Rattle.tcap_model.specs.SinceMark.{IsAnswer, is_begin_with_request}

-- a half before its first step
abbrev pub blank : Half
blank = fresh phases.Sent None None dialogue_states.Without

-- The received message, if any, has this originating ID.
abbrev pub IsFrom : Option Message → Option (List ℕ) → Type 0
IsFrom None peer = ⊥
IsFrom (Some m) peer = otid_in m ≡ peer

-- The received message is a Begin with a dialogue request.
abbrev pub IsAsked : Option Message → Type 0
IsAsked None = ⊥
IsAsked (Some m) = is_begin_with_request m ≡ true

-- The received message has this component.
abbrev pub HasCome : Option Message → Component → Type 0
HasCome None component = ⊥
HasCome (Some m) component = Contains (components_in m) component

-- How a step turns half h, old or blank, into g, with the message that it receives, if any.
pub record Turns (came : Option Message) (h g : Half) : Type 1 where
  pub own : (id : List ℕ) → h.own ≡ Some id → g.own ≡ Some id
  pub peer : (id : List ℕ) → h.peer ≡ Some id → g.peer ≡ Some id
  pub learned : (id : List ℕ) → g.peer ≡ Some id → (h.peer ≡ Some id) ⊎ IsFrom came g.peer
  pub asked : g.phase ≡ phases.Received → g.dialogue_state ≡ dialogue_states.Requested
      → ((h.phase ≡ phases.Received) × (h.dialogue_state ≡ dialogue_states.Requested)) ⊎ (IsAsked came × IsFrom came g.peer)
  pub closed : h.phase ≡ phases.Closed → g.phase ≡ phases.Closed
  pub inn : (id : ℤ) (P : Invocation → Type 0) → AllByRecursion P (listed id h.inn)
      → ((item : Invocation) (linked : Option ℤ) (parameter : Option (List ℕ)) → HasCome came (Invoke id linked item.code parameter)
      → IsFrom came g.peer → P item)
      → AllByRecursion P (listed id g.inn)
  pub grants : (id : ℤ) (P : Answer → Type 0) → AllByRecursion P (listed id h.grants)
      → ((answer : Answer) (component : Component) → IsAnswer answer id component → HasCome came component → IsFrom came g.peer → P answer)
      → AllByRecursion P (listed id g.grants)

-- Each half after a step comes from an old or a blank half, and each old half is still kept as the step leaves it.
pub record Moves (came : Option Message) (e next : End) : Type 1 where
  pub back : (g : KeyedHalf) → HasHalf next g → (h : Half) × (HasHalf e (record g { half = h }) ⊎ (h ≡ blank)) × Turns came h g.half
  pub forth : (f : KeyedHalf) → HasHalf e f → (g : Half) × HasHalf next (record f { half = g }) × Turns came f.half g
