-- Which faults were found in the components of a message so far?
use Rattle.std.specs.Prelude.{◌≡◌, ℕ, ℤ, Bool, false, Option, Some, None, ◌||◌, cond}
use Rattle.std.specs.Ordering.{int_cmp}
use Rattle.std.specs.BTreeSet.{BTreeSet, contains}
use Rattle.tcap_parts.specs.declared.component.Component.{Component}
use Rattle.tcap_parts.specs.declared.component.Component.TheVariants.{Invoke}
use Rattle.tcap_end.specs.Table.{Table}
use Rattle.tcap_refute.specs.declared.kind.Kind.{Kind}
use Rattle.tcap_refute.specs.declared.kind.Kind.TheVariants as kinds
use Rattle.tcap_refute.specs.EarlierMessages.{invokes}
use Rattle.tcap_faults.specs.Components.{is_linked}
use Rattle.tcap_faults.specs.declared.component.component_faults.ComponentFaults.{ComponentFaults}
use Rattle.tcap_faults.specs.KindsByCounts.{Counted, answers_again_by, invokes_busy_by, links_badly_by, rejects_wrongly_by}

-- The number of the component that gives the message this kind.
abbrev pub component_at : Kind → ComponentFaults → Option ℕ
component_at kinds.InvokeIdBusy found = found.busy
component_at kinds.BadLink found = found.badly_linked
component_at kinds.AnsweredAlready found = found.answered_already
component_at kinds.RejectNotAllowed found = found.wrongly_rejected
component_at kind found = None

-- The number that was found before; if none was, this number if the condition holds.
abbrev pub first_or : Option ℕ → Bool → ℕ → Option ℕ
first_or None so number = cond so (Some number) None
first_or (Some first) so number = Some first

-- Nothing was found.
pub record IsFaultless (found : ComponentFaults) : Type 0 where
  pub busy : found.busy ≡ None
  pub badly_linked : found.badly_linked ≡ None
  pub answered_already : found.answered_already ≡ None
  pub wrongly_rejected : found.wrongly_rejected ≡ None

-- `new` is `old` after one more component over a half.
pub record IsWith (table : Table) (by : Counted) (number : ℕ) (c : Component) (old new : ComponentFaults) : Type 0 where
  pub busy : new.busy ≡ first_or old.busy (invokes_busy_by by c) number
  pub badly_linked : new.badly_linked ≡ first_or old.badly_linked (links_badly_by table by c) number
  pub answered_already : new.answered_already ≡ first_or old.answered_already (answers_again_by by c) number
  pub wrongly_rejected : new.wrongly_rejected ≡ first_or old.wrongly_rejected (rejects_wrongly_by table by c) number

-- An Invoke with one of these IDs.
abbrev pub invokes_one_of : BTreeSet ℤ → Component → Bool
invokes_one_of ids (Invoke id linked code parameter) = contains int_cmp ids id
invokes_one_of ids _ = false

-- `new` is `old` after one more component of a message without destination ID. `behind` are the IDs `before` it with
-- its own, if it is an Invoke.
pub record IsFirstNoted (before behind : BTreeSet ℤ) (number : ℕ) (c : Component) (old new : ComponentFaults) : Type
    0 where
  pub ids : (id : ℤ) → contains int_cmp behind id ≡ contains int_cmp before id || invokes id c
  pub busy : new.busy ≡ first_or old.busy (invokes_one_of before c) number
  pub badly_linked : new.badly_linked ≡ first_or old.badly_linked (is_linked c) number
  pub answered_already : new.answered_already ≡ old.answered_already
  pub wrongly_rejected : new.wrongly_rejected ≡ old.wrongly_rejected
