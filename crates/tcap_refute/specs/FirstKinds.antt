-- Which of F2 to F7 does a message have, if its end alone is judged (Q.774 3.2, Q.773 4.2.2)? They are as in `Kind`,
-- but F5 leaves out a Reject of a spelling that a stack may call wrong.
use Rattle.std.specs.Prelude.{ℤ, ℕ, Bool, false, List, [], ◌∷◌, Option, Some, None, ◌==◌, ◌&&◌, ◌||◌, not}
use Rattle.std.specs.List.{list_any}
use Rattle.tcap_parts.specs.declared.component.Component.{Component}
use Rattle.tcap_parts.specs.declared.component.Component.TheVariants.{Invoke, ReturnResult, ReturnError, Reject}
use Rattle.tcap_parts.specs.declared.problem.Problem.TheVariants as problems
use Rattle.tcap_msg.specs.declared.message.Message.{Message}
use Rattle.tcap_msg.specs.Parts.{components_in, dtid_in}
use Rattle.tcap_record.specs.declared.entry.End.{End as Side}
use Rattle.tcap_end.specs.Table.{Table}
use Rattle.tcap_model.specs.World.{Item}
use Rattle.tcap_refute.specs.declared.kind.Kind.{Kind}
use Rattle.tcap_refute.specs.declared.kind.Kind.TheVariants as kinds
use Rattle.tcap_refute.specs.EarlierMessages.{peer_sent_from, components_of, is_invoke_id}
use Rattle.tcap_refute.specs.Kind.{answers_none_of, answers_nothing, is_of_kind}

-- An Invoke, a Return Result or a Return Error with this ID.
abbrev pub is_of_id : ℤ → Component → Bool
is_of_id id (Invoke other linked code parameter) = is_invoke_id id other
is_of_id id (ReturnResult last other body) = is_invoke_id id other
is_of_id id (ReturnError other code parameter) = is_invoke_id id other
is_of_id id (Reject other problem) = false

-- An answer or a Reject that is for none of these components. A Reject with mistypedComponent (1) or
-- badlyStructuredComponent (2) may be for an Invoke or an answer with its ID, because this profile accepts any
-- parameter.
abbrev pub answers_none : List Component → Component → Bool
answers_none components (Reject (Some id) (problems.General n)) =
    not ((n == 1 || n == 2) && list_any (is_of_id id) components)
answers_none components c = answers_none_of components c

-- F5, if one end alone is judged: a component is an answer or a Reject for nothing that the peer sent.
abbrev pub answers_nothing_for_end : Side → List Item → Message → Bool
answers_nothing_for_end side items m = by (dtid_in m)
  where
    by : Option (List ℕ) → Bool
    by None = answers_nothing side items m
    by (Some id) = list_any (answers_none (components_of (peer_sent_from side id items))) (components_in m)

-- Whether a message has this kind, of F2 to F7, if its end alone is judged.
abbrev pub is_of_first_kind : Table → Side → List Item → Message → Kind → Bool
is_of_first_kind table side items m kinds.AnswersNothing = answers_nothing_for_end side items m
is_of_first_kind table side items m kind = is_of_kind table side items m kind

-- F2 to F7, the lowest first.
abbrev pub first_kinds : List Kind
first_kinds = kinds.UnknownTransaction ∷ kinds.ReusedId ∷ kinds.AfterEnd ∷ kinds.AnswersNothing ∷ kinds.WrongOperation
    ∷ kinds.MisplacedDialogue ∷ []
