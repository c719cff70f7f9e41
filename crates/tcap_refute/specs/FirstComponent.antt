-- Which component of a message is the first with F5 or F6 (Q.774 3.2, Q.771 3.1)?
use Rattle.std.specs.Prelude.{ℕ, ◌+◌, Bool, false, List, [], ◌∷◌, Option, Some, None, ◌||◌, cond}
use Rattle.tcap_parts.specs.declared.component.Component.{Component}
use Rattle.tcap_msg.specs.declared.message.Message.{Message}
use Rattle.tcap_msg.specs.declared.message.Message.TheVariants.{Unidirectional, Begin}
use Rattle.tcap_msg.specs.Parts.{components_in, dtid_in}
use Rattle.tcap_record.specs.declared.entry.End.{End as Side}
use Rattle.tcap_end.specs.Table.{Table}
use Rattle.tcap_model.specs.World.{Item}
use Rattle.tcap_refute.specs.declared.kind.Kind.{Kind}
use Rattle.tcap_refute.specs.declared.kind.Kind.TheVariants as kinds
use Rattle.tcap_refute.specs.EarlierMessages.{peer_sent_from, components_of, is_answer, is_reject}
use Rattle.tcap_refute.specs.FirstKinds.{answers_none}
use Rattle.tcap_refute.specs.Kind.{answers_none_of, is_not_of_class_4, is_unknown_operation, no_class_allows}

-- The number of the first element that passes, counted from `number`.
abbrev pub first_where : {A : Type 0} → (A → Bool) → ℕ → List A → Option ℕ
first_where passes number [] = None
first_where passes number (a ∷ more) = cond (passes a) (Some number) (first_where passes (number + 1) more)

-- Whether a component has F5: it is an answer or a Reject for nothing that the peer sent. `of_one` is whether one end
-- alone is judged.
abbrev pub answers_nothing_in : Bool → Side → List Item → Message → Component → Bool
answers_nothing_in of_one side items (Unidirectional dialogue components) c = is_answer c
answers_nothing_in of_one side items (Begin otid dialogue components) c = is_answer c || is_reject c
answers_nothing_in of_one side items m c = by (dtid_in m)
  where
    by : Option (List ℕ) → Bool
    by None = false
    by (Some id) = cond of_one (answers_none (components_of (peer_sent_from side id items)) c)
        (answers_none_of (components_of (peer_sent_from side id items)) c)

-- Whether a component has F6: its operation is wrong.
abbrev pub is_wrong_in : Table → Side → List Item → Message → Component → Bool
is_wrong_in table side items (Unidirectional dialogue components) c = is_not_of_class_4 table c
is_wrong_in table side items m c = is_unknown_operation table c || by (dtid_in m)
  where
    by : Option (List ℕ) → Bool
    by None = false
    by (Some id) = no_class_allows table (components_of (peer_sent_from side id items)) c

-- The number of the first component that has F5 or F6, after these items since the last quiet mark.
abbrev pub first_component : Bool → Table → Side → List Item → Message → Kind → Option ℕ
first_component of_one table side items m kinds.AnswersNothing =
    first_where (answers_nothing_in of_one side items m) 0 (components_in m)
first_component of_one table side items m kinds.WrongOperation =
    first_where (is_wrong_in table side items m) 0 (components_in m)
first_component of_one table side items m kind = None
