-- The facts about an ID are those of its messages, and they decide the tests of components as the messages do.
use Rattle.std.proofs.Common.{◌≡◌, ℕ, ℤ, Bool, true, false, cond, not, ◌==◌, ◌&&◌, ◌||◌, List, [], ◌∷◌, filter, Some, is_some, refl, sym, ap, ap₂, ◌∙◌, arith}
use Rattle.std.proofs.Math.Path.{fun_ext}
use Rattle.std.specs.List.{flat_map, list_any}
use Rattle.std.proofs.lemmas.List.Folds.{list_any-append}
use Rattle.tcap_parts.specs.declared.component.Component.{Component}
use Rattle.tcap_parts.specs.declared.component.Component.TheVariants.{Invoke, ReturnResult, ReturnError, Reject}
use Rattle.tcap_parts.specs.declared.problem.Problem.TheVariants as problems
use Rattle.tcap_msg.specs.declared.message.Message.{Message}
use Rattle.tcap_msg.specs.declared.message.Message.TheVariants.{Unidirectional, Begin, Continue, End as EndMessage, Abort}
use Rattle.tcap_msg.specs.Parts.{components_in, dtid_in, kind_in, otid_in}
use Rattle.tcap_record.specs.declared.entry.End.{End as Side}
use Rattle.tcap_end.specs.End.{is_id}
use Rattle.tcap_end.specs.Table.{Table}
use Rattle.tcap_record.specs.Ends.{other}
use Rattle.tcap_model.specs.World.{Item}
use Rattle.tcap_refute.specs.declared.kind.Kind.{Kind}
use Rattle.tcap_refute.specs.declared.kind.Kind.TheVariants as kinds
use Rattle.tcap_refute.specs.EarlierMessages.{answers, peer_sent_from, components_of, invokes, is_invoke_id, sent_by, since_quiet}
use Rattle.tcap_refute.specs.Kind.{answers_none_of, answers_nothing, is_unknown_operation, is_wrong_operation, no_class_allows}
use Rattle.tcap_refute.specs.FirstKinds.{answers_none as answers_none_there, answers_nothing_for_end, is_of_id}
use Rattle.tcap_refute.specs.FirstComponent.{answers_nothing_in, first_component, first_where, is_wrong_in}
use Rattle.tcap_refute.specs.Facts.{IdFact, Invoked, Answered, Succeeds, Fails, FromFact, OfId, shows, shows_from, fact_since_mark}
use Rattle.tcap_refute.specs.KindsByFacts.{answer_test, answers_none, component_by, has_come, is_not_allowed, is_wrong, operation_test, passes, fact_from}
use Rattle.tcap_refute.proofs.TestLaws.{or_none, some_first}

-- ---- tests of lists

pub same_any : {A : Type 0} (p q : A → Bool) (xs : List A) → ((x : A) → p x ≡ q x) → list_any p xs ≡ list_any q xs
same_any p q xs same = ap (λ t. list_any t xs) (fun_ext same)

any_filtered : {A : Type 0} (p q : A → Bool) (xs : List A) → list_any (λ x. q x && p x) xs ≡ list_any p (filter q xs)
any_filtered p q [] = refl
any_filtered p q (x ∷ xs) = grind (arith, any_filtered p q xs)

any_flat : {A B : Type 0} (f : A → List B) (p : B → Bool) (xs : List A)
    → list_any (λ x. list_any p (f x)) xs ≡ list_any p (flat_map f xs)
any_flat f p [] = refl
any_flat f p (x ∷ xs) =
    ap (λ r. list_any p (f x) || r) (any_flat f p xs) ∙ sym (list_any-append p (f x) (flat_map f xs))

or_swap : (a b c d : Bool) → ((a || b) || (c || d)) ≡ ((a || c) || (b || d))
or_swap a b c d = grind arith

any_or : {A : Type 0} (p q : A → Bool) (xs : List A) → (list_any p xs || list_any q xs) ≡ list_any (λ x. p x || q x) xs
any_or p q [] = refl
any_or p q (x ∷ xs) =
    or_swap (p x) (list_any p xs) (q x) (list_any q xs) ∙ ap (λ r. (p x || q x) || r) (any_or p q xs)

-- ---- the facts about an ID

-- The messages from an ID.
abbrev pub from_id : List ℕ → List Message → List Message
from_id id messages = filter (λ m. is_id id (otid_in m)) messages

abbrev pub told_of : Table → List Message → FromFact → Bool
told_of table messages fact = list_any (shows_from table fact) messages

pub told_is : (table : Table) (items : List Item) (side : Side) (id : List ℕ)
    → fact_from (fact_since_mark table items side) (Some id)
    ≡ told_of table (from_id id (sent_by side (since_quiet items)))
told_is table items side id =
    fun_ext λ fact. any_filtered (shows_from table fact) (λ m. is_id id (otid_in m)) (sent_by side (since_quiet items))

-- ---- components

module _ (table : Table) (messages : List Message) where
  told_id : (id : ℤ) (fact : IdFact)
      → told_of table messages (OfId id fact) ≡ list_any (shows table id fact) (components_of messages)
  told_id id fact = any_flat components_in (shows table id fact) messages

  has_id : (id : ℤ) (c : Component) → ((invokes id c || answers true id c) || answers false id c) ≡ is_of_id id c
  has_id id (Invoke other linked code parameter) =
      sym (or_none (is_invoke_id id other || false)) ∙ sym (or_none (is_invoke_id id other))
  has_id id (ReturnResult last other body) = sym (or_none (is_invoke_id id other))
  has_id id c = refl

  come : (id : ℤ) → has_come (told_of table messages) id ≡ list_any (is_of_id id) (components_of messages)
  come id =
      ap₂ (λ a b. a || b) (ap₂ (λ a b. a || b) (told_id id Invoked) (told_id id (Answered true)))
      (told_id id (Answered false))
      ∙ ap (λ b. b || list_any (answers false id) (components_of messages))
      (any_or (invokes id) (answers true id) (components_of messages))
      ∙ any_or (λ c. invokes id c || answers true id c) (answers false id) (components_of messages)
      ∙ same_any _ _ (components_of messages) (has_id id)

  answers_of : (c : Component)
      → answers_none false (told_of table messages) c ≡ answers_none_of (components_of messages) c
  answers_of (ReturnResult last id body) = ap not (told_id id Invoked)
  answers_of (ReturnError id code parameter) = ap not (told_id id Invoked)
  answers_of (Reject (Some id) (problems.Invoke n)) = ap not (told_id id Invoked)
  answers_of (Reject (Some id) (problems.ReturnResult n)) = ap not (told_id id (Answered true))
  answers_of (Reject (Some id) (problems.ReturnError n)) = ap not (told_id id (Answered false))
  answers_of c = refl

  answers_asked : (of_one : Bool) (c : Component)
      → answers_none of_one (told_of table messages) c
      ≡ cond of_one (answers_none_there (components_of messages) c) (answers_none_of (components_of messages) c)
  answers_asked false c = answers_of c
  answers_asked true (ReturnResult last id body) = answers_of (ReturnResult last id body)
  answers_asked true (ReturnError id code parameter) = answers_of (ReturnError id code parameter)
  answers_asked true (Reject (Some id) (problems.General n)) = ap (λ b. not ((n == 1 || n == 2) && b)) (come id)
  answers_asked true (Reject (Some id) (problems.Invoke n)) = answers_of (Reject (Some id) (problems.Invoke n))
  answers_asked true (Reject (Some id) (problems.ReturnResult n)) =
      answers_of (Reject (Some id) (problems.ReturnResult n))
  answers_asked true (Reject (Some id) (problems.ReturnError n)) = answers_of (Reject (Some id) (problems.ReturnError n))
  answers_asked true c = refl

  allowed : (c : Component)
      → is_not_allowed (told_of table messages) c ≡ no_class_allows table (components_of messages) c
  allowed (ReturnResult last id body) = ap not (told_id id (Succeeds _))
  allowed (ReturnError id code parameter) = ap not (told_id id Fails)
  allowed c = refl

  -- Whether a component has a wrong operation.
  wrong_asked : (c : Component)
      → is_wrong table (told_of table messages) c
      ≡ (is_unknown_operation table c || no_class_allows table (components_of messages) c)
  wrong_asked (Invoke id linked code parameter) = or_none _
  wrong_asked (ReturnResult last id body) = allowed (ReturnResult last id body)
  wrong_asked (ReturnError id code parameter) = allowed (ReturnError id code parameter)
  wrong_asked (Reject id problem) = refl

-- ---- the components of a message

module _ (table : Table) (items : List Item) (side : Side) where
  -- The facts about the destination ID.
  abbrev pub there : Message → FromFact → Bool
  there m = fact_from (fact_since_mark table items (other side)) (dtid_in m)

  answers_to : (of_one : Bool) (dtid : List ℕ) (c : Component)
      → answers_none of_one (fact_from (fact_since_mark table items (other side)) (Some dtid)) c
      ≡ cond of_one (answers_none_there (components_of (peer_sent_from side dtid (since_quiet items))) c)
      (answers_none_of (components_of (peer_sent_from side dtid (since_quiet items))) c)
  answers_to of_one dtid c =
      ap (λ told. answers_none of_one told c) (told_is table items (other side) dtid)
      ∙ answers_asked table (peer_sent_from side dtid (since_quiet items)) of_one c

  wrong_to : (dtid : List ℕ) (c : Component)
      → is_wrong table (fact_from (fact_since_mark table items (other side)) (Some dtid)) c
      ≡ (is_unknown_operation table c
      || no_class_allows table (components_of (peer_sent_from side dtid (since_quiet items))) c)
  wrong_to dtid c =
      ap (λ told. is_wrong table told c) (told_is table items (other side) dtid)
      ∙ wrong_asked table (peer_sent_from side dtid (since_quiet items)) c

  answering_is : (of_one : Bool) (m : Message) (c : Component)
      → passes table (there m) (answer_test of_one (kind_in m)) c ≡ answers_nothing_in of_one side (since_quiet items) m c
  answering_is of_one (Continue otid dtid dialogue components) c = answers_to of_one dtid c
  answering_is of_one (EndMessage dtid dialogue components) c = answers_to of_one dtid c
  answering_is of_one (Abort dtid reason) c = answers_to of_one dtid c
  answering_is of_one m c = refl

  wrong_is : (m : Message) (c : Component)
      → passes table (there m) (operation_test (kind_in m)) c ≡ is_wrong_in table side (since_quiet items) m c
  wrong_is (Unidirectional dialogue components) c = refl
  wrong_is (Begin otid dialogue components) c = or_none _
  wrong_is (Continue otid dtid dialogue components) c = wrong_to dtid c
  wrong_is (EndMessage dtid dialogue components) c = wrong_to dtid c
  wrong_is (Abort dtid reason) c = wrong_to dtid c

  -- The component that gives a message its kind is that of the definitions.
  pub component_told : (of_one : Bool) (m : Message) (kind : Kind)
      → component_by of_one table (there m) m kind ≡ first_component of_one table side (since_quiet items) m kind
  component_told of_one m kinds.AnswersNothing =
      ap (λ test. first_where test 0 (components_in m)) (fun_ext (answering_is of_one m))
  component_told of_one m kinds.WrongOperation =
      ap (λ test. first_where test 0 (components_in m)) (fun_ext (wrong_is m))
  component_told of_one m kind = refl

-- ---- a message has F5 or F6 exactly if one of its components has it

-- F5, for one end or for both.
abbrev pub nothing_of : Bool → Side → List Item → Message → Bool
nothing_of true = answers_nothing_for_end
nothing_of false = answers_nothing

one_answers : (of_one : Bool) (side : Side) (items : List Item) (m : Message)
    → list_any (answers_nothing_in of_one side items m) (components_in m) ≡ nothing_of of_one side items m
one_answers of_one side items m = grind arith

one_wrong : (table : Table) (side : Side) (items : List Item) (m : Message)
    → list_any (is_wrong_in table side items m) (components_in m) ≡ is_wrong_operation table side items m
one_wrong table side items (Begin otid dialogue components) =
    sym (same_any _ _ (components_in (Begin otid dialogue components)) (λ c. or_none (is_unknown_operation table c)))
    ∙ or_none _
one_wrong table side items (Continue otid dtid dialogue components) =
    sym (any_or (is_unknown_operation table) _ (components_in (Continue otid dtid dialogue components)))
one_wrong table side items (EndMessage dtid dialogue components) =
    sym (any_or (is_unknown_operation table) _ (components_in (EndMessage dtid dialogue components)))
one_wrong table side items m = refl

module _ (table : Table) (items : List Item) (side : Side) (m : Message) where
  pub answering : (of_one : Bool)
      → is_some (component_by of_one table (there table items side m) m kinds.AnswersNothing)
      ≡ nothing_of of_one side (since_quiet items) m
  answering of_one =
      ap is_some (component_told table items side of_one m kinds.AnswersNothing)
      ∙ some_first (answers_nothing_in of_one side (since_quiet items) m) 0 (components_in m)
      ∙ one_answers of_one side (since_quiet items) m

  pub wrong : (of_one : Bool)
      → is_some (component_by of_one table (there table items side m) m kinds.WrongOperation)
      ≡ is_wrong_operation table side (since_quiet items) m
  wrong of_one =
      ap is_some (component_told table items side of_one m kinds.WrongOperation)
      ∙ some_first (is_wrong_in table side (since_quiet items) m) 0 (components_in m)
      ∙ one_wrong table side (since_quiet items) m
