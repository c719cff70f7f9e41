-- The lists show F6: a wrong operation.
use Rattle.tcap_evidence_laws.proofs.Common.{◌≡◌, ◌⊎◌, inl, inr, ℕ, ℤ, Bool, true, false, not, ◌&&◌, ◌||◌, List, [], length, Option, Some, None, option_map, refl, sym, ap, subst, ◌∙◌, list_any, and_from, and_parts, not-true, or_left, or_right, false_from_ne_true, eqb-true, Code, ResultBody, Component, Invoke, ReturnResult, ReturnError, Message, Unidirectional, Begin, Continue, EndMessage, Abort, components_in, dtid_in, otid_in, Side, Entry, is_code, Table, none_is, Item, peer_sent_from, components_of, is_invoke_id, any_has, count, has_class, subject, is_sort, One, Two, Three, any_is, entries_passing, invokes_passing, Scene, peer_from_dtid, shown, HasKind, ListsNone, component_with, items_before, scene_at, other, invoke_id_of, Class}
use Rattle.tcap_end.specs.Class.{of_class, reports, reports_neither}
use Rattle.tcap_end.specs.Component.{class_reports}
use Rattle.tcap_end.specs.Table.{class_of, operation_of}
use Rattle.tcap_refute.specs.FirstComponent.{is_wrong_in}
use Rattle.tcap_refute.specs.Kind.{is_not_of_class_4, is_unknown_operation, is_wrong_operation, may_be_answered, no_class_allows}
use Rattle.tcap_faults.specs.Counts.{is_class}
use Rattle.tcap_faults.specs.InvokeCounts.{is_of_class}
use Rattle.tcap_evidence_laws.specs.ComponentEvidence.{NoneAllowsResult, ShowsWrongOperation}
use Rattle.tcap_evidence_laws.proofs.AskedShows.{AreThere}
use Rattle.tcap_evidence_laws.proofs.CountedLaws.{components_counted, scene_to}
use Rattle.tcap_evidence_laws.proofs.HasKindLaws.{either, kind_so}
use Rattle.tcap_evidence_laws.proofs.SceneLists.{IsTo, there_are}
use Rattle.tcap_evidence_laws.proofs.SoLaws.{first_is, first_wins, none_so, scene_of_it, so_counted}
use Rattle.tcap_refute.specs.declared.kind.Kind.TheVariants as kinds
use Rattle.tcap_faults.specs.declared.component.component_sort.Sort.TheVariants as sorts
use Rattle.tcap_evidence.specs.declared.shown_facts.ShownFact.TheVariants as facts

-- ---- lists of components

-- If one test implies another and an item passes the first, an item passes the second.
any_weaker : (p q : Component → Bool) (cs : List Component) → ((c : Component) → p c ≡ true → q c ≡ true)
    → list_any p cs ≡ true → list_any q cs ≡ true
any_weaker p q cs weaker some =
    let (c, has, so) = any_is p cs some in any_has q cs c has (weaker c so)

none_stronger : (p q : Component → Bool) (cs : List Component) → ((c : Component) → q c ≡ true → p c ≡ true)
    → list_any p cs ≡ false → list_any q cs ≡ false
none_stronger p q cs stronger none =
    false_from_ne_true (list_any q cs) (λ some. let bad : true ≡ false = sym (any_weaker q p cs stronger some) ∙ none in cc)

any_either : (p q : Component → Bool) (cs : List Component) → (list_any p cs || list_any q cs) ≡ true
    → list_any (λ c. p c || q c) cs ≡ true
any_either p q cs is =
    either (list_any p cs) (list_any q cs) is
    (any_weaker p (λ (c : Component). p c || q c) cs (λ c so. or_left (p c) (q c) so))
    (any_weaker q (λ (c : Component). p c || q c) cs (λ c so. or_right (p c) (q c) so))

-- The class reports this kind of answer.
class_so : (of_result : Bool) (n : ℕ) → reports of_result n ≡ true → (o : Option ℕ) → is_class n o ≡ true
    → of_class (reports of_result) o ≡ true
class_so of_result n so None is = cc
class_so of_result n so (Some class) is = ap (reports of_result) (eqb-true class n is) ∙ so

module _ (table : Table) (id : ℤ) where
  -- An Invoke of the class allows this answer.
  class_allows : (of_result : Bool) (class : Class) (n : ℕ) → reports of_result n ≡ true
      → ((code : Code) → is_of_class table class code ≡ has_class table n code) → (c : Component)
      → is_sort table id (sorts.Invokes class) c ≡ true → may_be_answered table of_result id None c ≡ true
  class_allows of_result class n so same (Invoke other linked code parameter) is =
      let (one, fits) = and_parts (is_invoke_id id other) (is_of_class table class code) is in
      and_from (is_invoke_id id other && class_reports table of_result code) true
      (and_from (is_invoke_id id other) (class_reports table of_result code) one
      (class_so of_result n so (class_of table code) (sym (same code) ∙ fits))) refl
  class_allows of_result class n so same c is = cc

  -- An Invoke of a class that reports success, and of the operation in the answer, allows it.
  operation_allows : (named : Code) (c : Component)
      → invokes_passing (λ code. class_reports table true code && is_code named code) id c ≡ true
      → may_be_answered table true id (Some named) c ≡ true
  operation_allows named (Invoke other linked code parameter) is =
      let (one, fits) = and_parts (is_invoke_id id other) (class_reports table true code && is_code named code) is in
      let (class, operation) = and_parts (class_reports table true code) (is_code named code) fits in
      and_from (is_invoke_id id other && class_reports table true code) (is_code named code)
      (and_from (is_invoke_id id other) (class_reports table true code) one class) operation
  operation_allows named c is = cc

module _ (s : Scene) (there_is : List Component) where
  abbrev CountsThere : Component → Type 0
  CountsThere c =
      (id : ℤ) → invoke_id_of kinds.WrongOperation c ≡ Some id
      → AreThere s id there_is
      × ((passes : ℤ → Component → Bool) → length (entries_passing s passes (peer_from_dtid s)) ≡ count (passes id) there_is)

  none_of_class : (id : ℤ) (of_result : Bool) (class : Class) (n : ℕ) → AreThere s id there_is → reports of_result n ≡ true
      → ((code : Code) → is_of_class s.table class code ≡ has_class s.table n code)
      → list_any (may_be_answered s.table of_result id None) there_is ≡ false
      → ListsNone s (facts.PeerComponents (sorts.Invokes class))
  none_of_class id of_result class n counts so same none =
      none_so (shown s (facts.PeerComponents (sorts.Invokes class))) (is_sort s.table id (sorts.Invokes class)) there_is
      (counts (sorts.Invokes class))
      (none_stronger (may_be_answered s.table of_result id None) (is_sort s.table id (sorts.Invokes class)) there_is
      (class_allows s.table id of_result class n so same) none)

  none_allows : (last : Bool) (id : ℤ) (body : Option ResultBody) → CountsThere (ReturnResult last id body)
      → not (list_any (may_be_answered s.table true id (option_map (λ (b : ResultBody). b.code) body)) there_is) ≡ true
      → NoneAllowsResult s body
  none_allows last id None counts is =
      let none = not-true (list_any (may_be_answered s.table true id None) there_is) is in (
        none_of_class id true One 1 (counts id refl).0 refl (λ code. refl) none,
        none_of_class id true Three 3 (counts id refl).0 refl (λ code. refl) none,
      )
  none_allows last id (Some body) counts is =
      let passes : ℤ → Component → Bool =
      invokes_passing (λ code. class_reports s.table true code && is_code body.code code) in
      none_so (entries_passing s passes (peer_from_dtid s)) (passes id) there_is ((counts id refl).1 passes)
      (none_stronger (may_be_answered s.table true id (Some body.code)) (passes id) there_is
      (operation_allows s.table id body.code)
      (not-true (list_any (may_be_answered s.table true id (Some body.code)) there_is) is))

  unknown_is : (c : Component) → is_unknown_operation s.table c ≡ true → ShowsWrongOperation s (Some c)
  unknown_is (Invoke id linked code parameter) is = inl (none_is (operation_of s.table code) is)
  unknown_is c is = cc

  forbidden_is : (c : Component) → CountsThere c → no_class_allows s.table there_is c ≡ true → ShowsWrongOperation s (Some c)
  forbidden_is (ReturnResult last id body) counts is = none_allows last id body counts is
  forbidden_is (ReturnError id code parameter) counts is =
      let none = not-true (list_any (may_be_answered s.table false id None) there_is) is in (
        none_of_class id false One 1 (counts id refl).0 refl (λ code. refl) none,
        none_of_class id false Two 2 (counts id refl).0 refl (λ code. refl) none,
      )
  forbidden_is c counts is = cc

not_4_is : (s : Scene) → s.to ≡ None → s.from ≡ None → (c : Component) → is_not_of_class_4 s.table c ≡ true
    → ShowsWrongOperation s (Some c)
not_4_is s to from (Invoke id linked code parameter) is =
    inr (to, from, not-true (of_class reports_neither (class_of s.table code)) is)
not_4_is s to from c is = cc

-- A message with F6 has a component with F6.
wrong_of : (table : Table) (side : Side) (items : List Item) (m : Message) → is_wrong_operation table side items m ≡ true
    → list_any (is_wrong_in table side items m) (components_in m) ≡ true
wrong_of table side items (Unidirectional dialogue components) is = is
wrong_of table side items (Begin otid dialogue components) is =
    either (list_any (is_unknown_operation table) (components_in (Begin otid dialogue components))) false is
    (any_weaker (is_unknown_operation table) (is_wrong_in table side items (Begin otid dialogue components))
    (components_in (Begin otid dialogue components)) (λ c so. or_left (is_unknown_operation table c) false so))
    (λ none. cc)
wrong_of table side items (Continue otid dtid dialogue components) is =
    any_either (is_unknown_operation table) (no_class_allows table (components_of (peer_sent_from side dtid items)))
    (components_in (Continue otid dtid dialogue components)) is
wrong_of table side items (EndMessage dtid dialogue components) is =
    any_either (is_unknown_operation table) (no_class_allows table (components_of (peer_sent_from side dtid items)))
    (components_in (EndMessage dtid dialogue components)) is
wrong_of table side items (Abort dtid reason) is =
    any_either (is_unknown_operation table) (no_class_allows table (components_of (peer_sent_from side dtid items)))
    (components_in (Abort dtid reason)) is

module _ (of_one : Bool) (table : Table) (side : Side) (entries : List Entry) (number : ℕ) (m : Message) where
  abbrev before : List Item
  before = items_before entries number

  abbrev scene : Scene
  scene = scene_at of_one table side entries number m kinds.WrongOperation

  wrong_to : (dtid : List ℕ) → dtid_in m ≡ Some dtid → (c : Component) → scene.id ≡ invoke_id_of kinds.WrongOperation c
      → (is_unknown_operation table c || no_class_allows table (components_of (peer_sent_from side dtid before)) c) ≡ true
      → ShowsWrongOperation scene (Some c)
  wrong_to dtid to c id is =
      either (is_unknown_operation table c) (no_class_allows table (components_of (peer_sent_from side dtid before)) c) is
      (unknown_is scene (components_of (peer_sent_from side dtid before)) c)
      (forbidden_is scene (components_of (peer_sent_from side dtid before)) c counts)
    where
      of : IsTo side before dtid scene
      of =
          scene_to table side entries number m kinds.WrongOperation (subject of_one table side before m kinds.WrongOperation) dtid
          to

      counts : CountsThere scene (components_of (peer_sent_from side dtid before)) c
      counts i of_it = (
        λ sort. (components_counted of_one table side entries number m kinds.WrongOperation dtid i sort to (id ∙ of_it)).there,
        λ passes.
            so_counted scene i (id ∙ of_it) passes (peer_from_dtid scene)
            ∙ ap (λ (ms : List Message). count (passes i) (components_of ms)) (there_are side before dtid scene of),
      )

  wrong_in : (x : Message) → x ≡ m → (c : Component) → scene.id ≡ invoke_id_of kinds.WrongOperation c
      → is_wrong_in table side before x c ≡ true → ShowsWrongOperation scene (Some c)
  wrong_in (Unidirectional dialogue components) same c id is =
      not_4_is scene (ap dtid_in (sym same)) (ap otid_in (sym same)) c is
  wrong_in (Begin otid dialogue components) same c id is =
      either (is_unknown_operation table c) false is (unknown_is scene [] c) (λ none. cc)
  wrong_in (Continue otid dtid dialogue components) same c id is = wrong_to dtid (ap dtid_in (sym same)) c id is
  wrong_in (EndMessage dtid dialogue components) same c id is = wrong_to dtid (ap dtid_in (sym same)) c id is
  wrong_in (Abort dtid reason) same c id is = wrong_to dtid (ap dtid_in (sym same)) c id is

  pub operation_shows : HasKind table side before m kinds.WrongOperation
      → ShowsWrongOperation scene (component_with of_one table side entries number m kinds.WrongOperation)
  operation_shows has =
      let some = wrong_of table side before m (kind_so table side before m kinds.WrongOperation refl has) in
      let (k, c, first, here, is) = first_is (is_wrong_in table side before m) 0 (components_in m) some in
      let of_it = scene_of_it of_one table side entries number m kinds.WrongOperation k c (first_wins _ _ k first) here in
      subst (ShowsWrongOperation scene) (sym of_it.it) (wrong_in m refl c of_it.id is)
