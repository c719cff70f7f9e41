-- The lists show F10 (an invoke ID in use) and F11 (a linked ID without an invocation).
use Rattle.tcap_evidence_laws.proofs.Common.{◌≡◌, ◌≢◌, ◌⊎◌, inl, inr, ℕ, ℤ, ◌+◌, ◌≤◌, ◌<◌, arith, Bool, true, List, [], ◌∷◌, ◌++◌, length, map, Option, Some, None, refl, sym, ap, subst, ◌∙◌, filter, ◌==◌, list_any, and_from, eq-eqb, leb-true, ltb-true, not-true, or_left, or_right, Contains-append_right, Code, Component, Invoke, Reject, Message, components_in, dtid_in, Side, Entry, Table, Item, invokes, is_invoke_id, any_problem, count, has_class, invokes_where, is_error, is_last_result, rejects_invoke, rejects_result, HalfMessages, half_of, is_sort, Any, One, Three, Sort, count_invokes, any_is, count_takes_all, count_both, count_more, one, id_itself, incoming_passing, invokes_passing, invoke_id_of, Scene, shown, sent_to_dtid, with_sort, with_sort_in, HasKind, HasSort, component_with, items_before, count_shown, scene_at, other}
use Rattle.tcap_end.specs.Component.{links}
use Rattle.tcap_faults.specs.ComponentKinds.{invokes_busy, is_badly_linked, is_busy, links_badly, may_reject_answer, may_reject_invoke, rejects_generally}
use Rattle.tcap_faults.specs.Components.{invokes_again, is_linked}
use Rattle.tcap_faults.specs.Counts.{count_lasting, is_not_last, takes}
use Rattle.tcap_faults.proofs.list_laws.CountLaws.{count_apart}
use Rattle.tcap_evidence_laws.specs.ComponentEvidence.{HasMoreLasting, ShowsBadLink, ShowsBusy, count_incoming_ends, count_outgoing_rejects, taken_before}
use Rattle.tcap_evidence_laws.proofs.HasKindLaws.{either, further_so, half_so}
use Rattle.tcap_evidence_laws.proofs.ListedLaws.{itself_has}
use Rattle.tcap_evidence_laws.proofs.SoLaws.{IsCounted, IsOf, first_is, none_so, scene_of_it, shows_half, shows_so, two_counted, zero_more}
use Rattle.tcap_parts.specs.declared.problem.Problem.TheVariants as problems
use Rattle.tcap_refute.specs.declared.kind.Kind.TheVariants as kinds
use Rattle.tcap_faults.specs.declared.component.component_sort.Sort.TheVariants as sorts
use Rattle.tcap_evidence.specs.declared.shown_facts.ShownFact.TheVariants as facts

-- ---- Rejects

-- A Reject has only one problem.
module _ (id : ℤ) where
  no_invoke : (c : Component) → rejects_invoke id any_problem c ≡ true → rejects_generally id c ≡ true → ⊥
  no_invoke (Reject (Some other) (problems.General n)) is general = cc
  no_invoke c is general = cc

  no_answer : (c : Component) → rejects_result id any_problem c ≡ true → rejects_generally id c ≡ true → ⊥
  no_answer (Reject (Some other) (problems.General n)) is general = cc
  no_answer c is general = cc

-- Each Invoke is an Invoke of any class.
any_so : (table : Table) (id : ℤ) (c : Component) → invokes id c ≡ true → is_sort table id (sorts.Invokes Any) c ≡ true
any_so table id (Invoke other linked code parameter) is = and_from (is_invoke_id id other) true is refl
any_so table id c is = cc

-- ---- F10

-- A number occurs in a list as often as it was put there.
number_counted : (number : ℕ) (cs : List Component)
    → count (λ (n : ℕ). n == number) (map (λ (c : Component). number) cs) ≡ length cs
number_counted number [] = refl
number_counted number (c ∷ cs) =
    let here : one (number == number) ≡ 1 = ap one (eq-eqb number number refl) in
    omega (
      arith,
      here,
      count_more (λ (n : ℕ). n == number) number (map (λ (c : Component). number) cs),
      number_counted number cs,
    )

-- If two components of the message are of the sort, its entry is listed twice.
twice : (s : Scene) (id : ℤ) (sort : Sort) → s.id ≡ Some id → 2 ≤ count (is_sort s.table id sort) s.all
    → 2 ≤ count (λ (n : ℕ). n == s.number) (shown s (facts.Whole sort))
twice s id sort is two =
    let both = count_both (λ (n : ℕ). n == s.number) (with_sort s sort (sent_to_dtid s)) (with_sort_in s sort s.all) in
    let own : count (λ (n : ℕ). n == s.number) (with_sort_in s sort s.all) ≡ count (is_sort s.table id sort) s.all =
    rw is (number_counted s.number (filter (is_sort s.table id sort) s.all)) in omega (arith, both, own, two)

module _ (s : Scene) (h : HalfMessages) (cs : List Component) (id : ℤ) (counts : IsCounted s h cs id) where
  more_last : is_busy s.table h (h.outgoing ++ cs) id ≡ true → HasMoreLasting s
  more_last is =
      either _ _ is
      (λ more.
      let less : incoming_ends + count (may_reject_answer id) (h.outgoing ++ cs) < of_class 1 + of_class 3 = ltb-true _ _ more in
      let lasting_one : count_shown s (facts.Invoked (sorts.Lasting One)) ≡ of_class 1 = counts.invoked (sorts.Lasting One) in
      let lasting_three : count_shown s (facts.Invoked (sorts.Lasting Three)) ≡ of_class 3 =
      counts.invoked (sorts.Lasting Three) in inl (omega (arith, less, lasting_one, lasting_three, ends_are, outgoing_are)))
      (λ more.
      let less : incoming_ends + count (is_not_last id) h.incoming < count_lasting s.table id (λ code. true) h.invoked =
      ltb-true _ _ more in
      let lasting : count_shown s (facts.Invoked (sorts.Lasting Any)) ≡ count_lasting s.table id (λ code. true) h.invoked =
      counts.invoked (sorts.Lasting Any) in
      let not_lasts : count_shown s (facts.IncomingComponents sorts.NotLasts) ≡ count (is_not_last id) h.incoming = counts.incoming sorts.NotLasts in
      inr (omega (arith, less, lasting, not_lasts, ends_are)))
    where
      incoming_ends : ℕ
      incoming_ends =
          count (is_last_result id) h.incoming + count (is_error id) h.incoming + count (may_reject_invoke id) h.incoming

      of_class : ℕ → ℕ
      of_class class = count_lasting s.table id (has_class s.table class) h.invoked

      ends_are : count_incoming_ends s ≤ incoming_ends
      ends_are =
          let results : count_shown s (facts.IncomingComponents sorts.LastResults) ≡ count (is_last_result id) h.incoming =
          counts.incoming sorts.LastResults in
          let errors : count_shown s (facts.IncomingComponents sorts.Errors) ≡ count (is_error id) h.incoming = counts.incoming sorts.Errors in
          let rejects : count_shown s (facts.IncomingComponents sorts.InvokeRejects) ≡ count (rejects_invoke id any_problem) h.incoming =
          counts.incoming sorts.InvokeRejects in
          let generals : count_shown s (facts.IncomingComponents sorts.GeneralRejects) ≡ count (rejects_generally id) h.incoming =
          counts.incoming sorts.GeneralRejects in
          let either = count_apart (rejects_invoke id any_problem) (rejects_generally id) (may_reject_invoke id) h.incoming
          (λ c so. or_left (rejects_invoke id any_problem c) (rejects_generally id c) so)
          (λ c so. or_right (rejects_invoke id any_problem c) (rejects_generally id c) so) (no_invoke id) in
          omega (arith, results, errors, rejects, generals, either)

      outgoing_are : count_outgoing_rejects s ≤ count (may_reject_answer id) (h.outgoing ++ cs)
      outgoing_are =
          let rejects : count_shown s (facts.Whole sorts.ResultRejects) ≡ count (rejects_result id any_problem) (h.outgoing ++ cs) =
          counts.whole sorts.ResultRejects in
          let generals : count_shown s (facts.Whole sorts.GeneralRejects) ≡ count (rejects_generally id) (h.outgoing ++ cs) =
          counts.whole sorts.GeneralRejects in
          let either = count_apart (rejects_result id any_problem) (rejects_generally id) (may_reject_answer id) (h.outgoing ++ cs)
          (λ c so. or_left (rejects_result id any_problem c) (rejects_generally id c) so)
          (λ c so. or_right (rejects_result id any_problem c) (rejects_generally id c) so) (no_answer id) in
          omega (arith, rejects, generals, either)

  -- ---- F11

  invokes_incoming : count_shown s (facts.IncomingComponents (sorts.Invokes Any)) ≡ count (invokes id) h.incoming
  invokes_incoming = counts.incoming (sorts.Invokes Any) ∙ count_invokes s.table id h.incoming

  taken_most : count (takes id) (h.outgoing ++ s.earlier) ≤ taken_before s
  taken_most =
      let results : count_shown s (facts.Before sorts.LastResults) ≡ count (is_last_result id) (h.outgoing ++ s.earlier) =
      counts.before sorts.LastResults in
      let errors : count_shown s (facts.Before sorts.Errors) ≡ count (is_error id) (h.outgoing ++ s.earlier) =
      counts.before sorts.Errors in
      let rejects : count_shown s (facts.Before sorts.InvokeRejects) ≡ count (rejects_invoke id any_problem) (h.outgoing ++ s.earlier) =
      counts.before sorts.InvokeRejects in
      omega (arith, results, errors, rejects, count_takes_all id (h.outgoing ++ s.earlier))

  bad_link : (code : Code) → is_badly_linked s.table h (h.outgoing ++ s.earlier) id code ≡ true
      → (count_shown s (facts.IncomingComponents (sorts.Invokes Any)) ≤ taken_before s)
      ⊎ (incoming_passing s (invokes_passing (λ to. links s.table to code)) ≡ [])
  bad_link code is =
      either _ _ is
      (λ all_taken.
      let most : count (invokes id) h.incoming ≤ count (takes id) (h.outgoing ++ s.earlier) = leb-true _ _ all_taken in
      inl (omega (arith, most, invokes_incoming, taken_most)))
      (λ none. inr (none_so (incoming_passing s (invokes_passing (λ to. links s.table to code)))
      (invokes_where id (λ (to : Code). links s.table to code)) h.incoming
      (counts.incoming_passing (invokes_passing (λ to. links s.table to code)))
      (not-true (list_any (invokes_where id (λ to. links s.table to code)) h.incoming) none)))

-- ---- a message at fault

module _ (of_one : Bool) (table : Table) (side : Side) (entries : List Entry) (number : ℕ) (m : Message) where
  abbrev items : List Item
  items = items_before entries number

  abbrev busy : Scene
  busy = scene_at of_one table side entries number m kinds.InvokeIdBusy

  busy_it : (h : HalfMessages) (to : List ℕ) (k : ℕ) (c : Component)
      → IsOf busy kinds.InvokeIdBusy (components_in m) k c (component_with of_one table side entries number m kinds.InvokeIdBusy)
      → ((id : ℤ) → invoke_id_of kinds.InvokeIdBusy c ≡ Some id → IsCounted busy h (components_in m) id)
      → invokes_busy table h (h.outgoing ++ components_in m) busy.earlier (h.outgoing ++ busy.earlier) c ≡ true
      → ShowsBusy busy (Some to) (Some c)
  busy_it h to k (Invoke id linked code parameter) it counts is =
      either _ _ is (λ own. inl (twice busy id (sorts.Invokes Any) it.id (two own)))
      (λ used. inr (more_last busy h (components_in m) id (counts id refl) used))
    where
      two : list_any (invokes id) busy.earlier ≡ true → 2 ≤ count (is_sort table id (sorts.Invokes Any)) (components_in m)
      two own =
          let least =
          two_counted (invokes id) (components_in m) k (Invoke id linked code parameter) it.here (id_itself id)
          (ap (list_any (invokes id)) (sym it.earlier) ∙ own) in
          omega (arith, least, count_invokes table id (components_in m))
  busy_it h to k c it counts is = cc

  -- A message without a destination ID.
  again_it : (c : Component) → busy.id ≡ invoke_id_of kinds.InvokeIdBusy c
      → invokes_again busy.earlier busy.earlier c ≡ true → ShowsBusy busy None (Some c)
  again_it (Invoke id linked code parameter) of_it is =
      let (c, has, so) = any_is (invokes id) busy.earlier is in
      let sorted : HasSort busy (sorts.Invokes Any) busy.earlier =
      (id, c, of_it, has, any_so table id c so) in (
        number,
        Contains-append_right (with_sort busy (sorts.Invokes Any) (sent_to_dtid busy))
            (with_sort_in busy (sorts.Invokes Any) busy.earlier) number
            (itself_has busy (sorts.Invokes Any) busy.earlier sorted),
      )
  again_it c of_it is = cc

  busy_by : HasKind table side items m kinds.InvokeIdBusy → (o : Option (List ℕ)) → dtid_in m ≡ o
      → ShowsBusy busy o (component_with of_one table side entries number m kinds.InvokeIdBusy)
  busy_by has None goes =
      shows_so of_one table side entries number m kinds.InvokeIdBusy invokes_again [] (rw goes refl)
      (rw goes at ((further_so table side items m kinds.InvokeIdBusy refl has).1)) (ShowsBusy busy None)
      (λ k c it is. again_it c it.id is)
  busy_by has (Some to) goes =
      shows_half of_one table side entries number m kinds.InvokeIdBusy to goes
      (invokes_busy table (half_of side items to) ((half_of side items to).outgoing ++ components_in m)) (rw goes refl)
      (half_so table side items m to goes kinds.InvokeIdBusy refl has) (ShowsBusy busy (Some to))
      (busy_it (half_of side items to) to)

  pub busy_shows : HasKind table side items m kinds.InvokeIdBusy
      → ShowsBusy busy (dtid_in m) (component_with of_one table side entries number m kinds.InvokeIdBusy)
  busy_shows has = busy_by has (dtid_in m) refl

  -- ---- a message with F11

  abbrev linked_scene : Scene
  linked_scene = scene_at of_one table side entries number m kinds.BadLink

  link_it : (h : HalfMessages) (to : List ℕ) (c : Component)
      → ((id : ℤ) → invoke_id_of kinds.BadLink c ≡ Some id → IsCounted linked_scene h (components_in m) id)
      → links_badly table h linked_scene.earlier (h.outgoing ++ linked_scene.earlier) c ≡ true
      → ShowsBadLink linked_scene (Some to) (Some c)
  link_it h to (Invoke id (Some linked) code parameter) counts is =
      bad_link linked_scene h (components_in m) linked (counts linked refl) code is
  link_it h to c counts is = cc

  link_alone : (c : Component) → is_linked c ≡ true → ShowsBadLink linked_scene None (Some c)
  link_alone (Invoke id (Some linked) code parameter) is = tt
  link_alone c is = cc

  link_by : HasKind table side items m kinds.BadLink → (o : Option (List ℕ)) → dtid_in m ≡ o
      → ShowsBadLink linked_scene o (component_with of_one table side entries number m kinds.BadLink)
  link_by has None goes =
      let some : list_any is_linked (components_in m) ≡ true =
      rw goes at ((further_so table side items m kinds.BadLink refl has).1) in
      let (k, c, first, here, is) = first_is is_linked 0 (components_in m) some in
      let of_it = scene_of_it of_one table side entries number m kinds.BadLink k c (rw goes (zero_more first)) here in
      subst (ShowsBadLink linked_scene None) (sym of_it.it) (link_alone c is)
  link_by has (Some to) goes =
      shows_half of_one table side entries number m kinds.BadLink to goes (links_badly table (half_of side items to))
      (rw goes refl) (half_so table side items m to goes kinds.BadLink refl has) (ShowsBadLink linked_scene (Some to))
      (λ k c it counts is. link_it (half_of side items to) to c counts is)

  pub link_shows : HasKind table side items m kinds.BadLink
      → ShowsBadLink linked_scene (dtid_in m) (component_with of_one table side entries number m kinds.BadLink)
  link_shows has = link_by has (dtid_in m) refl
