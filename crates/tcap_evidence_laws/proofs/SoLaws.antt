-- The component of a message that has a kind: its number, and its scene.
use Rattle.tcap_evidence_laws.proofs.Common.{◌≡◌, ◌≢◌, ℕ, ℤ, zero, suc, ◌+◌, ◌≤◌, arith, Bool, true, false, cond, not, ◌||◌, List, [], ◌∷◌, ◌++◌, length, take, Option, Some, None, append_assoc, append-nil, refl, sym, ap, subst, ◌∙◌, ◌&&◌, Contains, filter, slice_get, list_any, and_parts, not-true, length-append, length-map, Component, Message, components_in, dtid_in, Side, Entry, Table, Item, Kind, components_of, option_or, any_has, has_first, has_later, AreCounted, component_with, items_before, count_shown, scene_at, has_component, count, subject, is_wrong_half, HalfMessages, half_of, is_sort, Nowhere, Sort, count_both, count_more, one, earlier_passing, entries_passing, incoming_passing, invoked_components, component_at, invoke_id_of, Numbered, Scene, incoming_by, sent_to_dtid}
use Rattle.tcap_refute.specs.FirstComponent.{first_where}
use Rattle.tcap_evidence_laws.proofs.SceneLists.{IsOver, IsTo, incoming_are, invoked_are, outgoing_are, outgoing_of}
use Rattle.tcap_faults.specs.FaultSubject.{component_of, first_component_where}
use Rattle.tcap_faults.proofs.list_laws.CountLaws.{any_counts}
use Rattle.tcap_evidence_laws.specs.ComponentEvidence.{itself_passing}
use Rattle.tcap_evidence.specs.Evidence.{components_before, invoke_id_in}
use Rattle.tcap_evidence_laws.proofs.CountedLaws.{components_counted, scene_over, scene_to}
use Rattle.tcap_evidence_laws.proofs.ListsLaws.{empty_is}
use Rattle.tcap_evidence_laws.proofs.NumberedLists.{with_counted}
use Rattle.tcap_evidence_laws.proofs.SentBefore.{messages}
use Rattle.tcap_evidence.specs.declared.shown_facts.ShownFact.TheVariants as facts

-- ---- the component

-- The first item that passes.
pub first_is : {A : Type 0} (p : A → Bool) (number : ℕ) (xs : List A) → list_any p xs ≡ true
    → (k : ℕ) × (x : A) × (first_where p number xs ≡ Some (number + k)) × (slice_get xs k ≡ Some x) × (p x ≡ true)
first_is p number [] some = cc
first_is {A} p number (x ∷ xs) some = by (p x) refl some (first_is p (number + 1) xs)
  where
    by : (b : Bool) → p x ≡ b → (b || list_any p xs) ≡ true
        → (list_any p xs ≡ true → (k : ℕ) × (y : A) × (first_where p (number + 1) xs ≡ Some (number + 1 + k))
        × (slice_get xs k ≡ Some y) × (p y ≡ true))
        → (k : ℕ) × (y : A) × (cond b (Some number) (first_where p (number + 1) xs) ≡ Some (number + k))
        × (slice_get (x ∷ xs) k ≡ Some y) × (p y ≡ true)
    by true so some rest = (0, x, ap (λ (n : ℕ). Some n) (omega arith), refl, so)
    by false so some rest =
        let (k, y, is, here, passes) = rest some in
        (suc k, y, is ∙ ap (λ (n : ℕ). Some n) (omega arith), here, passes)

-- The first component with the property, given the messages and components before it.
pub component_is : (is_so : List Component → List Component → Component → Bool) (number : ℕ) (own before cs : List Component)
    → has_component is_so own before cs ≡ true
    → (k : ℕ) × (c : Component) × (first_component_where is_so number own before cs ≡ Some (number + k))
    × (slice_get cs k ≡ Some c) × (is_so (own ++ take k cs) (before ++ take k cs) c ≡ true)
component_is is_so number own before [] some = cc
component_is is_so number own before (c ∷ cs) some =
    by (is_so own before c) refl some (component_is is_so (number + 1) (own ++ c ∷ []) (before ++ c ∷ []) cs)
  where
    by : (b : Bool) → is_so own before c ≡ b → (b || has_component is_so (own ++ c ∷ []) (before ++ c ∷ []) cs) ≡ true
        → (has_component is_so (own ++ c ∷ []) (before ++ c ∷ []) cs ≡ true
        → (k : ℕ) × (d : Component)
        × (first_component_where is_so (number + 1) (own ++ c ∷ []) (before ++ c ∷ []) cs ≡ Some (number + 1 + k))
        × (slice_get cs k ≡ Some d)
        × (is_so ((own ++ c ∷ []) ++ take k cs) ((before ++ c ∷ []) ++ take k cs) d ≡ true))
        → (k : ℕ) × (d : Component)
        × (cond b (Some number) (first_component_where is_so (number + 1) (own ++ c ∷ []) (before ++ c ∷ []) cs) ≡ Some (number + k))
        × (slice_get (c ∷ cs) k ≡ Some d)
        × (is_so (own ++ take k (c ∷ cs)) (before ++ take k (c ∷ cs)) d ≡ true)
    by true so some rest = (
      0,
      c,
      ap (λ (n : ℕ). Some n) (omega arith),
      refl,
      ap (λ (xs : List Component). is_so xs (before ++ []) c) (append-nil own)
          ∙ ap (λ (xs : List Component). is_so own xs c) (append-nil before) ∙ so,
    )
    by false so some rest =
        let (k, d, is, here, passes) = rest some in (
          suc k,
          d,
          is ∙ ap (λ (n : ℕ). Some n) (omega arith),
          here,
          ap (λ (xs : List Component). is_so xs (before ++ c ∷ take k cs) d) (sym (append_assoc own (c ∷ []) (take k cs)))
              ∙ ap (λ (xs : List Component). is_so ((own ++ c ∷ []) ++ take k cs) xs d) (sym (append_assoc before (c ∷ []) (take k cs)))
              ∙ passes,
        )

-- ---- its scene

-- The scene is that of the component at index `k`.
pub record IsOf (s : Scene) (kind : Kind) (cs : List Component) (k : ℕ) (c : Component) (o : Option Component) : Type 0 where
  pub here : slice_get cs k ≡ Some c
  pub it : o ≡ Some c
  pub earlier : s.earlier ≡ take k cs
  pub id : s.id ≡ invoke_id_of kind c

about_component : (of_one : Bool) (table : Table) (side : Side) (items : List Item) (m : Message) (kind : Kind)
    → (subject of_one table side items m kind).component ≡ component_of of_one table side items m kind
about_component of_one table side items m kind = by (dtid_in m) refl
  where
    by : (o : Option (List ℕ)) → dtid_in m ≡ o
        → (subject of_one table side items m kind).component ≡ component_of of_one table side items m kind
    by None to = rw to (rw to refl)
    by (Some id) to = rw to (rw to refl)

pub zero_more : {o : Option ℕ} {k : ℕ} → o ≡ Some (0 + k) → o ≡ Some k
zero_more is = is ∙ ap (λ (n : ℕ). Some n) (omega arith)

-- If the first search finds a component, the result is that one.
pub first_wins : (a b : Option ℕ) (k : ℕ) → a ≡ Some (0 + k) → option_or a b ≡ Some k
first_wins a b k is = ap (λ (o : Option ℕ). option_or o b) is ∙ ap (λ (n : ℕ). Some n) (omega arith)

pub scene_of_it : (of_one : Bool) (table : Table) (side : Side) (entries : List Entry) (number : ℕ) (m : Message)
    (kind : Kind) (k : ℕ) (c : Component)
    → component_of of_one table side (items_before entries number) m kind ≡ Some k
    → slice_get (components_in m) k ≡ Some c
    → IsOf (scene_at of_one table side entries number m kind) kind (components_in m) k c
    (component_with of_one table side entries number m kind)
scene_of_it of_one table side entries number m kind k c is here = record { here = here; it = it; earlier = earlier; id = id }
  where
    place : (subject of_one table side (items_before entries number) m kind).component ≡ Some k
    place = about_component of_one table side (items_before entries number) m kind ∙ is

    it : component_with of_one table side entries number m kind ≡ Some c
    it = ap (λ (o : Option ℕ). component_at o (components_in m)) place ∙ here

    earlier : (scene_at of_one table side entries number m kind).earlier ≡ take k (components_in m)
    earlier = ap (λ (o : Option ℕ). components_before o (components_in m)) place

    id : (scene_at of_one table side entries number m kind).id ≡ invoke_id_of kind c
    id = ap (invoke_id_in kind) it

-- A half that may send exists.
pub speaks_half : (side : Side) (items : List Item) (m : Message) (h : HalfMessages) → not (is_wrong_half side items m h) ≡ true
    → h.origin ≢ Nowhere
speaks_half side items m h right nowhere =
    let fits : is_wrong_half side items m h ≡ false = not-true (is_wrong_half side items m h) right in
    let bad : true ≡ false = rw nowhere at fits in cc

-- ---- the number of entries

-- The lists of an invoke ID have as many entries as the half's components are counted.
pub record IsCounted (s : Scene) (h : HalfMessages) (cs : List Component) (id : ℤ) : Type 0 where
  pub incoming : (sort : Sort) → count_shown s (facts.IncomingComponents sort) ≡ count (is_sort s.table id sort) h.incoming
  pub before : (sort : Sort) → count_shown s (facts.Before sort) ≡ count (is_sort s.table id sort) (h.outgoing ++ s.earlier)
  pub whole : (sort : Sort) → count_shown s (facts.Whole sort) ≡ count (is_sort s.table id sort) (h.outgoing ++ cs)
  pub invoked : (sort : Sort) → count_shown s (facts.Invoked sort) ≡ count (is_sort s.table id sort) h.invoked
  pub incoming_passing : (passes : ℤ → Component → Bool) → length (incoming_passing s passes) ≡ count (passes id) h.incoming
  pub earlier_passing : (passes : ℤ → Component → Bool) → length (earlier_passing s passes) ≡ count (passes id) (h.outgoing ++ s.earlier)
  pub invoked_are : invoked_components s ≡ h.invoked

module _ (s : Scene) (id : ℤ) (is : s.id ≡ Some id) (passes : ℤ → Component → Bool) where
  pub so_counted : (sent : List Numbered) → length (entries_passing s passes sent) ≡ count (passes id) (components_of (messages sent))
  so_counted sent = rw is (with_counted (passes id) sent)

  itself_counted : (cs : List Component) → length (itself_passing s passes cs) ≡ count (passes id) cs
  itself_counted cs = rw is (length-map (filter (passes id) cs) (λ (c : Component). s.number))

-- ---- a message at fault

module _ (of_one : Bool) (table : Table) (side : Side) (entries : List Entry) (number : ℕ) (m : Message) (kind : Kind) where
  abbrev items : List Item
  items = items_before entries number

  abbrev s : Scene
  s = scene_at of_one table side entries number m kind

  -- The component at index `k` is the one that has the kind.
  abbrev IsIt : ℕ → Component → Type 0
  IsIt k c = IsOf s kind (components_in m) k c (component_with of_one table side entries number m kind)

  -- What follows from a property of a component, given the components before it, follows for the first component that
  -- has the property.
  pub shows_so : (is_so : List Component → List Component → Component → Bool) (outgoing : List Component)
      → component_of of_one table side items m kind ≡ first_component_where is_so 0 [] outgoing (components_in m)
      → has_component is_so [] outgoing (components_in m) ≡ true → (Shows : Option Component → Type 0)
      → ((k : ℕ) (c : Component) → IsIt k c → is_so s.earlier (outgoing ++ s.earlier) c ≡ true → Shows (Some c))
      → Shows (component_with of_one table side entries number m kind)
  shows_so is_so outgoing first_of some Shows shows =
      let (k, c, first, here, is) = component_is is_so 0 [] outgoing (components_in m) some in
      let of_it = scene_of_it of_one table side entries number m kind k c (first_of ∙ zero_more first) here in
      subst Shows (sym of_it.it)
      (shows k c of_it (ap (λ (xs : List Component). is_so xs (outgoing ++ xs) c) of_it.earlier ∙ is))

  module _ (to : List ℕ) (goes : dtid_in m ≡ Some to) where
    abbrev h : HalfMessages
    h = half_of side items to

    are_counted : (id : ℤ) → s.id ≡ Some id → h.origin ≢ Nowhere → IsCounted s h (components_in m) id
    are_counted id is some =
        record {
          incoming = λ sort. (counts sort).incoming;
          before = λ sort. (counts sort).half_before some;
          whole = λ sort. (counts sort).half_whole some;
          invoked = λ sort. (counts sort).invoked some;
          incoming_passing = λ passes.
              so_counted s id is passes (incoming_by s s.origin) ∙ ap (count (passes id)) (incoming_are side items to s of over);
          earlier_passing = outgoing_and_earlier;
          invoked_are = invoked_are side items to s of over some;
        }
      where
        of : IsTo side items to s
        of = scene_to table side entries number m kind (subject of_one table side items m kind) to goes

        over : IsOver side items to s
        over = scene_over of_one table side entries number m kind to goes

        counts : (sort : Sort) → AreCounted side items to m s sort (is_sort table id sort)
        counts sort = components_counted of_one table side entries number m kind to id sort goes is

        outgoing_and_earlier : (passes : ℤ → Component → Bool)
            → length (earlier_passing s passes) ≡ count (passes id) (h.outgoing ++ s.earlier)
        outgoing_and_earlier passes =
            let both = length-append (entries_passing s passes (sent_to_dtid s)) (itself_passing s passes s.earlier) in
            let outgoing_so : length (entries_passing s passes (sent_to_dtid s)) ≡ count (passes id) h.outgoing =
            so_counted s id is passes (sent_to_dtid s)
            ∙ ap (λ (ms : List Message). count (passes id) (components_of ms)) (outgoing_are side items to s of)
            ∙ ap (count (passes id)) (outgoing_of side items to s of some) in
            let last = itself_counted s id is passes s.earlier in
            let all = count_both (passes id) h.outgoing s.earlier in
            omega (arith, both, outgoing_so, last, all)

    -- So too over a half that may send; and the lists of the component's invoke ID have as many entries as are counted.
    pub shows_half : (is_so : List Component → List Component → Component → Bool)
        → component_of of_one table side items m kind ≡ first_component_where is_so 0 [] h.outgoing (components_in m)
        → (not (is_wrong_half side items m h) && has_component is_so [] h.outgoing (components_in m)) ≡ true
        → (Shows : Option Component → Type 0)
        → ((k : ℕ) (c : Component) → IsIt k c
        → ((id : ℤ) → invoke_id_of kind c ≡ Some id → IsCounted s h (components_in m) id)
        → is_so s.earlier (h.outgoing ++ s.earlier) c ≡ true → Shows (Some c))
        → Shows (component_with of_one table side entries number m kind)
    shows_half is_so first_of both Shows shows =
        let (right, some) = and_parts (not (is_wrong_half side items m h)) _ both in
        shows_so is_so h.outgoing first_of some Shows
        (λ k c of_it is. shows k c of_it
        (λ id named. are_counted id (of_it.id ∙ named) (speaks_half side items m h right)) is)

-- ---- lists of components

-- If no item passes, none is counted.
pub none_counted : {A : Type 0} (p : A → Bool) (xs : List A) → list_any p xs ≡ false → count p xs ≡ 0
none_counted p [] none = refl
none_counted {A} p (x ∷ xs) none = by (p x) none (none_counted p xs)
  where
    by : (b : Bool) → (b || list_any p xs) ≡ false → (list_any p xs ≡ false → count p xs ≡ 0)
        → length (cond b (x ∷ filter p xs) (filter p xs)) ≡ 0
    by true none rest = cc
    by false none rest = rest none

pub none_so : {A B : Type 0} (ns : List A) (p : B → Bool) (xs : List B) → length ns ≡ count p xs → list_any p xs ≡ false
    → ns ≡ []
none_so ns p xs count_shown none = empty_is ns (count_shown ∙ none_counted p xs none)

at_has : {A : Type 0} (xs : List A) (k : ℕ) (x : A) → slice_get xs k ≡ Some x → Contains xs x
at_has [] k x here = cc
at_has (y ∷ ys) zero x here = let same : y ≡ x = cc in rw (← same) (has_first y ys)
at_has (y ∷ ys) (suc k) x here = has_later y ys x (at_has ys k x here)

-- If an item passes and one before it passes, two are counted.
pub two_counted : {A : Type 0} (p : A → Bool) (xs : List A) (k : ℕ) (x : A) → slice_get xs k ≡ Some x → p x ≡ true
    → list_any p (take k xs) ≡ true → 2 ≤ count p xs
two_counted p [] k x here passes some = cc
two_counted p (y ∷ ys) zero x here passes some = cc
two_counted {A} p (y ∷ ys) (suc k) x here passes some = by (p y) refl some (two_counted p ys k x here passes)
  where
    has : Contains ys x
    has = at_has ys k x here

    by : (b : Bool) → p y ≡ b → (b || list_any p (take k ys)) ≡ true → (list_any p (take k ys) ≡ true → 2 ≤ count p ys)
        → 2 ≤ count p (y ∷ ys)
    by true so some rest =
        let here : one (p y) ≡ 1 = ap one so in
        omega (arith, here, count_more p y ys, any_counts p ys (any_has p ys x has passes))
    by false so some rest =
        let here : one (p y) ≡ 0 = ap one so in omega (arith, here, count_more p y ys, rest some)
