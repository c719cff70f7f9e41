-- What tests find in a list, and tests of messages.
use Rattle.std.proofs.Common.{◌≡◌, ◌⊎◌, inl, inr, Bool, true, false, cond, List, [], ◌∷◌, ◌++◌, Some, None, refl, sym, ap, ◌∙◌, arith}
use Rattle.std.specs.Prelude.{Contains, filter, ◌||◌}
use Rattle.std.specs.List.{find, list_any}
use Rattle.std.proofs.lemmas.List.{append-nil, append_assoc}
use Rattle.tcap_msg.specs.declared.kind.Kind.TheVariants as forms
use Rattle.tcap_msg.specs.declared.message.Message.{Message}
use Rattle.tcap_msg.specs.declared.message.Message.TheVariants.{Begin}
use Rattle.tcap_msg.specs.Parts.{dialogue_in}
use Rattle.tcap_end.specs.Dialogue.{is_request}
use Rattle.tcap_model.specs.World.{Item}
use Rattle.tcap_model.proofs.ListLaws.{contains_first}
use Rattle.tcap_refute.specs.EarlierMessages.{is_a}
use Rattle.tcap_model.specs.SinceMark.{is_begin_with_request}
use Rattle.tcap_refute.proofs.Members.{has_first, has_later, has_not}
use Rattle.tcap_refute.proofs.TestLaws.{or_none}
use Rattle.tcap_faults.specs.SentToId.{one_passes}

-- ---- search

-- What is found is in the list, and passes.
pub find_has : {A : Type 0} (p : A → Bool) (xs : List A) (x : A) → find p xs ≡ Some x → Contains xs x × (p x ≡ true)
find_has p [] x is = cc
find_has {A} p (y ∷ ys) x is = by (p y) refl is (find_has p ys x)
  where
    by : (b : Bool) → p y ≡ b → cond b (Some y) (find p ys) ≡ Some x
        → (find p ys ≡ Some x → Contains ys x × (p x ≡ true)) → Contains (y ∷ ys) x × (p x ≡ true)
    by true so is rest = let same : y ≡ x = cc in rw (← same) (has_first y ys, so)
    by false so is rest = let (has, passes) = rest is in (has_later y ys x has, passes)

-- If none is found, none passes.
pub find_none : {A P : Type 0} (p : A → Bool) (xs : List A) (x : A) → find p xs ≡ None → Contains xs x → p x ≡ true → P
find_none p [] x none has passes = has_not x has
find_none {A} {P} p (y ∷ ys) x none has passes =
    by (p y) refl none (contains_first y ys x has) (λ rest. find_none p ys x rest)
  where
    by : (b : Bool) → p y ≡ b → cond b (Some y) (find p ys) ≡ None → (y ≡ x) ⊎ Contains ys x
        → (find p ys ≡ None → Contains ys x → p x ≡ true → P) → P
    by true so none at rest = cc
    by false so none (inl same) rest = let bad : false ≡ true = sym so ∙ ap p same ∙ passes in cc
    by false so none (inr more) rest = rest none more passes

-- If a test finds an element, one is in the list and passes.
pub any_is : {A : Type 0} (p : A → Bool) (xs : List A) → list_any p xs ≡ true
    → (x : A) × Contains xs x × (p x ≡ true)
any_is p [] is = cc
any_is {A} p (y ∷ ys) is = by (p y) refl is (any_is p ys)
  where
    by : (b : Bool) → p y ≡ b → (b || list_any p ys) ≡ true
        → (list_any p ys ≡ true → (x : A) × Contains ys x × (p x ≡ true)) → (x : A) × Contains (y ∷ ys) x × (p x ≡ true)
    by true so is rest = (y, has_first y ys, so)
    by false so is rest = let (x, has, passes) = rest is in (x, has_later y ys x has, passes)

-- What is kept was in the list, and passes.
pub filter_is : {A : Type 0} (p : A → Bool) (xs : List A) (x : A) → Contains (filter p xs) x
    → Contains xs x × (p x ≡ true)
filter_is p [] x has = has_not x has
filter_is {A} p (y ∷ ys) x has = by (p y) refl has (filter_is p ys x)
  where
    later : Contains ys x × (p x ≡ true) → Contains (y ∷ ys) x × (p x ≡ true)
    later (rest, passes) = (has_later y ys x rest, passes)

    first : p y ≡ true → (y ≡ x) ⊎ Contains (filter p ys) x → (Contains (filter p ys) x → Contains ys x × (p x ≡ true))
        → Contains (y ∷ ys) x × (p x ≡ true)
    first so (inl same) rest = rw (← same) (has_first y ys, so)
    first so (inr more) rest = later (rest more)

    by : (b : Bool) → p y ≡ b → Contains (cond b (y ∷ filter p ys) (filter p ys)) x
        → (Contains (filter p ys) x → Contains ys x × (p x ≡ true)) → Contains (y ∷ ys) x × (p x ≡ true)
    by true so has rest = first so (contains_first y (filter p ys) x has) rest
    by false so has rest = later (rest has)

-- ---- tests of messages

-- A Begin asks for a dialogue if its portion is a request.
pub request_is : (m : Message) → is_a forms.Begin m ≡ true → is_begin_with_request m ≡ is_request (dialogue_in m)
request_is m is = grind (arith, is)

-- ---- one more item

-- With one more item, one of the old items passes or the last one does.
pub one_more : (passes : List Item → Item → Bool) (seen items : List Item) (item : Item)
    → one_passes passes seen (items ++ item ∷ [])
    ≡ (one_passes passes seen items || passes (seen ++ items) item)
one_more passes seen [] item = rw (append-nil seen) (sym (or_none _))
one_more passes seen (x ∷ items) item =
    rw (one_more passes (seen ++ x ∷ []) items item, append_assoc seen (x ∷ []) items) (by (passes seen x))
  where
    by : (b : Bool)
        → (b || (one_passes passes (seen ++ x ∷ []) items || passes (seen ++ x ∷ items) item))
        ≡ ((b || one_passes passes (seen ++ x ∷ []) items) || passes (seen ++ x ∷ items) item)
    by b = grind arith
