-- Loops that build a list from another, item by item.
use Rattle.tcap_evidence.proofs.Common.{◌≡◌, ℕ, ◌+◌, ◌<◌, ◌≤◌, Bool, true, false, cond, List, [], ◌∷◌, ◌++◌, append_assoc, drop, filter, flat_map, get_or, length, map, refl, sym, ap, ◌∙◌, append-nil, Component, component_of, Message, dialogue_in, is_response, SentEntry, Numbered, entries_where, inserted, numbered_of, since_first}
use Rattle.std.proofs.lemmas.List.{at_drop_all, at_drop_more}
use Rattle.tcap_parts.specs.declared.component.ComponentView.{ComponentView}

-- what is made of the remaining items
pub left_is : {A Y : Type 0} (make : List A → Y) (xs : List A) (i : ℕ) (x : A) → i < length xs → x ≡ get_or xs i x
    → make (drop i xs) ≡ make (x ∷ drop (i + 1) xs)
left_is make xs i x within here =
    at_drop_more make xs i x within ∙ ap (λ y. make (y ∷ drop (i + 1) xs)) (sym here)

-- ---- what was made so far, and what is made of the remaining items

module _ {A B : Type 0} (make : List A → List B) (xs : List A) (i : ℕ) where
  module _ (x : A) (within : i < length xs) (here : x ≡ get_or xs i x) where
    -- The next item adds to the list.
    pub made_more : {all : List B} (made more : List B) → make (x ∷ drop (i + 1) xs) ≡ more ++ make (drop (i + 1) xs)
        → made ++ make (drop i xs) ≡ all → (made ++ more) ++ make (drop (i + 1) xs) ≡ all
    made_more made more step so_far =
        append_assoc made more (make (drop (i + 1) xs))
        ∙ ap (λ ys. made ++ ys) (sym (left_is make xs i x within here ∙ step))
        ∙ so_far

    -- The next item adds nothing.
    pub made_same : {all : List B} (made : List B) → make (x ∷ drop (i + 1) xs) ≡ make (drop (i + 1) xs)
        → made ++ make (drop i xs) ≡ all → made ++ make (drop (i + 1) xs) ≡ all
    made_same made step so_far = ap (λ ys. made ++ ys) (sym (left_is make xs i x within here ∙ step)) ∙ so_far

  -- No items remain.
  pub all_made : {all : List B} (made : List B) → make [] ≡ [] → length xs ≤ i → made ++ make (drop i xs) ≡ all
      → made ≡ all
  all_made made none past so_far =
      sym (append-nil made) ∙ ap (λ ys. made ++ ys) (sym (at_drop_all make xs i past ∙ none)) ∙ so_far

-- ---- the entries of messages

module _ (sent : List SentEntry) (i : ℕ) where
  module _ (x : SentEntry) (within : i < length sent) (here : x ≡ get_or sent i x) where
    -- The next message passes a test.
    pub where_more : {all : List ℕ} (test : Message → Bool) (made : List ℕ) → test x.message.now ≡ true
        → made ++ entries_where test (numbered_of (drop i sent)) ≡ all
        → (made ++ x.number ∷ []) ++ entries_where test (numbered_of (drop (i + 1) sent)) ≡ all
    where_more test made passes so_far =
        made_more (λ xs. entries_where test (numbered_of xs)) sent i x within here made (x.number ∷ [])
        (rw passes refl) so_far

    -- The next message does not pass.
    pub where_same : {all : List ℕ} (test : Message → Bool) (made : List ℕ) → test x.message.now ≡ false
        → made ++ entries_where test (numbered_of (drop i sent)) ≡ all
        → made ++ entries_where test (numbered_of (drop (i + 1) sent)) ≡ all
    where_same test made passes_not so_far =
        made_same (λ xs. entries_where test (numbered_of xs)) sent i x within here made (rw passes_not refl) so_far

    -- The next message adds several items.
    pub with_more : {B : Type 0} {all : List B} (of : Numbered → List B) (made now : List B)
        → now ≡ made ++ of (x.number, x.message.now)
        → made ++ flat_map of (numbered_of (drop i sent)) ≡ all
        → now ++ flat_map of (numbered_of (drop (i + 1) sent)) ≡ all
    with_more of made now is so_far =
        ap (λ ys. ys ++ flat_map of (numbered_of (drop (i + 1) sent))) is
        ∙ made_more (λ xs. flat_map of (numbered_of xs)) sent i x within here made (of (x.number, x.message.now)) refl so_far

  -- No messages remain.
  pub where_all : {all : List ℕ} (test : Message → Bool) (made : List ℕ) → length sent ≤ i
      → made ++ entries_where test (numbered_of (drop i sent)) ≡ all → made ≡ all
  where_all test made past so_far = all_made (λ xs. entries_where test (numbered_of xs)) sent i made refl past so_far

  pub with_all : {B : Type 0} {all : List B} (of : Numbered → List B) (made : List B) → length sent ≤ i
      → made ++ flat_map of (numbered_of (drop i sent)) ≡ all → made ≡ all
  with_all of made past so_far = all_made (λ xs. flat_map of (numbered_of xs)) sent i made refl past so_far

-- ---- an entry once for each component that passes a test

module _ (test : Component → Bool) (number : ℕ) (cs : List ComponentView) (i : ℕ) where
  -- the entry once for each component from number `i` on that passes
  abbrev numbers_left : ℕ → List ℕ
  numbers_left i = map (λ c. number) (filter test (map component_of (drop i cs)))

  module _ (c : ComponentView) (within : i < length cs) (here : c ≡ get_or cs i c) where
    -- The next component passes.
    pub sorted_more : {all : List ℕ} (made : List ℕ) → test (component_of c) ≡ true → made ++ numbers_left i ≡ all
        → (made ++ number ∷ []) ++ numbers_left (i + 1) ≡ all
    sorted_more made passes so_far =
        made_more (λ cs. map (λ c. number) (filter test (map component_of cs))) cs i c within here made (number ∷ [])
        (rw passes refl) so_far

    -- The next component does not pass.
    pub sorted_same : {all : List ℕ} (made : List ℕ) → test (component_of c) ≡ false → made ++ numbers_left i ≡ all
        → made ++ numbers_left (i + 1) ≡ all
    sorted_same made passes_not so_far =
        made_same (λ cs. map (λ c. number) (filter test (map component_of cs))) cs i c within here made
        (rw passes_not refl) so_far

  -- No components remain.
  pub sorted_all : {all : List ℕ} (made : List ℕ) → length cs ≤ i → made ++ numbers_left i ≡ all → made ≡ all
  sorted_all made past so_far =
      all_made (λ cs. map (λ c. number) (filter test (map component_of cs))) cs i made refl past so_far

-- ---- messages from the first response on

-- these messages if a response has come, else those from the first response on
abbrev pub come_of : Bool → List Numbered → List Numbered
come_of has_come sent = cond has_come sent (since_first (λ n. is_response (dialogue_in n.1)) sent)

-- ---- in order

-- these messages, with `n` inserted in order if it has not come yet
abbrev pub placed : Bool → Numbered → List Numbered → List Numbered
placed has_come n sent = cond has_come sent (inserted n sent)
