-- Lists in another order, and functions that agree on the elements of a list.
use Rattle.std.proofs.Common.{◌≡◌, Bool, true, false, cond, List, [], ◌∷◌, ◌++◌, map, refl, sym, ap, subst, ◌∙◌}
use Rattle.std.specs.Prelude.{◌||◌, Contains, filter}
use Rattle.std.specs.List.{list_any}
use Rattle.std.proofs.lemmas.List.{map-append}
use Rattle.std.proofs.lemmas.List.Elements.{filter-append}
use Rattle.tcap_dialogues.proofs.CutLists.{first_in, later_in}
use Rattle.tcap_traces.proofs.DialoguePairs.{IsShuffled}

-- ---- another order

-- The other list is mapped or filtered too, or another list comes before both.
pub shuffled_map : {X Y : Type 0} (f : X → Y) (xs ys : List X) → IsShuffled xs ys → IsShuffled (map f xs) (map f ys)
shuffled_map f [] ys is = ap (map f) is
shuffled_map f (x ∷ xs) ys (front, back, joined, rest) = (
  map f front,
  map f back,
  ap (map f) joined ∙ map-append f front (x ∷ back),
  subst (IsShuffled (map f xs)) (map-append f front back) (shuffled_map f xs (front ++ back) rest),
)

pub shuffled_filter : {X : Type 0} (p : X → Bool) (xs ys : List X) → IsShuffled xs ys → IsShuffled (filter p xs) (filter p ys)
shuffled_filter p [] ys is = ap (filter p) is
shuffled_filter p (x ∷ xs) ys (front, back, joined, rest) =
    by (p x) refl (subst (IsShuffled (filter p xs)) (filter-append p front back) (shuffled_filter p xs (front ++ back) rest))
  where
    parts : (b : Bool) → p x ≡ b → filter p ys ≡ filter p front ++ cond b (x ∷ filter p back) (filter p back)
    parts b is =
        ap (filter p) joined ∙ filter-append p front (x ∷ back)
        ∙ ap (λ c. filter p front ++ cond c (x ∷ filter p back) (filter p back)) is

    by : (b : Bool) → p x ≡ b → IsShuffled (filter p xs) (filter p front ++ filter p back)
        → IsShuffled (cond b (x ∷ filter p xs) (filter p xs)) (filter p ys)
    by true is others = (filter p front, filter p back, parts true is, others)
    by false is others = subst (IsShuffled (filter p xs)) (sym (parts false is)) others

pub shuffled_behind : {X : Type 0} (zs xs ys : List X) → IsShuffled xs ys → IsShuffled (zs ++ xs) (zs ++ ys)
shuffled_behind [] xs ys shuffled = shuffled
shuffled_behind (z ∷ zs) xs ys shuffled = ([], zs ++ ys, refl, shuffled_behind zs xs ys shuffled)

-- ---- functions that agree on the elements

pub map_agrees : {X Y : Type 0} (f g : X → Y) (xs : List X) → ((x : X) → Contains xs x → f x ≡ g x) → map f xs ≡ map g xs
map_agrees f g [] same = refl
map_agrees f g (x ∷ xs) same =
    ap (λ y. y ∷ map f xs) (same x (first_in x xs)) ∙ ap (λ l. g x ∷ l) (map_agrees f g xs (λ y has. same y (later_in x y xs has)))

pub any_agrees : {X : Type 0} (p q : X → Bool) (xs : List X) → ((x : X) → Contains xs x → p x ≡ q x) → list_any p xs ≡ list_any q xs
any_agrees p q [] same = refl
any_agrees p q (x ∷ xs) same =
    ap (λ b. b || list_any p xs) (same x (first_in x xs)) ∙ ap (λ b. q x || b) (any_agrees p q xs (λ y has. same y (later_in x y xs has)))
