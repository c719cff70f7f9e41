-- Filters, searches and counts of numbered messages agree with those of the messages.
use Rattle.tcap_evidence_laws.proofs.Common.{◌≡◌, ◌⊎◌, inl, inr, ℕ, arith, Bool, true, false, cond, List, [], ◌∷◌, length, map, Option, Some, None, option_map, refl, sym, ap, subst, ◌∙◌, Contains, filter, find, option_to_list, length-append, length-map, Component, Message, components_in, contains_first, components_of, count, is_request_of, filter_is, count_both, filter_has, has_first, has_later, has_not, from_first, flat_map_is, Numbered, entries_where, entries_with, has_request, since_first}
use Rattle.tcap_refute.proofs.Members.{flat_map_has}
use Rattle.tcap_evidence_laws.proofs.SentBefore.{messages}

-- ---- filters and searches

module _ (p : Message → Bool) where
  pub kept_are : (sent : List Numbered) → messages (filter (λ n. p n.1) sent) ≡ filter p (messages sent)
  kept_are [] = refl
  kept_are (n ∷ sent) = by (p n.1) (kept_are sent)
    where
      kept : List Numbered
      kept = filter (λ (k : Numbered). p k.1) sent

      by : (b : Bool) → messages kept ≡ filter p (messages sent)
          → messages (cond b (n ∷ kept) kept) ≡ cond b (n.1 ∷ filter p (messages sent)) (filter p (messages sent))
      by true rest = ap (λ (ms : List Message). n.1 ∷ ms) rest
      by false rest = rest

  pub first_is : (sent : List Numbered)
      → option_map (λ (n : Numbered). n.1) (find (λ n. p n.1) sent) ≡ find p (messages sent)
  first_is [] = refl
  first_is (n ∷ sent) = by (p n.1) (first_is sent)
    where
      found : Option Numbered
      found = find (λ (k : Numbered). p k.1) sent

      by : (b : Bool) → option_map (λ (k : Numbered). k.1) found ≡ find p (messages sent)
          → option_map (λ (k : Numbered). k.1) (cond b (Some n) found) ≡ cond b (Some n.1) (find p (messages sent))
      by true rest = refl
      by false rest = rest

  pub since_are : (sent : List Numbered) → messages (since_first (λ n. p n.1) sent) ≡ from_first p (messages sent)
  since_are [] = refl
  since_are (n ∷ sent) = by (p n.1) (since_are sent)
    where
      since : List Numbered
      since = since_first (λ (k : Numbered). p k.1) sent

      by : (b : Bool) → messages since ≡ from_first p (messages sent)
          → messages (cond b (n ∷ sent) since) ≡ cond b (n.1 ∷ messages sent) (from_first p (messages sent))
      by true rest = refl
      by false rest = rest

pub one_is : (o : Option Numbered)
    → messages (option_to_list o) ≡ option_to_list (option_map (λ (n : Numbered). n.1) o)
one_is None = refl
one_is (Some n) = refl

pub requests : (o : Option Numbered) → has_request o ≡ is_request_of (option_map (λ (n : Numbered). n.1) o)
requests None = refl
requests (Some n) = refl

-- ---- the number of entries

-- one for each message that passes
pub where_counted : (p : Message → Bool) (sent : List Numbered) → length (entries_where p sent) ≡ count p (messages sent)
where_counted p sent =
    length-map (filter (λ (n : Numbered). p n.1) sent) (λ (n : Numbered). n.0)
    ∙ sym (length-map (filter (λ (n : Numbered). p n.1) sent) (λ (n : Numbered). n.1))
    ∙ ap length (kept_are p sent)

-- one for each component that passes
pub with_counted : (is_so : Component → Bool) (sent : List Numbered)
    → length (entries_with is_so sent) ≡ count is_so (components_of (messages sent))
with_counted is_so [] = refl
with_counted is_so (n ∷ sent) =
    let both = length-append (map (λ (c : Component). n.0) (filter is_so (components_in n.1))) (entries_with is_so sent) in
    let here = length-map (filter is_so (components_in n.1)) (λ (c : Component). n.0) in
    let all = count_both is_so (components_in n.1) (components_of (messages sent)) in
    let rest = with_counted is_so sent in omega (arith, both, here, all, rest)

-- ---- the listed entries

pub map_is : {A B : Type 0} (f : A → B) (xs : List A) (y : B) → Contains (map f xs) y → (x : A) × Contains xs x × (f x ≡ y)
map_is f [] y has = has_not y has
map_is {A} {B} f (x ∷ xs) y has = by (contains_first (f x) (map f xs) y has) (map_is f xs y)
  where
    by : (f x ≡ y) ⊎ Contains (map f xs) y → (Contains (map f xs) y → (z : A) × Contains xs z × (f z ≡ y))
        → (z : A) × Contains (x ∷ xs) z × (f z ≡ y)
    by (inl same) rest = (x, has_first x xs, same)
    by (inr more) rest = let (z, has_z, same) = rest more in (z, has_later x xs z has_z, same)

pub map_has : {A B : Type 0} (f : A → B) (xs : List A) (x : A) → Contains xs x → Contains (map f xs) (f x)
map_has f [] x has = has_not x has
map_has {A} {B} f (z ∷ zs) x has = by (contains_first z zs x has) (map_has f zs x)
  where
    by : (z ≡ x) ⊎ Contains zs x → (Contains zs x → Contains (map f zs) (f x)) → Contains (map f (z ∷ zs)) (f x)
    by (inl same) rest =
        subst (λ (y : B). Contains (y ∷ map f zs) (f x)) (sym (ap f same)) (has_first (f x) (map f zs))
    by (inr more) rest = has_later (f z) (map f zs) (f x) (rest more)

-- A listed entry is that of a message that passes.
pub where_is : (p : Message → Bool) (sent : List Numbered) (n : ℕ) → Contains (entries_where p sent) n
    → (m : Message) × Contains sent (n, m) × (p m ≡ true)
where_is p sent n has =
    let ((number, m), kept, same) = map_is (λ (k : Numbered). k.0) (filter (λ (k : Numbered). p k.1) sent) n has in
    let (there, passes) = filter_is (λ (k : Numbered). p k.1) sent (number, m) kept in
    (m, subst (λ (k : ℕ). Contains sent (k, m)) same there, passes)

-- The entry of each message that passes is listed.
pub where_has : (p : Message → Bool) (sent : List Numbered) (n : ℕ) (m : Message) → Contains sent (n, m) → p m ≡ true
    → Contains (entries_where p sent) n
where_has p sent n m has passes =
    map_has (λ (k : Numbered). k.0) (filter (λ (k : Numbered). p k.1) sent) (n, m)
    (filter_has (λ (k : Numbered). p k.1) sent (n, m) has passes)

-- A listed entry is that of a message with a component that passes.
pub with_is : (is_so : Component → Bool) (sent : List Numbered) (n : ℕ) → Contains (entries_with is_so sent) n
    → (m : Message) × (c : Component) × Contains sent (n, m) × Contains (components_in m) c × (is_so c ≡ true)
with_is is_so sent n has =
    let ((number, m), there, inside) =
    flat_map_is (λ (k : Numbered). map (λ (c : Component). k.0) (filter is_so (components_in k.1))) sent n has in
    let (c, kept, same) = map_is (λ (c : Component). number) (filter is_so (components_in m)) n inside in
    let (among, passes) = filter_is is_so (components_in m) c kept in
    (m, c, subst (λ (k : ℕ). Contains sent (k, m)) same there, among, passes)

pub with_has : (is_so : Component → Bool) (sent : List Numbered) (n : ℕ) (m : Message) (c : Component)
    → Contains sent (n, m) → Contains (components_in m) c → is_so c ≡ true → Contains (entries_with is_so sent) n
with_has is_so sent n m c has among passes =
    flat_map_has (λ (k : Numbered). map (λ (c : Component). k.0) (filter is_so (components_in k.1))) sent (n, m) n has
    (map_has (λ (c : Component). n) (filter is_so (components_in m)) c (filter_has is_so (components_in m) c among passes))
