-- The lists of entries are in ascending order.
use Rattle.tcap_evidence_laws.proofs.Common.{◌≡◌, ◌⊎◌, inl, inr, ℕ, ◌+◌, ◌<◌, ◌≤◌, arith, Bool, true, false, cond, List, [], ◌∷◌, ◌++◌, map, Option, Some, None, Result, Ok, Err, refl, sym, ap, subst, ltb-true, Contains, filter, nat_lt, option_to_list, take, Contains-append_cases, Contains-push_cases, Component, Message, components_in, Side, Entry, Reason, Item, Sent, is_side, item_of, contains_first, components_of, has_first, has_later, has_not, count, filter_is, count_both, Numbered, entries_where, entries_with, in_order, sent_before, with_entries, since_first, IsAscending}
use Rattle.std.proofs.Common.{ltb-false}
use Rattle.std.specs.Prelude.{⊤}
use Rattle.tcap_evidence.specs.NumberedMessages.{inserted}
use Rattle.tcap_evidence_laws.proofs.NumberedLists.{map_is, with_is}
use Rattle.tcap_evidence_laws.proofs.SentBefore.{messages}

-- ---- a message inserted in order

-- An item after the insertion is the inserted one or an earlier one.
inserted_is : (n : Numbered) (sent : List Numbered) (k : Numbered) → Contains (inserted n sent) k → (n ≡ k) ⊎ Contains sent k
inserted_is n [] k has = contains_first n [] k has
inserted_is n (m ∷ sent) k has = by (nat_lt m.0 n.0) has (inserted_is n sent k)
  where
    later : (n ≡ k) ⊎ Contains sent k → (n ≡ k) ⊎ Contains (m ∷ sent) k
    later (inl it) = inl it
    later (inr more) = inr (has_later m sent k more)

    first : (m ≡ k) ⊎ Contains (inserted n sent) k → (Contains (inserted n sent) k → (n ≡ k) ⊎ Contains sent k)
        → (n ≡ k) ⊎ Contains (m ∷ sent) k
    first (inl same) rest = inr (subst (λ (x : Numbered). Contains (x ∷ sent) k) (sym same) (has_first k sent))
    first (inr more) rest = later (rest more)

    by : (b : Bool) → Contains (cond b (m ∷ inserted n sent) (n ∷ m ∷ sent)) k
        → (Contains (inserted n sent) k → (n ≡ k) ⊎ Contains sent k) → (n ≡ k) ⊎ Contains (m ∷ sent) k
    by true has rest = first (contains_first m (inserted n sent) k has) rest
    by false has rest = contains_first n (m ∷ sent) k has

pub in_order_is : (sent : List Numbered) (k : Numbered) → Contains (in_order sent) k → Contains sent k
in_order_is [] k has = has
in_order_is (n ∷ sent) k has = by (inserted_is n sent k has)
  where
    by : (n ≡ k) ⊎ Contains sent k → Contains (n ∷ sent) k
    by (inl same) = subst (λ (x : Numbered). Contains (x ∷ sent) k) (sym same) (has_first k sent)
    by (inr more) = has_later n sent k more

-- A message inserted in order adds as many components as one put in front.
module _ (is_so : Component → Bool) where
  abbrev many : List Numbered → ℕ
  many sent = count is_so (components_of (messages sent))

  many_more : (n : Numbered) (sent : List Numbered) → many (n ∷ sent) ≡ count is_so (components_in n.1) + many sent
  many_more n sent = count_both is_so (components_in n.1) (components_of (messages sent))

  inserted_counted : (n : Numbered) (sent : List Numbered) → many (inserted n sent) ≡ many (n ∷ sent)
  inserted_counted n [] = refl
  inserted_counted n (m ∷ sent) = by (nat_lt m.0 n.0) (inserted_counted n sent)
    where
      by : (b : Bool) → many (inserted n sent) ≡ many (n ∷ sent)
          → many (cond b (m ∷ inserted n sent) (n ∷ m ∷ sent)) ≡ many (n ∷ m ∷ sent)
      by true rest =
          omega (arith, rest, many_more m (inserted n sent), many_more n sent, many_more n (m ∷ sent), many_more m sent)
      by false rest = refl

  pub in_order_counted : (sent : List Numbered) → many (in_order sent) ≡ many sent
  in_order_counted [] = refl
  in_order_counted (n ∷ sent) = inserted_counted n sent

-- ---- messages in order

abbrev pub Ascend : List Numbered → Type 0
Ascend [] = ⊤
Ascend (n ∷ more) = ((k : Numbered) → Contains more k → n.0 ≤ k.0) × Ascend more

pub kept_ascend : (p : Numbered → Bool) (sent : List Numbered) → Ascend sent → Ascend (filter p sent)
kept_ascend p [] so = tt
kept_ascend p (n ∷ sent) (least, rest) = by (p n) (kept_ascend p sent rest)
  where
    by : (b : Bool) → Ascend (filter p sent) → Ascend (cond b (n ∷ filter p sent) (filter p sent))
    by true kept = (λ k has. least k (filter_is p sent k has).0, kept)
    by false kept = kept

pub since_ascend : (p : Numbered → Bool) (sent : List Numbered) → Ascend sent → Ascend (since_first p sent)
since_ascend p [] so = tt
since_ascend p (n ∷ sent) (least, rest) = by (p n) (since_ascend p sent rest)
  where
    by : (b : Bool) → Ascend (since_first p sent) → Ascend (cond b (n ∷ sent) (since_first p sent))
    by true since = (least, rest)
    by false since = since

inserted_ascend : (n : Numbered) (sent : List Numbered) → Ascend sent → Ascend (inserted n sent)
inserted_ascend n [] so = (λ k has. has_not k has, tt)
inserted_ascend n (m ∷ sent) (least, rest) = by (nat_lt m.0 n.0) refl (inserted_ascend n sent rest)
  where
    after : m.0 < n.0 → (k : Numbered) → (n ≡ k) ⊎ Contains sent k → m.0 ≤ k.0
    after lower k (inl same) = let number : n.0 ≡ k.0 = ap (λ (x : Numbered). x.0) same in omega (arith, lower, number)
    after lower k (inr more) = least k more

    before : n.0 ≤ m.0 → (k : Numbered) → (m ≡ k) ⊎ Contains sent k → n.0 ≤ k.0
    before lower k (inl same) = let number : m.0 ≡ k.0 = ap (λ (x : Numbered). x.0) same in omega (arith, lower, number)
    before lower k (inr more) = let low = least k more in omega (arith, lower, low)

    by : (b : Bool) → nat_lt m.0 n.0 ≡ b → Ascend (inserted n sent) → Ascend (cond b (m ∷ inserted n sent) (n ∷ m ∷ sent))
    by true is ordered = (λ k has. after (ltb-true m.0 n.0 is) k (inserted_is n sent k has), ordered)
    by false is ordered =
        (λ k has. before (ltb-false m.0 n.0 is) k (contains_first m sent k has), (least, rest))

-- If all but the first are in order, all are in order after the insertion.
pub first_ascend : (o : Option Numbered) (sent : List Numbered) → Ascend sent → Ascend (in_order (option_to_list o ++ sent))
first_ascend None [] so = tt
first_ascend None (n ∷ sent) (least, rest) = inserted_ascend n sent rest
first_ascend (Some n) sent so = inserted_ascend n sent so

-- ---- their numbers

pub append_ascends : (xs ys : List ℕ) → IsAscending xs → IsAscending ys
    → ((x y : ℕ) → Contains xs x → Contains ys y → x ≤ y) → IsAscending (xs ++ ys)
append_ascends [] ys first last below = last
append_ascends (x ∷ xs) ys (least, first) last below = (
  λ k has. by k (Contains-append_cases xs ys k has),
  append_ascends xs ys first last (λ a b in_xs in_ys. below a b (has_later x xs a in_xs) in_ys),
)
  where
    by : (k : ℕ) → Contains xs k ⊎ Contains ys k → x ≤ k
    by k (inl early) = least k early
    by k (inr late) = below x k (has_first x xs) late

pub repeated_ascends : {A : Type 0} (n : ℕ) (xs : List A) → IsAscending (map (λ x. n) xs)
repeated_ascends n [] = tt
repeated_ascends {A} n (x ∷ xs) = (
  λ k has. let (y, among, same) = map_is (λ (y : A). n) xs k has in omega (arith, same),
  repeated_ascends n xs,
)

numbers_ascend : (sent : List Numbered) → Ascend sent → IsAscending (map (λ s. s.0) sent)
numbers_ascend [] so = tt
numbers_ascend (n ∷ sent) (least, rest) = (
  λ k has.
      let (m, among, same) = map_is (λ (m : Numbered). m.0) sent k has in
      let low = least m among in omega (arith, same, low),
  numbers_ascend sent rest,
)

pub where_ascends : (p : Message → Bool) (sent : List Numbered) → Ascend sent → IsAscending (entries_where p sent)
where_ascends p sent so = numbers_ascend (filter (λ (s : Numbered). p s.1) sent) (kept_ascend (λ (s : Numbered). p s.1) sent so)

pub with_ascends : (is_so : Component → Bool) (sent : List Numbered) → Ascend sent → IsAscending (entries_with is_so sent)
with_ascends is_so [] so = tt
with_ascends is_so (n ∷ sent) (least, rest) =
    append_ascends (map (λ (c : Component). n.0) (filter is_so (components_in n.1))) (entries_with is_so sent)
    (repeated_ascends n.0 (filter is_so (components_in n.1))) (with_ascends is_so sent rest) below
  where
    below : (x y : ℕ) → Contains (map (λ (c : Component). n.0) (filter is_so (components_in n.1))) x
        → Contains (entries_with is_so sent) y → x ≤ y
    below x y early late =
        let (c, among, same) = map_is (λ (c : Component). n.0) (filter is_so (components_in n.1)) x early in
        let (m, d, there, of, passes) = with_is is_so sent y late in
        let low = least (y, m) there in omega (arith, same, low)

-- ---- the messages of an end

pushed_ascend : (sent : List Numbered) (n : Numbered) → Ascend sent → ((k : Numbered) → Contains sent k → k.0 ≤ n.0)
    → Ascend (sent ++ n ∷ [])
pushed_ascend [] n so below = (λ k has. has_not k has, tt)
pushed_ascend (m ∷ sent) n (least, rest) below = (
  λ k has. by k (Contains-push_cases sent n k has),
  pushed_ascend sent n rest (λ k has. below k (has_later m sent k has)),
)
  where
    by : (k : Numbered) → Contains sent k ⊎ (n ≡ k) → m.0 ≤ k.0
    by k (inl early) = least k early
    by k (inr same) =
        let low = below m (has_first m sent) in
        let number : n.0 ≡ k.0 = ap (λ (x : Numbered). x.0) same in omega (arith, low, number)

entries_ascend : (side : Side) (entries : List (Result Item Reason)) (at : ℕ) (sent : List Numbered) → Ascend sent
    → ((k : Numbered) → Contains sent k → k.0 < at) → Ascend (with_entries side at entries sent)
entries_ascend side [] at sent so below = so
entries_ascend side (Err reason ∷ entries) at sent so below =
    entries_ascend side entries (at + 1) sent so (λ k has. let low = below k has in omega (arith, low))
entries_ascend side (Ok Item.Quiet ∷ entries) at sent so below =
    entries_ascend side entries (at + 1) [] tt (λ k has. has_not k has)
entries_ascend side (Ok (Sent sender m) ∷ entries) at sent so below =
    entries_ascend side entries (at + 1) (cond (is_side side sender) (sent ++ (at, m) ∷ []) sent) (by (is_side side sender))
    (λ k has. low (is_side side sender) k has)
  where
    by : (b : Bool) → Ascend (cond b (sent ++ (at, m) ∷ []) sent)
    by true = pushed_ascend sent (at, m) so (λ k has. let low = below k has in omega (arith, low))
    by false = so

    of : (k : Numbered) → Contains sent k ⊎ ◌≡◌ {A = Numbered} (at, m) k → k.0 < at + 1
    of k (inl early) = let low = below k early in omega (arith, low)
    of k (inr same) = let number : at ≡ k.0 = ap (λ (x : Numbered). x.0) same in omega (arith, number)

    low : (b : Bool) (k : Numbered) → Contains (cond b (sent ++ (at, m) ∷ []) sent) k → k.0 < at + 1
    low true k has = of k (Contains-push_cases sent (at, m) k has)
    low false k has = let low = below k has in omega (arith, low)

pub sent_ascend : (side : Side) (entries : List Entry) (number : ℕ) → Ascend (sent_before side entries number)
sent_ascend side entries number = entries_ascend side (map item_of (take number entries)) 0 [] tt (λ k has. has_not k has)
