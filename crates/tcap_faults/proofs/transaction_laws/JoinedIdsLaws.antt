-- What is kept of joined IDs after one more ID, and which IDs are joined.
use Rattle.std.proofs.Common.{◌≡◌, ◌⊎◌, inl, inr, ℕ, Bool, true, false, cond, ◌&&◌, ◌||◌, List, [], ◌∷◌, ◌++◌, Option, Some, None, is_some, bytes_eq, refl, sym, ap, ◌∙◌, arith}
use Rattle.std.specs.Prelude.{Contains, ◌+◌, ◌<◌, ◌≤◌, filter, filter_map, get_or, length, take}
use Rattle.std.specs.List.{list_any}
use Rattle.std.specs.Map.{lookup}
use Rattle.std.specs.BTreeMap.{BTreeMap, WritesThrough, is_at}
use Rattle.std.specs.BTreeSet as set
use Rattle.std.specs.BTreeSet.{BTreeSet}
use Rattle.std.proofs.lemmas.List.{append-nil, take_all}
use Rattle.std.proofs.lemmas.List.Elements.{Contains-append_cases, Contains-append_left, Contains-append_right}
use Rattle.std.proofs.lemmas.List.Folds.{list_any_more}
use Rattle.std.proofs.lemmas.Slice.Eq.{bytes_eq-Decides}
use Rattle.tcap_msg.specs.Parts.{dtid_in, otid_in}
use Rattle.tcap_record.specs.declared.entry.End.{End as Side}
use Rattle.tcap_record.specs.Ends.{other}
use Rattle.tcap_end.specs.End.{is_id}
use Rattle.tcap_end.specs.Table.{octets_cmp}
use Rattle.tcap_model.specs.World.{Item}
use Rattle.tcap_refute.specs.EarlierMessages.{sent_by}
use Rattle.tcap_refute.proofs.TestLaws.{or_none, and_true}
use Rattle.tcap_refute.proofs.Members.{any_has, filter_has, has_not}
use Rattle.tcap_faults.specs.SentToId.{is_continue_from, is_continue_to, has_used}
use Rattle.tcap_faults.specs.declared.transaction.id_list.Ids.{Ids}
use Rattle.tcap_faults.specs.IdList.{AreAmong, AreIds, AreSame, ids_kept}
use Rattle.tcap_faults.specs.JoinedIds.{GetsMore, HasMore, id_if}
use Rattle.tcap_faults.specs.TangledIds.{owns_of, peers_of}
use Rattle.tcap_faults.proofs.list_laws.FindLaws.{any_is}
use Rattle.tcap_faults.proofs.transaction_laws.JoinTestLaws.{joined_back, from_goes, goes_from, goes_to, is_it, to_goes}
use Rattle.tcap_faults.proofs.transaction_laws.KeyLaws.{at_id, set_more}
use Rattle.tcap_faults.proofs.transaction_laws.IdMapLaws.{Puts}
use Rattle.tcap_faults.proofs.transaction_laws.SameIdsLaws.{none_same}

-- ---- tests

pub both_so : (a b : Bool) → (a ≡ true → b ≡ true) → (b ≡ true → a ≡ true) → a ≡ b
both_so true b there back = sym (there refl)
both_so false true there back = back refl
both_so false false there back = refl

module _ {A : Type 0} (p q : A → Bool) where
  pub any_either : (xs : List A) → list_any (λ x. p x || q x) xs ≡ (list_any p xs || list_any q xs)
  any_either [] = refl
  any_either (x ∷ xs) = rw (any_either xs) (by (p x) (q x) (list_any p xs) (list_any q xs))
    where
      by : (a b c d : Bool) → ((a || b) || (c || d)) ≡ ((a || c) || (b || d))
      by a b c d = grind arith

-- ---- lists with the same members

pub same_itself : (xs : List (List ℕ)) → AreSame xs xs
same_itself xs = record { there = λ id has. has; back = λ id has. has }

pub same_again : (xs ys zs : List (List ℕ)) → AreSame xs ys → AreSame ys zs → AreSame xs zs
same_again xs ys zs first second = record {
  there = λ id has. second.there id (first.there id has);
  back = λ id has. first.back id (second.back id has);
}

pub same_behind : (xs ys zs : List (List ℕ)) → AreSame xs ys → AreSame (xs ++ zs) (ys ++ zs)
same_behind xs ys zs same = record {
  there = λ id has. onto xs ys id (same.there id) (Contains-append_cases xs zs id has);
  back = λ id has. onto ys xs id (same.back id) (Contains-append_cases ys zs id has);
}
  where
    onto : (us vs : List (List ℕ)) (id : List ℕ) → (Contains us id → Contains vs id) → Contains us id ⊎ Contains zs id
        → Contains (vs ++ zs) id
    onto us vs id so (inl left) = Contains-append_left vs zs id (so left)
    onto us vs id so (inr right) = Contains-append_right vs zs id right

pub any_same : (p : List ℕ → Bool) (xs ys : List (List ℕ)) → AreSame xs ys → list_any p xs ≡ list_any p ys
any_same p xs ys same =
    both_so _ _ (λ is. let (x, has, passes) = any_is p xs is in any_has p ys x (same.there x has) passes)
    (λ is. let (x, has, passes) = any_is p ys is in any_has p xs x (same.back x has) passes)

-- What is kept of a list is kept of a list with the same members.
pub among_same : (xs ys : List (List ℕ)) (o : Option Ids) → AreSame xs ys → AreAmong xs o → AreAmong ys o
among_same xs ys None same none = none_same ys (rw none at same)
among_same xs ys (Some kept) same (those, are, so) = (those, are, same_again those xs ys so same)

pub any_kept : (p : List ℕ → Bool) (ids : List (List ℕ)) (kept : Ids) → AreAmong ids (Some kept)
    → list_any p (ids_kept kept.first kept.more.items) ≡ list_any p ids
any_kept p ids kept (those, are, same) =
    any_same p (ids_kept kept.first kept.more.items) those (record { there = are.back; back = are.there })
    ∙ any_same p those ids same

-- ---- one more ID at a key

twice_same : (ids : List (List ℕ)) (id : List ℕ) (a b : Bool)
    → AreSame ((ids ++ id_if a id) ++ id_if b id) (ids ++ id_if (a || b) id)
twice_same ids id false b = rw (append-nil ids) (same_itself (ids ++ id_if b id))
twice_same ids id true false = rw (append-nil (ids ++ id ∷ [])) (same_itself (ids ++ id ∷ []))
twice_same ids id true true = record {
  there = λ x has. once x (Contains-append_cases (ids ++ id ∷ []) (id ∷ []) x has);
  back = λ x has. Contains-append_left (ids ++ id ∷ []) (id ∷ []) x has;
}
  where
    once : (x : List ℕ) → Contains (ids ++ id ∷ []) x ⊎ Contains (id ∷ []) x → Contains (ids ++ id ∷ []) x
    once x (inl has) = has
    once x (inr has) = Contains-append_right ids (id ∷ []) x has

module _ (id : List ℕ) where
  pub gets_none : (so : List ℕ → Bool) (map : BTreeMap (List ℕ) Ids) → ((key : List ℕ) → so key ≡ false)
      → GetsMore so id map map
  gets_none so map none = λ key ids are. rw (none key, append-nil ids) are

  pub gets_same : (so now : List ℕ → Bool) (old new : BTreeMap (List ℕ) Ids) → ((key : List ℕ) → so key ≡ now key)
      → GetsMore so id old new → GetsMore now id old new
  gets_same so now old new same gets = λ key ids are. rw (← same key) (gets key ids are)

  -- In two steps.
  pub gets_both : (first second : List ℕ → Bool) (a b c : BTreeMap (List ℕ) Ids) → GetsMore first id a b
      → GetsMore second id b c → GetsMore (λ key. first key || second key) id a c
  gets_both first second a b c one two = λ key ids are.
      among_same ((ids ++ id_if (first key) id) ++ id_if (second key) id) (ids ++ id_if (first key || second key) id) _
      (twice_same ids id (first key) (second key)) (two key (ids ++ id_if (first key) id) (one key ids are))

  -- The value at the key was overwritten, or is new.
  gets_at : (key : List ℕ) (old new : BTreeMap (List ℕ) Ids) (now : Ids) → Puts old.entries new.entries key now
      → ((ids : List (List ℕ)) → AreAmong ids (lookup (is_at (octets_cmp key)) old.entries)
      → AreAmong (ids ++ id ∷ []) (Some now))
      → GetsMore (bytes_eq key) id old new
  gets_at key old new now puts more = λ k ids are. rw (puts k, at_id key k) (by k ids are (bytes_eq key k) refl)
    where
      by : (k : List ℕ) (ids : List (List ℕ)) → AreAmong ids (lookup (is_at (octets_cmp k)) old.entries)
          → (b : Bool) → bytes_eq key k ≡ b
          → AreAmong (ids ++ id_if b id) (cond b (Some now) (lookup (is_at (octets_cmp k)) old.entries))
      by k ids are true same =
          let one : key ≡ k = (bytes_eq-Decides key k).0 same in more ids (rw (← one) at are)
      by k ids are false apart = rw (append-nil ids) are

  among_more : (ids : List (List ℕ)) (old now : Ids)
      → ((those : List (List ℕ)) → AreIds those old → AreIds (those ++ id ∷ []) now) → AreAmong ids (Some old)
      → AreAmong (ids ++ id ∷ []) (Some now)
  among_more ids old now more (those, are, same) =
      (those ++ id ∷ [], more those are, same_behind those ids (id ∷ []) same)

  among_first : (ids : List (List ℕ)) (now : Ids) → AreIds ([] ++ id ∷ []) now → AreAmong ids None
      → AreAmong (ids ++ id ∷ []) (Some now)
  among_first ids now is none = rw none (id ∷ [], is, same_itself (id ∷ []))

  pub gets_written : (key : List ℕ) (old new : BTreeMap (List ℕ) Ids) (was now : Ids)
      → Some was ≡ lookup (is_at (octets_cmp key)) old.entries → WritesThrough octets_cmp (octets_cmp key) old now new
      → ((those : List (List ℕ)) → AreIds those was → AreIds (those ++ id ∷ []) now) → GetsMore (bytes_eq key) id old new
  gets_written key old new was now there writes more =
      gets_at key old new now (writes.3 (sym (ap is_some there))).0
      (λ ids are. among_more ids was now more (rw (← there) at are))

  pub gets_made : (key : List ℕ) (old new : BTreeMap (List ℕ) Ids) (now : Ids)
      → None ≡ lookup (is_at (octets_cmp key)) old.entries → Puts old.entries new.entries key now
      → AreIds ([] ++ id ∷ []) now → GetsMore (bytes_eq key) id old new
  gets_made key old new now nothing puts is =
      gets_at key old new now puts (λ ids are. among_first ids now is (rw (← nothing) at are))

-- ---- one more ID in a set

pub has_none : (so : List ℕ → Bool) (kept : BTreeSet (List ℕ)) → ((id : List ℕ) → so id ≡ false)
    → HasMore so kept kept
has_none so kept none = λ id. rw (none id) (or_none (set.contains octets_cmp kept id))

pub has_if : (id : List ℕ) (so : Bool) → so ≡ true → (old new : BTreeSet (List ℕ))
    → ((key : List ℕ) → set.contains octets_cmp new key
    ≡ cond (is_at (octets_cmp id) key) true (set.contains octets_cmp old key))
    → HasMore (λ other. bytes_eq other id && so) old new
has_if id so is old new puts = λ other.
    set_more id old new puts other
    ∙ rw is (ap (λ b. set.contains octets_cmp old other || b) (sym (and_true (bytes_eq other id))))

-- ---- a loop over kept IDs

pub bytes_turned : (a b : List ℕ) → bytes_eq a b ≡ bytes_eq b a
bytes_turned a b =
    both_so _ _ (λ is. (bytes_eq-Decides b a).1 (sym ((bytes_eq-Decides a b).0 is)))
    (λ is. (bytes_eq-Decides a b).1 (sym ((bytes_eq-Decides b a).0 is)))

module _ (p : List ℕ → Bool) (kept : Ids) (those : List (List ℕ)) where
  -- If there is no first ID, there are none.
  pub none_at_all : None ≡ kept.first → AreAmong those (Some kept) → list_any p those ≡ false
  none_at_all none are = sym (any_kept p those kept are) ∙ rw (← none) refl

  -- After the loop, all were checked.
  pub any_all : (xs : List (List ℕ)) (i : ℕ) → xs ≡ kept.more.items → length xs ≤ i → AreAmong those (Some kept)
      → list_any p (ids_kept kept.first (take i xs)) ≡ list_any p those
  any_all xs i is long are = rw (take_all i xs long, is) (any_kept p those kept are)

module _ (p : List ℕ → Bool) (kept : Option (List ℕ)) (first : List ℕ) (is : kept ≡ Some first)
    (xs : List (List ℕ)) where
  -- Before the loop, the first was checked.
  pub any_first : list_any p (ids_kept kept (take 0 xs)) ≡ p first
  any_first = rw is (sym (or_none (p first)))

  -- One more was checked.
  pub any_next : (i : ℕ) (x : List ℕ) → i < length xs → x ≡ get_or xs i x
      → list_any p (ids_kept kept (take (i + 1) xs)) ≡ (list_any p (ids_kept kept (take i xs)) || p x)
  any_next i x within at =
      rw is (ap (λ b. p first || b) (list_any_more p xs i x within
      ∙ ap (λ y. list_any p (take i xs) || p y) (sym at))
      ∙ by (p first) (list_any p (take i xs)) (p x))
    where
      by : (a b c : Bool) → (a || (b || c)) ≡ ((a || b) || c)
      by a b c = grind arith

module _ (kept : Option (List ℕ)) (first : List ℕ) (is : kept ≡ Some first) (xs : List (List ℕ)) where
  module _ (id : List ℕ) (old : BTreeMap (List ℕ) Ids) where
    pub gets_first : (new : BTreeMap (List ℕ) Ids) → GetsMore (bytes_eq first) id old new
        → GetsMore (λ key. list_any (bytes_eq key) (ids_kept kept (take 0 xs))) id old new
    gets_first new gets =
        gets_same id (bytes_eq first) _ old new
        (λ key. bytes_turned first key ∙ sym (any_first (bytes_eq key) kept first is xs)) gets

    pub gets_next : (i : ℕ) (x : List ℕ) → i < length xs → x ≡ get_or xs i x → (mid new : BTreeMap (List ℕ) Ids)
        → GetsMore (λ key. list_any (bytes_eq key) (ids_kept kept (take i xs))) id old mid
        → GetsMore (bytes_eq x) id mid new
        → GetsMore (λ key. list_any (bytes_eq key) (ids_kept kept (take (i + 1) xs))) id old new
    gets_next i x within at mid new one two =
        gets_same id (λ key. list_any (bytes_eq key) (ids_kept kept (take i xs)) || bytes_eq x key) _ old new
        (λ key. ap (λ b. list_any (bytes_eq key) (ids_kept kept (take i xs)) || b) (bytes_turned x key)
        ∙ sym (any_next (bytes_eq key) kept first is xs i x within at))
        (gets_both id _ (bytes_eq x) old mid new one two)

  module _ (old : BTreeSet (List ℕ)) where
    pub has_at_first : (new : BTreeSet (List ℕ)) → HasMore (λ id. is_id id (Some first)) old new
        → HasMore (λ id. list_any (bytes_eq id) (ids_kept kept (take 0 xs))) old new
    has_at_first new more = λ id.
        more id
        ∙ ap (λ b. set.contains octets_cmp old id || b) (sym (any_first (bytes_eq id) kept first is xs))

    pub has_next : (i : ℕ) (x : List ℕ) → i < length xs → x ≡ get_or xs i x → (mid new : BTreeSet (List ℕ))
        → HasMore (λ id. list_any (bytes_eq id) (ids_kept kept (take i xs))) old mid
        → HasMore (λ id. is_id id (Some x)) mid new
        → HasMore (λ id. list_any (bytes_eq id) (ids_kept kept (take (i + 1) xs))) old new
    has_next i x within at mid new one two = λ id.
        two id
        ∙ ap (λ b. b || bytes_eq id x) (one id)
        ∙ by (set.contains octets_cmp old id) (list_any (bytes_eq id) (ids_kept kept (take i xs))) (bytes_eq id x)
        ∙ ap (λ b. set.contains octets_cmp old id || b) (sym (any_next (bytes_eq id) kept first is xs i x within at))
      where
        by : (a b c : Bool) → ((a || b) || c) ≡ (a || (b || c))
        by a b c = grind arith

-- ---- which IDs are joined

module _ (side : Side) (items : List Item) (own id : List ℕ) where
  -- If an ID of the peer is joined with an own ID, that own ID is joined with it.
  owns : Contains (peers_of side items own) id → Contains (owns_of side items id) own
  owns has =
      by (Contains-append_cases (filter_map dtid_in (filter (is_continue_from own) (sent_by side items)))
      (cond (has_used side items own) (filter_map otid_in (filter (is_continue_to own) (sent_by (other side) items))) []) id
      has)
    where
      back : (b : Bool) → has_used side items own ≡ b
          → Contains (cond b (filter_map otid_in (filter (is_continue_to own) (sent_by (other side) items))) []) id
          → Contains (owns_of side items id) own
      back true used in_back =
          Contains-append_right (filter_map otid_in (filter (is_continue_to id) (sent_by side items))) _ own
          (filter_has (has_used side items)
          (filter_map dtid_in (filter (is_continue_from id) (sent_by (other side) items))) own
          (to_goes (sent_by (other side) items) id own (goes_from (sent_by (other side) items) id own in_back)) used)
      back false used in_none = has_not id in_none

      by : Contains (filter_map dtid_in (filter (is_continue_from own) (sent_by side items))) id
          ⊎ Contains (cond (has_used side items own)
          (filter_map otid_in (filter (is_continue_to own) (sent_by (other side) items))) []) id
          → Contains (owns_of side items id) own
      by (inl front) =
          Contains-append_left (filter_map otid_in (filter (is_continue_to id) (sent_by side items))) _ own
          (from_goes (sent_by side items) own id (goes_to (sent_by side items) own id front))
      by (inr there) = back (has_used side items own) refl there

  pub joined_both : list_any (λ x. bytes_eq x id) (peers_of side items own)
      ≡ list_any (bytes_eq own) (owns_of side items id)
  joined_both = both_so _ _ there back
    where
      there : list_any (λ x. bytes_eq x id) (peers_of side items own) ≡ true
          → list_any (bytes_eq own) (owns_of side items id) ≡ true
      there is =
          let (x, has, passes) = any_is (λ x. bytes_eq x id) (peers_of side items own) is in
          let same : x ≡ id = (bytes_eq-Decides x id).0 passes in
          any_has (bytes_eq own) (owns_of side items id) own (owns (rw same at has)) (is_it own)

      back : list_any (bytes_eq own) (owns_of side items id) ≡ true
          → list_any (λ x. bytes_eq x id) (peers_of side items own) ≡ true
      back is =
          let (x, has, passes) = any_is (bytes_eq own) (owns_of side items id) is in
          let same : own ≡ x = (bytes_eq-Decides own x).0 passes in
          any_has (λ x. bytes_eq x id) (peers_of side items own) id (joined_back side items own id (rw (← same) at has)) (is_it id)
