-- `SentSince` along a growing sent list.
use Rattle.std.proofs.Common.{◌≡◌, ◌⊎◌, inl, inr, Bool, true, false, ℕ, zero, suc, List, [], ◌∷◌, ◌++◌, Some, refl, ap, subst, ◌∙◌, append_assoc}
use Rattle.std.specs.Prelude.{cond, drop, slice_get}
use Rattle.tcap_msg.specs.declared.message.Message.{Message}
use Rattle.tcap_record.specs.declared.entry.End.{End as Side}
use Rattle.tcap_model.specs.World.{Item, Sent}
use Rattle.tcap_model.specs.World.{has_quiet, is_quiet}
use Rattle.tcap_model.specs.SinceMark.{SentSince}

-- Another message adds no quiet mark.
pub no_quiet : (other : Side) (n : Message) (items : List Item) → has_quiet items ≡ false → has_quiet (items ++ Sent other n ∷ []) ≡ false
no_quiet other n [] is = refl
no_quiet other n (item ∷ more) is = by (is_quiet item) (no_quiet other n more) is
  where
    by : (b : Bool) → (has_quiet more ≡ false → has_quiet (more ++ Sent other n ∷ []) ≡ false) → cond b true (has_quiet more) ≡ false
        → cond b true (has_quiet (more ++ Sent other n ∷ [])) ≡ false
    by true on is = cc
    by false on is = on is

-- A list without marks has none before its last item.
no_quiet_before : (item : Item) (items : List Item) → has_quiet (items ++ item ∷ []) ≡ false
    → (has_quiet items ≡ false) × (is_quiet item ≡ false)
no_quiet_before item [] is = (refl, by (is_quiet item) is)
  where
    by : (b : Bool) → cond b true false ≡ false → b ≡ false
    by true is = cc
    by false is = refl
no_quiet_before item (first ∷ more) is = by (is_quiet first) (no_quiet_before item more) is
  where
    by : (b : Bool) → (has_quiet (more ++ item ∷ []) ≡ false → (has_quiet more ≡ false) × (is_quiet item ≡ false))
        → cond b true (has_quiet (more ++ item ∷ [])) ≡ false → (cond b true (has_quiet more) ≡ false) × (is_quiet item ≡ false)
    by true on is = cc
    by false on is = on is

-- A place in a list with one more item is the last, or was in the list before.
place_back : (item at : Item) (items front behind : List Item) → items ++ item ∷ [] ≡ front ++ at ∷ behind
    → (item ≡ at) ⊎ ((before : List Item) × (items ≡ front ++ at ∷ before) × (behind ≡ before ++ item ∷ []))
place_back item at [] [] behind is = inl cc
place_back item at [] (f ∷ front) behind is = too_long front cc
  where
    too_long : {P : Type 0} (front : List Item) → [] ≡ front ++ at ∷ behind → P
    too_long [] is = cc
    too_long (g ∷ front) is = cc
place_back item at (i ∷ items) [] behind is = inr (items, cc, cc)
place_back item at (i ∷ items) (f ∷ front) behind is = by (place_back item at items front behind cc)
  where
    by : (item ≡ at) ⊎ ((before : List Item) × (items ≡ front ++ at ∷ before) × (behind ≡ before ++ item ∷ []))
        → (item ≡ at) ⊎ ((before : List Item) × (i ∷ items ≡ (f ∷ front) ++ at ∷ before) × (behind ≡ before ++ item ∷ []))
    by (inl last) = inl last
    by (inr old) = inr (old.0, cc, old.2)

-- An item with no mark after its place was sent since the last mark.
pub since_at : (side : Side) (m : Message) (items : List Item) (n : ℕ) → slice_get items n ≡ Some (Sent side m)
    → has_quiet (drop n items) ≡ false → SentSince side m items
since_at side m [] n is none = cc
since_at side m (first ∷ items) zero is none =
    let same : first ≡ Sent side m = cc in
    ([], items, ap (λ item. item ∷ items) same, subst (λ item. has_quiet (item ∷ items) ≡ false) same none)
since_at side m (first ∷ items) (suc n) is none =
    let (front, behind, joined, no_more) = since_at side m items n is none in (first ∷ front, behind, ap (λ more. first ∷ more) joined, no_more)

-- `drop` of a list with one more item
pub drop_more : (item found : Item) (items : List Item) (n : ℕ) → slice_get items n ≡ Some found
    → drop n (items ++ item ∷ []) ≡ drop n items ++ item ∷ []
drop_more item found [] n is = cc
drop_more item found (first ∷ items) zero is = refl
drop_more item found (first ∷ items) (suc n) is = drop_more item found items n is

-- A message sent since the last mark still is after one more message.
pub since_more : (side other : Side) (m n : Message) (items : List Item) → SentSince side m items
    → SentSince side m (items ++ Sent other n ∷ [])
since_more side other m n items is = (
  is.0,
  is.1 ++ Sent other n ∷ [],
  ap (λ l. l ++ Sent other n ∷ []) is.2 ∙ append_assoc is.0 (Sent side m ∷ is.1) (Sent other n ∷ []),
  no_quiet other n is.1 is.3,
)

-- A message sent since the last mark is the newest, or was sent since the mark before.
pub since_back : (side other : Side) (m n : Message) (items : List Item) → SentSince side m (items ++ Sent other n ∷ [])
    → ((side ≡ other) × (m ≡ n)) ⊎ SentSince side m items
since_back side other m n items is = by (place_back (Sent other n) (Sent side m) items is.0 is.1 is.2)
  where
    by : (Sent other n ≡ Sent side m)
        ⊎ ((before : List Item) × (items ≡ is.0 ++ Sent side m ∷ before) × (is.1 ≡ before ++ Sent other n ∷ []))
        → ((side ≡ other) × (m ≡ n)) ⊎ SentSince side m items
    by (inl last) = inl (cc, cc)
    by (inr old) = inr (is.0, old.0, old.1, (no_quiet_before (Sent other n) old.0 (rw (old.2) at is.3)).0)

-- Nothing was sent since a mark at the end.
pub since_quiet : (side : Side) (m : Message) (items : List Item) → SentSince side m (items ++ Item.Quiet ∷ []) → ⊥
since_quiet side m items is = by (place_back Item.Quiet (Sent side m) items is.0 is.1 is.2)
  where
    by : (Item.Quiet ≡ Sent side m)
        ⊎ ((before : List Item) × (items ≡ is.0 ++ Sent side m ∷ before) × (is.1 ≡ before ++ Item.Quiet ∷ [])) → ⊥
    by (inl last) = cc
    by (inr old) = let none = (no_quiet_before Item.Quiet old.0 (rw (old.2) at is.3)).1 in cc
