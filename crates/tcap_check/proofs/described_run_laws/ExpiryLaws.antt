-- The effect of an expiry on an end: which own invocations stay in use, and that two expiries may change places.
use Rattle.std.proofs.Common.{arith, ◌≡◌, ◌≢◌, ◌⊎◌, inl, inr, ℕ, ℤ, suc, Bool, true, false, cond, List, [], ◌∷◌, length, Option, Some, None, Ok, refl, sym, ap, subst, ◌∙◌}
use Rattle.std.specs.Prelude.{ok_or}
use Rattle.std.specs.List.{Contains}
use Rattle.std.specs.Map.{lookup, remove_entry}
use Rattle.std.specs.BTreeMap.{insert_entry, is_at}
use Rattle.std.specs.Ordering.{int_cmp, is_eq, match_ordering}
use Rattle.std.specs.declared.cmp.Ordering.{Ordering}
use Rattle.std.specs.declared.cmp.Ordering.TheVariants.{Less, Equal, Greater}
use Rattle.std.specs.List.Sorted.{IsStrictlySortedBy}
use Rattle.std.proofs.lemmas.Bool.{not-true}
use Rattle.std.proofs.lemmas.Cmp.{int_cmp_total, tied_itself}
use Rattle.std.proofs.lemmas.List.Elements.{Contains-append_right}
use Rattle.std.proofs.lemmas.Map.Lookups.{exact_bytes, exact_signed}
use Rattle.tcap_end.specs.declared.fault.EndFault.{EndFault}
use Rattle.tcap_end.specs.declared.fault.EndFault.TheVariants as faults
use Rattle.tcap_end.specs.declared.half.HalfName.{HalfName}
use Rattle.tcap_end.specs.declared.half.HalfName.TheVariants as names
use Rattle.tcap_end.specs.declared.half.Slot.{Slot}
use Rattle.tcap_end.specs.declared.half.Slot.TheVariants.{Begun, Accepted}
use Rattle.tcap_end.specs.declared.own_invocations.OwnInvocation.{OwnInvocation}
use Rattle.tcap_end.specs.Component.{own_invocation}
use Rattle.tcap_end.specs.End.{End, KeyedHalf, first_half, half_where, is_id, named, put}
use Rattle.tcap_end.specs.Half.{Half, is_closed}
use Rattle.tcap_end.specs.HiddenSteps.{expire, may_expire, without_invocation}
use Rattle.tcap_end.specs.ReachableEnd.{IsEnd, Rises}
use Rattle.tcap_end.specs.Table.{Table, octets_cmp}
use Rattle.tcap_end.proofs.AnsweringLaws.{needs_ok, ok_same, some_ok, then_ok}
use Rattle.tcap_end.proofs.FoundLaws.{named_has, octets_total}
use Rattle.tcap_end.proofs.HiddenLaws.{invoked_ends}
use Rattle.tcap_end.proofs.MapLaws.{behind_first, insert_twice, keys_eq}
use Rattle.tcap_check.specs.GivenRun.{IsInUse}
use Rattle.tcap_model.proofs.ListLaws.{contains_first}

-- ---- entries by key

-- No key passes both tests.
abbrev Apart : {K : Type 0} → (K → Bool) → (K → Bool) → Type 0
Apart {K} f g = (k : K) → f k ≡ true → g k ≡ true → ⊥

-- Removing what one test finds does not affect what the other finds.
found_apart : {K A : Type 0} (f g : K → Bool) (es : List (K × A)) → Apart f g → lookup f (remove_entry g es) ≡ lookup f es
found_apart f g [] apart = refl
found_apart f g (e ∷ es) apart = by (f e.0) (g e.0) refl refl (found_apart f g es apart)
  where
    by : (a b : Bool) → f e.0 ≡ a → g e.0 ≡ b → lookup f (remove_entry g es) ≡ lookup f es
        → lookup f (cond b es (e ∷ remove_entry g es)) ≡ cond a (Some e.1) (lookup f es)
    by true true is too rest = absurd (apart e.0 is too)
    by false true is too rest = refl
    by true false is too rest = rw is refl
    by false false is too rest = rw is rest

-- Two such removals may change places.
removed_both : {K A : Type 0} (f g : K → Bool) (es : List (K × A)) → Apart f g
    → remove_entry f (remove_entry g es) ≡ remove_entry g (remove_entry f es)
removed_both f g [] apart = refl
removed_both f g (e ∷ es) apart = by (f e.0) (g e.0) refl refl (removed_both f g es apart)
  where
    by : (a b : Bool) → f e.0 ≡ a → g e.0 ≡ b → remove_entry f (remove_entry g es) ≡ remove_entry g (remove_entry f es)
        → remove_entry f (cond b es (e ∷ remove_entry g es)) ≡ remove_entry g (cond a es (e ∷ remove_entry f es))
    by true true is too rest = absurd (apart e.0 is too)
    by false true is too rest = rw too refl
    by true false is too rest = rw is refl
    by false false is too rest = rw (is, too) (ap (λ more. e ∷ more) rest)

-- If keys rise, a removed key is no longer found.
removed_gone : {A : Type 0} (id : ℤ) (es : List (ℤ × A)) → Rises int_cmp es
    → lookup (is_at (int_cmp id)) (remove_entry (is_at (int_cmp id)) es) ≡ None
unfolding IsStrictlySortedBy
removed_gone id [] rises = refl
removed_gone {A = A} id (e ∷ es) rises = by (is_at (int_cmp id) e.0) refl (removed_gone id es rises.1)
  where
    none : (o : Option A) → lookup (is_at (int_cmp id)) es ≡ o → is_at (int_cmp id) e.0 ≡ true → o ≡ None
    none None found is = refl
    none (Some v) found is = let other = behind_first int_cmp_total id e es v rises found in cc

    by : (b : Bool) → is_at (int_cmp id) e.0 ≡ b
        → lookup (is_at (int_cmp id)) (remove_entry (is_at (int_cmp id)) es) ≡ None
        → lookup (is_at (int_cmp id)) (cond b es (e ∷ remove_entry (is_at (int_cmp id)) es)) ≡ None
    by true is rest = none (lookup (is_at (int_cmp id)) es) refl is
    by false is rest = rw is rest

-- Tests for two different IDs pass no common key.
ids_apart : (x y : ℤ) → x ≢ y → Apart (is_at (int_cmp x)) (is_at (int_cmp y))
ids_apart x y apart k is too = apart (exact x is ∙ sym (exact y too))
  where
    exact : (q : ℤ) → is_at (int_cmp q) k ≡ true → q ≡ k
    exact q same = exact_signed q k (by (int_cmp q k) same)
      where
        by : (r : Ordering) → is_eq r ≡ true → r ≡ Equal
        by Less is = cc
        by Equal is = refl
        by Greater is = cc

pub ids_eq : (x y : ℤ) → (x ≡ y) ⊎ (x ≢ y)
ids_eq x y = keys_eq int_cmp_total exact_signed x y

-- ---- finding a half that was replaced

-- The first half that passes is in this slot, and passes.
first_is : (passes : Half → Bool) (slot : Slot) (es : List (List ℕ × Half)) (f : KeyedHalf) → first_half passes slot es ≡ Some f
    → (f.slot ≡ slot) × (passes f.half ≡ true)
first_is passes slot [] f is = cc
first_is passes slot ((key, half) ∷ es) f is = by (passes half) refl is (first_is passes slot es f)
  where
    first : KeyedHalf
    first = record { slot = slot; key = key; half = half }

    by : (b : Bool) → passes half ≡ b → cond b (Some first) (first_half passes slot es) ≡ Some f
        → (first_half passes slot es ≡ Some f → (f.slot ≡ slot) × (passes f.half ≡ true))
        → (f.slot ≡ slot) × (passes f.half ≡ true)
    by true so is rest =
        let same : f ≡ first = cc in (ap (λ (g : KeyedHalf). g.slot) same, ap (λ (g : KeyedHalf). passes g.half) same ∙ so)
    by false so is rest = rest is

-- If the first half that passes is replaced by one that passes, the new half is the first.
first_put : (passes : Half → Bool) (slot : Slot) (es : List (List ℕ × Half)) (f : KeyedHalf) (h : Half)
    → first_half passes slot es ≡ Some f → passes h ≡ true
    → first_half passes slot (insert_entry octets_cmp es f.key h) ≡ Some (record { slot = slot; key = f.key; half = h })
first_put passes slot [] f h is so = cc
first_put passes slot ((key, half) ∷ es) f h is so = by (octets_cmp f.key key) refl (first_put passes slot es f h)
  where
    new : Option KeyedHalf
    new = Some (record { slot = slot; key = f.key; half = h })

    by : (r : Ordering) → octets_cmp f.key key ≡ r
        → (first_half passes slot es ≡ Some f → passes h ≡ true → first_half passes slot (insert_entry octets_cmp es f.key h) ≡ new)
        → first_half passes slot
        (match_ordering r ((f.key, h) ∷ (key, half) ∷ es) ((key, h) ∷ es) ((key, half) ∷ insert_entry octets_cmp es f.key h))
        ≡ new
    by Less at rest = rw so refl
    by Equal at rest =
        rw so (ap (λ (k : List ℕ). Some (record { slot = slot; key = k; half = h })) (sym (exact_bytes f.key key at)))
    by Greater at rest = later (passes half) is rest
      where
        first : KeyedHalf
        first = record { slot = slot; key = key; half = half }

        later : (b : Bool) → cond b (Some first) (first_half passes slot es) ≡ Some f
            → (first_half passes slot es ≡ Some f → passes h ≡ true → first_half passes slot (insert_entry octets_cmp es f.key h) ≡ new)
            → cond b (Some first) (first_half passes slot (insert_entry octets_cmp es f.key h)) ≡ new
        later true is rest =
            let same : first ≡ f = cc in
            let equal : octets_cmp f.key f.key ≡ Greater = ap (octets_cmp f.key) (sym (ap (λ (g : KeyedHalf). g.key) same)) ∙ at in
            let tied = tied_itself octets_total f.key in cc
        later false is rest = rest is so

-- The same replacement in an end.
where_put : (passes : Half → Bool) (e : End) (f : KeyedHalf) (h : Half) → half_where passes e ≡ Some f
    → (passes f.half ≡ true → passes h ≡ true)
    → half_where passes (put e f.slot f.key h) ≡ Some (record { slot = f.slot; key = f.key; half = h })
where_put passes e f h is keeps = by (first_half passes Begun e.begun) refl
  where
    by : (o : Option KeyedHalf) → first_half passes Begun e.begun ≡ o
        → half_where passes (put e f.slot f.key h) ≡ Some (record { slot = f.slot; key = f.key; half = h })
    by None none =
        let found : first_half passes Accepted e.accepted ≡ Some f = rw none at is in
        let (slot, passed) = first_is passes Accepted e.accepted f found in
        let there = first_put passes Accepted e.accepted f h found (keeps passed) in
        rw (slot, none) there
    by (Some g) some =
        let found : first_half passes Begun e.begun ≡ Some f = some ∙ (rw some at is) in
        let (slot, passed) = first_is passes Begun e.begun f found in
        let there = first_put passes Begun e.begun f h found (keeps passed) in
        rw (slot, there) refl

-- If a half is replaced by one with the same IDs, the name finds the new half.
pub named_put : (e : End) (name : HalfName) (f : KeyedHalf) (h : Half) → named e name ≡ Some f
    → h.own ≡ f.half.own → h.peer ≡ f.half.peer
    → named (put e f.slot f.key h) name ≡ Some (record { slot = f.slot; key = f.key; half = h })
named_put e (names.Own id) f h is own peer = where_put (λ h. is_id id h.own) e f h is (λ so. rw own so)
named_put e (names.Peer id) f h is own peer = where_put (λ h. is_id id h.peer) e f h is (λ so. rw peer so)

-- Of two replacements of a half, the later one stays.
put_twice : (e : End) (slot : Slot) (key : List ℕ) (g h : Half) → put (put e slot key g) slot key h ≡ put e slot key h
put_twice e Begun key g h = ap (λ es. record e { begun = es }) (insert_twice octets_total key g h e.begun)
put_twice e Accepted key g h = ap (λ es. record e { accepted = es }) (insert_twice octets_total key g h e.accepted)

-- ---- an expiry

-- An expiry: the half with this name is open, and has an invocation with this ID that may expire. The name finds the
-- same half afterwards.
pub record IsExpiry (table : Table) (e : End) (name : HalfName) (id : ℤ) (next : End) : Type 0 where
  pub kept : KeyedHalf
  pub was : named e name ≡ Some kept
  pub is_open : is_closed kept.half.phase ≡ false
  pub may : may_expire table (own_invocation kept.half id) ≡ true
  pub next_is : put e kept.slot kept.key (without_invocation id kept.half) ≡ next
  pub now : named next name ≡ Some (record { slot = kept.slot; key = kept.key; half = without_invocation id kept.half })

-- An expiry that succeeds is one.
pub expiry_is : (table : Table) (e : End) (name : HalfName) (id : ℤ) (next : End) → expire table e name id ≡ Ok next
    → IsExpiry table e name id next
expiry_is table e name id next is =
    let (f, ok, step) = then_ok (ok_or (named e name) faults.CannotExpire) _ next is in
    let was = some_ok _ _ f ok in
    let open_one = needs_ok _ _ _ next step in
    let may = needs_ok _ _ _ next open_one.1 in
    let next_is = ok_same {F = EndFault} _ next may.1 in record {
      kept = f;
      was = was;
      is_open = not-true _ open_one.0;
      may = may.0;
      next_is = next_is;
      now = subst (λ (x : End). named x name ≡ Some (record { slot = f.slot; key = f.key; half = without_invocation id f.half })) next_is
          (named_put e name f (without_invocation id f.half) was refl refl);
    }

-- An invocation that expires was in use.
pub ends_in_use : (table : Table) (e : End) (name : HalfName) (id : ℤ) (next : End) → expire table e name id ≡ Ok next
    → IsInUse e name id
ends_in_use table e name id next is = by (own_invocation x.kept.half id) refl x.may
  where
    x : IsExpiry table e name id next
    x = expiry_is table e name id next is

    by : (o : Option OwnInvocation) → own_invocation x.kept.half id ≡ o → may_expire table o ≡ true → IsInUse e name id
    by None found may = cc
    by (Some own) found may = (x.kept, own, x.was, found)

pub stays_in_use : (table : Table) (e : End) (name : HalfName) (id other : ℤ) (next : End) → expire table e name id ≡ Ok next
    → other ≢ id → IsInUse e name other → IsInUse next name other
stays_in_use table e name id other next is apart (kept, own, named_is, found) =
    let x = expiry_is table e name id next is in
    let same : x.kept ≡ kept = cc (x.was, named_is) in (
      _,
      own,
      x.now,
      found_apart _ _ x.kept.half.out (ids_apart other id apart)
          ∙ ap (λ (k : KeyedHalf). own_invocation k.half other) same ∙ found,
    )

pub was_in_use : (table : Table) (e : End) (name : HalfName) (id other : ℤ) (next : End) → expire table e name id ≡ Ok next
    → IsInUse next name other → IsInUse e name other
was_in_use table e name id other next is (kept, own, named_is, found) = by (ids_eq other id)
  where
    x : IsExpiry table e name id next
    x = expiry_is table e name id next is

    by : (other ≡ id) ⊎ (other ≢ id) → IsInUse e name other
    by (inl same) = subst (λ (i : ℤ). IsInUse e name i) (sym same) (ends_in_use table e name id next is)
    by (inr apart) =
        let same : record { slot = x.kept.slot; key = x.kept.key; half = without_invocation id x.kept.half } ≡ kept =
        cc (x.now, named_is) in (
          x.kept,
          own,
          x.was,
          sym (found_apart _ _ x.kept.half.out (ids_apart other id apart))
              ∙ ap (λ (k : KeyedHalf). own_invocation k.half other) same ∙ found,
        )

pub not_in_use : (table : Table) (e : End) (name : HalfName) (id : ℤ) (next : End) → IsEnd e → expire table e name id ≡ Ok next
    → IsInUse next name id → ⊥
not_in_use table e name id next sound is (kept, own, named_is, found) =
    let x = expiry_is table e name id next is in
    let same : record { slot = x.kept.slot; key = x.kept.key; half = without_invocation id x.kept.half } ≡ kept =
    cc (x.now, named_is) in
    let rises = (sound.halves x.kept (named_has e name sound x.kept x.was)).out in
    let none = removed_gone id x.kept.half.out rises in
    let some : own_invocation (without_invocation id x.kept.half) id ≡ Some own =
    ap (λ (k : KeyedHalf). own_invocation k.half id) same ∙ found in cc

-- Two expiries may change places.
pub expire_before : (table : Table) (e : End) (name : HalfName) (x y : ℤ) (next last : End) → x ≢ y
    → expire table e name y ≡ Ok next → expire table next name x ≡ Ok last
    → (first : End) × (expire table e name x ≡ Ok first) × (expire table first name y ≡ Ok last)
expire_before table e name x y next last apart one two =
    (first, invoked_ends table e name x a.was a.is_open may_x, invoked_ends table first name y now a.is_open may_y ∙ ap Ok last_is)
  where
    a : IsExpiry table e name y next
    a = expiry_is table e name y next one

    b : IsExpiry table next name x last
    b = expiry_is table next name x last two

    h : Half
    h = a.kept.half

    first : End
    first = put e a.kept.slot a.kept.key (without_invocation x h)

    now : named first name ≡ Some (record { slot = a.kept.slot; key = a.kept.key; half = without_invocation x h })
    now = named_put e name a.kept (without_invocation x h) a.was refl refl

    between : record { slot = a.kept.slot; key = a.kept.key; half = without_invocation y h } ≡ b.kept
    between = cc (a.now, b.was)

    may_x : may_expire table (own_invocation h x) ≡ true
    may_x =
        ap (may_expire table)
        (sym (found_apart _ _ h.out (ids_apart x y apart)) ∙ ap (λ (k : KeyedHalf). own_invocation k.half x) between)
        ∙ b.may

    may_y : may_expire table (own_invocation (without_invocation x h) y) ≡ true
    may_y = ap (may_expire table) (found_apart _ _ h.out (ids_apart y x (λ same. apart (sym same)))) ∙ a.may

    same_half : without_invocation y (without_invocation x h) ≡ without_invocation x (without_invocation y h)
    same_half = ap (λ (out : List (ℤ × OwnInvocation)). record h { out = out })
        (removed_both (is_at (int_cmp y)) (is_at (int_cmp x)) h.out (ids_apart y x (λ same. apart (sym same))))

    last_is : put first a.kept.slot a.kept.key (without_invocation y (without_invocation x h)) ≡ last
    last_is =
        put_twice e a.kept.slot a.kept.key (without_invocation x h) (without_invocation y (without_invocation x h))
        ∙ ap (put e a.kept.slot a.kept.key) same_half
        ∙ sym (put_twice e a.kept.slot a.kept.key (without_invocation y h) (without_invocation x (without_invocation y h)))
        ∙ ap (λ (o : End). put o a.kept.slot a.kept.key (without_invocation x (without_invocation y h))) a.next_is
        ∙ ap (λ (k : KeyedHalf). put next k.slot k.key (without_invocation x k.half)) between
        ∙ b.next_is

pub in_use : (e : End) (name : HalfName) (id : ℤ) → IsInUse e name id ⊎ (IsInUse e name id → ⊥)
in_use e name id = by (named e name) refl
  where
    by_half : (kept : KeyedHalf) → named e name ≡ Some kept → (o : Option OwnInvocation) → own_invocation kept.half id ≡ o
        → IsInUse e name id ⊎ (IsInUse e name id → ⊥)
    by_half kept is None none = inr refuted
      where
        refuted : IsInUse e name id → ⊥
        refuted (other, own, other_is, found) =
            let same : kept ≡ other = cc (is, other_is) in
            let some : own_invocation kept.half id ≡ Some own = ap (λ (k : KeyedHalf). own_invocation k.half id) same ∙ found in cc
    by_half kept is (Some own) found = inl (kept, own, is, found)

    by : (o : Option KeyedHalf) → named e name ≡ o → IsInUse e name id ⊎ (IsInUse e name id → ⊥)
    by None none = inr refuted
      where
        refuted : IsInUse e name id → ⊥
        refuted (other, own, other_is, found) = cc (none, other_is)
    by (Some kept) is = by_half kept is (own_invocation kept.half id) refl

-- ---- several expiries

-- Expiries of these IDs lead from one end to another.
abbrev pub Expire : Table → HalfName → List ℤ → End → End → Type 0
Expire table name [] e last = e ≡ last
Expire table name (id ∷ ids) e last = (next : End) × (expire table e name id ≡ Ok next) × Expire table name ids next last

-- Each of these IDs was in use before.
pub all_in_use : (table : Table) (name : HalfName) (ids : List ℤ) (e last : End) (id : ℤ) → Expire table name ids e last
    → Contains ids id → IsInUse e name id
all_in_use table name [] e last id ran there = let lt = there.1 in absurd (omega arith)
all_in_use table name (x ∷ ids) e last id (next, is, ran) there =
    by (λ later. all_in_use table name ids next last id ran later) (contains_first x ids id there)
  where
    by : (Contains ids id → IsInUse next name id) → (x ≡ id) ⊎ Contains ids id → IsInUse e name id
    by rest (inl same) = subst (λ (i : ℤ). IsInUse e name i) same (ends_in_use table e name x next is)
    by rest (inr later) = was_in_use table e name x id next is (rest later)

-- An ID that was in use, and no longer is, is one of these IDs.
pub one_of_them : (table : Table) (name : HalfName) (ids : List ℤ) (e last : End) (id : ℤ) → Expire table name ids e last
    → IsInUse e name id → (IsInUse last name id → ⊥) → Contains ids id
one_of_them table name [] e last id ran had free = absurd (free (subst (λ (x : End). IsInUse x name id) ran had))
one_of_them table name (x ∷ ids) e last id (next, is, ran) had free =
    by (λ still. one_of_them table name ids next last id ran still free) (ids_eq id x)
  where
    by : (IsInUse next name id → Contains ids id) → (id ≡ x) ⊎ (id ≢ x) → Contains (x ∷ ids) id
    by rest (inl same) = (0, omega arith, sym same)
    by rest (inr apart) =
        Contains-append_right (x ∷ []) ids id (rest (stays_in_use table e name x id next is apart had))

-- This ID expires first, then the others.
pub record IsFirst (table : Table) (name : HalfName) (ids : List ℤ) (e last : End) (id : ℤ) : Type 0 where
  pub next : End
  pub others : List ℤ
  pub expires : expire table e name id ≡ Ok next
  pub ran : Expire table name others next last
  pub counted : length ids ≡ suc (length others)
  pub are : (x : ℤ) → Contains others x → Contains ids x

-- An ID that was in use, and no longer is, may expire first.
pub expires_first : (table : Table) (name : HalfName) (ids : List ℤ) (e last : End) (id : ℤ) → Expire table name ids e last
    → IsInUse e name id → (IsInUse last name id → ⊥) → IsFirst table name ids e last id
expires_first table name [] e last id ran had free = absurd (free (subst (λ (x : End). IsInUse x name id) ran had))
expires_first table name (x ∷ ids) e last id (next, is, ran) had free =
    by (λ still. expires_first table name ids next last id ran still free) (ids_eq id x)
  where
    among : (others : List ℤ) → ((i : ℤ) → Contains others i → Contains ids i) → (i : ℤ)
        → Contains (x ∷ others) i → Contains (x ∷ ids) i
    among others are i there = at (contains_first x others i there)
      where
        at : (x ≡ i) ⊎ Contains others i → Contains (x ∷ ids) i
        at (inl same) = (0, omega arith, same)
        at (inr later) = Contains-append_right (x ∷ []) ids i (are i later)

    by : (IsInUse next name id → IsFirst table name ids next last id) → (id ≡ x) ⊎ (id ≢ x)
        → IsFirst table name (x ∷ ids) e last id
    by rest (inl same) = record {
      next = next;
      others = ids;
      expires = subst (λ (i : ℤ). expire table e name i ≡ Ok next) (sym same) is;
      ran = ran;
      counted = refl;
      are = λ i there. Contains-append_right (x ∷ []) ids i there;
    }
    by rest (inr apart) =
        let later = rest (stays_in_use table e name x id next is apart had) in
        let (first, one, two) = expire_before table e name id x next later.next apart is later.expires in record {
          next = first;
          others = x ∷ later.others;
          expires = one;
          ran = (later.next, two, later.ran);
          counted = ap suc later.counted;
          are = among later.others later.are;
        }
