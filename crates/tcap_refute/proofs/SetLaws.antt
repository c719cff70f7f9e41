-- What a query finds in a set or map of notes with one more key.
use Rattle.std.proofs.Common.{◌≡◌, ℕ, Bool, true, false, cond, ◌&&◌, ◌||◌, List, [], ◌∷◌, Some, None, is_some, Vec, Global as Alloc, Ordering, Less, Equal, Greater, nat_cmp, refl, sym, ap, ◌∙◌, arith}
use Rattle.std.specs.BTreeMap.{BTreeMap, WritesThrough, is_at}
use Rattle.std.specs.BTreeSet.{insert_key}
use Rattle.std.specs.Cmp.Lexicographic.{slice_cmp}
use Rattle.std.specs.List.{list_any}
use Rattle.std.specs.Map.{lookup}
use Rattle.std.specs.Ordering.{match_ordering}
use Rattle.std.proofs.lemmas.Map.Lookups.{CmpEqualImpliesEq, exact_bytes}
use Rattle.std.proofs.lemmas.Map.Views.{tells_apart}
use Rattle.tcap_parts.specs.declared.code.Code.{Code}
use Rattle.tcap_parts.specs.declared.code.Code.TheVariants.{Local, Global}
use Rattle.tcap_end.specs.Component.{is_code}
use Rattle.tcap_refute.specs.declared.codes.CodeSets.{CodeSets}
use Rattle.tcap_refute.specs.KeptFacts.{holds, is_among}
use Rattle.tcap_refute.proofs.TestLaws.{or_none}

-- ---- sets

module _ {K : Type 0} (cmp : K → K → Ordering) (test : K → Bool) where
  less : (a b c : Bool) → (a || (b || c)) ≡ ((b || c) || a)
  less a b c = grind arith

  equal : (a b : Bool) → (a || b) ≡ ((a || b) || a)
  equal a b = grind arith

  greater : (a b c : Bool) → (a || (b || c)) ≡ ((a || b) || c)
  greater a b c = grind arith

  -- A set with one more key, if the test agrees on keys that are equal in the order.
  pub any_inserted : ((x y : K) → cmp x y ≡ Equal → test x ≡ test y) → (ks : List K) (k : K)
      → list_any test (insert_key cmp ks k) ≡ (list_any test ks || test k)
  any_inserted alike [] k = less (test k) false false
  any_inserted alike (x ∷ xs) k = grind (arith, any_inserted alike xs k)

-- ---- codes

abbrev vec_cmp : Vec ℕ Alloc → Vec ℕ Alloc → Ordering
vec_cmp a b = slice_cmp nat_cmp a.items b.items

-- One more global code.
pub global_added : (codes new : CodeSets) (octets : List ℕ) (vec : Vec ℕ Alloc) → vec.items ≡ octets
    → new.globals.keys ≡ insert_key vec_cmp codes.globals.keys vec → new.locals.keys ≡ codes.locals.keys
    → (other : Code) → is_among other new ≡ (is_among other codes || is_code other (Global octets))
global_added codes new octets vec its is same (Local m) = rw same (or_none _)
global_added codes new octets vec its is same (Global others) = rw (is, ← its)
    (any_inserted vec_cmp (is_at (λ k. slice_cmp nat_cmp others k.items))
    (λ x y e. ap (λ r. is_at (slice_cmp nat_cmp others) r) (exact_bytes x.items y.items e)) codes.globals.keys vec)

-- ---- maps

module _ {K A F : Type 0} {cmp : K → K → Ordering} (exact : CmpEqualImpliesEq cmp) (tell : F → A → Bool) where
  -- The facts that hold by the value at a key.
  abbrev pub told_at : List (K × A) → K → F → Bool
  told_at es q f = holds (tell f) (lookup (is_at (cmp q)) es)

  -- The value at one key changed.
  abbrev pub Puts : List (K × A) → List (K × A) → K → A → Type 0
  Puts old new k s = (q : K) → lookup (is_at (cmp q)) new ≡ cond (is_at (cmp k) q) (Some s) (lookup (is_at (cmp q)) old)

  -- The value at one key changed, and more facts hold by it.
  pub put : (shown : F → Bool) (old new : List (K × A)) (k : K) (s : A) → Puts old new k s
      → ((f : F) → tell f s ≡ (told_at old k f || shown f)) → (q : K) (f : F)
      → told_at new q f ≡ (told_at old q f || (is_at (cmp k) q && shown f))
  put shown old new k s is told q f = ap (holds (tell f)) (is q) ∙ by (is_at (cmp k) q) refl
    where
      by : (b : Bool) → is_at (cmp k) q ≡ b
          → holds (tell f) (cond b (Some s) (lookup (is_at (cmp q)) old)) ≡ (told_at old q f || (b && shown f))
      by true same = rw (← tells_apart exact k q same) (told f)
      by false apart = or_none _

  -- The key was there, and its value was overwritten.
  pub written : (shown : F → Bool) (old new : BTreeMap K A) (k : K) (was s : A)
      → Some was ≡ lookup (is_at (cmp k)) old.entries → WritesThrough cmp (cmp k) old s new → ((f : F) → tell f s ≡ (tell f was || shown f)) → (q : K) (f : F)
      → told_at new.entries q f ≡ (told_at old.entries q f || (is_at (cmp k) q && shown f))
  written shown old new k was s there writes told =
      put shown old.entries new.entries k s (writes.3 (sym (ap is_some there))).0
      (λ f. told f ∙ ap (λ o. holds (tell f) o || shown f) there)

  -- The key was not there, and was added.
  pub made : (shown : F → Bool) (old new : BTreeMap K A) (k : K) (fresh s : A)
      → None ≡ lookup (is_at (cmp k)) old.entries → Puts old.entries new.entries k s
      → ((f : F) → tell f fresh ≡ false) → ((f : F) → tell f s ≡ (tell f fresh || shown f))
      → (q : K) (f : F) → told_at new.entries q f ≡ (told_at old.entries q f || (is_at (cmp k) q && shown f))
  made shown old new k fresh s none puts nothing told =
      put shown old.entries new.entries k s puts
      (λ f. told f ∙ ap (λ b. b || shown f) (nothing f) ∙ ap (λ o. holds (tell f) o || shown f) none)
