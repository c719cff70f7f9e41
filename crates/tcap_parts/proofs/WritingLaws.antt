-- The lengths and the octets of parts and components, as the code counts and writes them.
use Rattle.std.proofs.Common.{◌≡◌, ℕ, ◌+◌, ◌≤◌, List, ◌∷◌, length, Option, Some, None, Result, Ok, Err, OnOk, nat_le, refl, sym, ap, subst, ◌∙◌, inl, inr, arith}
use Rattle.std.specs.Option.{option_map, IsSome}
use Rattle.std.specs.Io.KnownBytes.{Appends}
use Rattle.std.proofs.KnownBytes.{Appends-trans}
use Rattle.std.proofs.lemmas.Bool.{leb-true}
use Rattle.tcap_ber.specs.Canonical.{◌⧺◌, element_around, shortest_header}
use Rattle.tcap_ber.specs.Device.{Takes}
use Rattle.tcap_ber.specs.declared.device.Failed.{Failed}
use Rattle.tcap_ber.proofs.Steps.{chosen}
use Rattle.tcap_ber.proofs.CanonicalLaws.{some_is, element_around-is, join-is}
use Rattle.tcap_ber.proofs.PutLaws.{some_same, join_len, some_there}
use Rattle.tcap_parts.specs.declared.component.Component.{Component}
use Rattle.tcap_parts.specs.Canonical.{canonical_component, canonical_components, canonical_portion, within_limit}
use Rattle.tcap_parts.specs.Writing.{Written}

-- ---- lengths of parts

-- the length of two parts
pub joined_len : (x y : Option (List ℕ)) (n m : ℕ) → option_map length x ≡ Some n → Some m ≡ option_map length y → Some (n + m) ≡ option_map length (x ⧺ y)
joined_len x y n m first second = sym (join_len x y n m first (sym second))

-- the length of an element with a content of that length
pub around_of : (tag n : ℕ) (x : Option (List ℕ)) (r : Option ℕ) → Some n ≡ option_map length x
    → ((tag : ℕ) (content : List ℕ) → n ≡ length content → r ≡ option_map length (element_around tag (Some content))) → r ≡ option_map length (element_around tag x)
around_of tag n None r e by = absurd cc
around_of tag n (Some content) r e by = by tag content (some_same n (length content) e)

-- the content of an element that exists is within the limit
pub inside_within : (tag n : ℕ) (x : Option (List ℕ)) → IsSome (element_around tag x) → Some n ≡ option_map length x → n ≤ 65535
inside_within tag n x some len =
    let it = some_there (element_around tag x) some in
    let a = element_around-is tag x it.0 it.1 in
    omega (arith, a.within, some_same n (length a.content) (len ∙ ap (option_map length) a.is_some))

-- ---- written parts

-- one part and then another
pub both_written : (x y : Option (List ℕ)) (a b c : Option (List ℕ)) → Written x a b → Written y b c → Written (x ⧺ y) a c
both_written x y a b c first second =
    λ octets e.
    let j = join-is x y octets e in
    subst (Appends a c) (sym j.octets_are) (Appends-trans a b c j.front j.rest (first j.front j.is_front) (second j.rest j.is_rest))

pub joined_written : (x y : Option (List ℕ)) (a b c : Option (List ℕ)) (r : Result (Unit {0}) Failed) → Written x a b → OnOk r (Written y b c) → OnOk r (Written (x ⧺ y) a c)
joined_written x y a b c (Err _) first second = tt
joined_written x y a b c (Ok _) first second = both_written x y a b c first second

-- octets that need no spelling
pub taken_written : (octets : List ℕ) (a b : Option (List ℕ)) (r : Result (Unit {0}) Failed) → Takes a b r octets → OnOk r (Written (Some octets) a b)
taken_written octets a b (Err _) taken = tt
taken_written octets a b (Ok _) taken = λ same e. subst (Appends a b) (some_is octets same e) taken

-- a header, and then the content of the length that it announces
pub around_written : (tag n : ℕ) (x : Option (List ℕ)) (a b c : Option (List ℕ)) (r : Result (Unit {0}) Failed) → Some n ≡ option_map length x
    → Appends a b (shortest_header tag n) → OnOk r (Written x b c) → OnOk r (Written (element_around tag x) a c)
around_written tag n x a b c (Err _) len header content = tt
around_written tag n x a b c (Ok _) len header content =
    λ octets e.
    let it = element_around-is tag x octets e in
    let same : n ≡ length it.content = some_same n (length it.content) (len ∙ ap (option_map length) it.is_some) in
    let front = subst (λ (m : ℕ). Appends a b (shortest_header tag m)) same header in
    subst (Appends a c) (sym it.octets_are) (Appends-trans a b c (shortest_header tag (length it.content)) it.content front (content it.content it.is_some))

-- ---- components one after the other

within_is : (x : Option (List ℕ)) (octets : List ℕ) → within_limit x ≡ Some octets → length octets ≤ 65535
within_is None octets e = absurd cc
within_is (Some a) octets e =
    elim (chosen (nat_le (length a) 65535) (Some a) None (Some octets) e) [
      | inl h ↦ omega (arith, leb-true (length a) 65535 h.0, ap length (some_is a octets h.1))
      | inr h ↦ absurd cc
    ]

pub portion_within : (components : List Component) (octets : List ℕ) → canonical_portion components ≡ Some octets → length octets ≤ 65535
portion_within components octets e = within_is (canonical_components components) octets e

-- ---- components counted

-- the components so far have `total` octets, and those left have the others
abbrev pub Counted : List Component → ℕ → List Component → Type 0
Counted components total left = option_map length (canonical_components components) ≡ option_map (λ n. total + n) (option_map length (canonical_components left))

-- ---- components written

-- the components left can be written, and then all are written
pub record Wrote (components left : List Component) (old new : Option (List ℕ)) : Type 0 where
  pub some : IsSome (canonical_components left)
  pub all : (after : Option (List ℕ)) → Written (canonical_components left) new after → Written (canonical_components components) old after

pub rest_there : (x y : Option (List ℕ)) → IsSome (x ⧺ y) → IsSome y
rest_there None y some = absurd cc
rest_there (Some a) None some = some
rest_there (Some a) (Some b) some = refl

pub wrote_next : (components left : List Component) (old between new : Option (List ℕ)) (c : Component) (rest : List Component) → Wrote components left old between → left ≡ c ∷ rest
    → Written (canonical_component c) between new → Wrote components rest old new
wrote_next components left old between new c rest before e here = record {
  some = rest_there (canonical_component c) (canonical_components rest) (subst (λ (x : List Component). IsSome (canonical_components x)) e before.some);
  all = λ after h. before.all after (subst (λ (x : List Component). Written (canonical_components x) between after) (sym e)
      (both_written (canonical_component c) (canonical_components rest) between new after here h));
}
