-- The canonical spellings of headers, integers and parts of structures are spellings by the grammar.
use Rattle.std.proofs.Common.{◌≡◌, ◌≢◌, ℕ, ◌+◌, ◌-◌, ◌/◌, ◌%◌, ◌^◌, ◌<◌, ◌≤◌, ◌⊎◌, true, false, cond, List, [], ◌∷◌, ◌++◌, length, Option, Some, None, refl, sym, ap, subst, ◌∙◌, inl, inr, arith, ℤ, append_assoc}
use Rattle.std.specs.Prelude.{nat_lt, nat_le, pos, negsuc}
use Rattle.std.proofs.lemmas.Bool.{ltb-true, ltb-false, lt-ltb, le-ltb, leb-true}
use Rattle.std.proofs.lemmas.List.{append-nil}
use Rattle.tcap_ber.specs.Element.{IsElement, IsLength, number, content_limit}
use Rattle.tcap_ber.specs.Integer.{IsInteger, signed}
use Rattle.tcap_ber.specs.Grammar.{Field, Content, IsElementOf, BeginsWith, ended, ◌⨾▹◌, ◌⨾◌, single}
use Rattle.tcap_ber.specs.Choice.{Choice, IsOneOf}
use Rattle.tcap_ber.specs.Canonical.{shortest_length, shortest_header, element_around, ◌⧺◌, number_octets, magnitude, integer_len, integer_octets}
use Rattle.tcap_ber.proofs.Steps.{chosen}
use Rattle.tcap_ber.proofs.ElementLaws.{definite_element}

-- ---- headers

abbrev Side : ℕ → ℕ → Type 0
Side a b = (a < b) ⊎ (b ≤ a)

side : (a b : ℕ) → Side a b
side a b = elim (nat_lt a b) as (λ t. nat_lt a b ≡ t → Side a b) [ true ↦ λ e. inl (ltb-true a b e) | false ↦ λ e. inr (ltb-false a b e) ] refl

pub shortest_length_is_length : (n : ℕ) → n ≤ 65535 → IsLength n (shortest_length n)
shortest_length_is_length n w =
    elim (side n 128) [
      | inl h ↦ rw (lt-ltb n 128 h) (inl (h, refl, refl))
      | inr h ↦ elim (side n 256) [
        | inl k ↦ rw (le-ltb n 128 h, lt-ltb n 256 k) (inr (refl, omega arith, omega arith, omega arith))
        | inr k ↦ rw (le-ltb n 128 h, le-ltb n 256 k) (inr (refl, omega arith, omega arith, omega arith))
      ]
    ]

pub header_is_element : (tag : ℕ) (content : List ℕ) → tag % 32 ≢ 31 → length content ≤ content_limit → IsElement (tag ∷ []) content (shortest_header tag (length content) ++ content)
header_is_element tag content short w = definite_element (tag ∷ []) content (shortest_header tag (length content) ++ content) (record {
  length_octets = shortest_length (length content);
  is_tag = inl (short, refl);
  is_length = shortest_length_is_length (length content) w;
  is_within = w;
  joined = refl;
})

-- ---- integers

-- the octets written for a number
pub record Writes (n : ℤ) (count : ℕ) (octets : List ℕ) : Type 0 where
  pub is_integer : IsInteger octets
  pub count_is : length octets ≡ count
  pub value : signed octets ≡ n

-- octets below 128 at the front spell a non-negative number
signed-low : (first : ℕ) (more : List ℕ) (n : ℕ) → first < 128 → number (first ∷ more) ≡ n → signed (first ∷ more) ≡ pos n
signed-low first more n h e = rw (lt-ltb first 128 h) (ap pos e)

signed-high : (first : ℕ) (more : List ℕ) (n : ℕ) → 128 ≤ first → 256 ^ (1 + length more) - 1 - number (first ∷ more) ≡ n → signed (first ∷ more) ≡ negsuc n
signed-high first more n h e = rw (le-ltb first 128 h) (ap negsuc e)

one_low : (n : ℕ) → n < 0x80 → Writes (pos n) 1 (number_octets 1 n)
one_low n h = record { is_integer = tt; count_is = refl; value = signed-low (n % 256) [] n (omega arith) (omega arith) }

two_low : (n : ℕ) → 0x80 ≤ n → n < 0x8000 → Writes (pos n) 2 (number_octets 2 n)
two_low n l h = record {
  is_integer = (λ z. omega (arith, z.0, z.1), λ z. omega (arith, z.0, z.1));
  count_is = refl;
  value = signed-low (n / 256 % 256) (n % 256 ∷ []) n (omega arith) (omega arith);
}

three_low : (n : ℕ) → 0x8000 ≤ n → n < 0x800000 → Writes (pos n) 3 (number_octets 3 n)
three_low n l h = record {
  is_integer = (λ z. omega (arith, z.0, z.1), λ z. omega (arith, z.0, z.1));
  count_is = refl;
  value = signed-low (n / 256 / 256 % 256) (n / 256 % 256 ∷ n % 256 ∷ []) n (omega arith) (omega arith);
}

four_low : (n : ℕ) → 0x800000 ≤ n → n < 2 ^ 31 → Writes (pos n) 4 (number_octets 4 n)
four_low n l h = record {
  is_integer = (λ z. omega (arith, z.0, z.1), λ z. omega (arith, z.0, z.1));
  count_is = refl;
  value = signed-low (n / 256 / 256 / 256 % 256) (n / 256 / 256 % 256 ∷ n / 256 % 256 ∷ n % 256 ∷ []) n (omega arith) (omega arith);
}

one_high : (n : ℕ) → n < 0x80 → Writes (negsuc n) 1 (number_octets 1 (256 ^ 1 - 1 - n))
one_high n h = record { is_integer = tt; count_is = refl; value = signed-high ((256 ^ 1 - 1 - n) % 256) [] n (omega arith) (omega arith) }

-- t is the number written for -1 - n
two_high : (n t : ℕ) → 0x80 ≤ n → n < 0x8000 → t + n + 1 ≡ 65536 → Writes (negsuc n) 2 (number_octets 2 t)
two_high n t l h e = record {
  is_integer = (λ z. omega (arith, z.0, z.1), λ z. omega (arith, z.0, z.1));
  count_is = refl;
  value = signed-high (t / 256 % 256) (t % 256 ∷ []) n (omega arith) (omega arith);
}

three_high : (n t : ℕ) → 0x8000 ≤ n → n < 0x800000 → t + n + 1 ≡ 16777216 → Writes (negsuc n) 3 (number_octets 3 t)
three_high n t l h e = record {
  is_integer = (λ z. omega (arith, z.0, z.1), λ z. omega (arith, z.0, z.1));
  count_is = refl;
  value = signed-high (t / 256 / 256 % 256) (t / 256 % 256 ∷ t % 256 ∷ []) n (omega arith) (omega arith);
}

four_high : (n t : ℕ) → 0x800000 ≤ n → n < 2 ^ 31 → t + n + 1 ≡ 4294967296 → Writes (negsuc n) 4 (number_octets 4 t)
four_high n t l h e = record {
  is_integer = (λ z. omega (arith, z.0, z.1), λ z. omega (arith, z.0, z.1));
  count_is = refl;
  value = signed-high (t / 256 / 256 / 256 % 256) (t / 256 / 256 % 256 ∷ t / 256 % 256 ∷ t % 256 ∷ []) n (omega arith) (omega arith);
}

-- the octets written for a 32-bit number
pub integer_written : (n : ℤ) → magnitude n < 2 ^ 31 → Writes n (integer_len n) (integer_octets n)
integer_written (pos n) w =
    elim (side n 0x80) [
      | inl h ↦ rw (lt-ltb n 0x80 h) (one_low n h)
      | inr h ↦ elim (side n 0x8000) [
        | inl k ↦ rw (le-ltb n 0x80 h, lt-ltb n 0x8000 k) (two_low n h k)
        | inr k ↦ elim (side n 0x800000) [
          | inl l ↦ rw (le-ltb n 0x80 h, le-ltb n 0x8000 k, lt-ltb n 0x800000 l) (three_low n k l)
          | inr l ↦ rw (le-ltb n 0x80 h, le-ltb n 0x8000 k, le-ltb n 0x800000 l) (four_low n l w)
        ]
      ]
    ]
integer_written (negsuc n) w =
    elim (side n 0x80) [
      | inl h ↦ rw (lt-ltb n 0x80 h) (one_high n h)
      | inr h ↦ elim (side n 0x8000) [
        | inl k ↦ rw (le-ltb n 0x80 h, lt-ltb n 0x8000 k) (two_high n (256 ^ 2 - 1 - n) h k (omega arith))
        | inr k ↦ elim (side n 0x800000) [
          | inl l ↦ rw (le-ltb n 0x80 h, le-ltb n 0x8000 k, lt-ltb n 0x800000 l) (three_high n (256 ^ 3 - 1 - n) k l (omega arith))
          | inr l ↦ rw (le-ltb n 0x80 h, le-ltb n 0x8000 k, le-ltb n 0x800000 l) (four_high n (256 ^ 4 - 1 - n) l w (omega arith))
        ]
      ]
    ]

pub integer_is_integer : (n : ℤ) → magnitude n < 2 ^ 31 → IsInteger (integer_octets n)
integer_is_integer n w = (integer_written n w).is_integer

pub integer_is_signed : (n : ℤ) → magnitude n < 2 ^ 31 → signed (integer_octets n) ≡ n
integer_is_signed n w = (integer_written n w).value

at_most_four : (m : ℕ) → cond (nat_lt m 0x80) 1 (cond (nat_lt m 0x8000) 2 (cond (nat_lt m 0x800000) 3 4)) ≤ 4
at_most_four m =
    elim (side m 0x80) [
      | inl h ↦ rw (lt-ltb m 0x80 h) (omega arith)
      | inr h ↦ elim (side m 0x8000) [
        | inl k ↦ rw (le-ltb m 0x80 h, lt-ltb m 0x8000 k) (omega arith)
        | inr k ↦ elim (side m 0x800000) [
          | inl l ↦ rw (le-ltb m 0x80 h, le-ltb m 0x8000 k, lt-ltb m 0x800000 l) (omega arith)
          | inr l ↦ rw (le-ltb m 0x80 h, le-ltb m 0x8000 k, le-ltb m 0x800000 l) (omega arith)
        ]
      ]
    ]

pub integer_len-at_most_four : (n : ℤ) → integer_len n ≤ 4
integer_len-at_most_four n = at_most_four (magnitude n)

pub integer_at_most_four : (n : ℤ) → magnitude n < 2 ^ 31 → length (integer_octets n) ≤ 4
integer_at_most_four n w =
    let P : ℕ → Type 0 = λ k. k ≤ 4 in
    subst P (sym (integer_written n w).count_is) (integer_len-at_most_four n)

pub integer_one : (n : ℤ) → magnitude n < 0x80 → length (integer_octets n) ≡ 1
integer_one n h = (integer_written n (omega arith)).count_is ∙ rw (lt-ltb (magnitude n) 0x80 h) refl

-- ---- options

abbrev pub there : List ℕ → Option (List ℕ)
there x = Some x

-- the spelling of an element with this content
pub record IsAround (tag : ℕ) (x : Option (List ℕ)) (octets : List ℕ) : Type 0 where
  pub content : List ℕ
  pub is_some : x ≡ Some content
  pub within : length content ≤ content_limit
  pub octets_are : octets ≡ shortest_header tag (length content) ++ content

pub some_is : (x y : List ℕ) → there x ≡ there y → x ≡ y
some_is x y e = cc

pub element_around-is : (tag : ℕ) (x : Option (List ℕ)) (octets : List ℕ) → element_around tag x ≡ Some octets → IsAround tag x octets
element_around-is tag None octets e = absurd cc
element_around-is tag (Some content) octets e =
    elim (chosen (nat_le (length content) content_limit) (there (shortest_header tag (length content) ++ content)) None (Some octets) e) [
      | inl h ↦ record { content = content; is_some = refl; within = leb-true (length content) content_limit h.0; octets_are = sym (some_is _ octets h.1) }
      | inr h ↦ absurd cc
    ]

-- an element around a content that spells a value spells it too
pub element_around-spells : (tag : ℕ) (spells : List ℕ → Type 0) (x : Option (List ℕ)) (octets : List ℕ) → tag % 32 ≢ 31
    → ((content : List ℕ) → x ≡ Some content → spells content) → element_around tag x ≡ Some octets → IsElementOf tag spells octets
element_around-spells tag spells x octets short inside e =
    let a = element_around-is tag x octets e in
    record {
      content = a.content;
      is_element = subst (IsElement (tag ∷ []) a.content) (sym a.octets_are) (header_is_element tag a.content short a.within);
      inside = inside a.content a.is_some;
    }

-- the spelling of two parts
pub record IsJoin (x y : Option (List ℕ)) (octets : List ℕ) : Type 0 where
  pub front : List ℕ
  pub rest : List ℕ
  pub is_front : x ≡ Some front
  pub is_rest : y ≡ Some rest
  pub octets_are : octets ≡ front ++ rest

pub join-is : (x y : Option (List ℕ)) (octets : List ℕ) → x ⧺ y ≡ Some octets → IsJoin x y octets
join-is None y octets e = absurd cc
join-is (Some front) None octets e = absurd cc
join-is (Some front) (Some rest) octets e = record { front = front; rest = rest; is_front = refl; is_rest = refl; octets_are = sym (some_is (front ++ rest) octets e) }

-- an element around a given content
pub element_of-spells : (tag : ℕ) (spells : List ℕ → Type 0) (content octets : List ℕ) → tag % 32 ≢ 31 → spells content
    → element_around tag (Some content) ≡ Some octets → IsElementOf tag spells octets
element_of-spells tag spells content octets short inside e =
    element_around-spells tag spells (Some content) octets short (λ c k. subst spells (some_is content c k) inside) e

-- ---- choices

pub apart : {a b : ℕ} → a ≢ b → a ∷ [] ≢ b ∷ []
apart other e = other cc

-- an element around a content of the choice is one of the choice
pub one_around-spells : {V : Type 0} (choice : Choice V) (v : V) (tag : ℕ) (x : Option (List ℕ)) (octets : List ℕ) → tag % 32 ≢ 31
    → ((content : List ℕ) → x ≡ Some content → choice.spells v (tag ∷ []) content) → element_around tag x ≡ Some octets → IsOneOf choice v octets
one_around-spells choice v tag x octets short inside e =
    let a = element_around-spells tag (choice.spells v (tag ∷ [])) x octets short inside e in
    record { tag = tag ∷ []; content = a.content; is_element = a.is_element; inside = a.inside }

pub one_of-spells : {V : Type 0} (choice : Choice V) (v : V) (tag : ℕ) (content octets : List ℕ) → tag % 32 ≢ 31
    → choice.spells v (tag ∷ []) content → element_around tag (Some content) ≡ Some octets → IsOneOf choice v octets
one_of-spells choice v tag content octets short inside e =
    one_around-spells choice v tag (Some content) octets short (λ c k. subst (choice.spells v (tag ∷ [])) (some_is content c k) inside) e

-- ---- parts

-- an element begins with its tag
pub begins_with-tag : (tag other : ℕ) (x : Option (List ℕ)) (octets behind : List ℕ) → element_around tag x ≡ Some octets → BeginsWith other (octets ++ behind) → tag ≡ other
begins_with-tag tag other x octets behind e =
    subst (λ (o : List ℕ). BeginsWith other (o ++ behind) → tag ≡ other) (sym (element_around-is tag x octets e).octets_are) (λ begins. begins)

pub join_assoc : (x y z : Option (List ℕ)) → x ⧺ y ⧺ z ≡ x ⧺ (y ⧺ z)
join_assoc None y z = refl
join_assoc (Some a) None z = refl
join_assoc (Some a) (Some b) None = refl
join_assoc (Some a) (Some b) (Some c) = ap there (append_assoc a b c)

pub decides-spells : {V W : Type 0} (first : Field V) (others : V → Content W) (v : V) (w : W) (x y : Option (List ℕ)) (octets : List ℕ)
    → ((front rest : List ℕ) → x ≡ Some front → y ≡ Some rest → first.spells v front rest) → ((rest : List ℕ) → y ≡ Some rest → (others v).spells w rest)
    → x ⧺ y ≡ Some octets → (first ⨾▹ others).spells (v, w) octets
decides-spells first others v w x y octets is_first are_others e =
    let j = join-is x y octets e in
    record { front = j.front; rest = j.rest; joined = j.octets_are; is_first = is_first j.front j.rest j.is_front j.is_rest; are_others = are_others j.rest j.is_rest }

pub then-spells : {V W : Type 0} (first : Field V) (others : Content W) (v : V) (w : W) (x y : Option (List ℕ)) (octets : List ℕ)
    → ((front rest : List ℕ) → x ≡ Some front → y ≡ Some rest → first.spells v front rest) → ((rest : List ℕ) → y ≡ Some rest → others.spells w rest)
    → x ⧺ y ≡ Some octets → (first ⨾ others).spells (v, w) octets
then-spells first others = decides-spells first (λ _. others)

pub last-spells : {V : Type 0} (first : Field V) (v : V) (octets : List ℕ) → first.spells v octets [] → (first ⨾ ended).spells (v, tt) octets
last-spells first v octets is_first = record { front = octets; rest = []; joined = sym (append-nil octets); is_first = is_first; are_others = refl }

pub single-spells : {V : Type 0} (part : Field V) (v : V) (octets : List ℕ) → part.spells v octets [] → (single part).spells v octets
single-spells part v octets is_part = ((v, tt), refl, last-spells part v octets is_part)
