-- Reading the compact text of a certificate from its front.
use Rattle.std.proofs.Common.{◌≡◌, ◌⊎◌, inl, inr, ◌≤◌, ◌<◌, ◌+◌, ◌-◌, ◌*◌, ◌/◌, ◌%◌, ℕ, suc, true, false, codes, map, List, [], ◌∷◌, ◌++◌, length, take, drop, get_or, decimal, Option, Some, None, IfSome, MatchOption, Bor, refl, ap, subst, sym, ◌∙◌, arith, append_assoc, take_all}
use Rattle.std.specs.List.{AllByRecursion}
use Rattle.serde_json.specs.Data.{Data, object, member, no_members}
use Rattle.serde_json.specs.Written.{compact_text, items_text}
use Rattle.json.specs.Lex.{lex, between}
use Rattle.json.specs.Word.{ends_word}
use Rattle.json.specs.Print.{escape_byte}
use Rattle.json.proofs.Printed.Utf8.{IsUtf8-are_ascii, are_ascii}
use Rattle.tcap_certificate.specs.declared.certificate.Expiry.{Expiry}
use Rattle.tcap_certificate.specs.Certificate.{Certificate}
use Rattle.tcap_certificate_text.specs.CertificateText.{IsCertificateText, closing_data, expiry_data, fate_data, items_of, list_data, number_data, side_data, version}
use Rattle.tcap_certificate.specs.Certificate.{IsInLimits}
use Rattle.tcap_certificate_text.proofs.WrittenLaws.{certificate_said}
use Rattle.std.proofs.lemmas.Fmt.{decimal_digit, decimal_step}

-- ---- octets

-- octets are the first and the rest
pub first_then : (octet : ℕ) (octets : List ℕ) → 1 ≤ length octets → get_or octets 0 0 ≡ octet
    → octets ≡ octet ∷ take (length octets - 1) (drop 1 octets)
first_then octet [] some is = absurd (omega arith)
first_then octet (x ∷ more) some is =
    rw is (ap (λ l. octet ∷ l) (sym (take_all (suc (length more) - 1) more (omega arith))))

-- the value found, if one of two facts holds
pub found : (P : Type 0) (Q : Bor (List ℕ) → Type 0) (o : Option (Bor (List ℕ))) → MatchOption o P Q → IfSome o Q
found P Q None h = tt
found P Q (Some x) h = h

-- ---- numbers

-- the digits of a number with one more digit
decimal_more : (n digit : ℕ) → 0 < n → n ≤ 100000 → digit < 10
    → decimal (n * 10 + digit) ≡ decimal n ++ (48 + digit) ∷ []
decimal_more n digit above within small =
    let tens : (n * 10 + digit) / 10 ≡ n = omega arith in
    let ones : (n * 10 + digit) % 10 ≡ digit = omega arith in
    rw (decimal_step (n * 10 + digit) (omega arith) (omega arith), tens, ones) refl

-- a digit moves from the octets to the number
pub digit_taken : (n m : ℕ) (octets : List ℕ) → 0 < n → n ≤ 100000 → 1 ≤ length octets
    → 48 ≤ get_or octets 0 0 → get_or octets 0 0 < 58 → m ≡ n * 10 + (get_or octets 0 0 - 48)
    → decimal n ++ octets ≡ decimal m ++ take (length octets - 1) (drop 1 octets)
digit_taken n m octets above within some low high is =
    let digit = get_or octets 0 0 - 48 in
    let more = take (length octets - 1) (drop 1 octets) in
    let octet : get_or octets 0 0 ≡ 48 + digit = omega arith in
    ap (λ l. decimal n ++ l) (first_then (48 + digit) octets some octet)
    ∙ sym (ap (λ k. decimal k ++ more) is ∙ ap (λ l. l ++ more) (decimal_more n digit above within (omega arith))
    ∙ append_assoc (decimal n) ((48 + digit) ∷ []) more)

-- the first digit of a number
pub digit_first : (m : ℕ) (octets : List ℕ) → 1 ≤ length octets → 48 ≤ get_or octets 0 0 → get_or octets 0 0 < 58
    → m ≡ get_or octets 0 0 - 48 → octets ≡ decimal m ++ take (length octets - 1) (drop 1 octets)
digit_first m octets some low high is =
    first_then (48 + m) octets some (omega arith)
    ∙ ap (λ l. l ++ take (length octets - 1) (drop 1 octets)) (sym (decimal_digit m (omega arith)))

-- ---- lists

module _ {A : Type 0} (one : A → Data) where
  -- items, each followed by a comma
  abbrev pub led : List A → List ℕ
  led [] = []
  led (x ∷ xs) = compact_text (one x) ++ 44 ∷ led xs

  -- one more item
  pub led_more : (xs : List A) (x : A) → led (xs ++ x ∷ []) ≡ led xs ++ (compact_text (one x) ++ 44 ∷ [])
  led_more [] x = refl
  led_more (y ∷ xs) x =
      ap (λ l. compact_text (one y) ++ 44 ∷ l) (led_more xs x) ∙ sym (append_assoc (compact_text (one y)) _ _)

  -- after the first item, the others begin with a comma
  later_comma : (xs : List A) (x : A)
      → items_text true (items_of (map one (xs ++ x ∷ []))) ≡ 44 ∷ items_text false (items_of (map one (xs ++ x ∷ [])))
  later_comma [] x = refl
  later_comma (y ∷ xs) x = refl

  -- the text of a list that ends with this item
  pub list_ends : (xs : List A) (x : A)
      → items_text false (items_of (map one (xs ++ x ∷ []))) ≡ led xs ++ (compact_text (one x) ++ 93 ∷ [])
  list_ends [] x = refl
  list_ends (y ∷ xs) x =
      ap (λ l. compact_text (one y) ++ l) (later_comma xs x ∙ ap (λ l. 44 ∷ l) (list_ends xs x))
      ∙ sym (append_assoc (compact_text (one y)) _ _)

  -- an item with its comma is read
  pub part_taken : (octets left rest more : List ℕ) (xs ys : List A) (x : A) → octets ≡ 91 ∷ (led xs ++ left)
      → left ≡ compact_text (one x) ++ rest → rest ≡ 44 ∷ more → ys ≡ xs ++ x ∷ [] → octets ≡ 91 ∷ (led ys ++ more)
  part_taken octets left rest more xs ys x e f g h = rw (e, f, g, h, led_more xs x) (simp append_assoc)

  -- the last item with its bracket is read
  pub list_taken : (octets left rest more : List ℕ) (xs ys : List A) (x : A) → octets ≡ 91 ∷ (led xs ++ left)
      → left ≡ compact_text (one x) ++ rest → rest ≡ 93 ∷ more → ys ≡ xs ++ x ∷ []
      → octets ≡ compact_text (list_data one ys) ++ more
  list_taken octets left rest more xs ys x e f g h = rw (e, f, g, h, list_ends xs x) (simp append_assoc)

-- a property of all items, with one more
pub all_more : {A : Type 0} (P : A → Type 0) (xs ys : List A) (x : A) → AllByRecursion P xs → P x → ys ≡ xs ++ x ∷ []
    → AllByRecursion P ys
all_more {A = A} P xs ys x each last e = subst (AllByRecursion P) (sym e) (by xs each)
  where
    by : (zs : List A) → AllByRecursion P zs → AllByRecursion P (zs ++ x ∷ [])
    by [] h = (last, tt)
    by (z ∷ zs) h = (h.0, by zs h.1)

-- ---- expiries

-- the pieces of an expiry, in order
pub expiry_joined : (x : Expiry) (octets a b c d e rest : List ℕ) → octets ≡ codes "{\"at\":" ++ (decimal x.gap ++ a)
    → a ≡ codes ",\"component\":" ++ (decimal x.component ++ b) → b ≡ codes ",\"end\":" ++ c
    → c ≡ compact_text (side_data x.side) ++ d → d ≡ codes ",\"entry\":" ++ (decimal x.entry ++ e) → e ≡ codes "}" ++ rest
    → octets ≡ compact_text (expiry_data x) ++ rest
unfolding escape_byte
expiry_joined x octets a b c d e rest p q r s t u = rw (p, q, r, s, t, u) (simp append_assoc)

-- ---- certificates

-- the gap moves over a key and its value
over : (key text more gap rest : List ℕ) → rest ≡ more ++ gap → key ++ (text ++ rest) ≡ (key ++ (text ++ more)) ++ gap
over key text more gap rest e = rw e (simp append_assoc)

-- the pieces of an object with the keys of a certificate, in order
joined : (gap : List ℕ) (close expire fates : Data) (octets x y z : List ℕ)
    → octets ≡ codes "{\"close\":" ++ (compact_text close ++ x) → x ≡ codes ",\"expire\":" ++ (compact_text expire ++ y)
    → y ≡ codes ",\"fates\":" ++ (compact_text fates ++ z) → z ≡ codes ",\"version\":1}" ++ gap
    → octets ≡ compact_text (object (member (codes "close") close (member (codes "expire") expire
    (member (codes "fates") fates (member (codes "version") (number_data version) no_members))))) ++ gap
unfolding escape_byte
joined gap close expire fates octets x y z p q r s =
    let end = codes ",\"version\":1}" in
    let last = codes ",\"fates\":" ++ (compact_text fates ++ end) in
    let later = codes ",\"expire\":" ++ (compact_text expire ++ last) in
    let at_fates = r ∙ over (codes ",\"fates\":") (compact_text fates) end gap z s in
    let at_expire = q ∙ over (codes ",\"expire\":") (compact_text expire) last gap y at_fates in
    rw (decimal_digit 1 (omega arith)) (p ∙ over (codes "{\"close\":") (compact_text close) later gap x at_expire)

-- the pieces of a certificate, with a gap after them, represent it
pieces_behind : (gap : List ℕ) (c : Certificate) (octets x y z : List ℕ) → ends_word gap ≡ true → lex between gap ≡ []
    → are_ascii gap ≡ true → IsInLimits c
    → octets ≡ codes "{\"close\":" ++ (compact_text (list_data closing_data c.close) ++ x)
    → x ≡ codes ",\"expire\":" ++ (compact_text (list_data expiry_data c.expire) ++ y)
    → y ≡ codes ",\"fates\":" ++ (compact_text (list_data fate_data c.fates) ++ z)
    → z ≡ codes ",\"version\":1}" ++ gap → IsCertificateText octets c
pieces_behind gap c octets x y z ended no_lexeme ascii h p q r s =
    let close = list_data closing_data c.close in
    let expire = list_data expiry_data c.expire in
    let is = joined gap close expire (list_data fate_data c.fates) octets x y z p q r s in
    subst (λ l. IsCertificateText l c) (sym is) (certificate_said gap c ended no_lexeme (IsUtf8-are_ascii gap ascii) h)

-- The pieces of a certificate, with or without a line feed, represent it.
pub pieces_say : (c : Certificate) (octets x y z : List ℕ) → IsInLimits c
    → octets ≡ codes "{\"close\":" ++ (compact_text (list_data closing_data c.close) ++ x)
    → x ≡ codes ",\"expire\":" ++ (compact_text (list_data expiry_data c.expire) ++ y)
    → y ≡ codes ",\"fates\":" ++ (compact_text (list_data fate_data c.fates) ++ z)
    → (z ≡ codes ",\"version\":1}") ⊎ (z ≡ codes ",\"version\":1}\n") → IsCertificateText octets c
unfolding lex
pieces_say c octets x y z h p q r (inl s) = pieces_behind [] c octets x y z refl refl refl h p q r s
pieces_say c octets x y z h p q r (inr s) = pieces_behind (10 ∷ []) c octets x y z refl refl refl h p q r s
