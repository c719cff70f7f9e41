-- The text of a certificate: what is written is read again, and what is read is within the limits.
use Rattle.std.proofs.Common.{◌≡◌, ◌≤◌, ℕ, ℤ, pos, negsuc, Bool, true, false, cond, nat_le, codes, length, List, [], ◌∷◌, map, Option, Some, None, option_map, option_and_then, Result, Ok, Err, IfOk, String, Global, string_bytes, bytes_eq, ◌&&◌, refl, ap, subst, ◌∙◌, arith, le-leb}
use Rattle.std.proofs.lemmas.Bool.{leb-true}
use Rattle.std.proofs.lemmas.Str.{IsUtf8-string_bytes}
use Rattle.std.proofs.lemmas.Option.{same_Some}
use Rattle.std.specs.List.{AllByRecursion}
use Rattle.serde_json.specs.Data.{Data, null, boolean, number, string, array, object, Items, no_items, item, Members, depth, items_depth}
use Rattle.serde_json.specs.Find.{get_member}
use Rattle.serde_json.specs.Read.{read}
use Rattle.serde_json.specs.Written.{compact_text, has_float, items_have_float}
use Rattle.tcap_record.specs.declared.entry.End.{End as Side}
use Rattle.tcap_record.specs.declared.entry.End.TheVariants.{A, B}
use Rattle.tcap_end.specs.TableText.{has_only, whole_in}
use Rattle.tcap_certificate.specs.declared.certificate.Closing.{Closing}
use Rattle.tcap_certificate.specs.declared.certificate.Expiry.{Expiry}
use Rattle.tcap_certificate.specs.declared.certificate.Fate.{Fate}
use Rattle.tcap_certificate.specs.declared.certificate.Fate.TheVariants.{Gap, Lost, By}
use Rattle.tcap_certificate.specs.Certificate.{Certificate}
use Rattle.tcap_certificate_text.specs.CertificateText.{IsCertificateText, certificate_by, certificate_keys, closing_by, expiry_by, is_version, list_in, side_at, certificate_data, certificate_in, closing_data, closing_in, each_in, expiry_data, expiry_in, fate_data, fate_in, items_of, list_at, number_by, number_data, number_in, number_at, side_data, side_in}
use Rattle.tcap_certificate.specs.Certificate.{IsInLimits, fates_limit, ClosingFits, ExpiryFits, FateFits, number_limit}

-- ---- what is written is read again

-- a number within the limit
number_again : (n : ℕ) → n ≤ 100000 → number_in (number_data n) ≡ Some n
number_again n h = rw (le-leb _ _ h) refl

-- an end
side_again : (side : Side) → side_in (side_data side) ≡ Some side
side_again A = refl
side_again B = refl

-- a fate within the limit
fate_again : (fate : Fate) → FateFits fate → fate_in (fate_data fate) ≡ Some fate
fate_again (Gap gap) h = rw (number_again gap h) refl
fate_again Lost h = refl
fate_again (By reply) h = rw (number_again reply h) refl

-- a closing within the limits
closing_again : (x : Closing) → ClosingFits x → closing_in (closing_data x) ≡ Some x
closing_again x h = rw (number_again x.gap h.0, side_again x.side, number_again x.entry h.1) refl

-- an expiry within the limits
expiry_again : (x : Expiry) → ExpiryFits x → expiry_in (expiry_data x) ≡ Some x
expiry_again x h =
    rw (number_again x.gap h.0, number_again x.component h.1, side_again x.side, number_again x.entry h.2) refl

-- a list whose items are read again
each_again : {A : Type 0} (P : A → Type 0) (one : Data → Option A) (back : A → Data)
    → ((x : A) → P x → one (back x) ≡ Some x) → (xs : List A) → AllByRecursion P xs
    → each_in one (items_of (map back xs)) ≡ Some xs
each_again P one back again [] h = refl
each_again P one back again (x ∷ xs) h = rw (again x h.0, each_again P one back again xs h.1) refl

-- The data written for a certificate within the limits represents it.
pub certificate_again : (c : Certificate) → IsInLimits c → certificate_in (certificate_data c) ≡ Some c
certificate_again c h =
    rw (
      each_again ClosingFits closing_in closing_data closing_again c.close h.closings,
      each_again ExpiryFits expiry_in expiry_data expiry_again c.expire h.expiries,
      each_again FateFits fate_in fate_data fate_again c.fates h.fates,
      le-leb _ _ h.count,
    ) refl

-- ---- what is read is within the limits

-- a whole number
number_by_fits : (z : ℤ) (n : ℕ) → number_by z ≡ Some n → n ≤ number_limit
number_by_fits (negsuc m) n e = absurd cc
number_by_fits (pos m) n e = by (nat_le m number_limit) refl e
  where
    by : (b : Bool) → nat_le m number_limit ≡ b → cond b (Some m) None ≡ Some n → n ≤ number_limit
    by false f g = absurd cc
    by true f g = subst (λ k. k ≤ number_limit) (same_Some _ _ g) (leb-true _ _ f)

-- a number of data
number_in_fits : (d : Data) (n : ℕ) → number_in d ≡ Some n → n ≤ number_limit
number_in_fits d n e = by (whole_in d) e
  where
    by : (o : Option ℤ) → option_and_then number_by o ≡ Some n → n ≤ number_limit
    by None f = absurd cc
    by (Some z) f = number_by_fits z n f

-- the number at a key
number_at_fits : (key : List ℕ) (members : Members) (n : ℕ) → number_at key members ≡ Some n → n ≤ number_limit
number_at_fits key members n e = by (get_member key members) e
  where
    by : (o : Option Data) → option_and_then number_in o ≡ Some n → n ≤ number_limit
    by None f = absurd cc
    by (Some d) f = number_in_fits d n f

-- a fate with such a number
some_fits : (make : ℕ → Fate) → ((n : ℕ) → n ≤ number_limit → FateFits (make n)) → (o : Option ℕ)
    → ((n : ℕ) → o ≡ Some n → n ≤ number_limit) → (fate : Fate) → option_map make o ≡ Some fate → FateFits fate
some_fits make fits None small fate e = absurd cc
some_fits make fits (Some n) small fate e = subst FateFits (same_Some _ _ e) (fits n (small n refl))

-- a fate
fate_fits : (d : Data) (fate : Fate) → fate_in d ≡ Some fate → FateFits fate
fate_fits null fate e = some_fits Gap (λ n h. h) (number_in null) (number_in_fits null) fate e
fate_fits (boolean b) fate e = some_fits Gap (λ n h. h) (number_in (boolean b)) (number_in_fits (boolean b)) fate e
fate_fits (number n) fate e = some_fits Gap (λ n h. h) (number_in (number n)) (number_in_fits (number n)) fate e
fate_fits (array ds) fate e = some_fits Gap (λ n h. h) (number_in (array ds)) (number_in_fits (array ds)) fate e
fate_fits (string text) fate e = by (bytes_eq text (codes "lost")) e
  where
    by : (b : Bool) → cond b (Some Lost) None ≡ Some fate → FateFits fate
    by true f = subst FateFits (same_Some _ _ f) tt
    by false f = absurd cc
fate_fits (object members) fate e = by (has_only (codes "by" ∷ []) members) e
  where
    by : (b : Bool) → cond b (option_map By (number_at (codes "by") members)) None ≡ Some fate → FateFits fate
    by true f = some_fits By (λ n h. h) (number_at (codes "by") members) (number_at_fits (codes "by") members) fate f
    by false f = absurd cc

-- a closing of numbers within the limit
closing_by_fits : (gap : Option ℕ) (side : Option Side) (entry : Option ℕ) (x : Closing)
    → ((n : ℕ) → gap ≡ Some n → n ≤ number_limit) → ((n : ℕ) → entry ≡ Some n → n ≤ number_limit)
    → closing_by gap side entry ≡ Some x → ClosingFits x
closing_by_fits (Some gap) (Some side) (Some entry) x g h e =
    subst ClosingFits (same_Some _ _ e) (g gap refl, h entry refl)
closing_by_fits None side entry x g h e = absurd cc
closing_by_fits (Some gap) None entry x g h e = absurd cc
closing_by_fits (Some gap) (Some side) None x g h e = absurd cc

-- a closing
closing_fits : (d : Data) (x : Closing) → closing_in d ≡ Some x → ClosingFits x
closing_fits null x e = absurd cc
closing_fits (boolean b) x e = absurd cc
closing_fits (number n) x e = absurd cc
closing_fits (string s) x e = absurd cc
closing_fits (array ds) x e = absurd cc
closing_fits (object members) x e = by (has_only (codes "at" ∷ codes "end" ∷ codes "entry" ∷ []) members) e
  where
    by : (b : Bool) → cond b (closing_by (number_at (codes "at") members) (side_at (codes "end") members)
        (number_at (codes "entry") members)) None ≡ Some x → ClosingFits x
    by true f = closing_by_fits _ _ _ x (number_at_fits (codes "at") members) (number_at_fits (codes "entry") members) f
    by false f = absurd cc

-- an expiry of numbers within the limit
expiry_by_fits : (gap component : Option ℕ) (side : Option Side) (entry : Option ℕ) (x : Expiry)
    → ((n : ℕ) → gap ≡ Some n → n ≤ number_limit) → ((n : ℕ) → component ≡ Some n → n ≤ number_limit)
    → ((n : ℕ) → entry ≡ Some n → n ≤ number_limit) → expiry_by gap component side entry ≡ Some x → ExpiryFits x
expiry_by_fits (Some gap) (Some component) (Some side) (Some entry) x g h i e =
    subst ExpiryFits (same_Some _ _ e) (g gap refl, h component refl, i entry refl)
expiry_by_fits None component side entry x g h i e = absurd cc
expiry_by_fits (Some gap) None side entry x g h i e = absurd cc
expiry_by_fits (Some gap) (Some component) None entry x g h i e = absurd cc
expiry_by_fits (Some gap) (Some component) (Some side) None x g h i e = absurd cc

-- an expiry
expiry_fits : (d : Data) (x : Expiry) → expiry_in d ≡ Some x → ExpiryFits x
expiry_fits null x e = absurd cc
expiry_fits (boolean b) x e = absurd cc
expiry_fits (number n) x e = absurd cc
expiry_fits (string s) x e = absurd cc
expiry_fits (array ds) x e = absurd cc
expiry_fits (object members) x e =
    by (has_only (codes "at" ∷ codes "component" ∷ codes "end" ∷ codes "entry" ∷ []) members) e
  where
    by : (b : Bool) → cond b (expiry_by (number_at (codes "at") members) (number_at (codes "component") members)
        (side_at (codes "end") members) (number_at (codes "entry") members)) None ≡ Some x → ExpiryFits x
    by true f = expiry_by_fits _ _ _ _ x (number_at_fits (codes "at") members)
        (number_at_fits (codes "component") members) (number_at_fits (codes "entry") members) f
    by false f = absurd cc

module _ {A : Type 0} (P : A → Type 0) (one : Data → Option A) (fits : (d : Data) (x : A) → one d ≡ Some x → P x) where
  -- a list whose items are within the limits
  each_fits : (ds : Items) (xs : List A) → each_in one ds ≡ Some xs → AllByRecursion P xs
  each_fits no_items xs e = subst (AllByRecursion P) (same_Some _ _ e) tt
  each_fits (item d ds) xs e = by (one d) (each_in one ds) refl (each_fits ds) e
    where
      by : (o : Option A) (r : Option (List A)) → one d ≡ o → ((rest : List A) → r ≡ Some rest → AllByRecursion P rest)
          → option_and_then (λ first. option_map (λ rest. first ∷ rest) r) o ≡ Some xs → AllByRecursion P xs
      by None r f g h = absurd cc
      by (Some x) None f g h = absurd cc
      by (Some x) (Some rest) f g h = subst (AllByRecursion P) (same_Some _ _ h) (fits d x f, g rest refl)

  -- data that is such a list
  list_fits : (d : Data) (xs : List A) → list_in one d ≡ Some xs → AllByRecursion P xs
  list_fits null xs e = absurd cc
  list_fits (boolean b) xs e = absurd cc
  list_fits (number n) xs e = absurd cc
  list_fits (string s) xs e = absurd cc
  list_fits (object ms) xs e = absurd cc
  list_fits (array ds) xs e = each_fits ds xs e

  -- the list at a key
  list_at_fits : (key : List ℕ) (members : Members) (xs : List A) → list_at one key members ≡ Some xs
      → AllByRecursion P xs
  list_at_fits key members xs e = by (get_member key members) e
    where
      by : (o : Option Data) → option_and_then (list_in one) o ≡ Some xs → AllByRecursion P xs
      by None f = absurd cc
      by (Some d) f = list_fits d xs f

-- The lists of a certificate are within the limits.
pub lists_fit : (members : Members) (close : List Closing) (expire : List Expiry) (fates : List Fate)
    → list_at closing_in (codes "close") members ≡ Some close
    → list_at expiry_in (codes "expire") members ≡ Some expire
    → list_at fate_in (codes "fates") members ≡ Some fates
    → length fates ≤ fates_limit → IsInLimits (record { fates = fates; expire = expire; close = close })
lists_fit members close expire fates e f g h = record {
  count = h;
  fates = list_at_fits FateFits fate_in fate_fits (codes "fates") members fates g;
  closings = list_at_fits ClosingFits closing_in closing_fits (codes "close") members close e;
  expiries = list_at_fits ExpiryFits expiry_in expiry_fits (codes "expire") members expire f;
}

-- a certificate of such lists
certificate_by_fits : (members : Members) (close : Option (List Closing)) (expire : Option (List Expiry))
    (fates : Option (List Fate)) (c : Certificate)
    → list_at closing_in (codes "close") members ≡ close
    → list_at expiry_in (codes "expire") members ≡ expire
    → list_at fate_in (codes "fates") members ≡ fates
    → certificate_by close expire fates ≡ Some c → IsInLimits c
certificate_by_fits ms None expire fates c e f g h = absurd cc
certificate_by_fits ms (Some close) None fates c e f g h = absurd cc
certificate_by_fits ms (Some close) (Some expire) None c e f g h = absurd cc
certificate_by_fits members (Some close) (Some expire) (Some fates) c e f g h =
    by (nat_le (length fates) fates_limit) refl h
  where
    made : Certificate
    made = record { fates = fates; expire = expire; close = close }

    by : (b : Bool) → nat_le (length fates) fates_limit ≡ b → cond b (Some made) None ≡ Some c → IsInLimits c
    by false i j = absurd cc
    by true i j = subst IsInLimits (same_Some _ _ j) (lists_fit members close expire fates e f g (leb-true _ _ i))

-- A certificate that data represents is within the limits.
pub certificate_fits : (d : Data) (c : Certificate) → certificate_in d ≡ Some c → IsInLimits c
certificate_fits null c e = absurd cc
certificate_fits (boolean b) c e = absurd cc
certificate_fits (number n) c e = absurd cc
certificate_fits (string s) c e = absurd cc
certificate_fits (array ds) c e = absurd cc
certificate_fits (object members) c e =
    by (has_only certificate_keys members && is_version (number_at (codes "version") members)) e
  where
    by : (b : Bool) → cond b (certificate_by (list_at closing_in (codes "close") members)
        (list_at expiry_in (codes "expire") members) (list_at fate_in (codes "fates") members)) None ≡ Some c
        → IsInLimits c
    by true f = certificate_by_fits members _ _ _ c refl refl refl f
    by false f = absurd cc

-- ---- what is written has no float, and is shallow

-- a list whose items have no float
items_plain : {A : Type 0} (back : A → Data) → ((x : A) → has_float (back x) ≡ false) → (xs : List A)
    → items_have_float (items_of (map back xs)) ≡ false
items_plain back plain [] = refl
items_plain back plain (x ∷ xs) = rw (plain x, items_plain back plain xs) refl

-- the data of a fate
fate_plain : (fate : Fate) → has_float (fate_data fate) ≡ false
fate_plain (Gap gap) = refl
fate_plain Lost = refl
fate_plain (By reply) = refl

-- the data of an end
side_plain : (side : Side) → has_float (side_data side) ≡ false
side_plain A = refl
side_plain B = refl

-- The data of a certificate has no float.
pub certificate_plain : (c : Certificate) → has_float (certificate_data c) ≡ false
certificate_plain c =
    rw (
      items_plain closing_data (λ x. rw (side_plain x.side) refl) c.close,
      items_plain expiry_data (λ x. rw (side_plain x.side) refl) c.expire,
      items_plain fate_data fate_plain c.fates,
    ) refl

-- a list whose items have depth 1 at most
items_shallow : {A : Type 0} (back : A → Data) → ((x : A) → depth (back x) ≤ 1) → (xs : List A)
    → items_depth (items_of (map back xs)) ≤ 1
items_shallow back shallow [] = omega arith
items_shallow back shallow (x ∷ xs) = omega (arith, shallow x, items_shallow back shallow xs)

-- the data of a fate has depth 1 at most
fate_shallow : (fate : Fate) → depth (fate_data fate) ≤ 1
fate_shallow (Gap gap) = omega arith
fate_shallow Lost = omega arith
fate_shallow (By reply) = omega arith

-- the data of an end has depth 0
side_shallow : (side : Side) → depth (side_data side) ≡ 0
side_shallow A = refl
side_shallow B = refl

-- The data of a certificate is shallow.
pub certificate_shallow : (c : Certificate) → depth (certificate_data c) ≤ 127
certificate_shallow c =
    omega (
      arith,
      items_shallow closing_data (λ x. rw (side_shallow x.side) (omega arith)) c.close,
      items_shallow expiry_data (λ x. rw (side_shallow x.side) (omega arith)) c.expire,
      items_shallow fate_data fate_shallow c.fates,
    )

-- the text of a certificate's data
pub text_written : {E : Type 0} (d : Data) (c : Certificate) (r : Result (String Global) E) → d ≡ certificate_data c
    → IfOk r (λ s. has_float d ≡ false → string_bytes s ≡ compact_text d)
    → IfOk r (λ s. string_bytes s ≡ compact_text (certificate_data c))
text_written d c (Err e) is text = tt
text_written d c (Ok s) is text = text (ap has_float is ∙ certificate_plain c) ∙ ap compact_text is

-- The text of the data of a certificate within the limits represents it.
pub text_read : {E : Type 0} (d : Data) (c : Certificate) (r : Result (String Global) E) → d ≡ certificate_data c
    → IsInLimits c → IfOk r (λ s. depth d ≤ 127 → read (string_bytes s) ≡ Some d)
    → IfOk r (λ s. IsCertificateText (string_bytes s) c)
text_read d c (Err e) is inside back = tt
text_read d c (Ok s) is inside back = (
  d,
  (IsUtf8-string_bytes s, back (rw is (certificate_shallow c))),
  ap certificate_in is ∙ certificate_again c inside,
)
