-- How each part of a table is read from JSON data.
use Rattle.std.proofs.Common.{suc, unwrap_or, le-leb, ◌≡◌, ℕ, ◌<◌, ◌≤◌, Bool, true, false, ◌↔◌, ◌&&◌, cond, List, [], ◌∷◌, map, length, Option, Some, None, is_some, IsSome, Result, Ok, Err, String, Global as Alloc, Bor, string_bytes, bytes_eq, true≢false, refl, sym, ap, ◌∙◌}
use Rattle.std.specs.List.{list_any}
use Rattle.std.proofs.lemmas.Bool.{lt-leb}
use Rattle.std.specs.Map.{keys_of}
use Rattle.std.proofs.lemmas.Slice.Eq.{bytes_eq-Decides}
use Rattle.hex.specs.declared.error.FromHexError.{FromHexError}
use Rattle.serde_json.specs.Data.{Data, null, boolean, number, string, array, object, Items}
use Rattle.serde_json.specs.Find.{as_array}
use Rattle.serde_json.specs.View.{items_view, members_view}
use Rattle.serde_json.specs.declared.value.Value.{Value}
use Rattle.tcap_ber.proofs.ObjectIdLaws.{is_object_id_sound}
use Rattle.tcap_ber.specs.ObjectId.{IsObjectId}
use Rattle.tcap_ber.specs.Reading.{is_object_id}
use Rattle.tcap_parts.specs.declared.code.Code.TheVariants.{Global}
use Rattle.tcap_end.specs.declared.table.TableReason.TheVariants as reasons
use Rattle.tcap_end.specs.TableText.{codes_in, count_items, global_of, has_only, linked_in, operations_in, table_by, table_fault, then_ok}

-- ---- keys

bytes_eq_flip : (a b : List ℕ) → bytes_eq a b ≡ bytes_eq b a
bytes_eq_flip a b = by (bytes_eq a b) (bytes_eq b a) refl refl
  where
    by : (p q : Bool) → bytes_eq a b ≡ p → bytes_eq b a ≡ q → p ≡ q
    by true true e f = refl
    by false false e f = refl
    by true false e f = sym ((bytes_eq-Decides b a).1 (sym ((bytes_eq-Decides a b).0 e))) ∙ f
    by false true e f = sym (sym ((bytes_eq-Decides a b).1 (sym ((bytes_eq-Decides b a).0 f))) ∙ e)

pub one_of : (key : List ℕ) (ks : List (Bor (List ℕ)))
    → list_any (λ k. bytes_eq k.now key) ks ≡ list_any (bytes_eq key) (map (λ k. k.now) ks)
one_of key [] = refl
one_of key (k ∷ ks) = rw (bytes_eq_flip k.now key, one_of key ks) refl

-- whether each key of an object is in a list
abbrev pub are_keys : List (List ℕ) → List (String Alloc) → Bool
are_keys keys [] = true
are_keys keys (k ∷ ks) = list_any (bytes_eq (string_bytes k)) keys && are_keys keys ks

pub are_keys_of : (keys : List (List ℕ)) (es : List (String Alloc × Value))
    → has_only keys (members_view es) ≡ are_keys keys (keys_of es)
are_keys_of keys [] = refl
are_keys_of keys (e ∷ es) = ap (λ b. list_any (bytes_eq (string_bytes e.0)) keys && b) (are_keys_of keys es)

-- ---- shapes

pub is_array : (d : Data) (xs : Items) → Some xs ≡ as_array d → d ≡ array xs
is_array null xs e = absurd (true≢false (ap is_some e))
is_array (boolean b) xs e = absurd (true≢false (ap is_some e))
is_array (number n) xs e = absurd (true≢false (ap is_some e))
is_array (string s) xs e = absurd (true≢false (ap is_some e))
is_array (array ds) xs e = sym (ap (λ o. array (unwrap_or o xs)) e)
is_array (object ms) xs e = absurd (true≢false (ap is_some e))

pub count_view : (vs : List Value) → count_items (items_view vs) ≡ length vs
count_view [] = refl
count_view (v ∷ vs) = ap suc (count_view vs)

-- ---- codes

-- octets that are not an object identifier are not a code
pub no_global : {A : Type 0} (octets lent : List ℕ) (r : Result (List ℕ) FromHexError) (found : Option A)
    → r ≡ Ok octets → lent ≡ octets → (IsSome found ↔ IsObjectId lent) → is_some found ≡ false → None ≡ global_of r
no_global octets lent r found is same iff none = rw is (by (is_object_id octets) refl)
  where
    by : (b : Bool) → is_object_id octets ≡ b → None ≡ cond b (Some (Global octets)) None
    by false e = refl
    by true e = absurd (true≢false (sym (iff.1 (rw same (is_object_id_sound octets e))) ∙ none))

-- a list of codes within the limit, or beyond it
pub linked_array : (d : Data) (vs : List Value) → Some (items_view vs) ≡ as_array d → length vs ≤ 1000
    → linked_in (Some d) ≡ codes_in [] (items_view vs)
linked_array d vs e few = rw (is_array d (items_view vs) e, count_view vs, le-leb _ _ few) refl

pub linked_long : (d : Data) (vs : List Value) → Some (items_view vs) ≡ as_array d → 1000 < length vs → None ≡ linked_in (Some d)
linked_long d vs e many = rw (is_array d (items_view vs) e, count_view vs, lt-leb _ _ many) refl

-- ---- tables

-- rows within the limit, or beyond it
pub rows_within : (vs : List Value) (prearranged : Bool) → length vs ≤ 1000
    → table_by (Some (array (items_view vs))) (Some prearranged)
    ≡ then_ok (operations_in 0 [] (items_view vs)) (λ operations. Ok (record { operations = operations; prearranged = prearranged }))
rows_within vs prearranged few = rw (count_view vs, le-leb _ _ few) refl

pub rows_beyond : (vs : List Value) (prearranged : Bool) → 1000 < length vs
    → Err (table_fault reasons.TooManyRows 0) ≡ table_by (Some (array (items_view vs))) (Some prearranged)
rows_beyond vs prearranged many = rw (count_view vs, lt-leb _ _ many) refl
