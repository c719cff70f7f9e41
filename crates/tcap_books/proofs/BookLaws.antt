-- How each part of a book is read from JSON data.
use Rattle.std.proofs.Common.{◌≡◌, ℕ, ◌<◌, ◌≤◌, ◌↔◌, ◌⊎◌, inl, inr, true, false, List, [], ◌∷◌, length, Some, None, Result, Ok, Err, suc, ◌≢◌, ◌==◌, is_some, is_ok, unwrap_or, le-leb, true≢false, refl, sym, ap, ◌∙◌, arith}
use Rattle.std.proofs.lemmas.Bool.{lt-leb}
use Rattle.std.proofs.lemmas.Bool.Decides.{eqb_tells}
use Rattle.serde_json.specs.Data.{Data, null, boolean, number, string, array, object, Items, Members}
use Rattle.serde_json.specs.Find.{as_array, as_object}
use Rattle.serde_json.specs.Read.{read}
use Rattle.serde_json.specs.View.{items_view, members_view}
use Rattle.serde_json.specs.declared.value.Value.{Value}
use Rattle.serde_json.proofs.Views.{Entry}
use Rattle.tcap_end.proofs.TableLaws.{count_view, is_array}
use Rattle.tcap_end.specs.declared.table.TableFault.{TableFault}
use Rattle.tcap_end.specs.Table.{Table}
use Rattle.tcap_end.specs.TableText.{IsJson, IsTableOf, table_in, then_ok}
use Rattle.tcap_books.specs.declared.fault.BookFault.{BookFault}
use Rattle.tcap_books.specs.declared.fault.BookFault.TheVariants as faults
use Rattle.tcap_books.specs.Book.{NamedTable}
use Rattle.tcap_books.specs.BookText.{IsBookOf, IsPlain, book_by, book_in, has_one_key, plain, refused_table, tables_in, tables_with}

-- ---- the list of tables

pub no_tables : (vs : List Value) → length vs ≡ 0 → Err faults.NoTables ≡ tables_in (array (items_view vs))
no_tables [] none = refl
no_tables (v ∷ vs) none = absurd (omega arith)

pub tables_within : (vs : List Value) → 0 < length vs → length vs ≤ 100 → tables_in (array (items_view vs)) ≡ tables_with 0 [] (items_view vs)
tables_within [] some few = absurd (omega arith)
tables_within (v ∷ vs) some few = rw (count_view vs, le-leb _ _ few) refl

pub tables_beyond : (vs : List Value) → 100 < length vs → Err faults.TooManyTables ≡ tables_in (array (items_view vs))
tables_beyond [] many = absurd (omega arith)
tables_beyond (v ∷ vs) many = rw (count_view vs, lt-leb _ _ many) refl

pub of_array : (d : Data) (xs : Items) → Some xs ≡ as_array d → tables_in (array xs) ≡ tables_in d
of_array d xs is = sym (ap tables_in (is_array d xs is))

pub no_array : (d : Data) → None ≡ as_array d → Err faults.NoTables ≡ tables_in d
no_array null is = refl
no_array (boolean b) is = refl
no_array (number n) is = refl
no_array (string s) is = refl
no_array (array ds) is = absurd (true≢false (sym (ap is_some is)))
no_array (object ms) is = refl

-- ---- one key

is_object : (d : Data) (ms : Members) → Some ms ≡ as_object d → d ≡ object ms
is_object null ms is = absurd (true≢false (ap is_some is))
is_object (boolean b) ms is = absurd (true≢false (ap is_some is))
is_object (number n) ms is = absurd (true≢false (ap is_some is))
is_object (string s) ms is = absurd (true≢false (ap is_some is))
is_object (array ds) ms is = absurd (true≢false (ap is_some is))
is_object (object ns) ms is = sym (ap (λ o. object (unwrap_or o ms)) is)

not_one : (n : ℕ) → (suc (suc n) == 1) ≡ false
not_one n = by (eqb_tells (suc (suc n)) 1)
  where
    by : (((suc (suc n) == 1) ≡ true) × (suc (suc n) ≡ 1)) ⊎ (((suc (suc n) == 1) ≡ false) × (suc (suc n) ≢ 1)) → (suc (suc n) == 1) ≡ false
    by (inl (same, is)) = absurd (omega (arith, is))
    by (inr (other, isnt)) = other

one_of_members : (es : List Entry) → (length es == 1) ≡ has_one_key (object (members_view es))
one_of_members [] = refl
one_of_members (e ∷ []) = refl
one_of_members (e ∷ f ∷ es) = not_one (length es)

pub one_key : (d : Data) (es : List Entry) → Some (members_view es) ≡ as_object d → (length es == 1) ≡ has_one_key d
one_key d es is = one_of_members es ∙ sym (ap has_one_key (is_object d (members_view es) is))

pub no_key : (d : Data) → None ≡ as_object d → false ≡ has_one_key d
no_key null is = refl
no_key (boolean b) is = refl
no_key (number n) is = refl
no_key (string s) is = refl
no_key (array ds) is = refl
no_key (object ms) is = absurd (true≢false (sym (ap is_some is)))

-- ---- a text that is a table

abbrev alone : Result Table TableFault → Result (List NamedTable) BookFault
alone read_table = then_ok (refused_table 0 read_table) (λ table. Ok (plain table ∷ []))

first_table : Result (List NamedTable) BookFault → Table → Table
first_table (Ok (first ∷ more)) table = first.table
first_table (Ok []) table = table
first_table (Err fault) table = table

alone_is : (a : Result Table TableFault) (table : Table) → alone a ≡ Ok (plain table ∷ []) → a ≡ Ok table
unfolding first_table
alone_is (Ok t) table is = ap (λ r. Ok (first_table r t)) is
alone_is (Err fault) table is = absurd (true≢false (sym (ap is_ok is)))

same_data : (octets : List ℕ) (d e : Data) → read octets ≡ Some d → read octets ≡ Some e → d ≡ e
same_data octets d e p q = ap (λ o. unwrap_or o d) (sym p ∙ q)

module _ (octets : List ℕ) (table : Table) where
  back : (d : Data) → IsJson octets d → IsTableOf octets (Ok table) → table_in d ≡ Ok table
  back d json (inl (e, other, is)) = ap table_in (same_data octets d e json.1 other.1) ∙ is
  back d json (inr (never, is)) = absurd (true≢false (ap is_ok is))

  none : ((d : Data) → IsJson octets d → ⊥) → IsTableOf octets (Ok table) → ⊥
  none never (inl (e, other, is)) = never e other
  none never (inr (other, is)) = true≢false (ap is_ok is)

  -- a text without "tables" is a book exactly if it is a table
  pub plain_law : (r : Result (List NamedTable) BookFault) → IsPlain octets → IsBookOf octets r
      → (r ≡ Ok (plain table ∷ [])) ↔ IsTableOf octets (Ok table)
  plain_law r bare (inl (d, json, is)) =
      let as_table : book_in d ≡ alone (table_in d) = ap (book_by d) (bare d json) in (
        (λ e. inl (d, json, alone_is (table_in d) table (sym as_table ∙ is ∙ e))),
        λ t. sym is ∙ as_table ∙ ap alone (back d json t),
      )
  plain_law r bare (inr (never, is)) = ((λ e. absurd (true≢false (sym (ap is_ok (sym is ∙ e))))), λ t. absurd (none never t))
