-- The text of a table set without the key `tables` is the text of an operation table.
use Rattle.std.proofs.Common.{◌≡◌, ◌∙◌, ℕ, inl, inr, List, [], ◌∷◌, Result, Ok, Err, ap, sym, refl}
use Rattle.tcap_end.specs.declared.table.TableFault.{TableFault}
use Rattle.tcap_end.specs.Table.{Table}
use Rattle.tcap_end.specs.TableText.{IsTableOf, table_in, then_ok}
use Rattle.tcap_books.specs.Book.{NamedTable}
use Rattle.tcap_books.specs.BookText.{IsBookOf, IsPlain, book_by, plain, refused_table}
use Rattle.tcap_diagnostics.specs.Tables.{IsTableText}

-- A value that is read as a set of one table is a table.
table_given : (book : List NamedTable) (r : Result Table TableFault)
    → then_ok (refused_table 0 r) (λ table. Ok (plain table ∷ [])) ≡ Ok book → (table : Table) × (r ≡ Ok table)
table_given book (Ok table) e = (table, refl)
table_given book (Err fault) e = cc

plain_text : (octets : List ℕ) (book : List NamedTable) → IsBookOf octets (Ok book) → IsPlain octets
    → (table : Table) × IsTableOf octets (Ok table)
plain_text octets book (inl (d, json, e)) is_plain =
    let p = table_given book (table_in d) (sym (ap (book_by d) (is_plain d json)) ∙ e) in
    (p.0, inl (d, json, p.1))
plain_text octets book (inr (none, e)) is_plain = cc

pub text_of_book : (octets : List ℕ) (book : List NamedTable) → IsBookOf octets (Ok book) → IsTableText octets
text_of_book octets book is = ((book, is), plain_text octets book is)
