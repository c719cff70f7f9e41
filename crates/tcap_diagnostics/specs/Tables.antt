-- Which octets are the text of an operation table or of a table set?
use Rattle.std.specs.Prelude.{ℕ, List, Ok}
use Rattle.tcap_end.specs.Table.{Table}
use Rattle.tcap_end.specs.TableText.{IsTableOf}
use Rattle.tcap_books.specs.Book.{NamedTable}
use Rattle.tcap_books.specs.BookText.{IsBookOf, IsPlain}

-- The octets are the text of a table set (a book). If they have no key `tables`, they are also the text of one
-- operation table.
abbrev pub IsTableText : List ℕ → Type 0
IsTableText octets = ((book : List NamedTable) × IsBookOf octets (Ok book))
    × (IsPlain octets → (table : Table) × IsTableOf octets (Ok table))
