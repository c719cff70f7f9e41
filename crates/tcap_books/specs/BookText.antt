-- Which book a text means: a JSON object (RFC 8259) with the members of this profile.
use Rattle.std.specs.Prelude.{◌≡◌, ℕ, suc, Bool, true, false, List, [], ◌∷◌, ◌++◌, codes, Option, Some, None, Result, Ok, Err, option_and_then, ◌⊎◌, ◌||◌, cond, nat_le}
use Rattle.std.specs.Str.{bytes_eq}
use Rattle.hex.specs.Hex.{decode_of}
use Rattle.hex.specs.declared.error.FromHexError.{FromHexError}
use Rattle.serde_json.specs.Data.{Data, string, array, object, Items, no_items, item, Members, no_members, member}
use Rattle.serde_json.specs.Find.{get}
use Rattle.tcap_parts.specs.declared.code.Code.{Code}
use Rattle.tcap_end.specs.declared.table.TableFault.{TableFault}
use Rattle.tcap_end.specs.Table.{Table}
use Rattle.tcap_end.specs.TableText.{IsJson, code_in, count_items, table_in, then_ok}
use Rattle.tcap_books.specs.declared.fault.BookFault.{BookFault}
use Rattle.tcap_books.specs.declared.fault.BookFault.TheVariants as faults
use Rattle.tcap_books.specs.DottedContext.{dotted, has_dot}
use Rattle.tcap_books.specs.Book.{NamedTable}

-- the largest number of tables
abbrev pub tables_limit : ℕ
tables_limit = 100

-- ---- a table without the members that only a book has

-- the members without those that `drops` selects, each value changed by `make`
abbrev pub kept : (List ℕ → Bool) → (List ℕ → Data → Data) → Members → Members
kept drops make no_members = no_members
kept drops make (member key d more) =
    cond (drops key) (kept drops make more) (member key (make key d) (kept drops make more))

-- whether a key is "name"
abbrev pub is_name : List ℕ → Bool
is_name key = bytes_eq key (codes "name")

abbrev pub same : List ℕ → Data → Data
same key d = d

-- the members of a row without its name
abbrev pub without_name : Members → Members
without_name members = kept is_name same members

-- a row without its name
abbrev pub bare_row : Data → Data
bare_row (object members) = object (without_name members)
bare_row d = d

abbrev pub bare_items : Items → Items
bare_items no_items = no_items
bare_items (item d more) = item (bare_row d) (bare_items more)

-- rows without their names
abbrev pub bare_rows : Data → Data
bare_rows (array rows) = array (bare_items rows)
bare_rows d = d

-- whether a key is one that only a table of a book has
abbrev pub is_books : List ℕ → Bool
is_books key = is_name key || bytes_eq key (codes "contexts")

-- the value of a member of a table, with bare rows
abbrev pub bare_value : List ℕ → Data → Data
bare_value key d = cond (bytes_eq key (codes "operations")) (bare_rows d) d

abbrev pub bare_members : Members → Members
bare_members members = kept is_books bare_value members

-- a table without its name, its contexts and the names of its rows
abbrev pub bare_table : Data → Data
bare_table (object members) = object (bare_members members)
bare_table d = d

-- ---- names and contexts

-- a name, which may be absent; None if it is not a string
abbrev pub name_in : Option Data → Option (Option (List ℕ))
name_in None = Some None
name_in (Some (string text)) = Some (Some text)
name_in (Some _) = None

abbrev pub octets_of : Result (List ℕ) FromHexError → Option (List ℕ)
octets_of (Ok octets) = Some octets
octets_of (Err e) = None

-- the octets of a text: of dotted numbers if it has a dot, else of hex digits
abbrev pub context_of : List ℕ → Option (List ℕ)
context_of text = cond (has_dot text) (dotted text) (octets_of (decode_of text))

-- the octets of a string
abbrev pub context_in : Data → Option (List ℕ)
context_in (string text) = context_of text
context_in _ = None

-- the contexts, with those of a list added
abbrev pub contexts_with : List (List ℕ) → Items → Option (List (List ℕ))
contexts_with found no_items = Some found
contexts_with found (item d more) =
    option_and_then (λ context. contexts_with (found ++ context ∷ []) more) (context_in d)

-- the contexts of a table; none if the member is absent
abbrev pub contexts_in : Option Data → Option (List (List ℕ))
contexts_in None = Some []
contexts_in (Some (array items)) = contexts_with [] items
contexts_in (Some _) = None

-- the names with that of a row added, if it has a code and a name; a fault if its name is not a string
abbrev pub named : ℕ → ℕ → List (Code × List ℕ) → Option Code → Option (Option (List ℕ))
    → Result (List (Code × List ℕ)) BookFault
named table row found code None = Err (faults.RowName table row)
named table row found code (Some None) = Ok found
named table row found None (Some (Some name)) = Ok found
named table row found (Some code) (Some (Some name)) = Ok (found ++ (code, name) ∷ [])

-- these names and that of one more row, if it has a code and a name; or the fault of its name
abbrev pub with_name : ℕ → ℕ → List (Code × List ℕ) → Data → Result (List (Code × List ℕ)) BookFault
with_name table row found d =
    named table row found (option_and_then code_in (get (codes "code") d)) (name_in (get (codes "name") d))

-- these names and those of the rows from number `row` on; or the first fault of a name
abbrev pub names_with : ℕ → ℕ → List (Code × List ℕ) → Items → Result (List (Code × List ℕ)) BookFault
names_with table row found no_items = Ok found
names_with table row found (item d more) = then_ok (with_name table row found d)
    (λ next. names_with table (suc row) next more)

-- the names of the operations of a table, or the first fault of a name
abbrev pub names_in : ℕ → Option Data → Result (List (Code × List ℕ)) BookFault
names_in table (Some (array rows)) = names_with table 0 [] rows
names_in table _ = Ok []

-- ---- books

-- a table, or the fault of the table with this number
abbrev pub refused_table : ℕ → Result Table TableFault → Result Table BookFault
refused_table place (Ok table) = Ok table
refused_table place (Err fault) = Err (faults.Table place fault)

abbrev pub or_fault : {A : Type 0} → BookFault → Option A → Result A BookFault
or_fault fault None = Err fault
or_fault fault (Some a) = Ok a

-- the table with this number: the operations of its bare table, its name, its contexts, and the names of its rows; or
-- its first fault in this order
abbrev pub named_table_in : ℕ → Data → Result NamedTable BookFault
named_table_in place d =
    then_ok (refused_table place (table_in (bare_table d))) (λ table.
    then_ok (or_fault (faults.TableName place) (name_in (get (codes "name") d))) (λ name.
    then_ok (or_fault (faults.Contexts place) (contexts_in (get (codes "contexts") d))) (λ contexts.
    then_ok (names_in place (get (codes "operations") d)) (λ names.
    Ok (record { name = name; contexts = contexts; table = table; names = names })))))

-- the tables, with those of a list from number `place` on added, or the first fault of these
abbrev pub tables_with : ℕ → List NamedTable → Items → Result (List NamedTable) BookFault
tables_with place found no_items = Ok found
tables_with place found (item d more) = then_ok (named_table_in place d)
    (λ table. tables_with (suc place) (found ++ table ∷ []) more)

-- the tables of a list, which is not empty and not beyond the limit
abbrev pub tables_in : Data → Result (List NamedTable) BookFault
tables_in (array no_items) = Err faults.NoTables
tables_in (array (item d more)) =
    cond (nat_le (count_items (item d more)) tables_limit) (tables_with 0 [] (item d more)) (Err faults.TooManyTables)
tables_in _ = Err faults.NoTables

-- a table without a name, contexts and names of operations
abbrev pub plain : Table → NamedTable
plain table = record { name = None; contexts = []; table = table; names = [] }

-- whether data is an object with one key
abbrev pub has_one_key : Data → Bool
has_one_key (object (member key d no_members)) = true
has_one_key _ = false

-- the book of data whose member "tables" is this
abbrev pub book_by : Data → Option Data → Result (List NamedTable) BookFault
book_by d None = then_ok (refused_table 0 (table_in d)) (λ table. Ok (plain table ∷ []))
book_by d (Some tables) = cond (has_one_key d) (tables_in tables) (Err faults.OtherKey)

-- The book that the data means, or the first fault. Data without a key "tables" is a book of one table.
abbrev pub book_in : Data → Result (List NamedTable) BookFault
book_in d = book_by d (get (codes "tables") d)

-- The octets mean `answer`: a book or the first fault, or NotJson if they are not JSON.
abbrev pub IsBookOf : List ℕ → Result (List NamedTable) BookFault → Type 0
IsBookOf octets answer =
    ((d : Data) × IsJson octets d × (book_in d ≡ answer))
    ⊎ (((d : Data) → IsJson octets d → ⊥) × (answer ≡ Err faults.NotJson))

-- The octets have no key "tables" if they are JSON, so they mean a book of one table at most.
abbrev pub IsPlain : List ℕ → Type 0
IsPlain octets = (d : Data) → IsJson octets d → get (codes "tables") d ≡ None
