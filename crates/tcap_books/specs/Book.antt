-- Which operation table of a book (a table set) applies to a dialogue, and the names of operations.
use Rattle.std.specs.Prelude.{ℕ, suc, Bool, true, false, List, [], ◌∷◌, ◌++◌, length, Option, Some, None, option_map, cond, nat_lt, ◌==◌, ◌&&◌, slice_get, codes}
use Rattle.std.specs.Option.{option_or}
use Rattle.std.specs.Fmt.{decimal}
use Rattle.std.specs.List.{list_any, starts_with}
use Rattle.std.specs.Str.{bytes_eq}
use Rattle.std.specs.Map.{lookup}
use Rattle.std.specs.BTreeMap.{is_at}
use Rattle.tcap_parts.specs.declared.code.Code.{Code}
use Rattle.tcap_end.specs.Table.{Table, code_cmp}

-- A table of a book: its name, if it has one; its contexts; its operations; and their names by code, in the order of
-- the rows. A context is a prefix of application context names, as content octets of an OBJECT IDENTIFIER.
pub record NamedTable : Type 0 where
  pub name : Option (List ℕ)
  pub contexts : List (List ℕ)
  pub table : Table
  pub names : List (Code × List ℕ)

-- the name of an operation, from the first row that has its code and a name
abbrev pub name_of : NamedTable → Code → Option (List ℕ)
name_of table code = lookup (is_at (code_cmp code)) table.names

-- ---- the table of a dialogue

-- the length of a context, if it is a prefix of the requested one
abbrev pub fit : List ℕ → List ℕ → Option ℕ
fit asked context = cond (starts_with (λ x y. x == y) asked context) (Some (length context)) None

-- whether the first fit is better: any fit is better than none, and a longer one better than a shorter one
abbrev pub is_better : Option ℕ → Option ℕ → Bool
is_better None other = false
is_better (Some n) None = true
is_better (Some n) (Some m) = nat_lt m n

-- the better of two fits
abbrev pub better : Option ℕ → Option ℕ → Option ℕ
better a b = cond (is_better a b) a b

-- the best fit among these contexts and an earlier one
abbrev pub best_fit : List ℕ → Option ℕ → List (List ℕ) → Option ℕ
best_fit asked before [] = before
best_fit asked before (context ∷ more) = best_fit asked (better (fit asked context) before) more

-- the best fit among the contexts of a table
abbrev pub table_fit : List ℕ → NamedTable → Option ℕ
table_fit asked table = best_fit asked None table.contexts

-- the first table with the best fit, if it is better than the earlier one; else the earlier table
abbrev pub best : List ℕ → Option ℕ → Option NamedTable → List NamedTable → Option NamedTable
best asked before found [] = found
best asked before found (table ∷ more) =
    cond (is_better (table_fit asked table) before)
    (best asked (table_fit asked table) (Some table) more)
    (best asked before found more)

-- whether a list is empty
abbrev pub has_none : {X : Type 0} → List X → Bool
has_none [] = true
has_none (first ∷ more) = false

-- the first table without contexts
abbrev pub first_without : List NamedTable → Option NamedTable
first_without [] = None
first_without (table ∷ more) = cond (has_none table.contexts) (Some table) (first_without more)

-- the number of tables without contexts
abbrev pub count_without : List NamedTable → ℕ
count_without [] = 0
count_without (table ∷ more) = cond (has_none table.contexts) (suc (count_without more)) (count_without more)

-- whether more than one table has no contexts, so that no table is determined for a dialogue without a context
abbrev pub is_ambiguous : List NamedTable → Bool
is_ambiguous tables = nat_lt 1 (count_without tables)

-- whether two tables have a context in common
abbrev pub share_context : NamedTable → NamedTable → Bool
share_context a b = list_any (λ context. list_any (bytes_eq context) b.contexts) a.contexts

-- the first table with a number above `first` that shares a context with `table`; the list starts at number `number`
abbrev pub sharer : NamedTable → ℕ → ℕ → List NamedTable → Option ℕ
sharer table first number [] = None
sharer table first number (other ∷ more) =
    cond (nat_lt first number && share_context table other) (Some number) (sharer table first (suc number) more)

-- the first table of the list that shares a context with a later table of the book, and the first such later table
abbrev pub clash_from : List NamedTable → ℕ → List NamedTable → Option (ℕ × ℕ)
clash_from tables number [] = None
clash_from tables number (table ∷ more) =
    option_or (option_map (λ second. (number, second)) (sharer table number 0 tables))
    (clash_from tables (suc number) more)

-- the numbers of the first two tables with a context in common, so that no single table is determined for it
abbrev pub clash : List NamedTable → Option (ℕ × ℕ)
clash tables = clash_from tables 0 tables

-- the printed words for a table: its number, and its name if it has one
abbrev pub table_words : ℕ → NamedTable → List ℕ
table_words number table = codes "table " ++ decimal number ++ by table.name
  where
    by : Option (List ℕ) → List ℕ
    by None = []
    by (Some name) = codes " (" ++ name ++ codes ")"

-- the printed words for the table with this number; none if there is no such table
abbrev pub words_at : List NamedTable → ℕ → List ℕ
words_at tables number = by (slice_get tables number)
  where
    by : Option NamedTable → List ℕ
    by None = []
    by (Some table) = table_words number table

-- the printed words for the two tables with these numbers
abbrev pub pair_words : List NamedTable → ℕ × ℕ → List ℕ
pair_words tables (first, second) = words_at tables first ++ codes " and " ++ words_at tables second

-- the only table of a book, if it has no contexts
abbrev pub sole : List NamedTable → Option NamedTable
sole (table ∷ []) = cond (has_none table.contexts) (Some table) None
sole _ = None

-- the table for a requested context, or for none
abbrev pub by_context : List NamedTable → Option (List ℕ) → Option NamedTable
by_context tables None = first_without tables
by_context tables (Some asked) = best asked None None tables

-- The table of a dialogue whose Begin requests this application context, or none. A single table without contexts
-- applies to all dialogues. Otherwise, a dialogue without a context has the first table without contexts. A dialogue
-- with one has the table with its longest prefix, or the first such table.
abbrev pub table_of : List NamedTable → Option (List ℕ) → Option NamedTable
table_of tables context = option_or (sole tables) (by_context tables context)
