-- Test vectors, computed on the definitions: the table of a dialogue, and the names of operations.
use Rattle.std.proofs.Common.{◌≡◌, ℕ, pos, false, List, [], ◌∷◌, Some, None, refl}
use Rattle.tcap_parts.specs.declared.code.Code.TheVariants.{Local, Global}
use Rattle.tcap_books.specs.Book.{NamedTable, clash, name_of, table_of}

-- a table with these contexts, whose name is one octet
abbrev with_contexts : ℕ → List (List ℕ) → NamedTable
with_contexts name contexts =
    record { name = Some (name ∷ []); contexts = contexts; table = record { operations = []; prearranged = false }; names = [] }

abbrev short : NamedTable
short = with_contexts 1 ((4 ∷ []) ∷ [])

abbrev long : NamedTable
long = with_contexts 2 ((5 ∷ []) ∷ (4 ∷ 0 ∷ 0 ∷ []) ∷ [])

abbrev again : NamedTable
again = with_contexts 3 ((4 ∷ 0 ∷ 0 ∷ []) ∷ [])

abbrev any : NamedTable
any = with_contexts 4 []

abbrev other : NamedTable
other = with_contexts 5 []

-- the longest prefix, wherever it is in the list, and the first of two tables that have it
pub longest : table_of (short ∷ long ∷ again ∷ any ∷ []) (Some (4 ∷ 0 ∷ 0 ∷ 1 ∷ [])) ≡ Some long
longest = refl

pub longest_first : table_of (again ∷ long ∷ short ∷ []) (Some (4 ∷ 0 ∷ 0 ∷ [])) ≡ Some again
longest_first = refl

pub shorter : table_of (short ∷ long ∷ again ∷ any ∷ []) (Some (4 ∷ 0 ∷ 1 ∷ [])) ≡ Some short
shorter = refl

-- a context longer than the requested one is not a prefix of it, and a table without contexts has no prefix
pub no_context_fits : table_of (long ∷ any ∷ []) (Some (4 ∷ 0 ∷ [])) ≡ None
no_context_fits = refl

-- without a context, the first table without contexts
pub without : table_of (short ∷ any ∷ other ∷ []) None ≡ Some any
without = refl

pub none_without : table_of (short ∷ long ∷ []) None ≡ None
none_without = refl

-- a single table
pub alone : table_of (any ∷ []) (Some (4 ∷ [])) ≡ Some any
alone = refl

pub alone_with_contexts : table_of (short ∷ []) None ≡ None
alone_with_contexts = refl

abbrev named : NamedTable
named = record {
  name = None;
  contexts = [];
  table = record { operations = []; prearranged = false };
  names = (Local (pos 59), 1 ∷ []) ∷ (Global (42 ∷ []), 2 ∷ []) ∷ (Local (pos 59), 3 ∷ []) ∷ [];
}

pub first_name : name_of named (Local (pos 59)) ≡ Some (1 ∷ [])
first_name = refl

pub global_name : name_of named (Global (42 ∷ [])) ≡ Some (2 ∷ [])
global_name = refl

pub no_name : name_of named (Local (pos 42)) ≡ None
no_name = refl

-- ---- two tables with a context in common

-- the first table that shares a context with a later one, and the first such; a common prefix of contexts does not
-- count
pub two_share : clash (short ∷ long ∷ any ∷ again ∷ again ∷ []) ≡ Some (1, 3)
two_share = refl

pub first_shares : clash (again ∷ again ∷ long ∷ []) ≡ Some (0, 1)
first_shares = refl

pub none_share : clash (short ∷ long ∷ any ∷ any ∷ []) ≡ None
none_share = refl

-- one table with the same context twice
pub twice_in_one : clash (with_contexts 1 ((4 ∷ []) ∷ (4 ∷ []) ∷ []) ∷ any ∷ []) ≡ None
twice_in_one = refl
