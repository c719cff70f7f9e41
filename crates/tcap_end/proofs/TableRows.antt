-- Test vectors, computed on the definitions: data that is a table, and the first fault of other data.
use Rattle.std.proofs.Common.{◌≡◌, ℕ, pos, negsuc, Bool, true, false, List, [], ◌∷◌, codes, Result, Ok, Err, refl}
use Rattle.hex.proofs.OnLiterals.{hex_on_literals}
use Rattle.serde_json.specs.Data.{Data, null, boolean, number, unsigned, negative, string, array, object, Items, no_items, item, Members, no_members, member}
use Rattle.tcap_parts.specs.declared.code.Code.{Code}
use Rattle.tcap_parts.specs.declared.code.Code.TheVariants.{Local}
use Rattle.tcap_end.specs.declared.table.TableFault.{TableFault}
use Rattle.tcap_end.specs.declared.table.TableReason.{TableReason}
use Rattle.tcap_end.specs.declared.table.TableReason.TheVariants.{TableShape, DoubleCode, BadClass}
use Rattle.tcap_end.specs.Table.{Table, Operation}
use Rattle.tcap_end.specs.TableText.{table_fault, table_in}

abbrev whole : ℕ → Data
whole n = number (unsigned n)

-- a row with this class and code, and the other members `more`
abbrev row_with : Data → Data → Members → Data
row_with class code more = object (member (codes "class") class (member (codes "code") code more))

abbrev row : ℕ → ℕ → Data
row class code = row_with (whole class) (whole code) no_members

abbrev rows : List Data → Items
rows [] = no_items
rows (d ∷ ds) = item d (rows ds)

-- the table with these rows, or its fault
abbrev table : List Data → Result Table TableFault
table ds = table_in (object (member (codes "operations") (array (rows ds)) no_members))

abbrev operation : ℕ → List (Code × Unit {0}) → Bool → Operation
operation class linked expires = record { class = class; linked = linked; expires = expires }

abbrev refused : TableReason → ℕ → Result Table TableFault
refused reason place = Err (table_fault reason place)

pub no_rows : table [] ≡ Ok (record { operations = []; prearranged = false })
no_rows = refl

pub in_order : table (row 2 46 ∷ row_with (whole 1) (whole 45)
    (member (codes "expires") (boolean false)
    (member (codes "linked") (array (rows (whole 46 ∷ number (negative (negsuc 0)) ∷ whole 46 ∷ []))) no_members)) ∷ [])
    ≡ Ok (record {
      operations = (Local (pos 45), operation 1 ((Local (negsuc 0), tt) ∷ (Local (pos 46), tt) ∷ []) false)
          ∷ (Local (pos 46), operation 2 [] true) ∷ [];
      prearranged = false;
    })
in_order = refl

pub prearranged :
    table_in (object (member (codes "operations") (array no_items) (member (codes "prearranged") (boolean true) no_members)))
    ≡ Ok (record { operations = []; prearranged = true })
prearranged = refl

pub no_object : table_in (array no_items) ≡ refused TableShape 0
no_object = refl

pub no_operations : table_in (object no_members) ≡ refused TableShape 0
no_operations = refl

pub class_5 : table (row 5 1 ∷ []) ≡ refused BadClass 0
class_5 = refl

pub class_below_0 : table (row 1 1 ∷ row_with (number (negative (negsuc 0))) (whole 2) no_members ∷ []) ≡ refused BadClass 1
class_below_0 = refl

pub code_of_33_bits : table (row 1 2147483648 ∷ []) ≡ refused TableShape 0
code_of_33_bits = refl

pub double_code : table (row 1 1 ∷ row 2 1 ∷ []) ≡ refused DoubleCode 1
double_code = refl

-- a row's shape is checked before its class, and its class before its code
pub shape_first : table (row 1 1 ∷ row_with (whole 5) (boolean true) no_members ∷ row 5 2 ∷ []) ≡ refused TableShape 1
shape_first = refl

pub class_before_code : table (row 1 1 ∷ row 5 1 ∷ null ∷ []) ≡ refused BadClass 1
class_before_code = refl

pub other_key : table (row_with (whole 1) (whole 1) (member (codes "name") (whole 1) no_members) ∷ []) ≡ refused TableShape 0
other_key = refl

-- a global code, with digits in either case
pub double_global :
    table (row_with (whole 1) (string (codes "2A0304")) no_members ∷ row_with (whole 1) (string (codes "2a0304")) no_members ∷ [])
    ≡ refused DoubleCode 1
unfolding hex_on_literals
double_global = refl

-- digits whose last subidentifier is incomplete
pub no_object_id : table (row_with (whole 1) (string (codes "2a80")) no_members ∷ []) ≡ refused TableShape 0
unfolding hex_on_literals
no_object_id = refl
