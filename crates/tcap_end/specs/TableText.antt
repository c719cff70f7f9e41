-- Which operation table a text means: a JSON object (RFC 8259) with the members of this profile.
use Rattle.std.specs.Prelude.{◌≡◌, ℕ, suc, ℤ, pos, negsuc, Bool, true, false, List, [], ◌∷◌, codes, Option, Some, None, Result, Ok, Err, option_and_then, ◌⊎◌, ◌&&◌, cond, nat_le, nat_lt, is_some, int_le, int_lt}
use Rattle.std.specs.List.{list_any}
use Rattle.std.specs.Str.{bytes_eq, IsUtf8}
use Rattle.std.specs.Map.{lookup}
use Rattle.std.specs.BTreeMap.{insert_entry, is_at}
use Rattle.hex.specs.Hex.{decode_of}
use Rattle.hex.specs.declared.error.FromHexError.{FromHexError}
use Rattle.serde_json.specs.Data.{Data, boolean, string, array, object, Items, no_items, item, Members, no_members, member}
use Rattle.serde_json.specs.Find.{as_integer, as_number, get_member}
use Rattle.serde_json.specs.Read.{read}
use Rattle.tcap_ber.specs.Reading.{is_object_id}
use Rattle.tcap_parts.specs.declared.code.Code.{Code}
use Rattle.tcap_parts.specs.declared.code.Code.TheVariants.{Local, Global}
use Rattle.tcap_end.specs.declared.table.TableFault.{TableFault}
use Rattle.tcap_end.specs.declared.table.TableReason.{TableReason}
use Rattle.tcap_end.specs.declared.table.TableReason.TheVariants as reasons
use Rattle.tcap_end.specs.Table.{Table, Operation, code_cmp}

-- the largest number of rows in a table
abbrev pub rows_limit : ℕ
rows_limit = 1000

-- the largest number of codes in a row's list of linked operations
abbrev pub linked_limit : ℕ
linked_limit = 1000

-- a fault with its place
abbrev pub table_fault : TableReason → ℕ → TableFault
table_fault reason place = record { reason = reason; place = place }

-- ---- parts of JSON data

-- the number of items of an array
abbrev pub count_items : Items → ℕ
count_items no_items = 0
count_items (item d more) = suc (count_items more)

-- whether each key of an object is in a list
abbrev pub has_only : List (List ℕ) → Members → Bool
has_only keys no_members = true
has_only keys (member key d more) = list_any (bytes_eq key) keys && has_only keys more

-- a whole number, written without a fraction or exponent
abbrev pub whole_in : Data → Option ℤ
whole_in d = option_and_then as_integer (as_number d)

-- a Boolean, or the default if the member is absent
abbrev pub flag_in : Bool → Option Data → Option Bool
flag_in default None = Some default
flag_in default (Some (boolean b)) = Some b
flag_in default (Some _) = None

-- ---- codes

-- a local code: a signed 32-bit number
abbrev pub local_of : ℤ → Option Code
local_of n = cond (int_le (negsuc 2147483647) n && int_lt n (pos 2147483648)) (Some (Local n)) None

-- a global code: the content octets of an object identifier
abbrev pub global_of : Result (List ℕ) FromHexError → Option Code
global_of (Ok octets) = cond (is_object_id octets) (Some (Global octets)) None
global_of (Err e) = None

-- A code is a whole number (local) or a string of hex digits (global).
abbrev pub code_in : Data → Option Code
code_in (string digits) = global_of (decode_of digits)
code_in d = option_and_then local_of (whole_in d)

-- a set of codes with the codes of a list added
abbrev pub codes_in : List (Code × Unit {0}) → Items → Option (List (Code × Unit {0}))
codes_in found no_items = Some found
codes_in found (item d more) = option_and_then (λ code. codes_in (insert_entry code_cmp found code tt) more) (code_in d)

-- the linked operations of a row; none if the member is absent
abbrev pub linked_in : Option Data → Option (List (Code × Unit {0}))
linked_in None = Some []
linked_in (Some (array items)) = cond (nat_le (count_items items) linked_limit) (codes_in [] items) None
linked_in (Some _) = None

-- ---- rows

-- a row before its class is checked: code, class, linked operations, and whether invocations may expire
pub record Row : Type 0 where
  pub code : Code
  pub class : ℤ
  pub linked : List (Code × Unit {0})
  pub expires : Bool

-- the keys of a row
abbrev pub row_keys : List (List ℕ)
row_keys = codes "class" ∷ codes "code" ∷ codes "expires" ∷ codes "linked" ∷ []

-- a row from its four members, if each is valid
abbrev pub row_from : Option Code → Option ℤ → Option (List (Code × Unit {0})) → Option Bool → Option Row
row_from (Some code) (Some class) (Some linked) (Some expires) =
    Some (record { code = code; class = class; linked = linked; expires = expires })
row_from _ _ _ _ = None

-- a row from the members of an object with no other keys; `expires` is true if absent
abbrev pub row_in_members : Members → Option Row
row_in_members members =
    cond (has_only row_keys members)
    (row_from (option_and_then code_in (get_member (codes "code") members))
    (option_and_then whole_in (get_member (codes "class") members))
    (linked_in (get_member (codes "linked") members)) (flag_in true (get_member (codes "expires") members)))
    None

-- the row that the data means, or None if the data has another shape
abbrev pub row_in : Data → Option Row
row_in (object members) = row_in_members members
row_in _ = None

-- a class, 1 to 4
abbrev pub class_in : ℤ → Option ℕ
class_in (pos n) = cond (nat_lt 0 n && nat_le n 4) (Some n) None
class_in _ = None

-- the operations with those of one more row, or the fault of the row
abbrev pub with_operation : ℕ → List (Code × Operation) → Row → Option ℕ → Result (List (Code × Operation)) TableFault
with_operation place found row None = Err (table_fault reasons.BadClass place)
with_operation place found row (Some class) =
    cond (is_some (lookup (is_at (code_cmp row.code)) found))
    (Err (table_fault reasons.DoubleCode place))
    (Ok (insert_entry code_cmp found row.code (record { class = class; linked = row.linked; expires = row.expires })))

-- the operations with the next row added, or its fault at `place`
abbrev pub with_row : ℕ → List (Code × Operation) → Option Row → Result (List (Code × Operation)) TableFault
with_row place found None = Err (table_fault reasons.TableShape place)
with_row place found (Some row) = with_operation place found row (class_in row.class)

-- one reading after another, or the first fault
abbrev pub then_ok : {A B E : Type 0} → Result A E → (A → Result B E) → Result B E
then_ok (Err e) f = Err e
then_ok (Ok x) f = f x

-- the operations with those of the rows from number `place` on, or the first fault of these rows
abbrev pub operations_in : ℕ → List (Code × Operation) → Items → Result (List (Code × Operation)) TableFault
operations_in place found no_items = Ok found
operations_in place found (item d more) = then_ok (with_row place found (row_in d))
    (λ next. operations_in (suc place) next more)

-- ---- tables

-- the keys of a table
abbrev pub table_keys : List (List ℕ)
table_keys = codes "operations" ∷ codes "prearranged" ∷ []

-- a table from its two members, or the first fault
abbrev pub table_by : Option Data → Option Bool → Result Table TableFault
table_by (Some (array rows)) (Some prearranged) =
    cond (nat_le (count_items rows) rows_limit)
    (then_ok (operations_in 0 [] rows) (λ operations. Ok
    (record { operations = operations; prearranged = prearranged })))
    (Err (table_fault reasons.TooManyRows 0))
table_by _ _ = Err (table_fault reasons.TableShape 0)

-- the table that the data means, or its first fault: first of the object, then of the number of rows, then of each row
abbrev pub table_in : Data → Result Table TableFault
table_in (object members) =
    cond (has_only table_keys members)
    (table_by (get_member (codes "operations") members) (flag_in false (get_member (codes "prearranged") members)))
    (Err (table_fault reasons.TableShape 0))
table_in _ = Err (table_fault reasons.TableShape 0)

-- The octets are a JSON text with this data.
abbrev pub IsJson : List ℕ → Data → Type 0
IsJson octets d = IsUtf8 octets × (read octets ≡ Some d)

-- The octets mean `answer`: a table or the first fault, or NotJson if they are not JSON.
abbrev pub IsTableOf : List ℕ → Result Table TableFault → Type 0
IsTableOf octets answer =
    ((d : Data) × IsJson octets d × (table_in d ≡ answer))
    ⊎ (((d : Data) → IsJson octets d → ⊥) × (answer ≡ Err (table_fault reasons.NotJson 0)))
