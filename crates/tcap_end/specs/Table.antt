-- What an operation table is: the knowledge of a test bench of the operations (Q.771, operation classes).
use Rattle.std.specs.Prelude.{ℕ, Bool, false, List, [], Option, Some, None, option_map}
use Rattle.std.specs.Map.{lookup}
use Rattle.std.specs.BTreeMap.{is_at}
use Rattle.tcap_parts.specs.declared.code.Code.{Code}
pub use Rattle.tcap_lists.specs.CodeMap.{code_cmp, octets_cmp}

-- An operation: its class, 1 to 4; the codes of its linked operations, each mapped to the unit value; and whether its
-- invocations may expire in the record. An invocation expires by timer or by the user's cancel (Q.771: TC-L-CANCEL,
-- TC-U-CANCEL).
pub record Operation : Type 0 where
  pub class : ℕ
  pub linked : List (Code × Unit {0})
  pub expires : Bool

-- an operation table: the operations in the order of their codes, and whether transactions may end by prearrangement
pub record Table : Type 0 where
  pub operations : List (Code × Operation)
  pub prearranged : Bool

-- the entry of an operation, or None if the table does not have it
abbrev pub operation_of : Table → Code → Option Operation
operation_of table code = lookup (is_at (code_cmp code)) table.operations

-- the class of an operation, or None if the table does not have the operation
abbrev pub class_of : Table → Code → Option ℕ
class_of table code = option_map (λ operation. operation.class) (operation_of table code)

-- the linked operations of an entry; none without an entry
abbrev pub linked_by : Option Operation → List (Code × Unit {0})
linked_by None = []
linked_by (Some operation) = operation.linked

-- the operations that may be linked to an operation
abbrev pub linked_of : Table → Code → List (Code × Unit {0})
linked_of table code = linked_by (operation_of table code)

-- whether invocations of an entry's operation may expire; false without an entry
abbrev pub expires_by : Option Operation → Bool
expires_by None = false
expires_by (Some operation) = operation.expires

-- whether an invocation of an operation may expire, by timer or by the user's cancel
abbrev pub expires_of : Table → Code → Bool
expires_of table code = expires_by (operation_of table code)
