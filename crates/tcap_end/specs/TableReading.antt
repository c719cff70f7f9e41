-- What a stored row and stored operations of a table mean.
use Rattle.std.specs.Prelude.{Bool, true, false, List, [], ◌∷◌, Result, Ok, Err}
use Rattle.tcap_parts.specs.declared.code.Code.{Code}
use Rattle.tcap_lists.specs.declared.code_map.CodeMap.{CodeMap}
use Rattle.tcap_end.specs.declared.table.TableFault.{TableFault}
use Rattle.tcap_end.specs.declared.table_text.Row.{Row as TextRow}
use Rattle.tcap_lists.specs.CodeMap.{coded, key_code}
use Rattle.tcap_end.specs.Table.{Operation}
use Rattle.tcap_end.specs.TableText.{Row}

-- the row that a stored row means
abbrev pub row_of : TextRow → Row
row_of r = record { code = key_code r.key; class = r.class; linked = coded r.linked; expires = r.expires }

-- the operations that a stored map means, or the fault
abbrev pub operations_of : Result (CodeMap Operation) TableFault → Result (List (Code × Operation)) TableFault
operations_of (Ok m) = Ok (coded m)
operations_of (Err fault) = Err fault

-- whether a set of codes is not empty
abbrev pub is_linked : List (Code × Unit {0}) → Bool
is_linked [] = false
is_linked (first ∷ more) = true
