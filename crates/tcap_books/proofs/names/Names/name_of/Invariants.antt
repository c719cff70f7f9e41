use Rattle.std.proofs.Common.{◌≡◌, drop}
use Rattle.std.specs.Map.{lookup}
use Rattle.std.specs.BTreeMap.{is_at}
use Rattle.tcap_parts.specs.Meaning.{code_of}
use Rattle.tcap_end.specs.Table.{code_cmp}
use Rattle.tcap_books.proofs.names.Names.name_of.Given as goal

-- the result is that of the remaining names
abbrev pub invariant-loop-name : goal.invariant-loop-name
invariant-loop-name l = record {
  left : lookup (is_at (code_cmp (code_of l.code))) (drop l.name-index l.name-items) ≡ lookup (is_at (code_cmp (code_of l.code))) l.name-items;
}
