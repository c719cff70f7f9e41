use Rattle.std.proofs.Common.{◌≡◌, drop}
use Rattle.std.specs.Prelude.{cond, nat_lt}
use Rattle.tcap_books.specs.Book.{count_without}
use Rattle.tcap_books.proofs.book.Book.is_ambiguous.Given as goal

-- one more table without contexts is enough if there was one, else two are needed
abbrev pub invariant-loop-table : goal.invariant-loop-table
invariant-loop-table l = record {
  left : nat_lt (cond l.has_one 0 1) (count_without (drop l.table-index l.table-items))
      ≡ nat_lt 1 (count_without l.table-items);
}
