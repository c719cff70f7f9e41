-- The parts of a book nest no deeper than the book.
use Rattle.std.proofs.Common.{◌≡◌, ℕ, ◌≤◌, Bool, true, false, cond, List, Option, Some, Ordering, Less, Equal, Greater, nat_cmp, is_some, unwrap_or, true≢false, codes, sym, ap, subst, arith}
use Rattle.std.specs.Ordering.{match_ordering}
use Rattle.std.specs.Cmp.Lexicographic.{slice_cmp}
use Rattle.std.specs.Str.{bytes_eq}
use Rattle.serde_json.specs.Data.{Data, null, boolean, number, string, array, object, Items, no_items, item, Members, no_members, member, depth, items_depth, members_depth}
use Rattle.serde_json.specs.Find.{as_array, get, get_member}
use Rattle.tcap_end.proofs.TableLaws.{is_array}
use Rattle.tcap_books.specs.BookText.{bare_items, bare_row, bare_rows, bare_table, bare_value, is_books, is_name, kept, same}

member_depth : (b : Bool) (k : List ℕ) (d e : Data) (ms ns : Members) → depth d ≤ depth e → members_depth ms ≤ members_depth ns
    → members_depth (cond b ms (member k d ms)) ≤ members_depth (member k e ns)
member_depth true k d e ms ns p q = omega (arith, q)
member_depth false k d e ms ns p q = omega (arith, p, q)

kept_depth : (drops : List ℕ → Bool) (make : List ℕ → Data → Data) → ((k : List ℕ) (d : Data) → depth (make k d) ≤ depth d)
    → (ms : Members) → members_depth (kept drops make ms) ≤ members_depth ms
kept_depth drops make less no_members = omega arith
kept_depth drops make less (member k d ms) = member_depth (drops k) k (make k d) d _ ms (less k d) (kept_depth drops make less ms)

row_depth : (d : Data) → depth (bare_row d) ≤ depth d
row_depth null = omega arith
row_depth (boolean b) = omega arith
row_depth (number n) = omega arith
row_depth (string s) = omega arith
row_depth (array ds) = omega arith
row_depth (object ms) = omega (arith, kept_depth is_name same (λ k d. omega arith) ms)

rows_depth : (ds : Items) → items_depth (bare_items ds) ≤ items_depth ds
rows_depth no_items = omega arith
rows_depth (item d ds) = omega (arith, row_depth d, rows_depth ds)

list_depth : (d : Data) → depth (bare_rows d) ≤ depth d
list_depth null = omega arith
list_depth (boolean b) = omega arith
list_depth (number n) = omega arith
list_depth (string s) = omega arith
list_depth (array ds) = omega (arith, rows_depth ds)
list_depth (object ms) = omega arith

either_depth : (b : Bool) (d : Data) → depth (cond b (bare_rows d) d) ≤ depth d
either_depth true d = list_depth d
either_depth false d = omega arith

-- a bare table nests no deeper
pub bare_depth : (d : Data) → depth (bare_table d) ≤ depth d
bare_depth null = omega arith
bare_depth (boolean b) = omega arith
bare_depth (number n) = omega arith
bare_depth (string s) = omega arith
bare_depth (array ds) = omega arith
bare_depth (object ms) = omega (arith, kept_depth is_books bare_value (λ k d. either_depth (bytes_eq k (codes "operations")) d) ms)

found_depth : (o : Ordering) (l : List ℕ) (e x : Data) (ms : Members) (rest : Option Data) → (rest ≡ Some x → depth x ≤ members_depth ms)
    → match_ordering o rest (Some e) rest ≡ Some x → depth x ≤ members_depth (member l e ms)
found_depth Less l e x ms rest later is = omega (arith, later is)
found_depth Equal l e x ms rest later is = subst (λ y. depth y ≤ members_depth (member l e ms)) (ap (λ o. unwrap_or o e) is) (omega arith)
found_depth Greater l e x ms rest later is = omega (arith, later is)

get_member_depth : (k : List ℕ) (ms : Members) (x : Data) → get_member k ms ≡ Some x → depth x ≤ members_depth ms
get_member_depth k no_members x is = absurd (true≢false (sym (ap is_some is)))
get_member_depth k (member l e ms) x is = found_depth (slice_cmp nat_cmp k l) l e x ms (get_member k ms) (get_member_depth k ms x) is

-- the value of a key nests no deeper
pub get_depth : (k : List ℕ) (d x : Data) → Some x ≡ get k d → depth x ≤ depth d
get_depth k null x is = absurd (true≢false (ap is_some is))
get_depth k (boolean b) x is = absurd (true≢false (ap is_some is))
get_depth k (number n) x is = absurd (true≢false (ap is_some is))
get_depth k (string s) x is = absurd (true≢false (ap is_some is))
get_depth k (array ds) x is = absurd (true≢false (ap is_some is))
get_depth k (object ms) x is = omega (arith, get_member_depth k ms x (sym is))

-- the items of a list nest no deeper
pub array_depth : (d : Data) (xs : Items) → Some xs ≡ as_array d → items_depth xs ≤ depth d
array_depth d xs is = rw (is_array d xs is) (omega arith)
