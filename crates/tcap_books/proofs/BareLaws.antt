-- Members put into a map one by one, with some left out.
use Rattle.std.proofs.Common.{◌≡◌, ℕ, Bool, true, false, cond, List, [], ◌∷◌, ◌++◌, Less, Greater, map, string_bytes, string_cmp, nat_cmp, refl, ap, ◌∙◌}
use Rattle.std.proofs.lemmas.Cmp.{nat_list_cmp_total}
use Rattle.std.specs.Cmp.Lexicographic.{slice_cmp}
use Rattle.std.specs.List.{AllByRecursion}
use Rattle.std.specs.List.Sorted.{IsStrictlySortedBy}
use Rattle.std.specs.Map.{keys_of}
use Rattle.std.specs.Ordering.{ordering_reverse}
use Rattle.serde_json.specs.Data.{Data, item, Members, member, put}
use Rattle.serde_json.specs.View.{view, items_of, items_view, members_view}
use Rattle.serde_json.specs.declared.value.Value.{Value}
use Rattle.serde_json.proofs.Views.{Entry}
use Rattle.tcap_books.specs.BookText.{kept, bare_row, bare_items}

below_middle : (first : Entry) (es : List Entry) (e : Entry) (more : List Entry) → AllByRecursion (λ y. string_cmp first.0 y ≡ Less) (keys_of (es ++ e ∷ more)) → string_cmp first.0 e.0 ≡ Less
below_middle first [] e more h = h.0
below_middle first (x ∷ es) e more h = below_middle first es e more h.1

-- a key above one that may be left out goes after it
put_behind : (b : Bool) (k l : List ℕ) (d e : Data) (ms ns : Members) → slice_cmp nat_cmp k l ≡ Greater → put k d ms ≡ ns
    → put k d (cond b ms (member l e ms)) ≡ cond b ns (member l e ns)
put_behind true k l d e ms ns above is = is
put_behind false k l d e ms ns above is = rw above (ap (member l e) is)

-- a member whose key is above those before it goes last
pub kept_last : (drops : List ℕ → Bool) (make : List ℕ → Data → Data) (done : List Entry) (e : Entry) (more : List Entry) (d : Data)
    → IsStrictlySortedBy string_cmp (keys_of (done ++ e ∷ more)) → drops (string_bytes e.0) ≡ false → d ≡ make (string_bytes e.0) (view e.1)
    → put (string_bytes e.0) d (kept drops make (members_view done)) ≡ kept drops make (members_view (done ++ e ∷ []))
unfolding IsStrictlySortedBy
kept_last drops make [] e more d h stays is = rw (stays, is) refl
kept_last drops make (first ∷ done) e more d h stays is =
    let above : slice_cmp nat_cmp (string_bytes e.0) (string_bytes first.0) ≡ Greater =
    nat_list_cmp_total.antisymm (string_bytes e.0) (string_bytes first.0) ∙ ap ordering_reverse (below_middle first done e more h.0) in
    put_behind (drops (string_bytes first.0)) (string_bytes e.0) (string_bytes first.0) d (make (string_bytes first.0) (view first.1))
    _ _ above (kept_last drops make done e more d h.1 stays is)

-- a member that is left out changes nothing
pub dropped_last : (drops : List ℕ → Bool) (make : List ℕ → Data → Data) (done : List Entry) (e : Entry)
    → drops (string_bytes e.0) ≡ true → kept drops make (members_view done) ≡ kept drops make (members_view (done ++ e ∷ []))
dropped_last drops make [] e goes = rw goes refl
dropped_last drops make (first ∷ done) e goes =
    ap (λ ms. cond (drops (string_bytes first.0)) ms (member (string_bytes first.0) (make (string_bytes first.0) (view first.1)) ms))
    (dropped_last drops make done e goes)

-- rows without their names, one by one
pub bare_each : (vs : List Value) → items_of (map (λ v. bare_row (view v)) vs) ≡ bare_items (items_view vs)
bare_each [] = refl
bare_each (v ∷ vs) = ap (item (bare_row (view v))) (bare_each vs)
