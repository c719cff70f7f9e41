use Rattle.std.proofs.Common.{◌≡◌, [], ◌∷◌, ◌++◌, string_bytes, sym, ap, ◌∙◌, subst, append_assoc}
use Rattle.std.specs.List.Sorted.{IsStrictlySortedBy}
use Rattle.std.specs.Map.{keys_of}
use Rattle.std.specs.String.{string_cmp}
use Rattle.serde_json.specs.View.{members_view}
use Rattle.serde_json.proofs.Views.{Entry, members_view-insert_entry}
use Rattle.tcap_books.specs.BookText.{is_name, same}
use Rattle.tcap_books.proofs.BareLaws.{kept_last, dropped_last}
use Rattle.tcap_books.proofs.bare.without_name.Goals as goal

pub loop-key-preserved-then-is_name : goal.loop-key-preserved-then-is_name
loop-key-preserved-then-is_name c =
    let l = c.loop-key in
    let done = l.invariant.0 in
    let e : Entry = (c.in-Some.key.now, c.in-Some.value.now) in
    let all = l.invariant.1 ∙ ap (λ es. done ++ es) c.in-Some.ensures.steps in (
      done ++ e ∷ [],
      all ∙ sym (append_assoc done (e ∷ []) c.next.new.self),
      l.invariant.2 ∙ dropped_last is_name same done e (sym (ap is_name c.as_str.ensures.value) ∙ sym c.if-is_name.ensures),
    )

pub loop-key-preserved : goal.loop-key-preserved
loop-key-preserved c =
    let l = c.loop-key in
    let done = l.invariant.0 in
    let e : Entry = (c.in-Some.key.now, c.in-Some.value.now) in
    let left = c.next.new.self in
    let all : c.args.members.now.entries ≡ done ++ e ∷ left = l.invariant.1 ∙ ap (λ es. done ++ es) c.in-Some.ensures.steps in
    let sorted = subst (λ es. IsStrictlySortedBy string_cmp (keys_of es)) all c.iter-key-items.ensures.ordered in
    let stays = sym (ap is_name c.as_str.ensures.value) ∙ sym c.if-is_name.ensures in
    let last = kept_last is_name same done e left _ sorted stays c.in_ok-clone.ensures.cases in
    let named : string_bytes c.in_ok-name.name ≡ string_bytes e.0 = c.in_ok-name.ensures.cases in (
      done ++ e ∷ [],
      all ∙ sym (append_assoc done (e ∷ []) left),
      ap members_view c.in_ok-insert.ensures.entries ∙ members_view-insert_entry l.kept.entries c.in_ok-name.name c.in_ok-clone.field-0 ∙ rw (named, l.invariant.2) last,
    )
