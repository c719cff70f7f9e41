use Rattle.std.proofs.Common.{◌≡◌, ◌∙◌, None, refl, sym}
use Rattle.tcap_lists.specs.Row.{kind_at}
use Rattle.tcap_lists.proofs.ItemLaws.{kind_wanted, none_stood, items_stood}
use Rattle.tcap_lists.proofs.RowLaws.{oldest_stands, none_stands}
use Rattle.tcap_lists.proofs.row.Row.oldest.Goals as goal

pub returns-in_err-kind : goal.returns-in_err-kind
returns-in_err-kind g c =
    let row = c.args.self.now in
    let empty : kind_at row.places.items row.first ≡ None =
    none_stood row.kinds.items row.places.items row.first row.numbered (items_stood row.kinds.items row.places.items row.first ∙ sym c.in_err-kind.ensures) in
    rw c.from_residual.ensures (none_stands None row.places.items row.first row.oldest_of_all (rw empty refl))

pub returns : goal.returns
returns g c =
    let row = c.args.self.now in (
      oldest_stands None row.places.items row.first row.oldest_of_all (kind_wanted row.kinds.items (kind_at row.places.items row.first) c.in_ok-kind.kind.now (sym c.in_ok-kind.ensures)),
      sym c.in_ok-kind.ensures,
    )
