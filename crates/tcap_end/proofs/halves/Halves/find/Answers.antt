use Rattle.std.proofs.Common.{◌≡◌, refl, sym, ap, ◌∙◌}
use Rattle.std.specs.Option.{option_copied}
use Rattle.tcap_end.specs.declared.halves.HalfKey.{HalfKey}
use Rattle.tcap_end.proofs.FindLaws.{found_open, found_closed}
use Rattle.tcap_end.proofs.halves.Halves.find.Goals as goal
use Rattle.tcap_end.proofs.halves.Halves.find.Goals.{in-Open, in-Closed}

pub returns : goal.returns
returns c =
    let s = c.args.self.now in
    let found : HalfKey = record { slot = c.args.slot; key = c.to_transaction_id.result; number = c.match-branch-2.number } in
    let same : c.to_transaction_id.result ≡ c.args.key.now = c.to_transaction_id.ensures ∙ c.view.ensures in
    let at = rw c.places.ensures at (sym c.get.ensures.value ∙ ap option_copied c.in_ok-number.was) in (
      refl,
      same,
      elim c.match-branch-2.branch [
        | in-Open w ↦ found_open s found w.in-Open.number w.number-is (rw (same, ← w.in-Open.is) at)
        | in-Closed w ↦ found_closed s found w.in-Closed.field-0 w.number-is (rw (same, ← w.in-Closed.is) at)
      ],
    )
