use Rattle.std.proofs.Common.{◌≡◌, Bool, true, false, not, refl, arith}
use Rattle.std.proofs.lemmas.Result.{on_ok_weaker}
use Rattle.tcap_faults.proofs.transaction_laws.JoinStepLaws.{continue_gets}
use Rattle.tcap_faults.proofs.transaction.history_update.join_continue.Goals as goal

turned : (b : Bool) → not b ≡ false → b ≡ true
turned b is = grind (arith, is)

pub returns : goal.returns
returns c =
    on_ok_weaker c.add_at.result
    (λ gets. (
      continue_gets c.args.otid.octets.now c.args.dtid.octets.now c.args.effects.joins
          (turned c.args.effects.joins c.if-not-effects.false) c.args.own.now.joined c.add_at.new.map gets,
      c.in_ok-insert_if.ensures,
      c.in_ok-insert_if-2.ensures,
      refl,
      refl,
    ))
    c.add_at.ensures
