use Rattle.std.proofs.Common.{◌≡◌, true, ◌||◌, sym, ◌∙◌}
use Rattle.tcap_refute.specs.EarlierMessages.{since_quiet}
use Rattle.tcap_faults.specs.TangledIds.{goes_over_tangled}
use Rattle.tcap_faults.specs.UsedAgain.{has_used_again, uses_again}
use Rattle.tcap_faults.proofs.component_laws.FewComponentsLaws.{still_roomy}
use Rattle.tcap_faults.proofs.verdict_laws.NextEntryLaws.{first_fault, first_where, further_fault, no_fault, none_so, second_so, third_so, over}
use Rattle.tcap_faults.proofs.transaction.history.Facts.fault_of.Goals.{then-ends-via-then-ends, then-ends-via-else-ends+then-effects, then-ends-via-else-ends+else-effects+then-is_some}
use Rattle.tcap_faults.proofs.transaction.history.Facts.fault_of.Goals as goal

pub returns-then-ends : goal.returns-then-ends
returns-then-ends g c = λ items are roomy found effects.
    let m = g.M.MessageParts.meaning c.args.message.now in
    let table = c.args.table.now in
    let side = c.args.side in
    let xs = since_quiet items in
    let (own, peer) = c.ends-ends.ensures table items are in
    let so : (has_used_again table side xs || uses_again table side xs m || goes_over_tangled side xs m) ≡ true =
    elim c.then-ends.branch [
      | then-ends-via-then-ends w ↦ first_where (has_used_again table side xs) (uses_again table side xs m) _ (sym own.again ∙ w.if-ends.true)
      | then-ends-via-else-ends+then-effects w ↦
          second_so (has_used_again table side xs) (uses_again table side xs m) _ (sym effects.again ∙ w.if-effects.true)
      | then-ends-via-else-ends+else-effects+then-is_some w ↦
          third_so (has_used_again table side xs) (uses_again table side xs m) _ (over table side xs m w.tangled_in.result w.is_some.result (w.tangled_in.ensures table xs m own peer found) w.is_some.ensures ∙ w.if-is_some.true)
    ] in
    no_fault table side xs m so

pub returns-in-Some : goal.returns-in-Some
returns-in-Some g c = λ items are roomy found effects.
    let m = g.M.MessageParts.meaning c.args.message.now in
    let table = c.args.table.now in
    let side = c.args.side in
    let xs = since_quiet items in
    let (own, peer) = c.ends-ends.ensures table items are in
    first_fault table side xs m c.in-Some.kind
    (none_so (has_used_again table side xs) (uses_again table side xs m) _ (sym own.again ∙ c.if-ends.false)
    (sym effects.again ∙ c.if-effects.false)
    (over table side xs m c.tangled_in.result c.is_some.result (c.tangled_in.ensures table xs m own peer found) c.is_some.ensures ∙ c.if-is_some.false))
    (c.in-Some.ensures side items found)

pub returns-in-None : goal.returns-in-None
returns-in-None g c = λ items are roomy found effects.
    let m = g.M.MessageParts.meaning c.args.message.now in
    let table = c.args.table.now in
    let side = c.args.side in
    let xs = since_quiet items in
    let (own, peer) = c.ends-ends.ensures table items are in
    let plain = over table side xs m c.tangled_in.result c.is_some.result (c.tangled_in.ensures table xs m own peer found) c.is_some.ensures ∙ c.if-is_some.false in
    further_fault table side xs m c.further_kind.result
    (none_so (has_used_again table side xs) (uses_again table side xs m) _ (sym own.again ∙ c.if-ends.false)
    (sym effects.again ∙ c.if-effects.false) plain)
    (c.in-None.ensures side items found)
    (c.further_kind.ensures side xs own peer found plain (still_roomy side items m roomy))
