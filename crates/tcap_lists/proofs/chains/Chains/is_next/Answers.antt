use Rattle.std.proofs.Common.{◌≡◌, ◌≤◌, ◌<◌, ◌+◌, Some, arith, length, refl, rules}
use Rattle.std.proofs.lemmas.Bool.Decides.{nat_tests}
use Rattle.std.proofs.lemmas.Option.{slice_get_read}
use Rattle.std.specs.List.{slice_get}
use Rattle.tcap_lists.proofs.ChainLaws.{is_next}
use Rattle.tcap_lists.proofs.chains.Chains.is_next.Goals as goal

pub returns-then-mark-kind : goal.returns-then-mark-kind
returns-then-mark-kind c = λ yes.
    let marks = c.args.self.now.marks.items in
    let within : c.args.to < length marks = search rules in
    let is : slice_get marks c.args.to ≡ Some c.index-mark.result.now = slice_get_read marks _ c.args.to c.index-mark.result.now refl within c.index-mark.ensures in
    let same : c.index-mark.result.now.kind ≡ c.args.kind = search rules in
    let bound : c.index-mark.result.now.before ≤ c.args.at + 1 = grind (arith, nat_tests, yes) in
    is_next marks c.args.at c.args.kind c.args.to c.index-mark.result.now c.args.self.now.all_before is same bound
