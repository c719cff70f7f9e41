use Rattle.std.proofs.Common.{rules}
use Rattle.tcap_end.specs.Component.{allows_for}
use Rattle.tcap_end.proofs.places.first_rejectable_answer.Goals as goal

pub returns : goal.returns
returns c = c.oldest_that.ensures (allows_for c.args.is_result c.args.problem) (λ kind fit k. search rules)
