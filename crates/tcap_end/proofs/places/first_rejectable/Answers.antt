use Rattle.std.proofs.Common.{rules, sym, refl}
use Rattle.tcap_end.specs.Component.{allows}
use Rattle.tcap_end.proofs.places.first_rejectable.Goals as goal

pub returns-in-Some : goal.returns-in-Some
returns-in-Some c = sym (c.in-Some.ensures c.in-Some.at refl)

pub returns-in-None : goal.returns-in-None
returns-in-None c = c.oldest_that.ensures (allows c.args.problem) (λ kind fit k. search rules)
