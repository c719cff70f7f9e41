-- Keys are equal if their parts are.
use Rattle.std.proofs.Common.{Bool, Some, SFits, ap, cond, rules, to_z-of_z, w8, ◌∙◌}
use Rattle.tcap_search.specs.InvocationMap.{kept_at, key_of}
use Rattle.tcap_search.proofs.TestLaws.{same_key}
use Rattle.tcap_search.proofs.by_invocation.ByInvocation.put.Goals as goal

pub returns : goal.returns
returns g c = λ t s other.
    let fits : SFits w8 c.args.id = search rules in
    rw (c.key.ensures, to_z-of_z fits) at (c.in_ok-insert.ensures.updates.0 (key_of t s other))
    ∙ ap (λ (b : Bool). cond b (Some c.args.value) (kept_at t s other c.args.self.now))
    (same_key t c.args.transaction s c.args.side other c.args.id)
