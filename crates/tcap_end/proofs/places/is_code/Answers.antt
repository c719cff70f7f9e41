use Rattle.std.proofs.Common.{◌∙◌}
use Rattle.std.specs.Cmp.Lexicographic.{texts_ties}
use Rattle.tcap_end.proofs.places.is_code.Goals as goal

pub returns-in-Global-Global : goal.returns-in-Global-Global
returns-in-Global-Global c =
    rw (c.in-Global-Global.is-0, c.in-Global-Global.is-1)
    (c.eq.ensures ∙ texts_ties c.in-Global-Global.a.octets.now c.in-Global-Global.b.octets.now)
