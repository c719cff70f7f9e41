use Rattle.std.proofs.Common.{List, ◌∷◌, is_ok, ap, ◌∙◌}
use Rattle.std.specs.Prelude.{if◌then◌else◌, reverse}
use Rattle.tcap_end.specs.declared.half_state.Change.{Change}
use Rattle.tcap_end.proofs.NotedLaws.{pushed}
use Rattle.tcap_end.proofs.changes.Changes.push.Goals as goal

pub returns-clause-items : goal.returns-clause-items
returns-clause-items c =
    ap reverse c.push.ensures.items ∙ pushed (is_ok c.push.result) c.self.inside.made.items c.args.change
    ∙ ap (λ (all : List Change). if is_ok c.push.result then c.args.change ∷ all else all) c.self.view_is
