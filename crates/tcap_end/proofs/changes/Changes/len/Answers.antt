use Rattle.std.proofs.Common.{◌≡◌, length, rules, sym, ap, ◌∙◌}
use Rattle.std.proofs.lemmas.List.{length-reverse}
use Rattle.tcap_end.proofs.changes.Changes.len.Goals as goal

pub returns : goal.returns
returns c =
    let count : c.len.result ≡ length c.self.inside.made.items = search rules in
    count ∙ sym (length-reverse c.self.inside.made.items) ∙ ap length c.self.view_is
