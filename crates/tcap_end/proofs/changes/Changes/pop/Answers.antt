use Rattle.std.proofs.Common.{◌≡◌, List, [], ◌∷◌, MatchOption, length, rules, sym, subst, ◌∙◌}
use Rattle.std.specs.Prelude.{reverse, vec_len}
use Rattle.tcap_end.specs.declared.half_state.Change.{Change}
use Rattle.tcap_end.proofs.NotedLaws.{none_left, popped}
use Rattle.tcap_end.proofs.changes.Changes.pop.Goals as goal

pub returns : goal.returns
returns c =
    let made = c.self.inside.made in
    let before : vec_len made ≡ length made.items = search rules in
    let after : vec_len c.pop.new.self ≡ length c.pop.new.self.items = search rules in
    let left = reverse c.pop.new.self.items in
    record {
      items = subst (λ (all : List Change). MatchOption c.pop.result ((all ≡ []) × (left ≡ [])) (λ change. all ≡ change ∷ left))
          c.self.view_is
          (popped c.pop.result made.items c.pop.new.self.items c.pop.ensures.items
          (λ is. let none = rw is at c.pop.ensures.cases in (none_left _ (sym before ∙ none.0), none_left _ (sym after ∙ none.1))));
    }
