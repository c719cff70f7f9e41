use Rattle.std.proofs.Common.{rules, of_calls, sym, subst, ◌∙◌, ap}
use Rattle.std.proofs.lemmas.Fn.{always_returns_same}
use Rattle.std.specs.Ordering.{int_cmp}
use Rattle.std.specs.List.Sorted.{IsSearchInRange}
use Rattle.tcap_end.specs.OwnInvocations.{found_at}
use Rattle.tcap_end.specs.ReachableEnd.{Rises}
use Rattle.tcap_end.proofs.FoundAtLaws.{searched}
use Rattle.tcap_end.proofs.own_invocations.Outs.find.Goals as goal

pub returns-clause-value : goal.returns-clause-value
returns-clause-value c =
    let same = c.deref.ensures.value in
    searched c.args.id c.deref.result.now c.binary_search_by.result (subst (λ l. Rises int_cmp l) (sym same) c.args.self.now.ordered)
    c.binary_search_by.ensures.bound
    (c.binary_search_by.ensures.position (λ e. int_cmp e.0 c.args.id) (always_returns_same _ _ _ (λ a r f k. search (rules, of_calls))))
    ∙ ap (λ l. found_at c.args.id l) same

pub returns-clause-range : goal.returns-clause-range
returns-clause-range c = subst (λ n. IsSearchInRange c.binary_search_by.result n) c.deref.ensures.len c.binary_search_by.ensures.bound
