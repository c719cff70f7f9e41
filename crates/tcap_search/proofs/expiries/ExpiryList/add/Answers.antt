-- The invocation is new, or listed already.
use Rattle.std.proofs.Common.{◌≡◌, true, false, sym, ◌∙◌}
use Rattle.std.proofs.lemmas.Bool.{not-false, not-true}
use Rattle.std.specs.List.{list_any}
use Rattle.tcap_search.specs.ProposedCertificate.{is_expiry_of}
use Rattle.tcap_search.proofs.SweepLaws.{adds_new, adds_none, named_more}
use Rattle.tcap_search.proofs.expiries.ExpiryList.add.Goals as goal

pub returns-in_ok-push-clause-added : goal.returns-in_ok-push-clause-added
returns-in_ok-push-clause-added c =
    let old = c.args.self.now in
    let new : list_any (is_expiry_of (c.in-Some.entry, c.in-Some.component)) old.expiries.items ≡ false =
    sym (c.requires.listed c.in-Some.entry c.in-Some.component)
    ∙ not-true _ (sym c.in_ok-insert.ensures.added ∙ c.if-branch.true) in
    c.in_ok-push.ensures.items
    ∙ rw c.in-Some.is
    (adds_new old.expiries.items c.args.side c.args.answer.gap c.in-Some.entry c.in-Some.component new)

pub returns-in_ok-push-clause-listed : goal.returns-in_ok-push-clause-listed
returns-in_ok-push-clause-listed c = λ e d.
    let old = c.args.self.now in
    c.in_ok-insert.ensures.updates.0 (e, d)
    ∙ rw c.in_ok-push.ensures.items
    (named_more old.expiries.items c.args.side c.args.answer.gap c.in-Some.entry c.in-Some.component e d _
    (c.requires.listed e d))

pub returns-else-branch-clause-added : goal.returns-else-branch-clause-added
returns-else-branch-clause-added c =
    let old = c.args.self.now in
    let named : list_any (is_expiry_of (c.in-Some.entry, c.in-Some.component)) old.expiries.items ≡ true =
    sym (c.requires.listed c.in-Some.entry c.in-Some.component)
    ∙ not-false _ (sym c.in_ok-insert.ensures.added ∙ c.if-branch.false) in
    rw c.in-Some.is
    (adds_none old.expiries.items c.args.side c.args.answer.gap c.in-Some.entry c.in-Some.component named)
