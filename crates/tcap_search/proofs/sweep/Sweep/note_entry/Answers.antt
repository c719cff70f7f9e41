-- The Invokes of a Begin or a Continue.
use Rattle.std.proofs.Common.{sym, ◌∙◌}
use Rattle.tcap_search.specs.InvocationMap.{kept_at}
use Rattle.tcap_search.proofs.SweepLaws.{entry_step}
use Rattle.tcap_search.proofs.sweep.Sweep.note_entry.Goals as goal

pub returns-clause-noted : goal.returns-clause-noted
returns-clause-noted c = λ t s id.
    rw c.components_of.ensures at (c.in_ok-note_invokes.ensures.noted t s id)
    ∙ rw c.in-Some-Some.is-1
    (entry_step c.args.entry.now c.args.number c.in-Some-Some.side s c.in-Some-Some.transaction t id
    (kept_at t s id c.args.self.now.invokes) c.in-Some-Some.is-0 (sym c.may_invoke.ensures ∙ c.if-not-may_invoke.false))
