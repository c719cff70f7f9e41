use Rattle.std.proofs.Common.{sym, ◌∙◌}
use Rattle.tcap_faults.specs.History.{dtids_of, sent_from}
use Rattle.tcap_record.specs.Ends.{other}
use Rattle.tcap_faults.proofs.dialogue_laws.WhichHalf.{first_own_is, joined_own_is}
use Rattle.tcap_faults.proofs.transaction.tangled_ids.Ends.begun_own.Goals as goal

pub returns-then-owns_differ : goal.returns-then-owns_differ
returns-then-owns_differ c = λ table side items own is kept.
    first_own_is side items c.args.peer_id.id.now c.first_begun.result
    (c.first_begun.ensures table side items (dtids_of (sent_from (other side) items c.args.peer_id.id.now)) own kept.to)

pub returns-else-owns_differ : goal.returns-else-owns_differ
returns-else-owns_differ c = λ table side items own is kept.
    joined_own_is side items c.args.peer_id.id.now
    (sym (c.owns_differ.ensures table side items c.args.peer_id.id.now is) ∙ c.if-owns_differ.false)
    c.joined_own.result (c.joined_own.ensures table side items c.args.peer_id.id.now is)
