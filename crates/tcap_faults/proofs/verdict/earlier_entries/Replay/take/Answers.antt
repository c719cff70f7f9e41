use Rattle.std.proofs.Common.{Some, None, [], ◌∷◌, ◌++◌, cond, sym, ap, ◌∙◌}
use Rattle.std.specs.Option.{option_or}
use Rattle.tcap_model.specs.Entries.{item_of}
use Rattle.tcap_faults.specs.Replay.{items_up_to}
use Rattle.tcap_faults.specs.FaultSubject.{items_among}
use Rattle.tcap_faults.proofs.verdict_laws.EarlierEntriesLaws.{replayed_more}
use Rattle.tcap_faults.proofs.verdict.earlier_entries.Replay.take.Goals.{then-ends, else-ends}
use Rattle.tcap_faults.proofs.verdict.earlier_entries.Replay.take.Goals as goal

pub returns : goal.returns
returns c = λ entries so_far there.
    let are = c.in_ok-note_entry.ensures (items_up_to entries c.args.number) so_far.are in
    let (own, peer) = c.ends.ensures c.args.table.now
    (items_up_to entries c.args.number ++ items_among (item_of c.args.entry.now ∷ [])) are in
    let first = option_or c.args.self.now.again (Some c.args.number) in
    replayed_more c.args.table.now c.args.end entries c.args.number c.args.self.now so_far c.args.entry.now there
    c.entry_count-count.result c.entry_count-count.ensures.count c.entry_count-count.ensures.small _ are
    (elim c.if-ends.branch [
      | then-ends w ↦ w.self-is ∙ w.or-self.ensures ∙ ap (λ again. cond again first None) (sym w.if-ends.true ∙ own.again)
      | else-ends w ↦ w.self-is ∙ ap (λ again. cond again first None) (sym w.if-ends.false ∙ own.again)
    ])
