use Rattle.std.proofs.Common.{length, get_or, None, sym, ◌∙◌, arith}
use Rattle.tcap_search.proofs.ClosingLaws.{ended_all, ended_more, ended_other}
use Rattle.tcap_search.proofs.LineLaws.{count_transactions, transaction_is}
use Rattle.tcap_search.proofs.closings.ends_of.Goals.{then-ends, else-ends}
use Rattle.tcap_search.proofs.closings.ends_of.Goals as goal

pub bounds-transactions-number : goal.bounds-transactions-number
bounds-transactions-number c =
    let counted = count_transactions c.args.entries.now c.args.transactions.now c.requires.transactions in omega arith

pub loop-number-preserved : goal.loop-number-preserved
loop-number-preserved c =
    let entries = c.args.entries.now in
    let transactions = c.args.transactions.now in
    let i = c.loop-number.number in
    let old = c.loop-number.ended in
    let so_far = c.loop-number.invariant in
    let below = c.loop-number-test.true in
    let e = c.index-entries-number.result in
    let read = c.index-entries-number.is in
    elim c.if-ends.branch [
      | then-ends w ↦ rw w.ended-is
          (ended_more entries i old e below read so_far w.note.new.self (get_or transactions i None)
          (transaction_is entries transactions i e c.requires.transactions below read)
          (sym c.ends.ensures ∙ w.if-ends.true)
          (w.note.ensures.room (length entries) so_far.room)
          (λ side t within. w.note.ensures.noted (length entries) side t so_far.room within))
      | else-ends w ↦ rw w.ended-is
          (ended_other entries i old e below read so_far (sym c.ends.ensures ∙ w.if-ends.false))
    ]

pub returns : goal.returns
returns c =
    let l = c.loop-number in
    ended_all c.args.entries.now l.number l.ended c.loop-number-test.false l.invariant
