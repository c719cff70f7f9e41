use Rattle.std.proofs.Common.{length, get_or, None, refl, sym, arith}
use Rattle.tcap_certificate.specs.declared.certificate.Fate.TheVariants.{Gap}
use Rattle.tcap_search.proofs.LineLaws.{count_transactions, transaction_is}
use Rattle.tcap_search.proofs.ClosingLaws.{delivered_all, delivered_more, delivered_other}
use Rattle.tcap_search.proofs.closings.deliveries_of.Goals.{in-Some, in_default}
use Rattle.tcap_search.proofs.closings.deliveries_of.Goals as goal

pub bounds-fates-number : goal.bounds-fates-number
bounds-fates-number c = omega (arith, c.requires.count)

pub bounds-transactions-number : goal.bounds-transactions-number
bounds-transactions-number c =
    let counted = count_transactions c.args.entries.now c.args.transactions.now c.requires.transactions in omega arith

pub returns : goal.returns
returns c =
    let l = c.loop-number in
    delivered_all c.args.entries.now c.args.fates.now l.number l.delivered c.requires.count c.loop-number-test.false l.invariant

pub loop-number-preserved : goal.loop-number-preserved
loop-number-preserved c =
    let entries = c.args.entries.now in
    let transactions = c.args.transactions.now in
    let fates = c.args.fates.now in
    let i = c.loop-number.number in
    let old = c.loop-number.delivered in
    let so_far = c.loop-number.invariant in
    let below = c.loop-number-test.true in
    let e = c.index-entries-number.result in
    let read = c.index-entries-number.is in
    let counted = c.requires.count in
    elim c.match-end_delivery_gap.branch [
      | in-Some w ↦ rw w.delivered-is
          (delivered_more entries fates i old e (Gap 0) (get_or fates i (Gap 0)) below counted read refl so_far
          w.note.new.self (get_or transactions i None) w.in-Some.gap
          (transaction_is entries transactions i e c.requires.transactions below read) (sym w.in-Some.ensures)
          (w.note.ensures.room (length entries) so_far.room)
          (λ side t within. w.note.ensures.noted (length entries) side t so_far.room within))
      | in_default w ↦ rw w.delivered-is
          (delivered_other entries fates i old e (Gap 0) (get_or fates i (Gap 0)) below counted read refl so_far
          (sym w.in_default.ensures))
    ]
