-- One more entry.
use Rattle.std.proofs.Common.{◌≡◌, ◌+◌, ℕ, ℤ, Bool, List, [], length, ap, arith, ◌∙◌}
use Rattle.tcap_record.specs.declared.entry.End.{End as Side}
use Rattle.tcap_search.specs.SegmentEntries.{Line, lines_of}
use Rattle.tcap_search.specs.ProposedCertificate.{expiries_from, fated}
use Rattle.tcap_search.specs.InvocationMap.{kept_at}
use Rattle.tcap_search.specs.GapDeliveries.{due_at}
use Rattle.tcap_certificate.specs.Replay.{due_in}
use Rattle.tcap_search.specs.Sweep.{answer_kept}
use Rattle.tcap_search.proofs.ExpiryLaws.{answers_start, answers_stay, answers_step, invokes_step, listed_step}
use Rattle.tcap_search.proofs.FateSteps.{all_lines}
use Rattle.tcap_search.proofs.LineLaws.{count_transactions}
use Rattle.tcap_search.proofs.SweepLaws.{answered_in}
use Rattle.tcap_search.proofs.expiries.swept_expiries.Goals as goal

pub due_by_gap-requires : goal.due_by_gap-requires
due_by_gap-requires c = record {
  few = omega (arith, c.requires.count);
}

pub bounds-transactions-number : goal.bounds-transactions-number
bounds-transactions-number c =
    omega (arith, count_transactions c.args.entries.now c.args.transactions.now c.requires.transactions)

pub loop-number-init : goal.loop-number-init
loop-number-init c = record {
  invokes = c.new-sweep.ensures.invokes;
  answers = answers_start c.args.entries.now c.args.fates.now c.new-sweep.result c.new-sweep.ensures.answers;
  added = c.new-listed.ensures.none;
  listed = c.new-listed.ensures.listed;
}

pub loop-number-preserved : goal.loop-number-preserved
loop-number-preserved c =
    let entries = c.args.entries.now in
    let transactions = c.args.transactions.now in
    let fates = c.args.fates.now in
    let i = c.loop-number.number in
    let e = c.index-entries-number.result in
    let count : length fates ≡ length entries = c.requires.count in
    let due : c.due_at.result.now ≡ due_in i 0 fates =
    c.due_at.ensures ∙ ap (due_at i) c.deref.ensures.value ∙ c.in_ok-due.ensures i (omega arith) in
    let answers : (is_result : Bool) (t : ℕ) (s : Side) (id : ℤ) → answer_kept is_result t s id c.deliver_all.new.self
    ≡ answered_in (lines_of entries) (fated (lines_of entries) fates) (i + 1) is_result t s id =
    answers_step entries transactions fates c.requires.transactions count c.requires.order i c.loop-number.sweep
    c.deliver_all.new.self c.due_at.result.now due c.loop-number.invariant.invokes c.loop-number.invariant.answers
    c.in_ok-deliver_all.ensures.noted in
    record {
      invokes = λ t s id.
          invokes_step entries transactions fates c.requires.transactions count c.requires.order i c.loop-number-test.true e
          c.index-entries-number.is (kept_at t s id c.deliver_all.new.self.invokes)
          (kept_at t s id c.note_entry.new.self.invokes) t s id
          (rw c.deliver_all.ensures.invokes (c.loop-number.invariant.invokes t s id))
          (c.in_ok-note_entry.ensures.noted t s id);
      answers = λ is_result t s id.
          answers_stay c.deliver_all.new.self c.note_entry.new.self c.note_entry.ensures.results
          c.note_entry.ensures.errors
          is_result t s id ∙ answers is_result t s id;
      added = listed_step entries transactions fates c.requires.transactions count c.requires.order i
          c.loop-number-test.true e c.index-entries-number.is c.deliver_all.new.self c.loop-number.listed.expiries.items
          c.add_entry.new.self.expiries.items answers c.loop-number.invariant.added c.in_ok-add_entry.ensures.added;
      listed = c.in_ok-add_entry.ensures.listed;
    }

pub returns : goal.returns
returns c = c.loop-number.invariant.added
    ∙ ap (λ (ls : List Line). expiries_from (fated (lines_of c.args.entries.now) c.args.fates.now)
    (lines_of c.args.entries.now) ls [])
    (all_lines c.args.entries.now c.loop-number.number c.loop-number-test.false)
