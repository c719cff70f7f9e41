use Rattle.std.proofs.Common.{length, get_or, not, refl, sym, ap, ◌∙◌}
use Rattle.tcap_search.specs.declared.tie.Tie.{Tie}
use Rattle.tcap_search.specs.SegmentEntries.{lines_of}
use Rattle.tcap_search.specs.ProposedCertificate.{fated}
use Rattle.tcap_search.proofs.ClosingLaws.{listed_again, listed_more, listed_same, shown_below}
use Rattle.tcap_search.proofs.closings.shown_closings.Goals.{then-is_none+in_ok-push, else-is_none}
use Rattle.tcap_search.proofs.closings.shown_closings.Goals as goal

pub loop-tie-preserved : goal.loop-tie-preserved
loop-tie-preserved c =
    let entries = c.args.entries.now in
    let lines = lines_of entries in
    let all = fated lines c.args.fates.now in
    let ties = c.args.ties.now in
    let count = length entries in
    let i = c.loop-tie.tie-index in
    let listed = c.loop-tie.listed.items in
    let old = c.loop-tie.kept in
    let so_far = c.loop-tie.invariant in
    let below = c.loop-tie-test.true in
    let zero_tie : Tie = record { entry = 0; reply = 0 } in
    let t = get_or ties i zero_tie in
    let side = c.in-Some.side in
    let transaction = c.in-Some.transaction in
    let shown = sym (c.in-Some.ensures all c.in_ok-delivered.ensures) in
    let within = shown_below entries all t.entry t.reply side transaction shown in
    let is_none = rw c.get.ensures at c.is_none.ensures in
    elim c.if-is_none.branch [
      | then-is_none+in_ok-push w ↦ rw (w.kept-is, w.listed-is, w.in_ok-push.ensures.items)
          (listed_more all lines ties count i listed old zero_tie t below refl so_far side transaction shown within
          w.note.new.self (is_none ∙ ap not w.if-is_none.true) (w.note.ensures.room count so_far.room)
          (λ at u fits. w.note.ensures.noted count at u so_far.room fits))
      | else-is_none w ↦ rw (w.kept-is, w.listed-is)
          (listed_again all lines ties count i listed old zero_tie t below refl so_far side transaction shown within
          (is_none ∙ ap not w.if-is_none.false))
    ]

pub loop-tie-preserved-in_default : goal.loop-tie-preserved-in_default
loop-tie-preserved-in_default c =
    let lines = lines_of c.args.entries.now in
    let all = fated lines c.args.fates.now in
    let i = c.loop-tie.tie-index in
    let zero_tie : Tie = record { entry = 0; reply = 0 } in
    listed_same all lines c.args.ties.now (length c.args.entries.now) i c.loop-tie.listed.items c.loop-tie.kept zero_tie
    (get_or c.args.ties.now i zero_tie) c.loop-tie-test.true refl c.loop-tie.invariant
    (sym (c.in_default.ensures all c.in_ok-delivered.ensures))
