use Rattle.std.proofs.Common.{◌∙◌}
use Rattle.std.proofs.lemmas.Result.{IfOk-weaker}
use Rattle.tcap_dialogues.specs.Course.{courses_so_far}
use Rattle.tcap_dialogues.specs.HeadingReading.{heading_read}
use Rattle.tcap_dialogues.specs.CutState.{after_done}
use Rattle.tcap_dialogues.proofs.CourseStretch.{apart_so_far}
use Rattle.tcap_dialogues.proofs.TakeLaws.{begins_then, below_at, both_hand_over, cut_at, free_names, freed_now, later_at, lingers_old, others_of_apart, sent, then_apart, then_held}
use Rattle.tcap_dialogues.proofs.cut.Cut.take.Goals as goal

pub returns-clause-takes : goal.returns-clause-takes
returns-clause-takes c = λ reuse headings cut.
    let h = heading_read c.args.heading in
    let old = c.args.self.now in
    let s = courses_so_far reuse headings in
    let apart = apart_so_far reuse headings in
    let names = cut.name in
    let past = c.long_over-long_over.result in
    let given = c.replaced-replaced.result in
    let is =
    free_names reuse headings h old cut past given
    (c.long_over-long_over.ensures s.live names apart cut.held.lives cut.held.overs (lingers_old reuse headings h old cut))
    (c.replaced-replaced.ensures s names _ apart cut.held) in
    let rest_apart = others_of_apart s.live names past given _ is apart in
    let first = c.in_ok-release.ensures s names (sent reuse headings h) apart cut.held in
    let second = c.in_ok-release-2.ensures (after_done names past s) names (sent reuse headings h) rest_apart first.0 in
    let two = c.release-2.new.self in
    let held = then_held reuse headings h names past given is two second.0 in
    let same_reuse = second.2 ∙ first.2 ∙ cut.reuse_is in
    let same_count = second.3 ∙ first.3 ∙ cut.count_is in
    IfOk-weaker c.join.result _ _
    (λ begins joined. (
      cut_at reuse headings h c.join.new.self two.reuse two.count same_reuse same_count joined.0,
      both_hand_over s.live names past given _ is apart c.args.done.now.items c.release.new.done.items c.release-2.new.done.items first.1 second.1,
    ))
    (c.join.ensures (freed_now reuse headings h) names (sent reuse headings h) (then_apart reuse headings h) held
    (later_at reuse headings h two.count same_count) (below_at reuse headings h two.count same_count))

pub returns-clause-begins : goal.returns-clause-begins
returns-clause-begins c = λ reuse headings cut.
    let h = heading_read c.args.heading in
    let old = c.args.self.now in
    let s = courses_so_far reuse headings in
    let apart = apart_so_far reuse headings in
    let names = cut.name in
    let past = c.long_over-long_over.result in
    let given = c.replaced-replaced.result in
    let is =
    free_names reuse headings h old cut past given
    (c.long_over-long_over.ensures s.live names apart cut.held.lives cut.held.overs (lingers_old reuse headings h old cut))
    (c.replaced-replaced.ensures s names _ apart cut.held) in
    let rest_apart = others_of_apart s.live names past given _ is apart in
    let first = c.in_ok-release.ensures s names (sent reuse headings h) apart cut.held in
    let second = c.in_ok-release-2.ensures (after_done names past s) names (sent reuse headings h) rest_apart first.0 in
    let two = c.release-2.new.self in
    let held = then_held reuse headings h names past given is two second.0 in
    let same_count = second.3 ∙ first.3 ∙ cut.count_is in
    IfOk-weaker c.join.result _ _ (λ begins joined. joined.1 ∙ begins_then reuse headings h)
    (c.join.ensures (freed_now reuse headings h) names (sent reuse headings h) (then_apart reuse headings h) held
    (later_at reuse headings h two.count same_count) (below_at reuse headings h two.count same_count))
