use Rattle.std.proofs.Common.{refl}
use Rattle.std.specs.List.{flat_map}
use Rattle.tcap_dialogues.specs.Course.{own_ids}
use Rattle.tcap_dialogues.specs.DialoguesOfList.{is_among}
use Rattle.tcap_report.specs.declared.trace.Trace.{Trace}
use Rattle.tcap_report.specs.KeptState.{headings_of}
use Rattle.tcap_report.proofs.KeptLaws.{mark_noted, mark_read}
use Rattle.tcap_report.proofs.trace.Trace.pass_mark.Goals as goal

pub returns-clause-reading : goal.returns-clause-reading
returns-clause-reading g c = λ options s reading.
    let old : Trace = c.args.self.now in
    let sends = c.in_ok-note_sent.ensures options.reuse (headings_of s) reading.cut in
    let noted = mark_noted options s old (record old { marks = c.note_sent.new.self }) reading refl sends in
    mark_read options s old c.judge_live.new.self c.begin_segment.new.self (record c.begin_segment.new.self { marks = c.mark.new.self }) reading
    (c.in_ok-judge_live.ensures.keeps options s (is_among (flat_map own_ids (headings_of s))) noted)
    c.in_ok-judge_live.ensures.cut c.begin_segment.ensures.rest c.begin_segment.ensures.unread refl c.in_ok-mark.ensures
