use Rattle.std.proofs.Common.{List, [], ◌++◌, sym, subst, ◌∙◌, append-nil}
use Rattle.tcap_record.specs.declared.entry.Entry.{Entry}
use Rattle.tcap_record.specs.PartialRecord.{FramerState, IsFramedSoFar, dropped}
use Rattle.tcap_record.proofs.FedLaws.{fed_dropped}
use Rattle.tcap_record.proofs.FeederLaws.{entry_waits}
use Rattle.tcap_record.proofs.feeder.keep_rest.Goals as goal

pub returns-then-not-branch-clause-kept : goal.returns-then-not-branch-clause-kept
returns-then-not-branch-clause-kept c = ([], (c.in_ok-keep_front.ensures.none cc).1 ∙ sym (append-nil c.args.waiting.now.items))

pub returns-clause-fed : goal.returns-clause-fed
returns-clause-fed c octets taken fed =
    let there = c.in_ok-keep_front.ensures.kept cc in
    let behind = entry_waits octets taken c.args.waiting.now.items there.0 (dropped c.args.frames.now)
    (fed_dropped octets (taken ++ c.args.waiting.now.items) c.args.frames.now there.0 there.1 fed) in
    let waits = subst (λ (x : List Entry). IsFramedSoFar octets (taken ++ x) (dropped c.args.frames.now)) (sym there.4) behind in
    c.keep_all-kept.ensures.fed octets taken
    (subst (λ (h : FramerState). IsFramedSoFar octets (taken ++ c.keep_front.new.waiting.items) h) (sym c.after_front-later.ensures) waits)
