-- By cases on the entry.
use Rattle.tcap_evidence.proofs.Common.{sym, ap, map, ◌∙◌}
use Rattle.tcap_evidence.proofs.FindingLaws.{NoneOf, good, mark, not_good, not_quiet, not_there}
use Rattle.tcap_evidence.proofs.finding.find_evidence.Goals as goal
use Rattle.tcap_evidence.proofs.finding.find_evidence.Goals.{in_default-via-in-Some+in_default, in_default-via-in-None+in_default}

pub returns-in_ok-of_message-in-Some-Good : goal.returns-in_ok-of_message-in-Some-Good
returns-in_ok-of_message-in-Some-Good c =
    let entries = c.args.record.now.entries.items in
    let found = c.in_ok-of_message-in-Some-Good.ensures in
    let evidence =
    good c.args.of_one c.args.table.now c.args.end entries c.args.at c.in-Some.entry.now c.in-Some-Good.field-0-0
    c.in-Some-Good.message c.in_ok-about.about c.in_ok-about.ensures (sym c.in-Some.ensures.entry) c.in-Some-Good.is-0 c.in-Some-Good.is-1 in
    record {
      grounds = found.grounds c.args.end entries c.in_ok-messages_by_end.ensures.0 c.in_ok-messages_by_end.ensures.1 ∙ evidence.0;
      about = found.about ∙ c.in_ok-about.ensures;
      id = found.id ∙ evidence.2;
      invocations = found.invocations c.args.end entries c.in_ok-messages_by_end.ensures.0 c.in_ok-messages_by_end.ensures.1 ∙ evidence.1;
    }

pub returns-in_ok-of_mark-in-None-Quiet : goal.returns-in_ok-of_mark-in-None-Quiet
returns-in_ok-of_mark-in-None-Quiet c =
    let entries = c.args.record.now.entries.items in
    let found = c.in_ok-of_mark-in-None-Quiet.ensures in
    let evidence =
    mark c.args.of_one c.args.table.now c.args.end entries c.args.at c.in-Some.entry.now (sym c.in-Some.ensures.entry)
    c.in-None-Quiet.is-0 c.in-None-Quiet.is-1 in
    record {
      grounds = found.grounds c.args.end entries c.args.at.entry c.in_ok-messages_by_end.ensures.0 c.in_ok-messages_by_end.ensures.1 ∙ evidence.0;
      about = found.about ∙ c.in_ok-about.ensures;
      id = found.id ∙ evidence.2;
      invocations = found.invocations ∙ evidence.1;
    }

pub returns-in_default : goal.returns-in_default
returns-in_default c =
    let found = c.none_of.ensures in
    let none : NoneOf c.args.of_one c.args.table.now c.args.end c.args.record.now.entries.items c.args.at =
    elim c.in_default.branch [
      | in_default-via-in-Some+in_default w ↦
          not_good c.args.of_one c.args.table.now c.args.end c.args.record.now.entries.items c.args.at c.in-Some.entry.now
          w.in_default.field-0-0 (sym c.in-Some.ensures.entry) w.in_default.is-0 w.in_default.not-Good-1
      | in_default-via-in-None+in_default w ↦
          not_quiet c.args.of_one c.args.table.now c.args.end c.args.record.now.entries.items c.args.at c.in-Some.entry.now
          (sym c.in-Some.ensures.entry) w.in_default.is-0 w.in_default.not-Quiet-1
    ] in
    record {
      grounds = ap (map (λ g. (g.fact, g.entries.items))) found.grounds ∙ none.0;
      about = found.about ∙ c.in_ok-about.ensures;
      id = found.id ∙ none.2;
      invocations = found.invocations ∙ none.1;
    }

pub returns-in-None : goal.returns-in-None
returns-in-None c =
    let found = c.none_of-in-None.ensures in
    let none =
    not_there c.args.of_one c.args.table.now c.args.end c.args.record.now.entries.items c.args.at (sym c.in-None.ensures.entry) in
    record {
      grounds = ap (map (λ g. (g.fact, g.entries.items))) found.grounds ∙ none.0;
      about = found.about ∙ c.in_ok-about.ensures;
      id = found.id ∙ none.2;
      invocations = found.invocations ∙ none.1;
    }
