-- The entries before the first that is no message are judged once for both ends.
use Rattle.std.proofs.Common.{◌≡◌, ◌∙◌, length, rules}
use Rattle.tcap_traces.proofs.JudgingLaws.{says_of_a, says_of_b}
use Rattle.tcap_traces.proofs.ShownLaws.{so_of_a, so_of_b}
use Rattle.tcap_traces.proofs.judging.judge_dialogue.Goals as goal

pub returns-clause-a : goal.returns-clause-a
returns-clause-a c =
    let found = c.in_ok-found.ensures.found in
    let earlier = c.in_ok-a.ensures in
    let all : c.len.result ≡ length c.args.read.now.entries.items = search rules in
    c.in_ok-result_by.ensures
    ∙ says_of_a c.args.table.now c.args.circumstances c.args.read.now.entries.items _ _ _ _ earlier.stays found.0 found.1
    (rw all at c.no_message_of-number.ensures) _ earlier.found.0

pub returns-clause-b : goal.returns-clause-b
returns-clause-b c =
    let found = c.in_ok-found.ensures.found in
    let earlier = c.in_ok-a.ensures in
    let all : c.len.result ≡ length c.args.read.now.entries.items = search rules in
    c.in_ok-result_by-2.ensures
    ∙ says_of_b c.args.table.now c.args.circumstances c.args.read.now.entries.items _ _ _ _ earlier.stays found.0 found.1
    (rw all at c.no_message_of-number.ensures) _ earlier.found.1

pub returns-clause-sound : goal.returns-clause-sound
returns-clause-sound c =
    let found = c.in_ok-found.ensures in
    let earlier = c.in_ok-a.ensures in
    let all : c.len.result ≡ length c.args.read.now.entries.items = search rules in
    let number = rw all at c.no_message_of-number.ensures in (
      so_of_a c.blamed_is_at_fault.ensures c.args.table.now c.args.circumstances c.args.read.now.entries.items _ _ _ _
          earlier.stays found.found.0 found.found.1 found.shown.0 number _ earlier.found.0 earlier.shown.0 _
          c.in_ok-result_by.ensures,
      so_of_b c.blamed_is_at_fault.ensures c.args.table.now c.args.circumstances c.args.read.now.entries.items _ _ _ _
          earlier.stays found.found.0 found.found.1 found.shown.1 number _ earlier.found.1 earlier.shown.1 _
          c.in_ok-result_by-2.ensures,
    )
