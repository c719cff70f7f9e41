use Rattle.std.proofs.Common.{rules, ◌≡◌, ◌&&◌, true, Some}
use Rattle.std.specs.String.{string_bytes}
use Rattle.tcap_judge.specs.BlameOutcome.{AreFound, is_lawful}
use Rattle.tcap_explain.specs.RefutedLines.{ends_judged}
use Rattle.tcap_explain.proofs.LawfulRuns.{ends_say}
use Rattle.tcap_explain.proofs.explaining.explain_other.Goals as goal

pub returns-in-Some : goal.returns-in-Some
returns-in-Some c =
    let both = c.in-Some.both in
    let options : Some both ≡ ends_judged c.args.options.judged c.args.table.now c.args.read.now.entries.items = search rules in
    let found : AreFound c.args.table.now c.args.read.now.entries.items both = search rules in
    let lawful : (is_lawful both.a && is_lawful both.b) ≡ true = search rules in
    ends_say (λ why. why.outcome) (λ why. string_bytes why.after) c.args.table.now c.args.certificate.now
    c.args.read.now.entries.items c.args.fault both c.args.options.judged c.explain_ends.result options found lawful
    c.requires.refused c.explain_ends.ensures.outcome c.explain_ends.ensures.after
