use Rattle.std.proofs.Common.{rules, ◌≡◌, ◌<◌, ◌∙◌, length, arith, Some, None}
use Rattle.std.specs.String.{string_bytes}
use Rattle.std.proofs.lemmas.Str.Pattern.{split_parts}
use Rattle.tcap_explain.proofs.IndentedLaws.{written_first, written_last}
use Rattle.tcap_explain.proofs.indenting.push_indented.Goals as goal

pub loop-line-preserved : goal.loop-line-preserved
loop-line-preserved c =
    let parts =
    split_parts 10 c.loop-line.left.now (Some (c.in-Some.line, c.in-Some.more)) c.in-Some.ensures.cases (omega arith) in (
      search rules,
      written_first (string_bytes c.push_line.new.text) (string_bytes c.loop-line.text) c.in-Some.line.now c.in-Some.more.now
          c.loop-line.left.now c.in_ok-push_line.ensures parts.0 parts.1
          ∙ c.loop-line.invariant.1,
    )

pub returns : goal.returns
returns c =
    let within = split_parts 10 c.loop-line.left.now None c.in_default.ensures.cases (omega arith) in
    let some : 0 < length c.loop-line.left.now = search rules in
    written_last c.push_line-2.result (string_bytes c.push_line-2.new.text) (string_bytes c.loop-line.text) c.loop-line.left.now _
    c.push_line-2.ensures within some c.loop-line.invariant.1
