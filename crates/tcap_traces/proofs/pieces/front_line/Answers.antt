use Rattle.std.proofs.Common.{◌≡◌, true, ◌+◌, ◌∷◌, ◌++◌, arith, drop, length, take, sym, ap, subst, ◌∙◌}
use Rattle.std.proofs.Math.Seq.{take-length}
use Rattle.tcap_record.specs.HexLines.{HasNoNewline}
use Rattle.tcap_traces.specs.Pieces.{lines_of}
use Rattle.tcap_traces.proofs.PieceLaws.{front_ended, front_last, some_octet}
use Rattle.tcap_traces.proofs.pieces.front_line.Goals as goal

pub returns-then-len-octets : goal.returns-then-len-octets
returns-then-len-octets c =
    let octets = c.args.octets.now in
    let n = c.line_len-len.result in
    let found = c.line_len-len.ensures in
    let less = c.if-len-octets.true in (
      omega arith,
      omega (less, arith),
      λ more ended. front_ended octets more n less (found.end less) found.front
          ∙ ap (λ content. record { content = content; ended = true } ∷ lines_of (drop (n + 1) octets ++ more)) (sym c.without_return.ensures),
    )

pub returns-then-not-is_empty : goal.returns-then-not-is_empty
returns-then-not-is_empty c =
    let octets = c.args.octets.now in
    let found = c.line_len-len.ensures in
    let all : c.line_len-len.result ≡ length octets = omega (c.if-len-octets.false, found.most, arith) in
    let none : HasNoNewline octets = subst HasNoNewline (ap (λ n. take n octets) all ∙ take-length octets) found.front in
    let some = some_octet octets c.is_empty.result c.is_empty.ensures c.if-not-is_empty.true in
    (some.0, omega arith, λ more ended. front_last octets more none some.1 (ended c.if-ended.true))
