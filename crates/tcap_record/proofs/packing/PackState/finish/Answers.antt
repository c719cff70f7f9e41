use Rattle.std.proofs.Common.{◌≡◌, ◌≢◌, ℕ, ◌+◌, List, [], length, take, sym, ap, subst, ◌∙◌, inl, inr, arith}
use Rattle.std.proofs.KnownBytes.{Appends-nil}
use Rattle.std.proofs.lemmas.Result.{err_from_is_err_and}
use Rattle.std.proofs.lemmas.List.{nil_from_length, take_all}
use Rattle.std.proofs.lemmas.Bool.{eqb-true}
use Rattle.tcap_ber.proofs.EachLoopLaws.{not_empty}
use Rattle.tcap_record.specs.declared.packing.PackFault.TheVariants.{Fault}
use Rattle.tcap_record.specs.HexLines.{StandsFor}
use Rattle.tcap_record.specs.PackState.{IsLineRefused}
use Rattle.tcap_record.proofs.PackLaws.{handed_on, stops_last}
use Rattle.tcap_record.proofs.packing.PackState.finish.Goals as goal
use Rattle.tcap_record.proofs.packing.PackState.finish.Goals.{then-not-is_empty+in_ok-end_line, else-not-is_empty}

pub returns-in_err-end_line-clause-refused : goal.returns-in_err-end_line-clause-refused
returns-in_err-end_line-clause-refused g c fault e remaining at_end =
    let p = err_from_is_err_and c.from_residual.result c.from_residual.ensures.1 in
    let why = c.in_err-end_line.ensures.refused fault
    (handed_on c.from_residual.result p.0 (Fault fault) c.in_err-end_line.field-0.0 p.1 p.2 e) in
    let line : List ℕ = c.args.self.line.items in
    let all : take c.len-len.result line ≡ line =
    take_all c.len-len.result line (omega (arith, c.len-len.ensures, c.args.self.line.ok.0)) in
    let more = not_empty c.args.self.line.len c.is_empty.result c.is_empty.ensures c.if-not-is_empty.true in
    let some : line ≢ [] = λ none. absurd (omega (arith, more, c.args.self.line.ok.0, ap length none)) in
    let refused = subst (λ (x : List ℕ). IsLineRefused x (c.args.self.lines + 1) fault) all why.0 in
    stops_last c.args.self fault remaining (g.W.Write.taken c.args.writer.now) (g.W.Write.taken c.end_line.new.writer)
    c.requires.open.within why.1 c.requires.open.plain some at_end refused

pub returns-clause-packed : goal.returns-clause-packed
returns-clause-packed g c =
    let line : List ℕ = c.args.self.line.items in
    elim c.if-not-is_empty.branch [
      | then-not-is_empty+in_ok-end_line w ↦
          let more = not_empty c.args.self.line.len c.is_empty.result c.is_empty.ensures w.if-not-is_empty.true in
          let some : line ≢ [] = λ none. absurd (omega (arith, more, c.args.self.line.ok.0, ap length none)) in
          let packed = w.in_ok-end_line.ensures.packed in
          let all : take w.len-len.result line ≡ line =
          take_all w.len-len.result line (omega (arith, w.len-len.ensures, c.args.self.line.ok.0)) in
          inr (
            some,
            (
              packed.0,
              subst (λ (x : List ℕ). StandsFor x packed.0) all packed.1,
              ap (λ p. p.entries) w.self-is
                  ∙ packed.2.entries_are,
              rw w.writer-is packed.3,
            ),
          )
      | else-not-is_empty w ↦
          let none : line ≡ [] =
          nil_from_length line (omega
          (arith, c.args.self.line.ok.0, eqb-true c.args.self.line.len 0 (sym w.if-not-is_empty.ensures))) in
          inl (none, ap (λ p. p.entries) w.self-is, rw w.writer-is (Appends-nil (g.W.Write.taken c.args.writer.now)))
    ]
