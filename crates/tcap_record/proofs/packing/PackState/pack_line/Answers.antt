use Rattle.std.proofs.Common.{◌≡◌, ℕ, ◌+◌, ◌-◌, ◌<◌, ◌≤◌, List, [], ◌∷◌, ◌++◌, length, take, drop, Err, sym, ap, subst, ◌∙◌, arith, take-append-drop, append_assoc}
use Rattle.std.proofs.lemmas.List.{length-append}
use Rattle.std.proofs.lemmas.Result.{err_from_is_err_and}
use Rattle.tcap_record.specs.declared.packing.PackFault.TheVariants.{Fault}
use Rattle.tcap_record.specs.HexLines.{HasNoNewline, newline}
use Rattle.tcap_record.specs.PackState.{IsContentOf, IsLineRefused}
use Rattle.tcap_record.proofs.PackLaws.{cut_there, handed_on, packs_line, plain_held, stops_line, stops_long}
use Rattle.tcap_record.proofs.packing.PackState.pack_line.Goals as goal

pub returns-in-Err-clause-refused : goal.returns-in-Err-clause-refused
returns-in-Err-clause-refused g c fault e remaining =
    let same : c.refused.result ≡ fault = cc in
    let whole : c.split_at.result.0.now ++ c.split_at.result.1.now ≡ c.args.piece.now =
    rw (c.split_at.ensures.front, c.split_at.ensures.back) (take-append-drop c.line_len.result c.args.piece.now) in
    let plain : HasNoNewline c.split_at.result.0.now = subst HasNoNewline (sym c.split_at.ensures.front) c.line_len.ensures.front in
    let number : c.hold.new.self.lines + 1 ≡ c.args.self.now.lines + 1 = ap (λ (n : ℕ). n + 1) c.hold.ensures.counts.0 in
    rw (← same, c.refused.ensures, ← whole)
    (stops_long c.args.self.now c.split_at.result.0.now c.split_at.result.1.now (c.hold.new.self.lines + 1) c.in-Err.fault
    remaining (g.W.Write.taken c.args.writer.now)
    c.requires.open.within number c.requires.open.plain plain (λ bad. c.hold.ensures.long (c.in-Err.is ∙ ap Err bad)))

pub end_line-requires-clause-within : goal.end_line-requires-clause-within
end_line-requires-clause-within g c =
    subst (λ (x : List ℕ). c.content_len-len.result ≤ length x) c.deref.ensures.value c.content_len-len.ensures.most

pub returns-in_err-end_line-in-len1-up-clause-refused : goal.returns-in_err-end_line-in-len1-up-clause-refused
returns-in_err-end_line-in-len1-up-clause-refused g c fault e remaining =
    let p = err_from_is_err_and c.from_residual.result c.from_residual.ensures.1 in
    let why = c.in_err-end_line-in-len1-up.ensures.refused fault
    (handed_on c.from_residual.result p.0 (Fault fault) c.in_err-end_line-in-len1-up.field-0.0 p.1 p.2 e) in
    let front : List ℕ = c.split_at.result.0.now in
    let line : List ℕ = c.hold.new.self.line.items in
    let within : c.line_len.result < length c.args.piece.now =
    omega (arith, c.in-len1-up.len_at_least, c.split_at.ensures.back_len) in
    let there = cut_there c.args.piece.now front c.split_at.result.1.now c.line_len.result within c.split_at.ensures.front
    c.split_at.ensures.back (c.line_len.ensures.end within) in
    let plain = plain_held c.args.self.now.line.items front line c.args.piece.now c.line_len.result c.in_default.ensures.held
    c.split_at.ensures.front c.requires.open.plain c.line_len.ensures.front in
    let is : IsContentOf line (take c.content_len-len.result line) =
    rw c.deref.ensures.value at c.content_len-len.ensures.content in
    let refused =
    subst (λ (n : ℕ). IsLineRefused (take c.content_len-len.result line) (n + 1) fault) c.in_default.ensures.counts.0 why.0 in
    rw there (stops_line c.args.self.now front (take (length c.split_at.result.1.now - 1) (drop 1 c.split_at.result.1.now)) line
    (take c.content_len-len.result line) fault remaining (g.W.Write.taken c.args.writer.now)
    (g.W.Write.taken c.end_line.new.writer) c.requires.open.within why.1 c.in_default.ensures.held plain is refused)

pub returns-in_ok-end_line-in-len1-up-clause-packed : goal.returns-in_ok-end_line-in-len1-up-clause-packed
returns-in_ok-end_line-in-len1-up-clause-packed g c =
    let front : List ℕ = c.split_at.result.0.now in
    let line : List ℕ = c.hold.new.self.line.items in
    let tail : List ℕ = take (length c.split_at.result.1.now - 1) (drop 1 c.split_at.result.1.now) in
    let within : c.line_len.result < length c.args.piece.now =
    omega (arith, c.in-len1-up.len_at_least, c.split_at.ensures.back_len) in
    let there = cut_there c.args.piece.now front c.split_at.result.1.now c.line_len.result within c.split_at.ensures.front
    c.split_at.ensures.back (c.line_len.ensures.end within) in
    let plain = plain_held c.args.self.now.line.items front line c.args.piece.now c.line_len.result c.in_default.ensures.held
    c.split_at.ensures.front c.requires.open.plain c.line_len.ensures.front in
    let is : IsContentOf line (take c.content_len-len.result line) =
    rw c.deref.ensures.value at c.content_len-len.ensures.content in
    let packed = c.in_ok-end_line-in-len1-up.ensures.packed in (
      front ++ newline ∷ [],
      there ∙ sym (append_assoc front (newline ∷ []) tail),
      omega (arith, ap length there, length-append front (newline ∷ tail)),
      packs_line c.args.self.now c.hold.new.self c.end_line.new.self front (take c.content_len-len.result line) packed.0
          (g.W.Write.taken c.args.writer.now) (g.W.Write.taken c.end_line.new.writer) c.in_default.ensures.held
          c.in_default.ensures.counts.0 c.in_default.ensures.counts.1 plain is packed.1 packed.2 packed.3,
    )
