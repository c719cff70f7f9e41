use Rattle.std.proofs.Common.{ℕ, ◌++◌, List, take, ◌∙◌, arith, length-append, length-take-le}
use Rattle.std.proofs.KnownBytes.{Consumes-trans}
use Rattle.std.proofs.lemmas.Result.{err_from_is_err_and}
use Rattle.tcap_judge.proofs.text_reading.read_text.Goals as goal

pub returns-then-returned-limit : goal.returns-then-returned-limit
returns-then-returned-limit g c =
    let before = c.loop-text.invariant in
    let text = c.loop-text.text.items in
    let more : List ℕ = take c.in-Ok.returned c.read.new.buffer in
    record {
      reads = record {
        returned = text ++ more;
        tells = Consumes-trans (g.R.Read.remaining c.args.reader.now) (g.R.Read.remaining c.loop-text.reader)
            (g.R.Read.remaining c.read.new.self) text more before.consumed c.in-Ok.ensures.tells;
        ends = (
          omega (
            arith,
            c.if-returned-limit.true,
            before.within,
            length-append text more,
            length-take-le c.in-Ok.returned c.read.new.buffer c.in-Ok.ensures.within,
          ),
          omega (
            arith,
            before.within,
            before.room,
            c.in-Ok.ensures.within,
            c.read.auto.buffer,
            length-append text more,
            length-take-le c.in-Ok.returned c.read.new.buffer c.in-Ok.ensures.within,
          ),
          c.in-Ok.ensures.counts ∙ before.none_failed,
        );
      };
    }

pub returns-in_err-extend_from_slice : goal.returns-in_err-extend_from_slice
returns-in_err-extend_from_slice g c =
    let before = c.loop-text.invariant in
    let text = c.loop-text.text.items in
    let more : List ℕ = take c.in-Ok.returned c.read.new.buffer in
    let p = err_from_is_err_and c.from_residual.result c.from_residual.ensures.1 in
    rw (p.1, p.2) (record {
      reads = record {
        returned = text ++ more;
        tells = Consumes-trans (g.R.Read.remaining c.args.reader.now) (g.R.Read.remaining c.loop-text.reader)
            (g.R.Read.remaining c.read.new.self) text more before.consumed c.in-Ok.ensures.tells;
        ends = c.in-Ok.ensures.counts ∙ before.none_failed;
      };
    })
