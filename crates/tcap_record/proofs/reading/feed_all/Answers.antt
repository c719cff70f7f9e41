use Rattle.std.proofs.Common.{◌≡◌, ◌≢◌, ℕ, ◌≤◌, [], ◌++◌, length, take, refl, ap, subst, ◌∙◌, arith, append-nil}
use Rattle.std.proofs.lemmas.Result.{err_from_is_err_and}
use Rattle.std.proofs.lemmas.List.{length-append, length-take-le}
use Rattle.std.proofs.KnownBytes.{Consumes-trans}
use Rattle.std.specs.Io.KnownBytes.{Consumes}
use Rattle.tcap_record.specs.PartialRecord.{IsFramedSoFar}
use Rattle.tcap_record.proofs.ReadingLaws.{read_finished, read_refused}
use Rattle.tcap_record.proofs.reading.feed_all.Goals as goal

pub returns-in-Ok-eq0-clause-returned : goal.returns-in-Ok-eq0-clause-returned
returns-in-Ok-eq0-clause-returned g c =
    let was = c.loop-feeder.invariant in
    let all : was.returned ++ take c.in-Ok-eq0.field-0 c.read.new.buffer ≡ was.returned =
    ap (λ (n : ℕ). was.returned ++ take n c.read.new.buffer) c.in-Ok-eq0.field-0-test ∙ append-nil was.returned in
    let consumed = Consumes-trans (g.R.Read.remaining c.args.reader.now) (g.R.Read.remaining c.loop-feeder.reader)
    (g.R.Read.remaining c.read.new.self) was.returned (take c.in-Ok-eq0.field-0 c.read.new.buffer) was.consumed
    c.in-Ok-eq0.ensures.tells in (
      was.returned,
      subst (Consumes (g.R.Read.remaining c.args.reader.now) (g.R.Read.remaining c.read.new.self)) all consumed,
      read_finished c.finish.result was.returned c.loop-feeder.feeder.waiting c.loop-feeder.feeder.held was.fed c.finish.ensures.ends,
    )

pub loop-feeder-smaller : goal.loop-feeder-smaller
loop-feeder-smaller g c =
    let was = c.loop-feeder.invariant in
    let n = c.in-Ok.returned in
    let returned = take n c.read.new.buffer in
    let fed : IsFramedSoFar (was.returned ++ returned) c.feed.new.self.waiting c.feed.new.self.held =
    c.in_ok-feed.ensures.fed was.returned [] was.fed.fed in
    let some : n ≢ 0 = c.in-Ok.returned-test.1 in
    let within : n ≤ length c.read.new.buffer = c.in-Ok.ensures.within in
    omega (
      arith,
      c.fed-place.ensures,
      c.fed-place.type_inv,
      fed.place_is,
      was.fed.fed.place_is,
      some,
      length-append was.returned returned,
      length-take-le n c.read.new.buffer within,
    )

pub loop-feeder-preserved : goal.loop-feeder-preserved
loop-feeder-preserved g c =
    let was = c.loop-feeder.invariant in
    let n = c.in-Ok.returned in
    let returned = take n c.read.new.buffer in
    record {
      returned = was.returned ++ returned;
      consumed = Consumes-trans (g.R.Read.remaining c.args.reader.now) (g.R.Read.remaining c.loop-feeder.reader)
          (g.R.Read.remaining c.read.new.self) was.returned returned was.consumed c.in-Ok.ensures.tells;
      fed = record {
        fed = c.in_ok-feed.ensures.fed was.returned [] was.fed.fed;
        held = c.in_ok-feed.ensures.held;
        sound = c.in_ok-feed.ensures.sound.1;
        is_part = c.in_ok-feed.ensures.sound.2;
      };
      count = c.in-Ok.ensures.counts ∙ was.count;
    }

pub returns-in_err-feed-clause-returned : goal.returns-in_err-feed-clause-returned
returns-in_err-feed-clause-returned g c =
    let was = c.loop-feeder.invariant in
    let p = err_from_is_err_and c.from_residual.result c.from_residual.ensures.1 in
    let n = c.in-Ok.returned in
    let returned = take n c.read.new.buffer in
    let f = c.in_err-feed.field-0.0 in
    rw (p.1, p.2) (
      was.returned ++ returned,
      Consumes-trans (g.R.Read.remaining c.args.reader.now) (g.R.Read.remaining c.loop-feeder.reader) (g.R.Read.remaining c.read.new.self)
          was.returned returned was.consumed c.in-Ok.ensures.tells,
      read_refused was.returned returned c.loop-feeder.feeder c.feed.new.self f was.fed c.in_err-feed.ensures.held
          (c.in_err-feed.ensures.fails f refl) (c.in_err-feed.ensures.fed was.returned [] was.fed.fed),
    )
