use Rattle.std.proofs.Common.{◌≡◌, ℕ, List, [], ◌++◌, length, take, Some, refl, sym, ap, subst, ◌∙◌, arith, append-nil, length-take-le}
use Rattle.std.specs.Io.KnownBytes.{IsAtEnd}
use Rattle.std.proofs.KnownBytes.{Consumes-trans}
use Rattle.std.proofs.lemmas.List.{length-append}
use Rattle.std.proofs.lemmas.Result.{err_from_is_err_and}
use Rattle.tcap_record.specs.declared.packing.PackFault.TheVariants.{Fault}
use Rattle.tcap_record.specs.declared.fault.FeedFault.{FeedFault}
use Rattle.tcap_record.specs.declared.fault.FeedReason.TheVariants as feed
use Rattle.tcap_record.specs.FramingResult.{feed_fault}
use Rattle.tcap_record.specs.HexLines.{IsPackedUpTo}
use Rattle.tcap_record.proofs.PackLaws.{handed_on, packed_ok, packed_then, packed_unread, packs_then, stops_unread, told_no_more, told_nothing, told_within}
use Rattle.tcap_record.proofs.packing.pack.Goals as goal

pub returns-in-Ok-eq0-clause-packed : goal.returns-in-Ok-eq0-clause-packed
returns-in-Ok-eq0-clause-packed g c =
    let before = c.loop-read.invariant in
    let at_end : IsAtEnd (g.R.Read.remaining c.read.new.self) = c.in-Ok-eq0.ensures.end c.in-Ok-eq0.field-0-test (omega arith) in
    let returned = told_no_more (g.R.Read.remaining c.args.reader.now) (g.R.Read.remaining c.loop-read.reader)
    (g.R.Read.remaining c.read.new.self) before.returned c.read.new.buffer c.in-Ok-eq0.field-0 c.in-Ok-eq0.field-0-test before.consumed
    c.in-Ok-eq0.ensures.tells in
    packed_ok c.finish.result c.new-packing.result c.loop-read.packing before.returned (g.R.Read.remaining c.args.reader.now)
    (g.R.Read.remaining c.read.new.self) (g.W.Write.taken c.args.writer.now)
    (g.W.Write.taken c.loop-read.writer) (g.W.Write.taken c.finish.new.writer) c.new-packing.ensures before.packs before.is_open
    at_end returned c.finish.ensures.packed

pub returns-in-Ok-eq0-clause-refused : goal.returns-in-Ok-eq0-clause-refused
returns-in-Ok-eq0-clause-refused g c fault e =
    let before = c.loop-read.invariant in
    let remaining = g.R.Read.remaining c.read.new.self in
    let at_end : IsAtEnd remaining = c.in-Ok-eq0.ensures.end c.in-Ok-eq0.field-0-test (omega arith) in
    let returned = told_no_more (g.R.Read.remaining c.args.reader.now) (g.R.Read.remaining c.loop-read.reader) remaining before.returned
    c.read.new.buffer c.in-Ok-eq0.field-0 c.in-Ok-eq0.field-0-test before.consumed c.in-Ok-eq0.ensures.tells in
    let stopped = packed_then c.new-packing.result c.loop-read.packing before.returned [] fault remaining
    (g.W.Write.taken c.args.writer.now) (g.W.Write.taken c.loop-read.writer) (g.W.Write.taken c.finish.new.writer)
    c.new-packing.ensures before.packs (c.finish.ensures.refused fault e remaining at_end) in (
      before.returned,
      returned,
      subst (λ (x : List ℕ). IsPackedUpTo x fault remaining (g.W.Write.taken c.args.writer.now) (g.W.Write.taken c.finish.new.writer))
          (append-nil before.returned) stopped,
    )

pub returns-in-Ok-eq0-clause-read : goal.returns-in-Ok-eq0-clause-read
returns-in-Ok-eq0-clause-read g c fault e reason =
    absurd (stops_unread c.loop-read.packing [] fault (Some []) (g.W.Write.taken c.loop-read.writer)
    (g.W.Write.taken c.finish.new.writer) (c.finish.ensures.refused fault e (Some []) refl) reason)

pub returns-in-Err-clause-refused : goal.returns-in-Err-clause-refused
returns-in-Err-clause-refused g c fault e =
    let before = c.loop-read.invariant in
    let remaining = g.R.Read.remaining c.read.new.self in
    let at : feed_fault feed.Read c.loop-read.read ≡ fault = cc in
    let same : feed_fault feed.Read (length before.returned) ≡ fault = ap (feed_fault feed.Read) (sym before.read_is) ∙ at in (
      before.returned,
      told_nothing (g.R.Read.remaining c.args.reader.now) (g.R.Read.remaining c.loop-read.reader) remaining before.returned before.consumed
          c.in-Err.ensures.tells,
      subst (λ (f : FeedFault). IsPackedUpTo before.returned f remaining (g.W.Write.taken c.args.writer.now)
          (g.W.Write.taken c.loop-read.writer)) same
          (packed_unread c.new-packing.result c.loop-read.packing before.returned remaining (g.W.Write.taken c.args.writer.now)
          (g.W.Write.taken c.loop-read.writer) c.new-packing.ensures before.packs before.is_open),
    )

pub returns-in-Err-clause-unread : goal.returns-in-Err-clause-unread
returns-in-Err-clause-unread g c never = absurd (never _ refl refl)

pub overflow_add-read : goal.overflow_add-read
overflow_add-read g c =
    let before = c.loop-read.invariant in
    let few = told_within c.new-packing.result c.loop-read.packing before.returned (g.W.Write.taken c.args.writer.now)
    (g.W.Write.taken c.loop-read.writer) c.new-packing.ensures before.packs before.is_open in
    omega (arith, few, before.read_is, c.in-Ok.ensures.within)

pub loop-read-preserved : goal.loop-read-preserved
loop-read-preserved g c =
    let before = c.loop-read.invariant in
    let more : List ℕ = take c.in-Ok.returned c.read.new.buffer in
    record {
      returned = before.returned ++ more;
      consumed = Consumes-trans (g.R.Read.remaining c.args.reader.now) (g.R.Read.remaining c.loop-read.reader)
          (g.R.Read.remaining c.read.new.self) before.returned more before.consumed c.in-Ok.ensures.tells;
      packs = packs_then c.new-packing.result c.loop-read.packing c.pack_piece.new.self before.returned more
          (g.W.Write.taken c.args.writer.now) (g.W.Write.taken c.loop-read.writer)
          (g.W.Write.taken c.pack_piece.new.writer) before.packs c.in_ok-pack_piece.ensures.packed;
      is_open = c.in_ok-pack_piece.ensures.open;
      read_is = omega (
        arith,
        before.read_is,
        length-append before.returned more,
        length-take-le c.in-Ok.returned c.read.new.buffer c.in-Ok.ensures.within,
      );
      none_failed = c.in-Ok.ensures.counts ∙ before.none_failed;
      none_refused = c.in_ok-pack_piece.ensures.others (λ e. absurd cc) ∙ before.none_refused;
    }

pub returns-in_err-pack_piece-clause-refused : goal.returns-in_err-pack_piece-clause-refused
returns-in_err-pack_piece-clause-refused g c fault e =
    let before = c.loop-read.invariant in
    let more : List ℕ = take c.in-Ok.returned c.read.new.buffer in
    let remaining = g.R.Read.remaining c.read.new.self in
    let p = err_from_is_err_and c.from_residual.result c.from_residual.ensures.1 in
    let why = c.in_err-pack_piece.ensures.refused fault
    (handed_on c.from_residual.result p.0 (Fault fault) c.in_err-pack_piece.field-0.0 p.1 p.2 e) remaining in (
      before.returned ++ more,
      Consumes-trans (g.R.Read.remaining c.args.reader.now) (g.R.Read.remaining c.loop-read.reader) remaining before.returned more
          before.consumed c.in-Ok.ensures.tells,
      packed_then c.new-packing.result c.loop-read.packing before.returned more fault remaining (g.W.Write.taken c.args.writer.now)
          (g.W.Write.taken c.loop-read.writer) (g.W.Write.taken c.pack_piece.new.writer)
          c.new-packing.ensures before.packs why,
    )

pub returns-in_err-pack_piece-clause-read : goal.returns-in_err-pack_piece-clause-read
returns-in_err-pack_piece-clause-read g c fault e reason =
    let p = err_from_is_err_and c.from_residual.result c.from_residual.ensures.1 in
    let why = c.in_err-pack_piece.ensures.refused fault
    (handed_on c.from_residual.result p.0 (Fault fault) c.in_err-pack_piece.field-0.0 p.1 p.2 e) (Some []) in
    absurd (stops_unread c.loop-read.packing (take c.in-Ok.returned c.read.new.buffer) fault (Some [])
    (g.W.Write.taken c.loop-read.writer) (g.W.Write.taken c.pack_piece.new.writer) why reason)
