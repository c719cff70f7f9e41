use Rattle.std.proofs.Common.{◌≡◌, ℕ, [], ◌++◌, take, Result, Ok, Err, refl, sym, ap, subst, ◌∙◌, arith, append-nil}
use Rattle.std.specs.Prelude.{◌≢◌}
use Rattle.std.proofs.KnownBytes.{Consumes-nil, Consumes-trans}
use Rattle.std.proofs.lemmas.Result.{err_from_is_err_and}
use Rattle.std.specs.Io.KnownBytes.{Consumes}
use Rattle.tcap_record.specs.PartialRecord.{FramerState, IsPart}
use Rattle.tcap_record.specs.FeederResult.{FinishesAs}
use Rattle.tcap_record.proofs.ReadingLaws.{read_finished}
use Rattle.tcap_lines.specs.declared.stop.Stop.{Stop}
use Rattle.tcap_lines.specs.declared.stop.Stop.TheVariants as stops
use Rattle.tcap_lines.specs.RecordLines.{ShowsAll}
use Rattle.tcap_lines.proofs.ShowLaws.{stopped_read, not_cut, nothing_shown, nothing_is_held, ended_counts, stopped_counts, unless_write, err_is}
use Rattle.tcap_lines.proofs.showing.show_all.Goals as goal

pub loop-showing-init : goal.loop-showing-init
loop-showing-init g c =
    let start = c.args.showing.now.frames in
    record {
      returned = [];
      entries = [];
      consumed = Consumes-nil (g.R.Read.remaining c.args.reader.now);
      shown = nothing_shown start c.args.showing.now.bad (g.W.Write.taken c.args.writer.now) c.requires.fresh c.requires.fine;
      held = nothing_is_held start c.requires.fresh;
      sound = ap (λ (h : FramerState). h.fault) c.requires.fresh;
      is_part = subst (λ (h : FramerState). IsPart h.octets) (sym c.requires.fresh) tt;
      none_failed = refl;
      none_lost = refl;
    }

pub returns-in_err-finish-in-Ok-eq0-clause-shows : goal.returns-in_err-finish-in-Ok-eq0-clause-shows
returns-in_err-finish-in-Ok-eq0-clause-shows g c =
    let was = c.loop-showing.invariant in
    let p = err_from_is_err_and c.from_residual.result c.from_residual.ensures.1 in
    let f = c.in_err-finish-in-Ok-eq0.field-0.0 in
    let all : was.returned ++ take c.in-Ok-eq0.field-0 c.read.new.buffer ≡ was.returned = ap (λ (n : ℕ). was.returned ++ take n c.read.new.buffer) c.in-Ok-eq0.field-0-test ∙ append-nil was.returned in
    let consumed = Consumes-trans (g.R.Read.remaining c.args.reader.now) (g.R.Read.remaining c.loop-showing.reader) (g.R.Read.remaining c.read.new.self) was.returned (take c.in-Ok-eq0.field-0 c.read.new.buffer) was.consumed c.in-Ok-eq0.ensures.tells in
    let ends : FinishesAs (Err f) c.loop-showing.showing.frames = c.in_err-finish-in-Ok-eq0.ensures in
    rw (p.1, p.2) (record {
      returned = was.returned;
      entries = was.entries;
      tells = subst (Consumes (g.R.Read.remaining c.args.reader.now) (g.R.Read.remaining c.read.new.self)) all consumed;
      is_read = read_finished (Err f) was.returned was.entries c.loop-showing.showing.frames (record { fed = was.shown.fed; held = was.held; sound = was.sound; is_part = was.is_part }) ends;
      ended = λ cut. c.in-Ok-eq0.ensures.end c.in-Ok-eq0.field-0-test (omega arith);
      failed = ended_counts f c.loop-showing.showing.frames _ _ ends was.sound (c.in-Ok-eq0.ensures.counts ∙ was.none_failed);
      written = was.shown.written;
      bad_is = was.shown.bad_is;
    })

pub returns-in-Ok-eq0-clause-shows : goal.returns-in-Ok-eq0-clause-shows
returns-in-Ok-eq0-clause-shows g c =
    let was = c.loop-showing.invariant in
    let all : was.returned ++ take c.in-Ok-eq0.field-0 c.read.new.buffer ≡ was.returned = ap (λ (n : ℕ). was.returned ++ take n c.read.new.buffer) c.in-Ok-eq0.field-0-test ∙ append-nil was.returned in
    let consumed = Consumes-trans (g.R.Read.remaining c.args.reader.now) (g.R.Read.remaining c.loop-showing.reader) (g.R.Read.remaining c.read.new.self) was.returned (take c.in-Ok-eq0.field-0 c.read.new.buffer) was.consumed c.in-Ok-eq0.ensures.tells in
    record {
      returned = was.returned;
      entries = was.entries;
      tells = subst (Consumes (g.R.Read.remaining c.args.reader.now) (g.R.Read.remaining c.read.new.self)) all consumed;
      is_read = read_finished (Ok tt) was.returned was.entries c.loop-showing.showing.frames (record { fed = was.shown.fed; held = was.held; sound = was.sound; is_part = was.is_part }) c.in_ok-finish-in-Ok-eq0.ensures;
      ended = c.in-Ok-eq0.ensures.end c.in-Ok-eq0.field-0-test (omega arith);
      failed = c.in-Ok-eq0.ensures.counts ∙ was.none_failed;
      written = was.shown.written;
      bad_is = was.shown.bad_is;
    }

pub returns-in_err-show_piece-clause-shows : goal.returns-in_err-show_piece-clause-shows
returns-in_err-show_piece-clause-shows g c =
    let was = c.loop-showing.invariant in
    let p = err_from_is_err_and c.from_residual-in_err-show_piece.result c.from_residual-in_err-show_piece.ensures.1 in
    let returned = take c.in-Ok.returned c.read.new.buffer in
    let consumed = Consumes-trans (g.R.Read.remaining c.args.reader.now) (g.R.Read.remaining c.loop-showing.reader) (g.R.Read.remaining c.read.new.self) was.returned returned was.consumed c.in-Ok.ensures.tells in
    let same : c.in_err-show_piece.field-0.0 ≡ p.0 = sym p.2 in
    rw p.1 (unless_write (ShowsAll (g.R.Read.remaining c.args.reader.now) (g.R.Read.remaining c.read.new.self) (g.R.Read.failures c.args.reader.now) (g.R.Read.failures c.read.new.self) c.show_piece.new.self.bad (g.W.Write.taken c.args.writer.now) (g.W.Write.taken c.show_piece.new.writer)) p.0 (λ f is.
    let e : c.in_err-show_piece.field-0.0 ≡ stops.Fault f = same ∙ is in
    let other : (let r : Result (Unit {0}) Stop = Err c.in_err-show_piece.field-0.0 in r) ≢ Err stops.Write = λ bad. let no : stops.Fault f ≡ stops.Write = sym e ∙ err_is c.in_err-show_piece.field-0.0 stops.Write bad in cc in
    let shows = c.in_err-show_piece.ensures.shows other in
    let shown = shows.3 was.returned was.entries (g.W.Write.taken c.args.writer.now) was.shown in
    let held = c.in_err-show_piece.ensures.held was.held in
    let why = c.in_err-show_piece.ensures.fault f (ap (λ (stop : Stop). let r : Result (Unit {0}) Stop = Err stop in r) e) in
    record {
      returned = was.returned ++ returned;
      entries = shown.0;
      tells = consumed;
      is_read = stopped_read was.returned returned shows.0 shown.0 c.show_piece.new.self.frames f shown.1.fed held why;
      ended = λ cut. absurd (not_cut c.show_piece.new.self.frames f held why cut);
      failed = stopped_counts f c.show_piece.new.self.frames _ _ held why (c.in-Ok.ensures.counts ∙ was.none_failed);
      written = shown.1.written;
      bad_is = shown.1.bad_is;
    }))
