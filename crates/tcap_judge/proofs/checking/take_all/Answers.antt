use Rattle.std.proofs.Common.{◌≡◌, ℕ, List, [], ◌++◌, take, refl, rules, ap, subst, ◌∙◌, arith, append-nil}
use Rattle.std.proofs.KnownBytes.{Consumes-trans}
use Rattle.std.proofs.lemmas.Result.{err_from_is_err_and}
use Rattle.std.specs.Io.KnownBytes.{Consumes}
use Rattle.tcap_record.proofs.ReadingLaws.{read_finished}
use Rattle.tcap_lines.proofs.ShowLaws.{stopped_read, not_cut, stopped_counts}
use Rattle.tcap_judge.proofs.JudgeLaws.{ended_at_end, ended_fails, ends_with}
use Rattle.tcap_judge.proofs.checking.take_all.Goals as goal

pub returns-in-Ok-eq0 : goal.returns-in-Ok-eq0
returns-in-Ok-eq0 g c = λ judged table cert stands.
    let was = c.loop-frames.invariant in
    let frames = c.loop-frames.frames in
    let end = c.finish.result in
    let at_first = g.R.Read.remaining c.args.reader.now in
    let at_last = g.R.Read.remaining c.read.new.self in
    let have = was.taken judged table cert stands in
    let more : List ℕ = take c.in-Ok-eq0.field-0 c.read.new.buffer in
    let all : was.returned ++ more ≡ was.returned =
    ap (λ (n : ℕ). was.returned ++ take n c.read.new.buffer) c.in-Ok-eq0.field-0-test ∙ append-nil was.returned in
    let consumed = Consumes-trans at_first (g.R.Read.remaining c.loop-frames.reader) at_last was.returned more was.consumed
    c.in-Ok-eq0.ensures.tells in
    record {
      entries = have.0;
      reads = record {
        returned = was.returned;
        tells = subst (Consumes at_first at_last) all consumed;
        is_read = read_finished end was.returned have.0 frames
            (record { fed = have.1.fed; held = was.held; sound = was.sound; is_part = was.is_part }) c.finish.ensures;
        ended = ended_at_end at_last end (c.in-Ok-eq0.ensures.end c.in-Ok-eq0.field-0-test (omega arith));
        failed = ended_fails end frames _ _ c.finish.ensures was.sound (c.in-Ok-eq0.ensures.counts ∙ was.none_failed);
      };
      stands = ends_with judged table cert have.0 frames c.loop-frames.checker end have.1.fed.count_is have.1.stands;
    }

pub loop-frames-preserved : goal.loop-frames-preserved
loop-frames-preserved g c =
    let was = c.loop-frames.invariant in
    let returned : List ℕ = take c.in-Ok.returned c.read.new.buffer in
    record {
      returned = was.returned ++ returned;
      consumed = Consumes-trans (g.R.Read.remaining c.args.reader.now) (g.R.Read.remaining c.loop-frames.reader)
          (g.R.Read.remaining c.read.new.self) was.returned returned was.consumed c.in-Ok.ensures.tells;
      taken = λ judged table cert stands.
          let have = was.taken judged table cert stands in
          c.in_ok-take_piece.ensures.leads judged table cert was.returned have.0 have.1;
      held = c.in_ok-take_piece.ensures.held was.held;
      sound = c.in_ok-take_piece.ensures.sound.0;
      is_part = c.in_ok-take_piece.ensures.sound.1;
      none_failed = c.in-Ok.ensures.counts ∙ was.none_failed;
    }

pub returns-in_err-take_piece : goal.returns-in_err-take_piece
returns-in_err-take_piece g c =
    let was = c.loop-frames.invariant in
    let p = err_from_is_err_and c.from_residual.result c.from_residual.ensures.1 in
    let f = c.in_err-take_piece.field-0.0 in
    let frames = c.take_piece.new.frames in
    let returned : List ℕ = take c.in-Ok.returned c.read.new.buffer in
    let why = c.in_err-take_piece.ensures.why f refl in
    let held = c.in_err-take_piece.ensures.held was.held in
    let fed = c.in_err-take_piece.ensures.fed in
    rw (p.1, p.2) (λ judged table cert stands.
    let have = was.taken judged table cert stands in
    let there = fed.2 judged table cert was.returned have.0 have.1 in
    record {
      entries = there.0;
      reads = record {
        returned = was.returned ++ returned;
        tells = Consumes-trans (g.R.Read.remaining c.args.reader.now) (g.R.Read.remaining c.loop-frames.reader)
            (g.R.Read.remaining c.read.new.self) was.returned returned was.consumed c.in-Ok.ensures.tells;
        is_read = stopped_read was.returned returned fed.0 there.0 frames f there.1 held why;
        ended = λ cut. absurd (not_cut frames f held why cut);
        failed = stopped_counts f frames _ _ held why (c.in-Ok.ensures.counts ∙ was.none_failed);
      };
      stands = tt;
    })

pub loop-frames-init : goal.loop-frames-init
loop-frames-init g c = record {
  returned = [];
  consumed = search rules;
  taken = λ judged table cert stands. ([], record { fed = search rules; stands = stands });
  held = search rules;
  sound = search rules;
  is_part = search rules;
  none_failed = search rules;
}
