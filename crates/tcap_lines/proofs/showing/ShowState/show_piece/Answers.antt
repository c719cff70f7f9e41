use Rattle.std.proofs.Common.{◌≡◌, ℕ, ◌+◌, ◌-◌, ◌≤◌, Bool, length, take, Option, None, Result, Ok, Err, sym, ap, subst, ◌∙◌, arith}
use Rattle.std.specs.Prelude.{◌||◌}
use Rattle.std.proofs.lemmas.Result.{err_from_is_err_and}
use Rattle.std.proofs.lemmas.List.{length-drop}
use Rattle.tcap_record.specs.PartialRecord.{IsFramerState, dropped}
use Rattle.tcap_record.proofs.FeederLaws.{rest_on, held_dropped, no_less}
use Rattle.tcap_lines.specs.declared.stop.Stop.{Stop}
use Rattle.tcap_lines.specs.ShowRun.{is_bad}
use Rattle.tcap_lines.specs.RecordLines.{Leads}
use Rattle.tcap_lines.proofs.ShowLaws.{leads_shown, leads_then, is_fault, part_there}
use Rattle.tcap_lines.proofs.showing.ShowState.show_piece.Goals.{then-self, else-self}
use Rattle.tcap_lines.proofs.showing.ShowState.show_piece.Goals as goal

pub returns-in_err-taken-clause-shows : goal.returns-in_err-taken-clause-shows
returns-in_err-taken-clause-shows g c =
    let p = err_from_is_err_and c.from_residual.result c.from_residual.ensures.1 in
    let was = c.loop-taken.invariant in
    rw p.1 (λ other.
    let q = is_fault p.0 (λ is. other (ap (λ (stop : Stop). let r : Result (Unit {0}) Stop = Err stop in r) is)) in
    let more = (c.in_err-taken.ensures.failed q.0 (ap (λ (stop : Stop). let r : Result ℕ Stop = Err stop in r) (sym p.2 ∙ q.1))).1 in (
      was.n + more.0,
      omega (arith, was.most, more.1, ap length was.rest_is, length-drop was.n c.args.piece.now),
      (λ ok. absurd cc),
      leads_then _ _ _ c.args.piece.now c.loop-taken.rest.now was.n more.0 c.loop-taken.self.frames c.take_some.new.self.frames _ _ _ _ was.rest_is more.2 was.leads,
    ))

pub returns-in_err-bad-clause-shows : goal.returns-in_err-bad-clause-shows
returns-in_err-bad-clause-shows g c =
    let p = err_from_is_err_and c.from_residual-in_err-bad.result c.from_residual-in_err-bad.ensures.1 in
    let was = c.loop-taken.invariant in
    let n = c.in_ok-taken.taken in
    rw p.1 (λ other.
    let q = is_fault p.0 (λ is. other (ap (λ (stop : Stop). let r : Result (Unit {0}) Stop = Err stop in r) is)) in
    let stays = c.in_err-bad.ensures.memory q.0 (ap (λ (stop : Stop). let r : Result (Option Bool) Stop = Err stop in r) (sym p.2 ∙ q.1)) in (
      was.n + n,
      omega (arith, was.most, c.in_ok-taken.ensures.most, ap length was.rest_is, length-drop was.n c.args.piece.now),
      (λ ok. absurd cc),
      rw stays.1 (leads_then _ _ _ c.args.piece.now c.loop-taken.rest.now was.n n c.loop-taken.self.frames c.take_some.new.self.frames _ _ _ _ was.rest_is c.in_ok-taken.ensures.shows was.leads),
    ))

pub returns-in_default-clause-sound : goal.returns-in_default-clause-sound
returns-in_default-clause-sound g c =
    let none = c.in_ok-bad.ensures.none (ap (λ (x : Option Bool). let r : Result (Option Bool) Stop = Ok x in r) c.in_default.is) in
    (c.in_ok-taken.ensures.sound, part_there c.take_some.new.self.frames c.in_ok-taken.ensures.framed c.in_ok-taken.ensures.sound none.0)

pub returns-in_default-clause-shows : goal.returns-in_default-clause-shows
returns-in_default-clause-shows g c other =
    let was = c.loop-taken.invariant in
    let n = c.in_ok-taken.taken in
    let none = c.in_ok-bad.ensures.none (ap (λ (x : Option Bool). let r : Result (Option Bool) Stop = Ok x in r) c.in_default.is) in
    let sound : c.take_some.new.self.frames.fault ≡ None = c.in_ok-taken.ensures.sound in
    let most : n ≤ length c.loop-taken.rest.now = c.in_ok-taken.ensures.most in
    let all : n ≡ length c.loop-taken.rest.now = no_less n (length c.loop-taken.rest.now) most (λ few. none.0 (sound, c.in_ok-taken.ensures.all few)) in (
      was.n + n,
      omega (arith, was.most, most, ap length was.rest_is, length-drop was.n c.args.piece.now),
      (λ ok. omega (arith, was.most, all, ap length was.rest_is, length-drop was.n c.args.piece.now)),
      rw none.1 (leads_then _ _ _ c.args.piece.now c.loop-taken.rest.now was.n n c.loop-taken.self.frames c.take_some.new.self.frames _ _ _ _ was.rest_is c.in_ok-taken.ensures.shows was.leads),
    )

pub loop-taken-preserved : goal.loop-taken-preserved
loop-taken-preserved g c =
    let was = c.loop-taken.invariant in
    let n = c.in_ok-taken.taken in
    let there = c.in_ok-bad.ensures.shown c.in-Some.bad (ap (λ (x : Option Bool). let r : Result (Option Bool) Stop = Ok x in r) c.in-Some.is) in
    let most : n ≤ length c.loop-taken.rest.now = c.in_ok-taken.ensures.most in
    let left : length c.loop-taken.rest.now ≡ length c.args.piece.now - was.n = ap length was.rest_is ∙ length-drop was.n c.args.piece.now in
    let after : c.drop_front.new.self ≡ dropped c.take_some.new.self.frames = c.drop_front.ensures.dropped there.2 there.3 in
    let bad_is : c.if-self.self ≡ (c.take_some.new.self.bad || is_bad there.0) = elim c.if-self.branch [
      | then-self w ↦ w.self-is ∙ w.if-self.true ∙ sym (ap (λ (b : Bool). b || is_bad there.0) w.if-self.true)
      | else-self w ↦ w.self-is ∙ there.5 ∙ sym (ap (λ (b : Bool). b || is_bad there.0) w.if-self.false)
    ] in
    let fed = leads_then _ _ _ c.args.piece.now c.loop-taken.rest.now was.n n c.loop-taken.self.frames c.take_some.new.self.frames _ _ _ _ was.rest_is c.in_ok-taken.ensures.shows was.leads in
    record {
      held = λ held. subst IsFramerState (sym after) (held_dropped c.take_some.new.self.frames c.in_ok-taken.ensures.framed there.2 there.3);
      none_failed = c.in_ok-bad.ensures.others (λ is. cc) ∙ c.in_ok-taken.ensures.others (λ is. cc) ∙ was.none_failed;
      n = was.n + n;
      most = omega (arith, was.most, most, left);
      rest_is = rest_on c.args.piece.now c.loop-taken.rest.now was.n n was.rest_is most;
      leads = subst (λ (b : Bool). Leads c.args.self.now.frames c.args.self.now.bad (g.W.Write.taken c.args.writer.now) (take (was.n + n) c.args.piece.now) c.drop_front.new.self b (g.W.Write.taken c.show_front.new.writer)) (sym bad_is)
          (leads_shown _ _ _ _ c.take_some.new.self.frames c.drop_front.new.self c.take_some.new.self.bad (g.W.Write.taken c.take_some.new.writer) (g.W.Write.taken c.show_front.new.writer) there.0
          (λ octets entries fed. c.drop_front.ensures.fed octets entries there.0 there.2 there.1 fed) there.4 fed);
    }
