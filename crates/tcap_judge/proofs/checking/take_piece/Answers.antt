use Rattle.std.proofs.Common.{◌≡◌, ◌+◌, ◌≤◌, Bool, length, Result, Ok, refl, sym, ap, subst, arith}
use Rattle.std.proofs.lemmas.Result.{err_from_is_err_and}
use Rattle.std.proofs.lemmas.List.{length-drop}
use Rattle.tcap_record.specs.declared.fault.FeedFault.{FeedFault}
use Rattle.tcap_record.specs.PartialRecord.{FramerState, IsFramerState, dropped}
use Rattle.tcap_record.proofs.FeederLaws.{rest_on, held_dropped, no_less}
use Rattle.tcap_lines.proofs.ShowLaws.{fails_fed}
use Rattle.tcap_judge.proofs.JudgeLaws.{dropped_place, fed_short, grown_place, leads_fed, leads_taken, leads_whole}
use Rattle.tcap_judge.proofs.checking.take_piece.Goals as goal

pub returns-in_err-taken-clause-fed : goal.returns-in_err-taken-clause-fed
returns-in_err-taken-clause-fed c =
    let p = err_from_is_err_and c.from_residual.result c.from_residual.ensures.1 in
    let was = c.loop-taken.invariant in
    let piece = c.args.piece.now in
    let rest = c.loop-taken.rest.now in
    let held = c.loop-taken.frames in
    let after = c.feed_some.new.self in
    let wrong = c.in_err-taken.field-0.0 in
    let more = fails_fed wrong held after rest (c.in_err-taken.ensures.fails wrong refl) in
    rw p.1 (
      was.n + more.0,
      omega (arith, was.most, more.1, ap length was.rest_is, length-drop was.n piece),
      fed_short _ _ piece rest was.n more.0 held after c.loop-taken.checker was.rest_is more.2 was.leads,
    )

pub returns-in_err-take_front-clause-fed : goal.returns-in_err-take_front-clause-fed
returns-in_err-take_front-clause-fed c =
    let p = err_from_is_err_and c.from_residual-in_err-take_front.result c.from_residual-in_err-take_front.ensures.1 in
    let was = c.loop-taken.invariant in
    let piece = c.args.piece.now in
    let n = c.in_ok-taken.taken in
    rw p.1 (
      was.n + n,
      omega (arith, was.most, c.in_ok-taken.ensures.most, ap length was.rest_is, length-drop was.n piece),
      fed_short _ _ piece c.loop-taken.rest.now was.n n c.loop-taken.frames c.feed_some.new.self c.loop-taken.checker
          was.rest_is (λ octets entries fed. c.in_ok-taken.ensures.fed octets entries fed) was.leads,
    )

pub returns-then-not-branch-clause-leads : goal.returns-then-not-branch-clause-leads
returns-then-not-branch-clause-leads c =
    let was = c.loop-taken.invariant in
    let rest = c.loop-taken.rest.now in
    let held = c.loop-taken.frames in
    let n = c.in_ok-taken.taken in
    let none = c.in_ok-take_front.ensures.none
    (ap (λ (b : Bool). let r : Result Bool FeedFault = Ok b in r) c.if-not-branch.true) in
    let sound = ap (λ (h : FramerState). h.fault) c.in_ok-taken.ensures.taken.1 in
    let most : n ≤ length rest = c.in_ok-taken.ensures.most in
    let all : n ≡ length rest =
    no_less n (length rest) most (λ few. none.0 (sound, c.in_ok-taken.ensures.all few)) in
    rw none.1 (leads_whole _ _ c.args.piece.now rest was.n n held c.feed_some.new.self c.loop-taken.checker was.rest_is
    all was.most (λ octets entries fed. c.in_ok-taken.ensures.fed octets entries fed) was.leads)

pub loop-taken-preserved : goal.loop-taken-preserved
loop-taken-preserved c =
    let was = c.loop-taken.invariant in
    let piece = c.args.piece.now in
    let rest = c.loop-taken.rest.now in
    let held = c.loop-taken.frames in
    let grew = c.feed_some.new.self in
    let n = c.in_ok-taken.taken in
    let there = c.in_ok-take_front.ensures.taken
    (ap (λ (b : Bool). let r : Result Bool FeedFault = Ok b in r) c.if-not-branch.false) in
    let most : n ≤ length rest = c.in_ok-taken.ensures.most in
    let after : c.drop_front.new.self ≡ dropped grew = c.drop_front.ensures.dropped there.2 there.3 in
    let fed = leads_fed _ _ piece rest was.n n held grew c.loop-taken.checker was.rest_is
    (λ octets entries fed. c.in_ok-taken.ensures.fed octets entries fed) was.leads in
    record {
      held = λ held. subst IsFramerState (sym after) (held_dropped grew c.in_ok-taken.ensures.held there.2 there.3);
      n = was.n + n;
      most = omega (arith, was.most, most, ap length was.rest_is, length-drop was.n piece);
      rest_is = rest_on piece rest was.n n was.rest_is most;
      grown_by = omega (
        arith,
        dropped_place grew c.drop_front.new.self after,
        grown_place held grew rest n most c.in_ok-taken.ensures.taken.1,
        was.grown_by,
      );
      leads = leads_taken _ _ _ grew c.drop_front.new.self c.loop-taken.checker c.take_front.new.checker there.0
          (λ octets entries fed. c.drop_front.ensures.fed octets entries there.0 there.2 there.1 fed) there.4 fed;
    }
