use Rattle.std.proofs.Common.{refl, ap}
use Rattle.tcap_dialogues.proofs.ReleaseLaws.{none_released, one_released}
use Rattle.tcap_dialogues.proofs.cut.Cut.release.Goals as goal

pub returns-in_default : goal.returns-in_default
returns-in_default c = λ s names sent apart held.
    let out = c.in_default.ensures s.live names apart held.lives held.overs in
    let done = none_released s names sent c.args.name apart c.args.self.now held c.take_out.new.self c.args.done.now.items out in
    (done.0, done.1, ap (λ k. k.reuse) out.rest, ap (λ k. k.count) out.rest)

pub returns : goal.returns
returns c = λ s names sent apart held.
    let out = c.in-Some.ensures s.live names apart held.lives held.overs in
    let now = c.take_out.new.self in
    let done =
    one_released s names sent c.args.name apart c.args.self.now held c.first.result now (record now { ids = c.change_both.new.self })
    c.in-Some.live
    c.in_ok-into_complete.field-0 c.args.done.now.items out refl refl c.in_ok-change_both.ensures (λ d. c.in_ok-into_complete.ensures d) in
    (done.0, rw c.in_ok-push.ensures.items done.1, ap (λ k. k.reuse) out.rest, ap (λ k. k.count) out.rest)
