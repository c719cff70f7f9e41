use Rattle.std.proofs.Common.{rules, ◌≡◌, map, sym, ◌∙◌}
use Rattle.std.proofs.lemmas.List.{map-id}
use Rattle.std.proofs.lemmas.Map.Iter.{iter_end}
use Rattle.tcap_dialogues.proofs.CourseStretch.{apart_so_far}
use Rattle.tcap_dialogues.proofs.FinishLaws.{all_handed, begins, stands_with}
use Rattle.tcap_dialogues.proofs.cut.Cut.finish.Goals as goal

pub loop-live-init : goal.loop-live-init
loop-live-init c = begins c.args.done.now.items

pub loop-live-preserved : goal.loop-live-preserved
loop-live-preserved c =
    stands_with c.args.done.now.items c.loop-live.done.items _ c.loop-live.yielded (c.in-Some.field-0-0, c.in-Some.live) c.in_ok-into_complete.field-0 c.loop-live.invariant
    c.in_ok-push.ensures.items (λ d. c.in_ok-into_complete.ensures d)

pub returns : goal.returns
returns c = λ reuse headings cut.
    let all : map (λ x. x) c.loop-live.yielded ≡ c.args.self.live.entries = search (rules, iter_end) in
    let same : c.loop-live.yielded ≡ c.args.self.live.entries = sym (map-id c.loop-live.yielded) ∙ all in
    all_handed _ cut.name c.args.self.live (apart_so_far reuse headings) cut.held.lives c.into_iter-live-iterator.ensures.into_iter_gives.5 c.args.done.now.items _
    c.loop-live.yielded same c.loop-live.invariant
