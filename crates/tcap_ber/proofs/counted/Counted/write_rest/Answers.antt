use Rattle.std.proofs.Common.{◌+◌, ap, drop, ◌∙◌}
use Rattle.std.proofs.lemmas.List.{drop-drop, take_rest}
use Rattle.tcap_ber.proofs.DeviceLemmas.{Appends-more}
use Rattle.tcap_ber.proofs.counted.Counted.write_rest.Goals as goal

pub loop-preserved : goal.loop-preserved
loop-preserved g c =
    let was = c.loop.invariant in
    let octets = drop c.args.taken c.args.octets.now in
    let once = c.in_ok-count.ensures in
    record {
      n = was.n + c.in_ok-count.count;
      rest_is = take_rest c.loop.rest.now c.in_ok-count.count ∙ ap (drop c.in_ok-count.count) was.rest_is ∙ drop-drop c.in_ok-count.count was.n octets;
      took = Appends-more _ _ _ octets c.loop.rest.now was.n c.in_ok-count.count was.rest_is was.took once.taken;
      count = once.counts ∙ was.count;
    }
