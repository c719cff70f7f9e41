use Rattle.std.proofs.Common.{[], refl}
use Rattle.tcap_record.specs.FeederState.{IsFedSoFar}
use Rattle.tcap_uses.proofs.record.entries_of.Goals as goal

pub loop-entry-init : goal.loop-entry-init
loop-entry-init c =
    let nothing : IsFedSoFar [] [] c.new-feeder.result = rw c.new-feeder.ensures (record { framed = refl; count_is = refl; place_is = refl }) in
    let one = c.in_ok-feed.ensures.fed [] [] nothing in
    let both = c.in_ok-feed-2.ensures.fed c.args.first.now [] one in
    ((c.in_ok-finish.ensures.ok.0 refl).1, rw c.new-entries.ensures.items both)
