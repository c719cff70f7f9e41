-- The entry is taken out, or there is none.
use Rattle.std.proofs.Common.{arith, ◌≡◌, [], length, rules, sym, ◌∙◌}
use Rattle.tcap_readings.proofs.PutLaws.{put_beyond, put_removes}
use Rattle.tcap_readings.proofs.readings.take_out.Goals as goal

pub returns-then-number-len : goal.returns-then-number-len
returns-then-number-len c = c.remove.ensures.items ∙ sym (put_removes c.args.number c.args.entries.now.items)

pub returns-else-number-len : goal.returns-else-number-len
returns-else-number-len c =
    let len : c.len.result ≡ length c.args.entries.now.items = search rules in
    sym (put_beyond c.args.number [] c.args.entries.now.items (omega (len, c.if-number-len.false, arith)))
