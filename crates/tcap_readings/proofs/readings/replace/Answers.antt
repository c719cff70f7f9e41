-- The entry is replaced, or there is none.
use Rattle.std.proofs.Common.{◌≤◌, [], ◌∷◌, length, rules, sym}
use Rattle.tcap_readings.proofs.PutLaws.{put_beyond, put_sets}
use Rattle.tcap_readings.proofs.readings.replace.Goals as goal

pub returns-in-Some : goal.returns-in-Some
returns-in-Some c = put_sets c.args.number c.args.entry c.args.entries.now.items

pub returns-in_default : goal.returns-in_default
returns-in_default c =
    let le : length c.args.entries.now.items ≤ c.args.number = search rules in
    sym (put_beyond c.args.number (c.args.entry ∷ []) c.args.entries.now.items le)
