-- The reading has no more entries than the dialogue.
use Rattle.tcap_readings.proofs.ReadingLaws.{result_few}
use Rattle.tcap_readings.proofs.readings.read_by.Goals as goal

pub returns-clause-few : goal.returns-clause-few
returns-clause-few c =
    result_few c.args.malformed.now c.args.way c.args.entries.now c.in_ok-copy_entries.field-0.items c.read_entries.result
    c.in_ok-copy_entries.ensures c.read_entries.ensures
