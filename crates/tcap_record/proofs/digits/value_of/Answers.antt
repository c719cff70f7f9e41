use Rattle.tcap_record.proofs.HexLaws.{values, value_is}
use Rattle.tcap_record.proofs.digits.value_of.Goals as goal

pub returns : goal.returns
unfolding values
returns c = rw c.from.ensures (value_is c.args.digit c.ranges.digit.fits)
