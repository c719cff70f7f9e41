-- Values for each end.
use Rattle.tcap_record.specs.declared.entry.End.{End as Side}
use Rattle.tcap_record.specs.declared.entry.End.TheVariants as sides
use Rattle.tcap_search.specs.declared.end_values.PerEnd.{PerEnd}

-- the value of an end
abbrev pub at_end : {T : Type 0} → Side → PerEnd T → T
at_end sides.A values = values.a
at_end sides.B values = values.b
