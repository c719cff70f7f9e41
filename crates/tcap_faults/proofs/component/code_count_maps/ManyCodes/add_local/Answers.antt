use Rattle.std.proofs.Common.{is_some, to_z-of_z, sym, ap}
use Rattle.tcap_parts.specs.declared.code.Code.TheVariants.{Local}
use Rattle.tcap_faults.proofs.component_laws.CodeListLaws.{listed_stays}
use Rattle.tcap_faults.proofs.component.code_count_maps.ManyCodes.add_local.Goals as goal

pub returns-in-Some-clause-codes : goal.returns-in-Some-clause-codes
returns-in-Some-clause-codes c =
    let found = rw (to_z-of_z c.ranges.local) at c.in-Some.ensures.value in
    listed_stays (Local c.args.local) c.args.self.now.codes.items
    (c.args.self.now.listed (Local c.args.local) (sym (ap is_some found)))
