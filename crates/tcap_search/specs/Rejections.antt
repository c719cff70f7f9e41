-- Whether an entry rejects an answer as unrecognized.
use Rattle.std.specs.Prelude.{Bool, is_some}
use Rattle.std.specs.List.{list_any}
use Rattle.tcap_parts.specs.declared.component.Component.{Component}
use Rattle.tcap_record.specs.declared.entry.Entry.{Entry}
use Rattle.tcap_search.specs.ProposedCertificate.{unrecognized}
use Rattle.tcap_search.specs.Sweep.{components_of}

-- whether a component rejects an answer as unrecognized
abbrev pub rejects : Component → Bool
rejects c = is_some (unrecognized c)

-- whether a component of the entry does
abbrev pub has_rejection : Entry → Bool
has_rejection e = list_any rejects (components_of e)
