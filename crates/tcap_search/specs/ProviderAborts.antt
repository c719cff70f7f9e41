-- Whether an entry is a provider's Abort.
use Rattle.std.specs.Prelude.{Bool}
use Rattle.tcap_record.specs.declared.entry.Entry.{Entry}
use Rattle.tcap_search.specs.SegmentEntries.{message_of}
use Rattle.tcap_search.specs.ProposedCertificate.{is_provider_abort}

-- whether an entry is an Abort with a P-Abort cause
abbrev pub aborts_by_provider : Entry → Bool
aborts_by_provider e = is_provider_abort (message_of e)
