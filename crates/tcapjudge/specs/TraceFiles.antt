-- What is known of a trace that is opened as a file?
use Rattle.std.specs.Prelude.{◌≡◌}
use Rattle.tcap_report.specs.declared.run.Opened.{Opened}
use Rattle.tcap_report.specs.declared.run.Opened.TheVariants as opened
use Rattle.tcapjudge.specs.declared.source.Source.{Source}

-- Its reader, if there is one, has not failed.
abbrev pub HasNotFailed : Opened Source → Type 0
HasNotFailed (opened.Octets source len) = source.failures ≡ 0
HasNotFailed (opened.Unread why) = Unit {0}
