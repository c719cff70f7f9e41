use Rattle.tcap_ber.specs.Reading.{span}
use Rattle.tcap_ber.proofs.ShortLaws.{short_next}
use Rattle.tcap_ber.proofs.window.read_next.Goals as goal

pub returns-in-Some : goal.returns-in-Some
returns-in-Some c = record { exact = rw (short_next c.in-Some.content_len (span c.args.window) c.in-Some.ensures.found) c.read_definite.ensures.exact }
