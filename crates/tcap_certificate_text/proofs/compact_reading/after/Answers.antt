use Rattle.std.proofs.lemmas.Slice.Eq.{strip_prefix_is}
use Rattle.std.proofs.lemmas.Bool.Decides.{Decides-eqb}
use Rattle.tcap_certificate_text.proofs.CompactLaws.{found}
use Rattle.tcap_certificate_text.proofs.compact_reading.after.Goals as goal

pub returns : goal.returns
returns c =
    let one = strip_prefix_is Decides-eqb c.args.octets.now c.args.text.now _ c.strip_prefix.ensures.cases in
    found _ _ c.strip_prefix.result one
