use Rattle.std.proofs.Common.{List, ℕ, ◌+◌, ap, ◌∙◌}
use Rattle.std.proofs.lemmas.List.{take_rest}
use Rattle.tcap_record.specs.FramingResult.{body_at}
use Rattle.tcap_record.proofs.HeldLaws.{entry_whole}
use Rattle.tcap_record.proofs.lending.entry_view.Goals as goal

pub returns : goal.returns
returns c =
    let behind = take_rest c.args.octets.now 1 in
    entry_whole c.args.place c.args.octets.now c.end_of.result _ c.requires.whole c.if-octets-eq-QUIET_OCTET.false c.end_of.ensures
    (c.body_view.ensures ∙ ap (λ (x : List ℕ). body_at (record { octets = x; place = c.args.place + 1 })) behind)
