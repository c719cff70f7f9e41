use Rattle.std.proofs.Common.{◌||◌, ap, ◌∙◌}
use Rattle.std.specs.BTreeSet as set
use Rattle.std.proofs.lemmas.Result.{on_ok_weaker}
use Rattle.tcap_end.specs.Table.{octets_cmp}
use Rattle.tcap_dialogues.proofs.cut.Cut.sent_from.Goals as goal

pub returns : goal.returns
returns c = λ reuse headings cut.
    on_ok_weaker c.sent_from.result
    (λ adds octets.
    adds octets
    ∙ ap (λ b. set.contains octets_cmp c.args.ids.now octets || b) (cut.held.ids (record { end = c.args.end; octets = octets })).sent_is)
    c.sent_from.ensures
