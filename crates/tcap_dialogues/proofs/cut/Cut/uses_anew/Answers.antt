use Rattle.std.proofs.Common.{◌≡◌, true, false, sym, ◌∙◌}
use Rattle.tcap_dialogues.specs.Course.{is_begin, is_continue}
use Rattle.tcap_dialogues.specs.HeadingReading.{heading_read}
use Rattle.tcap_dialogues.proofs.GivenUpLaws.{own_begin, own_neither, own_other}
use Rattle.tcap_dialogues.proofs.cut.Cut.uses_anew.Goals as goal

pub returns-then-is_begin : goal.returns-then-is_begin
returns-then-is_begin c = λ s names sent d apart held has named hits.
    sym (own_begin s names (heading_read c.args.heading) d hits (sym c.is_begin.ensures ∙ c.if-is_begin.true))

pub returns-then-is_continue : goal.returns-then-is_continue
returns-then-is_continue c = λ s names sent d apart held has named hits.
    let no_begin : is_begin c.args.heading.kind ≡ false = sym c.is_begin.ensures ∙ c.if-is_begin.false in
    let continues : is_continue c.args.heading.kind ≡ true = sym c.is_continue.ensures ∙ c.if-is_continue.true in
    c.continues_another.ensures s names sent d apart held has named hits continues
    ∙ sym (own_other s names (heading_read c.args.heading) d no_begin)

pub returns-else-is_continue : goal.returns-else-is_continue
returns-else-is_continue c = λ s names sent d apart held has named hits.
    let no_begin : is_begin c.args.heading.kind ≡ false = sym c.is_begin.ensures ∙ c.if-is_begin.false in
    let neither : is_continue c.args.heading.kind ≡ false = sym c.is_continue.ensures ∙ c.if-is_continue.false in
    sym (own_neither s names (heading_read c.args.heading) d no_begin neither)
