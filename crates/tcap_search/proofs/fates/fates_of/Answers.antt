-- The fates after each rule.
use Rattle.std.proofs.Common.{◌≡◌, List, drop, length, map, sym, ap, arith, ◌∙◌}
use Rattle.std.proofs.lemmas.List.{length-map, take_at}
use Rattle.tcap_certificate.specs.declared.certificate.Fate.{Fate}
use Rattle.tcap_search.specs.SegmentEntries.{lines_of}
use Rattle.tcap_search.specs.ProposedCertificate.{fate_of, fated, with_losses}
use Rattle.tcap_search.proofs.LineLaws.{count_lines}
use Rattle.tcap_search.proofs.LossLaws.{count_left, count_lost, fates_are}
use Rattle.tcap_search.proofs.fates.fates_of.Goals as goal

pub without_unanswered-requires : goal.without_unanswered-requires
without_unanswered-requires c =
    ap length c.in_ok-first.ensures
    ∙ length-map (lines_of c.args.entries.now)
    (fate_of c.args.judged (lines_of c.args.entries.now) c.args.ties.now)
    ∙ count_lines c.args.entries.now

pub lose_overtaken-requires : goal.lose_overtaken-requires
lose_overtaken-requires c =
    ap length c.deref_mut.ensures.value
    ∙ count_left c.args.judged c.args.marked c.args.entries.now c.args.ties.now c.in_ok-first.first.items
    c.in_ok-fates.fates.items c.requires.ties c.in_ok-first.ensures c.in_ok-fates.ensures

pub returns : goal.returns
returns c =
    let entries = c.args.entries.now in
    let left = c.in_ok-fates.fates.items in
    let kept = c.lose_overtaken.new.fates in
    let counted : length left ≡ length entries =
    count_left c.args.judged c.args.marked entries c.args.ties.now c.in_ok-first.first.items left c.requires.ties
    c.in_ok-first.ensures c.in_ok-fates.ensures in
    let are : kept ≡ map (λ x. x.fate) (with_losses (fated (lines_of entries) left)) =
    c.lose_overtaken.ensures
    ∙ ap (λ (fs : List Fate). map (λ x. x.fate) (with_losses (fated (lines_of entries) fs))) c.deref_mut.ensures.value in
    let all : length kept ≡ length left =
    ap length are ∙ count_lost (lines_of entries) left (counted ∙ sym (count_lines entries)) in
    fates_are c.args.judged c.args.marked entries c.args.ties.now c.in_ok-first.first.items left c.requires.ties
    c.in_ok-first.ensures c.in_ok-fates.ensures _
    (take_at kept (drop (length kept) left) c.in_ok-fates.fates.len
    (all ∙ omega (arith, c.in_ok-fates.fates.ok.0)) ∙ are)
