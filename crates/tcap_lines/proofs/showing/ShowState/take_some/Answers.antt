use Rattle.std.proofs.Common.{◌≡◌, ◌+◌, ◌-◌, ◌⊎◌, ℕ, List, Some, length, take, drop, refl, ap, subst, arith}
use Rattle.std.proofs.lemmas.Result.{err_from_is_err_and}
use Rattle.std.proofs.lemmas.List.{length-drop}
use Rattle.tcap_record.specs.declared.fault.FeedFault.{FeedFault}
use Rattle.tcap_record.specs.declared.fault.FeedReason.TheVariants as feed
use Rattle.tcap_record.specs.FramingResult.{feed_fault}
use Rattle.tcap_record.proofs.FeederLaws.{rest_is}
use Rattle.tcap_lines.proofs.ShowLaws.{leads_fed, fails_fed, fails_why}
use Rattle.tcap_lines.proofs.showing.ShowState.take_some.Goals as goal

pub returns-in_err-taken-clause-failed : goal.returns-in_err-taken-clause-failed
returns-in_err-taken-clause-failed g c =
    let p = err_from_is_err_and c.from_residual-in_err-taken.result c.from_residual-in_err-taken.ensures.1 in
    let piece = c.args.piece.now in
    let n = c.in_ok-passed.passed in
    let rest : List ℕ = take (length piece - n) (drop n piece) in
    let behind : rest ≡ drop n piece = rest_is piece n in
    let wrong = c.in_err-taken.field-0.0 in
    let fails = c.in_err-taken.ensures.fails wrong refl in
    let more = fails_fed wrong c.show_whole.new.self.frames c.feed_some.new.self rest fails in
    λ f e.
    let same : wrong ≡ f = cc in (
      subst (λ (x : FeedFault). (x ≡ feed_fault feed.Memory 0) ⊎ (c.feed_some.new.self.fault ≡ Some x)) same (fails_why wrong c.show_whole.new.self.frames c.feed_some.new.self rest fails),
      (
        n + more.0,
        omega (arith, c.in_ok-passed.ensures.most, more.1, ap length behind, length-drop n piece),
        leads_fed _ _ _ piece rest n more.0 c.show_whole.new.self.frames c.feed_some.new.self _ _ behind more.2 c.in_ok-passed.ensures.shows,
      ),
    )

pub returns-clause-shows : goal.returns-clause-shows
returns-clause-shows g c =
    let piece = c.args.piece.now in
    let n = c.in_ok-passed.passed in
    leads_fed _ _ _ piece (take (length piece - n) (drop n piece)) n c.in_ok-taken.taken c.show_whole.new.self.frames c.feed_some.new.self _ _ (rest_is piece n)
    (λ octets entries fed. c.in_ok-taken.ensures.fed octets entries fed) c.in_ok-passed.ensures.shows
