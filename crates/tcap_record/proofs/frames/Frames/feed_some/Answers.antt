use Rattle.std.proofs.Common.{◌≡◌, List, ℕ, length, None, ap, ◌∙◌, inr, arith}
use Rattle.std.proofs.lemmas.Result.{err_from_is_err_and}
use Rattle.tcap_ber.proofs.EachLoopLaws.{not_empty}
use Rattle.tcap_record.specs.PartialRecord.{FramerState}
use Rattle.tcap_record.proofs.FrontLaws.{part_not_whole}
use Rattle.tcap_record.proofs.FedLaws.{fed_taken}
use Rattle.tcap_record.proofs.HeldLaws.{none_there}
use Rattle.tcap_record.proofs.frames.Frames.feed_some.Goals as goal

pub returns-in_err-front-clause-fails : goal.returns-in_err-front-clause-fails
returns-in_err-front-clause-fails c =
    let inside = c.self.inside in
    let p = err_from_is_err_and c.from_residual.result c.from_residual.ensures.1 in
    let sound : inside.fault ≡ None = none_there inside.fault c.in_default.not-Some in
    let is_part = (c.self.invariant.2 c.if-self.false sound).0 in
    let some = not_empty (length c.args.piece.now) c.is_empty.result c.is_empty.ensures c.if-is_empty.false in
    rw (← c.self.view_is) (λ f e. inr (inr (
      sound,
      (let same : f ≡ p.0 = cc in same ∙ p.2),
      ap (λ (x : List ℕ). let h : FramerState = record { octets = x; place = inside.place; count = inside.count; fault = inside.fault } in h) c.in_err-front.ensures.kept,
      (λ none. absurd (omega (arith, some, ap length none))),
      (λ whole. part_not_whole inside.octets.items is_part whole),
    )))

pub returns-in-Refused-clause-fed : goal.returns-in-Refused-clause-fed
returns-in-Refused-clause-fed c =
    let inside = c.self.inside in
    let there = c.in_ok-front.ensures.taken in
    let h : FramerState = record { octets = inside.octets.items; place = inside.place; count = inside.count; fault = inside.fault } in
    rw (← c.self.view_is) (λ octets entries fed. (c.in_ok-front.taken, there.most, fed_taken octets entries h c.args.piece.now c.extend.new.part.items c.in_ok-front.taken _ there.grown fed))

pub returns-in-Whole-clause-none : goal.returns-in-Whole-clause-none
returns-in-Whole-clause-none c =
    let inside = c.self.inside in
    let sound : inside.fault ≡ None = none_there inside.fault c.in_default.not-Some in
    let is_part = (c.self.invariant.2 c.if-self.false sound).0 in
    rw (← c.self.view_is) (λ whole. absurd (part_not_whole inside.octets.items is_part whole))

pub returns-in-Whole-clause-fed : goal.returns-in-Whole-clause-fed
returns-in-Whole-clause-fed c =
    let inside = c.self.inside in
    let h : FramerState = record { octets = inside.octets.items; place = inside.place; count = inside.count; fault = inside.fault } in
    rw (← c.self.view_is) (λ octets entries fed. fed_taken octets entries h c.args.piece.now c.extend.new.part.items c.in_ok-front.taken _ c.in_ok-front.ensures.taken.grown fed)

pub returns-in-Part-clause-fed : goal.returns-in-Part-clause-fed
returns-in-Part-clause-fed c =
    let inside = c.self.inside in
    let h : FramerState = record { octets = inside.octets.items; place = inside.place; count = inside.count; fault = inside.fault } in
    rw (← c.self.view_is) (λ octets entries fed. fed_taken octets entries h c.args.piece.now c.extend.new.part.items c.in_ok-front.taken _ c.in_ok-front.ensures.taken.grown fed)
