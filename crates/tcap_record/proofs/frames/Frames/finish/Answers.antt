use Rattle.std.proofs.Common.{◌≡◌, ℕ, ◌+◌, length, None, ap, inr, arith}
use Rattle.tcap_ber.proofs.EachLoopLaws.{not_empty}
use Rattle.tcap_record.specs.declared.fault.FeedReason.TheVariants as feed
use Rattle.tcap_record.specs.FramingResult.{feed_fault}
use Rattle.tcap_record.proofs.FrontLaws.{part_not_whole}
use Rattle.tcap_record.proofs.HeldLaws.{none_there}
use Rattle.tcap_record.proofs.frames.Frames.finish.Goals as goal

pub returns : goal.returns
returns c =
    let inside = c.self.inside in
    let sound : inside.fault ≡ None = none_there inside.fault c.in_default.not-Some in
    let is_part = (c.self.invariant.2 c.if-self.false sound).0 in
    let some = not_empty inside.octets.len c.is_empty.result c.is_empty.ensures c.if-is_empty.false in
    let len : c.len.result ≡ length inside.octets.items = omega (arith, c.len.ensures, inside.octets.ok.0) in
    rw (← c.self.view_is) (inr (
      sound,
      (λ e. absurd (omega (arith, some, len, c.len.ensures, ap length e))),
      (λ whole. part_not_whole inside.octets.items is_part whole),
      ap (λ (n : ℕ). feed_fault feed.CutRecord (inside.place + n)) len,
    ))
