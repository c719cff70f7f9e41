use Rattle.tcap_record.proofs.HeldLaws.{not_told}
use Rattle.tcap_record.proofs.frames.Frames.walk.Goals as goal

pub returns : goal.returns
returns c =
    let inside = c.self.inside in
    let remaining = not_told inside.whole inside.octets.items (λ returned. (c.self.invariant.1 returned).1) in
    rw (← c.self.view_is) (λ sound is_part. (c.self.invariant.2 (remaining is_part) sound).1)
