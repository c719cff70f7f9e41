use Rattle.std.proofs.Common.{◌≡◌, cond, not, ◌&&◌, option_copied, refl}
use Rattle.tcap_faults.specs.declared.dialogue.half_origin.HalfOrigin.TheVariants.{Begun, Unanswered}
use Rattle.tcap_faults.proofs.dialogue_laws.HalfLookupLaws.{is_begun}
use Rattle.tcap_faults.proofs.transaction.lookup.PeerId.begun_half.Goals as goal
use Rattle.tcap_faults.proofs.transaction.lookup.PeerId.begun_half.Goals.{then-begin+then-not-came, else-begin, else-begin-via-then-begin+else-not-came, else-begin-via-else-begin}

pub returns : goal.returns
returns c = λ table side items is begins came.
    is_begun table side c.args.self.id.now items _ c.args.own c.args.begin.now c.args.came.now (option_copied c.args.self.to)
    begins came is.to origin refl refl c.in_ok-incoming_back.ensures
    c.in_ok-outgoing_after.ensures c.in_ok-outgoing_after-2.ensures
  where
    origin : c.if-begin.origin ≡ cond (c.args.begin.now.requests && not c.args.came.now.answered) Unanswered Begun
    origin = elim c.if-begin.branch [
      | then-begin+then-not-came w ↦ rw (w.if-begin.true, w.if-not-came.true) w.origin-is
      | else-begin w ↦ elim w.else-begin.branch [
        | else-begin-via-then-begin+else-not-came v ↦ rw (v.if-begin.true, v.if-not-came.false) w.origin-is
        | else-begin-via-else-begin v ↦ rw v.if-begin.false w.origin-is
      ]
    ]
