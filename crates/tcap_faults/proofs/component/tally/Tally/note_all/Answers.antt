use Rattle.std.proofs.Common.{[], ◌∷◌, ◌++◌, append_assoc}
use Rattle.tcap_parts.specs.Meaning.{component_of}
use Rattle.tcap_faults.proofs.component.tally.Tally.note_all.Goals as goal

pub loop-component-preserved : goal.loop-component-preserved
loop-component-preserved c = λ cs was.
    let (done, is, left) = c.loop-component.invariant cs was in (
      done ++ component_of c.in-Some.component ∷ [],
      c.in_ok-note.ensures done is,
      rw append_assoc (rw c.in-Some.ensures.steps at left),
    )
