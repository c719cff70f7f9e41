use Rattle.std.proofs.Common.{refl}
use Rattle.tcap_dialogues.proofs.LiveLaws.{absorbed, drained}
use Rattle.tcap_dialogues.proofs.live.LiveDialogue.absorb.Goals as goal

pub returns : goal.returns
returns c = λ ds es kept other.
    let one = c.in_ok-extend.ensures.ran in
    let two = c.in_ok-extend-2.ensures.ran in
    let three = c.in_ok-extend-3.ensures.ran in
    let numbers = drained c.args.other.numbers.keys one.1 one.0 one.4.1.0 one.2.0 one.4.1.1 one.4.1.2.0 in
    let a = drained c.args.other.a.keys two.1 two.0 two.4.1.0 two.2.0 two.4.1.1 two.4.1.2.0 in
    let b = drained c.args.other.b.keys three.1 three.0 three.4.1.0 three.2.0 three.4.1.1 three.4.1.2.0 in (
      absorbed ds es c.args.self.now c.args.other c.extend.new.self c.extend-2.new.self c.extend-3.new.self c.lower-self.result c.higher-self.result
          kept other (rw numbers at one.3.0) (rw a at two.3.0) (rw b at three.3.0) c.lower-self.ensures c.higher-self.ensures,
      refl,
    )
