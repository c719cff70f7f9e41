use Rattle.std.proofs.Common.{None, refl}
use Rattle.tcap_dialogues.proofs.HeldLaws.{no_name, no_number_out, number_out, out_none, out_one}
use Rattle.tcap_dialogues.proofs.cut.Cut.take_out.Goals as goal
use Rattle.tcap_dialogues.proofs.cut.Cut.take_out.Goals.{in-Some, in_default}

pub returns-in_err-name : goal.returns-in_err-name
returns-in_err-name c = λ live names apart are ends.
    rw (c.in_err-name.was, c.from_residual.ensures)
    (out_none live names c.args.self.now c.args.self.now apart are ends refl None (λ d has. refl) refl refl)

pub returns-in_err-live : goal.returns-in_err-live
returns-in_err-live c = λ live names apart are ends.
    let self = c.args.self.now in
    rw (c.in_ok-name.was, c.from_residual-in_err-live.ensures)
    (out_none live names self (record self { live = c.remove.new.self }) apart are ends refl _
    (no_name live names self.live self.overs apart are ends c.in_ok-name.field-0 c.in_err-live.ensures.value)
    c.in_err-live.ensures.unchanged refl)

pub returns : goal.returns
returns c = λ live names apart are ends.
    let self = c.args.self.now in
    let number = c.in_ok-name.field-0 in
    let l = c.in_ok-live.live in
    elim c.match-live.branch [
      | in-Some w ↦ rw (c.in_ok-name.was, w.self-is)
          (out_one live names self (record self { live = c.remove.new.self; overs = w.remove-in-Some.new.self }) apart are ends refl
          number l c.in_ok-live.ensures.value c.in_ok-live.ensures.updates.0
          (number_out l w.in-Some.number self.overs w.remove-in-Some.new.self w.in-Some.is w.remove-in-Some.ensures.updates.0))
      | in_default w ↦ rw (c.in_ok-name.was, w.self-is)
          (out_one live names self (record self { live = c.remove.new.self }) apart are ends refl
          number l c.in_ok-live.ensures.value c.in_ok-live.ensures.updates.0 (no_number_out l self.overs w.in_default.is))
    ]
