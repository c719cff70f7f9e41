use mir.Syntax.{w8}
use Rattle.std.proofs.Common.{None, SFits, rules, sym, ap}
use Rattle.std.proofs.lemmas.Int.{to_z-of_z}
use Rattle.tcap_end.specs.declared.half_state.Change.TheVariants.{Out}
use Rattle.tcap_end.specs.HalfState.{half_of, kept_of}
use Rattle.tcap_end.proofs.BackLaws.{out_again}
use Rattle.tcap_end.proofs.NoteLaws.{out_noted}
use Rattle.tcap_end.proofs.ReceivingLaws.{got_none, got_place}
use Rattle.tcap_end.proofs.half_state.HalfState.receive_reject.Goals as goal

pub returns-then-is_none-clause-received : goal.returns-then-is_none-clause-received
returns-then-is_none-clause-received c =
    let id = c.in-Some-Invoke.id in
    let fits : SFits w8 id = search rules in
    rw (c.in-Some-Invoke.is-0, c.in-Some-Invoke.is-1)
    (ap (λ out. record (half_of c.args.self.now) { out = out })
    (sym (got_none id c.args.self.now.out c.get.result (rw (to_z-of_z w8 id fits) at c.get.ensures) c.if-is_none.ensures)))

pub put-was-requires : goal.put-was-requires
put-was-requires c =
    let id = c.in-Some-Invoke.id in
    let fits : SFits w8 id = search rules in
    let there = got_place id c.args.self.now.out c.get.result (rw (to_z-of_z w8 id fits) at c.get.ensures) c.if-is_none.ensures in
    record { made = rw (to_z-of_z w8 id fits) there }

pub note-requires : goal.note-requires
note-requires c =
    let id = c.in-Some-Invoke.id in
    let fits : SFits w8 id = search rules in
    let there = got_place id c.args.self.now.out c.get.result (rw (to_z-of_z w8 id fits) at c.get.ensures) c.if-is_none.ensures in
    record { can = rw (to_z-of_z w8 id fits) (c.put-was.ensures.others id there) }

pub returns-clause-undoes : goal.returns-clause-undoes
returns-clause-undoes c =
    let id = c.in-Some-Invoke.id in
    let out = c.args.self.now.out in
    let fits : SFits w8 id = search rules in
    let there = got_place id out c.get.result (rw (to_z-of_z w8 id fits) at c.get.ensures) c.if-is_none.ensures in
    out_noted c.note.result c.args.changes.now c.note.new.changes c.args.self.now c.note.new.self (Out id c.put-was.result)
    c.put-was.new.self
    (ap (λ outs. record (kept_of c.args.self.now) { out = outs })
    (rw (rw (to_z-of_z w8 id fits) at c.put-was.ensures.was, rw (to_z-of_z w8 id fits) at c.put-was.ensures.put) (out_again id None out)))
    c.put-was.ensures.others (c.put-was.ensures.others id there)
    (rw (to_z-of_z w8 id fits) at c.note.ensures.noted) (rw (to_z-of_z w8 id fits) at c.note.ensures.undone)
