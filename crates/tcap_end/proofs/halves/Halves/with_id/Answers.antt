use Rattle.std.proofs.Common.{is_some, sym, ap, ◌∙◌}
use Rattle.std.specs.Option.{option_copied}
use Rattle.tcap_end.specs.End.{named}
use Rattle.tcap_end.specs.HalfState.{kept_id}
use Rattle.tcap_end.specs.Halves.{end_of, index_of, keyed_half, name_in, other_slot}
use Rattle.tcap_end.proofs.FindLaws.{at_place, found_some, id_finds, id_parts, index_serves, is_its, led_found, led_on, nowhere}
use Rattle.tcap_end.proofs.halves.Halves.with_id.Goals as goal

pub returns-in-Some-clause-half : goal.returns-in-Some-clause-half
returns-in-Some-clause-half c =
    let s = c.args.self.now in let slot = c.args.slot in let id = c.args.id.octets.now in
    let sound = c.requires.sound in
    let told = rw c.to_transaction_id-key.ensures at c.in-Some.ensures in
    rw (told.0, told.1)
    (at_place (kept_id slot) s slot id (named (end_of s) (name_in slot id)) (id_finds slot (end_of s) id sound)
    (λ h had. is_its slot id h (sound.kept (keyed_half slot id h) had)) (found_some s slot id c.in-Some.found told))

pub returns-in_err-get-in-None-clause-half : goal.returns-in_err-get-in-None-clause-half
returns-in_err-get-in-None-clause-half c =
    let s = c.args.self.now in let slot = c.args.slot in let id = c.args.id.octets.now in
    let sound = c.requires.sound in
    rw c.from_residual.ensures
    (nowhere (kept_id slot) s slot (other_slot slot) id (named (end_of s) (name_in slot id)) (index_of (other_slot slot) s)
    (id_finds slot (end_of s) id sound) (index_serves slot s c.requires.held) (id_parts slot (end_of s) id sound)
    (ap is_some (rw c.to_transaction_id-key.ensures at c.in-None.ensures))
    (rw (c.to_transaction_id-key.ensures, c.indexed.ensures, c.other-other.ensures)
    at (sym c.get.ensures.value ∙ ap option_copied c.in_err-get-in-None.was)))

pub returns-in_ok-get-in-None-clause-half : goal.returns-in_ok-get-in-None-clause-half
returns-in_ok-get-in-None-clause-half c =
    let s = c.args.self.now in let slot = c.args.slot in let e = end_of s in let id = c.args.id.octets.now in
    let key = c.in_ok-get-in-None.field-0.now in
    let law = id_finds slot e id c.requires.sound in
    led_found (kept_id slot) s (other_slot slot) id key (named e (name_in slot id)) c.find-in-None.result law
    (led_on (kept_id slot) e (other_slot slot) id key (named e (name_in slot id)) (index_of (other_slot slot) s) law
    (index_serves slot s c.requires.held)
    (rw (c.to_transaction_id-key.ensures, c.indexed.ensures, c.other-other.ensures)
    at (sym c.get.ensures.value ∙ ap option_copied c.in_ok-get-in-None.was)))
    (rw c.other-other.ensures at c.find-in-None.ensures)
