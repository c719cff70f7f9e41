use Rattle.std.proofs.Common.{◌≡◌, Some, Result, Ok, Err, refl, sym, ap, subst, ◌∙◌}
use Rattle.std.specs.BTreeMap.{insert_entry}
use Rattle.slab.specs.Slab.{get}
use Rattle.tcap_parts.specs.Meaning.{components_left}
use Rattle.tcap_end.specs.declared.fault.EndFault.{EndFault}
use Rattle.tcap_end.specs.declared.half.Slot.{Slot}
use Rattle.tcap_end.specs.declared.halves.Halves.{Halves}
use Rattle.tcap_end.specs.declared.halves.Place.TheVariants.{Open}
use Rattle.tcap_end.specs.Table.{octets_cmp}
use Rattle.tcap_end.specs.Half.{Half}
use Rattle.tcap_end.specs.Step.{AnswersInMemory}
use Rattle.tcap_end.specs.HalfState.{half_of, other_id}
use Rattle.tcap_end.specs.Message.{active_half}
use Rattle.tcap_end.specs.ComponentSteps.{components_by, direction_of}
use Rattle.tcap_end.specs.Halves.{AllPlaced, AnswersOver, IsAt, end_of, index_of}
use Rattle.tcap_end.proofs.HalfLaws.{Follows, follows_self}
use Rattle.tcap_end.proofs.ChangeLaws.{answers_on, going_on, held_on, kept_on}
use Rattle.tcap_end.proofs.AllPlacedLaws.{placed_on}
use Rattle.tcap_end.proofs.AnswerLaws.{Reindexed, over_index, at_before, held_gains, held_too, not_led, placed_too, reindexed, reindexed_on, reindexed_then, same_end, serves_of, slot_of, steps_follow, taken_out, under_before}
use Rattle.tcap_end.proofs.FindLaws.{still_numbered}
use Rattle.tcap_end.proofs.halves.Halves.activate_over.Goals as goal
use Rattle.tcap_end.proofs.halves.Halves.activate_over.Goals.{After-activate, After-remove_index, In-Ok}

pub returns-in_err-put_index-clause-held : goal.returns-in_err-put_index-clause-held
returns-in_err-put_index-clause-held c =
    held_too (reindexed c.args.self.now c.put_index.new.self c.args.found.now.slot (index_of c.args.found.now.slot c.args.self.now)
    c.in_err-put_index.ensures.kept c.put_index.ensures.by_own c.put_index.ensures.by_peer c.put_index.ensures.others)
    c.requires.held refl

-- ---- after the index has its new entry

with_entry : (c : After-activate)
    → Reindexed c.args.found.now.slot
    (insert_entry octets_cmp (index_of c.args.found.now.slot c.args.self.now) c.args.id c.args.found.now.key)
    c.args.self.now c.put_index.new.self
with_entry c =
    reindexed c.args.self.now c.put_index.new.self c.args.found.now.slot
    (insert_entry octets_cmp (index_of c.args.found.now.slot c.args.self.now) c.args.id c.args.found.now.key)
    (rw (c.to_transaction_id-index.ensures, c.view.ensures, c.to_transaction_id-key.ensures, c.view-2.ensures)
    at c.in_ok-put_index.ensures.put)
    c.put_index.ensures.by_own c.put_index.ensures.by_peer c.put_index.ensures.others

is_there : (c : After-activate) → IsAt c.args.found.now.slot c.args.found.now.key (Open c.number-number.result) c.args.self.now
is_there c =
    at_before (with_entry c) c.args.found.now.slot c.args.found.now.key (Open c.number-number.result) c.number-number.ensures

is_under : (c : After-activate) → get c.args.self.now.slab c.number-number.result ≡ Some c.in-Some.half.now
is_under c = under_before (with_entry c) c.number-number.result c.in-Some.half.now (sym c.in-Some.ensures.value)

-- the half after the step
abbrev made : After-activate → Half → Result Half EndFault
made c h =
    components_by (direction_of c.args.found.now.slot) c.args.table.now (active_half c.args.found.now.slot c.args.id h)
    (components_left c.args.components)

-- the step, in the slot that was found
step : (c : After-activate) (r : Result (Unit {0}) EndFault)
    → AnswersInMemory (components_by (direction_of c.in-Some.half.now.slot) c.args.table.now
    (active_half c.in-Some.half.now.slot c.args.id (half_of c.in-Some.half.now)) (components_left c.args.components))
    r (half_of c.activate.new.self)
    → AnswersInMemory (made c (half_of c.in-Some.half.now)) r (half_of c.activate.new.self)
step c r =
    subst (λ (slot : Slot). AnswersInMemory (components_by (direction_of slot) c.args.table.now
    (active_half slot c.args.id (half_of c.in-Some.half.now)) (components_left c.args.components)) r (half_of c.activate.new.self))
    (slot_of c.args.self.now c.args.found.now.slot c.args.found.now.key c.number-number.result c.in-Some.half.now
    c.requires.held (is_there c) (is_under c))

-- the halves after the step
abbrev on : After-activate → Halves
on c = going_on c.args.self.now c.number-number.result c.activate.new.self

answers : (c : After-activate) (r : Result (Unit {0}) EndFault)
    → AnswersInMemory (made c (half_of c.in-Some.half.now)) r (half_of c.activate.new.self)
    → AnswersOver c.args.found.now.slot c.args.found.now.key (made c) r c.args.self.now (on c)
answers c r =
    answers_on c.args.self.now c.args.found.now.slot c.args.found.now.key c.number-number.result c.in-Some.half.now
    c.requires.held (is_there c) (is_under c) c.activate.new.self (made c) r

placed : (c : After-activate) → AllPlaced c.args.self.now → AllPlaced (on c)
placed c =
    placed_on c.args.self.now c.number-number.result c.in-Some.half.now c.activate.new.self (is_under c) c.activate.ensures.slot

-- ---- the step was Ok, and the half is active

with_entry_on : (c : After-activate)
    → Reindexed c.args.found.now.slot
    (insert_entry octets_cmp (index_of c.args.found.now.slot c.args.self.now) c.args.id c.args.found.now.key)
    (on c) (going_on c.put_index.new.self c.number-number.result c.activate.new.self)
with_entry_on c = reindexed_on (with_entry c) c.number-number.result c.activate.new.self

abbrev at_ok : In-Ok → After-activate
at_ok c = c.before.before

pub returns-in-Ok-clause-step : goal.returns-in-Ok-clause-step
returns-in-Ok-clause-step c h had =
    answers (at_ok c) (Ok tt) (step (at_ok c) (Ok tt) c.in-Ok.ensures.step) h had ∙ ap Ok (sym (same_end (with_entry_on (at_ok c))))

pub returns-in-Ok-clause-held : goal.returns-in-Ok-clause-held
returns-in-Ok-clause-held c =
    held_gains c.args.self.now _ c.args.found.now.slot c.args.found.now.key c.args.id c.number-number.result c.in-Some.half.now
    c.activate.new.self c.requires.held (is_there (at_ok c)) (is_under (at_ok c)) c.activate.ensures.slot
    (steps_follow (direction_of c.args.found.now.slot) c.args.table.now (components_left c.args.components)
    (active_half c.args.found.now.slot c.args.id (half_of c.in-Some.half.now)) (half_of c.activate.new.self)
    (step (at_ok c) (Ok tt) c.in-Ok.ensures.step))
    (with_entry_on (at_ok c)) c.requires.unknown c.requires.unused

pub returns-in-Ok-clause-placed : goal.returns-in-Ok-clause-placed
returns-in-Ok-clause-placed c all = placed_too (with_entry_on (at_ok c)) (placed (at_ok c) all)

-- ---- the step was refused, and the entry is removed

abbrev at_err : After-remove_index → After-activate
at_err c = c.before.before.before.before.before.before

without_entry : (c : After-remove_index)
    → Reindexed c.args.found.now.slot (index_of c.args.found.now.slot c.args.self.now) (on (at_err c)) c.remove_index.new.self
without_entry c =
    let was = with_entry_on (at_err c) in
    let slot = c.args.found.now.slot in
    reindexed_then was
    (reindexed (going_on c.put_index.new.self c.number-number.result c.activate.new.self) c.remove_index.new.self slot
    (index_of slot c.args.self.now)
    (rw (c.to_transaction_id-index-2.ensures, c.view-3.ensures, was.here) at c.remove_index.ensures.removed
    ∙ taken_out c.args.id c.args.found.now.key (index_of slot c.args.self.now)
    (not_led (λ h. other_id slot h) (index_of slot c.args.self.now) (end_of c.args.self.now) slot c.args.id
    c.requires.unused (serves_of c.args.self.now slot c.requires.held)))
    c.remove_index.ensures.by_own c.remove_index.ensures.by_peer c.remove_index.ensures.others)

pub returns-in-Err-clause-step : goal.returns-in-Err-clause-step
returns-in-Err-clause-step c = answers (at_err c) (Err c.in-Err.fault) (step (at_err c) (Err c.in-Err.fault) c.in-Err.ensures.step)

pub returns-in-Err-clause-kept : goal.returns-in-Err-clause-kept
returns-in-Err-clause-kept c =
    same_end (without_entry c)
    ∙ kept_on c.args.self.now c.args.found.now.slot c.args.found.now.key c.number-number.result c.in-Some.half.now
    c.requires.held (is_there (at_err c)) (is_under (at_err c)) c.activate.new.self c.in-Err.ensures.kept

pub returns-in-Err-clause-held : goal.returns-in-Err-clause-held
returns-in-Err-clause-held c =
    let half = half_of c.in-Some.half.now in
    held_too (without_entry c)
    (held_on c.args.self.now c.args.found.now.slot c.args.found.now.key c.number-number.result c.in-Some.half.now
    c.requires.held (is_there (at_err c)) (is_under (at_err c)) c.activate.new.self c.activate.ensures.slot
    (subst (λ (x : Half). Follows half x) (sym c.in-Err.ensures.kept) (follows_self half)))
    (sym (over_index c.args.self.now _ c.args.found.now.slot))

pub returns-in-Err-clause-placed : goal.returns-in-Err-clause-placed
returns-in-Err-clause-placed c all = placed_too (without_entry c) (placed (at_err c) all)

pub number-number-requires-clause-found : goal.number-number-requires-clause-found
number-number-requires-clause-found c =
    let others = c.in_ok-put_index.ensures.others in
    still_numbered c.args.self.now c.put_index.new.self c.args.found.now others.1 others.2 c.requires.found
