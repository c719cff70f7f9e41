-- How the step of a Begin that is sent or received is computed.
use Rattle.std.proofs.Common.{◌≡◌, List, ℕ, true, false, Option, None, Ok, Err, is_none, refl}
use Rattle.tcap_parts.specs.declared.component.Component.{Component}
use Rattle.tcap_parts.specs.declared.dialogue.Dialogue.{Dialogue}
use Rattle.tcap_end.specs.declared.fault.EndFault.TheVariants as faults
use Rattle.tcap_end.specs.declared.half.Slot.{Slot}
use Rattle.tcap_end.specs.declared.half.Slot.TheVariants.{Begun, Accepted}
use Rattle.tcap_end.specs.Step.{◌>>=◌}
use Rattle.tcap_end.specs.Table.{Table}
use Rattle.tcap_end.specs.Begins.{begin, fresh_in, may_begin_in}
use Rattle.tcap_end.specs.Dialogue.{first_dialogue_state}
use Rattle.tcap_end.specs.End.{End, named, put}
use Rattle.tcap_end.specs.Half.{Half}
use Rattle.tcap_end.specs.Halves.{name_in, other_slot}
use Rattle.tcap_end.specs.ComponentSteps.{components_by, direction_of}
use Rattle.tcap_end.proofs.WayLaws.{receives_in, sends_out}

module _ (table : Table) (e : End) (otid : List ℕ) (dialogue : Option Dialogue) (components : List Component) where
  -- A half has the Begin's ID.
  pub is_used : (slot : Slot) → is_none (named e (name_in slot otid)) ≡ false
      → begin slot table e otid dialogue components ≡ Err faults.IdUsed
  is_used Begun used = rw used refl
  is_used Accepted used = rw used refl

  -- No half has it, and the Begin may not carry the dialogue portion.
  pub carries_wrong : (slot : Slot) → named e (name_in slot otid) ≡ None → may_begin_in slot dialogue ≡ false
      → begin slot table e otid dialogue components ≡ Err faults.WrongDialogue
  carries_wrong Begun none wrong = rw (none, wrong) refl
  carries_wrong Accepted none wrong = cc

  -- No half has it, and the Begin may carry the portion.
  pub begins : {half : Half} (slot : Slot) → named e (name_in slot otid) ≡ None → may_begin_in slot dialogue ≡ true
      → half ≡ fresh_in slot otid (first_dialogue_state dialogue) → begin slot table e otid dialogue components
      ≡ (components_by (direction_of (other_slot slot)) table half components >>= λ g. Ok (put e slot otid g))
  begins {half} Begun none may same = rw (sends_out table half components, same, none, may) refl
  begins {half} Accepted none may same = rw (receives_in table half components, same, none) refl
