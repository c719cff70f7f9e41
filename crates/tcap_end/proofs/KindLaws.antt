-- How the step of a sent Unidirectional is computed from its parts.
use Rattle.std.proofs.Common.{◌≡◌, true, false, [], Result, Ok, Err, refl}
use Rattle.tcap_msg.specs.declared.kind.Kind.TheVariants as kinds
use Rattle.tcap_msg.specs.declared.message.Message.{Message}
use Rattle.tcap_msg.specs.declared.message.Message.TheVariants.{Unidirectional, Begin, Continue, End, Abort}
use Rattle.tcap_msg.specs.Parts.{components_in, dialogue_in, kind_in}
use Rattle.tcap_end.specs.declared.fault.EndFault.{EndFault}
use Rattle.tcap_end.specs.declared.fault.EndFault.TheVariants as faults
use Rattle.tcap_end.specs.Step.{AnswersInMemory}
use Rattle.tcap_end.specs.Table.{Table}
use Rattle.tcap_end.specs.End.{End as Ends}
use Rattle.tcap_end.specs.Dialogue.{may_be_uni}
use Rattle.tcap_end.specs.Message.{send, send_uni, send_uni_components}

by_components : (table : Table) (e : Ends) (m : Message) → kind_in m ≡ kinds.Unidirectional
    → send table e m ≡ send_uni table e (dialogue_in m) (components_in m)
by_components table e (Unidirectional dialogue components) kind = refl
by_components table e (Begin id dialogue components) kind = cc
by_components table e (Continue id to dialogue components) kind = cc
by_components table e (End to dialogue components) kind = cc
by_components table e (Abort to reason) kind = cc

module _ (table : Table) (e : Ends) (m : Message) (kind : kind_in m ≡ kinds.Unidirectional) where
  -- The Unidirectional may not carry its dialogue portion.
  pub uni_wrong : may_be_uni (dialogue_in m) ≡ false → send table e m ≡ Err faults.WrongDialogue
  uni_wrong not = rw (by_components table e m kind, not) refl

  -- The step's result is that of its components, for any end.
  pub uni_sent : (result : Result (Unit {0}) EndFault) → may_be_uni (dialogue_in m) ≡ true
      → AnswersInMemory (send_uni_components table [] (components_in m)) result tt → AnswersInMemory (send table e m) result e
  uni_sent (Ok _) may step = rw (by_components table e m kind, may, step) refl
  uni_sent (Err reason) may step = λ other. rw (by_components table e m kind, may, step other) refl
