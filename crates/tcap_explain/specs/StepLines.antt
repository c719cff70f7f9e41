-- How is a run printed, with a line for each step (Q.774 3.2 and 3.3)? A run of one end does not follow the messages
-- that this end sends.
use Rattle.std.specs.Prelude.{ℕ, ℤ, suc, Bool, true, false, List, [], ◌∷◌, ◌++◌, Option, Some, None, cond, codes}
use Rattle.std.specs.Fmt.{decimal, signed_decimal}
use Rattle.hex.specs.Hex.{encode_lower}
use Rattle.tcap_msg.specs.declared.message.Message.{Message}
use Rattle.tcap_record.specs.declared.entry.End.{End as Side}
use Rattle.tcap_record.specs.Lines.{head_text, line_end}
use Rattle.tcap_end.specs.declared.fault.EndFault.{EndFault}
use Rattle.tcap_end.specs.declared.fault.EndFault.TheVariants as faults
use Rattle.tcap_end.specs.declared.half.HalfName.{HalfName}
use Rattle.tcap_end.specs.declared.half.HalfName.TheVariants as names
use Rattle.tcap_end.specs.Fault.{fault_number}
use Rattle.tcap_record.specs.Ends.{other}
use Rattle.tcap_model.specs.World.{is_side}
use Rattle.tcap_check.specs.declared.step.Step.{Step}
use Rattle.tcap_check.specs.declared.step.Step.TheVariants as steps
use Rattle.tcap_record.specs.Ends.{letter}

-- the label before the own ID of a half
unfoldable pub own_label : List ℕ
own_label = codes "the half with otid="

-- the label before the peer's ID of a half
unfoldable pub peer_label : List ℕ
peer_label = codes "the half with peer "

-- the line above a run
unfoldable pub run_label : List ℕ
run_label = codes "  one run that shows it:"

-- a half, by the ID in its name
abbrev pub half_text : HalfName → List ℕ
half_text (names.Own id) = own_label ++ encode_lower id
half_text (names.Peer id) = peer_label ++ encode_lower id

-- a half, in the line of an invocation
abbrev pub owner_text : HalfName → List ℕ
owner_text (names.Own id) = codes "otid=" ++ encode_lower id
owner_text (names.Peer id) = peer_label ++ encode_lower id

-- an end, its act, and the number of an entry
abbrev pub act_text : Side → List ℕ → ℕ → List ℕ
act_text side deed number = codes "  " ++ letter side ++ deed ++ decimal number

-- the line of a message that an end sends as entry `number`
abbrev pub sent_line : Side → List ℕ → ℕ → Message → List ℕ
sent_line side deed number message = act_text side deed number ++ codes " " ++ head_text message ++ line_end

-- why an end can't receive a message
abbrev pub discard_text : EndFault → List ℕ
discard_text faults.NoTransaction = codes "no half fits"
discard_text faults.IdUsed = codes "the ID is used"
discard_text faults.WrongDialogue = codes "the dialogue portion does not fit"
discard_text reason = codes "reason " ++ decimal (fault_number reason)

-- an invocation of an end; the half follows
unfoldable pub invocation_text : Side → ℤ → List ℕ
invocation_text side id = codes "  " ++ letter side ++ codes ": invocation " ++ signed_decimal id ++ codes " of "

-- the line of an invocation that expires (Q.774 3.2)
abbrev pub expiry_line : Side → HalfName → ℤ → List ℕ
expiry_line side name id = invocation_text side id ++ owner_text name ++ codes " ends unseen" ++ line_end

-- the line of a half that closes without a message (Q.774 3.3)
abbrev pub closing_line : Side → HalfName → List ℕ
closing_line side name = codes "  " ++ letter side ++ codes ": " ++ half_text name ++ codes " closes unseen" ++ line_end

-- the line of a provider's answer, which is entry `number`
abbrev pub reply_line : Side → ℕ → ℕ → List ℕ
reply_line side answered number =
    act_text side (codes "'s provider answers ") answered ++ codes " by " ++ decimal number ++ line_end

-- The line of a loss. In a run of one end, it names the end, and a message that this end sent has no line.
abbrev pub loss_line : Option Side → Side → ℕ → List ℕ
loss_line None sender number = codes "  " ++ decimal number ++ codes " is taken as lost" ++ line_end
loss_line (Some judged) sender number = cond (is_side judged sender) []
    (codes "  " ++ decimal number ++ codes " is taken as lost before " ++ letter judged ++ line_end)

-- the line of a message that an end can't receive
abbrev pub discard_line : Side → ℕ → EndFault → List ℕ
discard_line sender number reason =
    act_text (other sender) (codes " could not receive ") number ++ codes ": " ++ discard_text reason ++ line_end

-- the line of a step; `number` entries were sent before it
abbrev pub step_line : Option Side → ℕ → Step → List ℕ
step_line judged number (steps.Sends side message) = sent_line side (codes " sends ") number message
step_line judged number (steps.Tells side message) = sent_line side (codes " tells ") number message
step_line judged number (steps.Receives side received) = act_text side (codes " receives ") received ++ line_end
step_line judged number (steps.Replies side answered) = reply_line side answered number
step_line judged number (steps.Loses sender lost) = loss_line judged sender lost
step_line judged number (steps.Discards sender lost reason) = discard_line sender lost reason
step_line judged number (steps.Expires side name id) = expiry_line side name id
step_line judged number (steps.Closes side name) = closing_line side name
step_line judged number steps.Quiet = codes "  all is quiet" ++ line_end

-- whether a step sends an entry of the record
abbrev pub is_entry : Step → Bool
is_entry (steps.Sends side message) = true
is_entry (steps.Tells side message) = true
is_entry (steps.Replies side answered) = true
is_entry steps.Quiet = true
is_entry step = false

-- the number of entries sent after a step, from the number before it
abbrev pub after_step : ℕ → Step → ℕ
after_step number step = cond (is_entry step) (suc number) number

-- the lines of these steps; `number` entries were sent before the first step
abbrev pub lines_from : Option Side → ℕ → List Step → List ℕ
lines_from judged number [] = []
lines_from judged number (step ∷ more) = step_line judged number step ++ lines_from judged (after_step number step) more

-- the lines of a run of both ends or of the judged end, after their label
abbrev pub run_lines : Option Side → List Step → List ℕ
run_lines judged steps = run_label ++ line_end ++ lines_from judged 0 steps
