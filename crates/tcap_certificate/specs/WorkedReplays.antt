-- Worked replays: the run that a certificate gives for a record, or why it gives none.
use Rattle.std.specs.Prelude.{◌≡◌, ℕ, pos, List, [], ◌∷◌, map, Some, None, Ok}
use Rattle.tcap_ber.specs.declared.fault.Fault.{Fault}
use Rattle.tcap_ber.specs.declared.fault.Reason.TheVariants as element
use Rattle.tcap_parts.specs.declared.code.Code.TheVariants.{Local}
use Rattle.tcap_parts.specs.declared.component.Component.TheVariants.{Invoke}
use Rattle.tcap_msg.specs.declared.message.Message.TheVariants.{Begin}
use Rattle.tcap_record.specs.declared.entry.Body.TheVariants.{Bad}
use Rattle.tcap_record.specs.declared.entry.End.{End as Side}
use Rattle.tcap_record.specs.declared.entry.End.TheVariants.{A, B}
use Rattle.tcap_record.specs.declared.entry.Entry.{Entry}
use Rattle.tcap_end.specs.Table.{Table}
use Rattle.tcap_model.specs.World.{Item, Sent}
use Rattle.tcap_model.specs.Run.{provider_abort}
use Rattle.tcap_certificate.specs.declared.certificate.Fate.{Fate}
use Rattle.tcap_certificate.specs.declared.certificate.Fate.TheVariants.{Gap, By}
use Rattle.tcap_certificate.specs.Certificate.{Certificate}
use Rattle.tcap_model.specs.WorkedItems.{answer, begin, end_to, id, invoke, rejects_result, result, table}
use Rattle.tcap_certificate.specs.WorkedRuns.{Worked, by_fates}
use Rattle.tcap_model.specs.declared.reason.Reason.{Reason}
use Rattle.tcap_model.specs.Entries.{entry_of}
use Rattle.tcap_certificate.specs.Replay.{moves_of, refused, replayed_by}

-- The certificate of a worked run gives this run.
abbrev pub IsReplayed : Table → Worked → Type 0
IsReplayed table w = replayed_by None table w.certificate (map entry_of w.items) ≡ Ok w.events

-- The certificate gives a run of this many steps.
abbrev pub Gives : Table → Certificate → List Item → ℕ → Type 0
Gives table certificate items moves = moves_of table certificate (map entry_of items) ≡ Ok moves

-- The certificate gives no run, for this reason at this entry.
abbrev pub Refuses : Table → Certificate → List Item → Reason → ℕ → Type 0
Refuses table certificate items reason entry =
    replayed_by None table certificate (map entry_of items) ≡ refused reason entry

-- A certificate with these fates refuses a record of this entry alone, for this reason.
abbrev pub RefusesEntry : List Fate → Entry → Reason → Type 0
RefusesEntry fates entry reason = replayed_by None table (by_fates fates) (entry ∷ []) ≡ refused reason 0

-- the certificate with one more expiry: of the invocation by this component of this entry, in this gap
abbrev pub expiring : ℕ → Side → ℕ → ℕ → Certificate → Certificate
expiring gap side entry component c =
    record c { expire = record { gap = gap; side = side; entry = entry; component = component } ∷ c.expire }

-- the certificate with one more closing: of the half that this entry names, in this gap
abbrev pub closing : ℕ → Side → ℕ → Certificate → Certificate
closing gap side entry c = record c { close = record { gap = gap; side = side; entry = entry } ∷ c.close }

-- Of two invocations one expires, and the result of the second is rejected.
abbrev pub two_invocations : List Item
two_invocations = Sent A (begin None (Some (Invoke (pos 2) None (Local (pos 45)) None ∷ invoke 45 ∷ [])))
    ∷ Sent B (answer None (Some (result ∷ []))) ∷ Sent A (end_to 2 (Some (rejects_result 0 ∷ []))) ∷ []

-- a certificate in which the invocation of this component expires
abbrev pub expires_one : ℕ → Certificate
expires_one component = expiring 2 A 0 component (by_fates (Gap 1 ∷ Gap 2 ∷ Gap 3 ∷ []))

-- an Invoke linked to an invocation of this operation
abbrev pub links_to : ℕ → List Item
links_to code = Sent A (begin None (Some (invoke code ∷ [])))
    ∷ Sent B (answer None (Some (Invoke (pos 5) (Some (pos 1)) (Local (pos 48)) None ∷ []))) ∷ []

-- three Begins of one end
abbrev pub three_begins : List Item
three_begins = Sent A (begin None None) ∷ Sent A (Begin (id 3) None None) ∷ Sent A (Begin (id 4) None None) ∷ []

-- an active half closes, which is lawful only with prearranged end
abbrev pub closed_internal : List Item
closed_internal = Sent A (begin None None) ∷ Sent B (answer None None) ∷ Sent B (answer None None)
    ∷ Sent A (provider_abort (id 2) 1) ∷ []

-- a certificate in which A's active half closes
abbrev pub closes_internal : Certificate
closes_internal = closing 3 A 0 (by_fates (Gap 1 ∷ Gap 2 ∷ By 3 ∷ Gap 4 ∷ []))

-- two Continues cross an End, and there is one Abort in answer
abbrev pub two_cross : List Item
two_cross = Sent A (begin None None) ∷ Sent B (answer None None) ∷ Sent A (end_to 2 None) ∷ Sent B (answer None None)
    ∷ Sent B (answer None None) ∷ Sent A (provider_abort (id 2) 1) ∷ []

-- a certificate with these fates of the two Continues
abbrev pub by_two : Fate → Fate → Certificate
by_two first second = by_fates (Gap 1 ∷ Gap 2 ∷ Gap 5 ∷ first ∷ second ∷ Gap 6 ∷ [])

-- a dialogue that ends, and a quiet mark
abbrev pub dialogue_and_mark : List Item
dialogue_and_mark = Sent A (begin None None) ∷ Sent B (answer None None) ∷ Sent A (end_to 2 None) ∷ Item.Quiet ∷ []

-- the fault of an entry that is no message
abbrev pub fault : Fault
fault = record { reason = element.EmptyComponents; place = 6 }

-- an entry that is no message
abbrev pub bad_entry : Entry
bad_entry = record { side = Some A; place = 1; body = Bad fault }
