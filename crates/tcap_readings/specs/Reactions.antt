-- How may an end react to a malformed message of its peer (Q.774 3.2.1, 3.2.2.2, 3.3.4)? Each definition is about the
-- entries of one dialogue. A later entry is a message of the end that comes after the malformed one, and goes to the
-- originating ID of that one.
use Rattle.std.specs.Prelude.{ℕ, ℤ, suc, Bool, true, false, cond, ◌&&◌, ◌||◌, ◌==◌, not, nat_le, List, drop, take, slice_get, Option, Some, None, is_none, is_some}
use Rattle.std.specs.Option.{option_or}
use Rattle.std.specs.List.{count_by, list_any, position_from}
use Rattle.tcap_parts.specs.declared.component.Component.{Component}
use Rattle.tcap_parts.specs.declared.component.Component.TheVariants.{Reject}
use Rattle.tcap_parts.specs.declared.problem.Problem.TheVariants.{General}
use Rattle.tcap_parts.specs.declared.dialogue.Dialogue.{Dialogue}
use Rattle.tcap_parts.specs.declared.dialogue.Dialogue.TheVariants as pdus
use Rattle.tcap_msg.specs.declared.kind.Kind.{Kind}
use Rattle.tcap_msg.specs.declared.kind.Kind.TheVariants as kinds
use Rattle.tcap_msg.specs.declared.message.Message.{Message}
use Rattle.tcap_msg.specs.Parts.{cause_in, components_in, dialogue_in, dtid_in, otid_in}
use Rattle.tcap_record.specs.declared.entry.End.{End as Side}
use Rattle.tcap_record.specs.declared.entry.Body.{Body}
use Rattle.tcap_record.specs.declared.entry.Body.TheVariants.{Good}
use Rattle.tcap_record.specs.declared.entry.Entry.{Entry}
use Rattle.tcap_record.specs.Ends.{is_side, other}
use Rattle.tcap_end.specs.End.{is_id}
use Rattle.tcap_refute.specs.EarlierMessages.{is_a, is_invoke_id}
use Rattle.tcap_dialogues.specs.declared.malformed.SoundPart.{SoundPart}
use Rattle.tcap_readings.specs.declared.malformed.Malformed.{Malformed}
use Rattle.tcap_readings.specs.declared.reactions.Reaction.{Reaction}
use Rattle.tcap_readings.specs.declared.reactions.Reaction.TheVariants as reactions
use Rattle.tcap_readings.specs.declared.way.Way.{Way}
use Rattle.tcap_readings.specs.declared.way.Way.TheVariants as ways
use Rattle.tcap_readings.specs.Malformed.{is_malformed_of}

-- the message of an entry, if this end sent it
abbrev pub message_in : Side → Entry → Option Message
message_in side entry = by entry.side entry.body
  where
    by : Option Side → Body → Option Message
    by (Some sender) (Good m) = cond (is_side side sender) (Some m) None
    by sender body = None

-- whether there is a message, and it passes a test
abbrev pub is_some_that : (Message → Bool) → Option Message → Bool
is_some_that test None = false
is_some_that test (Some m) = test m

-- whether an entry is a message of this end that passes a test
abbrev pub is_message : Side → (Message → Bool) → Entry → Bool
is_message side test entry = is_some_that test (message_in side entry)

-- whether there is an ID, and it is the other one
abbrev pub is_same_id : Option (List ℕ) → Option (List ℕ) → Bool
is_same_id None other = false
is_same_id (Some id) other = is_id id other

-- ---- Aborts

-- whether it has this P-Abort cause
abbrev pub has_cause : ℕ → Message → Bool
has_cause number x = by (cause_in x)
  where
    by : Option ℕ → Bool
    by (Some cause) = cause == number
    by None = false

-- Whether its cause says that a message of this kind was malformed. Cause 2: its transaction portion is badly
-- formatted. Cause 3: it is incorrect. Cause 0: its kind is unknown.
abbrev pub reports_malformed : Option Kind → Message → Bool
reports_malformed kind x = has_cause 2 x || has_cause 3 x || (is_none kind && has_cause 0 x)

-- whether it is an Abort by the dialogue service provider: it has an ABRT of source 1
abbrev pub is_provider_abrt : Message → Bool
is_provider_abrt x = is_a kinds.Abort x && by (dialogue_in x)
  where
    by : Option Dialogue → Bool
    by (Some (pdus.Abort source info)) = source == 1
    by dialogue = false

-- ---- Rejects

-- whether these are the same invoke ID
abbrev pub is_same_invoke_id : ℤ → Option ℤ → Bool
is_same_invoke_id id None = false
is_same_invoke_id id (Some other) = is_invoke_id id other

-- Whether a component rejects one that could not be read, with this invoke ID if that could be read: a Reject with a
-- general problem 0, 1 or 2.
abbrev pub is_fitting : Option ℤ → Component → Bool
is_fitting at (Reject None (General problem)) = nat_le problem 2
is_fitting at (Reject (Some id) (General problem)) = nat_le problem 2 && is_same_invoke_id id at
is_fitting at c = false

-- whether a message has such a Reject
abbrev pub rejects : Option ℤ → Message → Bool
rejects at x = list_any (is_fitting at) (components_in x)

-- the cause by which a message of this kind is refused: 4 for a Begin, 1 for a Continue
abbrev pub refuses : Option Kind → Message → Bool
refuses (Some kinds.Begin) x = has_cause 4 x
refuses (Some kinds.Continue) x = has_cause 1 x
refuses kind x = false

-- ---- later entries

-- the invoke ID of the component at fault, if it can be read
abbrev pub faulty_id : Option SoundPart → Option ℤ
faulty_id None = None
faulty_id (Some s) = s.invoke_id

-- whether a message is this reaction to `m`
abbrev pub is_reaction : Reaction → Malformed → Message → Bool
is_reaction reactions.Report m x = reports_malformed m.kind x
is_reaction reactions.ProviderAbrt m x = is_provider_abrt x
is_reaction reactions.Reject m x = rejects (faulty_id m.sound) x
is_reaction reactions.Refusal m x = refuses m.kind x
is_reaction reactions.GoingOn m x = is_none (cause_in x)

-- whether an entry is this reaction to `m`: the end sends it to the originating ID of `m`
abbrev pub reacts : Reaction → Malformed → Entry → Bool
reacts reaction m entry =
    is_message (other m.sender) (λ x. is_same_id m.otid (dtid_in x) && is_reaction reaction m x) entry

-- the number of the first entry with this reaction after this number
abbrev pub next : Reaction → Malformed → ℕ → List Entry → Option ℕ
next reaction m after entries = position_from (reacts reaction m) (suc after) (drop (suc after) entries)

-- the number of the first entry after `m` with this reaction
abbrev pub later : Reaction → Malformed → List Entry → Option ℕ
later reaction m entries = next reaction m m.number entries

-- The number of the answer: the first later Abort that says by its cause that the message was malformed; only if there
-- is none, the first with an ABRT of source 1, which may also answer an earlier message.
abbrev pub answer : Malformed → List Entry → Option ℕ
answer m entries = option_or (later reactions.Report m entries) (later reactions.ProviderAbrt m entries)

-- the number of the first entry after the answer by which the end goes on: it is no Abort of the provider
abbrev pub goes_on_at : Malformed → ℕ → List Entry → Option ℕ
goes_on_at m at entries = next reactions.GoingOn m at entries

-- whether Q.774 names such an answer for `m`
abbrev pub is_named : Malformed → Message → Bool
is_named m x = is_none m.sound && by m.kind
  where
    by : Option Kind → Bool
    by None = has_cause 0 x
    by (Some kinds.End) = false
    by (Some kinds.Abort) = false
    by (Some kind) = has_cause 2 x || has_cause 3 x || (m.has_dialogue && is_provider_abrt x)

-- whether an entry is an answer that Q.774 names for `m`
abbrev pub is_named_answer : Malformed → Option Entry → Bool
is_named_answer m None = false
is_named_answer m (Some entry) = is_message (other m.sender) (is_named m) entry

-- whether it is in doubt that the entry is an answer to `m`: Q.774 names no such answer, or the end goes on after it
abbrev pub is_doubtful : Malformed → ℕ → List Entry → Bool
is_doubtful m at entries = not (is_named_answer m (slice_get entries at)) || is_some (goes_on_at m at entries)

-- whether it is in doubt that there is an answer
abbrev pub has_doubtful_answer : Malformed → List Entry → Bool
has_doubtful_answer m entries = by (answer m entries)
  where
    by : Option ℕ → Bool
    by None = false
    by (Some at) = is_doubtful m at entries

-- whether it is in doubt that the end took `m` in this way: it answers with an Abort, and this is doubtful
abbrev pub is_in_doubt : Way → Malformed → List Entry → Bool
is_in_doubt ways.Aborted m entries = has_doubtful_answer m entries
is_in_doubt way m entries = false

-- ---- whether the transaction of `m` is known

-- whether it is a message from this originating ID
abbrev pub is_from : Option (List ℕ) → Message → Bool
is_from id x = is_same_id id (otid_in x)

-- whether it is a Continue from one of these two IDs to the other, or has neither as this
abbrev pub has_both_or_none : Option (List ℕ) → Option (List ℕ) → Message → Bool
has_both_or_none own peer x =
    not (is_a kinds.Continue x) || same (is_same_id own (otid_in x)) (is_same_id peer (dtid_in x))
  where
    same : Bool → Bool → Bool
    same true b = b
    same false b = not b

-- whether an entry is a Continue that has one of the two IDs of `m` without the other
abbrev pub parts_ids : Malformed → Entry → Bool
parts_ids m entry =
    is_message m.sender (λ x. not (has_both_or_none m.otid m.dtid x)) entry
    || is_message (other m.sender) (λ x. not (has_both_or_none m.dtid m.otid x)) entry

-- whether it is a Begin from this originating ID
abbrev pub is_begin_from : Option (List ℕ) → Message → Bool
is_begin_from id x = is_a kinds.Begin x && is_from id x

-- whether an entry is a Begin from one of the two IDs of `m`
abbrev pub begins_from : Malformed → Entry → Bool
begins_from m entry =
    is_message m.sender (is_begin_from m.otid) entry || is_message (other m.sender) (is_begin_from m.dtid) entry

-- Whether the end knows of one transaction alone that `m` can belong to. If `m` is a Begin: the peer sent no message
-- from its ID. If it is a Continue: the end sent from its destination ID before; no Continue has one of the two IDs
-- without the other; and one Begin has one of them as its originating ID.
abbrev pub is_sole : Malformed → List Entry → Bool
is_sole m entries = m.in_place && by m.kind
  where
    by : Option Kind → Bool
    by (Some kinds.Begin) = not (list_any (is_message m.sender (is_from m.otid)) entries)
    by (Some kinds.Continue) =
        list_any (is_message (other m.sender) (is_from m.dtid)) (take m.number entries)
        && not (list_any (parts_ids m) entries) && count_by (begins_from m) entries == 1
    by kind = false

-- ---- whether a reaction is wrong, no matter how `m` was taken

-- whether `m` is a Begin or Continue with its IDs in place
abbrev pub opens : Malformed → Bool
opens m = m.in_place && by m.kind
  where
    by : Option Kind → Bool
    by (Some kinds.Begin) = true
    by (Some kinds.Continue) = true
    by kind = false

-- whether `m` is a Continue or of no known kind
abbrev pub may_continue : Option Kind → Bool
may_continue None = true
may_continue (Some kinds.Continue) = true
may_continue kind = false

-- whether a message has the destination ID of `m`, as the ID of the end, and this ID of the peer
abbrev pub joins : Malformed → Option (List ℕ) → Entry → Bool
joins m id entry =
    is_message (other m.sender) (λ x. is_same_id m.dtid (otid_in x) && is_same_id id (dtid_in x)) entry
    || is_message m.sender (λ x. is_same_id id (otid_in x) && is_same_id m.dtid (dtid_in x)) entry

-- Whether an Abort with this destination ID may answer `m`. An Abort with cause 1 or 4 may refuse its transaction if `m`
-- is no Begin or Continue with its IDs in place. An Abort to another ID than that of `m` may report it if the end knew
-- that ID as the one of its peer.
abbrev pub may_answer : Malformed → List Entry → Message → Bool
may_answer m earlier x =
    ((has_cause 1 x || has_cause 4 x) && is_same_id m.otid (dtid_in x) && not (opens m))
    || (reports_malformed m.kind x && not (is_same_id m.otid (dtid_in x)) && may_continue m.kind
    && list_any (joins m (dtid_in x)) earlier)

-- whether an entry is malformed and of the end, or is an Abort of the provider that does not answer `m`
abbrev pub is_wrong : Malformed → List Entry → Entry → Bool
is_wrong m earlier entry =
    is_malformed_of (other m.sender) entry
    || is_message (other m.sender) (λ x. is_some (cause_in x) && not (may_answer m earlier x)) entry

-- whether the entry with this number is wrong, no matter how `m` was taken
abbrev pub is_wrong_at : Malformed → ℕ → List Entry → Bool
is_wrong_at m number entries = by (slice_get entries number)
  where
    by : Option Entry → Bool
    by None = false
    by (Some entry) = is_wrong m (take number entries) entry
