-- Which facts about earlier messages decide the kinds F2 to F7? A fact holds for a message or does not. For each end
-- it is kept whether a fact holds for one of its messages since the last quiet mark.
use Rattle.std.specs.Prelude.{ℤ, ℕ, Bool, true, false, List, Option, Some, None, ◌&&◌, ◌||◌, not}
use Rattle.std.specs.List.{list_any}
use Rattle.tcap_parts.specs.declared.code.Code.{Code}
use Rattle.tcap_parts.specs.declared.component.Component.{Component}
use Rattle.tcap_parts.specs.declared.component.Component.TheVariants.{Invoke, ReturnResult, ReturnError, Reject}
use Rattle.tcap_msg.specs.declared.kind.Kind.TheVariants as forms
use Rattle.tcap_msg.specs.declared.message.Message.{Message}
use Rattle.tcap_msg.specs.Parts.{components_in, dialogue_in, dtid_in, otid_in}
use Rattle.tcap_record.specs.declared.entry.End.{End as Side}
use Rattle.tcap_end.specs.Dialogue.{is_request}
use Rattle.tcap_end.specs.End.{is_id}
use Rattle.tcap_end.specs.Table.{Table}
use Rattle.tcap_model.specs.World.{Item}
use Rattle.tcap_model.specs.SinceMark.{ended_by}
use Rattle.tcap_refute.specs.EarlierMessages.{answers, invokes, is_a, sent_by, since_quiet}
use Rattle.tcap_refute.specs.Kind.{may_be_answered}

-- ---- facts about an invoke ID, in the messages from one originating ID

pub data IdFact : Type 0 where
  -- An Invoke has the ID.
  Invoked : IdFact
  -- A Return Result (if `true`) or a Return Error (if `false`) has the ID.
  Answered : Bool → IdFact
  -- An Invoke has the ID, its class allows a Return Result, and its operation is this one, if one is given.
  Succeeds : Option Code → IdFact
  -- An Invoke has the ID, and its class allows a Return Error.
  Fails : IdFact

-- Whether the fact holds for a component.
abbrev pub shows : Table → ℤ → IdFact → Component → Bool
shows table id Invoked component = invokes id component
shows table id (Answered is_result) component = answers is_result id component
shows table id (Succeeds named) component = may_be_answered table true id named component
shows table id Fails component = may_be_answered table false id None component

-- The invoke ID for which facts about this component are kept; a Reject has none.
abbrev pub noted_id : Component → Option ℤ
noted_id (Invoke id linked code parameter) = Some id
noted_id (ReturnResult last id body) = Some id
noted_id (ReturnError id code parameter) = Some id
noted_id (Reject id problem) = None

-- ---- facts about an originating ID

pub data FromFact : Type 0 where
  -- A message comes from the ID.
  Spoke : FromFact
  -- A Begin comes from the ID.
  Begun : FromFact
  -- A Begin with a dialogue request comes from the ID.
  Asked : FromFact
  -- A Continue comes from the ID.
  WentOn : FromFact
  -- A Continue comes from the ID and goes to a destination ID other than this.
  WentElsewhere : List ℕ → FromFact
  -- A message comes from the ID, and this fact about this invoke ID holds for one of its components.
  OfId : ℤ → IdFact → FromFact

-- Whether there is an ID, and it differs from `id`.
abbrev pub is_other : List ℕ → Option (List ℕ) → Bool
is_other id None = false
is_other id (Some other) = not (is_id id (Some other))

-- Whether the fact holds for a message from the ID.
abbrev pub shows_from : Table → FromFact → Message → Bool
shows_from table Spoke message = is_a forms.Begin message || is_a forms.Continue message
shows_from table Begun message = is_a forms.Begin message
shows_from table Asked message = is_a forms.Begin message && is_request (dialogue_in message)
shows_from table WentOn message = is_a forms.Continue message
shows_from table (WentElsewhere dtid) message = is_a forms.Continue message && is_other dtid (dtid_in message)
shows_from table (OfId id fact) message = list_any (shows table id fact) (components_in message)

-- ---- facts about an end

pub data EndFact : Type 0 where
  -- The fact holds for a message from this originating ID.
  From : List ℕ → FromFact → EndFact
  -- An End, or an Abort without cause, goes to this destination ID.
  Ended : List ℕ → EndFact

-- Whether the fact holds for a message of the end.
abbrev pub shows_end : Table → EndFact → Message → Bool
shows_end table (From id fact) message = is_id id (otid_in message) && shows_from table fact message
shows_end table (Ended id) message = is_id id (ended_by message)

-- Whether a fact holds for a message of the end in these items, which are those since the last quiet mark.
abbrev pub fact_in_items : Table → Side → List Item → EndFact → Bool
fact_in_items table side items fact = list_any (shows_end table fact) (sent_by side items)

-- Whether a fact holds for a message of the end since the last quiet mark of these items.
abbrev pub fact_since_mark : Table → List Item → Side → EndFact → Bool
fact_since_mark table items side fact = fact_in_items table side (since_quiet items) fact
