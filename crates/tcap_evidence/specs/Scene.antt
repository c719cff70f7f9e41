-- What is known of a message at fault, and which entries show its fault. Known are the messages of each end since the
-- last quiet mark, the half over which the message would go, and the component at fault (Q.774 3.2, 3.3).
use Rattle.std.specs.Prelude.{◌≡◌, ℕ, ℤ, Bool, true, false, List, [], ◌∷◌, ◌++◌, filter, map, option_to_list, take, slice_get, length, Option, Some, None, is_none, ◌&&◌, ◌||◌, cond}
use Rattle.std.specs.Option.{option_or}
use Rattle.std.specs.List.{find}
use Rattle.tcap_parts.specs.declared.component.Component.{Component}
use Rattle.tcap_parts.specs.declared.component.Component.TheVariants.{Invoke, ReturnResult, ReturnError, Reject}
use Rattle.tcap_parts.specs.declared.problem.Problem.TheVariants as problems
use Rattle.tcap_msg.specs.declared.kind.Kind.TheVariants as forms
use Rattle.tcap_msg.specs.declared.message.Message.{Message}
use Rattle.tcap_msg.specs.Parts.{cause_in, components_in, dialogue_in, dtid_in, otid_in}
use Rattle.tcap_record.specs.declared.entry.End.{End as Side}
use Rattle.tcap_record.specs.declared.entry.Entry.{Entry}
use Rattle.tcap_record.specs.Ends.{other}
use Rattle.tcap_end.specs.Dialogue.{is_response}
use Rattle.tcap_end.specs.End.{is_id}
use Rattle.tcap_end.specs.Table.{Table}
use Rattle.tcap_model.specs.World.{Item}
use Rattle.tcap_model.specs.SinceMark.{ended_by, is_begin_with_request}
use Rattle.tcap_refute.specs.declared.kind.Kind.{Kind}
use Rattle.tcap_refute.specs.declared.kind.Kind.TheVariants as kinds
use Rattle.tcap_refute.specs.EarlierMessages.{is_a}
use Rattle.tcap_refute.specs.Kind.{goes_elsewhere}
use Rattle.tcap_faults.specs.SentToId.{is_continue_to, is_cause}
use Rattle.tcap_faults.specs.ClosedHalves.{is_surely_open}
use Rattle.tcap_faults.specs.declared.dialogue.half_origin.HalfOrigin.{HalfOrigin}
use Rattle.tcap_faults.specs.declared.dialogue.half_origin.HalfOrigin.TheVariants.{Accepted, Refused, Begun, Unanswered, Nowhere}
use Rattle.tcap_faults.specs.declared.component.component_sort.Sort.{Sort}
use Rattle.tcap_faults.specs.InvokeCounts.{is_sort}
use Rattle.tcap_evidence.specs.declared.shown_facts.ShownFact.{ShownFact}
use Rattle.tcap_evidence.specs.declared.shown_facts.ShownFact.TheVariants as facts
use Rattle.tcap_evidence.specs.NumberedMessages.{Numbered, entries_where, entries_with, in_order}

-- What is known of a message at fault.
pub record Scene : Type 0 where
  pub table : Table
  pub side : Side
  -- the items before the message since the last quiet mark, and the messages of its end and of the peer among them
  pub items : List Item
  pub own : List Numbered
  pub peer : List Numbered
  -- the number of the message's entry, its destination ID and its originating ID
  pub number : ℕ
  pub to : Option (List ℕ)
  pub from : Option (List ℕ)
  -- how the half began over which the message would go, and the half's own ID
  pub origin : HalfOrigin
  pub half : Option (List ℕ)
  -- the components of the message, those before the component at fault, and the invoke ID in question
  pub all : List Component
  pub earlier : List Component
  pub id : Option ℤ

-- whether there is an ID, and it is the same as the message's
abbrev pub is_same_id : Option (List ℕ) → Option (List ℕ) → Bool
is_same_id None other = false
is_same_id (Some id) other = is_id id other

-- ---- messages that were sent

-- the peer's messages from the destination ID
abbrev pub peer_from_dtid : Scene → List Numbered
peer_from_dtid s = filter (λ n. is_same_id s.to (otid_in n.1)) s.peer

-- the end's messages to the destination ID, without its provider's Aborts
abbrev pub sent_to_dtid : Scene → List Numbered
sent_to_dtid s = filter (λ n. is_same_id s.to (dtid_in n.1) && is_none (cause_in n.1)) s.own

-- the own ID in question: that of the half or, if it is unknown, the message's originating ID
abbrev pub own_id : Scene → Option (List ℕ)
own_id s = option_or s.half s.from

-- the items from the first one on that passes a test
abbrev pub since_first : {A : Type 0} → (A → Bool) → List A → List A
since_first passes [] = []
since_first passes (a ∷ more) = cond (passes a) (a ∷ more) (since_first passes more)

-- the peer's Continues from the destination ID to the half's own ID, if that is known
abbrev pub to_half : Scene → List Numbered
to_half s = by s.half
  where
    by : Option (List ℕ) → List Numbered
    by None = []
    by (Some own) = filter (λ n. is_continue_to own n.1) (peer_from_dtid s)

-- the half's own Begin
abbrev pub own_begin : Scene → Option Numbered
own_begin s = find (λ n. is_a forms.Begin n.1 && is_same_id s.half (otid_in n.1)) s.own

-- whether there is a message, and it is a Begin with a dialogue request
abbrev pub has_request : Option Numbered → Bool
has_request None = false
has_request (Some n) = is_begin_with_request n.1

-- The messages that a half heard, by how it began. If the peer sent the Begin: this Begin, and all Continues to the
-- half's own ID. If the end sent it: these Continues; but if the Begin requested a dialogue, only from the first one
-- on that carries a response.
abbrev pub incoming_by : Scene → HalfOrigin → List Numbered
incoming_by s Accepted = option_to_list (find (λ n. is_a forms.Begin n.1) (peer_from_dtid s)) ++ to_half s
incoming_by s Refused = option_to_list (find (λ n. is_a forms.Begin n.1) (peer_from_dtid s)) ++ to_half s
incoming_by s Begun =
    cond (has_request (own_begin s)) (since_first (λ n. is_response (dialogue_in n.1)) (to_half s)) (to_half s)
incoming_by s Unanswered = []
incoming_by s Nowhere = []

-- The messages that carry a half's own invocations, by how it began: its own Begin, if it sent one, and the end's
-- messages to the destination ID.
abbrev pub invoked_by : Scene → HalfOrigin → List Numbered
invoked_by s Begun = option_to_list (own_begin s) ++ sent_to_dtid s
invoked_by s Unanswered = option_to_list (own_begin s) ++ sent_to_dtid s
invoked_by s origin = sent_to_dtid s

-- ---- the entries that show a fault, in order

-- the entries of the components of the invoke ID in question that are of a sort
abbrev pub with_sort : Scene → Sort → List Numbered → List ℕ
with_sort s sort sent = by s.id
  where
    by : Option ℤ → List ℕ
    by None = []
    by (Some id) = entries_with (is_sort s.table id sort) sent

-- the same entry once for each of these components of the message itself that is of the sort
abbrev pub with_sort_in : Scene → Sort → List Component → List ℕ
with_sort_in s sort cs = by s.id
  where
    by : Option ℤ → List ℕ
    by None = []
    by (Some id) = map (λ c. s.number) (filter (is_sort s.table id sort) cs)

-- whether a message is a Continue from the message's originating ID to another destination ID
abbrev pub went_elsewhere : Scene → Message → Bool
went_elsewhere s m = by s.from s.to
  where
    by : Option (List ℕ) → Option (List ℕ) → Bool
    by (Some otid) (Some dtid) = goes_elsewhere otid dtid m
    by from to = false

-- whether a message is a Continue from an ID whose half is certainly open
abbrev pub is_open_continue : Scene → Message → Bool
is_open_continue s m = is_a forms.Continue m && by (otid_in m)
  where
    by : Option (List ℕ) → Bool
    by None = false
    by (Some own) = is_surely_open s.table s.side s.items own

-- the entries that show one thing about a message at fault
abbrev pub shown : Scene → ShownFact → List ℕ
shown s facts.PeerBegins = entries_where (is_a forms.Begin) (peer_from_dtid s)
shown s facts.PeerRequests = entries_where is_begin_with_request (peer_from_dtid s)
shown s facts.PeerContinues = entries_where (is_a forms.Continue) (peer_from_dtid s)
shown s facts.Used = entries_where (λ m. is_same_id s.from (otid_in m)) s.own
shown s facts.WentElsewhere = entries_where (went_elsewhere s) s.own
shown s facts.Begun = entries_where (λ m. is_a forms.Begin m && is_same_id (own_id s) (otid_in m)) s.own
shown s facts.OwnRequests = entries_where (λ m. is_begin_with_request m && is_same_id (own_id s) (otid_in m)) s.own
shown s facts.OutgoingComponents = entries_where (λ m. true) (sent_to_dtid s)
shown s facts.OutgoingContinues = entries_where (is_a forms.Continue) (sent_to_dtid s)
shown s facts.Ended = entries_where (λ m. is_same_id s.to (ended_by m)) s.own
shown s facts.Unknown = entries_where (λ m. is_same_id s.to (dtid_in m) && is_cause 1 (cause_in m)) s.own
shown s facts.Refused = entries_where (λ m. is_same_id s.to (dtid_in m) && is_cause 4 (cause_in m)) s.own
shown s (facts.PeerComponents sort) = with_sort s sort (peer_from_dtid s)
shown s (facts.IncomingComponents sort) = with_sort s sort (in_order (incoming_by s s.origin))
shown s (facts.Before sort) = with_sort s sort (sent_to_dtid s) ++ with_sort_in s sort s.earlier
shown s (facts.Whole sort) = with_sort s sort (sent_to_dtid s) ++ with_sort_in s sort s.all
shown s (facts.Invoked sort) = with_sort s sort (in_order (invoked_by s s.origin))
shown s facts.Open = entries_where (is_open_continue s) s.own
