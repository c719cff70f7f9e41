-- What the lists of entries show about a fault: how many entries they have, which entries these are, and what they
-- contain if a message has a kind.
use Rattle.std.specs.Prelude.{◌≡◌, ◌≢◌, ◌⊎◌, ◌<◌, ◌≤◌, ◌+◌, ℕ, ℤ, Bool, true, false, List, [], ◌++◌, Contains, length, map, take, slice_get, Option, Some, None, Ok}
use Rattle.tcap_parts.specs.declared.component.Component.{Component}
use Rattle.tcap_msg.specs.declared.kind.Kind.TheVariants as forms
use Rattle.tcap_msg.specs.declared.message.Message.{Message}
use Rattle.tcap_msg.specs.Parts.{cause_in, components_in, dtid_in, kind_in, otid_in}
use Rattle.tcap_record.specs.declared.entry.End.{End as Side}
use Rattle.tcap_record.specs.declared.entry.Entry.{Entry}
use Rattle.tcap_end.specs.Table.{Table}
use Rattle.tcap_model.specs.World.{Item, Sent}
use Rattle.tcap_model.specs.Entries.{item_of}
use Rattle.tcap_refute.specs.declared.kind.Kind.{Kind}
use Rattle.tcap_refute.specs.declared.kind.Kind.TheVariants as kinds
use Rattle.tcap_refute.specs.EarlierMessages.{peer_sent_from, components_of, invokes, is_a, sent_by, since_quiet}
use Rattle.tcap_faults.specs.SentToId.{is_begin_from, is_abort_with, outgoing}
use Rattle.tcap_faults.specs.Counts.{count, count_class, count_lasting, has_class, takes}
use Rattle.tcap_refute.specs.Kind.{is_of_kind}
use Rattle.tcap_model.specs.SinceMark.{is_begin_with_request}
use Rattle.tcap_faults.specs.ClosedHalves.{is_surely_open}
use Rattle.tcap_faults.specs.declared.dialogue.half_origin.HalfOrigin.TheVariants.{Nowhere}
use Rattle.tcap_faults.specs.declared.component.component_sort.Class.TheVariants.{Any, One, Two, Three}
use Rattle.tcap_faults.specs.declared.component.component_sort.Sort.{Sort}
use Rattle.tcap_faults.specs.declared.component.component_sort.Sort.TheVariants as sorts
use Rattle.tcap_faults.specs.Fault.{is_fault}
use Rattle.tcap_faults.specs.HalfByPeerId.{half_of}
use Rattle.tcap_faults.specs.FaultSubject.{items_among, subject}
use Rattle.tcap_faults.specs.InvokeCounts.{is_sort}
use Rattle.tcap_evidence.specs.declared.shown_facts.ShownFact.{ShownFact}
use Rattle.tcap_evidence.specs.declared.shown_facts.ShownFact.TheVariants as facts
use Rattle.tcap_evidence.specs.Evidence.{component_at, scene_of}
use Rattle.tcap_evidence.specs.Partners.{paired_before, partner_in}
use Rattle.tcap_evidence.specs.Scene.{Scene, own_id, shown}
use Rattle.tcap_evidence.specs.EvidenceWords.{sender_of}

-- the items before an entry, since the last quiet mark
abbrev pub items_before : List Entry → ℕ → List Item
items_before entries number = since_quiet (items_among (map item_of (take number entries)))

-- what is known of a message of entry `number` that has a kind, with the subject of that kind
abbrev pub scene_at : Bool → Table → Side → List Entry → ℕ → Message → Kind → Scene
scene_at of_one table side entries number m kind =
    scene_of table side entries number m kind (subject of_one table side (items_before entries number) m kind)

-- the component that has the kind
abbrev pub component_with : Bool → Table → Side → List Entry → ℕ → Message → Kind → Option Component
component_with of_one table side entries number m kind =
    component_at (subject of_one table side (items_before entries number) m kind).component (components_in m)

-- ---- the number of entries

-- Each list of a sort has as many entries as there are components that pass `is_so`. There: in the peer's messages
-- from the ID. Heard: in those that the half heard. Before and Whole: in the end's messages to the ID, with the
-- message's components before the one at fault, or all of them. If there is a half, the end's messages to the ID are
-- the half's, and Invoked counts the half's own invocations.
pub record AreCounted (side : Side) (items : List Item) (id : List ℕ) (m : Message) (s : Scene) (sort : Sort)
    (is_so : Component → Bool) : Type 0 where
  pub there : length (shown s (facts.PeerComponents sort)) ≡ count is_so (components_of (peer_sent_from side id items))
  pub incoming : length (shown s (facts.IncomingComponents sort)) ≡ count is_so (half_of side items id).incoming
  pub before : length (shown s (facts.Before sort)) ≡ count is_so (components_of (outgoing side id items) ++ s.earlier)
  pub half_before : (half_of side items id).origin ≢ Nowhere
      → length (shown s (facts.Before sort)) ≡ count is_so ((half_of side items id).outgoing ++ s.earlier)
  pub whole : length (shown s (facts.Whole sort))
      ≡ count is_so (components_of (outgoing side id items) ++ components_in m)
  pub half_whole : (half_of side items id).origin ≢ Nowhere
      → length (shown s (facts.Whole sort)) ≡ count is_so ((half_of side items id).outgoing ++ components_in m)
  pub invoked : (half_of side items id).origin ≢ Nowhere
      → length (shown s (facts.Invoked sort)) ≡ count is_so (half_of side items id).invoked

-- How many components are of a sort, in terms of the definitions of the kinds: Invokes of an ID, of a class, and not
-- expiring; and components that end an invocation.
pub record SortsAre (table : Table) (id : ℤ) (cs : List Component) : Type 0 where
  pub any : count (is_sort table id (sorts.Invokes Any)) cs ≡ count (invokes id) cs
  pub one : count (is_sort table id (sorts.Invokes One)) cs ≡ count_class table id 1 cs
  pub two : count (is_sort table id (sorts.Invokes Two)) cs ≡ count_class table id 2 cs
  pub three : count (is_sort table id (sorts.Invokes Three)) cs ≡ count_class table id 3 cs
  pub lasting : count (is_sort table id (sorts.Lasting Any)) cs ≡ count_lasting table id (λ code. true) cs
  pub lasting_one : count (is_sort table id (sorts.Lasting One)) cs ≡ count_lasting table id (has_class table 1) cs
  pub lasting_three : count (is_sort table id (sorts.Lasting Three)) cs ≡ count_lasting table id (has_class table 3) cs
  pub taken : count (is_sort table id sorts.LastResults) cs + count (is_sort table id sorts.Errors) cs
      + count (is_sort table id sorts.InvokeRejects) cs ≡ count (takes id) cs

-- Each list of messages has an entry for each of the peer's messages from the ID, or each of the end's messages to it.
pub record AreListsComplete (side : Side) (items : List Item) (id : List ℕ) (s : Scene) : Type 0 where
  pub begins : length (shown s facts.PeerBegins) ≡ count (is_a forms.Begin) (peer_sent_from side id items)
  pub requests : length (shown s facts.PeerRequests) ≡ count is_begin_with_request (peer_sent_from side id items)
  pub continues : length (shown s facts.PeerContinues) ≡ count (is_a forms.Continue) (peer_sent_from side id items)
  pub all_outgoing : length (shown s facts.OutgoingComponents) ≡ length (outgoing side id items)
  pub continues_outgoing : length (shown s facts.OutgoingContinues)
      ≡ count (is_a forms.Continue) (outgoing side id items)
  pub unknown : length (shown s facts.Unknown) ≡ count (is_abort_with 1 id) (sent_by side items)
  pub refused : length (shown s facts.Refused) ≡ count (is_abort_with 4 id) (sent_by side items)

-- ---- the listed entries

-- Entry `n` is before entry `number`, is this message of this end, and no quiet mark is between the two.
pub record IsSentBefore (entries : List Entry) (number : ℕ) (sender : Side) (n : ℕ) (m : Message) : Type 0 where
  pub is : slice_get (map item_of entries) n ≡ Some (Ok (Sent sender m))
  pub before : n < number
  pub since : (k : ℕ) → n < k → k < number → slice_get (map item_of entries) k ≢ Some (Ok Item.Quiet)

-- A listed Continue of this end, no later than entry `n`, uses the ID with this partner. No Begin from the ID comes
-- after it, up to entry `n`.
pub record IsPaired (of : Side) (id : List ℕ) (entries : List Entry) (number : ℕ) (sender : Side) (partner : List ℕ)
    (n : ℕ) : Type 0 where
  pub at : ℕ
  pub message : Message
  pub listed : Contains (paired_before of id entries number) at
  pub sent : IsSentBefore entries number sender at message
  pub stands : partner_in of id sender message ≡ Some partner
  pub no_later : at ≤ n
  pub none_begun : (k : ℕ) (m : Message) → at < k → k ≤ n → slice_get (map item_of entries) k ≡ Some (Ok (Sent of m))
      → is_begin_from id m ≡ false

-- Both IDs exist and are the same.
abbrev pub AreSame : Option (List ℕ) → Option (List ℕ) → Type 0
AreSame a b = (id : List ℕ) × (a ≡ Some id) × (b ≡ Some id)

-- Both IDs exist and differ.
abbrev pub AreDifferent : Option (List ℕ) → Option (List ℕ) → Type 0
AreDifferent a b = (id : List ℕ) × (other : List ℕ) × (a ≡ Some id) × (b ≡ Some other) × (id ≢ other)

-- A message to this ID other than an Abort of the provider.
abbrev pub IsOutgoingTo : Option (List ℕ) → Message → Type 0
IsOutgoingTo to m = AreSame to (dtid_in m) × (cause_in m ≡ None)

-- An End, or an Abort of the user, to this ID.
abbrev pub IsEndTo : Option (List ℕ) → Message → Type 0
IsEndTo to m = AreSame to (dtid_in m) × ((kind_in m ≡ forms.End) ⊎ ((kind_in m ≡ forms.Abort) × (cause_in m ≡ None)))

-- A message that a half with this own ID can hear: a Begin, or a Continue to the own ID.
abbrev pub IsIncomingFor : Option (List ℕ) → Message → Type 0
IsIncomingFor own m = (kind_in m ≡ forms.Begin) ⊎ ((kind_in m ≡ forms.Continue) × AreSame own (dtid_in m))

-- A message that carries invocations of a half with this own ID: one to the peer's ID, or the half's own Begin.
abbrev pub IsInvokedIn : Option (List ℕ) → Option (List ℕ) → Message → Type 0
IsInvokedIn own to m = IsOutgoingTo to m ⊎ ((kind_in m ≡ forms.Begin) × AreSame own (otid_in m))

-- One of these components is of the invoke ID in question, and of the sort.
abbrev pub HasSort : Scene → Sort → List Component → Type 0
HasSort s sort cs = (id : ℤ) × (c : Component) × (s.id ≡ Some id) × Contains cs c × (is_sort s.table id sort c ≡ true)

-- A message from the own ID of a half that is certainly open.
abbrev pub IsOpen : Scene → Message → Type 0
IsOpen s m = (own : List ℕ) × (otid_in m ≡ Some own) × (is_surely_open s.table s.side s.items own ≡ true)

-- The messages that each list is for.
abbrev pub IsListedFor : Scene → ShownFact → Message → Type 0
IsListedFor s facts.PeerBegins m = (kind_in m ≡ forms.Begin) × AreSame s.to (otid_in m)
IsListedFor s facts.PeerRequests m = (is_begin_with_request m ≡ true) × AreSame s.to (otid_in m)
IsListedFor s facts.PeerContinues m = (kind_in m ≡ forms.Continue) × AreSame s.to (otid_in m)
IsListedFor s facts.Used m = AreSame s.from (otid_in m)
IsListedFor s facts.WentElsewhere m =
    (kind_in m ≡ forms.Continue) × AreSame s.from (otid_in m) × AreDifferent s.to (dtid_in m)
IsListedFor s facts.Begun m = (kind_in m ≡ forms.Begin) × AreSame (own_id s) (otid_in m)
IsListedFor s facts.OwnRequests m = (is_begin_with_request m ≡ true) × AreSame (own_id s) (otid_in m)
IsListedFor s facts.OutgoingComponents m = IsOutgoingTo s.to m
IsListedFor s facts.OutgoingContinues m = (kind_in m ≡ forms.Continue) × AreSame s.to (dtid_in m)
IsListedFor s facts.Ended m = IsEndTo s.to m
IsListedFor s facts.Unknown m = AreSame s.to (dtid_in m) × (cause_in m ≡ Some 1)
IsListedFor s facts.Refused m = AreSame s.to (dtid_in m) × (cause_in m ≡ Some 4)
IsListedFor s (facts.PeerComponents sort) m = AreSame s.to (otid_in m) × HasSort s sort (components_in m)
IsListedFor s (facts.IncomingComponents sort) m =
    AreSame s.to (otid_in m) × IsIncomingFor s.half m × HasSort s sort (components_in m)
IsListedFor s (facts.Before sort) m = IsOutgoingTo s.to m × HasSort s sort (components_in m)
IsListedFor s (facts.Whole sort) m = IsOutgoingTo s.to m × HasSort s sort (components_in m)
IsListedFor s (facts.Invoked sort) m = IsInvokedIn s.half s.to m × HasSort s sort (components_in m)
IsListedFor s facts.Open m = (kind_in m ≡ forms.Continue) × IsOpen s m

-- Entry `n` is such a message, sent before the entry at fault by the end whose messages the list has.
abbrev pub IsEntryOf : List Entry → Scene → ShownFact → ℕ → Type 0
IsEntryOf entries s fact n =
    (m : Message) × IsSentBefore entries s.number (sender_of s.side fact) n m × IsListedFor s fact m

-- The number is that of the entry at fault itself, and one of these components is of the invoke ID in question and of
-- the sort.
abbrev pub IsEntryItself : Scene → Sort → List Component → ℕ → Type 0
IsEntryItself s sort cs n = (n ≡ s.number) × HasSort s sort cs

-- The number is that of such an entry. In a list for Before or Whole it may also be that of the entry at fault, if the
-- message itself has such a component.
abbrev pub IsShown : List Entry → Scene → ShownFact → ℕ → Type 0
IsShown entries s (facts.Before sort) n = IsEntryOf entries s (facts.Before sort) n ⊎ IsEntryItself s sort s.earlier n
IsShown entries s (facts.Whole sort) n = IsEntryOf entries s (facts.Whole sort) n ⊎ IsEntryItself s sort s.all n
IsShown entries s fact n = IsEntryOf entries s fact n

-- whether a list is restricted to the messages that one half heard or that carry its invocations
abbrev pub is_incoming_or_invoked : ShownFact → Bool
is_incoming_or_invoked (facts.IncomingComponents sort) = true
is_incoming_or_invoked (facts.Invoked sort) = true
is_incoming_or_invoked fact = false

-- ---- the kinds of a message

-- A message has a kind by which a record is refuted, or one that is blamed on its end.
abbrev pub HasKind : Table → Side → List Item → Message → Kind → Type 0
HasKind table side items m kind =
    (is_of_kind table side items m kind ≡ true) ⊎ (is_fault table side items m kind ≡ true)

-- whether a message has a kind, of one end alone (true) or of both (false)
abbrev pub has_kind_by : Bool → Table → Side → List Item → Message → Kind → Bool
has_kind_by true table side items m kind = is_fault table side items m kind
has_kind_by false table side items m kind = is_of_kind table side items m kind

-- whether a kind is one of F10 to F13, the kinds of a component over a half
abbrev pub is_of_component : Kind → Bool
is_of_component kinds.InvokeIdBusy = true
is_of_component kinds.BadLink = true
is_of_component kinds.AnsweredAlready = true
is_of_component kinds.RejectNotAllowed = true
is_of_component kind = false

-- the number of entries of a list
abbrev pub count_shown : Scene → ShownFact → ℕ
count_shown s fact = length (shown s fact)

-- The list is empty.
abbrev pub ListsNone : Scene → ShownFact → Type 0
ListsNone s fact = shown s fact ≡ []

-- The list has an entry.
abbrev pub ListsOne : Scene → ShownFact → Type 0
ListsOne s fact = (n : ℕ) × Contains (shown s fact) n

-- F2, by the cause of an Abort: the peer sent nothing from the destination ID, or nothing that an Abort with this
-- cause answers. For a cause that no provider sends, nothing is shown.
abbrev pub ShowsUnknown : Scene → Option ℕ → Type 0
ShowsUnknown s None = ListsNone s facts.PeerBegins × ListsNone s facts.PeerContinues
ShowsUnknown s (Some cause) =
    (cause ≡ 1 → ListsNone s facts.PeerContinues) × (cause ≡ 4 → ListsNone s facts.PeerBegins)

-- F3: the end used the originating ID of the Begin before, or sent a Continue from that of the Continue to another ID.
abbrev pub ShowsReused : Scene → Message → Type 0
ShowsReused s m =
    ((kind_in m ≡ forms.Begin) × ListsOne s facts.Used)
    ⊎ ((kind_in m ≡ forms.Continue) × ListsOne s facts.WentElsewhere)
