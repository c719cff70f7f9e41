-- Which dialogues a segment between quiet marks has, as its entries arrive (Q.774 3.3), if transaction IDs may be
-- reused. This profile allows one use of an ID between two marks. But a stack frees an ID when its transaction is over,
-- and a bench sets no marks.
use Rattle.std.specs.Prelude.{ℕ, ◌+◌, Bool, true, false, cond, List, [], ◌∷◌, ◌++◌, filter, length, map, ◌==◌, ◌&&◌, ◌||◌, not, nat_lt, min, Option, Some, None, is_none, is_some}
use Rattle.std.specs.List.{flat_map, list_any}
use Rattle.std.specs.Option.{option_to_list}
use Rattle.tcap_msg.specs.declared.kind.Kind.{Kind}
use Rattle.tcap_msg.specs.declared.kind.Kind.TheVariants as kinds
use Rattle.tcap_msg.specs.declared.message.Message.{Message}
use Rattle.tcap_msg.specs.Parts.{dtid_in, kind_in, otid_in}
use Rattle.tcap_record.specs.declared.entry.End.{End as Side}
use Rattle.tcap_record.specs.Ends.{other}
use Rattle.tcap_model.specs.World.{Item, Sent, is_side}
use Rattle.tcap_dialogues.specs.DialoguesOfList.{IdOf, is_among}
use Rattle.tcap_dialogues.specs.declared.reuse.Reuse.{Reuse}
use Rattle.tcap_dialogues.specs.declared.reuse.Reuse.TheVariants as reuses

-- The facts about an entry by which its dialogue is found: its sender, its kind and its transaction IDs, as far as they
-- can be read; and two facts about the trace before it.
pub record Heading : Type 0 where
  pub sender : Side
  pub kind : Option Kind
  pub otid : Option (List ℕ)
  pub dtid : Option (List ℕ)
  -- whether the entry comes after the under-way directive, by which dialogues may have begun before the trace
  pub under_way : Bool
  -- whether the owner of the destination ID sent a message from this ID in an earlier segment
  pub known : Bool

-- the heading of a message, with nothing known of the trace
abbrev pub heading_of : Side → Message → Heading
heading_of sender m = record {
  sender = sender;
  kind = Some (kind_in m);
  otid = otid_in m;
  dtid = dtid_in m;
  under_way = false;
  known = false;
}

-- the heading with nothing known of the trace
abbrev pub bare : Heading → Heading
bare h = record h { under_way = false; known = false }

-- the headings of the messages in a segment
abbrev pub headings_of : List Item → List Heading
headings_of [] = []
headings_of (Sent sender m ∷ items) = heading_of sender m ∷ headings_of items
headings_of (Item.Quiet ∷ items) = headings_of items

-- whether an entry is a Begin
abbrev pub is_begin : Option Kind → Bool
is_begin (Some kinds.Begin) = true
is_begin _ = false

-- whether an entry is a Continue
abbrev pub is_continue : Option Kind → Bool
is_continue (Some kinds.Continue) = true
is_continue _ = false

-- whether a message of this kind ends a transaction
abbrev pub is_last : Option Kind → Bool
is_last (Some kinds.End) = true
is_last (Some kinds.Abort) = true
is_last _ = false

-- the ID that belongs to the sender, and the ID that belongs to the other end
abbrev pub own_ids : Heading → List IdOf
own_ids h = map (λ id. record { end = h.sender; octets = id }) (option_to_list h.otid)

abbrev pub peer_ids : Heading → List IdOf
peer_ids h = map (λ id. record { end = other h.sender; octets = id }) (option_to_list h.dtid)

-- the IDs in a heading
abbrev pub ids_in : Heading → List IdOf
ids_in h = own_ids h ++ peer_ids h

-- Whether an entry has no ID, as a Unidirectional or an unreadable entry: no entry can join it.
abbrev pub is_alone : Heading → Bool
is_alone h = is_none h.otid && is_none h.dtid

-- A dialogue of a segment.
pub record Course : Type 0 where
  -- the numbers of its entries
  pub numbers : List ℕ
  -- the IDs in its entries; those from which their owner sent a message; those from which a Begin was sent
  pub ids : List IdOf
  pub used : List IdOf
  pub begun : List IdOf
  -- the senders of its entries
  pub senders : List Side
  -- the number of the first entry with which it is over: an End, an Abort, or an entry without IDs
  pub over : Option ℕ
  -- whether one of its entries comes before the under-way directive, or there is no such directive
  pub early : Bool
  -- whether an earlier dialogue of the segment had one of its IDs
  pub again : Bool
  -- whether the owner of such an ID had not sent a message from it in an earlier dialogue that began before the
  -- directive
  pub unsettled : Bool

-- whether the entry with this number is one of its entries
abbrev pub has_entry : Course → ℕ → Bool
has_entry d n = list_any (λ i. i == n) d.numbers

-- whether one of the IDs is in both lists
abbrev pub share_id : List IdOf → List IdOf → Bool
share_id ids those = list_any (is_among those) ids

-- The dialogues of a segment so far: those that are done, whose IDs are free, in the order in which they were
-- completed, and those that are live.
pub record Courses : Type 0 where
  pub done : List Course
  pub live : List Course

-- ---- when a dialogue is over, and its IDs are free

-- whether the heading is a Begin from one of these IDs
abbrev pub begins_from : Heading → List IdOf → Bool
begins_from h ids = is_begin h.kind && share_id (own_ids h) ids

-- Whether the heading is the first of its sender in a dialogue that its peer began. It is then a Continue to an ID from
-- which the peer's Begin came, and its sender has sent no entry of the dialogue before.
abbrev pub accepts : Heading → Course → Bool
accepts h d = is_continue h.kind && share_id (peer_ids h) d.begun && not (list_any (is_side h.sender) d.senders)

-- whether the sender uses an ID of dialogue d to accept another of these dialogues
abbrev pub gives_to_another : List Course → Heading → Course → Bool
gives_to_another others h d =
    share_id (own_ids h) d.ids && list_any (λ other. accepts h other && not (share_id (own_ids h) other.ids)) others

-- whether a dialogue has a Begin
abbrev pub has_begin : Course → Bool
has_begin d = nat_lt 0 (length d.begun)

-- whether an entry of these dialogues has the destination ID of the heading
abbrev pub names_peer : Courses → Heading → Bool
names_peer s h = list_any (λ d. share_id (peer_ids h) d.ids) (s.done ++ s.live)

-- Whether the sender goes on with another dialogue from an ID of dialogue d, which has a Begin. The Begin of the other
-- dialogue is not in the segment: the heading is a Continue to an ID that no entry of the segment has, and that may
-- come from before the segment.
abbrev pub goes_on_with_another : Courses → Heading → Course → Bool
goes_on_with_another s h d =
    share_id (own_ids h) d.ids && is_continue h.kind && has_begin d && (h.under_way || h.known) && not (names_peer s h)

-- whether more than `linger` entries, this one included, have come since a dialogue was over, when the entry with
-- number n arrives
abbrev pub is_past : ℕ → ℕ → Option ℕ → Bool
is_past linger n None = false
is_past linger n (Some number) = nat_lt (number + linger) n

-- Whether the IDs of a dialogue are free when the entry with number n arrives. They are if the dialogue is over, and
-- either the entry's sender uses an ID of it for another dialogue, or more than `linger` entries have come since. With
-- `Once`, IDs are never free.
abbrev pub is_free : Reuse → ℕ → Courses → Heading → Course → Bool
is_free reuses.Once n s h d = false
is_free (reuses.Again linger) n s h d =
    is_past linger n d.over
    || (is_some d.over && (begins_from h d.ids || gives_to_another s.live h d || goes_on_with_another s h d))

-- ---- when an entry arrives

-- the lower of two numbers, if there are any
abbrev pub lower : Option ℕ → Option ℕ → Option ℕ
lower None number = number
lower number None = number
lower (Some a) (Some b) = Some (min a b)

-- the number of the first entry with which one of these dialogues was over
abbrev pub first_over : List Course → Option ℕ
first_over [] = None
first_over (d ∷ ds) = lower d.over (first_over ds)

-- the ID from which the heading is a Begin; and the entry's number, if a dialogue is over with it
abbrev pub begun_by : Heading → List IdOf
begun_by h = cond (is_begin h.kind) (own_ids h) []

abbrev pub over_by : ℕ → Heading → Option ℕ
over_by n h = cond (is_last h.kind || is_alone h) (Some n) None

-- The IDs of dialogues that are done, and the firm ones among them. No message with a firm ID is in transit once the
-- bench says that IDs have settled. An ID is firm if its owner sent a message from it, or if its dialogue began after
-- the under-way directive.
pub record Earlier : Type 0 where
  pub ids : List IdOf
  pub firm : List IdOf

-- the firm IDs of a dialogue that is done
abbrev pub firm_in : Course → List IdOf
firm_in d = cond d.early d.used d.ids

-- the IDs of these dialogues, and the firm ones among them
abbrev pub earlier_in : List Course → Earlier
earlier_in done = record { ids = flat_map (λ d. d.ids) done; firm = flat_map firm_in done }

-- the IDs of a heading that none of these dialogues has
abbrev pub new_ids : Heading → List Course → List IdOf
new_ids h ds = filter (λ id. not (list_any (λ d. is_among d.ids id) ds)) (ids_in h)

-- these dialogues joined into one, with the entry with number n
abbrev pub with_entry : Earlier → ℕ → Heading → List Course → Course
with_entry earlier n h ds = record {
  numbers = flat_map (λ d. d.numbers) ds ++ n ∷ [];
  ids = flat_map (λ d. d.ids) ds ++ ids_in h;
  used = flat_map (λ d. d.used) ds ++ own_ids h;
  begun = flat_map (λ d. d.begun) ds ++ begun_by h;
  senders = flat_map (λ d. d.senders) ds ++ h.sender ∷ [];
  over = lower (first_over ds) (over_by n h);
  early = list_any (λ d. d.early) ds || not h.under_way;
  again = list_any (λ d. d.again) ds || share_id (new_ids h ds) earlier.ids;
  unsettled = list_any (λ d. d.unsettled) ds
      || list_any (λ id. is_among earlier.ids id && not (is_among earlier.firm id)) (new_ids h ds);
}

-- When an entry arrives, the dialogues whose IDs are free become done. Then the entry joins the live dialogues that
-- have one of its IDs, or begins a new one.
abbrev pub joined_by : ℕ → Heading → List Course → List Course → Courses
joined_by n h done left = record {
  done = done;
  live = filter (λ d. not (share_id (ids_in h) d.ids)) left
      ++ with_entry (earlier_in done) n h (filter (λ d. share_id (ids_in h) d.ids) left) ∷ [];
}

-- the dialogues after the entry with number n
abbrev pub courses_after : Reuse → ℕ → Heading → Courses → Courses
courses_after reuse n h s =
    joined_by n h (s.done ++ filter (is_free reuse n s h) s.live) (filter (λ d. not (is_free reuse n s h d)) s.live)

-- whether the entry begins a new dialogue that has IDs
abbrev pub begins_new : Reuse → ℕ → Courses → Heading → Bool
begins_new reuse n s h =
    not (is_alone h) && not (list_any (λ d. share_id (ids_in h) d.ids && not (is_free reuse n s h d)) s.live)

-- the dialogues after these headings, the first of which has number n
abbrev pub courses_behind : Reuse → Courses → ℕ → List Heading → Courses
courses_behind reuse s n [] = s
courses_behind reuse s n (h ∷ hs) = courses_behind reuse (courses_after reuse n h s) (n + 1) hs

-- the dialogues of a segment so far
abbrev pub courses_so_far : Reuse → List Heading → Courses
courses_so_far reuse hs = courses_behind reuse (record { done = []; live = [] }) 0 hs

-- the dialogues of a segment
abbrev pub courses_of : Reuse → List Heading → List Course
courses_of reuse hs = all_of (courses_so_far reuse hs)
  where
    all_of : Courses → List Course
    all_of s = s.done ++ s.live
