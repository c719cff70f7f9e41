-- What did an end do wrong, no matter what its peer did (Q.771, Q.773, Q.774)? A message has its kinds by the items
-- before it since the last quiet mark, and the first entry with a kind is blamed on its end.
use Rattle.std.specs.Prelude.{ℕ, ◌+◌, Bool, false, List, [], ◌∷◌, ◌++◌, map, Option, Some, None, Result, Ok, Err, ◌==◌, ◌&&◌, ◌||◌, not, nat_lt, cond}
use Rattle.std.specs.Option.{option_or}
use Rattle.std.specs.List.{find, list_any}
use Rattle.tcap_msg.specs.declared.kind.Kind.TheVariants as forms
use Rattle.tcap_msg.specs.declared.message.Message.{Message}
use Rattle.tcap_msg.specs.Parts.{cause_in, components_in, dtid_in, otid_in}
use Rattle.tcap_record.specs.declared.entry.End.{End as Side}
use Rattle.tcap_record.specs.declared.entry.Entry.{Entry}
use Rattle.tcap_end.specs.Table.{Table}
use Rattle.tcap_model.specs.declared.reason.Reason.{Reason}
use Rattle.tcap_record.specs.Ends.{is_entry_of}
use Rattle.tcap_model.specs.World.{Item, Sent, is_side}
use Rattle.tcap_model.specs.Entries.{item_of}
use Rattle.tcap_refute.specs.declared.kind.Kind.{Kind}
use Rattle.tcap_refute.specs.declared.kind.Kind.TheVariants as kinds
use Rattle.tcap_refute.specs.declared.kind.Refutation.{Refutation}
use Rattle.tcap_refute.specs.EarlierMessages.{peer_sent_from, is_a, sent_by, since_quiet}
use Rattle.tcap_refute.specs.FirstKinds.{first_kinds, is_of_first_kind}
use Rattle.tcap_refute.specs.Kind.{kind_of_reason, refutation_at}
use Rattle.tcap_faults.specs.ClosedHalves.{all_go_to_open, is_surely_open}
use Rattle.tcap_faults.specs.Components.{has_component, invokes_again, is_linked}
use Rattle.tcap_faults.specs.SentToId.{is_abort_with, outgoing}
use Rattle.tcap_faults.specs.Counts.{count, is_nothing}
use Rattle.tcap_faults.specs.ComponentKinds.{answers_again, invokes_busy, links_badly, rejects_wrongly}
use Rattle.tcap_faults.specs.HalfKinds.{is_accepted, is_wrong_dialogue, is_wrong_half}
use Rattle.tcap_faults.specs.HalfByPeerId.{HalfMessages, half_of}
use Rattle.tcap_faults.specs.TangledIds.{goes_over_tangled}
use Rattle.tcap_faults.specs.UsedAgain.{has_used_again}

-- ---- F14: an Abort of the provider that answers nothing that is left (Q.774 3.3)

-- The number of Continues from this ID that the end surely received and did not answer with cause 1. It is 1 if the
-- end sent something to the ID and its half is not accepted, else 0.
abbrev pub count_received : Side → List ℕ → List Item → HalfMessages → ℕ
count_received side id items h = cond (is_nothing (outgoing side id items) || is_accepted h.origin) 0 1

-- Whether an Abort with this cause is a wrong reply. Cause 1: the Aborts with cause 1, this one included, and the
-- received Continues are more than the Continues from the ID; or all these Continues go to halves that are surely
-- open. Cause 4: the half is not accepted, or the end sent something to the ID before.
abbrev pub is_wrong_reply : Table → Side → List ℕ → List Item → HalfMessages → ℕ → Bool
is_wrong_reply table side id items h cause =
    (cause == 1
    && (nat_lt (count (is_a forms.Continue) (peer_sent_from side id items))
    (count (is_abort_with 1 id) (sent_by side items) + 1 + count_received side id items h)
    || all_go_to_open table side items (peer_sent_from side id items)))
    || (cause == 4 && (not (is_accepted h.origin) || not (is_nothing (outgoing side id items))))

-- ---- F15: a half that is open at a quiet mark (this profile's choice)

-- Whether a message is a Continue over no tangled IDs, from an ID whose half is surely open.
abbrev pub is_left_open : Table → Side → List Item → Message → Bool
is_left_open table side items m =
    is_a forms.Continue m && by (otid_in m) && not (goes_over_tangled side items m)
  where
    by : Option (List ℕ) → Bool
    by None = false
    by (Some own) = is_surely_open table side items own

-- F15: After these items, a half of the end is surely open.
abbrev pub is_open_at_mark : Table → Side → List Item → Bool
is_open_at_mark table side items = list_any (is_left_open table side items) (sent_by side items)

-- ---- all kinds of a message

-- F8 to F13, for a message to this ID that is no Abort of the provider. F9 to F13 hold only if F8 does not.
abbrev pub is_of_half_kind : Table → Side → List ℕ → List Item → Message → HalfMessages → Kind → Bool
is_of_half_kind table side id items m h kinds.WrongHalf = is_wrong_half side items m h
is_of_half_kind table side id items m h kinds.WrongDialogue =
    not (is_wrong_half side items m h) && is_wrong_dialogue side items id m h
is_of_half_kind table side id items m h kinds.InvokeIdBusy =
    not (is_wrong_half side items m h)
    && has_component (invokes_busy table h (h.outgoing ++ components_in m)) [] h.outgoing (components_in m)
is_of_half_kind table side id items m h kinds.BadLink =
    not (is_wrong_half side items m h) && has_component (links_badly table h) [] h.outgoing (components_in m)
is_of_half_kind table side id items m h kinds.AnsweredAlready =
    not (is_wrong_half side items m h) && has_component (answers_again table h) [] h.outgoing (components_in m)
is_of_half_kind table side id items m h kinds.RejectNotAllowed =
    not (is_wrong_half side items m h) && has_component (rejects_wrongly table h) [] h.outgoing (components_in m)
is_of_half_kind table side id items m h kind = false

-- F14, for an Abort of the provider with this cause.
abbrev pub is_of_reply_kind : Table → Side → List ℕ → List Item → HalfMessages → ℕ → Kind → Bool
is_of_reply_kind table side id items h cause kinds.WrongReply = is_wrong_reply table side id items h cause
is_of_reply_kind table side id items h cause kind = false

-- F10 and F11, for a message without destination ID: two of its Invokes have one ID, or one of them is linked.
abbrev pub is_of_alone_kind : Message → Kind → Bool
is_of_alone_kind m kinds.InvokeIdBusy = has_component invokes_again [] [] (components_in m)
is_of_alone_kind m kinds.BadLink = list_any is_linked (components_in m)
is_of_alone_kind m kind = false

-- F8 to F14, for a message to this ID; an Abort of the provider has a cause.
abbrev pub is_of_kind_to : Table → Side → List ℕ → List Item → Message → Option ℕ → Kind → Bool
is_of_kind_to table side id items m None kind =
    is_of_half_kind table side id items m (half_of side items id) kind
is_of_kind_to table side id items m (Some cause) kind =
    is_of_reply_kind table side id items (half_of side items id) cause kind

-- F8 to F14, by the destination ID.
abbrev pub is_of_further_kind : Table → Side → List Item → Message → Option (List ℕ) → Kind → Bool
is_of_further_kind table side items m None kind = is_of_alone_kind m kind
is_of_further_kind table side items m (Some id) kind = is_of_kind_to table side id items m (cause_in m) kind

-- Whether a message of this end has this kind, of F2 to F14, after these items since the last quiet mark. A message
-- that goes over tangled IDs has none.
abbrev pub is_fault : Table → Side → List Item → Message → Kind → Bool
is_fault table side items m kind =
    not (goes_over_tangled side items m)
    && (is_of_first_kind table side items m kind || is_of_further_kind table side items m (dtid_in m) kind)

-- F8 to F14, the lowest first.
abbrev pub further_kinds : List Kind
further_kinds = kinds.WrongHalf ∷ kinds.WrongDialogue ∷ kinds.InvokeIdBusy ∷ kinds.BadLink ∷ kinds.AnsweredAlready
    ∷ kinds.RejectNotAllowed ∷ kinds.WrongReply ∷ []

-- ---- a record

-- The kind of an entry that is no item, if this end sent it.
abbrev pub bad_entry_of : Side → Option Side → Reason → Option Kind
bad_entry_of side sender reason = cond (is_entry_of side sender) (kind_of_reason reason) None

-- The lowest kind of an item for this end, after these items since the last quiet mark. If the end used an own ID
-- again, by this item or before, there is no kind up to the next mark, nor at that mark.
abbrev pub fault_since : Table → Side → List Item → Item → Option Kind
fault_since table side items (Sent sender m) =
    cond (is_side side sender && not (has_used_again table side (items ++ Sent sender m ∷ [])))
    (find (is_fault table side items m) (first_kinds ++ further_kinds)) None
fault_since table side items Item.Quiet =
    cond (not (has_used_again table side items) && is_open_at_mark table side items) (Some kinds.OpenAtMark) None

-- The first of these entries that is a fault of the end, with its lowest kind. `number` is the count of the `items`
-- before them. Nothing after the first entry of either end that is no item is looked at.
abbrev pub blamed_after : Table → Side → List Item → ℕ → List (Option Side × Result Item Reason) → Option Refutation
blamed_after table side items number [] = None
blamed_after table side items number ((sender, Err reason) ∷ more) =
    refutation_at number (bad_entry_of side sender reason)
blamed_after table side items number ((sender, Ok item) ∷ more) =
    option_or (refutation_at number (fault_since table side (since_quiet items) item))
    (blamed_after table side (items ++ item ∷ []) (number + 1) more)

-- The first entry of this end, or quiet mark, that has a kind for it, with its lowest kind.
abbrev pub blamed : Table → Side → List Entry → Option Refutation
blamed table side entries = blamed_after table side [] 0 (map (λ e. (e.side, item_of e)) entries)
