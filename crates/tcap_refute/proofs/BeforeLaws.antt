-- A message that was sent since the last quiet mark is among the messages after it, and those are what tests find.
use Rattle.std.proofs.Common.{◌≡◌, Bool, true, false, cond, ℕ, List, [], ◌∷◌, ◌++◌, Some, refl, ap, sym, arith}
use Rattle.std.specs.Prelude.{Contains, ◌||◌}
use Rattle.std.specs.List.{cons_option, list_any}
use Rattle.std.proofs.lemmas.List.Elements.{Contains-append_right}
use Rattle.tcap_parts.specs.declared.component.Component.{Component}
use Rattle.tcap_msg.specs.declared.message.Message.{Message}
use Rattle.tcap_msg.specs.Parts.{components_in, otid_in}
use Rattle.tcap_record.specs.declared.entry.End.{End as Side}
use Rattle.tcap_end.specs.End.{is_id}
use Rattle.tcap_end.proofs.FoundLaws.{is_that_id}
use Rattle.tcap_record.specs.Ends.{other}
use Rattle.tcap_model.specs.World.{Item, Sent, is_side}
use Rattle.tcap_model.specs.Run.{only_if}
use Rattle.tcap_model.specs.World.{has_quiet}
use Rattle.tcap_model.specs.SinceMark.{SentSince}
use Rattle.tcap_model.proofs.WorldLaws.{itself}
use Rattle.tcap_model.proofs.RunLaws.{same_side}
use Rattle.tcap_refute.specs.EarlierMessages.{peer_sent_from, components_of, message_of, sent_by, since_quiet}
use Rattle.tcap_refute.proofs.Members.{filter_has, filter_map_has, flat_map_has, has_first, has_later}

-- ---- what is after the mark

-- A message with no mark after it is after the last mark.
behind_mark : (side : Side) (m : Message) (front behind : List Item) → has_quiet behind ≡ false
    → Contains (since_quiet (front ++ Sent side m ∷ behind)) (Sent side m)
behind_mark side m [] behind none = rw none (has_first (Sent side m) behind)
behind_mark side m (item ∷ front) behind none =
    by (has_quiet (item ∷ front ++ Sent side m ∷ behind)) (behind_mark side m front behind none)
  where
    all : List Item
    all = front ++ Sent side m ∷ behind

    by : (b : Bool) → Contains (since_quiet all) (Sent side m)
        → Contains (cond b (since_quiet all) (item ∷ all)) (Sent side m)
    by true later = later
    by false later = has_later item all (Sent side m)
        (Contains-append_right front (Sent side m ∷ behind) (Sent side m) (has_first (Sent side m) behind))

-- Such a message is among those that its end sent.
pub sent_has : (side : Side) (m : Message) (items : List Item) → SentSince side m items
    → Contains (sent_by side (since_quiet items)) m
sent_has side m items (front, behind, is, none) =
    rw is
    (filter_map_has (message_of side) (since_quiet (front ++ Sent side m ∷ behind)) (Sent side m) m
    (behind_mark side m front behind none) (ap (λ b. only_if b (Some m)) (itself side)))

-- Such a message is among those that the peer sent from its originating ID.
pub asked_has : (side : Side) (id : List ℕ) (m : Message) (items : List Item) → SentSince (other side) m items
    → otid_in m ≡ Some id → Contains (peer_sent_from side id (since_quiet items)) m
asked_has side id m items since from =
    filter_has (λ n. is_id id (otid_in n)) (sent_by (other side) (since_quiet items)) m
    (sent_has (other side) m items since) (is_that_id id (otid_in m) from)

-- Its components are among those of the peer's messages from that ID.
pub component_has : (side : Side) (id : List ℕ) (m : Message) (c : Component) (items : List Item)
    → SentSince (other side) m items → otid_in m ≡ Some id → Contains (components_in m) c
    → Contains (components_of (peer_sent_from side id (since_quiet items))) c
component_has side id m c items since from inside =
    flat_map_has components_in (peer_sent_from side id (since_quiet items)) m c (asked_has side id m items since from) inside

-- ---- what a test finds

-- The end sent a message since the last mark that passes.
abbrev pub Found : Side → (Message → Bool) → List Item → Type 0
Found side p items = (m : Message) × SentSince side m items × (p m ≡ true)

-- One more item in front changes nothing.
found_later : (side : Side) (p : Message → Bool) (item : Item) (items : List Item) → Found side p items
    → Found side p (item ∷ items)
found_later side p item items (m, (front, behind, is, clear), passes) =
    (m, (item ∷ front, behind, ap (λ more. item ∷ more) is, clear), passes)

-- If there is no mark, a message that a test finds was sent since the last mark.
found_all : (side : Side) (p : Message → Bool) (items : List Item) → has_quiet items ≡ false
    → list_any p (sent_by side items) ≡ true → Found side p items
found_all side p [] none found = cc
found_all side p (Item.Quiet ∷ items) none found = cc
found_all side p (Sent sender n ∷ items) none found =
    by (is_side side sender) refl found
    (λ rest. found_later side p (Sent sender n) items (found_all side p items none rest))
  where
    here : (b : Bool) → p n ≡ b → side ≡ sender → (b || list_any p (sent_by side items)) ≡ true
        → (list_any p (sent_by side items) ≡ true → Found side p (Sent sender n ∷ items))
        → Found side p (Sent sender n ∷ items)
    here true passes same is rest = (n, ([], items, ap (λ s. Sent s n ∷ items) (sym same), none), passes)
    here false passes same is rest = rest is

    by : (b : Bool) → is_side side sender ≡ b
        → list_any p (cons_option (only_if b (Some n)) (sent_by side items)) ≡ true
        → (list_any p (sent_by side items) ≡ true → Found side p (Sent sender n ∷ items))
        → Found side p (Sent sender n ∷ items)
    by true own is rest = here (p n) refl (same_side side sender own) is rest
    by false own is rest = rest is

-- A message that a test finds among those after the last mark was sent since that mark.
pub found_since : (side : Side) (p : Message → Bool) (items : List Item)
    → list_any p (sent_by side (since_quiet items)) ≡ true → Found side p items
found_since side p [] found = cc
found_since side p (item ∷ items) found = by (has_quiet (item ∷ items)) refl found (found_since side p items)
  where
    by : (b : Bool) → has_quiet (item ∷ items) ≡ b
        → list_any p (sent_by side (cond b (since_quiet items) (item ∷ items))) ≡ true
        → (list_any p (sent_by side (since_quiet items)) ≡ true → Found side p items) → Found side p (item ∷ items)
    by true mark is rest = found_later side p item items (rest is)
    by false none is rest = found_all side p (item ∷ items) none is
