-- What a `Cut` keeps after an entry joins the live dialogues that have one of its IDs.
use Rattle.std.specs.Prelude.{◌≡◌, ◌⊎◌, ℕ, Bool, true, cond, List, length, map, nat_lt, not, ◌==◌, ◌||◌, Option, Some, None, false}
use Rattle.std.specs.BTreeMap as tree
use Rattle.std.specs.BTreeSet as set
use Rattle.std.specs.List.{list_any}
use Rattle.std.specs.Option.{option_to_list}
use Rattle.std.specs.Ordering.{nat_cmp}
use Rattle.tcap_record.specs.declared.entry.End.{End as Side}
use Rattle.tcap_model.specs.World.{is_side}
use Rattle.tcap_dialogues.specs.Course.{Course, Heading, begun_by, has_entry, ids_in, is_begin, lower, over_by, own_ids, peer_ids}
use Rattle.tcap_dialogues.specs.DialoguesOfList.{IdOf, is_among}
use Rattle.tcap_dialogues.specs.CutDialogues.{has_id}
use Rattle.tcap_dialogues.specs.CutState.{HasValuesOf, HoldsLive, HoldsOver, IsJoinedLive, changed, earlier_of, has_sent, higher, is_unsettled, known_at, without_name, with_name}
use Rattle.tcap_dialogues.specs.declared.cut.Cut.{Cut}
use Rattle.tcap_dialogues.specs.declared.known_ids.Change.TheVariants as changes
use Rattle.tcap_dialogues.specs.declared.known_ids.Ids.{Ids}
use Rattle.tcap_dialogues.specs.declared.known_ids.IdState.{IdState}
use Rattle.tcap_dialogues.specs.declared.live.LiveDialogue.{LiveDialogue}

-- the ID of an end, if there is one
abbrev pub ids_at : Side → Option (List ℕ) → List IdOf
ids_at end id = map (λ octets. record { end = end; octets = octets }) (option_to_list id)

-- ---- one more entry

-- A live dialogue has these IDs in addition.
pub record HasId (ids : List IdOf) (old new : LiveDialogue) : Type 0 where
  pub ids_are : (id : IdOf) → has_id new.a new.b id ≡ has_id old.a old.b id || is_among ids id
  pub rest : new ≡ record old { a = new.a; b = new.b }

-- This end has sent an entry of a live dialogue, in addition.
pub record HasSender (sender : Side) (old new : LiveDialogue) : Type 0 where
  pub senders : (side : Side) → has_sent new side ≡ has_sent old side || is_side side sender
  pub rest : new ≡ record old { a_sent = new.a_sent; b_sent = new.b_sent }

-- A live dialogue has this entry in addition.
pub record HasEntry (number : ℕ) (h : Heading) (own peer : IdState) (old new : LiveDialogue) : Type 0 where
  pub name : new.name ≡ old.name
  pub numbers : (n : ℕ) → set.contains nat_cmp new.numbers n ≡ set.contains nat_cmp old.numbers n || (number == n)
  pub ids : (id : IdOf) → has_id new.a new.b id ≡ has_id old.a old.b id || is_among (ids_in h) id
  pub senders : (side : Side) → has_sent new side ≡ has_sent old side || is_side side h.sender
  pub begun : new.begun ≡ old.begun || nat_lt 0 (length (begun_by h))
  pub over : new.over ≡ lower old.over (over_by number h)
  pub early : new.early ≡ old.early || not h.under_way
  pub earlier_is : new.earlier ≡ higher old.earlier (higher (earlier_of own) (earlier_of peer))
  pub unsettled : new.unsettled ≡ old.unsettled || (is_unsettled own || is_unsettled peer)

-- what is known of the IDs of an entry after it joins this dialogue
abbrev pub own_known : Heading → ℕ → IdState → IdState
own_known h name own = record {
  dialogue = Some name;
  used = true;
  begun = own.begun || is_begin h.kind;
  last = own.last;
  firm = own.firm;
  sent = true;
}

-- The IDs of the entry are known as those of this dialogue, and the knowledge of others stays.
abbrev pub AreNoted : Heading → ℕ → IdState → IdState → Ids → Ids → Type 0
AreNoted h name own peer old new =
    (id : IdOf) → known_at new id
    ≡ cond (is_among (peer_ids h) id) (changed (changes.JoinTo name) peer)
    (cond (is_among (own_ids h) id) (own_known h name own) (known_at old id))

-- ---- the dialogues that the entry joins

-- The dialogue with this name was taken out, or there was none.
pub record TakesOne (number : Option ℕ) (live : List Course) (name : Course → ℕ) (old new : Cut)
    (taken : LiveDialogue) : Type 0 where
  pub lives : HoldsLive (without_name name number live) name new.live
  pub overs : HoldsOver (without_name name number live) name new.overs
  pub one : IsJoinedLive old.count (with_name name number live) name taken
  pub rest : new ≡ record old { live = new.live; overs = new.overs }

-- The dialogues are joined into one, whose name is that of one of them or the number of the next entry.
pub record IsJoined (n : ℕ) (ds : List Course) (old new : Cut) (l : LiveDialogue) : Type 0 where
  pub kept : HasValuesOf ds l
  pub entry : (l.name ≡ n) ⊎ (list_any (λ d. has_entry d l.name) ds ≡ true)
  pub ids : (id : IdOf) → known_at new.ids id
      ≡ cond (list_any (λ d. is_among d.ids id) ds) (changed (changes.JoinTo l.name) (known_at old.ids id))
      (known_at old.ids id)
  pub rest : new ≡ record old { ids = new.ids }

-- The dialogue is put back under its name, and under the number with which it is over.
abbrev pub is_over_at : Option ℕ → ℕ → Bool
is_over_at None number = false
is_over_at (Some over) number = over == number

-- This live dialogue is in the cut, and the others stay.
pub record IsAdded (l : LiveDialogue) (old new : Cut) : Type 0 where
  pub lives : (number : ℕ)
      → tree.get nat_cmp new.live number ≡ cond (l.name == number) (Some l) (tree.get nat_cmp old.live number)
  pub overs : (number : ℕ) → tree.get nat_cmp new.overs number
      ≡ cond (is_over_at l.over number) (Some l.name) (tree.get nat_cmp old.overs number)
  pub rest : new ≡ record old { live = new.live; overs = new.overs }
