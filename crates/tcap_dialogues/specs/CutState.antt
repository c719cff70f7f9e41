-- What a `Cut` keeps of the dialogues of a segment while its entries arrive.
use Rattle.std.specs.Prelude.{◌≡◌, ⊤, ℕ, ◌+◌, ◌≤◌, ◌⊎◌, Bool, true, false, List, [], ◌∷◌, ◌++◌, filter, length, ◌==◌, ◌&&◌, ◌||◌, not, Contains, Option, Some, None, is_none, is_some, cond, max, nat_lt}
use Rattle.std.specs.BTreeMap as tree
use Rattle.std.specs.BTreeMap.{BTreeMap}
use Rattle.std.specs.BTreeSet as set
use Rattle.std.specs.List.{flat_map, list_any}
use Rattle.std.specs.Ordering.{nat_cmp}
use Rattle.tcap_record.specs.declared.entry.End.{End as Side}
use Rattle.tcap_end.specs.Table.{octets_cmp}
use Rattle.tcap_model.specs.World.{is_side}
use Rattle.tcap_dialogues.specs.Course.{Course, Courses, Earlier, Heading, begins_from, courses_so_far, firm_in, first_over, gives_to_another, goes_on_with_another, has_begin, has_entry, share_id, ids_in, is_past, own_ids, with_entry}
use Rattle.tcap_dialogues.specs.DialoguesOfList.{IdOf, is_among}
use Rattle.tcap_dialogues.specs.CutDialogues.{by_end, has_id}
use Rattle.tcap_dialogues.specs.declared.cut.Cut.{Cut}
use Rattle.tcap_dialogues.specs.declared.known_ids.Change.{Change}
use Rattle.tcap_dialogues.specs.declared.known_ids.Change.TheVariants as changes
use Rattle.tcap_dialogues.specs.declared.known_ids.EndIds.{EndIds}
use Rattle.tcap_dialogues.specs.declared.known_ids.FreeIdState.{FreeIdState}
use Rattle.tcap_dialogues.specs.declared.known_ids.Ids.{Ids}
use Rattle.tcap_dialogues.specs.declared.known_ids.IdState.{IdState}
use Rattle.tcap_dialogues.specs.declared.live.LiveDialogue.{LiveDialogue}
use Rattle.tcap_dialogues.specs.declared.reuse.Reuse.{Reuse}
use Rattle.tcap_dialogues.specs.declared.reuse.Reuse.TheVariants as reuses

-- ---- what is known of an ID

-- the knowledge of an ID that a live dialogue has, or of one that only dialogues that are done had
abbrev pub known_by : Option IdState → Option FreeIdState → IdState
known_by (Some known) found = known
known_by None None = record { dialogue = None; used = false; begun = false; last = None; firm = false; sent = false }
known_by None (Some free) = record {
  dialogue = None;
  used = false;
  begun = false;
  last = Some free.last;
  firm = free.firm;
  sent = free.sent;
}

-- the knowledge of an ID that no dialogue has had
abbrev pub nothing : IdState
nothing = known_by None None

-- what is kept of an ID after its dialogue is done, and the ID is free
abbrev pub last_of : ℕ → Option ℕ → ℕ
last_of first None = first
last_of first (Some last) = cond (nat_lt first last) last first

abbrev pub free_id_since : ℕ → Bool → IdState → FreeIdState
free_id_since first early known = record {
  last = last_of first known.last;
  firm = known.firm || known.used || not early;
  sent = known.sent;
}

abbrev pub free_since : ℕ → Bool → IdState → IdState
free_since first early known = known_by None (Some (free_id_since first early known))

-- the knowledge of an ID, from both maps of its end
abbrev pub known_in : EndIds → List ℕ → IdState
known_in ids octets = known_by (tree.get octets_cmp ids.live octets) (tree.get octets_cmp ids.done octets)

-- the knowledge of an ID
abbrev pub known_at : Ids → IdOf → IdState
known_at ids id = known_in (by_end id.end ids.a ids.b) id.octets

-- the knowledge of the ID of an end, if there is one
abbrev pub known_of : Ids → Side → Option (List ℕ) → IdState
known_of ids end None = nothing
known_of ids end (Some octets) = known_at ids (record { end = end; octets = octets })

-- the knowledge of an ID after a change
abbrev pub changed : Change → IdState → IdState
changed (changes.Free first early) known = free_since first early known
changed (changes.JoinTo name) known = record known { dialogue = Some name }

-- the number of the last dialogue that had an ID, unless a live dialogue has it
abbrev pub earlier_of : IdState → Option ℕ
earlier_of known = cond (is_none known.dialogue) known.last None

-- whether an earlier dialogue had an ID, no live dialogue has it, and it is not firm
abbrev pub is_unsettled : IdState → Bool
is_unsettled known = is_some (earlier_of known) && not known.firm

-- the higher of two numbers, if there are any
abbrev pub higher : Option ℕ → Option ℕ → Option ℕ
higher None number = number
higher number None = number
higher (Some a) (Some b) = Some (max a b)

-- ---- live dialogues by name

-- whether the dialogue has this name; those that do; and the others
abbrev pub is_named : (Course → ℕ) → Option ℕ → Course → Bool
is_named name None d = false
is_named name (Some number) d = name d == number

abbrev pub with_name : (Course → ℕ) → Option ℕ → List Course → List Course
with_name name number live = filter (is_named name number) live

abbrev pub without_name : (Course → ℕ) → Option ℕ → List Course → List Course
without_name name number live = filter (λ d. not (is_named name number d)) live

-- whether an end sent an entry of a live dialogue
abbrev pub has_sent : LiveDialogue → Side → Bool
has_sent l side = by_end side l.a_sent l.b_sent

-- The values kept are those of these dialogues joined into one.
pub record HasValuesOf (ds : List Course) (l : LiveDialogue) : Type 0 where
  pub numbers : (n : ℕ) → set.contains nat_cmp l.numbers n ≡ list_any (λ d. has_entry d n) ds
  pub ids : (id : IdOf) → has_id l.a l.b id ≡ list_any (λ d. is_among d.ids id) ds
  pub senders : (side : Side) → has_sent l side ≡ list_any (λ d. list_any (is_side side) d.senders) ds
  pub begun : l.begun ≡ list_any has_begin ds
  pub over : l.over ≡ first_over ds
  pub early : l.early ≡ list_any (λ d. d.early) ds
  pub again : is_some l.earlier ≡ list_any (λ d. d.again) ds
  pub unsettled : l.unsettled ≡ list_any (λ d. d.unsettled) ds

-- Each live dialogue is kept under its name, which is the number of one of its entries, and no others are kept.
pub record HoldsLive (live : List Course) (name : Course → ℕ) (lives : BTreeMap ℕ LiveDialogue) : Type 0 where
  pub there : (d : Course) → Contains live d
      → (l : LiveDialogue) × (tree.get nat_cmp lives (name d) ≡ Some l) × (l.name ≡ name d) × HasValuesOf (d ∷ []) l
  pub back : (number : ℕ) (l : LiveDialogue) → tree.get nat_cmp lives number ≡ Some l
      → (d : Course) × Contains live d × (name d ≡ number)
  pub entry : (d : Course) → Contains live d → has_entry d (name d) ≡ true

-- The names of the live dialogues that are over are kept, by the number of the first entry with which each is over.
pub record HoldsOver (live : List Course) (name : Course → ℕ) (overs : BTreeMap ℕ ℕ) : Type 0 where
  pub there : (d : Course) (number : ℕ) → Contains live d → d.over ≡ Some number
      → tree.get nat_cmp overs number ≡ Some (name d)
  pub back : (number found : ℕ) → tree.get nat_cmp overs number ≡ Some found
      → (d : Course) × Contains live d × (d.over ≡ Some number) × (name d ≡ found)

-- The knowledge of an ID: which live dialogue has it, whether a dialogue that is done had it, whether it is firm then,
-- and whether its owner sent a message from it.
abbrev pub IsOwned : List Course → (Course → ℕ) → IdOf → Option ℕ → Bool → Bool → Type 0
IsOwned live name id None used begun =
    ((d : Course) → Contains live d → is_among d.ids id ≡ false) × (used ≡ false) × (begun ≡ false)
IsOwned live name id (Some number) used begun =
    (d : Course) × Contains live d × (is_among d.ids id ≡ true) × (name d ≡ number) × (used ≡ is_among d.used id)
    × (begun ≡ is_among d.begun id)

-- The knowledge of an ID is right for these dialogues.
pub record IsIdState (s : Courses) (name : Course → ℕ) (sent : IdOf → Bool) (id : IdOf) (known : IdState) : Type 0 where
  pub owned : IsOwned s.live name id known.dialogue known.used known.begun
  pub came : is_some known.last ≡ is_among (flat_map (λ d. d.ids) s.done) id
  pub firm_is : known.firm ≡ is_among (flat_map firm_in s.done) id
  pub sent_is : known.sent ≡ sent id

-- The live dialogues, and the IDs of all dialogues, are kept.
pub record IsCutState (s : Courses) (name : Course → ℕ) (sent : IdOf → Bool) (kept : Cut) : Type 0 where
  pub lives : HoldsLive s.live name kept.live
  pub overs : HoldsOver s.live name kept.overs
  pub ids : (id : IdOf) → IsIdState s name sent id (known_at kept.ids id)

-- what is kept of a segment after n entries
pub record IsCutOf (reuse : Reuse) (n : ℕ) (s : Courses) (sent : IdOf → Bool) (kept : Cut) : Type 0 where
  pub reuse_is : kept.reuse ≡ reuse
  pub count_is : kept.count ≡ n
  pub name : Course → ℕ
  pub held : IsCutState s name sent kept

-- the number of live dialogues that a cut keeps
abbrev pub live_count : Cut → ℕ
live_count kept = length kept.live.entries

-- The cut keeps what the segment with these headings requires.
abbrev pub IsCut : Reuse → List Heading → Cut → Type 0
IsCut reuse headings kept =
    IsCutOf reuse (length headings) (courses_so_far reuse headings) (is_among (flat_map own_ids headings)) kept

-- ---- properties of live dialogues

-- No two live dialogues share an ID or an entry, and the values of each come from its entries and IDs.
pub record AreApart (live : List Course) : Type 0 where
  pub one_id : (d e : Course) (id : IdOf) → Contains live d → Contains live e → is_among d.ids id ≡ true
      → is_among e.ids id ≡ true → d ≡ e
  pub one_number : (d e : Course) (i : ℕ) → Contains live d → Contains live e → has_entry d i ≡ true
      → has_entry e i ≡ true → d ≡ e
  pub over_in : (d : Course) (number : ℕ) → Contains live d → d.over ≡ Some number → has_entry d number ≡ true
  pub used_in : (d : Course) (id : IdOf) → Contains live d → is_among d.used id ≡ true → is_among d.ids id ≡ true
  pub begun_in : (d : Course) (id : IdOf) → Contains live d → is_among d.begun id ≡ true → is_among d.ids id ≡ true

-- No live dialogue has been over for longer than its IDs linger.
abbrev pub Lingers : Reuse → ℕ → Option ℕ → Type 0
Lingers reuses.Once n over = ⊤
Lingers (reuses.Again linger) n None = ⊤
Lingers (reuses.Again linger) n (Some number) = n ≤ (number + linger) + 1

-- ---- free IDs

-- whether a dialogue has been over for longer than its IDs linger
abbrev pub is_past_by : Reuse → ℕ → Course → Bool
is_past_by reuses.Once n d = false
is_past_by (reuses.Again linger) n d = is_past linger n d.over

-- whether the sender of a heading uses an ID of a dialogue for another one
abbrev pub is_used_anew : Courses → Heading → Course → Bool
is_used_anew s h d = begins_from h d.ids || gives_to_another s.live h d || goes_on_with_another s h d

-- whether a dialogue is over and the sender of a heading uses an ID of it for another one
abbrev pub is_given_up : Reuse → Courses → Heading → Course → Bool
is_given_up reuses.Once s h d = false
is_given_up (reuses.Again linger) s h d = is_some d.over && is_used_anew s h d

-- ---- dialogues that are taken out

-- The dialogues with this name, if there are any, were taken out.
abbrev pub AreTakenOut : List Course → (Course → ℕ) → Option LiveDialogue → Type 0
AreTakenOut ds name None = (d : Course) → Contains ds d → ⊥
AreTakenOut ds name (Some l) =
    HasValuesOf ds l × ((d : Course) → Contains ds d → name d ≡ l.name) × (list_any (λ d. has_entry d l.name) ds ≡ true)

-- The dialogue with this name, if there is one, was taken out of the cut, and the others are kept.
pub record IsTakenOut (number : Option ℕ) (live : List Course) (name : Course → ℕ) (old new : Cut)
    (taken : Option LiveDialogue) : Type 0 where
  pub lives : HoldsLive (without_name name number live) name new.live
  pub overs : HoldsOver (without_name name number live) name new.overs
  pub out : AreTakenOut (with_name name number live) name taken
  pub rest : new ≡ record old { live = new.live; overs = new.overs }

-- The dialogues are kept in one, whose name is theirs or, if there is none, the number of the next entry.
pub record IsJoinedLive (n : ℕ) (ds : List Course) (name : Course → ℕ) (l : LiveDialogue) : Type 0 where
  pub kept : HasValuesOf ds l
  pub named : (d : Course) → Contains ds d → name d ≡ l.name
  pub entry : (l.name ≡ n) ⊎ (list_any (λ d. has_entry d l.name) ds ≡ true)

-- the dialogues after those with this name are done
abbrev pub after_done : (Course → ℕ) → Option ℕ → Courses → Courses
after_done name number s = record {
  done = s.done
      ++ with_name name number s.live;
  live = without_name name number s.live;
}

-- the live dialogues after one more entry
abbrev pub with_joined_entry : Earlier → ℕ → Heading → List Course → List Course
with_joined_entry earlier n h left =
    filter (λ d. not (share_id (ids_in h) d.ids)) left
    ++ with_entry earlier n h (filter (λ d. share_id (ids_in h) d.ids) left) ∷ []
