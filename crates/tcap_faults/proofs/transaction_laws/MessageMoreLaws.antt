-- What one more message changes in what was sent, and in which IDs are joined.
use Rattle.std.proofs.Common.{◌≡◌, ℕ, Bool, true, false, cond, ◌&&◌, ◌||◌, List, [], ◌∷◌, ◌++◌, Option, Some, None, is_some, refl, sym, ap, ◌∙◌, arith}
use Rattle.std.specs.Prelude.{filter, filter_map, is_none}
use Rattle.std.specs.List.{list_any}
use Rattle.std.proofs.lemmas.List.Elements.{filter-append, filter_map-append}
use Rattle.std.proofs.lemmas.List.Folds.{list_any-append}
use Rattle.tcap_msg.specs.declared.kind.Kind.TheVariants as forms
use Rattle.tcap_msg.specs.declared.message.Message.{Message}
use Rattle.tcap_msg.specs.declared.message.Message.TheVariants.{Continue, End as EndMessage, Abort}
use Rattle.tcap_msg.specs.Parts.{dtid_in, otid_in, reason_cause}
use Rattle.tcap_record.specs.declared.entry.End.{End as Side}
use Rattle.tcap_record.specs.declared.entry.End.TheVariants as sides
use Rattle.tcap_record.specs.Ends.{other}
use Rattle.tcap_end.specs.End.{is_id}
use Rattle.tcap_model.specs.World.{Item, Sent}
use Rattle.tcap_model.specs.SinceMark.{ended_by}
use Rattle.tcap_refute.specs.EarlierMessages.{is_a, sent_by}
use Rattle.tcap_refute.proofs.TestLaws.{or_none}
use Rattle.tcap_faults.specs.SentToId.{is_continue_from, is_continue_to, has_ended, has_used}
use Rattle.tcap_faults.specs.History.{dtids_of, sent_from, sent_to}
use Rattle.tcap_faults.specs.HistoryUpdate.{with_more}
use Rattle.tcap_faults.specs.TangledIds.{peers_of}
use Rattle.tcap_faults.proofs.view_laws.GrowthLaws.{their_same}
use Rattle.tcap_faults.proofs.run_laws.ItemLaws.{sent_own}
use Rattle.tcap_faults.proofs.list_laws.OneMoreLaws.{any_more, filter_more}

-- ---- messages

-- A message without a destination ID, or without an originating ID, is no Continue; a message with both is one.
pub begin_only : (m : Message) → dtid_in m ≡ None → is_a forms.Continue m ≡ false
begin_only m none = grind (arith, none)

pub end_only : (m : Message) → otid_in m ≡ None → is_a forms.Continue m ≡ false
end_only m none = grind (arith, none)

pub goes_both : (m : Message) (from to : List ℕ) → otid_in m ≡ Some from → dtid_in m ≡ Some to
    → is_a forms.Continue m ≡ true
goes_both m from to otid_is dtid_is = grind (arith, otid_is, dtid_is)

-- A message with an originating ID, or without a destination ID, ends nothing.
pub ends_none : (m : Message) (from : List ℕ) → otid_in m ≡ Some from → ended_by m ≡ None
ends_none m from is = grind (arith, is)

pub ends_nowhere : (m : Message) → dtid_in m ≡ None → ended_by m ≡ None
ends_nowhere m none = grind (arith, none)

-- Another message that ends something ends its destination ID.
pub ends_it : (m : Message) (to : List ℕ) → dtid_in m ≡ Some to → is_some (ended_by m) ≡ true → ended_by m ≡ Some to
ends_it (EndMessage dtid dialogue components) to is ends = is
ends_it (Abort dtid reason) to is ends = grind (arith, ends)
ends_it m to is ends = cc

pub ends_not : {A : Type 0} (o : Option A) → is_some o ≡ false → o ≡ None
ends_not o none = grind (arith, none)

-- ---- lists of joined IDs

-- Whether there is a value, and it passes.
abbrev pub passes_of : {B : Type 0} → (B → Bool) → Option B → Bool
passes_of p None = false
passes_of p (Some x) = p x

pub any_mapped : {A B : Type 0} (p : B → Bool) (f : A → Option B) (q : A → Bool) (xs : List A) (x : A)
    → list_any p (filter_map f (filter q (xs ++ x ∷ [])))
    ≡ (list_any p (filter_map f (filter q xs)) || (q x && passes_of p (f x)))
any_mapped {A} {B} p f q xs x =
    ap (λ l. list_any p (filter_map f l)) (filter_more q xs x)
    ∙ ap (list_any p) (filter_map-append f (filter q xs) (cond (q x) (x ∷ []) []))
    ∙ list_any-append p (filter_map f (filter q xs)) (filter_map f (cond (q x) (x ∷ []) []))
    ∙ ap (λ b. list_any p (filter_map f (filter q xs)) || b) (by (q x) (f x) refl)
  where
    by : (b : Bool) (o : Option B) → f x ≡ o
        → list_any p (filter_map f (cond b (x ∷ []) [])) ≡ (b && passes_of p (f x))
    by false o is = refl
    by true None is = rw is refl
    by true (Some y) is = rw is (sym (or_none (p y)))

-- The IDs of the peer that Continues of the end join with an own ID.
abbrev pub fronts : Side → List Item → List ℕ → List (List ℕ)
fronts side items own = filter_map dtid_in (filter (is_continue_from own) (sent_by side items))

-- The IDs of the peer that Continues of the peer join with an own ID.
abbrev pub backs : Side → List Item → List ℕ → List (List ℕ)
backs side items own = filter_map otid_in (filter (is_continue_to own) (sent_by (other side) items))

pub peers_any : (p : List ℕ → Bool) (side : Side) (items : List Item) (own : List ℕ)
    → list_any p (peers_of side items own)
    ≡ (list_any p (fronts side items own) || (has_used side items own && list_any p (backs side items own)))
peers_any p side items own =
    list_any-append p (fronts side items own) (cond (has_used side items own) (backs side items own) [])
    ∙ ap (λ b. list_any p (fronts side items own) || b) (by (has_used side items own))
  where
    by : (b : Bool) → list_any p (cond b (backs side items own) []) ≡ (b && list_any p (backs side items own))
    by b = grind arith

-- ---- what was sent

-- The peer's peer is the end.
pub twice_own : (side : Side) (m : Message) (items : List Item)
    → sent_by (other (other side)) (items ++ Sent side m ∷ []) ≡ sent_by (other (other side)) items ++ m ∷ []
twice_own sides.A m items = sent_own sides.A m items
twice_own sides.B m items = sent_own sides.B m items

module _ (side : Side) (items : List Item) (m : Message) where
  pub from_own : (id : List ℕ)
      → sent_from side (items ++ Sent side m ∷ []) id ≡ with_more otid_in m (sent_from side items) id
  from_own id = rw (sent_own side m items) (filter_more (λ m. is_id id (otid_in m)) (sent_by side items) m)

  pub to_own : (id : List ℕ)
      → sent_to side (items ++ Sent side m ∷ []) id ≡ with_more dtid_in m (sent_to side items) id
  to_own id = rw (sent_own side m items) (filter_more (λ m. is_id id (dtid_in m)) (sent_by side items) m)

  pub from_theirs : (id : List ℕ)
      → sent_from (other side) (items ++ Sent side m ∷ []) id ≡ sent_from (other side) items id
  from_theirs id = rw (their_same side m items) refl

  pub to_theirs : (id : List ℕ)
      → sent_to (other side) (items ++ Sent side m ∷ []) id ≡ sent_to (other side) items id
  to_theirs id = rw (their_same side m items) refl

  pub used_own : (own : List ℕ)
      → has_used side (items ++ Sent side m ∷ []) own ≡ (has_used side items own || is_id own (otid_in m))
  used_own own = rw (sent_own side m items) (any_more (λ m. is_id own (otid_in m)) (sent_by side items) m)

  pub used_theirs : (id : List ℕ)
      → has_used (other side) (items ++ Sent side m ∷ []) id ≡ has_used (other side) items id
  used_theirs id = rw (their_same side m items) refl

  pub ended_own : (id : List ℕ)
      → has_ended side (items ++ Sent side m ∷ []) id ≡ (has_ended side items id || is_id id (ended_by m))
  ended_own id = rw (sent_own side m items) (any_more (λ m. is_id id (ended_by m)) (sent_by side items) m)

  pub ended_theirs : (id : List ℕ)
      → has_ended (other side) (items ++ Sent side m ∷ []) id ≡ has_ended (other side) items id
  ended_theirs id = rw (their_same side m items) refl

  pub dtids_own : (id : List ℕ)
      → dtids_of (sent_from side (items ++ Sent side m ∷ []) id)
      ≡ dtids_of (sent_from side items id) ++ dtids_of (cond (is_id id (otid_in m)) (m ∷ []) [])
  dtids_own id =
      ap dtids_of (from_own id)
      ∙ ap (filter_map dtid_in)
      (filter-append (is_a forms.Continue) (sent_from side items id) (cond (is_id id (otid_in m)) (m ∷ []) []))
      ∙ filter_map-append dtid_in (filter (is_a forms.Continue) (sent_from side items id)) _

  pub peers_own : (p : List ℕ → Bool) (own : List ℕ)
      → list_any p (peers_of side (items ++ Sent side m ∷ []) own)
      ≡ ((list_any p (fronts side items own) || (is_continue_from own m && passes_of p (dtid_in m)))
      || ((has_used side items own || is_id own (otid_in m)) && list_any p (backs side items own)))
  peers_own p own =
      peers_any p side (items ++ Sent side m ∷ []) own
      ∙ rw (sent_own side m items, their_same side m items, any_mapped p dtid_in (is_continue_from own) (sent_by side items) m, any_more (λ m. is_id own (otid_in m)) (sent_by side items) m)
      refl

  pub peers_theirs : (p : List ℕ → Bool) (id : List ℕ)
      → list_any p (peers_of (other side) (items ++ Sent side m ∷ []) id)
      ≡ (list_any p (fronts (other side) items id)
      || (has_used (other side) items id
      && (list_any p (backs (other side) items id) || (is_continue_to id m && passes_of p (otid_in m)))))
  peers_theirs p id =
      peers_any p (other side) (items ++ Sent side m ∷ []) id
      ∙ rw (their_same side m items, twice_own side m items, any_mapped p otid_in (is_continue_to id) (sent_by (other (other side)) items) m)
      refl
