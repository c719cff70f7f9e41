-- What is kept of joined IDs, step by step.
use Rattle.std.proofs.Common.{◌≡◌, ℕ, Bool, true, false, not, ◌&&◌, ◌||◌, List, [], Some, None, bytes_eq, refl, sym, ap, ◌∙◌, arith}
use Rattle.std.specs.Prelude.{OnOk, filter, filter_map}
use Rattle.std.specs.List.{list_any}
use Rattle.std.specs.Map.{lookup}
use Rattle.std.specs.BTreeMap.{BTreeMap, is_at}
use Rattle.std.specs.BTreeSet as set
use Rattle.std.specs.BTreeSet.{BTreeSet}
use Rattle.std.specs.declared.result.Result.{Result}
use Rattle.std.specs.declared.result.Result.TheVariants.{Ok, Err}
use Rattle.std.proofs.lemmas.Bool.{and_right}
use Rattle.std.proofs.lemmas.List.Folds.{list_any-append}
use Rattle.tcap_msg.specs.declared.message.Message.{Message}
use Rattle.tcap_msg.specs.Parts.{dtid_in, otid_in}
use Rattle.tcap_record.specs.declared.entry.End.{End as Side}
use Rattle.tcap_record.specs.Ends.{other}
use Rattle.tcap_end.specs.Table.{Table, octets_cmp}
use Rattle.tcap_model.specs.World.{Item}
use Rattle.tcap_refute.specs.EarlierMessages.{sent_by}
use Rattle.tcap_faults.specs.SentToId.{is_continue_from, is_continue_to, has_ended, has_used}
use Rattle.tcap_faults.specs.declared.transaction.id_list.Ids.{Ids}
use Rattle.tcap_faults.specs.declared.transaction.history.SideFacts.{SideFacts}
use Rattle.tcap_faults.specs.declared.transaction.sent_to_id.SentTo.{SentTo}
use Rattle.tcap_faults.specs.IdList.{AreAmong}
use Rattle.tcap_faults.specs.JoinedIds.{GetsMore, HasMore}
use Rattle.tcap_faults.specs.History.{IsSide, IsToAt, dtids_of, otids_of, sent_from, sent_to}
use Rattle.tcap_faults.specs.TangledIds.{owns_of}
use Rattle.tcap_faults.proofs.transaction_laws.JoinTestLaws.{dtids_are, otids_are}
use Rattle.tcap_faults.proofs.transaction_laws.JoinedIdsLaws.{bytes_turned, gets_none, gets_same, has_none, same_itself}
use Rattle.tcap_faults.proofs.transaction_laws.HistoryLookupLaws.{other_twice}
use Rattle.tcap_refute.proofs.TestLaws.{and_true}

-- If a call succeeds, all that holds then holds together.
pub on_ok_each : {A E X : Type 0} (r : Result A E) (P : X → Type 0) → ((x : X) → OnOk r (P x))
    → OnOk r ((x : X) → P x)
on_ok_each (Ok a) P each = each
on_ok_each (Err e) P each = tt

-- ---- messages to an ID

module _ (table : Table) (side : Side) (items : List Item) (facts : SideFacts) (id : List ℕ)
    (is : IsSide table side items facts) where
  pub sent_none : None ≡ lookup (is_at (octets_cmp id)) facts.to.entries → sent_to side items id ≡ []
  sent_none none = rw (← none) at (is.to id)

  pub sent_among : (kept : SentTo) → Some kept ≡ lookup (is_at (octets_cmp id)) facts.to.entries
      → AreAmong (otids_of (sent_to side items id)) (Some kept.from)
  sent_among kept some =
      let (there, so) = rw (← some) at (is.to id) in
      (otids_of (sent_to side items id), so.from, same_itself (otids_of (sent_to side items id)))

-- ---- the first use of an ID

module _ (side : Side) (items : List Item) (id : List ℕ) where
  came_none : sent_to (other side) items id ≡ [] → (p : List ℕ → Bool)
      → list_any p (otids_of (sent_to (other side) items id)) ≡ false
  came_none none p = rw none refl

  -- If nothing was sent to the ID, nothing changes.
  pub first_gets_none : sent_to (other side) items id ≡ [] → (old : BTreeMap (List ℕ) Ids)
      → GetsMore (λ key. not (has_used side items id)
      && list_any (bytes_eq key) (otids_of (sent_to (other side) items id))) id old old
  first_gets_none none old = gets_none id _ old (λ key. and_right _ _ (came_none none (bytes_eq key)))

  pub first_has_none : sent_to (other side) items id ≡ [] → (old : BTreeSet (List ℕ))
      → HasMore (λ key. bytes_eq key id && not (has_used side items id)
      && list_any (has_ended side items) (otids_of (sent_to (other side) items id))) old old
  first_has_none none old = has_none _ old (λ key. and_right _ _ (came_none none (has_ended side items)))

  -- If the ID was not used before.
  module _ (fresh : has_used side items id ≡ false) where
    pub first_gets : (old new : BTreeMap (List ℕ) Ids)
        → GetsMore (λ key. list_any (bytes_eq key) (otids_of (sent_to (other side) items id))) id old new
        → GetsMore (λ key. not (has_used side items id)
        && list_any (bytes_eq key) (otids_of (sent_to (other side) items id))) id old new
    first_gets old new gets = gets_same id _ _ old new (λ key. rw fresh refl) gets

    pub first_has : (ended : Bool) → ended ≡ list_any (has_ended side items) (otids_of (sent_to (other side) items id))
        → (old new : BTreeSet (List ℕ)) → HasMore (λ key. bytes_eq key id && ended) old new
        → HasMore (λ key. bytes_eq key id && not (has_used side items id)
        && list_any (has_ended side items) (otids_of (sent_to (other side) items id))) old new
    first_has ended is old new more = λ key. more key ∙ rw (is, fresh) (by (set.contains octets_cmp old key) (bytes_eq key id) _)
      where
        by : (a b e : Bool) → (a || (b && e)) ≡ (a || ((b && true) && e))
        by a b e = grind arith

-- ---- a Continue

pub continue_gets : (from to : List ℕ) (used : Bool) → used ≡ true → (old new : BTreeMap (List ℕ) Ids)
    → GetsMore (bytes_eq from) to old new → GetsMore (λ key. bytes_eq key from && used) to old new
continue_gets from to used is old new gets =
    gets_same to _ _ old new (λ key. bytes_turned from key ∙ rw is (sym (and_true (bytes_eq key from)))) gets

-- ---- a user's end

module _ (side : Side) (items : List Item) (id : List ℕ) where
  -- The own IDs from which the end sent Continues to the ID, and those to which the peer sent Continues from it.
  pub end_more : has_ended side items id ≡ false → (old mid new : BTreeSet (List ℕ))
      → HasMore (λ own. list_any (bytes_eq own) (otids_of (sent_to side items id))) old mid
      → HasMore (λ own. list_any (bytes_eq own)
      (filter (has_used (other (other side)) items) (dtids_of (sent_from (other side) items id)))) mid new
      → HasMore (λ own. not (has_ended side items id) && list_any (bytes_eq own) (owns_of side items id)) old new
  end_more ended_not old mid new one two = λ own.
      two own
      ∙ ap (λ b. b || list_any (bytes_eq own) (filter (has_used (other (other side)) items) (dtids_of (sent_from (other side) items id)))) (one own)
      ∙ rw (ended_not, other_twice side, otids_are side items id, dtids_are (other side) items id, list_any-append (bytes_eq own) (filter_map otid_in (filter (is_continue_to id) (sent_by side items))) (filter (has_used side items) (filter_map dtid_in (filter (is_continue_from id) (sent_by (other side) items)))))
      (by (set.contains octets_cmp old own) _ _)
    where
      by : (a b c : Bool) → ((a || b) || c) ≡ (a || (b || c))
      by a b c = grind arith

-- ---- IDs from which Continues were sent to one

module _ (table : Table) (ms : List Message) where
  pub from_none : IsToAt table ms None → (old : BTreeSet (List ℕ))
      → HasMore (λ own. list_any (bytes_eq own) (otids_of ms)) old old
  from_none none old = has_none _ old none_there
    where
      none_there : (own : List ℕ) → list_any (bytes_eq own) (otids_of ms) ≡ false
      none_there own = rw none refl

  pub from_some : (kept : SentTo) → IsToAt table ms (Some kept) → AreAmong (otids_of ms) (Some kept.from)
  from_some kept (there, is) = (otids_of ms, is.from, same_itself (otids_of ms))
