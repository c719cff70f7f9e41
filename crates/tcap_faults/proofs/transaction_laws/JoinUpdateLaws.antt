-- The histories of an end and of its peer after one more message: joined and ended IDs.
use Rattle.std.proofs.Common.{◌≡◌, ◌⊎◌, inl, inr, ℕ, Bool, true, false, cond, not, ◌&&◌, ◌||◌, List, [], ◌∷◌, ◌++◌, Some, None, bytes_eq, refl, sym, ap, ◌∙◌, arith}
use Rattle.std.specs.Prelude.{Contains, filter}
use Rattle.std.specs.List.{list_any}
use Rattle.std.specs.Map.{lookup}
use Rattle.std.specs.BTreeMap.{BTreeMap, is_at}
use Rattle.std.specs.BTreeSet as set
use Rattle.std.specs.BTreeSet.{BTreeSet}
use Rattle.std.proofs.lemmas.Bool.{and_from, and_parts, or_left, or_right}
use Rattle.std.proofs.lemmas.List.{append-nil}
use Rattle.std.proofs.lemmas.List.Elements.{Contains-append_cases, Contains-append_left, Contains-append_right, filter-append, filter_agree}
use Rattle.std.proofs.lemmas.Slice.Eq.{bytes_eq-Decides}
use Rattle.tcap_msg.specs.declared.kind.Kind.TheVariants as forms
use Rattle.tcap_msg.specs.declared.message.Message.{Message}
use Rattle.tcap_msg.specs.Parts.{dtid_in, otid_in}
use Rattle.tcap_record.specs.declared.entry.End.{End as Side}
use Rattle.tcap_record.specs.Ends.{other}
use Rattle.tcap_end.specs.End.{is_id}
use Rattle.tcap_end.specs.Table.{octets_cmp}
use Rattle.tcap_model.specs.World.{Item, Sent}
use Rattle.tcap_model.specs.SinceMark.{ended_by}
use Rattle.tcap_model.proofs.ListLaws.{contains_first}
use Rattle.tcap_refute.specs.EarlierMessages.{is_a, sent_by}
use Rattle.tcap_refute.proofs.Members.{any_has, filter_has, has_first, has_not}
use Rattle.tcap_refute.proofs.TestLaws.{or_none}
use Rattle.tcap_faults.specs.SentToId.{is_continue_from, is_continue_to, has_ended, has_used}
use Rattle.tcap_faults.specs.declared.transaction.id_list.Ids.{Ids}
use Rattle.tcap_faults.specs.IdList.{AreAmong, AreSame}
use Rattle.tcap_faults.specs.JoinedIds.{GetsMore, HasMore, id_if}
use Rattle.tcap_faults.specs.History.{dtids_of, otids_of, sent_from, sent_to}
use Rattle.tcap_faults.specs.TangledIds.{owns_of, peers_of}
use Rattle.tcap_faults.proofs.list_laws.FindLaws.{any_is, filter_is}
use Rattle.tcap_faults.proofs.transaction_laws.JoinTestLaws.{dtids_are, otids_are, from_goes, goes_from, goes_to, is_it, to_goes}
use Rattle.tcap_faults.proofs.transaction_laws.JoinedIdsLaws.{among_same, any_either, joined_both}
use Rattle.tcap_faults.proofs.transaction_laws.MessageMoreLaws.{backs, dtids_own, ended_own, ended_theirs, fronts, passes_of, peers_any, peers_own, peers_theirs, used_own}
use Rattle.tcap_faults.proofs.list_laws.TwoTests.{any_agree}

-- ---- tests

over_bools : (e a u b f g : Bool) → (e ≡ true → f ≡ (not u && b)) → (e ≡ false → f ≡ false)
    → (((a || (u && b)) || f) || (e && g)) ≡ ((a || (e && g)) || ((u || e) && b))
over_bools false a u b f g on off = rw (off refl) (by a u b)
  where
    by : (a u b : Bool) → (((a || (u && b)) || false) || false) ≡ ((a || false) || ((u || false) && b))
    by a u b = grind arith
over_bools true a u b f g on off = rw (on refl) (by a u b g)
  where
    by : (a u b g : Bool) → (((a || (u && b)) || (not u && b)) || g) ≡ ((a || g) || ((u || true) && b))
    by a u b g = grind arith

peer_bools : (e a u b r x : Bool) → (e ≡ true → r ≡ (u && x))
    → ((a || (u && b)) || (e && r)) ≡ (a || (u && (b || (e && x))))
peer_bools false a u b r x on = grind arith
peer_bools true a u b r x on = rw (on refl) (by a u b x)
  where
    by : (a u b x : Bool) → ((a || (u && b)) || (u && x)) ≡ (a || (u && (b || x)))
    by a u b x = grind arith

module _ (side : Side) (items : List Item) (m : Message) where
  -- ---- own IDs that are joined with an ID that the end ended

  -- A message that ends nothing. If it is the first use of an own ID, the IDs that the peer joined before count; if
  -- it is a Continue, its destination ID counts.
  pub own_over_more : ended_by m ≡ None → (e first : List ℕ → Bool) (g : Bool)
      → ((id : List ℕ) → is_id id (otid_in m) ≡ e id)
      → ((id : List ℕ) → e id ≡ true
      → first id ≡ (not (has_used side items id) && list_any (has_ended side items) (backs side items id)))
      → ((id : List ℕ) → e id ≡ false → first id ≡ false)
      → ((id : List ℕ) → (is_continue_from id m && passes_of (has_ended side items) (dtid_in m)) ≡ (e id && g))
      → (old mid new : BTreeSet (List ℕ))
      → ((id : List ℕ) → set.contains octets_cmp old id ≡ list_any (has_ended side items) (peers_of side items id))
      → HasMore first old mid → HasMore (λ id. e id && g) mid new
      → (id : List ℕ) → set.contains octets_cmp new id
      ≡ list_any (has_ended side (items ++ Sent side m ∷ [])) (peers_of side (items ++ Sent side m ∷ []) id)
  own_over_more ends_not e first g at on off goes old mid new was one two id =
      two id
      ∙ ap (λ b. b || (e id && g)) (one id
      ∙ ap (λ b. b || first id) (was id ∙ peers_any (has_ended side items) side items id))
      ∙ over_bools (e id) (list_any (has_ended side items) (fronts side items id)) (has_used side items id)
      (list_any (has_ended side items) (backs side items id)) (first id) g (on id) (off id)
      ∙ sym (any_agree _ _ (peers_of side (items ++ Sent side m ∷ []) id) same
      ∙ peers_own side items m (has_ended side items) id
      ∙ rw (goes id, at id) refl)
    where
      same : (x : List ℕ) → has_ended side (items ++ Sent side m ∷ []) x ≡ has_ended side items x
      same x = ended_own side items m x ∙ rw ends_not (sym (or_none (has_ended side items x)))

  -- A message without originating ID changes no joined IDs.
  peers_stay : otid_in m ≡ None → is_a forms.Continue m ≡ false → (p : List ℕ → Bool) (id : List ℕ)
      → list_any p (peers_of side (items ++ Sent side m ∷ []) id) ≡ list_any p (peers_of side items id)
  peers_stay none stays p id =
      peers_own side items m p id
      ∙ rw (none, stays, ← or_none (list_any p (fronts side items id)), ← or_none (has_used side items id)) refl
      ∙ sym (peers_any p side items id)

  -- A message that ends an ID: all own IDs that are joined with it count.
  pub own_over_ended : (to : List ℕ) → ended_by m ≡ Some to → otid_in m ≡ None → is_a forms.Continue m ≡ false
      → (old new : BTreeSet (List ℕ))
      → ((id : List ℕ) → set.contains octets_cmp old id ≡ list_any (has_ended side items) (peers_of side items id))
      → HasMore (λ id. not (has_ended side items to) && list_any (bytes_eq id) (owns_of side items to)) old new
      → (id : List ℕ) → set.contains octets_cmp new id
      ≡ list_any (has_ended side (items ++ Sent side m ∷ [])) (peers_of side (items ++ Sent side m ∷ []) id)
  own_over_ended to ends none stays old new was more id =
      more id
      ∙ ap (λ b. b || (not (has_ended side items to) && list_any (bytes_eq id) (owns_of side items to))) (was id)
      ∙ by (has_ended side items to) refl (list_any (bytes_eq id) (owns_of side items to)) refl
      ∙ sym (any_agree _ _ (peers_of side (items ++ Sent side m ∷ []) id) same
      ∙ peers_stay none stays (λ x. has_ended side items x || bytes_eq x to) id
      ∙ any_either (has_ended side items) (λ x. bytes_eq x to) (peers_of side items id)
      ∙ ap (λ b. list_any (has_ended side items) (peers_of side items id) || b) (joined_both side items id to))
    where
      same : (x : List ℕ) → has_ended side (items ++ Sent side m ∷ []) x ≡ (has_ended side items x || bytes_eq x to)
      same x = ended_own side items m x ∙ rw ends refl

      there : has_ended side items to ≡ true → list_any (bytes_eq id) (owns_of side items to) ≡ true
          → list_any (has_ended side items) (peers_of side items id) ≡ true
      there ended found =
          let (x, has, passes) = any_is (λ x. bytes_eq x to) (peers_of side items id)
          (joined_both side items id to ∙ found) in
          let one : x ≡ to = (bytes_eq-Decides x to).0 passes in
          any_has (has_ended side items) (peers_of side items id) x has (rw one ended)

      by : (h : Bool) → has_ended side items to ≡ h → (o : Bool)
          → list_any (bytes_eq id) (owns_of side items to) ≡ o
          → (list_any (has_ended side items) (peers_of side items id) || (not h && o))
          ≡ (list_any (has_ended side items) (peers_of side items id) || o)
      by false ended_not o is = refl
      by true ended false is = refl
      by true ended true is = rw (there ended is) refl

  -- ---- IDs of the peer that are joined with an own ID that it ended

  -- A Continue to an ID that the peer used: the own ID counts.
  pub peer_over_more : (e : List ℕ → Bool) (r : Bool) → ((id : List ℕ) → is_continue_to id m ≡ e id)
      → ((id : List ℕ) → e id ≡ true
      → r ≡ (has_used (other side) items id && passes_of (has_ended (other side) items) (otid_in m)))
      → (old new : BTreeSet (List ℕ))
      → ((id : List ℕ) → set.contains octets_cmp old id
      ≡ list_any (has_ended (other side) items) (peers_of (other side) items id))
      → HasMore (λ id. e id && r) old new
      → (id : List ℕ) → set.contains octets_cmp new id
      ≡ list_any (has_ended (other side) (items ++ Sent side m ∷ []))
      (peers_of (other side) (items ++ Sent side m ∷ []) id)
  peer_over_more e r goes on old new was more id =
      more id
      ∙ ap (λ b. b || (e id && r)) (was id ∙ peers_any (has_ended (other side) items) (other side) items id)
      ∙ peer_bools (e id) (list_any (has_ended (other side) items) (fronts (other side) items id))
      (has_used (other side) items id) (list_any (has_ended (other side) items) (backs (other side) items id)) r
      (passes_of (has_ended (other side) items) (otid_in m)) (on id)
      ∙ sym (any_agree _ _ (peers_of (other side) (items ++ Sent side m ∷ []) id) (ended_theirs side items m)
      ∙ peers_theirs side items m (has_ended (other side) items) id
      ∙ rw (goes id) refl)

  -- ---- IDs of the peer that are joined with an own ID

  -- A Continue to an ID that the peer used.
  pub own_joined_more : (from to : List ℕ) (used : Bool) → is_a forms.Continue m ≡ true → otid_in m ≡ Some from
      → dtid_in m ≡ Some to → used ≡ has_used (other side) items to → (old new : BTreeMap (List ℕ) Ids)
      → GetsMore (λ key. bytes_eq key from && used) to old new
      → ((id : List ℕ) → AreAmong (filter (has_used (other side) items) (dtids_of (sent_from side items id)))
      (lookup (is_at (octets_cmp id)) old.entries))
      → (id : List ℕ)
      → AreAmong (filter (has_used (other side) items) (dtids_of (sent_from side (items ++ Sent side m ∷ []) id)))
      (lookup (is_at (octets_cmp id)) new.entries)
  own_joined_more from to used goes otid dtid is old new gets was id =
      rw (dtids_own side items m id, filter-append (has_used (other side) items) (dtids_of (sent_from side items id)) (dtids_of (cond (is_id id (otid_in m)) (m ∷ []) [])), otid, by (bytes_eq id from), ← is)
      (gets id (filter (has_used (other side) items) (dtids_of (sent_from side items id))) (was id))
    where
      by : (b : Bool) → filter (has_used (other side) items) (dtids_of (cond b (m ∷ []) []))
          ≡ id_if (b && has_used (other side) items to) to
      by true = rw (goes, dtid) refl
      by false = refl

  -- A message that is no Continue changes nothing.
  pub own_joined_same : is_a forms.Continue m ≡ false → (id : List ℕ)
      → dtids_of (sent_from side (items ++ Sent side m ∷ []) id) ≡ dtids_of (sent_from side items id)
  own_joined_same stays id =
      dtids_own side items m id
      ∙ ap (λ more. dtids_of (sent_from side items id) ++ more) (by (is_id id (otid_in m)))
      ∙ append-nil (dtids_of (sent_from side items id))
    where
      by : (b : Bool) → dtids_of (cond b (m ∷ []) []) ≡ []
      by true = rw stays refl
      by false = refl

  -- The first use of an own ID joins it with the IDs from which the peer sent Continues to it.
  module _ (from : List ℕ) (otid : otid_in m ≡ Some from) (id : List ℕ) where
    abbrev gone : List (List ℕ)
    gone = dtids_of (sent_from (other side) items id)

    abbrev joins_now : Bool
    joins_now =
        not (has_used side items from)
        && list_any (bytes_eq id) (otids_of (sent_to (other side) items from))

    went : list_any (bytes_eq id) (otids_of (sent_to (other side) items from)) ≡ true → Contains gone from
    went is =
        let (x, has, passes) = any_is (bytes_eq id) (otids_of (sent_to (other side) items from)) is in
        let one : id ≡ x = (bytes_eq-Decides id x).0 passes in
        let there : Contains (otids_of (sent_to (other side) items from)) id = rw one has in
        rw (dtids_are (other side) items id)
        (to_goes (sent_by (other side) items) id from
        (goes_from (sent_by (other side) items) id from (rw (otids_are (other side) items from) at there)))

    came : Contains gone from → list_any (bytes_eq id) (otids_of (sent_to (other side) items from)) ≡ true
    came has =
        any_has (bytes_eq id) (otids_of (sent_to (other side) items from)) id
        (rw (otids_are (other side) items from)
        (from_goes (sent_by (other side) items) id from
        (goes_to (sent_by (other side) items) id from (rw (dtids_are (other side) items id) at has))))
        (is_it id)

    one_there : (b : Bool) → joins_now ≡ b → (x : List ℕ) → Contains (id_if b from) x
        → Contains (filter (has_used side (items ++ Sent side m ∷ [])) gone) x
    one_there true so x has =
        let (fresh, found) = and_parts (not (has_used side items from)) _ so in
        by (contains_first from [] x has) (went found)
      where
        by : (from ≡ x) ⊎ Contains [] x → Contains gone from
            → Contains (filter (has_used side (items ++ Sent side m ∷ [])) gone) x
        by (inl same) there =
            rw (← same)
            (filter_has (has_used side (items ++ Sent side m ∷ [])) gone from there
            (used_own side items m from
            ∙ or_right (has_used side items from) _ (rw otid (is_it from))))
        by (inr none) there = has_not x none
    one_there false so x has = has_not x has

    used_now : (x : List ℕ) → has_used side items x ≡ true → has_used side (items ++ Sent side m ∷ []) x ≡ true
    used_now x used = used_own side items m x ∙ or_left _ (is_id x (otid_in m)) used

    joined_same : AreSame (filter (has_used side items) gone ++ id_if joins_now from)
        (filter (has_used side (items ++ Sent side m ∷ [])) gone)
    joined_same = record {
      there = λ x has. there x (Contains-append_cases (filter (has_used side items) gone) (id_if joins_now from) x has);
      back = λ x has.
          let (in_gone, used) = filter_is (has_used side (items ++ Sent side m ∷ [])) gone x has in
          back x in_gone (sym (used_own side items m x) ∙ used) (has_used side items x) refl;
    }
      where
        there : (x : List ℕ) → Contains (filter (has_used side items) gone) x ⊎ Contains (id_if joins_now from) x
            → Contains (filter (has_used side (items ++ Sent side m ∷ [])) gone) x
        there x (inl has) =
            let (in_gone, used) = filter_is (has_used side items) gone x has in
            filter_has (has_used side (items ++ Sent side m ∷ [])) gone x in_gone (used_now x used)
        there x (inr has) = one_there joins_now refl x has

        back : (x : List ℕ) → Contains gone x → (has_used side items x || is_id x (otid_in m)) ≡ true
            → (b : Bool) → has_used side items x ≡ b
            → Contains (filter (has_used side items) gone ++ id_if joins_now from) x
        back x in_gone so true used =
            Contains-append_left (filter (has_used side items) gone) (id_if joins_now from) x
            (filter_has (has_used side items) gone x in_gone used)
        back x in_gone so false used_not =
            let it : bytes_eq x from ≡ true = rw (used_not, otid) at so in
            let one : x ≡ from = (bytes_eq-Decides x from).0 it in
            let fresh : has_used side items from ≡ false = rw one at used_not in
            let here : Contains gone from = rw one at in_gone in
            let now : joins_now ≡ true = and_from _ _ (ap not fresh) (came here) in
            Contains-append_right (filter (has_used side items) gone) (id_if joins_now from) x
            (rw (now, one) (has_first from []))

    pub peer_joined_more : (old new : BTreeMap (List ℕ) Ids)
        → GetsMore (λ key. not (has_used side items from)
        && list_any (bytes_eq key) (otids_of (sent_to (other side) items from))) from old new
        → AreAmong (filter (has_used side items) gone) (lookup (is_at (octets_cmp id)) old.entries)
        → AreAmong (filter (has_used side (items ++ Sent side m ∷ [])) gone)
        (lookup (is_at (octets_cmp id)) new.entries)
    peer_joined_more old new gets was =
        among_same (filter (has_used side items) gone ++ id_if joins_now from) _ _ joined_same
        (gets id (filter (has_used side items) gone) was)

  pub peer_joined_same : otid_in m ≡ None → (ids : List (List ℕ))
      → filter (has_used side (items ++ Sent side m ∷ [])) ids ≡ filter (has_used side items) ids
  peer_joined_same none ids =
      filter_agree _ _ (λ x. used_own side items m x ∙ rw none (sym (or_none (has_used side items x)))) ids
