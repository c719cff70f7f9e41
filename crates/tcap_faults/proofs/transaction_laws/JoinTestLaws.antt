-- Which IDs are joined, and whether the IDs that a message goes over are tangled, from what is kept of both ends.
use Rattle.std.proofs.Common.{◌≡◌, ◌⊎◌, inl, inr, ℕ, Bool, true, false, cond, ◌&&◌, ◌||◌, List, [], ◌∷◌, ◌++◌, Option, Some, bytes_eq, filter, refl, sym, ap, subst, ◌∙◌, ap₂, None, arith}
use Rattle.std.specs.Prelude.{Contains, filter_map, nat_le}
use Rattle.std.specs.List.{flat_map, list_any}
use Rattle.std.proofs.lemmas.Bool.{and_from, and_parts, or_from, or_parts}
use Rattle.std.proofs.lemmas.List.{append-nil}
use Rattle.std.proofs.lemmas.List.Elements.{Contains-append_cases, Contains-append_left, Contains-append_right}
use Rattle.std.proofs.lemmas.List.Folds.{list_any-append}
use Rattle.std.proofs.lemmas.Grind.{flat_map-append}
use Rattle.std.proofs.lemmas.Slice.Eq.{bytes_eq-Decides}
use Rattle.tcap_msg.specs.declared.kind.Kind.TheVariants as forms
use Rattle.tcap_msg.specs.declared.message.Message.{Message}
use Rattle.tcap_msg.specs.declared.message.Message.TheVariants.{Continue}
use Rattle.tcap_msg.specs.Parts.{dtid_in, otid_in}
use Rattle.tcap_record.specs.declared.entry.End.{End as Side}
use Rattle.tcap_record.specs.Ends.{other}
use Rattle.tcap_end.specs.End.{is_id}
use Rattle.tcap_model.specs.World.{Item}
use Rattle.tcap_refute.specs.EarlierMessages.{peer_sent_from, has_a, is_a, sent_by}
use Rattle.tcap_refute.proofs.TestLaws.{and_false, or_none}
use Rattle.tcap_refute.proofs.Members.{filter_has, filter_map_has}
use Rattle.tcap_faults.specs.Counts.{count}
use Rattle.tcap_faults.specs.SentToId.{began, is_continue_from, is_continue_to, has_used}
use Rattle.tcap_faults.specs.declared.transaction.id_list.Ids.{Ids}
use Rattle.tcap_faults.specs.IdList.{AreAmong}
use Rattle.tcap_faults.specs.History.{dtids_of, otids_of, sent_from, sent_to}
use Rattle.tcap_faults.specs.TangledIds.{are_tangled, goes_to_begun, is_own_tangled, is_peer_tangled, owns_of, peers_of, two_differ}
use Rattle.tcap_faults.proofs.list_laws.FindLaws.{filter_is}
use Rattle.tcap_faults.proofs.transaction_laws.SameIdsLaws.{differ_so}
use Rattle.tcap_faults.proofs.transaction_laws.HistoryLookupLaws.{other_twice}
use Rattle.tcap_faults.proofs.transaction_laws.TangledLaws.{all_same, began_used}
use Rattle.tcap_faults.proofs.list_laws.TwoTests.{and_turned, any_agree, any_both, any_id, filter_map_is, flat_map_is, filter_turned, none_passes, passes_not}

-- ---- from what is kept

-- The destination IDs of an end's Continues from an ID, and the originating IDs of those to an ID.
pub dtids_are : (side : Side) (items : List Item) (id : List ℕ)
    → dtids_of (sent_from side items id) ≡ filter_map dtid_in (filter (is_continue_from id) (sent_by side items))
dtids_are side items id =
    ap (filter_map dtid_in) (filter_turned (λ m. is_id id (otid_in m)) (is_a forms.Continue) (sent_by side items))

pub otids_are : (side : Side) (items : List Item) (id : List ℕ)
    → otids_of (sent_to side items id) ≡ filter_map otid_in (filter (is_continue_to id) (sent_by side items))
otids_are side items id =
    ap (filter_map otid_in) (filter_turned (λ m. is_id id (dtid_in m)) (is_a forms.Continue) (sent_by side items))

module _ (side : Side) (items : List Item) where
  pub owns_are : (id : List ℕ)
      → otids_of (sent_to side items id) ++ filter (has_used side items) (dtids_of (sent_from (other side) items id))
      ≡ owns_of side items id
  owns_are id =
      ap₂ (λ a b. a ++ filter (has_used side items) b) (otids_are side items id) (dtids_are (other side) items id)

  pub peers_are : (own : List ℕ)
      → dtids_of (sent_from side items own)
      ++ cond (has_used side items own) (otids_of (sent_to (other side) items own)) []
      ≡ peers_of side items own
  peers_are own =
      ap₂ (λ a b. a ++ cond (has_used side items own) b []) (dtids_are side items own)
      (otids_are (other side) items own)

-- ---- an own ID that is joined with an ID of the peer

module _ (side : Side) (items : List Item) (own id : List ℕ) where
  -- By a Continue of the end.
  joined_sent : list_any (bytes_eq own) (filter_map otid_in (filter (is_continue_to id) (sent_by side items)))
      ≡ list_any (is_continue_to id) (sent_from side items own)
  joined_sent =
      any_id otid_in own (filter (is_continue_to id) (sent_by side items))
      ∙ any_both (is_continue_to id) (λ m. is_id own (otid_in m)) (sent_by side items)
      ∙ any_agree _ _ (sent_by side items) (λ m. and_turned (is_continue_to id m) (is_id own (otid_in m)))
      ∙ sym (any_both (λ m. is_id own (otid_in m)) (is_continue_to id) (sent_by side items))

  -- By a Continue of the peer.
  joined_incoming : list_any (bytes_eq own) (filter_map dtid_in (filter (is_continue_from id) (sent_by (other side) items)))
      ≡ list_any (is_continue_to own) (sent_from (other side) items id)
  joined_incoming =
      any_id dtid_in own (filter (is_continue_from id) (sent_by (other side) items))
      ∙ any_both (is_continue_from id) (λ m. is_id own (dtid_in m)) (sent_by (other side) items)
      ∙ any_agree _ _ (sent_by (other side) items)
      (λ m. parts (is_a forms.Continue m) (is_id id (otid_in m)) (is_id own (dtid_in m)))
      ∙ sym (any_both (λ m. is_id id (otid_in m)) (is_continue_to own) (sent_by (other side) items))
    where
      parts : (c i d : Bool) → ((c && i) && d) ≡ (i && (c && d))
      parts c i d = grind arith

  -- An ID that the end used is among some IDs exactly if it is among the used ones.
  among_used : has_used side items own ≡ true → (ids : List (List ℕ))
      → list_any (bytes_eq own) (filter (has_used side items) ids) ≡ list_any (bytes_eq own) ids
  among_used used ids =
      any_both (has_used side items) (bytes_eq own) ids
      ∙ any_agree _ _ ids (λ one. so one (bytes_eq own one) refl)
    where
      so : (one : List ℕ) (b : Bool) → bytes_eq own one ≡ b → (has_used side items one && b) ≡ b
      so one true same =
          let is : own ≡ one = (bytes_eq-Decides own one).0 same in
          and_from _ true (ap (has_used side items) (sym is) ∙ used) refl
      so one false apart = and_false (has_used side items one)

  pub joined_is : has_used side items own ≡ true
      → (list_any (is_continue_to id) (sent_from side items own)
      || list_any (is_continue_to own) (sent_from (other side) items id))
      ≡ list_any (bytes_eq own) (owns_of side items id)
  joined_is used =
      sym (
      list_any-append (bytes_eq own) (filter_map otid_in (filter (is_continue_to id) (sent_by side items))) _
      ∙ ap₂ (λ a b. a || b) joined_sent (among_used used _ ∙ joined_incoming)
      )

-- ---- Continues from one ID to another

pub is_it : (id : List ℕ) → bytes_eq id id ≡ true
is_it id = (bytes_eq-Decides id id).1 refl

pub it_is : (id : List ℕ) (o : Option (List ℕ)) → is_id id o ≡ true → o ≡ Some id
it_is id None is = cc
it_is id (Some x) is = ap (λ x. Some x) (sym ((bytes_eq-Decides id x).0 is))

-- These messages have a Continue from one ID to the other.
pub record Goes (ms : List Message) (from to : List ℕ) : Type 0 where
  pub message : Message
  pub there : Contains ms message
  pub goes : is_a forms.Continue message ≡ true
  pub otid : otid_in message ≡ Some from
  pub dtid : dtid_in message ≡ Some to

module _ (ms : List Message) (from to : List ℕ) where
  pub goes_to : Contains (filter_map dtid_in (filter (is_continue_from from) ms)) to → Goes ms from to
  goes_to has =
      let (m, kept, made) = filter_map_is dtid_in (filter (is_continue_from from) ms) to has in
      let (there, passes) = filter_is (is_continue_from from) ms m kept in
      let (goes, it) = and_parts (is_a forms.Continue m) (is_id from (otid_in m)) passes in
      record { message = m; there = there; goes = goes; otid = it_is from (otid_in m) it; dtid = made }

  pub goes_from : Contains (filter_map otid_in (filter (is_continue_to to) ms)) from → Goes ms from to
  goes_from has =
      let (m, kept, made) = filter_map_is otid_in (filter (is_continue_to to) ms) from has in
      let (there, passes) = filter_is (is_continue_to to) ms m kept in
      let (goes, it) = and_parts (is_a forms.Continue m) (is_id to (dtid_in m)) passes in
      record { message = m; there = there; goes = goes; otid = made; dtid = it_is to (dtid_in m) it }

  pub to_goes : Goes ms from to → Contains (filter_map dtid_in (filter (is_continue_from from) ms)) to
  to_goes g =
      filter_map_has dtid_in (filter (is_continue_from from) ms) g.message to
      (filter_has (is_continue_from from) ms g.message g.there (and_from _ _ g.goes (rw g.otid (is_it from)))) g.dtid

  pub from_goes : Goes ms from to → Contains (filter_map otid_in (filter (is_continue_to to) ms)) from
  from_goes g =
      filter_map_has otid_in (filter (is_continue_to to) ms) g.message from
      (filter_has (is_continue_to to) ms g.message g.there (and_from _ _ g.goes (rw g.dtid (is_it to)))) g.otid

-- If an own ID is joined with an ID of the peer, that ID is joined with the own ID.
pub joined_back : (side : Side) (items : List Item) (own id : List ℕ) → Contains (owns_of side items id) own
    → Contains (peers_of side items own) id
joined_back side items own id has =
    by (Contains-append_cases (filter_map otid_in (filter (is_continue_to id) (sent_by side items))) _ own has)
  where
    by : Contains (filter_map otid_in (filter (is_continue_to id) (sent_by side items))) own
        ⊎ Contains (filter (has_used side items)
        (filter_map dtid_in (filter (is_continue_from id) (sent_by (other side) items)))) own
        → Contains (peers_of side items own) id
    by (inl in_sent) =
        Contains-append_left (filter_map dtid_in (filter (is_continue_from own) (sent_by side items))) _ id
        (to_goes (sent_by side items) own id (goes_from (sent_by side items) own id in_sent))
    by (inr in_incoming) =
        let (among, used) = filter_is (has_used side items) _ own in_incoming in
        let back : Contains (filter_map otid_in (filter (is_continue_to own) (sent_by (other side) items))) id =
        from_goes (sent_by (other side) items) id own (goes_to (sent_by (other side) items) id own among) in
        Contains-append_right (filter_map dtid_in (filter (is_continue_from own) (sent_by side items))) _ id
        (rw used back)

-- ---- an ID of the peer that both ends began

module _ (side : Side) (items : List Item) where
  -- The end began the destination ID of one of these Continues.
  begun_among : (ms : List Message)
      → list_any (λ own. began side own items) (filter (has_used side items) (dtids_of ms))
      ≡ list_any (goes_to_begun side items) ms
  begun_among ms =
      any_both (has_used side items) (λ own. began side own items) (dtids_of ms)
      ∙ any_agree _ _ (dtids_of ms) (λ own. so own (began side own items) refl) ∙ of ms
    where
      so : (own : List ℕ) (b : Bool) → began side own items ≡ b → (has_used side items own && b) ≡ b
      so own true begun = and_from _ true (began_used side items own begun) refl
      so own false not_begun = and_false (has_used side items own)

      of : (ns : List Message) → list_any (λ own. began side own items) (dtids_of ns) ≡ list_any (goes_to_begun side items) ns
      of [] = refl
      of (Continue otid dtid dialogue components ∷ ns) = ap (λ b. began side dtid items || b) (of ns)
      of (m ∷ ns) = of ns

  -- If all joined own IDs are equal, so are the destination IDs of the peer's Continues.
  pub incoming_same : (id : List ℕ) → two_differ (owns_of side items id) ≡ false
      → two_differ (filter (has_used side items) (dtids_of (sent_from (other side) items id))) ≡ false
  incoming_same id none =
      differ_so (filter (has_used side items) (dtids_of (sent_from (other side) items id))) (owns_of side items id)
      (λ own has. rw (← owns_are side items id)
      (Contains-append_right (otids_of (sent_to side items id)) _ own has)) none

  pub of_both : (id : List ℕ)
      → list_any (λ own. began side own items)
      (filter (has_used side items) (dtids_of (sent_from (other side) items id)))
      ≡ list_any (goes_to_begun side items) (peer_sent_from side id items)
  of_both id = begun_among (sent_from (other side) items id)

  -- The peer's used destination IDs are those that the end used.
  pub incoming_among : (id : List ℕ) (o : Option Ids)
      → AreAmong (filter (has_used (other (other side)) items) (dtids_of (sent_from (other side) items id))) o
      → AreAmong (filter (has_used side items) (dtids_of (sent_from (other side) items id))) o
  incoming_among id o are =
      subst (λ (s : Side). AreAmong (filter (has_used s items) (dtids_of (sent_from (other side) items id))) o)
      (other_twice side) are

-- ---- IDs near an ID of the peer, and beyond

module _ (side : Side) (items : List Item) (id : List ℕ) where
  -- All own IDs that are joined with an ID that is not tangled are equal.
  pub plain_same : is_peer_tangled side items id ≡ false → two_differ (owns_of side items id) ≡ false
  plain_same plain =
      let (three, guessed) = or_parts (two_differ (owns_of side items id)
      || nat_le 2 (count (is_a forms.Begin) (peer_sent_from side id items))
      || (has_a forms.Begin (peer_sent_from side id items) && list_any (goes_to_begun side items) (peer_sent_from side id items))) _ plain
      in
      let (two, apart) = or_parts (two_differ (owns_of side items id)
      || nat_le 2 (count (is_a forms.Begin) (peer_sent_from side id items))) _ three in
      (or_parts (two_differ (owns_of side items id)) _ two).0

  -- So only an additional own ID, and the IDs that are joined with it, are left to check.
  module _ (plain : is_peer_tangled side items id ≡ false)
      (none_own : list_any (is_own_tangled side items) (owns_of side items id) ≡ false) where
    -- With each joined own ID, only the peer's ID is joined.
    behind_plain : (own peer : List ℕ) → Contains (owns_of side items id) own → Contains (peers_of side items own) peer
        → is_peer_tangled side items peer ≡ false
    behind_plain own peer has_own has_peer =
        ap (is_peer_tangled side items)
        (all_same (peers_of side items own) peer id
        (passes_not (is_own_tangled side items) (owns_of side items id) own has_own none_own) has_peer
        (joined_back side items own id has_own))
        ∙ plain

    none_behind : list_any (is_peer_tangled side items) (flat_map (peers_of side items) (owns_of side items id)) ≡ false
    none_behind = none_passes (is_peer_tangled side items) _ each
      where
        each : (peer : List ℕ) → Contains (flat_map (peers_of side items) (owns_of side items id)) peer
            → is_peer_tangled side items peer ≡ false
        each peer has =
            let (own, has_own, has_peer) = flat_map_is (peers_of side items) (owns_of side items id) peer has in
            behind_plain own peer has_own has_peer

    pub plain_joined : false ≡ are_tangled side items [] id
    plain_joined =
        rw (append-nil (owns_of side items id))
        (sym (or_from _ _ none_own (or_from (is_peer_tangled side items id) _ plain none_behind)))

    module _ (own : List ℕ) where
      near_besides : list_any (is_own_tangled side items) (owns_of side items id ++ own ∷ [])
          ≡ is_own_tangled side items own
      near_besides =
          list_any-append (is_own_tangled side items) (owns_of side items id) (own ∷ [])
          ∙ ap (λ b. b || (is_own_tangled side items own || false)) none_own
          ∙ sym (or_none (is_own_tangled side items own))

      behind_besides : list_any (is_peer_tangled side items)
          (flat_map (peers_of side items) (owns_of side items id ++ own ∷ []))
          ≡ list_any (is_peer_tangled side items) (peers_of side items own)
      behind_besides =
          ap (list_any (is_peer_tangled side items))
          (flat_map-append (peers_of side items) (owns_of side items id) (own ∷ []))
          ∙ list_any-append (is_peer_tangled side items) (flat_map (peers_of side items) (owns_of side items id))
          (peers_of side items own ++ [])
          ∙ ap₂ (λ b peers. b || list_any (is_peer_tangled side items) peers) none_behind
          (append-nil (peers_of side items own))

      pub plain_besides : (is_own_tangled side items own
          || list_any (is_peer_tangled side items) (peers_of side items own))
          ≡ are_tangled side items (own ∷ []) id
      plain_besides = sym (ap₂ (λ a b. a || b) near_besides (ap₂ (λ a b. a || b) plain behind_besides))

      -- If the additional own ID is one of these, it adds nothing.
      pub plain_itself : Contains (owns_of side items id) own → false ≡ are_tangled side items (own ∷ []) id
      plain_itself has =
          sym (
          ap₂ (λ a b. a || b) (passes_not (is_own_tangled side items) (owns_of side items id) own has none_own)
          (none_passes (is_peer_tangled side items) (peers_of side items own)
          (λ peer has_peer. behind_plain own peer has has_peer))
          )
          ∙ plain_besides
