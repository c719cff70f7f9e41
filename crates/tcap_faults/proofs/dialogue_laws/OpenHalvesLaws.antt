-- F14 and F15 from what is kept of both ends.
use Rattle.std.proofs.Common.{◌≡◌, ◌⊎◌, inl, inr, ℕ, ◌+◌, ◌-◌, ◌<◌, ◌≤◌, ◌^◌, arith, Bool, true, false, cond, not, ◌&&◌, ◌||◌, List, [], ◌∷◌, Option, Some, None, is_some, bytes_eq, drop, filter, get_or, length, refl, sym, ap, ◌∙◌, ap₂}
use Rattle.std.proofs.lemmas.Bool.Decides.{nat_tests}
use Rattle.std.specs.Prelude.{Contains, filter_map, nat_le, nat_lt}
use Rattle.std.specs.Cmp as tests
use Rattle.std.specs.List.{cons_option, find, list_any}
use Rattle.std.specs.Map.{lookup}
use Rattle.std.specs.BTreeMap.{IsOrdered, is_at}
use Rattle.std.specs.Cmp.Lexicographic.{nat_list_cmp_total}
use Rattle.std.proofs.lemmas.Bool.{cases_lt, le-leb, le-ltb, lt-leb, lt-ltb, or_left, or_right}
use Rattle.std.proofs.lemmas.List.{at_drop_all, at_drop_more}
use Rattle.std.proofs.lemmas.List.Elements.{Contains-append_right}
use Rattle.std.proofs.lemmas.Map.Lookups.{exact_bytes}
use Rattle.std.proofs.lemmas.Map.Views.{btree_map_get_iff}
use Rattle.std.proofs.lemmas.Slice.Eq.{bytes_eq-Decides}
use Rattle.tcap_msg.specs.declared.kind.Kind.TheVariants as forms
use Rattle.tcap_msg.specs.declared.message.Message.{Message}
use Rattle.tcap_msg.specs.declared.message.Message.TheVariants.{Begin, Continue}
use Rattle.tcap_msg.specs.Parts.{cause_in, dtid_in, otid_in}
use Rattle.tcap_record.specs.declared.entry.End.{End as Side}
use Rattle.tcap_record.specs.Ends.{other}
use Rattle.tcap_end.specs.End.{is_id}
use Rattle.tcap_end.specs.Table.{Table, octets_cmp}
use Rattle.tcap_model.specs.World.{Item}
use Rattle.tcap_model.specs.Run.{option_then}
use Rattle.tcap_refute.specs.EarlierMessages.{peer_sent_from, ends_to, has_a, is_a, message_of, sent_by}
use Rattle.tcap_refute.specs.KeptFacts.{holds}
use Rattle.tcap_end.proofs.FoundLaws.{is_that_id}
use Rattle.tcap_refute.proofs.Members.{any_has, filter_has, has_first, has_not}
use Rattle.tcap_refute.proofs.TestLaws.{and_false}
use Rattle.tcap_faults.specs.ClosedHalves.{all_go_to_open, is_surely_open}
use Rattle.tcap_faults.specs.SentToId.{is_continue_from, is_continue_to, has_ended, has_used, is_abort_with, is_cause, outgoing}
use Rattle.tcap_faults.specs.Counts.{count, is_nothing}
use Rattle.tcap_faults.specs.declared.transaction.history.SideFacts.{SideFacts}
use Rattle.tcap_faults.specs.declared.transaction.id_list.Ids.{Ids}
use Rattle.tcap_faults.specs.declared.transaction.sent_from_id.SentFrom.{SentFrom}
use Rattle.tcap_faults.specs.Fault.{count_received, is_left_open, is_open_at_mark}
use Rattle.tcap_faults.specs.HalfKinds.{is_accepted}
use Rattle.tcap_faults.specs.HalfByPeerId.{half_of}
use Rattle.tcap_faults.specs.IdList.{AreAmong, AreIds, ids_first, ids_kept}
use Rattle.tcap_faults.specs.History.{IsFrom, IsFromAt, IsSide, dtids_of, sent_from, sent_to}
use Rattle.tcap_faults.specs.TangledIds.{are_tangled, is_own_tangled, near, owns_of, two_differ}
use Rattle.tcap_faults.proofs.list_laws.FindLaws.{any_is, filter_is}
use Rattle.tcap_faults.proofs.transaction_laws.JoinTestLaws.{dtids_are}
use Rattle.tcap_faults.proofs.kind_laws.ReplyLaws.{accepted_stands}
use Rattle.tcap_faults.proofs.transaction_laws.SameIdsLaws.{any_one, first_has, left_differ}
use Rattle.tcap_faults.proofs.list_laws.TwoTests.{any_both, filter_both, found_both, none_passes}
use Rattle.tcap_faults.proofs.transaction_laws.JoinedIdsLaws.{any_kept, any_same}
use Rattle.tcap_faults.proofs.transaction_laws.ShownClosedLaws.{some_go, some_there}
use Rattle.tcap_faults.proofs.component_laws.FewSums.{count_within}

-- ---- a half that is surely open

-- The destination ID of the first Continue.
first_goes : (ms : List Message) → option_then (find (is_a forms.Continue) ms) dtid_in ≡ ids_first (dtids_of ms)
first_goes [] = refl
first_goes (Continue otid dtid dialogue components ∷ ms) = refl
first_goes (m ∷ ms) = first_goes ms

module _ (table : Table) (side : Side) (items : List Item) (own : List ℕ) where
  -- Whether the half is surely open, if its first Continue has this destination ID.
  abbrev open_to : Option (List ℕ) → Bool
  open_to to =
      not table.prearranged && holds (λ id. not (has_ended side items id)) to
      && not (list_any (ends_to own) (sent_by (other side) items))

  surely_so : (to : Option (List ℕ))
      → option_then (find (is_continue_from own) (sent_by side items)) dtid_in ≡ to
      → open_to to ≡ is_surely_open table side items own
  surely_so None goes = rw goes refl
  surely_so (Some to) goes = rw goes refl

  surely : open_to (ids_first (dtids_of (sent_from side items own))) ≡ is_surely_open table side items own
  surely =
      ap open_to
      (sym (first_goes (sent_from side items own))
      ∙ ap (λ o. option_then o dtid_in) (found_both (λ m. is_id own (otid_in m)) (is_a forms.Continue) (sent_by side items)))
      ∙ surely_so _ refl

  -- The half is surely open exactly if the end did not end the destination ID, and the peer did not end the own ID.
  pub open_there : (to : List ℕ) (b : Bool) → Some to ≡ ids_first (dtids_of (sent_from side items own))
      → b ≡ (not table.prearranged && not (has_ended side items to))
      → (b && not (list_any (ends_to own) (sent_by (other side) items))) ≡ is_surely_open table side items own
  open_there to b goes is =
      ap (λ x. x && not (list_any (ends_to own) (sent_by (other side) items))) is ∙ ap open_to goes ∙ surely

  -- A half without a Continue is not surely open.
  pub open_nowhere : None ≡ ids_first (dtids_of (sent_from side items own))
      → false ≡ is_surely_open table side items own
  open_nowhere goes =
      ap (λ x. x && not (list_any (ends_to own) (sent_by (other side) items))) (sym (and_false (not table.prearranged)))
      ∙ ap open_to goes ∙ surely

-- ---- lists of kept IDs

-- A test finds a kept ID exactly if it finds the first or one of the others.
module _ (p : List ℕ → Bool) (ids : List (List ℕ)) (kept : Ids) (are : AreAmong ids (Some kept)) (first : List ℕ)
    (is : kept.first ≡ Some first) where
  either_kept : (p first || list_any p kept.more.items) ≡ list_any p ids
  either_kept = ap (λ o. list_any p (ids_kept o kept.more.items)) (sym is) ∙ any_kept p ids kept are

  pub first_where : p first ≡ true → true ≡ list_any p ids
  first_where so = sym (or_left (p first) (list_any p kept.more.items) so) ∙ either_kept

  -- If the first does not pass, the others decide.
  pub others_so : p first ≡ false → list_any p kept.more.items ≡ list_any p ids
  others_so none = ap (λ b. b || list_any p kept.more.items) (sym none) ∙ either_kept

first_there : (ids : List (List ℕ)) → is_some (ids_first ids) ≡ list_any (λ id. true) ids
first_there ids = grind arith

-- There is a first ID exactly if there is an ID.
pub some_kept_of : (o : Option (List ℕ)) (ids : List (List ℕ)) (kept : Ids)
    → ((those : List (List ℕ)) → AreIds those kept → o ≡ ids_first those)
    → AreAmong ids (Some kept) → is_some o ≡ not (is_nothing ids)
some_kept_of o ids kept says (those, are, same) =
    ap is_some (says those are) ∙ first_there those ∙ any_same (λ id. true) those ids same ∙ sym (some_there ids)

-- A search through the IDs: the next one passes.
module _ (p : List ℕ → Bool) (xs : List (List ℕ)) (i : ℕ) (left : list_any p (drop i xs) ≡ list_any p xs) where
  pub any_first : (x : List ℕ) → i < length xs → x ≡ get_or xs i x → p x ≡ true → true ≡ list_any p xs
  any_first x within is so =
      let here : p (get_or xs i x) ≡ true = rw (← is) so in
      sym (at_drop_more (list_any p) xs i x within ∙ ap (λ b. b || list_any p (drop (i + 1) xs)) here) ∙ left

  -- A search through the IDs: the next one does not pass.
  pub any_next : (x : List ℕ) → i < length xs → x ≡ get_or xs i x → p x ≡ false
      → list_any p (drop (i + 1) xs) ≡ list_any p xs
  any_next x within is so =
      let here : p (get_or xs i x) ≡ false = rw (← is) so in
      sym (at_drop_more (list_any p) xs i x within ∙ ap (λ b. b || list_any p (drop (i + 1) xs)) here) ∙ left

  -- A search through the IDs: none is left.
  pub any_last : length xs ≤ i → false ≡ list_any p xs
  any_last past = sym (at_drop_all (list_any p) xs i past) ∙ left

-- ---- Continues that go to halves that are open

went_where : (q : List ℕ → Bool) (ms : List Message)
    → list_any (λ own. not (q own)) (dtids_of ms) ≡ list_any (λ m. is_a forms.Continue m && not (holds q (dtid_in m))) ms
went_where q [] = refl
went_where q (Continue otid dtid dialogue components ∷ ms) = ap (λ b. not (q dtid) || b) (went_where q ms)
went_where q (m ∷ ms) = went_where q ms

pub all_open_is : (table : Table) (side : Side) (items : List Item) (ms : List Message)
    → (not (is_nothing (dtids_of ms)) && not (list_any (λ own. not (is_surely_open table side items own)) (dtids_of ms)))
    ≡ all_go_to_open table side items ms
all_open_is table side items ms = ap₂ (λ a b. a && not b) (sym (some_go ms)) (went_where (is_surely_open table side items) ms)

-- ---- F14

module _ (side : Side) (items : List Item) (id : List ℕ) where
  pub accepted_is : (has_a forms.Begin (peer_sent_from side id items)
      && not (list_any (λ m. is_cause 4 (cause_in m)) (sent_to side items id)))
      ≡ is_accepted (half_of side items id).origin
  accepted_is =
      ap (λ b. has_a forms.Begin (peer_sent_from side id items) && not b)
      (any_both (λ m. is_id id (dtid_in m)) (λ m. is_cause 4 (cause_in m)) (sent_by side items))
      ∙ sym (accepted_stands side items id)

  pub unknown_is : count (λ m. is_cause 1 (cause_in m)) (sent_to side items id)
      ≡ count (is_abort_with 1 id) (sent_by side items)
  unknown_is = ap length (filter_both (λ m. is_id id (dtid_in m)) (λ m. is_cause 1 (cause_in m)) (sent_by side items))

  -- One Continue was received if something was sent to the ID and no Begin was accepted.
  pub received_one : not (is_nothing (outgoing side id items)) ≡ true → is_accepted (half_of side items id).origin ≡ false
      → ◌≡◌ {A = ℕ} 1 (count_received side id items (half_of side items id))
  received_one spoke none = grind (arith, spoke)

  -- Otherwise none was received.
  pub none_received : is_accepted (half_of side items id).origin ≡ true
      → ◌≡◌ {A = ℕ} 0 (count_received side id items (half_of side items id))
  none_received accepted = ap (λ b. cond b 0 1) (sym (or_right (is_nothing (outgoing side id items)) _ accepted))

  pub none_spoken : not (is_nothing (outgoing side id items)) ≡ false
      → ◌≡◌ {A = ℕ} 0 (count_received side id items (half_of side items id))
  none_spoken silent = grind (arith, silent)

-- At most as many were sent as there are items.
fewer_made : {A B : Type 0} (f : A → Option B) (xs : List A) → length (filter_map f xs) ≤ length xs
fewer_made f [] = omega arith
fewer_made {B = B} f (x ∷ xs) = grind (arith, fewer_made f xs)

module _ (side : Side) (items : List Item) (id : List ℕ) (few : length items ≤ 2 ^ 63) where
  pub few_from : length (sent_from side items id) ≤ 2 ^ 126
  few_from =
      omega (
        arith,
        count_within (λ m. is_id id (otid_in m)) (sent_by side items),
        fewer_made (message_of side) items,
      )

  pub few_to : length (sent_to side items id) ≤ 2 ^ 126
  few_to =
      omega (
        arith,
        count_within (λ m. is_id id (dtid_in m)) (sent_by side items),
        fewer_made (message_of side) items,
      )

-- No Continue is left exactly if one more Abort is too many.
pub none_left : (c u n : ℕ) → nat_le (c - n) u ≡ nat_lt c (u + 1 + n)
none_left c u n = grind (arith, nat_tests, cases_lt c (u + 1 + n))

-- ---- halves that are left open over no tangled IDs

module _ (table : Table) (side : Side) (items : List Item) (own : List ℕ) where
  abbrev is_plain : List ℕ → Bool
  is_plain to = not (are_tangled side items (own ∷ []) to)

  spread : (a b c : Bool) → ((a && b) || (a && c)) ≡ (a && (b || c))
  spread a b c = grind arith

  abbrev from_own : List Message → List Message
  from_own ms = filter (λ m. is_id own (otid_in m)) ms

  -- A Continue among these messages is left open exactly if the half is surely open and a destination ID is not
  -- tangled.
  abbrev IsByDtids : List Message → Type 0
  IsByDtids ms =
      list_any (is_left_open table side items) ms
      ≡ (is_surely_open table side items own && list_any is_plain (dtids_of ms))

  left_is : (ms : List Message) → IsByDtids (from_own ms)
  left_is [] = sym (and_false (is_surely_open table side items own))
  left_is (Begin otid dialogue components ∷ ms) = by (bytes_eq own otid) (left_is ms)
    where
      by : (b : Bool) → IsByDtids (from_own ms)
          → IsByDtids (cond b (Begin otid dialogue components ∷ from_own ms) (from_own ms))
      by true rest = rest
      by false rest = rest
  left_is (Continue otid dtid dialogue components ∷ ms) = by (bytes_eq own otid) refl (left_is ms)
    where
      by : (b : Bool) → bytes_eq own otid ≡ b → IsByDtids (from_own ms)
          → IsByDtids (cond b (Continue otid dtid dialogue components ∷ from_own ms) (from_own ms))
      by true is rest =
          let same : own ≡ otid = (bytes_eq-Decides own otid).0 is in
          ap₂ (λ a b. a || b)
          (ap (λ x. is_surely_open table side items x && not (are_tangled side items (x ∷ []) dtid)) (sym same)) rest
          ∙ spread (is_surely_open table side items own) (is_plain dtid) _
      by false is rest = rest
  left_is (m ∷ ms) = left_is ms

  -- If the ID's Continues go to two IDs, the own ID is tangled.
  own_tangled : two_differ (dtids_of (sent_from side items own)) ≡ true → is_own_tangled side items own ≡ true
  own_tangled differ =
      left_differ (filter_map dtid_in (filter (is_continue_from own) (sent_by side items)))
      (cond (has_used side items own) (filter_map otid_in (filter (is_continue_to own) (sent_by (other side) items))) [])
      (sym (ap two_differ (dtids_are side items own)) ∙ differ)

  all_tangled : two_differ (dtids_of (sent_from side items own)) ≡ true → (to : List ℕ) → is_plain to ≡ false
  all_tangled differ to =
      ap not (or_left _ _ (any_has (is_own_tangled side items) (near side items (own ∷ []) to) own
      (Contains-append_right (owns_of side items to) (own ∷ []) own (has_first own [])) (own_tangled differ)))

  -- Then no Continue from it is left open.
  pub left_differing : two_differ (dtids_of (sent_from side items own)) ≡ true
      → false ≡ list_any (is_left_open table side items) (sent_from side items own)
  left_differing differ =
      sym (
      left_is (sent_by side items)
      ∙ ap (λ b. is_surely_open table side items own && b) (none_passes is_plain _ (λ to has. all_tangled differ to))
      ∙ and_false (is_surely_open table side items own)
      )

  -- If the half is not surely open, no Continue from it is left open.
  pub left_shut : is_surely_open table side items own ≡ false
      → false ≡ list_any (is_left_open table side items) (sent_from side items own)
  left_shut shut =
      sym (left_is (sent_by side items)
      ∙ ap (λ b. b && list_any is_plain (dtids_of (sent_from side items own))) shut)

  -- Otherwise one is left open exactly if the IDs that it goes over are not tangled.
  pub left_at : (to : List ℕ) → Some to ≡ ids_first (dtids_of (sent_from side items own))
      → two_differ (dtids_of (sent_from side items own)) ≡ false → is_surely_open table side items own ≡ true
      → not (are_tangled side items (own ∷ []) to)
      ≡ list_any (is_left_open table side items) (sent_from side items own)
  left_at to goes same stays =
      sym (left_is (sent_by side items)
      ∙ ap₂ (λ a b. a && b) stays
      (any_one is_plain (dtids_of (sent_from side items own)) to
      (first_has (dtids_of (sent_from side items own)) to (sym goes)) same))

-- ---- at a quiet mark

-- Whether the half of a kept ID is left open.
abbrev pub leaves : Table → Side → List Item → List ℕ × SentFrom → Bool
leaves table side items e = list_any (is_left_open table side items) (sent_from side items e.0)

module _ {table : Table} {side : Side} {items : List Item} {facts : SideFacts} (is : IsSide table side items facts)
    (ordered : IsOrdered octets_cmp facts.from) where
  -- The first of what is left belongs to its key.
  pub next_kept : (left more : List (List ℕ × SentFrom)) (own : List ℕ) (kept : SentFrom)
      → ((e : List ℕ × SentFrom) → Contains left e → Contains facts.from.entries e) → left ≡ (own, kept) ∷ more
      → IsFrom table (sent_from side items own) kept
  next_kept left more own kept within steps =
      let has = within (own, kept) (rw steps (has_first (own, kept) more)) in
      let found : lookup (is_at (octets_cmp own)) facts.from.entries ≡ Some kept =
      (btree_map_get_iff nat_list_cmp_total exact_bytes facts.from ordered own kept).1 has in
      (rw found at (is.from own)).1.from

  -- A message that is left open has an originating ID.
  left_from : (m : Message) → is_left_open table side items m ≡ true → (own : List ℕ) × (otid_in m ≡ Some own)
  left_from (Continue otid dtid dialogue components) left = (otid, refl)
  left_from m left = cc

  -- A half is open at the mark exactly if one of a kept ID is.
  pub open_at_mark : list_any (leaves table side items) facts.from.entries ≡ is_open_at_mark table side items
  open_at_mark = tests.both_ways _ _ there back
    where
      there : list_any (leaves table side items) facts.from.entries ≡ true → is_open_at_mark table side items ≡ true
      there so =
          let (e, has, leaves_it) = any_is (leaves table side items) facts.from.entries so in
          let (m, sent, left) = any_is (is_left_open table side items) (sent_from side items e.0) leaves_it in
          any_has (is_left_open table side items) (sent_by side items) m
          (filter_is (λ n. is_id e.0 (otid_in n)) (sent_by side items) m sent).0 left

      back : is_open_at_mark table side items ≡ true → list_any (leaves table side items) facts.from.entries ≡ true
      back so =
          let (m, sent, left) = any_is (is_left_open table side items) (sent_by side items) so in
          let (own, from) = left_from m left in
          let kept = filter_has (λ n. is_id own (otid_in n)) (sent_by side items) m sent (is_that_id own (otid_in m) from) in
          by own m kept left (lookup (is_at (octets_cmp own)) facts.from.entries) refl (is.from own)
        where
          by : (own : List ℕ) (m : Message) → Contains (sent_from side items own) m
              → is_left_open table side items m ≡ true
              → (o : Option SentFrom) → lookup (is_at (octets_cmp own)) facts.from.entries ≡ o
              → IsFromAt table (sent_from side items own) o
              → list_any (leaves table side items) facts.from.entries ≡ true
          by own m has left None found none = has_not m (rw none at has)
          by own m has left (Some kept) found some =
              any_has (leaves table side items) facts.from.entries (own, kept)
              ((btree_map_get_iff nat_list_cmp_total exact_bytes facts.from ordered own kept).0 found)
              (any_has (is_left_open table side items) (sent_from side items own) m has left)
