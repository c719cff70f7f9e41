-- What holds for the destination ID of a message that goes over no tangled IDs.
use Rattle.std.proofs.Common.{◌≡◌, ◌⊎◌, inl, inr, ℕ, ◌<◌, Bool, true, false, List, [], ◌∷◌, Option, Some, None, not, is_some, refl, sym, ◌∙◌, arith}
use Rattle.std.specs.Prelude.{Contains, filter, filter_map, ◌&&◌, ◌||◌, nat_le}
use Rattle.std.specs.List.{list_any}
use Rattle.std.specs.Str.{bytes_eq}
use Rattle.std.proofs.lemmas.Bool.{and_from, and_parts, both_ways, leb-false, or_parts}
use Rattle.std.proofs.lemmas.List.Elements.{Contains-append_right}
use Rattle.std.proofs.lemmas.Slice.Eq.{bytes_eq-Decides}
use Rattle.tcap_msg.specs.declared.kind.Kind.TheVariants as forms
use Rattle.tcap_msg.specs.declared.message.Message.{Message}
use Rattle.tcap_msg.specs.Parts.{dtid_in, otid_in}
use Rattle.tcap_record.specs.declared.entry.End.{End as Side}
use Rattle.tcap_record.specs.Ends.{other}
use Rattle.tcap_end.specs.End.{is_id}
use Rattle.tcap_model.specs.World.{Item}
use Rattle.tcap_model.proofs.ListLaws.{contains_first}
use Rattle.tcap_refute.specs.EarlierMessages.{peer_sent_from, has_a, is_a, sent_by}
use Rattle.tcap_refute.proofs.Members.{any_has, filter_has, filter_map_has, has_not}
use Rattle.tcap_faults.specs.Counts.{count}
use Rattle.tcap_faults.specs.SentToId.{began, begin_from, is_begin_from, is_continue_from, is_continue_to, has_used}
use Rattle.tcap_faults.specs.TangledIds.{are_tangled, goes_over_tangled, goes_to_begun, is_own_tangled, is_peer_tangled, near, own_of_continue, owns_of, two_differ}
use Rattle.tcap_faults.proofs.list_laws.FindLaws.{filter_is, find_has}

-- If no two IDs differ, any two are equal.
pub all_same : (ids : List (List ℕ)) (x y : List ℕ) → two_differ ids ≡ false → Contains ids x → Contains ids y → x ≡ y
all_same [] x y same has_x has_y = has_not x has_x
all_same (first ∷ more) x y same has_x has_y =
    first_is x (contains_first first more x has_x) ∙ sym (first_is y (contains_first first more y has_y))
  where
    first_is : (z : List ℕ) → (first ≡ z) ⊎ Contains more z → z ≡ first
    first_is z (inl here) = sym here
    first_is z (inr there) = of (bytes_eq first z) refl
      where
        of : (b : Bool) → bytes_eq first z ≡ b → z ≡ first
        of true equal = sym ((bytes_eq-Decides first z).0 equal)
        of false apart =
            absurd (both_ways _ same (any_has (λ other. not (bytes_eq first other)) more z there (rw apart refl)))

-- A plain ID of the peer: what holds if it is not tangled.
pub record IsPlain (side : Side) (items : List Item) (id : List ℕ) : Type 0 where
  -- The peer sent at most one Begin from it.
  pub few : count (is_a forms.Begin) (peer_sent_from side id items) < 2
  -- If the peer sent a Begin from it, the peer sent no Continue from it to an ID that the end began.
  pub none_begun : has_a forms.Begin (peer_sent_from side id items) ≡ true → (m : Message) → Contains (peer_sent_from side id items) m
      → goes_to_begun side items m ≡ true → ⊥
  -- At most one own ID is joined with it.
  pub one_own : (x y : List ℕ) → Contains (owns_of side items id) x → Contains (owns_of side items id) y → x ≡ y

pub plain_peer : (side : Side) (items : List Item) (id : List ℕ) → is_peer_tangled side items id ≡ false
    → IsPlain side items id
plain_peer side items id plain =
    let (three, guessed) = or_parts (two_differ (owns_of side items id)
    || nat_le 2 (count (is_a forms.Begin) (peer_sent_from side id items))
    || (has_a forms.Begin (peer_sent_from side id items) && list_any (goes_to_begun side items) (peer_sent_from side id items))) _ plain in
    let (two, apart) = or_parts (two_differ (owns_of side items id)
    || nat_le 2 (count (is_a forms.Begin) (peer_sent_from side id items))) _ three in
    let (same, few) = or_parts (two_differ (owns_of side items id)) _ two in
    record {
      few = leb-false 2 _ few;
      none_begun = λ begun m has goes.
          both_ways _ apart
          (and_from (has_a forms.Begin (peer_sent_from side id items)) _ begun
          (any_has (goes_to_begun side items) (peer_sent_from side id items) m has goes));
      one_own = λ x y has_x has_y. all_same (owns_of side items id) x y same has_x has_y;
    }

-- The destination ID of a message that goes over no tangled IDs is plain.
pub plain_to : (side : Side) (items : List Item) (m : Message) (id : List ℕ) → dtid_in m ≡ Some id
    → goes_over_tangled side items m ≡ false → IsPlain side items id
plain_to side items m id to over =
    let so : are_tangled side items (own_of_continue m) id ≡ false = rw to at over in
    let (own, peers) = or_parts (list_any (is_own_tangled side items) (near side items (own_of_continue m) id)) _ so in
    plain_peer side items id (or_parts (is_peer_tangled side items id) _ peers).0

-- ---- joined IDs

-- The end used each ID that it began.
pub began_used : (side : Side) (items : List Item) (own : List ℕ) → began side own items ≡ true
    → has_used side items own ≡ true
began_used side items own begun = by (begin_from side own items) refl begun
  where
    by : (o : Option Message) → begin_from side own items ≡ o → is_some o ≡ true → has_used side items own ≡ true
    by None none is = cc
    by (Some b) found is =
        let (has, passes) = find_has (is_begin_from own) (sent_by side items) b found in
        any_has (λ m. is_id own (otid_in m)) (sent_by side items) b has
        (and_parts (is_a forms.Begin b) (is_id own (otid_in b)) passes).1

-- A Continue of the peer to an ID that the end used joins both IDs.
pub joins : (side : Side) (items : List Item) (id own : List ℕ) (m : Message) → Contains (peer_sent_from side id items) m
    → is_a forms.Continue m ≡ true → dtid_in m ≡ Some own → has_used side items own ≡ true
    → Contains (owns_of side items id) own
joins side items id own m has goes_on to used =
    let (there, from) = filter_is (λ n. is_id id (otid_in n)) (sent_by (other side) items) m has in
    let kept = filter_has (is_continue_from id) (sent_by (other side) items) m there
    (and_from (is_a forms.Continue m) _ goes_on from) in
    let named = filter_map_has dtid_in (filter (is_continue_from id) (sent_by (other side) items)) m own kept to in
    Contains-append_right (filter_map otid_in (filter (is_continue_to id) (sent_by side items))) _ own
    (filter_has (has_used side items) (filter_map dtid_in (filter (is_continue_from id) (sent_by (other side) items))) own
    named used)
