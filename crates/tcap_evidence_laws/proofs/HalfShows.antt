-- The lists show F8: a message that no half may send.
use Rattle.tcap_evidence_laws.proofs.Common.{◌≡◌, ◌≢◌, ◌⊎◌, inl, inr, ℕ, Bool, true, false, cond, ◌||◌, List, [], Option, Some, None, refl, sym, ap, subst, ◌∙◌, Contains, list_any, not-true, or_cases, or_parts, Contains-append_left, Message, Begin, Continue, dtid_in, otid_in, Side, Entry, is_id, Table, Item, id_is, peer_sent_from, has_a, is_a, option_or, HalfOrigin, Accepted, Refused, Begun, Unanswered, was_closed, is_nothing, goes_from_other, is_wrong_half, may_not_send, answered_from, begun_from, continued_to, half_by, half_of, incoming_continues, goes_over_tangled, goes_to_begun, is_own_tangled, owns_of, began, begin_from, was_refused, one, passes_not, entries_where, Scene, peer_from_dtid, AreDifferent, HasKind, ListsOne, items_before, scene_at, is_that_id, other, subject}
use Rattle.tcap_faults.specs.HalfKinds.{is_another}
use Rattle.tcap_faults.specs.TangledIds.{are_tangled, near, own_of_continue}
use Rattle.tcap_evidence_laws.specs.HalfEvidence.{ShowsWrongHalf}
use Rattle.tcap_evidence_laws.proofs.CountedLaws.{scene_over, scene_to}
use Rattle.tcap_evidence_laws.proofs.HasKindLaws.{further_so, goes_so, half_so}
use Rattle.tcap_evidence_laws.proofs.ListsLaws.{none_aborts, none_there, one_aborts, one_there}
use Rattle.tcap_evidence_laws.proofs.SceneLists.{IsOver, IsTo}
use Rattle.tcap_evidence_laws.proofs.HalfScene.{begun_one, none_begun, starts, unanswered, outgoing_one, begun_closed, accepted_closed, ArePlain}
use Rattle.tcap_msg.specs.declared.kind.Kind.TheVariants as forms
use Rattle.tcap_refute.specs.declared.kind.Kind.TheVariants as kinds
use Rattle.tcap_evidence.specs.declared.shown_facts.ShownFact.TheVariants as facts

-- The scene is that of a message which this end sends after these items.
pub record IsFrom (side : Side) (items : List Item) (m : Message) (s : Scene) : Type 0 where
  pub at_side : s.side ≡ side
  pub at_items : s.items ≡ items
  pub from : s.from ≡ otid_in m

differ : (id other : List ℕ) → is_id id (Some other) ≡ false → other ≢ id
differ id other apart same = let bad : true ≡ false = sym (is_that_id id (Some other) (ap Some same)) ∙ apart in cc

module _ (side : Side) (items : List Item) (s : Scene) (id : List ℕ) (of : IsTo side items id s) (over : IsOver side items id s)
    (m : Message) (sends : IsFrom side items m s) (plain : ArePlain side items s id of) where
  -- A Continue from an ID that the accepted half does not have.
  other_accepted : (o : Option (List ℕ)) → answered_from side items id ≡ o → s.half ≡ o → (x : Message) → s.from ≡ otid_in x
      → goes_from_other side items Accepted o x ≡ true
      → ListsOne s facts.Begun ⊎ (ListsOne s facts.OutgoingContinues × AreDifferent s.half s.from)
  other_accepted o answered half (Continue otid dtid dialogue components) from is =
      by o answered half (or_cases (began side otid items) (is_another otid o) is)
    where
      by : (p : Option (List ℕ)) → answered_from side items id ≡ p → s.half ≡ p
          → (began side otid items ≡ true) ⊎ (is_another otid p ≡ true)
          → ListsOne s facts.Begun ⊎ (ListsOne s facts.OutgoingContinues × AreDifferent s.half s.from)
      by None answered half (inl begun) =
          inl (begun_one side items s id of otid (ap (λ (q : Option (List ℕ)). option_or q s.from) half ∙ from) begun)
      by None answered half (inr another) = cc
      by (Some own) answered half (inr another) =
          inr (outgoing_one side items s id of own answered, (own, otid, half, from, differ otid own (not-true (is_id otid (Some own)) another)))
      by (Some own) answered half (inl begun) = same (is_id otid (Some own)) refl
        where
          same : (b : Bool) → is_id otid (Some own) ≡ b
              → ListsOne s facts.Begun ⊎ (ListsOne s facts.OutgoingContinues × AreDifferent s.half s.from)
          same true one =
              inl (begun_one side items s id of otid (ap (λ (q : Option (List ℕ)). option_or q s.from) half ∙ id_is otid (Some own) one) begun)
          same false two = inr (outgoing_one side items s id of own answered, (own, otid, half, from, differ otid own two))
  other_accepted o answered half x from is = cc

  other_begun : (own : List ℕ) → s.half ≡ Some own → (x : Message) → s.from ≡ otid_in x
      → goes_from_other side items Begun (Some own) x ≡ true → AreDifferent s.half s.from
  other_begun own half (Continue otid dtid dialogue components) from is =
      (own, otid, half, from, differ otid own (not-true (is_id otid (Some own)) is))
  other_begun own half x from is = cc

  closed_accepted : (o : Option (List ℕ)) → answered_from side items id ≡ o → was_closed side items o ≡ true
      → ListsOne s facts.Unknown
  closed_accepted None answered closed = cc
  closed_accepted (Some own) answered closed = accepted_closed side items s id of own answered plain closed

  -- the three ways in which the half is wrong
  ways : (origin : HalfOrigin) (own : Option (List ℕ)) → (may_not_send origin m ≡ true → ShowsWrongHalf s origin)
      → (goes_from_other side items origin own m ≡ true → ShowsWrongHalf s origin)
      → (was_closed side items own ≡ true → ListsOne s facts.Unknown)
      → (may_not_send origin m || goes_from_other side items origin own m || was_closed side items own) ≡ true
      → ShowsWrongHalf s origin
  ways origin own silent apart closed is =
      by (or_cases (may_not_send origin m || goes_from_other side items origin own m) (was_closed side items own) is)
    where
      first : (may_not_send origin m ≡ true) ⊎ (goes_from_other side items origin own m ≡ true) → ShowsWrongHalf s origin
      first (inl so) = silent so
      first (inr so) = apart so

      by : ((may_not_send origin m || goes_from_other side items origin own m) ≡ true) ⊎ (was_closed side items own ≡ true)
          → ShowsWrongHalf s origin
      by (inl so) = first (or_cases (may_not_send origin m) (goes_from_other side items origin own m) so)
      by (inr so) = inr (inr (closed so))

  begin_there : has_a forms.Begin (peer_sent_from side id items) ≡ true → ListsOne s facts.PeerBegins
  begin_there begun = one_there side items s id of (is_a forms.Begin) begun

  accepted_wrong : has_a forms.Begin (peer_sent_from side id items) ≡ true → s.half ≡ answered_from side items id
      → (refused : Bool) → was_refused side id items ≡ refused
      → (may_not_send (cond refused Refused Accepted) m
      || goes_from_other side items (cond refused Refused Accepted) (answered_from side items id) m
      || was_closed side items (answered_from side items id)) ≡ true
      → ShowsWrongHalf s (cond refused Refused Accepted)
  accepted_wrong begun half true refused is = inl (begin_there begun, one_aborts side items s id of 4 refused)
  accepted_wrong begun half false refused is =
      ways Accepted (answered_from side items id) (λ so. cc)
      (λ so. inr (inl (
        (begin_there begun, none_aborts side items s id of 4 refused),
        other_accepted (answered_from side items id) refl half m sends.from so,
      ))) (closed_accepted (answered_from side items id) refl) is

  begun_wrong : (own : List ℕ) → has_a forms.Begin (peer_sent_from side id items) ≡ false → begun_from side items id ≡ Some own
      → s.half ≡ Some own → (nothing : Bool)
      → is_nothing (incoming_continues (begin_from side own items) (continued_to side items id (Some own))) ≡ nothing
      → (may_not_send (cond nothing Unanswered Begun) m
      || goes_from_other side items (cond nothing Unanswered Begun) (Some own) m
      || was_closed side items (Some own)) ≡ true
      → ShowsWrongHalf s (cond nothing Unanswered Begun)
  begun_wrong own none from half true nothing is =
      let (asks, left) = unanswered side items s id of own none from half nothing in
      ways Unanswered (Some own)
      (λ so. inl (starts side items s id of own none from half, asks, left)) (λ so. cc)
      (begun_closed side items s id of own none from half plain) is
  begun_wrong own none from half false some is =
      ways Begun (Some own) (λ so. cc)
      (λ so. inr (inl (starts side items s id of own none from half, other_begun own half m sends.from so))) (begun_closed side items s id of own none from half plain) is

  none_to_begun : begun_from side items id ≡ None → entries_where (goes_to_begun s.side s.items) (peer_from_dtid s) ≡ []
  none_to_begun none =
      rw (sends.at_side, sends.at_items)
      (none_there side items s id of (goes_to_begun side items) (none_begun side items s id of none))

  pub wrong_half : is_wrong_half side items m (half_of side items id) ≡ true → ShowsWrongHalf s s.origin
  wrong_half = by (has_a forms.Begin (peer_sent_from side id items)) (begun_from side items id) refl refl over.origin over.half
    where
      by : (b : Bool) (o : Option (List ℕ)) → has_a forms.Begin (peer_sent_from side id items) ≡ b → begun_from side items id ≡ o
          → s.origin ≡ (half_by side items id b o).origin → s.half ≡ (half_by side items id b o).own
          → is_wrong_half side items m (half_by side items id b o) ≡ true → ShowsWrongHalf s s.origin
      by true o begun from origin half is =
          subst (ShowsWrongHalf s) (sym origin) (accepted_wrong begun half (was_refused side id items) refl is)
      by false None none from origin half is =
          subst (ShowsWrongHalf s) (sym origin)
          (inl (
            none_there side items s id of (is_a forms.Begin) none,
            none_to_begun from,
          ))
      by false (Some own) none from origin half is =
          subst (ShowsWrongHalf s) (sym origin)
          (begun_wrong own none from half
          (is_nothing (incoming_continues (begin_from side own items) (continued_to side items id (Some own)))) refl is)

-- ---- a message without ambiguous IDs

-- The own IDs joined with its destination ID are not ambiguous.
near_plain : (side : Side) (items : List Item) (m : Message) (id : List ℕ) → dtid_in m ≡ Some id
    → goes_over_tangled side items m ≡ false → (own : List ℕ) → Contains (owns_of side items id) own
    → is_own_tangled side items own ≡ false
near_plain side items m id to untangled own joined =
    let so : are_tangled side items (own_of_continue m) id ≡ false = rw to at untangled in
    passes_not (is_own_tangled side items) (near side items (own_of_continue m) id) own
    (Contains-append_left (owns_of side items id) (own_of_continue m) own joined)
    (or_parts (list_any (is_own_tangled side items) (near side items (own_of_continue m) id)) _ so).0

pub half_shows : (of_one : Bool) (table : Table) (side : Side) (entries : List Entry) (number : ℕ) (m : Message)
    → HasKind table side (items_before entries number) m kinds.WrongHalf
    → ShowsWrongHalf (scene_at of_one table side entries number m kinds.WrongHalf)
    (scene_at of_one table side entries number m kinds.WrongHalf).origin
half_shows of_one table side entries number m has =
    let items : List Item = items_before entries number in
    let (id, to) = goes_so table side items m kinds.WrongHalf refl has in
    let untangled = (further_so table side items m kinds.WrongHalf refl has).0 in
    wrong_half side items (scene_at of_one table side entries number m kinds.WrongHalf) id
    (scene_to table side entries number m kinds.WrongHalf (subject of_one table side items m kinds.WrongHalf) id to)
    (scene_over of_one table side entries number m kinds.WrongHalf id to) m
    (record { at_side = refl; at_items = refl; from = refl }) (near_plain side items m id to untangled)
    (half_so table side items m id to kinds.WrongHalf refl has)
