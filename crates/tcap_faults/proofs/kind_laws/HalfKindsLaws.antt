-- No message that an end sends has F8: it fits the IDs and the beginning of its half (Q.774 3.3).
use Rattle.std.proofs.Common.{◌≡◌, ◌⊎◌, inl, inr, ℕ, true, List, Option, Some, None, is_some, refl, sym, subst, ◌∙◌, arith}
use Rattle.std.specs.Prelude.{◌||◌}
use Rattle.std.proofs.lemmas.Bool.{both_ways, not-true, or_cases}
use Rattle.tcap_msg.specs.declared.message.Message.{Message}
use Rattle.tcap_msg.specs.declared.message.Message.TheVariants.{Begin, Continue}
use Rattle.tcap_record.specs.declared.entry.End.{End as Side}
use Rattle.tcap_end.specs.declared.half.Phase.TheVariants as phases
use Rattle.tcap_end.specs.declared.half.Slot.TheVariants as slots
use Rattle.tcap_end.specs.Table.{Table}
use Rattle.tcap_end.specs.Half.{is_closed}
use Rattle.tcap_end.specs.End.{End, KeyedHalf, is_id, with_own}
use Rattle.tcap_end.specs.ReachableEnd.{IsEnd}
use Rattle.tcap_model.specs.World.{Item}
use Rattle.tcap_model.proofs.TurnLaws.{id_is}
use Rattle.tcap_refute.specs.EarlierMessages.{sent_by}
use Rattle.tcap_end.proofs.FoundLaws.{is_that_id}
use Rattle.tcap_model.proofs.UsedLaws.{one_half}
use Rattle.tcap_refute.proofs.OverLaws.{IsOver, Speaks}
use Rattle.tcap_faults.specs.ClosedHalves.{was_closed}
use Rattle.tcap_faults.specs.SentToId.{began, begin_from, is_begin_from}
use Rattle.tcap_faults.specs.HalfKinds.{goes_from_other, is_another, is_wrong_half, may_not_send}
use Rattle.tcap_faults.specs.declared.dialogue.half_origin.HalfOrigin.{HalfOrigin}
use Rattle.tcap_faults.specs.declared.dialogue.half_origin.HalfOrigin.TheVariants.{Accepted, Begun}
use Rattle.tcap_faults.specs.HalfByPeerId.{HalfMessages, half_of}
use Rattle.tcap_faults.proofs.view_laws.ClosedHalfLaws.{all_closed_at}
use Rattle.tcap_faults.proofs.view_laws.ViewLaws.{View, view_sound}
use Rattle.tcap_faults.proofs.kind_laws.HalfFacts.{either_slot, waits_so}
use Rattle.tcap_faults.proofs.view_laws.ActLaws.{Uses}
use Rattle.tcap_faults.proofs.list_laws.FindLaws.{find_has}
use Rattle.tcap_faults.proofs.view_laws.BegunHalfLaws.{all_use, begin_used}
use Rattle.tcap_faults.proofs.kind_laws.OwnHalfLaws.{how_accepted, how_begun_half, own_is}
use Rattle.tcap_faults.proofs.transaction_laws.TangledLaws.{IsPlain}

-- An ID does not differ from itself.
not_another : (otid : List ℕ) (own : Option (List ℕ)) → own ≡ Some otid → is_another otid own ≡ true → ⊥
not_another otid None is so = cc
not_another otid (Some own) is so = both_ways (is_id otid (Some own)) (not-true _ so) (is_that_id otid (Some own) is)

none_another : (otid : List ℕ) (own : Option (List ℕ)) → own ≡ None → is_another otid own ≡ true → ⊥
none_another otid own is so = grind (arith, is, so)

-- A message that is sent over a half whose peer's ID is plain.
module _ {table : Table} {side : Side} {e : End} {coming : List Message} {items : List Item}
    (view : View table side e coming items) (m : Message) (id : List ℕ) (half : IsOver table e m id)
    (plain : IsPlain side items id) where
  abbrev f : KeyedHalf
  f = half.kept

  abbrev h : HalfMessages
  h = half_of side items id

  is_end : IsEnd e
  is_end = view_sound view

  own : h.own ≡ f.half.own
  own = own_is view m id half plain

  -- The half may send.
  speaks_so : (origin : HalfOrigin) → h.origin ≡ origin → (origin ≡ Begun) ⊎ (origin ≡ Accepted) → may_not_send origin m ≡ true → ⊥
  speaks_so origin is (inl begun) so = let bad : may_not_send Begun m ≡ true = rw begun at so in cc
  speaks_so origin is (inr accepted) so = let bad : may_not_send Accepted m ≡ true = rw accepted at so in cc

  how_is : (h.origin ≡ Begun) ⊎ (h.origin ≡ Accepted)
  how_is = by (either_slot f.slot)
    where
      by : (f.slot ≡ slots.Begun) ⊎ (f.slot ≡ slots.Accepted) → (h.origin ≡ Begun) ⊎ (h.origin ≡ Accepted)
      by (inl slot) = inl (how_begun_half view m id half plain slot)
      by (inr slot) = inr (how_accepted view m id half plain slot)

  -- A Continue comes from the half's own ID, or from an ID that the half chooses now.
  none_other : (otid : List ℕ) → ((f.half.phase ≡ phases.Active) × (f.half.own ≡ Some otid))
      ⊎ ((f.half.phase ≡ phases.Received) × (with_own e otid ≡ None)) → is_another otid h.own ≡ true → ⊥
  none_other otid (inl (active, mine)) so = not_another otid h.own (own ∙ mine) so
  none_other otid (inr (received, none)) so = none_another otid h.own (own ∙ waits_so e f is_end half.had received) so

  -- A Continue from an ID that the end began goes over the half with that Begin.
  begun_mine : (otid : List ℕ) (b : Message) → is_begin_from otid b ≡ true → Uses e b → f.half.own ≡ Some otid
      → f.slot ≡ slots.Begun
  begun_mine otid (Begin id dialogue components) begins (h, there) mine =
      let g : KeyedHalf = record { slot = slots.Begun; key = id; half = h } in
      let same : Some id ≡ Some otid = id_is otid (Some id) begins in
      (is_end.one_own f g otid half.had there mine (is_end.kept g there ∙ same)).0
  begun_mine otid m begins uses mine = cc

  begun_is : (otid : List ℕ) (b : Message) → is_begin_from otid b ≡ true → Uses e b
      → ((f.half.phase ≡ phases.Active) × (f.half.own ≡ Some otid))
      ⊎ ((f.half.phase ≡ phases.Received) × (with_own e otid ≡ None)) → f.slot ≡ slots.Begun
  begun_is otid b begins uses (inl (active, mine)) = begun_mine otid b begins uses mine
  begun_is otid b begins uses (inr (received, none)) = begin_used e otid b is_end none begins uses

  begun_speaks : (otid : List ℕ) → began side otid items ≡ true
      → ((f.half.phase ≡ phases.Active) × (f.half.own ≡ Some otid))
      ⊎ ((f.half.phase ≡ phases.Received) × (with_own e otid ≡ None)) → f.slot ≡ slots.Begun
  begun_speaks otid begun speaks = by (begin_from side otid items) refl begun
    where
      by : (o : Option Message) → begin_from side otid items ≡ o → is_some o ≡ true → f.slot ≡ slots.Begun
      by None none is = cc
      by (Some b) found is =
          let (has, begins) = find_has (is_begin_from otid) (sent_by side items) b found in
          begun_is otid b begins (all_use view b has) speaks

  -- A Continue over an accepted half comes from no ID that the end began.
  accepted_other : f.slot ≡ slots.Accepted → (n : Message) → n ≡ m
      → goes_from_other side items Accepted h.own n ≡ true → ⊥
  accepted_other slot (Continue otid dtid dialogue components) is so =
      by (or_cases (began side otid items) (is_another otid h.own) so)
    where
      speaks : Speaks e (Continue otid dtid dialogue components) f.half
      speaks = subst (λ (x : Message). Speaks e x f.half) (sym is) half.speaks

      by : (began side otid items ≡ true) ⊎ (is_another otid h.own ≡ true) → ⊥
      by (inl begun) = let bad = sym slot ∙ begun_speaks otid begun speaks in cc
      by (inr other) = none_other otid speaks other
  accepted_other slot m is so = cc

  begun_other : (n : Message) → n ≡ m → goes_from_other side items Begun h.own n ≡ true → ⊥
  begun_other (Continue otid dtid dialogue components) is so = none_other otid speaks so
    where
      speaks : Speaks e (Continue otid dtid dialogue components) f.half
      speaks = subst (λ (x : Message). Speaks e x f.half) (sym is) half.speaks
  begun_other m is so = cc

  not_other : goes_from_other side items h.origin h.own m ≡ true → ⊥
  not_other so = by (either_slot f.slot)
    where
      by : (f.slot ≡ slots.Begun) ⊎ (f.slot ≡ slots.Accepted) → ⊥
      by (inl slot) =
          begun_other m refl
          (subst (λ (x : HalfOrigin). goes_from_other side items x h.own m ≡ true) (how_begun_half view m id half plain slot) so)
      by (inr slot) =
          accepted_other slot m refl
          (subst (λ (x : HalfOrigin). goes_from_other side items x h.own m ≡ true) (how_accepted view m id half plain slot) so)

  -- The half was not answered as closed.
  none_closed : (o : Option (List ℕ)) → h.own ≡ o → was_closed side items o ≡ true → ⊥
  none_closed None is shown = cc
  none_closed (Some o) is shown =
      let (g, had, mine, closed) = all_closed_at view o shown in
      let his : f.half.own ≡ Some o = sym own ∙ is in
      let same = one_half e f g half.had had (is_end.one_own f g o half.had had his mine) in
      let shut : is_closed f.half.phase ≡ true = rw (← same, closed) refl in
      both_ways (is_closed f.half.phase) half.is_open shut

  -- So the message does not have F8.
  pub right_half : is_wrong_half side items m h ≡ true → ⊥
  right_half is = by (or_cases (may_not_send h.origin m || goes_from_other side items h.origin h.own m) _ is)
    where
      first : (may_not_send h.origin m ≡ true) ⊎ (goes_from_other side items h.origin h.own m ≡ true) → ⊥
      first (inl so) = speaks_so h.origin refl how_is so
      first (inr so) = not_other so

      by : ((may_not_send h.origin m || goes_from_other side items h.origin h.own m) ≡ true)
          ⊎ (was_closed side items h.own ≡ true) → ⊥
      by (inl so) = first (or_cases (may_not_send h.origin m) _ so)
      by (inr shown) = none_closed h.own refl shown
