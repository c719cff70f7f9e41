-- Putting a half into an end keeps the end sound, and changes no closed half.
use Rattle.std.proofs.Common.{◌≡◌, ◌≢◌, ℕ, true, false, List, Option, Some, None, Ok, ◌⊎◌, inl, inr, refl, sym, ap, ◌∙◌}
use Rattle.std.specs.List.Sorted.{IsStrictlySortedBy}
use Rattle.std.proofs.lemmas.Map.Lookups.{exact_bytes}
use Rattle.tcap_end.specs.declared.fault.EndFault.{EndFault}
use Rattle.tcap_end.specs.declared.fault.EndFault.TheVariants as faults
use Rattle.tcap_end.specs.declared.half.Phase.TheVariants as phases
use Rattle.tcap_end.specs.declared.half.Slot.{Slot}
use Rattle.tcap_end.specs.declared.half.Slot.TheVariants.{Begun, Accepted}
use Rattle.tcap_end.specs.Table.{octets_cmp}
use Rattle.tcap_end.specs.Half.{Half, is_closed}
use Rattle.tcap_end.specs.End.{End, KeyedHalf, nothing, put, quiet, with_own, with_peer}
use Rattle.tcap_end.specs.ReachableEnd.{HasHalf, IsEnd, IsHalf, IsHalfKey, IsSame, Rises, halves_of}
use Rattle.tcap_end.proofs.AnsweringLaws.{needs_ok, ok_same}
use Rattle.tcap_lists.proofs.MapLaws.{found_inserted, found_other, rises_inserted}
use Rattle.tcap_end.proofs.FoundLaws.{half_at, none_own, none_peer, octets_total}

-- ---- an end without halves

pub no_half : {P : Type 0} (slot : Slot) (key : List ℕ) (h : Half) → half_at (halves_of slot nothing) key ≡ Some h → P
no_half Begun key h had = let bad : None ≡ Some h = had in cc
no_half Accepted key h had = let bad : None ≡ Some h = had in cc

-- An end without halves is sound.
pub nothing_sound : IsEnd nothing
unfolding IsStrictlySortedBy
nothing_sound = record {
  begun = tt;
  accepted = tt;
  halves = λ f had. no_half f.slot f.key f.half had;
  kept = λ f had. no_half f.slot f.key f.half had;
  one_own = λ f g id had. no_half f.slot f.key f.half had;
  one_peer = λ f g id had. no_half f.slot f.key f.half had;
}

-- The end after a quiet mark is sound.
pub quiet_sound : (e next : End) → quiet e ≡ Ok next → IsEnd next
quiet_sound e next is =
    let step = needs_ok _ faults.StillOpen _ next is in
    let same = ok_same {F = EndFault} nothing next step.1 in
    rw (← same) nothing_sound

-- ---- the halves after a put

-- the half is that one, kept there
abbrev pub IsThere : Slot → List ℕ → Half → KeyedHalf → Type 0
IsThere slot key h f = (f.slot ≡ slot) × (f.key ≡ key) × (f.half ≡ h)

-- A half after a put is the new one, or was there before.
pub put_has : (e : End) (slot : Slot) (key : List ℕ) (h : Half) (f : KeyedHalf)
    → HasHalf (put e slot key h) f → IsThere slot key h f ⊎ HasHalf e f
put_has e slot key h f had = at slot f.slot f.key f.half had
  where
    by : (place : Slot) (es : List (List ℕ × Half)) (q : List ℕ) (w : Half) → ((q ≡ key) × (w ≡ h)) ⊎ (half_at es q ≡ Some w)
        → ((place ≡ place) × (q ≡ key) × (w ≡ h)) ⊎ (half_at es q ≡ Some w)
    by place es q w (inl new) = inl (refl, new.0, new.1)
    by place es q w (inr old) = inr old

    at : (slot place : Slot) (q : List ℕ) (w : Half) → half_at (halves_of place (put e slot key h)) q ≡ Some w
        → ((place ≡ slot) × (q ≡ key) × (w ≡ h)) ⊎ (half_at (halves_of place e) q ≡ Some w)
    at Begun Begun q w found = by Begun e.begun q w (found_inserted octets_total exact_bytes q key h w e.begun found)
    at Begun Accepted q w found = inr found
    at Accepted Begun q w found = inr found
    at Accepted Accepted q w found = by Accepted e.accepted q w (found_inserted octets_total exact_bytes q key h w e.accepted found)

-- A half that is kept elsewhere stays.
pub put_other : (e : End) (slot : Slot) (key : List ℕ) (h : Half) (f : KeyedHalf)
    → (f.slot ≡ slot → f.key ≢ key) → HasHalf e f → HasHalf (put e slot key h) f
put_other e slot key h f apart had = at slot f.slot apart had
  where
    at : (slot place : Slot) → (place ≡ slot → f.key ≢ key) → half_at (halves_of place e) f.key ≡ Some f.half
        → half_at (halves_of place (put e slot key h)) f.key ≡ Some f.half
    at Begun Begun apart found = found_other octets_total exact_bytes f.key key h f.half e.begun (apart refl) found
    at Begun Accepted apart found = found
    at Accepted Begun apart found = found
    at Accepted Accepted apart found = found_other octets_total exact_bytes f.key key h f.half e.accepted (apart refl) found

put_begun : (e : End) (slot : Slot) (key : List ℕ) (h : Half) → IsEnd e → Rises octets_cmp (put e slot key h).begun
put_begun e Begun key h sound = rises_inserted octets_total e.begun key h sound.begun
put_begun e Accepted key h sound = sound.begun

put_accepted : (e : End) (slot : Slot) (key : List ℕ) (h : Half) → IsEnd e → Rises octets_cmp (put e slot key h).accepted
put_accepted e Begun key h sound = sound.accepted
put_accepted e Accepted key h sound = rises_inserted octets_total e.accepted key h sound.accepted

-- ---- IDs

-- No two halves have the same ID of this kind.
abbrev AreAlone : (Half → Option (List ℕ)) → End → Type 0
AreAlone of e = (f g : KeyedHalf) (id : List ℕ) → HasHalf e f → HasHalf e g → of f.half ≡ Some id → of g.half ≡ Some id → IsSame f g

-- No half kept elsewhere has this half's ID.
abbrev IsAlone : (Half → Option (List ℕ)) → End → Slot → List ℕ → Half → Type 0
IsAlone of e slot key h =
    (g : KeyedHalf) (id : List ℕ) → HasHalf e g → of h ≡ Some id → of g.half ≡ Some id → (g.slot ≡ slot) × (g.key ≡ key)

put_alone : (of : Half → Option (List ℕ)) (e : End) (slot : Slot) (key : List ℕ) (h : Half)
    → AreAlone of e → IsAlone of e slot key h → AreAlone of (put e slot key h)
put_alone of e slot key h old alone f g id in_f in_g of_f of_g = by (put_has e slot key h f in_f) (put_has e slot key h g in_g)
  where
    by : IsThere slot key h f ⊎ HasHalf e f → IsThere slot key h g ⊎ HasHalf e g → IsSame f g
    by (inl a) (inl b) = (a.0 ∙ sym b.0, a.1 ∙ sym b.1)
    by (inl a) (inr b) = let r = alone g id b (ap of (sym a.2) ∙ of_f) of_g in (a.0 ∙ sym r.0, a.1 ∙ sym r.1)
    by (inr a) (inl b) = let r = alone f id a (ap of (sym b.2) ∙ of_g) of_f in (r.0 ∙ sym b.0, r.1 ∙ sym b.1)
    by (inr a) (inr b) = old f g id a b of_f of_g

-- a half with the ID of the half in its place
alone_kept : (of : Half → Option (List ℕ)) (e : End) (f : KeyedHalf) (h : Half)
    → AreAlone of e → HasHalf e f → of h ≡ of f.half → IsAlone of e f.slot f.key h
alone_kept of e f h old had same g id in_g of_h of_g = let r = old g f id in_g had of_g (sym same ∙ of_h) in (r.0, r.1)

-- a half with an ID that no half had
alone_own : (e : End) (slot : Slot) (key id : List ℕ) (h : Half)
    → with_own e id ≡ None → h.own ≡ Some id → IsAlone (λ h. h.own) e slot key h
alone_own e slot key id h none own g other in_g of_h of_g = none_own e id g none in_g (of_g ∙ sym of_h ∙ own)

alone_peer : (e : End) (slot : Slot) (key id : List ℕ) (h : Half)
    → with_peer e id ≡ None → h.peer ≡ Some id → IsAlone (λ h. h.peer) e slot key h
alone_peer e slot key id h none peer g other in_g of_h of_g = none_peer e id g none in_g (of_g ∙ sym of_h ∙ peer)

-- a half without such an ID
alone_without : (of : Half → Option (List ℕ)) (e : End) (slot : Slot) (key : List ℕ) (h : Half)
    → of h ≡ None → IsAlone of e slot key h
alone_without of e slot key h none g id in_g of_h of_g = cc

-- ---- soundness

put_sound : (e : End) (slot : Slot) (key : List ℕ) (h : Half) → IsEnd e → IsHalf h → IsHalfKey slot key h
    → IsAlone (λ h. h.own) e slot key h → IsAlone (λ h. h.peer) e slot key h → IsEnd (put e slot key h)
put_sound e slot key h sound half kept own peer = record {
  begun = put_begun e slot key h sound;
  accepted = put_accepted e slot key h sound;
  halves = λ f had. is_half f (put_has e slot key h f had);
  kept = λ f had. is_kept f (put_has e slot key h f had);
  one_own = put_alone (λ h. h.own) e slot key h sound.one_own own;
  one_peer = put_alone (λ h. h.peer) e slot key h sound.one_peer peer;
}
  where
    is_half : (f : KeyedHalf) → IsThere slot key h f ⊎ HasHalf e f → IsHalf f.half
    is_half f (inl new) = rw (new.2) half
    is_half f (inr old) = sound.halves f old

    is_kept : (f : KeyedHalf) → IsThere slot key h f ⊎ HasHalf e f → IsHalfKey f.slot f.key f.half
    is_kept f (inl new) = rw (new.0, new.1, new.2) kept
    is_kept f (inr old) = sound.kept f old

-- After a step the end is sound, and each closed half is still there.
pub record Goes (e next : End) : Type 0 where
  pub sound : IsEnd next
  pub stays : (f : KeyedHalf) → HasHalf e f → f.half.phase ≡ phases.Closed → HasHalf next f

pub goes_nowhere : (e : End) → IsEnd e → Goes e e
goes_nowhere e sound = record { sound = sound; stays = λ f had is. had }

-- A half is put where no closed half is kept.
put_goes : (e : End) (slot : Slot) (key : List ℕ) (h : Half) → IsEnd e → IsHalf h → IsHalfKey slot key h
    → IsAlone (λ h. h.own) e slot key h → IsAlone (λ h. h.peer) e slot key h
    → ((g : KeyedHalf) → HasHalf e g → g.half.phase ≡ phases.Closed → g.slot ≡ slot → g.key ≢ key) → Goes e (put e slot key h)
put_goes e slot key h sound half kept own peer apart = record {
  sound = put_sound e slot key h sound half kept own peer;
  stays = λ g in_g closed. put_other e slot key h g (apart g in_g closed) in_g;
}

-- ---- an open half is replaced

-- No closed half is kept where an open one is.
open_apart : (e : End) (f g : KeyedHalf) → HasHalf e f → is_closed f.half.phase ≡ false
    → HasHalf e g → g.half.phase ≡ phases.Closed → g.slot ≡ f.slot → g.key ≢ f.key
open_apart e f g in_f is_open in_g closed slots keys =
    let there : half_at (halves_of f.slot e) f.key ≡ Some g.half = rw (← slots, ← keys) in_g in
    let same : f.half ≡ g.half = cc in
    let shut : is_closed f.half.phase ≡ true = rw (same, closed) refl in cc

put_back : (e : End) (f : KeyedHalf) (h : Half) → IsEnd e → HasHalf e f → is_closed f.half.phase ≡ false → IsHalf h → IsHalfKey f.slot f.key h
    → IsAlone (λ h. h.own) e f.slot f.key h → IsAlone (λ h. h.peer) e f.slot f.key h → Goes e (put e f.slot f.key h)
put_back e f h sound had is_open half kept own peer =
    put_goes e f.slot f.key h sound half kept own peer (λ g in_g closed. open_apart e f g had is_open in_g closed)

-- by a half with the same IDs
pub put_open : (e : End) (f : KeyedHalf) (h : Half) → IsEnd e → HasHalf e f → is_closed f.half.phase ≡ false → IsHalf h
    → h.own ≡ f.half.own → h.peer ≡ f.half.peer → Goes e (put e f.slot f.key h)
put_open e f h sound had is_open half own peer = put_back e f h sound had is_open half
    (kept f.slot (sound.kept f had))
    (alone_kept (λ h. h.own) e f h sound.one_own had own) (alone_kept (λ h. h.peer) e f h sound.one_peer had peer)
  where
    kept : (slot : Slot) → IsHalfKey slot f.key f.half → IsHalfKey slot f.key h
    kept Begun by_own = own ∙ by_own
    kept Accepted by_peer = peer ∙ by_peer

-- by a half with an own ID that no half had
pub put_answered : (e : End) (f : KeyedHalf) (id : List ℕ) (h : Half) → IsEnd e → HasHalf e f → is_closed f.half.phase ≡ false → IsHalf h
    → with_own e id ≡ None → f.half.own ≡ None → h.own ≡ Some id → h.peer ≡ f.half.peer → Goes e (put e f.slot f.key h)
put_answered e f id h sound had is_open half none was own peer = put_back e f h sound had is_open half
    (kept f.slot (sound.kept f had))
    (alone_own e f.slot f.key id h none own) (alone_kept (λ h. h.peer) e f h sound.one_peer had peer)
  where
    kept : (slot : Slot) → IsHalfKey slot f.key f.half → IsHalfKey slot f.key h
    kept Begun by_own = cc
    kept Accepted by_peer = peer ∙ by_peer

-- by a half with a peer's ID that no half had
pub put_learned : (e : End) (f : KeyedHalf) (id : List ℕ) (h : Half) → IsEnd e → HasHalf e f → is_closed f.half.phase ≡ false → IsHalf h
    → with_peer e id ≡ None → f.half.peer ≡ None → h.peer ≡ Some id → h.own ≡ f.half.own → Goes e (put e f.slot f.key h)
put_learned e f id h sound had is_open half none was peer own = put_back e f h sound had is_open half
    (kept f.slot (sound.kept f had))
    (alone_kept (λ h. h.own) e f h sound.one_own had own) (alone_peer e f.slot f.key id h none peer)
  where
    kept : (slot : Slot) → IsHalfKey slot f.key f.half → IsHalfKey slot f.key h
    kept Begun by_own = own ∙ by_own
    kept Accepted by_peer = cc

-- ---- a half begins

-- by sending a Begin, with an own ID that no half had
pub put_sent : (e : End) (id : List ℕ) (h : Half) → IsEnd e → IsHalf h
    → with_own e id ≡ None → h.own ≡ Some id → h.peer ≡ None → Goes e (put e Begun id h)
put_sent e id h sound half none own peer = put_goes e Begun id h sound half own
    (alone_own e Begun id id h none own) (alone_without (λ h. h.peer) e Begun id h peer)
    (λ g in_g closed slots keys. none_own e id g none in_g (rw (slots, keys) at (sound.kept g in_g)))

-- by receiving a Begin, with a peer's ID that no half had
pub put_received : (e : End) (id : List ℕ) (h : Half) → IsEnd e → IsHalf h
    → with_peer e id ≡ None → h.peer ≡ Some id → h.own ≡ None → Goes e (put e Accepted id h)
put_received e id h sound half none peer own = put_goes e Accepted id h sound half peer
    (alone_without (λ h. h.own) e Accepted id h own) (alone_peer e Accepted id id h none peer)
    (λ g in_g closed slots keys. none_peer e id g none in_g (rw (slots, keys) at (sound.kept g in_g)))
