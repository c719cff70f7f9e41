-- An end without the halves outside a part: which halves it finds, and what it is after a half is put.
use Rattle.std.proofs.Common.{◌≡◌, ◌⊎◌, inl, inr, ℕ, Bool, true, false, List, Option, Some, None, Result, Ok, refl, sym, ap, ◌∙◌}
use Rattle.std.specs.Prelude.{ok_or}
use Rattle.tcap_end.specs.declared.fault.EndFault.{EndFault}
use Rattle.tcap_end.specs.declared.half.HalfName.{HalfName}
use Rattle.tcap_end.specs.declared.half.HalfName.TheVariants as names
use Rattle.tcap_end.specs.declared.half.Slot.{Slot}
use Rattle.tcap_end.specs.declared.half.Slot.TheVariants.{Begun, Accepted}
use Rattle.tcap_end.specs.Step.{needs, ◌>>◌, ◌>>=◌}
use Rattle.tcap_end.specs.Half.{Half}
use Rattle.tcap_end.specs.End.{End, KeyedHalf, first_half, half_where, is_id, named, nothing, put, with_own, with_peer}
use Rattle.tcap_end.specs.ReachableEnd.{HasHalf, IsEnd, IsHalfKey}
use Rattle.tcap_end.proofs.EndLaws.{IsThere, no_half, put_has}
use Rattle.tcap_end.proofs.FoundLaws.{own_has, peer_has}
use Rattle.tcap_model.proofs.SentMoves.{own_is, peer_is}
use Rattle.tcap_model.proofs.TurnLaws.{id_is}
use Rattle.tcap_dialogues.proofs.ThinLaws.{all_kept, first_thin, thin, thin_in, thin_out}

-- ---- steps

-- A step goes on if its condition holds.
pub needs_so : {A F : Type 0} {so : Bool} {rest r : Result A F} (reason : F) → so ≡ true → rest ≡ r → (needs so reason >> rest) ≡ r
needs_so {so = true} reason so rest = rest
needs_so {so = false} reason so rest = cc

-- A step goes on with the result of another.
pub then_so_on : {A B F : Type 0} {step : Result A F} {r : Result B F} (rest : A → Result B F) (x : A) → step ≡ Ok x → rest x ≡ r
    → (step >>= rest) ≡ r
then_so_on rest x is goes = rw is goes

-- A step goes on with what was found.
pub found_so_on : {A B F : Type 0} {o : Option A} {r : Result B F} (reason : F) (rest : A → Result B F) (x : A) → o ≡ Some x → rest x ≡ r
    → (ok_or o reason >>= rest) ≡ r
found_so_on reason rest x is goes = rw is goes

-- ---- an end without the halves outside

-- two tests: which own IDs, and which peer IDs, are inside
module _ (own peer : List ℕ → Bool) where
  -- the halves inside, by the IDs under which they are kept
  abbrev pub inside : End → End
  inside e = record { begun = thin own e.begun; accepted = thin peer e.accepted }

  -- whether a half kept there is inside
  abbrev pub at_slot : Slot → List ℕ → Bool
  at_slot Begun = own
  at_slot Accepted = peer

  -- The own ID and the peer ID of a half are both inside, or both outside.
  abbrev pub Agrees : Half → Type 0
  Agrees h = (o p : List ℕ) → h.own ≡ Some o → h.peer ≡ Some p → own o ≡ peer p

  -- This holds for each half of an end.
  pub record Matches (e : End) : Type 0 where
    pub agree : (f : KeyedHalf) → HasHalf e f → Agrees f.half

  -- It holds without halves.
  pub nothing_matches : Matches nothing
  nothing_matches = record { agree = λ f had. no_half f.slot f.key f.half had }

  -- It still holds after such a half is put.
  pub put_matches : (e : End) (slot : Slot) (key : List ℕ) (h : Half) → Matches e → Agrees h → Matches (put e slot key h)
  put_matches e slot key h old new = record { agree = λ f had. by f (put_has e slot key h f had) }
    where
      by : (f : KeyedHalf) → IsThere slot key h f ⊎ HasHalf e f → Agrees f.half
      by f (inl there) = rw (there.2) new
      by f (inr had) = old.agree f had

  -- ---- a half is inside if its IDs are

  -- by its own ID
  own_at : (slot : Slot) (key id : List ℕ) (h : Half) → IsHalfKey slot key h → Agrees h → h.own ≡ Some id → at_slot slot key ≡ own id
  own_at Begun key id h kept agrees is = let same : key ≡ id = cc in ap own same
  own_at Accepted key id h kept agrees is = sym (agrees id key is kept)

  -- by its peer ID
  peer_at : (slot : Slot) (key id : List ℕ) (h : Half) → IsHalfKey slot key h → Agrees h → h.peer ≡ Some id → at_slot slot key ≡ peer id
  peer_at Begun key id h kept agrees is = agrees key id kept is
  peer_at Accepted key id h kept agrees is = let same : key ≡ id = cc in ap peer same

  -- the place of an end's half, by its own ID
  pub own_place : (e : End) (f : KeyedHalf) (id : List ℕ) → IsEnd e → Matches e → HasHalf e f → f.half.own ≡ Some id → at_slot f.slot f.key ≡ own id
  own_place e f id sound matches had is = own_at f.slot f.key id f.half (sound.kept f had) (matches.agree f had) is

  -- the place of an end's half, by its peer ID
  pub peer_place : (e : End) (f : KeyedHalf) (id : List ℕ) → IsEnd e → Matches e → HasHalf e f → f.half.peer ≡ Some id → at_slot f.slot f.key ≡ peer id
  peer_place e f id sound matches had is = peer_at f.slot f.key id f.half (sound.kept f had) (matches.agree f had) is

  -- ---- halves that are found

  -- Each half that passes is inside.
  abbrev AreInside : (Half → Bool) → End → Type 0
  AreInside passes e = (f : KeyedHalf) → HasHalf e f → passes f.half ≡ true → at_slot f.slot f.key ≡ true

  -- Then the same half is found.
  same_half : (passes : Half → Bool) (e : End) → IsEnd e → AreInside passes e → half_where passes (inside e) ≡ half_where passes e
  same_half passes e sound all = by (first_half passes Begun e.begun) refl
    where
      begun : first_half passes Begun (thin own e.begun) ≡ first_half passes Begun e.begun
      begun = first_thin passes own Begun e.begun
          (all_kept _ e.begun sound.begun (λ key half at. all (record { slot = Begun; key = key; half = half }) at))

      accepted : first_half passes Accepted (thin peer e.accepted) ≡ first_half passes Accepted e.accepted
      accepted = first_thin passes peer Accepted e.accepted
          (all_kept _ e.accepted sound.accepted (λ key half at. all (record { slot = Accepted; key = key; half = half }) at))

      by : (o : Option KeyedHalf) → first_half passes Begun e.begun ≡ o → half_where passes (inside e) ≡ half_where passes e
      by None none = rw (begun, none) accepted
      by (Some f) some = rw (begun, some) refl

  -- The half with an own ID inside is found.
  pub own_same : (e : End) (id : List ℕ) → IsEnd e → Matches e → own id ≡ true → with_own (inside e) id ≡ with_own e id
  own_same e id sound matches so = same_half (λ h. is_id id h.own) e sound
      (λ f had passes. own_place e f id sound matches had (id_is id f.half.own passes) ∙ so)

  -- The half with a peer ID inside is found.
  pub peer_same : (e : End) (id : List ℕ) → IsEnd e → Matches e → peer id ≡ true → with_peer (inside e) id ≡ with_peer e id
  peer_same e id sound matches so = same_half (λ h. is_id id h.peer) e sound
      (λ f had passes. peer_place e f id sound matches had (id_is id f.half.peer passes) ∙ so)

  -- whether a name is inside
  abbrev pub named_in : HalfName → Bool
  named_in (names.Own id) = own id
  named_in (names.Peer id) = peer id

  -- The half with a name inside is found.
  pub named_same : (e : End) (name : HalfName) → IsEnd e → Matches e → named_in name ≡ true → named (inside e) name ≡ named e name
  named_same e (names.Own id) = own_same e id
  named_same e (names.Peer id) = peer_same e id

  -- It is inside if its name is.
  pub named_place : (e : End) (name : HalfName) (f : KeyedHalf) → IsEnd e → Matches e → named e name ≡ Some f
      → at_slot f.slot f.key ≡ named_in name
  named_place e (names.Own id) f sound matches is = own_place e f id sound matches (own_has e id sound f is) (own_is e id f is)
  named_place e (names.Peer id) f sound matches is = peer_place e f id sound matches (peer_has e id sound f is) (peer_is e id f is)

  -- ---- a half is put

  -- a half inside
  pub put_inside : (e : End) (slot : Slot) (key : List ℕ) (h : Half) → IsEnd e → at_slot slot key ≡ true
      → inside (put e slot key h) ≡ put (inside e) slot key h
  put_inside e Begun key h sound so =
      ap (λ es. (let x : End = record { begun = es; accepted = thin peer e.accepted } in x)) (thin_in own e.begun key h sound.begun so)
  put_inside e Accepted key h sound so =
      ap (λ es. (let x : End = record { begun = thin own e.begun; accepted = es } in x)) (thin_in peer e.accepted key h sound.accepted so)

  -- a half outside
  pub put_outside : (e : End) (slot : Slot) (key : List ℕ) (h : Half) → at_slot slot key ≡ false → inside (put e slot key h) ≡ inside e
  put_outside e Begun key h so =
      ap (λ es. (let x : End = record { begun = es; accepted = thin peer e.accepted } in x)) (thin_out own e.begun key h so)
  put_outside e Accepted key h so =
      ap (λ es. (let x : End = record { begun = thin own e.begun; accepted = es } in x)) (thin_out peer e.accepted key h so)

  -- ---- steps

  -- A step of a half inside is a step of the end without the halves outside; any other step leaves this end unchanged.
  pub record Thins (k : Bool) (step : End → Result End EndFault) (e next : End) : Type 0 where
    pub matches : Matches next
    pub kept : k ≡ true → step (inside e) ≡ Ok (inside next)
    pub apart : k ≡ false → inside next ≡ inside e

  -- A half is put.
  pub thins_put : {k : Bool} {step : End → Result End EndFault} (e next : End) (slot : Slot) (key : List ℕ) (h : Half) → IsEnd e → Matches e
      → (let r : Result End EndFault = Ok (put e slot key h) in r) ≡ Ok next → at_slot slot key ≡ k → Agrees h
      → (k ≡ true → step (inside e) ≡ Ok (put (inside e) slot key h)) → Thins k step e next
  thins_put {k} {step} e next slot key h sound matches is so agrees kept = rw (← same) (record {
    matches = put_matches e slot key h matches agrees;
    kept = λ inside_it. kept inside_it ∙ ap Ok (sym (put_inside e slot key h sound (so ∙ inside_it)));
    apart = λ outside. put_outside e slot key h (so ∙ outside);
  })
    where
      same : put e slot key h ≡ next
      same = cc

  -- Nothing changes.
  pub thins_none : {k : Bool} {step : End → Result End EndFault} (e next : End) → Matches e
      → (let r : Result End EndFault = Ok e in r) ≡ Ok next
      → (k ≡ true → step (inside e) ≡ Ok (inside e)) → Thins k step e next
  thins_none {k} {step} e next matches is kept = rw (← same) (record { matches = matches; kept = kept; apart = λ outside. refl })
    where
      same : e ≡ next
      same = cc
