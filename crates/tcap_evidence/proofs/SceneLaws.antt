-- The parts of a scene, from the stored scene.
use Rattle.tcap_evidence.proofs.Common.{◌≡◌, ℕ, Bool, true, false, ◌&&◌, List, [], ◌∷◌, Option, Some, None, filter, refl, ap, Message, dtid_in, is_a, Numbered, entries_where, Scene, is_same_id}
use Rattle.tcap_msg.specs.declared.kind.Kind.TheVariants as forms
use Rattle.tcap_refute.proofs.TestLaws.{and_false}
use Rattle.tcap_evidence.specs.Scene.{peer_from_dtid, to_half, went_elsewhere}

-- ---- filters

pub filter_all : {A : Type 0} (xs : List A) → filter (λ x. true) xs ≡ xs
filter_all [] = refl
filter_all (x ∷ xs) = ap (λ ys. x ∷ ys) (filter_all xs)

pub none_kept : {A : Type 0} (p : A → Bool) → ((x : A) → p x ≡ false) → (xs : List A) → filter p xs ≡ []
none_kept p none [] = refl
none_kept p none (x ∷ xs) = rw (none x) (none_kept p none xs)

-- ---- the messages that a half heard

-- The Continues to the half's own ID.
pub to_half_is : (s : Scene) (half : Option (List ℕ)) → half ≡ s.half → (sent : List Numbered) → sent ≡ peer_from_dtid s
    → filter (λ n. is_a forms.Continue n.1 && is_same_id half (dtid_in n.1)) sent ≡ to_half s
to_half_is s None is sent are = rw (← is) (none_kept _ (λ n. and_false _) sent)
to_half_is s (Some own) is sent are = rw (← is, are) refl

-- ---- Continues to another ID

module _ (s : Scene) where
  -- There are none if the message has no destination ID.
  went_not : (from : Option (List ℕ)) → from ≡ s.from → None ≡ s.to → (m : Message) → went_elsewhere s m ≡ false
  went_not None from_is to_is m = rw (← from_is) refl
  went_not (Some from) from_is to_is m = rw (← from_is, ← to_is) refl

  pub went_nowhere : None ≡ s.to → (sent : List Numbered) → [] ≡ entries_where (went_elsewhere s) sent
  went_nowhere none [] = refl
  went_nowhere none (n ∷ more) = rw (went_not s.from refl none n.1) (went_nowhere none more)
