-- Which own ID a message shows to be closed, and which ID it guesses, from what is kept.
use Rattle.std.proofs.Common.{◌≡◌, ℕ, Bool, true, false, not, ◌&&◌, ◌||◌, List, [], ◌∷◌, Some, None, bytes_eq, refl, sym, ap, ◌∙◌, arith}
use Rattle.std.specs.List.{list_any}
use Rattle.std.proofs.lemmas.Bool.{and_from, and_left, and_right}
use Rattle.std.proofs.lemmas.Slice.Eq.{bytes_eq-Decides}
use Rattle.tcap_msg.specs.declared.kind.Kind.TheVariants as forms
use Rattle.tcap_msg.specs.declared.message.Message.{Message}
use Rattle.tcap_msg.specs.declared.message.Message.TheVariants.{Continue}
use Rattle.tcap_msg.specs.Parts.{dtid_in, otid_in}
use Rattle.tcap_record.specs.declared.entry.End.{End as Side}
use Rattle.tcap_record.specs.Ends.{other}
use Rattle.tcap_model.specs.World.{Item, Sent}
use Rattle.tcap_refute.specs.EarlierMessages.{peer_sent_from, has_a, is_a}
use Rattle.tcap_model.proofs.WorldLaws.{itself}
use Rattle.tcap_faults.specs.ClosedHalves.{all_continue_to}
use Rattle.tcap_faults.specs.Counts.{is_nothing}
use Rattle.tcap_faults.specs.SentToId.{began, is_continue_to, has_used}
use Rattle.tcap_faults.specs.declared.transaction.id_list.Ids.{Ids}
use Rattle.tcap_faults.specs.IdList.{AreAmong, AreIds, AreSame, ids_first}
use Rattle.tcap_faults.specs.History.{dtids_of}
use Rattle.tcap_faults.specs.TangledIds.{guesses, two_differ}
use Rattle.tcap_faults.proofs.transaction_laws.JoinedIdsLaws.{any_same}
use Rattle.tcap_faults.proofs.transaction_laws.MessageMoreLaws.{goes_both}
use Rattle.tcap_faults.proofs.transaction_laws.HistoryLookupLaws.{began_asked, other_twice}

-- ---- messages that all go to one ID

-- There are IDs, and all of them equal this ID.
abbrev all_to : List ℕ → List (List ℕ) → Bool
all_to own ids = not (is_nothing ids) && not (list_any (λ x. not (bytes_eq own x)) ids)

pub some_go : (ms : List Message) → has_a forms.Continue ms ≡ not (is_nothing (dtids_of ms))
some_go [] = refl
some_go (Continue otid dtid dialogue components ∷ ms) = refl
some_go (m ∷ ms) = some_go ms

elsewhere : (own : List ℕ) (ms : List Message)
    → list_any (λ m. is_a forms.Continue m && not (is_continue_to own m)) ms
    ≡ list_any (λ x. not (bytes_eq own x)) (dtids_of ms)
elsewhere own [] = refl
elsewhere own (Continue otid dtid dialogue components ∷ ms) =
    ap (λ b. not (bytes_eq own dtid) || b) (elsewhere own ms)
elsewhere own (m ∷ ms) = elsewhere own ms

all_go : (own : List ℕ) (ms : List Message) → all_continue_to own ms ≡ all_to own (dtids_of ms)
all_go own ms = rw (some_go ms, elsewhere own ms) refl

pub some_there : (ids : List (List ℕ)) → not (is_nothing ids) ≡ list_any (λ id. true) ids
some_there ids = grind arith

all_same : (own : List ℕ) (xs ys : List (List ℕ)) → AreSame xs ys → all_to own xs ≡ all_to own ys
all_same own xs ys same =
    rw (some_there xs, some_there ys, any_same (λ x. true) xs ys same, any_same (λ x. not (bytes_eq own x)) xs ys same)
    refl

all_none : (own : List ℕ) (ids : List (List ℕ)) → None ≡ ids_first ids → all_to own ids ≡ false
all_none own ids none = grind (arith, none)

all_differ : (own : List ℕ) (ids : List (List ℕ)) → true ≡ two_differ ids → all_to own ids ≡ false
all_differ own [] differ = cc
all_differ own (x ∷ more) differ = by (bytes_eq own x) refl
  where
    by : (b : Bool) → bytes_eq own x ≡ b → not (not b || list_any (λ y. not (bytes_eq own y)) more) ≡ false
    by false apart = refl
    by true same = let one : own ≡ x = (bytes_eq-Decides own x).0 same in rw (one, ← differ) refl

all_one : (own x : List ℕ) (ids : List (List ℕ)) → false ≡ two_differ ids → Some x ≡ ids_first ids
    → all_to own ids ≡ bytes_eq own x
all_one own x [] differ first = cc
all_one own x (y ∷ more) differ first =
    let this : x ≡ y = cc in rw this (by (bytes_eq own y) refl)
  where
    by : (b : Bool) → bytes_eq own y ≡ b → not (not b || list_any (λ z. not (bytes_eq own z)) more) ≡ b
    by false apart = refl
    by true same = let one : own ≡ y = (bytes_eq-Decides own y).0 same in rw (one, ← differ) refl

module _ (own : List ℕ) (ms : List Message) (used : List ℕ → Bool) where
  -- There are no Continues.
  pub closed_none : dtids_of ms ≡ [] → false ≡ (all_continue_to own ms && used own)
  closed_none none = sym (and_left _ _ (all_go own ms ∙ ap (all_to own) none))

  module _ (kept : Ids) (are : AreAmong (dtids_of ms) (Some kept)) where
    kept_go : (b : Bool) → ((ids : List (List ℕ)) → AreIds ids kept → all_to own ids ≡ b) → all_continue_to own ms ≡ b
    kept_go b says =
        all_go own ms ∙ sym (all_same own are.0 (dtids_of ms) are.2) ∙ says are.0 are.1

    -- The Continues go to several IDs.
    pub closed_several : ((ids : List (List ℕ)) → AreIds ids kept → true ≡ two_differ ids)
        → false ≡ (all_continue_to own ms && used own)
    closed_several differ = sym (and_left _ _ (kept_go false (λ ids is. all_differ own ids (differ ids is))))

    pub closed_first_none : ((ids : List (List ℕ)) → AreIds ids kept → None ≡ ids_first ids)
        → false ≡ (all_continue_to own ms && used own)
    closed_first_none none = sym (and_left _ _ (kept_go false (λ ids is. all_none own ids (none ids is))))

    -- All Continues go to one ID, which was used or not.
    module _ (x : List ℕ) (differ : (ids : List (List ℕ)) → AreIds ids kept → false ≡ two_differ ids)
        (first : (ids : List (List ℕ)) → AreIds ids kept → Some x ≡ ids_first ids) where
      goes : all_continue_to own ms ≡ bytes_eq own x
      goes = kept_go (bytes_eq own x) (λ ids is. all_one own x ids (differ ids is) (first ids is))

      pub closed_used : true ≡ used x → bytes_eq own x ≡ (all_continue_to own ms && used own)
      closed_used is = by (bytes_eq own x) refl
        where
          by : (b : Bool) → bytes_eq own x ≡ b → b ≡ (all_continue_to own ms && used own)
          by false apart = sym (and_left _ _ (goes ∙ apart))
          by true same =
              let one : own ≡ x = (bytes_eq-Decides own x).0 same in
              sym (and_from _ _ (goes ∙ same) (rw one (sym is)))

      pub closed_unused : false ≡ used x → false ≡ (all_continue_to own ms && used own)
      closed_unused is = by (bytes_eq own x) refl
        where
          by : (b : Bool) → bytes_eq own x ≡ b → false ≡ (all_continue_to own ms && used own)
          by false apart = sym (and_left _ _ (goes ∙ apart))
          by true same =
              let one : own ≡ x = (bytes_eq-Decides own x).0 same in
              let unused : used own ≡ false = rw one (sym is) in
              sym (and_right _ _ unused)

-- ---- what a message guesses

begun_there : (side : Side) (items : List Item) (id : List ℕ)
    → has_a forms.Begin (peer_sent_from (other side) id items) ≡ began side id items
begun_there side items id = sym (began_asked (other side) items id) ∙ rw (other_twice side) refl

module _ (side : Side) (items : List Item) (m : Message) (from to : List ℕ) (otid : otid_in m ≡ Some from)
    (dtid : dtid_in m ≡ Some to) (id : List ℕ) where
  guess_is : guesses (other side) id items (Sent side m)
      ≡ ((bytes_eq id from && began side id items) && not (has_used (other side) items to))
  guess_is =
      rw (begun_there side items id, other_twice side, itself side, goes_both m from to otid dtid, otid, dtid) refl

  pub guessed_is : (g : Bool) → g ≡ (began side from items && not (has_used (other side) items to))
      → (bytes_eq id from && g) ≡ guesses (other side) id items (Sent side m)
  guessed_is g is = by (bytes_eq id from) refl ∙ sym guess_is
    where
      by : (b : Bool) → bytes_eq id from ≡ b
          → (b && g) ≡ ((b && began side id items) && not (has_used (other side) items to))
      by false apart = refl
      by true same = let one : id ≡ from = (bytes_eq-Decides id from).0 same in rw one is

-- A message that is no Continue guesses nothing.
pub guesses_not : (side : Side) (items : List Item) (m : Message) → is_a forms.Continue m ≡ false → (id : List ℕ)
    → guesses (other side) id items (Sent side m) ≡ false
guesses_not side items m stays id = rw (other_twice side, itself side, stays) refl
