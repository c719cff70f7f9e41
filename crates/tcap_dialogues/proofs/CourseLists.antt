-- The front of a list, and the headings of a list of items.
use Rattle.std.proofs.Common.{arith, ◌≡◌, ℕ, zero, suc, ◌<◌, false, List, [], ◌∷◌, length, map, take, Option, Some, None, refl, sym, ap, ◌∙◌}
use Rattle.std.specs.Prelude.{slice_get}
use Rattle.std.specs.Option.{option_map}
use Rattle.std.proofs.lemmas.Bool.{true≢false}
use Rattle.std.proofs.lemmas.Option.{slice_get-map}
use Rattle.tcap_msg.specs.declared.message.Message.{Message}
use Rattle.tcap_record.specs.declared.entry.End.{End as Side}
use Rattle.tcap_model.specs.World.{Item, Sent, has_quiet}
use Rattle.tcap_dialogues.specs.Course.{Heading, bare, heading_of, headings_of}

-- An element of the front is in the whole list, at the same place.
pub in_front : {X : Type 0} (xs : List X) (k i : ℕ) (x : X) → slice_get (take k xs) i ≡ Some x → (i < k) × (slice_get xs i ≡ Some x)
in_front xs zero i x is = cc
in_front [] (suc k) i x is = cc
in_front (y ∷ xs) (suc k) zero x is = (omega arith, is)
in_front (y ∷ xs) (suc k) (suc i) x is = let (less, there) = in_front xs k i x is in (omega (arith, less), there)

-- There is an element at each place below the length.
pub stands : {X : Type 0} (xs : List X) (i : ℕ) → i < length xs → (x : X) × (slice_get xs i ≡ Some x)
stands [] i less = absurd (omega (arith, less))
stands (y ∷ xs) zero less = (y, refl)
stands (y ∷ xs) (suc i) less = stands xs i (omega (arith, less))

-- Without marks, the heading of a message has its number.
pub heading_at : (items : List Item) (i : ℕ) (side : Side) (m : Message) → has_quiet items ≡ false → slice_get items i ≡ Some (Sent side m)
    → slice_get (headings_of items) i ≡ Some (heading_of side m)
heading_at [] i side m unmarked is = cc
heading_at (Item.Quiet ∷ items) i side m unmarked is = absurd (true≢false unmarked)
heading_at (Sent sender first ∷ items) zero side m unmarked is =
    let same_side : sender ≡ side = cc in
    let same : first ≡ m = cc in
    rw (same_side, same) refl
heading_at (Sent sender first ∷ items) (suc i) side m unmarked is = heading_at items i side m unmarked is

-- So has the heading with what is known of the trace.
pub bare_at : (hs gs : List Heading) (i : ℕ) (g : Heading) → map bare hs ≡ gs → slice_get gs i ≡ Some g
    → (h : Heading) × (slice_get hs i ≡ Some h) × (bare h ≡ g)
bare_at hs gs i g same is = by (slice_get hs i) refl
  where
    by : (o : Option Heading) → slice_get hs i ≡ o → (h : Heading) × (slice_get hs i ≡ Some h) × (bare h ≡ g)
    by None at =
        let bad : None ≡ Some g = sym (sym (ap (λ xs. slice_get xs i) same) ∙ slice_get-map bare hs i ∙ ap (option_map bare) at) ∙ is in cc
    by (Some h) at =
        let one : Some (bare h) ≡ Some g =
        sym (sym (ap (λ xs. slice_get xs i) same) ∙ slice_get-map bare hs i ∙ ap (option_map bare) at) ∙ is in
        let found : bare h ≡ g = cc in (h, at, found)
