-- The IDs that a lawful end sent since the last mark are used, and the dialogues that it ended are closed.
use Rattle.std.proofs.Common.{◌≡◌, ◌⊎◌, inl, inr, false, List, [], ◌∷◌, ◌++◌, Some, refl, sym, ◌∙◌}
use Rattle.std.proofs.lemmas.Bool.{or_parts}
use Rattle.tcap_msg.specs.declared.message.Message.{Message}
use Rattle.tcap_msg.specs.declared.message.Message.TheVariants.{Unidirectional, Begin, Continue, End as EndMessage, Abort}
use Rattle.tcap_record.specs.declared.entry.End.{End as Side}
use Rattle.tcap_end.specs.Table.{Table}
use Rattle.tcap_end.specs.End.{End, KeyedHalf}
use Rattle.tcap_end.specs.ReachableEnd.{HasHalf, IsEnd, IsSame}
use Rattle.tcap_model.specs.World.{World, end_at}
use Rattle.tcap_model.specs.Run.{Event, KeepsRules, Runs, is_tells_by, has_tells_by}
use Rattle.tcap_model.specs.SinceMark.{EndedIsClosed, HasUsed, SentSince}
use Rattle.tcap_model.proofs.RunLaws.{sound}
use Rattle.tcap_model.proofs.WorldMoves.{Advances, HasEnded, worlds_keep}

-- for each message of a lawful end since the last mark: its ID is used, and it closed the half that it ends
abbrev HasHalves : Side → List Event → World → Type 0
HasHalves side events w = KeepsRules side events → (m : Message) → SentSince side m w.sent → HasUsed w side m × HasEnded w side m

-- An end that keeps the rules kept them before the last step, and in it.
pub kept_before : (side : Side) (before : List Event) (event : Event) → KeepsRules side (before ++ event ∷ [])
    → KeepsRules side before × (is_tells_by side event ≡ false)
kept_before side [] event keeps = (refl, (or_parts (is_tells_by side event) false keeps).0)
kept_before side (first ∷ before) event keeps =
    let both = or_parts (is_tells_by side first) (has_tells_by side (before ++ event ∷ [])) keeps in
    let rest = kept_before side before event both.1 in
    (rw (both.0) (rest.0), rest.1)

-- A used ID stays used.
still_used : {event : Event} → (w next : World) (side : Side) (m : Message) → Advances event w next → HasUsed w side m → HasUsed next side m
still_used w next side (Unidirectional dialogue components) advances used = tt
still_used w next side (Begin otid dialogue components) advances (f, had, own) =
    let moved = (advances.ends side).moves.forth f had in
    (record f { half = moved.0 }, moved.1, moved.2.own otid own)
still_used w next side (Continue otid dtid dialogue components) advances (f, had, own, peer) =
    let moved = (advances.ends side).moves.forth f had in
    (record f { half = moved.0 }, moved.1, moved.2.own otid own, moved.2.peer dtid peer)
still_used w next side (EndMessage dtid dialogue components) advances used = tt
still_used w next side (Abort dtid reason) advances used = tt

-- A closed half stays closed.
still_ended : {event : Event} → (w next : World) (side : Side) (m : Message) → Advances event w next → HasEnded w side m → HasEnded next side m
still_ended w next side m advances ended id ends =
    let was = ended id ends in
    let moved = (advances.ends side).moves.forth was.0 was.1 in
    (record (was.0) { half = moved.0 }, moved.1, moved.2.peer id was.2, moved.2.closed was.3)

-- A step keeps `HasHalves`.
keeps_halves : (side : Side) (before : List Event) (event : Event) (w next : World) → ((place : Side) → IsEnd (end_at place w))
    → Advances event w next → HasHalves side before w → HasHalves side (before ++ event ∷ []) next
keeps_halves side before event w next sound advances held keeps m since =
    by (kept_before side before event keeps).0 (advances.sent.adds side m (kept_before side before event keeps).1 since)
  where
    by : KeepsRules side before → SentSince side m w.sent ⊎ (HasUsed next side m × HasEnded next side m)
        → HasUsed next side m × HasEnded next side m
    by kept (inl was) =
        let had = held kept m was in
        (still_used w next side m advances had.0, still_ended w next side m advances had.1)
    by kept (inr new) = new

-- It holds after each run.
has_halves : (table : Table) (side : Side) (events : List Event) (w : World) → Runs table events w → HasHalves side events w
has_halves table side = worlds_keep table (HasHalves side) (λ events w blank keeps m since. absurd (blank.sent side m since))
    (keeps_halves side)

-- An ID sent since the last mark is used.
pub ids_used : (table : Table) (events : List Event) (w : World) (side : Side) (m : Message) → Runs table events w
    → KeepsRules side events → SentSince side m w.sent → HasUsed w side m
ids_used table events w side m runs keeps since = (has_halves table side events w runs keeps m since).0

-- An end has one half at one place.
pub one_half : (e : End) (f g : KeyedHalf) → HasHalf e f → HasHalf e g → IsSame f g → g.half ≡ f.half
one_half e f g in_f in_g same =
    let here : Some g.half ≡ Some f.half = sym in_g ∙ (rw (← same.0, ← same.1) in_f) in cc

-- A half is closed if the end ended its dialogue since the last mark.
pub ended_closed : (table : Table) (events : List Event) (w : World) (side : Side) (f : KeyedHalf) → Runs table events w
    → KeepsRules side events → HasHalf (end_at side w) f → EndedIsClosed w side f
ended_closed table events w side f runs keeps had m id since ends peer =
    let (g, there, of_g, is_closed) = (has_halves table side events w runs keeps m since).1 id ends in
    let same = (sound table events w runs side).one_peer f g id had there peer of_g in
    rw (← one_half (end_at side w) f g had there same) is_closed
