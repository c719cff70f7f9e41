-- A half that was answered as closed is closed.
use Rattle.std.proofs.Common.{◌≡◌, ◌⊎◌, inl, inr, Bool, true, false, ℕ, List, [], ◌∷◌, ◌++◌, Option, Some, None, not, refl, sym, ap, ◌∙◌, arith}
use Rattle.std.specs.Prelude.{Contains, ◌&&◌}
use Rattle.std.specs.List.{list_any}
use Rattle.std.proofs.lemmas.Bool.{and_from, and_parts, both_ways, not-true, or_cases}
use Rattle.tcap_msg.specs.declared.kind.Kind.TheVariants as forms
use Rattle.tcap_msg.specs.declared.message.Message.{Message}
use Rattle.tcap_msg.specs.declared.message.Message.TheVariants.{Begin, Continue}
use Rattle.tcap_msg.specs.Parts.{cause_in, dtid_in, otid_in}
use Rattle.tcap_record.specs.declared.entry.End.{End as Side}
use Rattle.tcap_end.specs.declared.half.Phase.{Phase}
use Rattle.tcap_end.specs.declared.half.Phase.TheVariants as phases
use Rattle.tcap_end.specs.declared.half.Slot.TheVariants.{Begun}
use Rattle.tcap_end.specs.Table.{Table}
use Rattle.tcap_end.specs.Half.{Half, is_closed}
use Rattle.tcap_end.specs.End.{End, KeyedHalf, is_id, with_own}
use Rattle.tcap_end.specs.Reply.{is_open}
use Rattle.tcap_end.specs.ReachableEnd.{HasHalf, IsEnd}
use Rattle.tcap_end.proofs.FoundLaws.{none_own, own_has, is_that_id}
use Rattle.tcap_record.specs.Ends.{other}
use Rattle.tcap_model.specs.World.{Item, Sent}
use Rattle.tcap_model.proofs.TurnLaws.{id_is}
use Rattle.tcap_refute.specs.EarlierMessages.{peer_sent_from, has_a, is_a, sent_by}
use Rattle.tcap_model.proofs.WorldLaws.{apart, itself}
use Rattle.tcap_refute.proofs.Members.{any_has, filter_has}
use Rattle.tcap_model.proofs.SentMoves.{own_is}
use Rattle.tcap_refute.proofs.HalfLawsTurns.{Acts, Deed, Turned, Internal, acts_nowhere, answers, closes, learns, stays}
use Rattle.tcap_faults.specs.ClosedHalves.{all_continue_to, shows_closed, was_closed}
use Rattle.tcap_faults.specs.SentToId.{is_continue_to, has_used}
use Rattle.tcap_faults.proofs.view_laws.ActLaws.{Uses, incoming_acts, keeps_own, said_acts, said_causeless}
use Rattle.tcap_faults.proofs.view_laws.AdvanceLaws.{Refuses, refuses}
use Rattle.tcap_faults.proofs.list_laws.FindLaws.{any_is, one_more}
use Rattle.tcap_faults.proofs.view_laws.BegunHalfLaws.{all_use}
use Rattle.tcap_faults.proofs.view_laws.InvariantLaws.{views_keep}
use Rattle.tcap_faults.proofs.view_laws.ViewLaws.{View, view_comes, view_sound}

-- The half with this own ID is closed.
abbrev pub IsClosedAt : End → List ℕ → Type 0
IsClosedAt e own = (f : KeyedHalf) × HasHalf e f × (f.half.own ≡ Some own) × (f.half.phase ≡ phases.Closed)

abbrev AllClosed : Side → End → List Message → List Item → Type 0
AllClosed side e coming items = (own : List ℕ) → was_closed side items (Some own) ≡ true → IsClosedAt e own

-- ---- what shows it

-- A message without cause does not show it.
shows_by_cause : (side : Side) (own : List ℕ) (seen : List Item) (m : Message) → cause_in m ≡ None
    → shows_closed side own seen (Sent side m) ≡ true → ⊥
shows_by_cause side own seen m none is =
    let bad : false ≡ true = rw (itself side, none) at is in cc

-- A message of the peer does not show it.
shows_by_own : (side : Side) (own : List ℕ) (seen : List Item) (m : Message)
    → shows_closed side own seen (Sent (other side) m) ≡ true → ⊥
shows_by_own side own seen m is = let bad : false ≡ true = rw (apart side) at is in cc

-- ---- one step

-- A closed half stays closed.
still_closed : {table : Table} {deed : Deed} (e next : End) (own : List ℕ) → Acts table deed e next → IsClosedAt e own
    → IsClosedAt next own
still_closed {table} {deed} e next own acts (f, had, of_own, closed) =
    let (g, there, turned) = acts.forth f had in
    (record f { half = g }, there, keeps_own own turned of_own, by g turned)
  where
    by : (g : Half) → Turned table deed f.half g → g.phase ≡ phases.Closed
    by g (stays it) = it.phase ∙ closed
    by g (closes it) = it.phase
    by g (answers it) = let bad = sym closed ∙ it.was in cc
    by g (learns it) = let bad = sym closed ∙ it.was in cc

-- A message with an originating ID has a half with that own ID.
uses_own : (e : End) (own : List ℕ) (m : Message) → IsEnd e → Uses e m → otid_in m ≡ Some own
    → (f : KeyedHalf) × HasHalf e f × (f.half.own ≡ Some own)
uses_own e own (Begin otid dialogue components) is_end (h, had) from =
    let f : KeyedHalf = record { slot = Begun; key = otid; half = h } in (f, had, is_end.kept f had ∙ from)
uses_own e own (Continue otid dtid dialogue components) is_end (f, had, of_own, peer) from = (f, had, of_own ∙ from)
uses_own e own m is_end uses from = cc

-- A half that is found not open is closed.
found_closed : (e : End) (own : List ℕ) (f : KeyedHalf) → IsEnd e → HasHalf e f → f.half.own ≡ Some own
    → is_open (with_own e own) ≡ false → IsClosedAt e own
found_closed e own f is_end had of_own shut = by (with_own e own) refl shut
  where
    closed_phase : (p : Phase) → not (is_closed p) ≡ false → p ≡ phases.Closed
    closed_phase phase is = grind (arith, is)

    by : (o : Option KeyedHalf) → with_own e own ≡ o → is_open o ≡ false → IsClosedAt e own
    by None none is = none_own e own f none had of_own
    by (Some g) some is = (g, own_has e own is_end g some, own_is e own g some, closed_phase g.half.phase is)

module _ {table : Table} {side : Side} (e : End) (coming : List Message) (items : List Item) where
  -- An Abort of the provider shows it if all Continues from the ID go to the half that was found closed.
  continue_shows : (own otid dtid : List ℕ) (m : Message) → View table side e (m ∷ coming) items
      → is_a forms.Continue m ≡ true → otid_in m ≡ Some otid → dtid_in m ≡ Some dtid
      → is_open (with_own e dtid) ≡ false → all_continue_to own (peer_sent_from side otid items) ≡ true
      → has_used side items own ≡ true → IsClosedAt e own
  continue_shows own otid dtid m view goes_on from to shut all has_own =
      let has = filter_has (λ n. is_id otid (otid_in n)) (sent_by (other side) items) m (view_comes m view)
      (is_that_id otid (otid_in m) from) in
      let (some, none) = and_parts (has_a forms.Continue (peer_sent_from side otid items)) _ all in
      let (n, there, of_n) = any_is (λ n. is_id own (otid_in n)) (sent_by side items) has_own in
      let (f, had, of_own) = uses_own e own n is_end (all_use view n there) (id_is own (otid_in n) of_n) in
      found_closed e own f is_end had of_own (by (is_continue_to own m) refl has none)
    where
      is_end : IsEnd e
      is_end = view_sound view

      by : (b : Bool) → is_continue_to own m ≡ b → Contains (peer_sent_from side otid items) m
          → not (list_any (λ n. is_a forms.Continue n && not (is_continue_to own n)) (peer_sent_from side otid items)) ≡ true
          → is_open (with_own e own) ≡ false
      by true goes has none =
          let of_own = id_is own (dtid_in m) (and_parts (is_a forms.Continue m) _ goes).1 in
          let same : dtid ≡ own = let both : Some dtid ≡ Some own = sym to ∙ of_own in cc in
          rw (← same) shut
      by false goes has none =
          absurd (both_ways _ (not-true _ none)
          (any_has (λ n. is_a forms.Continue n && not (is_continue_to own n)) (peer_sent_from side otid items) m has
          (and_from (is_a forms.Continue m) _ goes_on (ap not goes))))

  refused_shows : (own : List ℕ) (m abort : Message) → View table side e (m ∷ coming) items → Refuses e m abort
      → shows_closed side own items (Sent side abort) ≡ true → IsClosedAt e own
  refused_shows own (Begin otid dialogue components) abort view it is =
      let bad : false ≡ true = rw (itself side, it.0) at is in cc
  refused_shows own (Continue otid dtid dialogue components) abort view it is =
      let shows : (all_continue_to own (peer_sent_from side otid items) && has_used side items own) ≡ true =
      rw (itself side, it.0) at is in
      let (all, has_own) = and_parts (all_continue_to own (peer_sent_from side otid items)) _ shows in
      continue_shows own otid dtid (Continue otid dtid dialogue components) view refl refl refl it.1 all has_own
  refused_shows own m abort view it is = absurd it

-- ---- each run

-- A half that was answered as closed is closed.
pub all_closed_at : {table : Table} {side : Side} {e : End} {coming : List Message} {items : List Item}
    → View table side e coming items → (own : List ℕ) → was_closed side items (Some own) ≡ true → IsClosedAt e own
all_closed_at {table} {side} {e} {coming} {items} view = views_keep table side (AllClosed side) (record {
  blank = λ own is. cc;
  says = λ e next coming items m view is held own shown.
      let is_end = view_sound view in
      let acts = said_acts table e next is_end m is in
      old_or e next items (Sent side m) own acts (held own)
      (λ new. absurd (shows_by_cause side own items m (said_causeless table e next is_end m is) new)) shown;
  hears = λ e next coming items m view is held own shown.
      still_closed e next own (incoming_acts table e next (view_sound view) m is) (held own shown);
  refuses = λ e coming items m abort view is held own shown.
      old_or e e items (Sent side abort) own (acts_nowhere table Internal e) (held own)
      (refused_shows e coming items own m abort view (refuses e m abort is)) shown;
  internal = λ e next coming items view is_next acts internal held own shown. still_closed e next own acts (held own shown);
  loses = λ e coming items m view held. held;
  asks = λ e coming items m view held own shown.
      old_or e e items (Sent (other side) m) own (acts_nowhere table Internal e) (held own)
      (λ new. absurd (shows_by_own side own items m new)) shown;
}) e coming items view
  where
    old_or : {deed : Deed} (e next : End) (items : List Item) (item : Item) (own : List ℕ) → Acts table deed e next
        → (was_closed side items (Some own) ≡ true → IsClosedAt e own)
        → (shows_closed side own items item ≡ true → IsClosedAt next own)
        → was_closed side (items ++ item ∷ []) (Some own) ≡ true → IsClosedAt next own
    old_or e next items item own acts held new shown = by (or_cases (was_closed side items (Some own)) _ (sym (one_more (shows_closed side own) [] items item) ∙ shown))
      where
        by : (was_closed side items (Some own) ≡ true) ⊎ (shows_closed side own items item ≡ true)
            → IsClosedAt next own
        by (inl was) = still_closed e next own acts (held was)
        by (inr now) = new now
