-- Each Begin and each Continue of the peer is used once: it made or answered a half, was refused, or is still on its
-- way. Both are counted for one ID of the peer.
use Rattle.std.proofs.Common.{◌≡◌, ◌⊎◌, inl, inr, ℕ, ◌+◌, ◌≤◌, arith, Bool, true, false, cond, List, [], ◌∷◌, ◌++◌, Some, None, refl, sym, ap, ◌∙◌}
use Rattle.std.specs.Prelude.{◌&&◌}
use Rattle.std.proofs.lemmas.List.{append-nil}
use Rattle.std.proofs.lemmas.List.Elements.{filter-append}
use Rattle.tcap_msg.specs.declared.kind.Kind.{Kind as Form}
use Rattle.tcap_msg.specs.declared.kind.Kind.TheVariants as forms
use Rattle.tcap_msg.specs.declared.message.Message.{Message}
use Rattle.tcap_msg.specs.declared.message.Message.TheVariants.{Begin, Continue}
use Rattle.tcap_msg.specs.Parts.{cause_in, dtid_in, otid_in}
use Rattle.tcap_record.specs.declared.entry.End.{End as Side}
use Rattle.tcap_end.specs.declared.half.Slot.TheVariants.{Begun, Accepted}
use Rattle.tcap_end.specs.Table.{Table}
use Rattle.tcap_end.specs.Half.{Half}
use Rattle.tcap_end.specs.End.{End, KeyedHalf, is_id}
use Rattle.tcap_end.specs.ReachableEnd.{HasHalf, IsEnd}
use Rattle.tcap_end.proofs.EndLaws.{no_half}
use Rattle.tcap_record.specs.Ends.{other}
use Rattle.tcap_model.specs.World.{Item, Sent}
use Rattle.tcap_refute.specs.EarlierMessages.{peer_sent_from, is_a, sent_by}
use Rattle.tcap_end.proofs.FoundLaws.{is_that_id}
use Rattle.tcap_refute.proofs.TestLaws.{and_false, and_true}
use Rattle.tcap_refute.proofs.HalfLawsTurns.{Accepts, Acts, Deed, Heard, Said, Starts, Turned, Internal, answers, closes, learns, stays}
use Rattle.tcap_faults.specs.SentToId.{is_abort_with}
use Rattle.tcap_faults.specs.Counts.{count}
use Rattle.tcap_faults.proofs.list_laws.CountLaws.{count_last, count_more, one}
use Rattle.tcap_faults.proofs.view_laws.ActLaws.{incoming_acts, said_acts, said_causeless}
use Rattle.tcap_faults.proofs.view_laws.AdvanceLaws.{Refuses, refuses}
use Rattle.tcap_faults.proofs.view_laws.InvariantLaws.{views_keep}
use Rattle.tcap_faults.proofs.run_laws.ItemLaws.{sent_own}
use Rattle.tcap_faults.proofs.view_laws.GrowthLaws.{own_same, their_same}
use Rattle.tcap_faults.proofs.view_laws.ViewLaws.{View, view_sound}

-- ---- the counts

-- Begins: each makes an accepted half, or is refused with cause 4. Continues: each may give a begun half its peer's
-- ID, or is refused with cause 1.
pub data Count : Type 0 where
  OfBegins : Count
  OfContinues : Count

abbrev pub form_of : Count → Form
form_of OfBegins = forms.Begin
form_of OfContinues = forms.Continue

abbrev pub cause_of : Count → ℕ
cause_of OfBegins = 4
cause_of OfContinues = 1

-- The half was made by a Begin from this ID, or got its peer's ID by a Continue from it.
abbrev pub IsOfCount : Count → List ℕ → KeyedHalf → Type 0
IsOfCount OfBegins id f = (f.slot ≡ Accepted) × (f.key ≡ id)
IsOfCount OfContinues id f = (f.slot ≡ Begun) × (f.half.peer ≡ Some id)

-- A Begin or a Continue from this ID.
abbrev pub comes_from : Count → List ℕ → Message → Bool
comes_from c id m = is_a (form_of c) m && is_id id (otid_in m)

-- The number that was refused or is on its way.
abbrev pub taken : Side → Count → List ℕ → List Message → List Item → ℕ
taken side c id coming items =
    count (is_abort_with (cause_of c) id) (sent_by side items) + count (comes_from c id) coming

-- The number that the peer sent.
abbrev pub given : Side → Count → List ℕ → List Item → ℕ
given side c id items = count (is_a (form_of c)) (peer_sent_from side id items)

-- At most as many are refused or on their way as were sent, also if a half counts as one.
pub record IsPaid (side : Side) (e : End) (coming : List Message) (items : List Item) (c : Count) (id : List ℕ)
    : Type 0 where
  pub all : taken side c id coming items ≤ given side c id items
  pub half : (f : KeyedHalf) → HasHalf e f → IsOfCount c id f → taken side c id coming items + 1 ≤ given side c id items

abbrev AllPaid : Side → End → List Message → List Item → Type 0
AllPaid side e coming items = (c : Count) (id : List ℕ) → IsPaid side e coming items c id

-- ---- what a step changes in these numbers

module _ (side : Side) (c : Count) (id : List ℕ) where
  -- A message of the end without cause refuses nothing.
  taken_said : (coming : List Message) (items : List Item) (m : Message) → cause_in m ≡ None
      → taken side c id coming (items ++ Sent side m ∷ []) ≡ taken side c id coming items
  taken_said coming items m none =
      let no : one (is_abort_with (cause_of c) id m) ≡ 0 = rw none (none_of (is_id id (dtid_in m))) in
      let more = count_last (is_abort_with (cause_of c) id) (sent_by side items) m in
      rw (sent_own side m items) (omega arith)
    where
      none_of : (b : Bool) → one (b && false) ≡ 0
      none_of b = grind arith

  -- A message of the end is none that the peer sent.
  given_said : (items : List Item) (m : Message)
      → given side c id (items ++ Sent side m ∷ []) ≡ given side c id items
  given_said items m = rw (their_same side m items) refl

  -- A message that is taken from the channel is no longer on its way.
  pub taken_head : (coming : List Message) (items : List Item) (m : Message)
      → taken side c id (m ∷ coming) items ≡ one (comes_from c id m) + taken side c id coming items
  taken_head coming items m = let more = count_more (comes_from c id) m coming in omega arith

  -- An Abort of the provider counts instead of what it refuses.
  taken_refused : (coming : List Message) (items : List Item) (m abort : Message)
      → is_abort_with (cause_of c) id abort ≡ comes_from c id m
      → taken side c id coming (items ++ Sent side abort ∷ []) ≡ taken side c id (m ∷ coming) items
  taken_refused coming items m abort same =
      let more = count_last (is_abort_with (cause_of c) id) (sent_by side items) abort in
      let head = count_more (comes_from c id) m coming in
      let ones = ap one same in
      rw (sent_own side abort items) (omega arith)

  -- A message of the peer is added to both numbers.
  taken_asked : (coming : List Message) (items : List Item) (m : Message)
      → taken side c id (coming ++ m ∷ []) (items ++ Sent (other side) m ∷ [])
      ≡ taken side c id coming items + one (comes_from c id m)
  taken_asked coming items m =
      let more = count_last (comes_from c id) coming m in rw (own_same side m items) (omega arith)

  given_asked : (items : List Item) (m : Message)
      → given side c id (items ++ Sent (other side) m ∷ []) ≡ given side c id items + one (comes_from c id m)
  given_asked items m =
      rw (
        sent_own (other side) m items,
        filter-append (λ n. is_id id (otid_in n)) (sent_by (other side) items) (m ∷ []),
      ) (by (is_id id (otid_in m)) refl)
    where
      was : List Message
      was = peer_sent_from side id items

      by : (b : Bool) → is_id id (otid_in m) ≡ b
          → count (is_a (form_of c)) (was ++ cond b (m ∷ []) [])
          ≡ count (is_a (form_of c)) was + one (is_a (form_of c) m && b)
      by true from =
          let more = count_last (is_a (form_of c)) was m in
          let ones = ap one (and_true (is_a (form_of c) m)) in omega arith
      by false from =
          let ones = ap one (and_false (is_a (form_of c) m)) in
          let none : one false ≡ 0 = refl in rw (append-nil was) (omega arith)

-- ---- what a step changes in halves

-- The message was received in this step.
abbrev WasHeard : Deed → Count → List ℕ → Type 0
WasHeard deed c id = (m : Message) × (deed ≡ Heard m) × (comes_from c id m ≡ true)

abbrev WasThere : End → Count → List ℕ → Type 0
WasThere e c id = (f : KeyedHalf) × HasHalf e f × IsOfCount c id f

-- A half that counts was made by the received message, or counted before.
module _ {table : Table} {deed : Deed} (e next : End) (acts : Acts table deed e next) (is_end : IsEnd e) (id : List ℕ)
    (g : KeyedHalf) (had : HasHalf next g) where
  accepted_so : g.slot ≡ Accepted → g.key ≡ id → WasHeard deed OfBegins id ⊎ WasThere e OfBegins id
  accepted_so slot key = by (acts.back g had)
    where
      by : (Starts deed e g ⊎ Accepts deed e g)
          ⊎ ((h : Half) × HasHalf e (record g { half = h }) × Turned table deed h g.half)
          → WasHeard deed OfBegins id ⊎ WasThere e OfBegins id
      by (inl (inl new)) = let bad = sym slot ∙ new.slot in cc
      by (inl (inr new)) =
          inl (Begin g.key new.dialogue new.components, new.deed_is, is_that_id id (Some g.key) (ap Some key))
      by (inr (h, was, turned)) = inr (record g { half = h }, was, (slot, key))

  learned_so : g.slot ≡ Begun → g.half.peer ≡ Some id → WasHeard deed OfContinues id ⊎ WasThere e OfContinues id
  learned_so slot peer = by (acts.back g had)
    where
      turns : (h : Half) → HasHalf e (record g { half = h }) → Turned table deed h g.half
          → WasHeard deed OfContinues id ⊎ WasThere e OfContinues id
      turns h was (stays it) = inr (record g { half = h }, was, (slot, sym it.peer ∙ peer))
      turns h was (closes it) = inr (record g { half = h }, was, (slot, sym it.peer ∙ peer))
      turns h was (answers it) =
          let kept : h.own ≡ Some g.key = rw slot at (is_end.kept (record g { half = h }) was) in
          let bad = sym kept ∙ it.own_was in cc
      turns h was (learns it) =
          inl (
            Continue it.from it.id it.dialogue it.components,
            it.deed_is,
            is_that_id id (Some it.from) (sym it.peer ∙ peer),
          )

      by : (Starts deed e g ⊎ Accepts deed e g)
          ⊎ ((h : Half) × HasHalf e (record g { half = h }) × Turned table deed h g.half)
          → WasHeard deed OfContinues id ⊎ WasThere e OfContinues id
      by (inl (inl new)) = let bad = sym peer ∙ new.peer in cc
      by (inl (inr new)) = let bad = sym slot ∙ new.slot in cc
      by (inr (h, was, turned)) = turns h was turned

  counted_so : (c : Count) → IsOfCount c id g → WasHeard deed c id ⊎ WasThere e c id
  counted_so OfBegins is = accepted_so is.0 is.1
  counted_so OfContinues is = learned_so is.0 is.1

-- ---- each step

module _ (table : Table) (side : Side) where
  -- A message is sent.
  said_paid : (e next : End) (coming : List Message) (items : List Item) (m : Message) → cause_in m ≡ None → IsEnd e
      → Acts table (Said m) e next → AllPaid side e coming items → AllPaid side next coming (items ++ Sent side m ∷ [])
  said_paid e next coming items m none is_end acts held c id =
      let same = taken_said side c id coming items m none in
      let given_same = given_said side c id items m in
      record {
        all = let old = (held c id).all in omega arith;
        half = λ g had is. by (counted_so e next acts is_end id g had c is);
      }
    where
      by : WasHeard (Said m) c id ⊎ WasThere e c id
          → taken side c id coming (items ++ Sent side m ∷ []) + 1 ≤ given side c id (items ++ Sent side m ∷ [])
      by (inl (n, incoming, comes)) = cc
      by (inr (f, there, is)) =
          let same = taken_said side c id coming items m none in
          let given_same = given_said side c id items m in
          let old = (held c id).half f there is in omega arith

  -- A message is received.
  incoming_paid : (e next : End) (coming : List Message) (items : List Item) (m : Message) → IsEnd e
      → Acts table (Heard m) e next → AllPaid side e (m ∷ coming) items → AllPaid side next coming items
  incoming_paid e next coming items m is_end acts held c id =
      let head = taken_head side c id coming items m in
      record {
        all = let old = (held c id).all in omega arith;
        half = λ g had is. by (counted_so e next acts is_end id g had c is);
      }
    where
      by : WasHeard (Heard m) c id ⊎ WasThere e c id → taken side c id coming items + 1 ≤ given side c id items
      by (inl (n, incoming, comes)) =
          let same : m ≡ n = cc in
          let counted : one (comes_from c id m) ≡ 1 =
          ap (λ (x : Message). one (comes_from c id x)) same ∙ ap one comes in
          let head = taken_head side c id coming items m in
          let old = (held c id).all in omega arith
      by (inr (f, there, is)) =
          let head = taken_head side c id coming items m in
          let old = (held c id).half f there is in omega arith

  -- A message is refused.
  refused_same : (e : End) (c : Count) (id : List ℕ) (m abort : Message) → Refuses e m abort
      → is_abort_with (cause_of c) id abort ≡ comes_from c id m
  refused_same e OfBegins id (Begin otid dialogue components) abort it = rw (it.0) (and_true (is_id id (Some otid)))
  refused_same e OfContinues id (Begin otid dialogue components) abort it = rw (it.0) (and_false (is_id id (Some otid)))
  refused_same e OfBegins id (Continue otid dtid dialogue components) abort it =
      rw (it.0) (and_false (is_id id (Some otid)))
  refused_same e OfContinues id (Continue otid dtid dialogue components) abort it =
      rw (it.0) (and_true (is_id id (Some otid)))
  refused_same e c id m abort it = absurd it

  refused_paid : (e : End) (coming : List Message) (items : List Item) (m abort : Message) → Refuses e m abort
      → AllPaid side e (m ∷ coming) items → AllPaid side e coming (items ++ Sent side abort ∷ [])
  refused_paid e coming items m abort it held c id =
      let same = taken_refused side c id coming items m abort (refused_same e c id m abort it) in
      let given_same = given_said side c id items abort in
      record {
        all = let old = (held c id).all in omega arith;
        half = λ g had is. let old = (held c id).half g had is in omega arith;
      }

  -- A hidden step.
  internal_paid : (e next : End) (coming : List Message) (items : List Item) → IsEnd e → Acts table Internal e next
      → AllPaid side e coming items → AllPaid side next coming items
  internal_paid e next coming items is_end acts held c id = record {
    all = (held c id).all;
    half = λ g had is. by (counted_so e next acts is_end id g had c is);
  }
    where
      by : WasHeard Internal c id ⊎ WasThere e c id → taken side c id coming items + 1 ≤ given side c id items
      by (inl (n, incoming, comes)) = cc
      by (inr (f, there, is)) = (held c id).half f there is

  -- A message is lost.
  lost_paid : (e : End) (coming : List Message) (items : List Item) (m : Message) → AllPaid side e (m ∷ coming) items
      → AllPaid side e coming items
  lost_paid e coming items m held c id =
      let head = taken_head side c id coming items m in
      record {
        all = let old = (held c id).all in omega arith;
        half = λ g had is. let old = (held c id).half g had is in omega arith;
      }

  -- The peer sends a message.
  asked_paid : (e : End) (coming : List Message) (items : List Item) (m : Message) → AllPaid side e coming items
      → AllPaid side e (coming ++ m ∷ []) (items ++ Sent (other side) m ∷ [])
  asked_paid e coming items m held c id =
      let same = taken_asked side c id coming items m in
      let given_same = given_asked side c id items m in
      record {
        all = let old = (held c id).all in omega arith;
        half = λ g had is. let old = (held c id).half g had is in omega arith;
      }

-- In each run, the numbers agree.
pub all_paid : {table : Table} {side : Side} {e : End} {coming : List Message} {items : List Item}
    → View table side e coming items → (c : Count) (id : List ℕ) → IsPaid side e coming items c id
all_paid {table} {side} {e} {coming} {items} view = views_keep table side (AllPaid side) (record {
  blank = λ c id. record { all = omega arith; half = λ f had is. no_half f.slot f.key f.half had };
  says = λ e next coming items m view is held.
      let is_end = view_sound view in
      said_paid table side e next coming items m (said_causeless table e next is_end m is) is_end
      (said_acts table e next is_end m is) held;
  hears = λ e next coming items m view is held.
      let is_end = view_sound view in
      incoming_paid table side e next coming items m is_end (incoming_acts table e next is_end m is) held;
  refuses = λ e coming items m abort view is held.
      refused_paid table side e coming items m abort (refuses e m abort is) held;
  internal = λ e next coming items view is_next acts internal held.
      internal_paid table side e next coming items (view_sound view) acts held;
  loses = λ e coming items m view held. lost_paid table side e coming items m held;
  asks = λ e coming items m view held. asked_paid table side e coming items m held;
}) e coming items view
