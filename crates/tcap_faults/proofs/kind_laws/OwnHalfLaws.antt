-- If a message goes over no tangled IDs, the half over which an end sends it is that of the list. What the list has
-- of the half bounds what was sent and received over it.
use Rattle.std.proofs.Common.{◌≡◌, ◌⊎◌, inl, inr, ℕ, ◌+◌, ◌<◌, arith, Bool, true, false, cond, List, [], ◌∷◌, ◌++◌, Option, Some, None, is_some, refl, sym, ap, subst, ◌∙◌}
use Rattle.std.specs.Prelude.{Contains, filter, length, ◌&&◌}
use Rattle.std.specs.List.{find}
use Rattle.std.specs.Option.{option_to_list}
use Rattle.std.proofs.lemmas.Bool.{and_from, and_parts}
use Rattle.tcap_parts.specs.declared.component.Component.{Component}
use Rattle.tcap_msg.specs.declared.kind.Kind.TheVariants as forms
use Rattle.tcap_msg.specs.declared.message.Message.{Message}
use Rattle.tcap_msg.specs.Parts.{dtid_in, otid_in}
use Rattle.tcap_record.specs.declared.entry.End.{End as Side}
use Rattle.tcap_record.specs.Ends.{other}
use Rattle.tcap_end.specs.declared.half.Phase.{Phase}
use Rattle.tcap_end.specs.declared.half.Phase.TheVariants as phases
use Rattle.tcap_end.specs.declared.half.Slot.TheVariants as slots
use Rattle.tcap_end.specs.Table.{Table}
use Rattle.tcap_end.specs.Half.{is_closed}
use Rattle.tcap_end.specs.End.{End, KeyedHalf}
use Rattle.tcap_end.specs.ReachableEnd.{FitsPhase, IsEnd}
use Rattle.tcap_model.specs.World.{Item}
use Rattle.tcap_model.specs.Run.{option_then}
use Rattle.tcap_model.proofs.TurnLaws.{id_is}
use Rattle.tcap_refute.specs.EarlierMessages.{peer_sent_from, has_a, is_a, sent_by}
use Rattle.tcap_refute.proofs.OverLaws.{IsOver}
use Rattle.tcap_faults.specs.Counts.{count, is_nothing}
use Rattle.tcap_faults.specs.declared.dialogue.half_origin.HalfOrigin.TheVariants.{Accepted, Begun, Refused, Unanswered}
use Rattle.tcap_faults.specs.HalfByPeerId.{HalfMessages, accepted_half, answered_from, begun_from, begun_half, continued_to, half_of, incoming_continues}
use Rattle.tcap_faults.specs.TangledIds.{goes_to_begun}
use Rattle.tcap_faults.specs.SentToId.{began, begin_from, is_continue_to, outgoing, was_refused}
use Rattle.tcap_faults.proofs.story_laws.Stories.{Bounds, got_in, may_have_incoming, sent_in, outgoing_to}
use Rattle.tcap_faults.proofs.list_laws.CountLaws.{count_more, one}
use Rattle.tcap_faults.proofs.run_laws.HalfGoesOnLaws.{Story}
use Rattle.tcap_faults.proofs.run_laws.MayHearLaws.{count_in, count_in_first}
use Rattle.tcap_faults.proofs.view_laws.AcceptedHalfLaws.{all_outgoing}
use Rattle.tcap_faults.proofs.list_laws.FindLaws.{filter_is, find_has, find_none}
use Rattle.tcap_faults.proofs.view_laws.BegunHalfLaws.{all_back, all_begun}
use Rattle.tcap_faults.proofs.view_laws.GrowthLaws.{incoming_among}
use Rattle.tcap_faults.proofs.view_laws.ViewLaws.{View, view_sound}
use Rattle.tcap_faults.proofs.kind_laws.HalfFacts.{behind_is, come_accepted, come_begun, either_slot, goes_from, kept_own, keyed, not_nothing, over_accepted, over_begun, stands_so, outgoing_own, waits_so}
use Rattle.tcap_faults.proofs.transaction_laws.TangledLaws.{IsPlain, began_used, joins}

-- If something was heard, the half is begun.
how_begun : (xs : List Message) (x : Message) → Contains xs x → cond (is_nothing xs) Unanswered Begun ≡ Begun
how_begun xs x has = grind arith

-- A message to a begun ID has that destination ID.
pub begun_there : (side : Side) (items : List Item) (m : Message) → goes_to_begun side items m ≡ true
    → (own : List ℕ) × (dtid_in m ≡ Some own) × (is_a forms.Continue m ≡ true) × (began side own items ≡ true)
begun_there side items m is = by (dtid_in m) refl
  where
    by : (o : Option (List ℕ)) → dtid_in m ≡ o
        → (own : List ℕ) × (dtid_in m ≡ Some own) × (is_a forms.Continue m ≡ true) × (began side own items ≡ true)
    by None to = let bad : false ≡ true = rw to at is in cc
    by (Some own) to =
        let both : (is_a forms.Continue m && began side own items) ≡ true = rw to at is in
        let (goes_on, begun) = and_parts (is_a forms.Continue m) (began side own items) both in
        (own, to, goes_on, begun)

pub to_begun : (side : Side) (items : List Item) (m : Message) (own : List ℕ) → dtid_in m ≡ Some own
    → is_a forms.Continue m ≡ true → began side own items ≡ true → goes_to_begun side items m ≡ true
to_begun side items m own to goes_on begun = rw to (and_from (is_a forms.Continue m) _ goes_on begun)

-- If fewer than two elements pass, they are the first one.
pub only_first : (p : Message → Bool) (xs : List Message) → count p xs < 2 → filter p xs ≡ option_to_list (find p xs)
only_first p [] few = refl
only_first p (x ∷ xs) few = by (p x) (count_more p x xs) (only_first p xs)
  where
    none_left : (ys : List Message) → length ys < 1 → ys ≡ []
    none_left [] none = refl
    none_left (y ∷ ys) none = absurd (omega arith)

    by : (b : Bool) → count p (x ∷ xs) ≡ one b + count p xs
        → (count p xs < 2 → filter p xs ≡ option_to_list (find p xs))
        → cond b (x ∷ filter p xs) (filter p xs) ≡ option_to_list (cond b (Some x) (find p xs))
    by true more rest =
        let here : one true ≡ 1 = refl in
        ap (λ (ys : List Message). x ∷ ys) (none_left (filter p xs) (omega (arith, few)))
    by false more rest =
        let none : one false ≡ 0 = refl in rest (omega (arith, few))

-- A message that is sent over a half whose peer's ID is plain.
module _ {table : Table} {side : Side} {e : End} {coming : List Message} {items : List Item}
    (view : View table side e coming items) (m : Message) (id : List ℕ) (half : IsOver table e m id)
    (plain : IsPlain side items id) where
  abbrev f : KeyedHalf
  f = half.kept

  abbrev h : HalfMessages
  h = half_of side items id

  is_end : IsEnd e
  is_end = view_sound view

  -- ---- an accepted half

  module _ (slot : f.slot ≡ slots.Accepted) where
    stands : (has_a forms.Begin (peer_sent_from side id items) ≡ true) × (was_refused side id items ≡ false)
    stands = stands_so view id f half.had half.peer plain.few slot

    pub is_accepted_half : h ≡ accepted_half side items id
    is_accepted_half = rw (stands.0) refl

    pub how_accepted : h.origin ≡ Accepted
    how_accepted =
        ap (λ (x : HalfMessages). x.origin) is_accepted_half
        ∙ ap (λ (b : Bool). cond b Refused Accepted) stands.1

    -- Its own ID is that of the first Continue to its peer.
    answered_own : answered_from side items id ≡ f.half.own
    answered_own = by (find (is_a forms.Continue) (outgoing side id items)) refl
      where
        unknown : find (is_a forms.Continue) (outgoing side id items) ≡ None → (p : Phase) → f.half.phase ≡ p
            → is_closed p ≡ false → None ≡ f.half.own
        unknown none phases.Sent at still =
            let no_peer = (subst (λ (p : Phase). FitsPhase p f.half) at (is_end.halves f half.had).phase).1 in
            let bad = sym no_peer ∙ half.peer in cc
        unknown none phases.Received at still = sym (waits_so e f is_end half.had at)
        unknown none phases.Active at still =
            let it = all_outgoing view f half.had slot at in
            let there : Contains (outgoing side id items) it.message =
            subst (λ (i : List ℕ). Contains (outgoing side i items) it.message) (keyed view id f half.had half.peer slot)
            it.was_outgoing in
            find_none (is_a forms.Continue) (outgoing side id items) it.message none there it.goes_on
        unknown none phases.Closed at still = cc

        by : (o : Option Message) → find (is_a forms.Continue) (outgoing side id items) ≡ o
            → option_then o otid_in ≡ f.half.own
        by None none = unknown none f.half.phase refl half.is_open
        by (Some n) found =
            let (has, goes_on) = find_has (is_a forms.Continue) (outgoing side id items) n found in
            let (o, from) = goes_from n goes_on in
            from ∙ sym (outgoing_own view id f half.had half.peer n o has goes_on from)

    own_accepted : h.own ≡ f.half.own
    own_accepted = ap (λ (x : HalfMessages). x.own) is_accepted_half ∙ answered_own

  -- ---- a begun half

  module _ (slot : f.slot ≡ slots.Begun) where
    kept : f.half.own ≡ Some f.key
    kept = kept_own e f is_end half.had slot

    begun_it : began side f.key items ≡ true
    begun_it = ap is_some (all_begun view f half.had slot).is_begun

    -- The peer answered it.
    abbrev answer : Message
    answer = (all_back view f id half.had slot half.peer).message

    incoming_it : Contains (incoming_continues (begin_from side f.key items) (continued_to side items id (Some f.key))) answer
    incoming_it =
        subst (λ (ms : List Message). Contains ms answer)
        (behind_is (begin_from side f.key items) (continued_to side items id (Some f.key)) begun_it)
        (all_back view f id half.had slot half.peer).was_incoming

    answered : Contains (peer_sent_from side id items) answer × (is_continue_to f.key answer ≡ true)
    answered =
        filter_is (is_continue_to f.key) (peer_sent_from side id items) answer
        (incoming_among (begin_from side f.key items) (continued_to side items id (Some f.key)) answer
        (all_back view f id half.had slot half.peer).was_incoming)

    answer_on : is_a forms.Continue answer ≡ true
    answer_on = (and_parts (is_a forms.Continue answer) _ answered.1).0

    answer_to : dtid_in answer ≡ Some f.key
    answer_to = id_is f.key (dtid_in answer) (and_parts (is_a forms.Continue answer) _ answered.1).1

    -- The peer did not begin that ID.
    none_began : has_a forms.Begin (peer_sent_from side id items) ≡ false
    none_began = by (has_a forms.Begin (peer_sent_from side id items)) refl
      where
        by : (b : Bool) → has_a forms.Begin (peer_sent_from side id items) ≡ b → b ≡ false
        by true begun =
            absurd (plain.none_begun begun answer answered.0
            (to_begun side items answer f.key answer_to answer_on begun_it))
        by false none = refl

    -- The peer's first Continue from the ID to a begun ID went to this half.
    first_to : begun_from side items id ≡ Some f.key
    first_to = by (find (goes_to_begun side items) (peer_sent_from side id items)) refl
      where
        by : (o : Option Message) → find (goes_to_begun side items) (peer_sent_from side id items) ≡ o
            → option_then o dtid_in ≡ Some f.key
        by None none =
            find_none (goes_to_begun side items) (peer_sent_from side id items) answer none answered.0
            (to_begun side items answer f.key answer_to answer_on begun_it)
        by (Some n) found =
            let (has, goes) = find_has (goes_to_begun side items) (peer_sent_from side id items) n found in
            let (own, to, goes_on, begun) = begun_there side items n goes in
            let here = joins side items id own n has goes_on to (began_used side items own begun) in
            let there = joins side items id f.key answer answered.0 answer_on answer_to
            (began_used side items f.key begun_it) in
            to ∙ ap Some (plain.one_own own f.key here there)

    pub is_begun_half : h ≡ begun_half side items id f.key
    is_begun_half = rw (none_began, first_to) refl

    pub how_begun_half : h.origin ≡ Begun
    how_begun_half =
        ap (λ (x : HalfMessages). x.origin) is_begun_half
        ∙ how_begun (incoming_continues (begin_from side f.key items) (continued_to side items id (Some f.key))) answer incoming_it

    own_begun : h.own ≡ f.half.own
    own_begun = ap (λ (x : HalfMessages). x.own) is_begun_half ∙ sym kept

  -- ---- any half

  -- Its own ID is that of the list.
  pub own_is : h.own ≡ f.half.own
  own_is = by (either_slot f.slot)
    where
      by : (f.slot ≡ slots.Begun) ⊎ (f.slot ≡ slots.Accepted) → h.own ≡ f.half.own
      by (inl slot) = own_begun slot
      by (inr slot) = own_accepted slot

  -- ---- what was sent and received over the half

  module _ (life : Story table side items (sent_by (other side) items) f.slot f.key f.half) where
    abbrev sent : List Component
    sent = sent_in life.past

    abbrev got : List Component
    got = got_in life.past

    bounds_accepted : f.slot ≡ slots.Accepted → Bounds (accepted_half side items id) sent got
    bounds_accepted slot = record {
      incoming = λ p.
          let come = ap (count_in p) (came slot) in
          let fewer = life.got p in omega arith;
      outgoing = λ p. let all = ap (count_in p) over in let more = life.sent p in omega arith;
      invoked = λ p. let all = ap (count_in p) over in let more = life.sent p in omega arith;
      all = λ p. let all = ap (count_in p) over in let fewer = life.sent p in omega arith;
    }
      where
        over : life.outgoing_over ≡ outgoing side id items
        over = over_accepted side items f life.outgoing_over life.is_outgoing slot ∙ ap (outgoing_to side items) half.peer

        came : f.slot ≡ slots.Accepted
            → may_have_incoming side items (sent_by (other side) items) f.slot f.half.own f.half.peer
            ≡ option_to_list (find (is_a forms.Begin) (peer_sent_from side id items))
            ++ continued_to side items id (answered_from side items id)
        came slot =
            come_accepted side items f.slot f.half.own f.half.peer id slot half.peer
            ∙ ap (λ (o : Option (List ℕ)). filter (is_a forms.Begin) (peer_sent_from side id items) ++ continued_to side items id o)
            (sym (answered_own slot))
            ∙ ap (λ ms. ms ++ continued_to side items id (answered_from side items id))
            (only_first (is_a forms.Begin) (peer_sent_from side id items) plain.few)

    bounds_begun : (slot : f.slot ≡ slots.Begun) → Bounds (begun_half side items id f.key) sent got
    bounds_begun slot = record {
      incoming = λ p.
          let come = ap (count_in p) came in
          let fewer = life.got p in omega arith;
      outgoing = λ p.
          let all = ap (count_in p) over in
          let first = count_in_first p begin (outgoing side id items) in
          let more = life.sent p in omega arith;
      invoked = λ p. let all = ap (count_in p) whole in let more = life.sent p in omega arith;
      all = λ p. let all = ap (count_in p) whole in let fewer = life.sent p in omega arith;
    }
      where
        begin : Message
        begin = (over_begun side items f life.outgoing_over life.is_outgoing slot).0

        began_so : begin_from side f.key items ≡ Some begin
        began_so = (over_begun side items f life.outgoing_over life.is_outgoing slot).1

        over : life.outgoing_over ≡ begin ∷ outgoing side id items
        over =
            (over_begun side items f life.outgoing_over life.is_outgoing slot).2
            ∙ ap (λ (o : Option (List ℕ)). begin ∷ outgoing_to side items o) half.peer

        whole : life.outgoing_over ≡ option_to_list (begin_from side f.key items) ++ outgoing side id items
        whole = over ∙ ap (λ (o : Option Message). option_to_list o ++ outgoing side id items) (sym began_so)

        came : may_have_incoming side items (sent_by (other side) items) f.slot f.half.own f.half.peer
            ≡ incoming_continues (begin_from side f.key items) (continued_to side items id (Some f.key))
        came =
            come_begun side items f.slot f.half.own f.half.peer f.key id slot (kept slot) half.peer
            (ap is_some began_so)

    pub bounds : Bounds h sent got
    bounds = by (either_slot f.slot)
      where
        by : (f.slot ≡ slots.Begun) ⊎ (f.slot ≡ slots.Accepted) → Bounds h sent got
        by (inl slot) =
            subst (λ (x : HalfMessages). Bounds x sent got) (sym (is_begun_half slot)) (bounds_begun slot)
        by (inr slot) =
            subst (λ (x : HalfMessages). Bounds x sent got) (sym (is_accepted_half slot)) (bounds_accepted slot)
