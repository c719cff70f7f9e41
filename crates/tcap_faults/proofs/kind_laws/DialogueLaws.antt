-- No message that an end sends has F9: its dialogue portion fits the state of its half's dialogue (Q.774 3.2).
use Rattle.std.proofs.Common.{◌≡◌, ◌⊎◌, inl, inr, ℕ, Bool, true, false, List, [], Option, Some, None, not, is_none, is_some, refl, sym, ap, subst, ◌∙◌, arith}
use Rattle.std.specs.Prelude.{Contains, ◌&&◌, ◌||◌}
use Rattle.std.specs.List.{find}
use Rattle.std.specs.Option.{option_to_list}
use Rattle.std.proofs.lemmas.Bool.{and_from, and_parts, both_ways, not-true, or_cases}
use Rattle.tcap_parts.specs.declared.dialogue.Dialogue.{Dialogue}
use Rattle.tcap_parts.specs.declared.dialogue.Dialogue.TheVariants as dialogues
use Rattle.tcap_msg.specs.declared.kind.Kind.TheVariants as forms
use Rattle.tcap_msg.specs.declared.message.Message.{Message}
use Rattle.tcap_msg.specs.declared.message.Message.TheVariants.{Unidirectional, Begin, Continue, End as EndMessage, Abort}
use Rattle.tcap_msg.specs.Parts.{dialogue_in, reason_dialogue}
use Rattle.tcap_record.specs.declared.entry.End.{End as Side}
use Rattle.tcap_end.specs.declared.half.Phase.{Phase}
use Rattle.tcap_end.specs.declared.half.Phase.TheVariants as phases
use Rattle.tcap_end.specs.declared.half.Slot.TheVariants as slots
use Rattle.tcap_end.specs.declared.half.DialogueState.{DialogueState}
use Rattle.tcap_end.specs.declared.half.DialogueState.TheVariants as dialogue_states
use Rattle.tcap_end.specs.Table.{Table}
use Rattle.tcap_end.specs.Dialogue.{accepts_dialogue, first_dialogue_state, is_request, is_response, is_user_abort, may_abort, may_go_on, refuses_dialogue}
use Rattle.tcap_end.specs.End.{End, KeyedHalf}
use Rattle.tcap_end.specs.Half.{is_closed}
use Rattle.tcap_end.specs.ReachableEnd.{FitsPhase, IsEnd}
use Rattle.tcap_model.specs.World.{Item}
use Rattle.tcap_model.proofs.ListLaws.{contains_first}
use Rattle.tcap_refute.specs.EarlierMessages.{peer_sent_from, has_a, is_a, sent_by}
use Rattle.tcap_refute.proofs.Members.{any_has, filter_has, has_not}
use Rattle.tcap_refute.proofs.DialogueKinds.{IsAsked, aborts, goes_on}
use Rattle.tcap_refute.proofs.OverLaws.{IsOver, may_carry}
use Rattle.tcap_faults.specs.SentToId.{is_begin_from, is_request_of, outgoing}
use Rattle.tcap_faults.specs.HalfKinds.{is_accepted, is_first_answer, is_wrong_in_abort, is_wrong_dialogue, is_wrong_in_continue}
use Rattle.tcap_faults.specs.HalfByPeerId.{HalfMessages, half_of}
use Rattle.tcap_faults.proofs.list_laws.FindLaws.{any_is, find_has, request_is}
use Rattle.tcap_faults.proofs.view_laws.AcceptedHalfLaws.{all_asked, all_outgoing}
use Rattle.tcap_faults.proofs.view_laws.BegunHalfLaws.{all_begun, standing_of}
use Rattle.tcap_faults.proofs.view_laws.ViewLaws.{View, view_sound}
use Rattle.tcap_faults.proofs.kind_laws.HalfFacts.{either_slot, goes_from, kept_own, keyed, outgoing_own, waits_so}
use Rattle.tcap_faults.proofs.kind_laws.OwnHalfLaws.{how_accepted, how_begun_half, is_accepted_half, is_begun_half, only_first}
use Rattle.tcap_faults.proofs.transaction_laws.TangledLaws.{IsPlain}

-- ---- tests

-- The only element is the first.
alone_is : (o : Option Message) (m : Message) → Contains (option_to_list o) m → o ≡ Some m
alone_is None m has = has_not m has
alone_is (Some n) m has = by (contains_first n [] m has)
  where
    by : (n ≡ m) ⊎ Contains [] m → Some n ≡ Some m
    by (inl same) = ap Some same
    by (inr none) = has_not m none

-- A portion that accepts a dialogue is an AARE.
accepts_responds : (d : Option Dialogue) → accepts_dialogue d ≡ true → is_response d ≡ true
accepts_responds o is = grind (arith, is)

-- No portion, or a user's ABRT, is no AARE.
no_response : (d : Option Dialogue) → (is_none d || is_user_abort d) ≡ true → is_response d ≡ true → ⊥
no_response d so is = grind (arith, so, is)

-- An option cannot be both absent and present.
not_both : {A : Type 0} (o : Option A) → is_none o ≡ true → is_some o ≡ true → ⊥
not_both o none some = grind (arith, none, some)

-- A user's ABRT needs a dialogue.
user_wants : (phase : Phase) (dialogue_state : DialogueState) (d : Option Dialogue) → may_abort phase dialogue_state d ≡ true
    → is_user_abort d ≡ true → dialogue_state ≡ dialogue_states.Without → ⊥
user_wants phase dialogue_state o may user without = grind (arith, may, user, without)

-- If no dialogue was asked for, there is none.
never_asked : (phase : Phase) (d : Option Dialogue) → is_request d ≡ false → standing_of phase d ≡ dialogue_states.Without
never_asked phases.Closed d none = refl
never_asked phase d none = rw none refl

-- If the portion is an AARQ, the dialogue begins as asked for.
asked_first : (d : Option Dialogue) → is_request d ≡ true → first_dialogue_state d ≡ dialogue_states.Requested
asked_first d is = rw is refl

-- A half that must answer a request sends an AARE that accepts the dialogue.
takes_request : (p : Phase) (s : DialogueState) (d : Option Dialogue) → p ≡ phases.Received → s ≡ dialogue_states.Requested
    → may_go_on p s d ≡ true → accepts_dialogue d ≡ true
takes_request p s d at peer_sent_from may = rw (at, peer_sent_from) at may

-- A message that is sent over a half whose peer's ID is plain.
module _ {table : Table} {side : Side} {e : End} {coming : List Message} {items : List Item}
    (view : View table side e coming items) (m : Message) (id : List ℕ) (half : IsOver table e m id)
    (plain : IsPlain side items id) where
  abbrev f : KeyedHalf
  f = half.kept

  abbrev h : HalfMessages
  h = half_of side items id

  is_end : IsEnd e
  is_end = view_sound view

  abbrev first : Bool
  first = is_first_answer side items id h

  -- A half in Received sent no Continue.
  not_gone_on : f.half.phase ≡ phases.Received → has_a forms.Continue (outgoing side id items) ≡ true → ⊥
  not_gone_on received gone =
      let (n, has, goes) = any_is (is_a forms.Continue) (outgoing side id items) gone in
      let (o, from) = goes_from n goes in
      let his = outgoing_own view id f half.had half.peer n o has goes from in
      let bad = sym (waits_so e f is_end half.had received) ∙ his in cc

  -- An accepted half that sent no Continue is in Received.
  waits : f.slot ≡ slots.Accepted → has_a forms.Continue (outgoing side id items) ≡ false → f.half.phase ≡ phases.Received
  waits slot none = by f.half.phase refl half.is_open
    where
      by : (p : Phase) → f.half.phase ≡ p → is_closed p ≡ false → f.half.phase ≡ phases.Received
      by phases.Sent at still =
          let unknown = (subst (λ (p : Phase). FitsPhase p f.half) at (is_end.halves f half.had).phase).1 in
          let bad = sym unknown ∙ half.peer in cc
      by phases.Received at still = at
      by phases.Active at still =
          let it = all_outgoing view f half.had slot at in
          let there : Contains (outgoing side id items) it.message =
          subst (λ (i : List ℕ). Contains (outgoing side i items) it.message) (keyed view id f half.had half.peer slot)
          it.was_outgoing in
          absurd (both_ways (has_a forms.Continue (outgoing side id items)) none
          (any_has (is_a forms.Continue) (outgoing side id items) it.message there it.goes_on))
      by phases.Closed at still = cc

  -- A user's ABRT needs a dialogue that the half's Begin asked for.
  wants_request : (d : Option Dialogue) → may_abort f.half.phase f.half.dialogue_state d ≡ true → is_user_abort d ≡ true
      → (wanted : Option Dialogue) → f.half.dialogue_state ≡ standing_of f.half.phase wanted → is_request wanted ≡ true
  wants_request d may user wanted stands = grind arith

  -- The half has a Begin, and the dialogue has the state that the Begin gives.
  stands_by : (begin : Message) × (h.begin ≡ Some begin) × (is_a forms.Begin begin ≡ true)
      × (f.half.dialogue_state ≡ standing_of f.half.phase (dialogue_in begin))
  stands_by = by (either_slot f.slot)
    where
      by : (f.slot ≡ slots.Begun) ⊎ (f.slot ≡ slots.Accepted)
          → (begin : Message) × (h.begin ≡ Some begin) × (is_a forms.Begin begin ≡ true)
          × (f.half.dialogue_state ≡ standing_of f.half.phase (dialogue_in begin))
      by (inl slot) =
          let it = all_begun view f half.had slot in
          let (has, passes) = find_has (is_begin_from f.key) (sent_by side items) it.begin it.is_begun in (
            it.begin,
            ap (λ (x : HalfMessages). x.begin) (is_begun_half view m id half plain slot) ∙ it.is_begun,
            (and_parts (is_a forms.Begin it.begin) _ passes).0,
            it.stands,
          )
      by (inr slot) =
          let it = all_asked view f half.had slot in
          let there : Contains (peer_sent_from side id items) it.begin =
          subst (λ (i : List ℕ). Contains (peer_sent_from side i items) it.begin) (keyed view id f half.had half.peer slot)
          it.was_asked in
          let first_is : find (is_a forms.Begin) (peer_sent_from side id items) ≡ Some it.begin =
          alone_is (find (is_a forms.Begin) (peer_sent_from side id items)) it.begin
          (subst (λ (ms : List Message). Contains ms it.begin)
          (only_first (is_a forms.Begin) (peer_sent_from side id items) plain.few)
          (filter_has (is_a forms.Begin) (peer_sent_from side id items) it.begin there it.begins)) in (
            it.begin,
            ap (λ (x : HalfMessages). x.begin) (is_accepted_half view m id half plain slot) ∙ first_is,
            it.begins,
            it.stands,
          )

  abbrev begin : Message
  begin = stands_by.0

  asks_so : is_request_of h.begin ≡ is_request (dialogue_in begin)
  asks_so = ap is_request_of stands_by.1 ∙ request_is begin stands_by.2

  -- A message over a half in Received is a first answer.
  answers_first : f.half.phase ≡ phases.Received → first ≡ true
  answers_first received = by (either_slot f.slot)
    where
      by : (f.slot ≡ slots.Begun) ⊎ (f.slot ≡ slots.Accepted) → first ≡ true
      by (inl slot) =
          let bad = sym (waits_so e f is_end half.had received) ∙ kept_own e f is_end half.had slot in cc
      by (inr slot) =
          and_from (is_accepted h.origin) _ (ap is_accepted (how_accepted view m id half plain slot))
          (none (has_a forms.Continue (outgoing side id items)) refl)
        where
          none : (b : Bool) → has_a forms.Continue (outgoing side id items) ≡ b → not b ≡ true
          none true gone = absurd (not_gone_on received gone)
          none false never = refl

  -- If a message is a first answer, its half is in Received.
  waits_first : first ≡ true → f.half.phase ≡ phases.Received
  waits_first is =
      let (accepted, never) = and_parts (is_accepted h.origin) _ is in
      by accepted (not-true _ never) (either_slot f.slot)
    where
      by : is_accepted h.origin ≡ true → has_a forms.Continue (outgoing side id items) ≡ false
          → (f.slot ≡ slots.Begun) ⊎ (f.slot ≡ slots.Accepted) → f.half.phase ≡ phases.Received
      by accepted none (inl slot) =
          let bad : false ≡ true = sym (ap is_accepted (how_begun_half view m id half plain slot)) ∙ accepted in cc
      by accepted none (inr slot) = waits slot none

  -- ---- a Continue or an End

  going_on : (d : Option Dialogue) → may_go_on f.half.phase f.half.dialogue_state d ≡ true
      → is_wrong_in_continue first (is_request_of h.begin) d ≡ true → ⊥
  going_on d may is = by (or_cases (not first && is_some d) _ is)
    where
      some_wrong : not first ≡ true → is_some d ≡ true
          → (is_none d ≡ true) ⊎ (IsAsked f.half.phase f.half.dialogue_state × (accepts_dialogue d ≡ true)) → ⊥
      some_wrong later some (inl none) = not_both d none some
      some_wrong later some (inr (at, accepts)) = both_ways first (not-true _ later) (answers_first at.0)

      none_wrong : (first && is_request_of h.begin && not (is_response d)) ≡ true → ⊥
      none_wrong all =
          let (two, none) = and_parts (first && is_request_of h.begin) _ all in
          let (now, asks) = and_parts first (is_request_of h.begin) two in
          let received = waits_first now in
          let dialogue_state : f.half.dialogue_state ≡ dialogue_states.Requested =
          stands_by.3 ∙ ap (λ (p : Phase). standing_of p (dialogue_in begin)) received
          ∙ asked_first (dialogue_in begin) (sym asks_so ∙ asks) in
          both_ways (is_response d) (not-true _ none)
          (accepts_responds d (takes_request f.half.phase f.half.dialogue_state d received dialogue_state may))

      by : ((not first && is_some d) ≡ true) ⊎ ((first && is_request_of h.begin && not (is_response d)) ≡ true) → ⊥
      by (inl wrong) =
          let (later, some) = and_parts (not first) (is_some d) wrong in
          some_wrong later some (goes_on f.half.phase f.half.dialogue_state d may)
      by (inr wrong) = none_wrong wrong

  -- ---- an Abort

  aborting : (d : Option Dialogue) → may_abort f.half.phase f.half.dialogue_state d ≡ true
      → is_wrong_in_abort first (is_request_of h.begin) d ≡ true → ⊥
  aborting d may is = by (or_cases (not first && is_response d) _ is)
    where
      response_wrong : not first ≡ true → is_response d ≡ true
          → ((is_none d || is_user_abort d) ≡ true)
          ⊎ (IsAsked f.half.phase f.half.dialogue_state × (refuses_dialogue d ≡ true)) → ⊥
      response_wrong later response (inl other) = no_response d other response
      response_wrong later response (inr (at, refuses)) = both_ways first (not-true _ later) (answers_first at.0)

      user_wrong : is_user_abort d ≡ true → not (is_request_of h.begin) ≡ true → ⊥
      user_wrong user never =
          both_ways (is_request_of h.begin) (not-true _ never)
          (asks_so ∙ wants_request d may user (dialogue_in begin) stands_by.3)

      by : ((not first && is_response d) ≡ true) ⊎ ((is_user_abort d && not (is_request_of h.begin)) ≡ true) → ⊥
      by (inl wrong) =
          let (later, response) = and_parts (not first) (is_response d) wrong in
          response_wrong later response (aborts f.half.phase f.half.dialogue_state d may)
      by (inr wrong) = let (user, never) = and_parts (is_user_abort d) _ wrong in user_wrong user never

  -- The dialogue portion of a message with a destination ID fits.
  pub right_dialogue : is_wrong_dialogue side items id m h ≡ true → ⊥
  right_dialogue = λ h4. grind (arith, half.carries, going_on, aborting, h4)
