-- The story of a half goes on if its end sends or receives over it, if an own invocation expires, and if something
-- else happens to the end.
use Rattle.std.proofs.Common.{◌≡◌, ◌≤◌, ◌+◌, ◌⊎◌, inl, inr, arith, ℕ, ℤ, Bool, true, List, [], ◌∷◌, ◌++◌, Option, Some, None, Ok, refl, sym, ap, ◌∙◌}
use Rattle.std.specs.List.{list_any}
use Rattle.std.proofs.lemmas.List.Folds.{list_any-append}
use Rattle.tcap_parts.specs.declared.component.Component.{Component}
use Rattle.tcap_msg.specs.declared.message.Message.{Message}
use Rattle.tcap_msg.specs.Parts.{components_in, otid_in}
use Rattle.tcap_record.specs.declared.entry.End.{End as Side}
use Rattle.tcap_end.specs.declared.half.Phase.{Phase}
use Rattle.tcap_end.specs.declared.half.Phase.TheVariants as phases
use Rattle.tcap_end.specs.declared.half.Slot.{Slot}
use Rattle.tcap_end.specs.declared.half.Slot.TheVariants.{Begun, Accepted}
use Rattle.tcap_end.specs.declared.half.DialogueState.{DialogueState}
use Rattle.tcap_end.specs.declared.half.DialogueState.TheVariants as dialogue_states
use Rattle.tcap_end.specs.Table.{Table}
use Rattle.tcap_end.specs.Half.{Half}
use Rattle.tcap_end.specs.Component.{own_invocation, receive_component, send_component}
use Rattle.tcap_end.specs.End.{is_id}
use Rattle.tcap_end.specs.HiddenSteps.{may_expire, without_invocation}
use Rattle.tcap_end.specs.Message.{receive_components, send_components}
use Rattle.tcap_end.proofs.AnsweringLaws.{then_ok}
use Rattle.tcap_model.specs.World.{Item}
use Rattle.tcap_model.specs.SinceMark.{is_begin_with_request}
use Rattle.tcap_faults.specs.Counts.{count}
use Rattle.tcap_faults.specs.HalfByPeerId.{responds}
use Rattle.tcap_faults.specs.SentToId.{begin_from, is_continue_to, outgoing}
use Rattle.tcap_faults.proofs.run_laws.MayHearLaws.{HaveNoMore, KeepsBegins, count_in, count_in_append, count_in_one, filters_append, incoming_chosen, incoming_grows, incoming_later, no_more_self}
use Rattle.tcap_faults.proofs.story_laws.Stories.{Happening, Sends, Gets, Ends, IsLed, SameLists, continues_to, got_in, may_have_incoming, sent_in, outgoing_to}
use Rattle.tcap_faults.proofs.list_laws.CountLaws.{count_both}

-- ---- happenings

-- Two halves with the same invocations and answers have the same story.
pub led_same : (table : Table) (past : List Happening) (g h : Half) → SameLists g h → IsLed table past g
    → IsLed table past h
led_same table [] g h same is = (same.0 ∙ is.0, same.1 ∙ is.1, same.2 ∙ is.2)
led_same table (Sends c ∷ past) g h same (f, k, led, sends, lists) =
    (f, k, led, sends, (same.0 ∙ lists.0, same.1 ∙ lists.1, same.2 ∙ lists.2))
led_same table (Gets c ∷ past) g h same (f, led, lists) =
    (f, led, (same.0 ∙ lists.0, same.1 ∙ lists.1, same.2 ∙ lists.2))
led_same table (Ends id ∷ past) g h same (f, led, may, lists) =
    (f, led, may, (same.0 ∙ lists.0, same.1 ∙ lists.1, same.2 ∙ lists.2))

-- Components were sent, and nothing else happened.
pub record SentOn (table : Table) (past : List Happening) (components : List Component) (k : Half) : Type 0 where
  pub now : List Happening
  pub is_led : IsLed table now k
  pub sent : (p : Component → Bool) → count p (sent_in now) ≡ count p (sent_in past) + count p components
  pub got : got_in now ≡ got_in past

pub sends_on : (table : Table) (components : List Component) (past : List Happening) (g k : Half) → IsLed table past g
    → send_components table g components ≡ Ok k → SentOn table past components k
sends_on table [] past g k led is =
    let same : g ≡ k = cc in
    record { now = past; is_led = rw (← same) led; sent = λ p. omega arith; got = refl }
sends_on table (c ∷ more) past g k led is =
    let (next, one, rest) = then_ok (send_component table g c) (λ next. send_components table next more) k is in
    let on = sends_on table more (Sends c ∷ past) next k (g, next, led, one, (refl, refl, refl)) rest in
    record { now = on.now; is_led = on.is_led; sent = counts on.now on.sent; got = on.got }
  where
    counts : (now : List Happening)
        → ((p : Component → Bool) → count p (sent_in now) ≡ count p (c ∷ sent_in past) + count p more)
        → (p : Component → Bool) → count p (sent_in now) ≡ count p (sent_in past) + count p (c ∷ more)
    counts now sent p =
        let all = sent p in
        let front = count_both p (c ∷ []) (sent_in past) in
        let behind = count_both p (c ∷ []) more in omega arith

-- Components were received, and nothing else happened.
pub record GotOn (table : Table) (past : List Happening) (components : List Component) (k : Half) : Type 0 where
  pub now : List Happening
  pub is_led : IsLed table now k
  pub got : (p : Component → Bool) → count p (got_in now) ≡ count p (got_in past) + count p components
  pub sent : sent_in now ≡ sent_in past

pub gets_on : (table : Table) (components : List Component) (past : List Happening) (g : Half) → IsLed table past g
    → GotOn table past components (receive_components table g components)
gets_on table [] past g led = record { now = past; is_led = led; got = λ p. omega arith; sent = refl }
gets_on table (c ∷ more) past g led =
    let on = gets_on table more (Gets c ∷ past) (receive_component table g c) (g, led, (refl, refl, refl)) in
    record { now = on.now; is_led = on.is_led; got = counts on.now on.got; sent = on.sent }
  where
    counts : (now : List Happening)
        → ((p : Component → Bool) → count p (got_in now) ≡ count p (c ∷ got_in past) + count p more)
        → (p : Component → Bool) → count p (got_in now) ≡ count p (got_in past) + count p (c ∷ more)
    counts now got p =
        let all = got p in
        let front = count_both p (c ∷ []) (got_in past) in
        let behind = count_both p (c ∷ []) more in omega arith

-- ---- the story of an open half

-- These messages were sent over the half.
abbrev pub ToldOver : Side → List Item → Slot → List ℕ → Option (List ℕ) → List Message → Type 0
ToldOver side items Accepted key peer messages = messages ≡ outgoing_to side items peer
ToldOver side items Begun key peer messages =
    (begin : Message) × (begin_from side key items ≡ Some begin) × (messages ≡ begin ∷ outgoing_to side items peer)

-- If the half's Begin asked for a dialogue: the half waits for an answer, or a Continue that was taken from the
-- channel answered.
abbrev pub IsAnswered : List ℕ → List Message → DialogueState → Option (List ℕ) → Phase → Type 0
IsAnswered own gone dialogue_state peer phases.Sent = dialogue_state ≡ dialogue_states.Requested
IsAnswered own gone dialogue_state peer phases.Active =
    (id : List ℕ) → peer ≡ Some id → list_any responds (continues_to id gone (Some own)) ≡ true
IsAnswered own gone dialogue_state peer _ = Unit {0}

abbrev pub HasBegun : Side → List Item → List Message → Slot → List ℕ → Half → Type 0
HasBegun side items gone Accepted key h = Unit {0}
HasBegun side items gone Begun key h =
    (begin : Message) × (begin_from side key items ≡ Some begin)
    × (is_begin_with_request begin ≡ true → IsAnswered key gone h.dialogue_state h.peer h.phase)

-- The story of a half: `items` have what its end sent, and `gone` are the messages of the peer that are no longer on
-- their way.
pub record Story (table : Table) (side : Side) (items : List Item) (gone : List Message) (slot : Slot) (key : List ℕ)
    (h : Half) : Type 0 where
  pub past : List Happening
  pub is_led : IsLed table past h
  pub outgoing_over : List Message
  pub is_outgoing : ToldOver side items slot key h.peer outgoing_over
  pub sent : (p : Component → Bool) → count p (sent_in past) ≡ count_in p outgoing_over
  pub got : (p : Component → Bool)
      → count p (got_in past) ≤ count_in p (may_have_incoming side items gone slot h.own h.peer)
  pub begun : HasBegun side items gone slot key h

-- ---- what happens elsewhere

-- An answer remains an answer.
answered_still : (own : List ℕ) (gone more : List Message) (dialogue_state : DialogueState) (peer : Option (List ℕ))
    (phase : Phase)
    → IsAnswered own gone dialogue_state peer phase → IsAnswered own (gone ++ more) dialogue_state peer phase
answered_still own gone more dialogue_state peer phases.Sent is = is
answered_still own gone more dialogue_state peer phases.Active is = λ id same.
    ap (list_any responds) (filters_append (λ m. is_id id (otid_in m)) (is_continue_to own) gone more)
    ∙ list_any-append responds (continues_to id gone (Some own)) (continues_to id more (Some own))
    ∙ rw (is id same) refl
answered_still own gone more dialogue_state peer phase is = tt

pub begun_still : (side : Side) (items : List Item) (gone more : List Message) (slot : Slot) (key : List ℕ) (h : Half)
    → HasBegun side items gone slot key h → HasBegun side items (gone ++ more) slot key h
begun_still side items gone more Accepted key h is = tt
begun_still side items gone more Begun key h (begin, found, answered) =
    (begin, found, λ asks. answered_still key gone more h.dialogue_state h.peer h.phase (answered asks))

-- The beginning holds as long as the half keeps its phase, its peer and its dialogue.
pub begun_kept : (side : Side) (items later : List Item) (gone : List Message) (slot : Slot) (key : List ℕ) (h k : Half)
    → KeepsBegins side items later → k.phase ≡ h.phase → k.peer ≡ h.peer → k.dialogue_state ≡ h.dialogue_state
    → HasBegun side items gone slot key h → HasBegun side later gone slot key k
begun_kept side items later gone Accepted key h k keeps phase peer dialogue_state is = tt
begun_kept side items later gone Begun key h k keeps phase peer dialogue_state (begin, found, answered) =
    (begin, keeps key begin found, λ asks. rw (phase, peer, dialogue_state) (answered asks))

outgoing_kept : (side : Side) (items later : List Item) (slot : Slot) (key : List ℕ) (peer : Option (List ℕ))
    (messages : List Message) → KeepsBegins side items later → outgoing_to side later peer ≡ outgoing_to side items peer
    → ToldOver side items slot key peer messages → ToldOver side later slot key peer messages
outgoing_kept side items later Accepted key peer messages keeps same is = is ∙ sym same
outgoing_kept side items later Begun key peer messages keeps same (begin, found, is) =
    (begin, keeps key begin found, is ∙ ap (λ more. begin ∷ more) (sym same))

-- Messages are taken from the channel.
pub story_still : (table : Table) (side : Side) (items : List Item) (gone more : List Message) (slot : Slot)
    (key : List ℕ)
    (h : Half) → Story table side items gone slot key h → Story table side items (gone ++ more) slot key h
story_still table side items gone more slot key h it = record {
  past = it.past;
  is_led = it.is_led;
  outgoing_over = it.outgoing_over;
  is_outgoing = it.is_outgoing;
  sent = it.sent;
  got = incoming;
  begun = begun_still side items gone more slot key h it.begun;
}
  where
    incoming : (p : Component → Bool)
        → count p (got_in it.past) ≤ count_in p (may_have_incoming side items (gone ++ more) slot h.own h.peer)
    incoming p =
        let was = it.got p in
        let grows = incoming_grows side items gone more slot h.own h.peer p in omega arith

-- The end sends messages that do not go over the half.
pub story_later : (table : Table) (side : Side) (items later : List Item) (gone : List Message) (slot : Slot)
    (key : List ℕ)
    (h : Half) → KeepsBegins side items later → outgoing_to side later h.peer ≡ outgoing_to side items h.peer
    → Story table side items gone slot key h → Story table side later gone slot key h
story_later table side items later gone slot key h keeps same it = record {
  past = it.past;
  is_led = it.is_led;
  outgoing_over = it.outgoing_over;
  is_outgoing = outgoing_kept side items later slot key h.peer it.outgoing_over keeps same it.is_outgoing;
  sent = it.sent;
  got = incoming;
  begun = begun_kept side items later gone slot key h h keeps refl refl refl it.begun;
}
  where
    incoming : (p : Component → Bool)
        → count p (got_in it.past) ≤ count_in p (may_have_incoming side later gone slot h.own h.peer)
    incoming p =
        let was = it.got p in
        let grows = incoming_later side items later gone slot h.own h.peer keeps p in omega arith

-- ---- what happens to the half

-- An own invocation of the half expires.
pub story_ends : (table : Table) (side : Side) (items : List Item) (gone : List Message) (slot : Slot) (key : List ℕ)
    (h : Half) (id : ℤ) → may_expire table (own_invocation h id) ≡ true → Story table side items gone slot key h
    → Story table side items gone slot key (without_invocation id h)
story_ends table side items gone slot key h id may it = record {
  past = Ends id ∷ it.past;
  is_led = (h, it.is_led, may, (refl, refl, refl));
  outgoing_over = it.outgoing_over;
  is_outgoing = it.is_outgoing;
  sent = it.sent;
  got = it.got;
  begun =
      begun_kept side items items gone slot key h (without_invocation id h) (λ own begin found. found) refl refl refl
      it.begun;
}

-- The half keeps its own ID, or an accepted half chooses one.
abbrev pub KeepsOwn : Slot → Half → Half → Type 0
KeepsOwn slot h k = (k.own ≡ h.own) ⊎ ((slot ≡ Accepted) × (h.own ≡ None) × ((own : List ℕ) × (k.own ≡ Some own)))

incoming_by_own : (side : Side) (items : List Item) (gone : List Message) (slot : Slot) (h k : Half) → KeepsOwn slot h k
    → HaveNoMore (may_have_incoming side items gone slot h.own h.peer) (may_have_incoming side items gone slot k.own h.peer)
incoming_by_own side items gone slot h k (inl same) =
    rw same (no_more_self (may_have_incoming side items gone slot h.own h.peer))
incoming_by_own side items gone slot h k (inr (slots, none, (own, chosen))) =
    rw (slots, none, chosen) (incoming_chosen side items gone own h.peer)

-- A message is sent over the half.
module _ (table : Table) (side : Side) (items later : List Item) (gone : List Message) (slot : Slot) (key : List ℕ)
    (h start k : Half) (m : Message) (id : List ℕ) where
  outgoing_too : outgoing side id later ≡ outgoing side id items ++ m ∷ [] → KeepsBegins side items later
      → (messages : List Message)
      → ToldOver side items slot key (Some id) messages → ToldOver side later slot key (Some id) (messages ++ m ∷ [])
  outgoing_too is keeps messages = by slot
    where
      by : (slot : Slot) → ToldOver side items slot key (Some id) messages
          → ToldOver side later slot key (Some id) (messages ++ m ∷ [])
      by Accepted was = ap (λ all. all ++ m ∷ []) was ∙ sym is
      by Begun (begin, found, was) =
          (begin, keeps key begin found, ap (λ all. all ++ m ∷ []) was ∙ ap (λ more. begin ∷ more) (sym is))

  pub story_sends : SameLists h start → send_components table start (components_in m) ≡ Ok k → h.peer ≡ Some id
      → k.peer ≡ h.peer → KeepsOwn slot h k → outgoing side id later ≡ outgoing side id items ++ m ∷ []
      → KeepsBegins side items later → HasBegun side later gone slot key k → Story table side items gone slot key h
      → Story table side later gone slot key k
  story_sends same sends peer still own is keeps begun it = record {
    past = on.now;
    is_led = on.is_led;
    outgoing_over = it.outgoing_over ++ m ∷ [];
    is_outgoing = rw (still, peer) (outgoing_too is keeps it.outgoing_over (rw peer at it.is_outgoing));
    sent = sent;
    got = incoming;
    begun = begun;
  }
    where
      on : SentOn table it.past (components_in m) k
      on = sends_on table (components_in m) it.past start k (led_same table it.past h start same it.is_led) sends

      sent : (p : Component → Bool) → count p (sent_in on.now) ≡ count_in p (it.outgoing_over ++ m ∷ [])
      sent p =
          let was = it.sent p in
          let new = on.sent p in
          let all = count_in_append p it.outgoing_over (m ∷ []) in
          let one = count_in_one p m in omega arith

      incoming : (p : Component → Bool)
          → count p (got_in on.now) ≤ count_in p (may_have_incoming side later gone slot k.own k.peer)
      incoming p =
          let was = it.got p in
          let grows = incoming_later side items later gone slot h.own h.peer keeps p in
          let chosen = incoming_by_own side later gone slot h k own p in
          rw (on.got, still) (omega arith)
