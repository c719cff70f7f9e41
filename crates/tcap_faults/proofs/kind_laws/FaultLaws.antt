-- No message of an end that keeps the rules is a fault of any kind, nor is a reply of its provider.
use Rattle.std.proofs.Common.{◌≡◌, ◌⊎◌, inl, inr, ℕ, Bool, true, false, List, [], ◌∷◌, ◌++◌, Option, Some, None, not, refl, ap, subst, arith}
use Rattle.std.specs.Prelude.{◌&&◌, ◌||◌}
use Rattle.std.specs.List.{list_any}
use Rattle.std.proofs.lemmas.Bool.{and_parts, not-true, or_cases, or_left, or_right}
use Rattle.tcap_parts.specs.declared.component.Component.{Component}
use Rattle.tcap_parts.specs.declared.component.Component.TheVariants.{Reject}
use Rattle.tcap_parts.specs.declared.problem.Problem.TheVariants as problems
use Rattle.tcap_msg.specs.declared.message.Message.{Message}
use Rattle.tcap_msg.specs.declared.message.Message.TheVariants.{Unidirectional, Begin, Continue, End as EndMessage, Abort}
use Rattle.tcap_msg.specs.Parts.{cause_in, components_in, dtid_in, items_of}
use Rattle.tcap_record.specs.declared.entry.End.{End as Side}
use Rattle.tcap_record.specs.Ends.{other}
use Rattle.tcap_end.specs.Table.{Table}
use Rattle.tcap_end.specs.End.{End}
use Rattle.tcap_model.specs.World.{Item, Sent, World, end_at}
use Rattle.tcap_model.specs.Run.{Event, KeepsRules, Runs, provider_abort}
use Rattle.tcap_refute.specs.declared.kind.Kind.{Kind}
use Rattle.tcap_refute.specs.declared.kind.Kind.TheVariants as kinds
use Rattle.tcap_refute.specs.EarlierMessages.{peer_sent_from, components_of, sent_by, since_quiet}
use Rattle.tcap_refute.specs.Kind.{answers_none_of, answers_nothing, is_of_kind}
use Rattle.tcap_refute.specs.FirstKinds.{answers_none, answers_nothing_for_end, is_of_first_kind}
use Rattle.tcap_refute.proofs.KindLaws.{none_of_kind}
use Rattle.tcap_refute.proofs.MomentLaws.{IsMoment, RepliesIt, SendsIt, sent_at}
use Rattle.tcap_refute.proofs.OverLaws.{IsOver}
use Rattle.tcap_refute.proofs.SentLaws.{IsSent, half_over}
use Rattle.tcap_faults.specs.Fault.{is_fault, is_of_alone_kind, is_of_further_kind, is_of_half_kind, is_of_kind_to, is_of_reply_kind}
use Rattle.tcap_faults.specs.HalfKinds.{is_wrong_half}
use Rattle.tcap_faults.specs.HalfByPeerId.{HalfMessages, half_of}
use Rattle.tcap_faults.specs.TangledIds.{goes_over_tangled}
use Rattle.tcap_faults.proofs.story_laws.Stories.{Bounds, IsLed, got_in, sent_in}
use Rattle.tcap_faults.proofs.view_laws.AdvanceLaws.{Refuses, refuses}
use Rattle.tcap_faults.proofs.view_laws.ViewLaws.{View, coming_to, messages_of, view_of}
use Rattle.tcap_faults.proofs.story_laws.FirstMessageLaws.{begin_none_again, begin_none_linked, uni_none_again, uni_none_linked}
use Rattle.tcap_faults.proofs.run_laws.OpenHalfLaws.{lives}
use Rattle.tcap_faults.proofs.run_laws.HalfGoesOnLaws.{Story, led_same}
use Rattle.tcap_faults.proofs.kind_laws.ComponentLaws.{answers_none_again, invokes_none_busy, links_none_badly, rejects_none_wrongly}
use Rattle.tcap_faults.proofs.kind_laws.DialogueLaws.{right_dialogue}
use Rattle.tcap_faults.proofs.kind_laws.HalfKindsLaws.{right_half}
use Rattle.tcap_faults.proofs.kind_laws.OwnHalfLaws.{bounds}
use Rattle.tcap_faults.proofs.kind_laws.ReplyLaws.{begin_left, continue_left}
use Rattle.tcap_faults.proofs.transaction_laws.TangledLaws.{IsPlain, plain_to}

-- ---- F2 to F7

-- A component that is for nothing, if one end alone is judged, is so if both are.
none_stricter : (components : List Component) (c : Component) → answers_none components c ≡ true
    → answers_none_of components c ≡ true
none_stricter components c is = grind (arith, is)

any_stricter : (components cs : List Component) → list_any (answers_none components) cs ≡ true
    → list_any (answers_none_of components) cs ≡ true
any_stricter components [] is = is
any_stricter components (c ∷ cs) is =
    grind (arith, or_cases (answers_none components c) _ is, any_stricter components cs)

nothing_stricter : (side : Side) (items : List Item) (m : Message) → answers_nothing_for_end side items m ≡ true
    → answers_nothing side items m ≡ true
nothing_stricter side items (Continue otid dtid dialogue components) is =
    any_stricter (components_of (peer_sent_from side dtid items)) (items_of components) is
nothing_stricter side items (EndMessage dtid dialogue components) is =
    any_stricter (components_of (peer_sent_from side dtid items)) (items_of components) is
nothing_stricter side items m is = is

first_stricter : (table : Table) (side : Side) (items : List Item) (m : Message) (kind : Kind)
    → is_of_first_kind table side items m kind ≡ true → is_of_kind table side items m kind ≡ true
first_stricter table side items m kinds.AnswersNothing is = nothing_stricter side items m is
first_stricter table side items m kind is = is

-- ---- a message that the end sends

module _ {table : Table} {events : List Event} {w : World} {side : Side} {message : Message}
    (it : IsSent table events w side message) where
  abbrev items : List Item
  items = since_quiet w.sent

  view : View table side (end_at side w) (coming_to side w) items
  view = view_of table side events w it.runs it.keeps

  -- A message over a half whose peer's ID is plain has no kind.
  module _ (id : List ℕ) (to : dtid_in message ≡ Some id) (plain : IsPlain side items id) where
    half : IsOver table (end_at side w) message id
    half = half_over id it to

    abbrev h : HalfMessages
    h = half_of side items id

    life : Story table side items (sent_by (other side) items) half.kept.slot half.kept.key half.kept.half
    life = lives view half.kept half.had half.is_open

    bound : Bounds h (sent_in life.past) (got_in life.past)
    bound = bounds view message id half plain life

    led : IsLed table life.past half.start
    led = led_same table life.past half.kept.half half.start (half.out, half.inn, half.grants) life.is_led

    behind : (wrong so : Bool) → (not wrong && so) ≡ true → so ≡ true
    behind wrong so is = grind (arith, is)

    half_kind : (kind : Kind) → is_of_half_kind table side id items message h kind ≡ true → ⊥
    half_kind kinds.WrongHalf is = right_half view message id half plain is
    half_kind kinds.WrongDialogue is =
        right_dialogue view message id half plain (behind (is_wrong_half side items message h) _ is)
    half_kind kinds.InvokeIdBusy is =
        invokes_none_busy table h life.past half.start bound led (components_in message) half.behind half.sends
        (h.outgoing ++ components_in message)
        (behind (is_wrong_half side items message h) _ is)
    half_kind kinds.BadLink is =
        links_none_badly table h life.past half.start bound led (components_in message) half.behind half.sends
        (behind (is_wrong_half side items message h) _ is)
    half_kind kinds.AnsweredAlready is =
        answers_none_again table h life.past half.start bound led (components_in message) half.behind half.sends
        (behind (is_wrong_half side items message h) _ is)
    half_kind kinds.RejectNotAllowed is =
        rejects_none_wrongly table h life.past half.start bound led (components_in message) half.behind half.sends
        (behind (is_wrong_half side items message h) _ is)
    half_kind kind is = cc

  kind_to : (id : List ℕ) → dtid_in message ≡ Some id → goes_over_tangled side items message ≡ false
      → (cause : Option ℕ) → cause ≡ None → (kind : Kind)
      → is_of_kind_to table side id items message cause kind ≡ true → ⊥
  kind_to id to over None none kind is = half_kind id to (plain_to side items message id to over) kind is
  kind_to id to over (Some cause) none kind is = cc

-- A Begin or a Unidirectional has no kind.
module _ (m : Message) (again : is_of_alone_kind m kinds.InvokeIdBusy ≡ true → ⊥)
    (linked : is_of_alone_kind m kinds.BadLink ≡ true → ⊥) where
  alone_kind : (kind : Kind) → is_of_alone_kind m kind ≡ true → ⊥
  alone_kind kinds.InvokeIdBusy is = again is
  alone_kind kinds.BadLink is = linked is
  alone_kind kind is = cc

further_sent : (table : Table) (events : List Event) (w : World) (side : Side) (message : Message) (kind : Kind)
    → IsSent table events w side message → goes_over_tangled side (since_quiet w.sent) message ≡ false
    → is_of_further_kind table side (since_quiet w.sent) message (dtid_in message) kind ≡ true → ⊥
further_sent table events w side (Unidirectional dialogue components) kind it over is =
    alone_kind (Unidirectional dialogue components)
    (uni_none_again table (end_at side w) it.made dialogue components it.step)
    (uni_none_linked table (end_at side w) it.made dialogue components it.step) kind is
further_sent table events w side (Begin otid dialogue components) kind it over is =
    alone_kind (Begin otid dialogue components)
    (begin_none_again table (end_at side w) it.made otid dialogue (items_of components) it.step)
    (begin_none_linked table (end_at side w) it.made otid dialogue (items_of components) it.step) kind is
further_sent table events w side (Continue otid dtid dialogue components) kind it over is =
    kind_to it dtid refl over None refl kind is
further_sent table events w side (EndMessage dtid dialogue components) kind it over is =
    kind_to it dtid refl over None refl kind is
further_sent table events w side (Abort dtid reason) kind it over is =
    kind_to it dtid refl over (cause_in (Abort dtid reason)) (half_over dtid it refl).no_cause kind is

-- ---- a reply of the provider

reply_kind : (table : Table) (side : Side) (id : List ℕ) (items : List Item) (h : HalfMessages) (cause : ℕ) (kind : Kind)
    → is_of_reply_kind table side id items h cause kind ≡ true → kind ≡ kinds.WrongReply
reply_kind table side id items h cause kind is = grind (arith, is)

module _ {table : Table} {side : Side} {e : End} {coming : List Message} {items : List Item} where
  further_refused : (m message : Message) (kind : Kind) → View table side e (m ∷ coming) items → Refuses e m message
      → goes_over_tangled side items message ≡ false
      → is_of_further_kind table side items message (dtid_in message) kind ≡ true → ⊥
  further_refused (Begin otid dialogue components) message kind view it over is =
      let there : is_of_further_kind table side items (provider_abort otid 4) (Some otid) kind ≡ true =
      rw (it.0) at is in
      let plain = plain_to side items (provider_abort otid 4) otid refl (rw (it.0) at over) in
      let only = reply_kind table side otid items (half_of side items otid) 4 kind there in
      begin_left (Begin otid dialogue components) view otid refl refl it.1 plain.few (rw only at there)
  further_refused (Continue otid dtid dialogue components) message kind view it over is =
      let there : is_of_further_kind table side items (provider_abort otid 1) (Some otid) kind ≡ true =
      rw (it.0) at is in
      let plain = plain_to side items (provider_abort otid 1) otid refl (rw (it.0) at over) in
      let only = reply_kind table side otid items (half_of side items otid) 1 kind there in
      continue_left (Continue otid dtid dialogue components) view otid dtid refl refl refl it.1 plain.few
      (rw only at there)
  further_refused m message kind view it over is = absurd it

further_replied : (table : Table) (events : List Event) (w : World) (side : Side) (message : Message) (kind : Kind)
    → Runs table events w → KeepsRules side events → RepliesIt w side message
    → goes_over_tangled side (since_quiet w.sent) message ≡ false
    → is_of_further_kind table side (since_quiet w.sent) message (dtid_in message) kind ≡ true → ⊥
further_replied table events w side message kind runs keeps (head, more, channel, replies) over is =
    further_refused head.message message kind view (refuses (end_at side w) head.message message replies) over is
  where
    view : View table side (end_at side w) (head.message ∷ messages_of more) (since_quiet w.sent)
    view =
        subst (λ (coming : List Message). View table side (end_at side w) coming (since_quiet w.sent))
        (ap messages_of channel) (view_of table side events w runs keeps)

-- ---- both

-- No message in a run has a further kind after the items before it.
none_of_further : (table : Table) (events : List Event) (w : World) (before behind : List Item) (side : Side)
    (message : Message) (kind : Kind) → Runs table events w → KeepsRules side events
    → w.sent ≡ before ++ Sent side message ∷ behind → goes_over_tangled side (since_quiet before) message ≡ false
    → is_of_further_kind table side (since_quiet before) message (dtid_in message) kind ≡ true → ⊥
none_of_further table events w before behind side message kind runs keeps sent over is = by at_it.how
  where
    at_it : IsMoment table side before message
    at_it = sent_at table events w before behind side message runs keeps sent

    plain : goes_over_tangled side (since_quiet at_it.world.sent) message ≡ false
    plain = rw (at_it.sent) over

    there : is_of_further_kind table side (since_quiet at_it.world.sent) message (dtid_in message) kind ≡ true
    there = rw (at_it.sent) is

    by : SendsIt table at_it.world side message ⊎ RepliesIt at_it.world side message → ⊥
    by (inl (made, step)) =
        let it : IsSent table at_it.events at_it.world side message =
        record { runs = at_it.runs; keeps = at_it.keeps; made = made; step = step } in
        further_sent table at_it.events at_it.world side message kind it plain there
    by (inr replies) =
        further_replied table at_it.events at_it.world side message kind at_it.runs at_it.keeps replies plain there

-- No message in a run is a fault.
pub none_at_fault : (table : Table) (events : List Event) (w : World) (before behind : List Item) (side : Side)
    (message : Message) (kind : Kind) → Runs table events w → KeepsRules side events
    → w.sent ≡ before ++ Sent side message ∷ behind → is_fault table side (since_quiet before) message kind ≡ true → ⊥
none_at_fault table events w before behind side message kind runs keeps sent is =
    let (over, so) = and_parts (not (goes_over_tangled side (since_quiet before) message)) _ is in
    by (not-true _ over) (or_cases (is_of_first_kind table side (since_quiet before) message kind) _ so)
  where
    by : goes_over_tangled side (since_quiet before) message ≡ false
        → (is_of_first_kind table side (since_quiet before) message kind ≡ true)
        ⊎ (is_of_further_kind table side (since_quiet before) message (dtid_in message) kind ≡ true) → ⊥
    by plain (inl first) =
        none_of_kind table events w before behind side message kind runs keeps sent
        (first_stricter table side (since_quiet before) message kind first)
    by plain (inr further) =
        none_of_further table events w before behind side message kind runs keeps sent plain further
