-- No message that an end sends, and no reply of its provider, has F2, F3 or F4 (Q.774 3.3).
use Rattle.std.proofs.Common.{◌≡◌, Bool, true, false, cond, ℕ, List, [], ◌∷◌, Option, Some, None, Ok, is_none, not, refl, sym, ap, ◌∙◌, arith}
use Rattle.std.specs.Prelude.{Contains}
use Rattle.std.specs.List.{AllByRecursion, list_any}
use Rattle.std.proofs.lemmas.Bool.{and_parts, both_ways, not-true}
use Rattle.std.proofs.lemmas.Option.{cond_some}
use Rattle.tcap_parts.specs.declared.component.Component.{Component}
use Rattle.tcap_parts.specs.declared.dialogue.Dialogue.{Dialogue}
use Rattle.tcap_msg.specs.declared.kind.Kind.TheVariants as forms
use Rattle.tcap_msg.specs.declared.message.Message.{Message}
use Rattle.tcap_msg.specs.declared.message.Message.TheVariants.{Begin, Continue, End as EndMessage, Abort}
use Rattle.tcap_msg.specs.Parts.{cause_in, dtid_in, otid_in, reason_cause}
use Rattle.tcap_record.specs.declared.entry.End.{End as Side}
use Rattle.tcap_end.specs.declared.fault.EndFault.TheVariants as faults
use Rattle.tcap_end.specs.Table.{Table}
use Rattle.tcap_end.specs.Half.{Half, is_closed}
use Rattle.tcap_end.specs.End.{End, KeyedHalf, is_id, with_own}
use Rattle.tcap_end.specs.Message.{send}
use Rattle.tcap_end.specs.ReachableEnd.{HasHalf, IsEnd}
use Rattle.tcap_end.proofs.AnsweringLaws.{needs_ok}
use Rattle.tcap_end.proofs.FoundLaws.{none_own, is_that_id}
use Rattle.tcap_end.proofs.StepLaws.{none_is, sends}
use Rattle.tcap_record.specs.Ends.{other}
use Rattle.tcap_model.specs.World.{World, end_at}
use Rattle.tcap_model.specs.Run.{Event, Runs, provider_abort, reply_to}
use Rattle.tcap_model.specs.SinceMark.{HasUsed, SentSince, WasSent, ended_by}
use Rattle.tcap_model.proofs.ChannelLaws.{were_sent}
use Rattle.tcap_model.proofs.RunLaws.{sound}
use Rattle.tcap_model.proofs.SentMoves.{continue_uses, sent_moves}
use Rattle.tcap_model.proofs.SinceLaws.{since_at}
use Rattle.tcap_model.proofs.TurnLaws.{id_is}
use Rattle.tcap_model.proofs.UsedLaws.{ended_closed, ids_used, one_half}
use Rattle.tcap_refute.specs.EarlierMessages.{peer_sent_from, is_a, since_quiet, sent_by}
use Rattle.tcap_refute.specs.Kind.{goes_elsewhere, is_after_end, is_cause_unfounded, is_reused, is_unasked, is_unknown_transaction}
use Rattle.tcap_refute.proofs.BeforeLaws.{asked_has, found_since}
use Rattle.tcap_refute.proofs.Members.{any_has, has_not}
use Rattle.tcap_refute.proofs.MomentLaws.{RepliesIt}
use Rattle.tcap_refute.proofs.SentLaws.{IsSent, half_over, peer_spoke}

-- ---- tests

-- A message without cause answers what the peer sent.
asked_something : (messages : List Message) (m : Message) (cause : Option ℕ) → Contains messages m → cause ≡ None
    → is_unasked cause messages ≡ true → ⊥
asked_something [] m cause has none is = has_not m has
asked_something (first ∷ more) m cause has none is = let bad : false ≡ true = rw none at is in cc

-- An Abort with this cause answers what the peer sent.
answers_one : (cause : ℕ) (messages : List Message) (m : Message) → Contains messages m
    → is_cause_unfounded cause messages ≡ false → is_unasked (Some cause) messages ≡ true → ⊥
answers_one cause [] m has founded is = has_not m has
answers_one cause (first ∷ more) m has founded is = cc

-- If a conditional test passes, the inner test passes.
both_pass : (a b : Bool) → cond a b false ≡ true → b ≡ true
both_pass a b is = grind (arith, is)

-- ---- own IDs

-- A message from an own ID has a half with that ID.
uses_own : (w : World) (side : Side) (otid : List ℕ) (m : Message) → HasUsed w side m → otid_in m ≡ Some otid
    → (f : KeyedHalf) × HasHalf (end_at side w) f × (f.half.own ≡ Some otid)
uses_own w side otid (Begin id dialogue components) (f, had, own) from = (f, had, own ∙ from)
uses_own w side otid (Continue id dtid dialogue components) (f, had, own, peer) from = (f, had, own ∙ from)
uses_own w side otid m used from = cc

-- Halves with one own ID have one peer's ID.
one_peer : (e : End) (f g : KeyedHalf) (otid dtid to : List ℕ) → IsEnd e → HasHalf e f → HasHalf e g → f.half.own ≡ Some otid
    → g.half.own ≡ Some otid → f.half.peer ≡ Some dtid → g.half.peer ≡ Some to → dtid ≡ to
one_peer e f g otid dtid to is_end in_f in_g f_own g_own f_peer g_peer =
    let same = one_half e f g in_f in_g (is_end.one_own f g otid in_f in_g f_own g_own) in
    let peers : Some dtid ≡ Some to = sym f_peer ∙ ap (λ (h : Half). h.peer) (sym same) ∙ g_peer in cc

-- A Continue that is sent over the half with its originating ID.
module _ (table : Table) (w : World) (side : Side) (made : End) (otid dtid : List ℕ) (dialogue : Option Dialogue)
    (components : Option (List Component)) (is_end : IsEnd (end_at side w))
    (step : send table (end_at side w) (Continue otid dtid dialogue components) ≡ Ok made) where
  -- Each half with that ID has the destination ID as its peer's.
  continue_goes : (to : List ℕ) (f : KeyedHalf) → HasHalf (end_at side w) f → f.half.own ≡ Some otid
      → f.half.peer ≡ Some to → dtid ≡ to
  continue_goes to f had own peer =
      let e = end_at side w in
      let m = Continue otid dtid dialogue components in
      let (h, there, turns) = (sent_moves table e made m is_end step).forth f had in
      let (g, now, g_own, g_peer) = continue_uses table e made otid dtid dialogue components is_end step in
      one_peer made g (record f { half = h }) otid dtid to (sends table e made m is_end step).sound now there g_own
      (turns.own otid own) g_peer (turns.peer to peer)

  -- No Continue from that ID was sent to another ID.
  goes_nowhere_else : (m : Message) → HasUsed w side m → goes_elsewhere otid dtid m ≡ true → ⊥
  goes_nowhere_else (Continue id to d c) (f, had, own, peer) goes =
      let (from, elsewhere) = and_parts (is_id otid (Some id)) (not (is_id dtid (Some to))) goes in
      let same = continue_goes to f had (own ∙ id_is otid (Some id) from) peer in
      both_ways (is_id dtid (Some to)) (not-true _ elsewhere) (is_that_id dtid (Some to) (ap Some (sym same)))
  goes_nowhere_else m used goes = cc

-- ---- a message that an end sends

module _ {table : Table} {events : List Event} {w : World} {side : Side} {message : Message} (id : List ℕ)
    (it : IsSent table events w side message) (to : dtid_in message ≡ Some id) where
  -- The peer sent something from the destination ID.
  unknown_to : is_unasked (cause_in message) (peer_sent_from side id (since_quiet w.sent)) ≡ true → ⊥
  unknown_to is =
      let (m, since, from) = peer_spoke id it to in
      asked_something (peer_sent_from side id (since_quiet w.sent)) m (cause_in message) (asked_has side id m w.sent since from)
      (half_over id it to).no_cause is

  -- No message follows its end: an ended half is closed, and the message goes over an open half.
  ended_to : list_any (λ m. is_id id (ended_by m)) (sent_by side (since_quiet w.sent)) ≡ true → ⊥
  ended_to is =
      let half = half_over id it to in
      let (m, since, same) = found_since side (λ m. is_id id (ended_by m)) w.sent is in
      let ends = id_is id (ended_by m) same in
      let closed = ended_closed table events w side half.kept it.runs it.keeps half.had m id since ends half.peer in
      both_ways (is_closed half.kept.half.phase) half.is_open (ap is_closed closed)

module _ (table : Table) (events : List Event) (w : World) (side : Side) where
  -- The message does not have F2.
  pub unknown_sent : (message : Message) → IsSent table events w side message
      → is_unknown_transaction side (since_quiet w.sent) message ≡ true → ⊥
  unknown_sent (Continue otid dtid dialogue components) it is = unknown_to dtid it refl is
  unknown_sent (EndMessage dtid dialogue components) it is = unknown_to dtid it refl is
  unknown_sent (Abort dtid reason) it is = unknown_to dtid it refl is
  unknown_sent m it is = cc

  -- A Begin comes from an ID that no half has.
  begin_sent : (otid : List ℕ) (dialogue : Option Dialogue) (components : Option (List Component))
      → IsSent table events w side (Begin otid dialogue components)
      → is_reused side (since_quiet w.sent) (Begin otid dialogue components) ≡ true → ⊥
  begin_sent otid dialogue components it is =
      let (m, since, same) = found_since side (λ m. is_id otid (otid_in m)) w.sent is in
      let used = ids_used table events w side m it.runs it.keeps since in
      let (f, had, own) = uses_own w side otid m used (id_is otid (otid_in m) same) in
      let free = needs_ok (is_none (with_own (end_at side w) otid)) faults.IdUsed _ it.made it.step in
      none_own (end_at side w) otid f (none_is (with_own (end_at side w) otid) free.0) had own

  continue_sent : (otid dtid : List ℕ) (dialogue : Option Dialogue) (components : Option (List Component))
      → IsSent table events w side (Continue otid dtid dialogue components)
      → is_reused side (since_quiet w.sent) (Continue otid dtid dialogue components) ≡ true → ⊥
  continue_sent otid dtid dialogue components it is =
      let (m, since, goes) = found_since side (goes_elsewhere otid dtid) w.sent is in
      goes_nowhere_else table w side it.made otid dtid dialogue components (sound table events w it.runs side) it.step
      m (ids_used table events w side m it.runs it.keeps since) goes

  -- The message does not have F3.
  pub reused_sent : (message : Message) → IsSent table events w side message
      → is_reused side (since_quiet w.sent) message ≡ true → ⊥
  reused_sent (Begin otid dialogue components) it is = begin_sent otid dialogue components it is
  reused_sent (Continue otid dtid dialogue components) it is = continue_sent otid dtid dialogue components it is
  reused_sent m it is = cc

  -- The message does not have F4.
  pub after_end_sent : (message : Message) → IsSent table events w side message
      → is_after_end side (since_quiet w.sent) message ≡ true → ⊥
  after_end_sent (Continue otid dtid dialogue components) it is = ended_to dtid it refl is
  after_end_sent (EndMessage dtid dialogue components) it is = ended_to dtid it refl is
  after_end_sent (Abort dtid reason) it is =
      ended_to dtid it refl (both_pass (is_none (reason_cause reason)) _ is)
  after_end_sent m it is = cc

-- ---- a reply of the provider

-- The peer sent what the reply answers.
module _ (table : Table) (events : List Event) (w : World) (side : Side) (message : Message)
    (is : is_unknown_transaction side (since_quiet w.sent) message ≡ true) where
  answers_sent : (m : Message) → SentSince (other side) m w.sent → reply_to (end_at side w) m ≡ Some message → ⊥
  answers_sent (Begin otid dialogue components) since replied =
      let m = Begin otid dialogue components in
      let messages = peer_sent_from side otid (since_quiet w.sent) in
      let has = asked_has side otid m w.sent since refl in
      let abort : provider_abort otid 4 ≡ message = (cond_some _ _ message replied).1 in
      answers_one 4 messages m has (ap not (any_has (is_a forms.Begin) messages m has refl)) (rw (← abort) at is)
  answers_sent (Continue otid dtid dialogue components) since replied =
      let m = Continue otid dtid dialogue components in
      let messages = peer_sent_from side otid (since_quiet w.sent) in
      let has = asked_has side otid m w.sent since refl in
      let abort : provider_abort otid 1 ≡ message = (cond_some _ _ message replied).1 in
      answers_one 1 messages m has (ap not (any_has (is_a forms.Continue) messages m has refl)) (rw (← abort) at is)
  answers_sent m since replied = cc

pub unknown_replied : (table : Table) (events : List Event) (w : World) (side : Side) (message : Message)
    → Runs table events w → RepliesIt w side message
    → is_unknown_transaction side (since_quiet w.sent) message ≡ true → ⊥
unknown_replied table events w side message runs (head, more, channel, replies) is =
    answers_sent table events w side message is head.message
    (since_at (other side) head.message w.sent head.number all.0.listed all.0.since) replies
  where
    all : AllByRecursion (WasSent w (other side)) (head ∷ more)
    all = rw channel at (were_sent table events w runs (other side))
