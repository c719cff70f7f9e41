-- No message of an end that keeps the rules has a kind, nor does a reply of its provider.
use Rattle.std.proofs.Common.{◌≡◌, ◌⊎◌, inl, inr, true, ℕ, List, ◌∷◌, ◌++◌, Some, refl, sym, arith}
use Rattle.std.proofs.lemmas.Option.{cond_some}
use Rattle.tcap_msg.specs.declared.message.AbortReason.TheVariants.{Cause}
use Rattle.tcap_msg.specs.declared.message.Message.{Message}
use Rattle.tcap_msg.specs.declared.message.Message.TheVariants.{Begin, Continue, Abort}
use Rattle.tcap_record.specs.declared.entry.End.{End as Side}
use Rattle.tcap_end.specs.Table.{Table}
use Rattle.tcap_end.specs.End.{End}
use Rattle.tcap_model.specs.World.{Item, Sent, World, end_at}
use Rattle.tcap_model.specs.Run.{Event, KeepsRules, Runs, provider_abort, reply_to}
use Rattle.tcap_refute.specs.declared.kind.Kind.{Kind}
use Rattle.tcap_refute.specs.declared.kind.Kind.TheVariants as kinds
use Rattle.tcap_refute.specs.EarlierMessages.{since_quiet}
use Rattle.tcap_refute.specs.Kind.{is_of_kind}
use Rattle.tcap_refute.proofs.ComponentKinds.{answers_nothing_sent, wrong_operation_sent}
use Rattle.tcap_refute.proofs.DialogueKinds.{misplaced_sent}
use Rattle.tcap_refute.proofs.MomentLaws.{IsMoment, RepliesIt, SendsIt, sent_at}
use Rattle.tcap_refute.proofs.SentLaws.{IsSent}
use Rattle.tcap_refute.proofs.TransactionKinds.{after_end_sent, reused_sent, unknown_replied, unknown_sent}

-- A message that the end sends has no kind.
module _ (table : Table) (events : List Event) (w : World) (side : Side) (message : Message)
    (it : IsSent table events w side message) where
  kind_sent : (kind : Kind) → is_of_kind table side (since_quiet w.sent) message kind ≡ true → ⊥
  kind_sent kinds.UnknownTransaction is = unknown_sent table events w side message it is
  kind_sent kinds.ReusedId is = reused_sent table events w side message it is
  kind_sent kinds.AfterEnd is = after_end_sent table events w side message it is
  kind_sent kinds.AnswersNothing is = answers_nothing_sent table events w side message it is
  kind_sent kinds.WrongOperation is = wrong_operation_sent table events w side message it is
  kind_sent kinds.MisplacedDialogue is = misplaced_sent table events w side message it is
  kind_sent kind is = cc

-- A reply of the provider is an Abort with a cause.
reply_aborts : (e : End) (m message : Message) → reply_to e m ≡ Some message
    → (id : List ℕ) × (cause : ℕ) × (message ≡ provider_abort id cause)
reply_aborts e (Begin otid dialogue components) message is = (otid, 4, sym ((cond_some _ _ message is).1))
reply_aborts e (Continue otid dtid dialogue components) message is = (otid, 1, sym ((cond_some _ _ message is).1))
reply_aborts e m message is = cc

-- An Abort with a cause can only have F2.
abort_kind : (table : Table) (side : Side) (before : List Item) (id : List ℕ) (cause : ℕ) (kind : Kind)
    → is_of_kind table side before (Abort id (Some (Cause cause))) kind ≡ true → kind ≡ kinds.UnknownTransaction
abort_kind table side before id cause kind is = grind (arith, is)

kind_replied : (table : Table) (events : List Event) (w : World) (side : Side) (message : Message) (kind : Kind)
    → Runs table events w → RepliesIt w side message
    → is_of_kind table side (since_quiet w.sent) message kind ≡ true → ⊥
kind_replied table events w side message kind runs it is =
    let (id, cause, aborts) = reply_aborts (end_at side w) it.0.message message it.3 in
    let only = abort_kind table side (since_quiet w.sent) id cause kind (rw aborts at is) in
    unknown_replied table events w side message runs it (rw only at is)

-- No message in a run has a kind after the items before it.
pub none_of_kind : (table : Table) (events : List Event) (w : World) (before behind : List Item) (side : Side)
    (message : Message) (kind : Kind) → Runs table events w → KeepsRules side events
    → w.sent ≡ before ++ Sent side message ∷ behind → is_of_kind table side (since_quiet before) message kind ≡ true → ⊥
none_of_kind table events w before behind side message kind runs keeps sent is = by at_it.how
  where
    at_it : IsMoment table side before message
    at_it = sent_at table events w before behind side message runs keeps sent

    there : is_of_kind table side (since_quiet at_it.world.sent) message kind ≡ true
    there = rw (at_it.sent) is

    by : SendsIt table at_it.world side message ⊎ RepliesIt at_it.world side message → ⊥
    by (inl (made, step)) =
        let it : IsSent table at_it.events at_it.world side message =
        record { runs = at_it.runs; keeps = at_it.keeps; made = made; step = step } in
        kind_sent table at_it.events at_it.world side message it kind there
    by (inr replies) = kind_replied table at_it.events at_it.world side message kind at_it.runs replies there
