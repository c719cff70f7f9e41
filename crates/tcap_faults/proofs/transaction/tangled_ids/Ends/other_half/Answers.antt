use Rattle.std.proofs.Common.{◌≡◌, option_copied, refl}
use Rattle.tcap_faults.proofs.dialogue_laws.WhichHalf.{begin_is, begin_kept, half_goes, half_not_begun, half_not_come, half_unowned}
use Rattle.tcap_faults.proofs.transaction.tangled_ids.Ends.other_half.Goals as goal
use Rattle.tcap_faults.proofs.transaction.tangled_ids.Ends.other_half.Goals.{in-Some-get-2, in-None}

pub returns-in_default : goal.returns-in_default
returns-in_default c = λ table side items own is kept none.
    rw (half_unowned table side items c.args.peer_id.id.now c.args.asked.now kept none (c.in_default.ensures table side items own is kept))
    (c.no_half.ensures table)

pub returns-in_default-get : goal.returns-in_default-get
returns-in_default-get c = λ table side items own is kept none.
    rw (half_not_come table side items c.args.peer_id.id.now c.args.asked.now kept none c.in-Some.own
    (c.in-Some.ensures table side items own is kept) (rw (← c.in_default-get.ensures.value) at (kept.came c.in-Some.own)))
    (c.no_half-in_default-get.ensures table)

pub returns-in-Some-begin : goal.returns-in-Some-begin
returns-in-Some-begin c = λ table side items own is kept none.
    let came = rw (← c.in-Some-get.ensures.value) at (kept.came c.in-Some.own) in
    let begins =
    rw (← begun, c.in-Some-begin.is)
    at (begin_is table side items c.in-Some.own (option_copied c.get-2.result) (rw c.get-2.ensures.value (own.from c.in-Some.own))) in
    rw (half_goes table side items c.args.peer_id.id.now c.args.asked.now kept none c.in-Some.own
    (c.in-Some.ensures table side items own is kept) c.in-Some-begin.begin.now c.in-Some-get.came.now begins came)
    (c.begun_half.ensures table side items is begins came)
  where
    begun : option_copied c.match-get-2.begin ≡ begin_kept (option_copied c.get-2.result)
    begun = elim c.match-get-2.branch [
      | in-Some-get-2 w ↦ rw (w.begin-is, w.as_ref-begin.ensures.value, w.in-Some-get-2.is) refl
      | in-None w ↦ rw (w.begin-is, w.in-None.is) refl
    ]

pub returns-in-None-begin : goal.returns-in-None-begin
returns-in-None-begin c = λ table side items own is kept none.
    let none_begun =
    rw (← begun, c.in-None-begin.is)
    at (begin_is table side items c.in-Some.own (option_copied c.get-2.result) (rw c.get-2.ensures.value (own.from c.in-Some.own))) in
    rw (half_not_begun table side items c.args.peer_id.id.now c.args.asked.now kept none c.in-Some.own
    (c.in-Some.ensures table side items own is kept) none_begun)
    (c.no_half-in-None-begin.ensures table)
  where
    begun : option_copied c.match-get-2.begin ≡ begin_kept (option_copied c.get-2.result)
    begun = elim c.match-get-2.branch [
      | in-Some-get-2 w ↦ rw (w.begin-is, w.as_ref-begin.ensures.value, w.in-Some-get-2.is) refl
      | in-None w ↦ rw (w.begin-is, w.in-None.is) refl
    ]
