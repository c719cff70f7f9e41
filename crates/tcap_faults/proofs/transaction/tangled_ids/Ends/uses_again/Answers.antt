use Rattle.std.proofs.Common.{◌≡◌, true, false, not, ◌&&◌, sym, ap, ◌∙◌}
use Rattle.std.proofs.lemmas.Bool.{and_left, and_right}
use Rattle.tcap_msg.specs.Parts.{dtid_in, otid_in}
use Rattle.tcap_faults.specs.SentToId.{has_used}
use Rattle.tcap_faults.specs.UsedAgain.{may_be_over}
use Rattle.tcap_faults.proofs.transaction_laws.LookupLaws.{again_begin, again_continue, again_not, own_is, some_lent, there_is, there_none}
use Rattle.tcap_faults.proofs.transaction_laws.HistoryLookupLaws.{used_at}
use Rattle.tcap_faults.proofs.transaction.tangled_ids.Ends.uses_again.Goals as goal
use Rattle.tcap_faults.proofs.transaction.tangled_ids.Ends.uses_again.Goals.{then-is_none-via-then-is_none, then-is_none-via-else-is_none+then-not-may_be_over}

pub returns-then-is_none : goal.returns-then-is_none
returns-then-is_none c = λ side items m was found.
    let table = c.args.table.now in
    let (own, named, at) = own_is table side items (otid_in m) c.in-Some.own (rw c.in-Some.is at found.own) in
    let not_over : (has_used side items own && may_be_over table side items own) ≡ false =
    elim c.then-is_none.branch [
      | then-is_none-via-then-is_none w ↦
          and_left (has_used side items own) (may_be_over table side items own)
          (sym (used_at table side items own _ at.from) ∙ sym (some_lent c.in-Some.own.from) ∙ c.is_none.ensures
          ∙ ap not w.if-is_none.true)
      | then-is_none-via-else-is_none+then-not-may_be_over w ↦
          and_right (has_used side items own) (may_be_over table side items own)
          (sym (w.may_be_over.ensures side items own was at) ∙ w.if-not-may_be_over.true)
    ] in
    again_not table side items m own named not_over

pub returns-in-Some-peer_id : goal.returns-in-Some-peer_id
returns-in-Some-peer_id c = λ side items m was found.
    let table = c.args.table.now in
    let (own, named, at) = own_is table side items (otid_in m) c.in-Some.own (rw c.in-Some.is at found.own) in
    let (id, there_named, there_at) =
    there_is table side items (dtid_in m) c.in-Some-peer_id.peer_id (rw c.in-Some-peer_id.is at found.peer_id) in
    let used : has_used side items own ≡ true =
    sym (used_at table side items own _ at.from) ∙ sym (some_lent c.in-Some.own.from) ∙ c.is_none.ensures
    ∙ ap not c.if-is_none.false in
    let over = sym (c.may_be_over.ensures side items own was at) ∙ c.if-not-may_be_over.false in
    again_continue table side items m own id named there_named used over c.is_answered_anew.result
    (c.is_answered_anew.ensures table side items own id at there_at used)

pub returns-in-None : goal.returns-in-None
returns-in-None c = λ side items m was found.
    let table = c.args.table.now in
    let (own, named, at) = own_is table side items (otid_in m) c.in-Some.own (rw c.in-Some.is at found.own) in
    let used : has_used side items own ≡ true =
    sym (used_at table side items own _ at.from) ∙ sym (some_lent c.in-Some.own.from) ∙ c.is_none.ensures
    ∙ ap not c.if-is_none.false in
    let over = sym (c.may_be_over.ensures side items own was at) ∙ c.if-not-may_be_over.false in
    again_begin table side items m own named
    (there_none table side items (dtid_in m) (rw c.in-None.is at found.peer_id)) used over
