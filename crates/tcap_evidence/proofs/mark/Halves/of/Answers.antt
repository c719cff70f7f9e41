use Rattle.tcap_evidence.proofs.Common.{true, false, ap, ◌∙◌, list_any, is_id, ended_to, first_to}
use Rattle.tcap_evidence.proofs.MarkLaws.{all_sent}
use Rattle.tcap_evidence.proofs.mark.Halves.of.Goals as goal

pub returns : goal.returns
returns c = λ s are.
    let messages_by_end = c.args.messages_by_end.now in
    let own = all_sent messages_by_end.own.items _ _ are.own are.own_sent in
    let peer = all_sent messages_by_end.peer.items _ _ are.peer are.peer_sent in
    record {
      first = λ id. rw c.deref.ensures.value at c.in_ok-all_first.ensures id ∙ ap (first_to id) own;
      ended = λ id. rw c.deref-2.ensures.value at c.in_ok-all_ended.ensures id
          ∙ ap (list_any (λ m. is_id id (ended_to false m))) own;
      ended_by_peer = λ id. rw c.deref-3.ensures.value at c.in_ok-all_ended-2.ensures id
          ∙ ap (list_any (λ m. is_id id (ended_to true m))) peer;
    }
