-- The messages so far and those of the remaining entries are all.
use Rattle.tcap_evidence.proofs.Common.{◌≡◌, other, numbered_of, sent_before}
use Rattle.tcap_evidence.proofs.StretchLaws.{sent_from}
use Rattle.tcap_evidence.proofs.sent.messages_before.Given as goal

abbrev pub invariant-loop-at : goal.invariant-loop-at
invariant-loop-at l = record {
  own : sent_from l.end l.record.entries.items l.number l.at (numbered_of l.messages_by_end.own.items)
      ≡ sent_before l.end l.record.entries.items l.number;
  peer : sent_from (other l.end) l.record.entries.items l.number l.at (numbered_of l.messages_by_end.peer.items)
      ≡ sent_before (other l.end) l.record.entries.items l.number;
}
