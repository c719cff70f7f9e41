use Rattle.std.proofs.Common.{rules, leb}
use Rattle.std.proofs.lemmas.List.Sorted.{IsPartitionPoint-from_clause, IsPartitionedBy-leb}
use Rattle.tcap_traces.proofs.FirstAbove.{first_found, none_found}
use Rattle.tcap_traces.proofs.unreadable_entries.first_above.Goals as goal

pub returns-in-empty : goal.returns-in-empty
returns-in-empty c = λ sorted.
    let ns = c.args.numbers.now in
    let n = c.args.number in
    let point = IsPartitionPoint-from_clause (λ y. leb y n) ns c.partition_point.result c.partition_point.ensures.partitioned
    (IsPartitionedBy-leb (λ x. x) ns n sorted) (λ a r f k. search rules) in
    none_found n ns c.partition_point.result point.0 point.1 c.in-empty.len_below

pub returns-in-len1-up : goal.returns-in-len1-up
returns-in-len1-up c = λ sorted.
    let ns = c.args.numbers.now in
    let n = c.args.number in
    let point = IsPartitionPoint-from_clause (λ y. leb y n) ns c.partition_point.result c.partition_point.ensures.partitioned
    (IsPartitionedBy-leb (λ x. x) ns n sorted) (λ a r f k. search rules) in
    first_found n ns c.partition_point.result point.0 point.1 c.in-len1-up.len_at_least
