-- The octets that belong to no piece are moved to the front, and the new ones come after them.
use Rattle.std.proofs.Common.{◌≡◌, ◌++◌, ◌-◌, ◌≤◌, arith, drop, length, min, take, ap, rules, ◌∙◌}
use Rattle.std.specs.List.{copy_within}
use Rattle.std.proofs.lemmas.List.{append_assoc, drop_min}
use Rattle.std.proofs.lemmas.Result.{on_ok_weaker}
use Rattle.tcap_traces.specs.PieceReader.{pieces_by, rest}
use Rattle.tcap_traces.proofs.FeedLaws.{front_dropped, if_ok}
use Rattle.tcap_traces.proofs.pieces.PieceReader.feed.Goals as goal

pub returns-clause-left : goal.returns-clause-left
returns-clause-left c =
    let r = c.args.self.now in
    let xs = r.held.items in
    let octets = c.args.octets.now in
    let len : c.len.result ≡ length xs = search rules in
    let least : c.min-from.result ≡ min r.from (length xs) = c.min-from.ensures ∙ ap (min r.from) len in
    let n = c.min-from.result in
    let within : n ≤ length xs = rw least (omega arith) in
    let moved : c.copy_within.new.self.items ≡ copy_within xs n (length xs) 0 = search rules in
    let len-2 : c.len-2.result ≡ length xs = search rules in
    let cut : c.truncate.new.self.items ≡ rest r =
    c.truncate.ensures.items ∙ ap (λ k. take (k - n) c.copy_within.new.self.items) len-2
    ∙ ap (take (length xs - n)) moved ∙ front_dropped xs n within ∙ ap (λ k. drop k xs) least ∙ drop_min r.from xs in
    on_ok_weaker c.extend_from_slice.result
    (λ is more. ap (λ l. pieces_by r (l ++ more)) (is ∙ ap (λ l. l ++ octets) cut) ∙ ap (pieces_by r) (append_assoc (rest r) octets more))
    (if_ok c.extend_from_slice.result _ _ _ c.extend_from_slice.ensures.items)
