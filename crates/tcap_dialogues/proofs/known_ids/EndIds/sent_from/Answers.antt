use Rattle.std.proofs.Common.{rules, ◌≡◌, [], ◌∷◌, ◌++◌, map, sym, ap, subst, ◌∙◌}
use Rattle.std.specs.BTreeMap as tree
use Rattle.std.specs.BTreeMap.{is_at}
use Rattle.std.specs.List.{list_any}
use Rattle.std.proofs.lemmas.List.{append-nil, append_assoc, map_push}
use Rattle.std.proofs.lemmas.Map.Iter.{iter_end}
use Rattle.tcap_end.specs.Table.{octets_cmp}
use Rattle.tcap_dialogues.proofs.KnownLaws.{AddsSent, all_sent, none_sent, sent_more}
use Rattle.tcap_dialogues.proofs.known_ids.EndIds.sent_from.Goals as goal

pub loop-id-init : goal.loop-id-init
loop-id-init c = none_sent c.args.self.now c.args.ids.now

pub loop-id-preserved : goal.loop-id-preserved
loop-id-preserved c =
    rw (map_push (λ id. id.now) c.loop-id.yielded c.in-Some.id)
    (sent_more c.args.self.now (map (λ id. id.now) c.loop-id.yielded) c.in-Some.id.now c.args.ids.now c.loop-id.ids c.add_sent.new.ids
    c.loop-id.invariant c.in_ok-add_sent.ensures)

pub loop-id-2-init : goal.loop-id-2-init
loop-id-2-init c =
    let self = c.args.self.now in
    let all : map (λ id. id.now) c.loop-id.yielded ≡ tree.keys self.live = search (rules, iter_end) in
    subst (λ keys. AddsSent self keys c.args.ids.now c.loop-id.ids) (all ∙ sym (append-nil (tree.keys self.live))) c.loop-id.invariant

pub loop-id-2-preserved : goal.loop-id-2-preserved
loop-id-2-preserved c =
    let self = c.args.self.now in
    let live = tree.keys self.live in
    let keys = map (λ id. id.now) c.loop-id-2.yielded in
    let key = c.in-Some-id.id.now in
    let new = c.add_sent-in-loop-id-2.new.ids in
    rw (map_push (λ id. id.now) c.loop-id-2.yielded c.in-Some-id.id)
    (subst (λ all. AddsSent self all c.args.ids.now new) (append_assoc live keys (key ∷ []))
    (sent_more self (live ++ keys) key c.args.ids.now c.loop-id-2.ids new c.loop-id-2.invariant c.in_ok-add_sent-2.ensures))

pub returns : goal.returns
returns c =
    let self = c.args.self.now in
    let all : map (λ id. id.now) c.loop-id-2.yielded ≡ tree.keys self.done = search (rules, iter_end) in
    all_sent self (tree.keys self.live) (tree.keys self.done) c.args.ids.now c.loop-id-2.ids
    (λ q. c.keys-id-items.ensures.has q ∙ ap (list_any (is_at (octets_cmp q))) c.keys-id-items.ensures.rest)
    (λ q. c.keys-id-items-2.ensures.has q ∙ ap (list_any (is_at (octets_cmp q))) c.keys-id-items-2.ensures.rest)
    (subst (λ keys. AddsSent self (tree.keys self.live ++ keys) c.args.ids.now c.loop-id-2.ids) all c.loop-id-2.invariant)
