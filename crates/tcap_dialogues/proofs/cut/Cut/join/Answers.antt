use Rattle.std.proofs.Common.{◌+◌, ◌||◌, sym, ap, subst, ◌∙◌}
use Rattle.tcap_msg.specs.Meaning.{id_of}
use Rattle.tcap_dialogues.specs.Course.{joined_by, own_ids}
use Rattle.tcap_dialogues.specs.HeadingReading.{heading_read}
use Rattle.tcap_dialogues.specs.CutState.{IsCutOf, known_of, without_name}
use Rattle.tcap_dialogues.specs.DialoguesOfList.{is_among}
use Rattle.tcap_dialogues.specs.CutUpdate.{HasEntry}
use Rattle.tcap_dialogues.proofs.JoinLaws.{begins_is, entry_comes, more, one_first, one_more, ones, others_apart, owned, same_count}
use Rattle.tcap_dialogues.proofs.cut.Cut.join.Goals as goal

pub returns : goal.returns
returns c = λ s names sent apart held later below.
    let h = heading_read c.args.heading in
    let old = c.args.self.now in
    let own = c.get_some-own.result in
    let peer = c.get_some-peer.result in
    let own_known = c.get_some-own.ensures in
    let peer_known = c.get_some-peer.ensures ∙ ap (λ e. known_of old.ids e (id_of c.args.heading.dtid)) c.other.ensures in
    let first = c.take_or_new-one.new.self in
    let second = c.take_or_new-other.new.self in
    let third = c.join_two.new.self in
    let x = c.take_or_new-one.result in
    let y = c.take_or_new-other.result in
    let l = c.in_ok-live.live in
    let takes = c.take_or_new-one.ensures s.live names apart held.lives held.overs in
    let takes_more =
    c.take_or_new-other.ensures (without_name names own.dialogue s.live) names
    (others_apart s names sent h apart old held own peer own_known peer_known) takes.lives takes.overs in
    let joined =
    c.in_ok-live.ensures (ones s names sent h apart old held own peer own_known peer_known)
    (more s names sent h apart old held own peer own_known peer_known) names
    (one_first s names sent h apart old held own peer own_known peer_known first second x y takes takes_more)
    (one_more s names sent h apart old held own peer own_known peer_known first second x y takes takes_more)
    (owned s names sent h apart old held own peer own_known peer_known first second x y takes takes_more) in
    let count =
    ap (λ k. k.count) joined.rest
    ∙ same_count s names sent h apart old held own peer own_known peer_known first second x y takes takes_more in
    let entry = subst (λ m. HasEntry m h own peer l c.add.new.self) count c.in_ok-add.ensures in
    let all =
    entry_comes s names sent h apart old held own peer own_known peer_known first second x y takes takes_more later below third
    c.put.new.self l c.add.new.self c.note.new.self joined entry c.in_ok-note.ensures c.in_ok-put.ensures in (
      subst
          (λ m. IsCutOf old.reuse (old.count + 1) (joined_by old.count h s.done s.live) (λ id. sent id || is_among (own_ids h) id)
          (record c.put.new.self { count = m }))
          (sym c.in-Some.ensures.1) all,
      begins_is s names sent h apart old held own peer own_known peer_known c.has_ids.result c.is_none.result c.is_none-2.result
          c.has_ids.ensures c.is_none.ensures c.is_none-2.ensures,
    )
