use Rattle.std.proofs.Common.{◌==◌, ◌&&◌, ◌||◌, is_some, not, sym, ap, ◌∙◌}
use Rattle.tcap_msg.specs.Meaning.{id_of}
use Rattle.tcap_record.specs.Ends.{other}
use Rattle.tcap_dialogues.specs.Course.{peer_ids}
use Rattle.tcap_dialogues.specs.HeadingReading.{heading_read}
use Rattle.tcap_dialogues.specs.CutState.{known_of}
use Rattle.tcap_dialogues.proofs.GivenUpLaws.{accepts_is, accepts_nobody, as_known, continues_done, continues_live, named_done, named_live}
use Rattle.tcap_dialogues.proofs.OwnerLaws.{IsOf, known_is, nobody_of, owner_of}
use Rattle.tcap_dialogues.proofs.cut.Cut.continues_another.Goals as goal

pub returns-in-Some : goal.returns-in-Some
returns-in-Some c = λ s names sent d apart held has named hits continues.
    let h = heading_read c.args.heading in
    let ids = c.args.self.now.ids in
    let to = id_of c.args.heading.dtid in
    let known = c.get_some-known.result in
    let of : IsOf s names (peer_ids h) known =
    known_is s names sent apart ids held.ids (other h.sender) to known
    (c.get_some-known.ensures ∙ ap (λ e. known_of ids e to) c.other.ensures) in
    let (e, owner) = owner_of s names (peer_ids h) known of c.in-Some.other c.in-Some.is in
    ap (λ b. (not (c.in-Some.other == c.args.name) && known.begun) && not b)
    (c.has_sent.ensures s.live names held.lives e owner.listed owner.named)
    ∙ sym (continues_live s names h d _ hits (named_live s names h e owner.listed owner.has)
    (accepts_is s.live names c.args.self.now.live apart held.lives h known c.args.name c.in-Some.other d e has named hits owner continues))

pub returns-in-None : goal.returns-in-None
returns-in-None c = λ s names sent d apart held has named hits continues.
    let h = heading_read c.args.heading in
    let ids = c.args.self.now.ids in
    let to = id_of c.args.heading.dtid in
    let known = c.get_some-known.result in
    let of : IsOf s names (peer_ids h) known =
    known_is s names sent apart ids held.ids (other h.sender) to known
    (c.get_some-known.ensures ∙ ap (λ e. known_of ids e to) c.other.ensures) in
    let nobody = nobody_of s names (peer_ids h) known of c.in-None.is in
    as_known known.last c.has_begin.result (h.under_way || h.known) c.is_none.result c.is_none.ensures
    ∙ sym (continues_done s names h d (is_some known.last) c.has_begin.result hits continues
    (accepts_nobody s.live names c.args.self.now.live apart held.lives h known nobody)
    (named_done s names h known of nobody) (sym (c.has_begin.ensures s.live names held.lives d has named)))
