use Rattle.std.proofs.Common.{◌≡◌, ◌==◌, ◌&&◌, true, false, is_some, sym, ap, ◌∙◌}
use Rattle.tcap_msg.specs.Meaning.{id_of}
use Rattle.tcap_dialogues.specs.Course.{own_ids}
use Rattle.tcap_dialogues.specs.HeadingReading.{heading_read}
use Rattle.tcap_dialogues.specs.CutState.{is_used_anew}
use Rattle.tcap_dialogues.proofs.GivenUpLaws.{all_given, gives_up_is, gives_up_nobody, none_given}
use Rattle.tcap_dialogues.proofs.OwnerLaws.{IsOf, known_is, nobody_of, owner_of}
use Rattle.tcap_dialogues.proofs.cut.Cut.replaced.Goals as goal

pub returns-in_err-name : goal.returns-in_err-name
returns-in_err-name c = λ s names sent apart held d has.
    let h = heading_read c.args.heading in
    let known = c.get_some.result in
    let of : IsOf s names (own_ids h) known =
    known_is s names sent apart c.args.self.now.ids held.ids h.sender (id_of c.args.heading.otid) known c.get_some.ensures in
    rw (c.in-Again.is, c.from_residual.ensures)
    (gives_up_nobody s names c.args.self.now.live apart held.lives h known (nobody_of s names (own_ids h) known of c.in_err-name.was) d has)

pub returns-then-not-is_over : goal.returns-then-not-is_over
returns-then-not-is_over c = λ s names sent apart held d has.
    let h = heading_read c.args.heading in
    let known = c.get_some.result in
    let of : IsOf s names (own_ids h) known =
    known_is s names sent apart c.args.self.now.ids held.ids h.sender (id_of c.args.heading.otid) known c.get_some.ensures in
    let (e, owner) = owner_of s names (own_ids h) known of c.in_ok-name.name c.in_ok-name.was in
    let over : is_some e.over ≡ false = sym (c.is_over.ensures s.live names held.lives e owner.listed owner.named) ∙ c.if-not-is_over.true in
    rw c.in-Again.is
    (none_given _ (names d == c.in_ok-name.name)
    (gives_up_is s names c.args.self.now.live apart held.lives h known c.in_ok-name.name e owner false
    (ap (λ b. b && is_used_anew s h e) over) d has))

pub returns-then-uses_anew : goal.returns-then-uses_anew
returns-then-uses_anew c = λ s names sent apart held d has.
    let h = heading_read c.args.heading in
    let known = c.get_some.result in
    let of : IsOf s names (own_ids h) known =
    known_is s names sent apart c.args.self.now.ids held.ids h.sender (id_of c.args.heading.otid) known c.get_some.ensures in
    let (e, owner) = owner_of s names (own_ids h) known of c.in_ok-name.name c.in_ok-name.was in
    let over : is_some e.over ≡ true = sym (c.is_over.ensures s.live names held.lives e owner.listed owner.named) ∙ c.if-not-is_over.false in
    let anew = c.uses_anew.ensures s names sent e apart held owner.listed owner.named owner.has in
    rw c.in-Again.is
    (all_given _ (names d == c.in_ok-name.name)
    (gives_up_is s names c.args.self.now.live apart held.lives h known c.in_ok-name.name e owner true
    (ap (λ b. b && is_used_anew s h e) over ∙ sym anew ∙ c.if-uses_anew.true) d has))

pub returns-else-uses_anew : goal.returns-else-uses_anew
returns-else-uses_anew c = λ s names sent apart held d has.
    let h = heading_read c.args.heading in
    let known = c.get_some.result in
    let of : IsOf s names (own_ids h) known =
    known_is s names sent apart c.args.self.now.ids held.ids h.sender (id_of c.args.heading.otid) known c.get_some.ensures in
    let (e, owner) = owner_of s names (own_ids h) known of c.in_ok-name.name c.in_ok-name.was in
    let over : is_some e.over ≡ true = sym (c.is_over.ensures s.live names held.lives e owner.listed owner.named) ∙ c.if-not-is_over.false in
    let anew = c.uses_anew.ensures s names sent e apart held owner.listed owner.named owner.has in
    rw c.in-Again.is
    (none_given _ (names d == c.in_ok-name.name)
    (gives_up_is s names c.args.self.now.live apart held.lives h known c.in_ok-name.name e owner false
    (ap (λ b. b && is_used_anew s h e) over ∙ sym anew ∙ c.if-uses_anew.false) d has))
