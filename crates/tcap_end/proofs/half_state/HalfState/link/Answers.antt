use mir.Syntax.{w8}
use Rattle.std.proofs.Common.{SFits, true, false, rules, sym}
use Rattle.std.proofs.lemmas.Int.{to_z-of_z}
use Rattle.tcap_parts.specs.Meaning.{code_of}
use Rattle.tcap_end.specs.HalfState.{half_of}
use Rattle.tcap_end.proofs.ReceivingLaws.{link_alone, link_many, link_unknown}
use Rattle.tcap_end.proofs.half_state.HalfState.link.Goals as goal

pub returns-in_default-operation_sent : goal.returns-in_default-operation_sent
returns-in_default-operation_sent c =
    let id = c.in-Some.linked in
    let fits : SFits w8 id = search rules in
    rw (c.in-Some.is)
    (link_unknown c.args.table.now (half_of c.args.self.now) id (code_of c.args.code)
    (sym (rw (to_z-of_z w8 id fits) at c.in_default-operation_sent.ensures)))

pub returns-then-not-links_some : goal.returns-then-not-links_some
returns-then-not-links_some c =
    let id = c.in-Some.linked in
    let fits : SFits w8 id = search rules in
    rw (c.in-Some.is)
    (link_alone c.args.table.now (half_of c.args.self.now) id (code_of c.args.code) (code_of c.in-Some-operation_sent.to)
    (sym (rw (to_z-of_z w8 id fits) at c.in-Some-operation_sent.ensures)) c.if-not-links_some.ensures)

pub returns-then-links : goal.returns-then-links
returns-then-links c =
    let id = c.in-Some.linked in
    let fits : SFits w8 id = search rules in
    rw (c.in-Some.is)
    (link_many c.args.table.now (half_of c.args.self.now) id (code_of c.args.code) (code_of c.in-Some-operation_sent.to) true
    (sym (rw (to_z-of_z w8 id fits) at c.in-Some-operation_sent.ensures)) c.if-not-links_some.ensures c.if-links.ensures)

pub returns-else-links : goal.returns-else-links
returns-else-links c =
    let id = c.in-Some.linked in
    let fits : SFits w8 id = search rules in
    rw (c.in-Some.is)
    (link_many c.args.table.now (half_of c.args.self.now) id (code_of c.args.code) (code_of c.in-Some-operation_sent.to) false
    (sym (rw (to_z-of_z w8 id fits) at c.in-Some-operation_sent.ensures)) c.if-not-links_some.ensures c.if-links.ensures)
