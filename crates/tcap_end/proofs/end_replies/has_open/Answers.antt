use Rattle.std.proofs.Common.{sym, ap, ◌∙◌}
use Rattle.tcap_end.specs.Halves.{end_of}
use Rattle.tcap_end.specs.Reply.{is_open}
use Rattle.tcap_end.proofs.OverLaws.{own_there}
use Rattle.tcap_end.proofs.ReplyLaws.{shows_open}
use Rattle.tcap_end.proofs.end_replies.has_open.Goals as goal

pub returns-in-Some : goal.returns-in-Some
returns-in-Some c =
    let had = own_there (end_of c.args.halves.now) c.args.id.octets.now c.in-Some.found c.requires.sound c.in-Some.ensures.half in
    c.is_some.ensures ∙ shows_open c.in-Some.ensures.half.0 c.half.result (c.half.ensures c.in-Some.ensures.half.0 had)
    ∙ sym (ap is_open c.in-Some.ensures.half.1)
