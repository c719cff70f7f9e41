use Rattle.std.proofs.Common.{List, ℕ, ◌++◌, drop, arith}
use Rattle.std.proofs.lemmas.List.{length-append, length-drop}
use Rattle.tcap_record.proofs.HeldLaws.{answer_within}
use Rattle.tcap_record.proofs.frames.go_on.Goals as goal

pub front_by-requires : goal.front_by-requires
front_by-requires c =
    let octets : List ℕ = drop 1 c.args.part.now ++ c.args.octets.now in
    answer_within octets _ c.go_on-answer.result (omega (arith, length-append (drop 1 c.args.part.now) c.args.octets.now, length-drop 1 c.args.part.now)) (c.requires.walk c.args.octets.now) c.go_on-answer.ensures.answer
