use Rattle.std.proofs.Common.{false}
use Rattle.clap.proofs.ValueTestLemmas.{accepts-Accepts}
use Rattle.tcap_command_line.specs.CommandLine.{number_parser}
use Rattle.tcap_command_line.proofs.words.number_of.Goals as goal

pub unreachable-requires : goal.unreachable-requires
unreachable-requires c =
    let accepted = accepts-Accepts false number_parser c.args.word.now c.requires in
    c.in_default.ensures.value.0 (accepted.0, accepted.1)
