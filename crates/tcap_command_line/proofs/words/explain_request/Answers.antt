use Rattle.std.proofs.Common.{refl, codes}
use Rattle.clap.proofs.OnLiterals.{clap_on_literals}
use Rattle.clap.specs.Matches.{found_of}
use Rattle.clap.specs.Walk.{first_of, rows_of}
use Rattle.tcap_command_line.specs.CommandLine.{tool}
use Rattle.tcap_command_line.specs.Words.{is_letter}
use Rattle.tcap_command_line.proofs.Needed.{taken_alone}
use Rattle.tcap_command_line.proofs.words.explain_request.Goals as goal

pub needed-entries-requires : goal.needed-entries-requires
unfolding tool clap_on_literals
needed-entries-requires c = c.requires.needed (codes "RECORD") refl

pub needed-table-requires : goal.needed-table-requires
unfolding tool clap_on_literals
needed-table-requires c = c.requires.needed (codes "TABLE") refl

pub end_given-end-requires : goal.end_given-end-requires
unfolding tool clap_on_literals
end_given-end-requires c = taken_alone (first_of (codes "end") (rows_of (found_of c.args.found.now))) is_letter (c.requires.taken (codes "end"))
