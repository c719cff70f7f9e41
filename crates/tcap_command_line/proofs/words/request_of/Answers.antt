use Rattle.std.proofs.Common.{◌≡◌, ◌||◌, Bool, List, true, false, refl, codes, subst, sym}
use Rattle.std.proofs.lemmas.Slice.Eq.{bytes_eq-Decides}
use Rattle.std.specs.Str.{bytes_eq}
use Rattle.clap.proofs.OnLiterals.{clap_on_literals}
use Rattle.clap.specs.Matches.{found_of}
use Rattle.clap.specs.Walk.{Text, first_of, rows_of}
use Rattle.clap.specs.declared.parser.matches.ArgMatches.{ArgMatches}
use Rattle.tcap_command_line.specs.CommandLine.{tool}
use Rattle.tcap_command_line.specs.Subcommands.{HasNeeded}
use Rattle.tcap_command_line.specs.Words.{is_letter}
use Rattle.tcap_command_line.proofs.Needed.{taken_alone}
use Rattle.tcap_command_line.proofs.words.request_of.Goals as goal

-- the subcommand has this name
named : (found : ArgMatches) (name known : Text) → HasNeeded name (rows_of (found_of found)) → name ≡ known
    → HasNeeded known (rows_of (found_of found))
named found name known has is = subst (λ n. HasNeeded n (rows_of (found_of found))) is has

pub needed-record-requires : goal.needed-record-requires
unfolding tool clap_on_literals
needed-record-requires c =
    let has : HasNeeded (codes "check") (rows_of (found_of c.args.found.now)) =
    named c.args.found.now _ _ c.requires.values c.in-check.is in
    has.needed (codes "RECORD") refl

pub needed-table-requires : goal.needed-table-requires
unfolding tool clap_on_literals
needed-table-requires c =
    let has : HasNeeded (codes "check") (rows_of (found_of c.args.found.now)) =
    named c.args.found.now _ _ c.requires.values c.in-check.is in
    has.needed (codes "TABLE") refl

pub needed-cert-requires : goal.needed-cert-requires
unfolding tool clap_on_literals
needed-cert-requires c =
    let has : HasNeeded (codes "check") (rows_of (found_of c.args.found.now)) =
    named c.args.found.now _ _ c.requires.values c.in-check.is in
    has.needed (codes "CERT") refl

pub end_given-requires : goal.end_given-requires
unfolding tool clap_on_literals
end_given-requires c =
    let has : HasNeeded (codes "check") (rows_of (found_of c.args.found.now)) =
    named c.args.found.now _ _ c.requires.values c.in-check.is in
    taken_alone (first_of (codes "end") (rows_of (found_of c.args.found.now))) is_letter (has.taken (codes "end"))

pub needed-record-requires-in-judge : goal.needed-record-requires-in-judge
unfolding tool clap_on_literals
needed-record-requires-in-judge c =
    let has : HasNeeded (codes "judge") (rows_of (found_of c.args.found.now)) =
    named c.args.found.now _ _ c.requires.values c.in-judge.is in
    has.needed (codes "RECORD") refl

pub needed-table-requires-in-judge : goal.needed-table-requires-in-judge
unfolding tool clap_on_literals
needed-table-requires-in-judge c =
    let has : HasNeeded (codes "judge") (rows_of (found_of c.args.found.now)) =
    named c.args.found.now _ _ c.requires.values c.in-judge.is in
    has.needed (codes "TABLE") refl

pub end_given-requires-in-judge : goal.end_given-requires-in-judge
unfolding tool clap_on_literals
end_given-requires-in-judge c =
    let has : HasNeeded (codes "judge") (rows_of (found_of c.args.found.now)) =
    named c.args.found.now _ _ c.requires.values c.in-judge.is in
    taken_alone (first_of (codes "end") (rows_of (found_of c.args.found.now))) is_letter (has.taken (codes "end"))

pub needed-record-requires-in-blame : goal.needed-record-requires-in-blame
unfolding tool clap_on_literals
needed-record-requires-in-blame c =
    let has : HasNeeded (codes "blame") (rows_of (found_of c.args.found.now)) =
    named c.args.found.now _ _ c.requires.values c.in-blame.is in
    has.needed (codes "RECORD") refl

pub needed-table-requires-in-blame : goal.needed-table-requires-in-blame
unfolding tool clap_on_literals
needed-table-requires-in-blame c =
    let has : HasNeeded (codes "blame") (rows_of (found_of c.args.found.now)) =
    named c.args.found.now _ _ c.requires.values c.in-blame.is in
    has.needed (codes "TABLE") refl

pub explain_request-requires : goal.explain_request-requires
explain_request-requires c = named c.args.found.now _ _ c.requires.values c.in-explain.is

pub test_request-requires : goal.test_request-requires
test_request-requires c = named c.args.found.now _ _ c.requires.values c.in-test.is

-- a name that is not the first of these is one of the others
other : (known name : Text) (rest : Bool) → (bytes_eq known name || rest) ≡ true → (name ≡ known → ⊥) → rest ≡ true
other known name rest is not_it = go (bytes_eq known name) refl is
  where
    go : (b : Bool) → bytes_eq known name ≡ b → (b || rest) ≡ true → rest ≡ true
    go true same is = absurd (not_it (sym ((bytes_eq-Decides known name).0 same)))
    go false same is = is

pub unreachable-requires : goal.unreachable-requires
unreachable-requires c =
    let d = c.in_default in
    let none : false ≡ true =
    other _ _ _ (other _ _ _ (other _ _ _ (other _ _ _ (other _ _ _ (other _ _ _ (other _ _ _ (other _ _ _ c.requires.known
    d.not-show) d.not-pack) d.not-check) d.not-judge) d.not-explain) d.not-blame) d.not-table) d.not-test in
    cc
