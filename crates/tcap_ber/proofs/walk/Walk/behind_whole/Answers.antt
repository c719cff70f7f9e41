use Rattle.std.proofs.Common.{◌≡◌, ℕ, [], List, Option, Some, Ok, ap, ◌∙◌, arith}
use Rattle.tcap_ber.specs.declared.header.Opening.{Opening}
use Rattle.tcap_ber.specs.HeaderReading.{opening_at}
use Rattle.tcap_ber.proofs.WalkLaws.{behind_further}
use Rattle.tcap_ber.proofs.OpeningLaws.{from}
use Rattle.tcap_ber.proofs.ResumingLaws.{whole_goes_behind, gives_by}
use Rattle.tcap_ber.proofs.walk.Walk.behind_whole.Goals as goal

read_there : (place : ℕ) (octets : List ℕ) (found : Option Opening) (opening : Opening) → opening_at (from place octets) ≡ Ok found → found ≡ Some opening → opening_at (from place octets) ≡ Ok (Some opening)
read_there place octets found opening read some = read ∙ ap (λ (o : Option Opening). Ok o) some

pub overflow_sub-next-2 : goal.overflow_sub-next-2
overflow_sub-next-2 c =
    let read = read_there c.args.self.progress.at c.args.octets.now c.in-Ok-Some.field-0 c.in-Ok-Some.opening c.in-Ok-Some.ensures.exact c.in-Ok-Some.field-0-is in
    omega (arith, c.len-len.ensures, behind_further c.args.self.progress c.in-Ok.next c.args.octets.now c.in-Ok-Some.opening read c.in-Ok.ensures.exact)

pub returns-clause-same : goal.returns-clause-same
returns-clause-same c = λ more.
    gives_by c.behind.result _ [] c.in-Ok.next _ c.behind.ensures.fault c.behind.ensures.skip c.behind.ensures.progress c.behind.ensures.octets
    ∙ whole_goes_behind c.args.self c.len-len.result c.args.octets.now more c.in-Ok-Some.opening c.in-Ok.next c.requires.none c.requires.goes c.requires.nothing c.len-len.ensures
    (read_there c.args.self.progress.at c.args.octets.now c.in-Ok-Some.field-0 c.in-Ok-Some.opening c.in-Ok-Some.ensures.exact c.in-Ok-Some.field-0-is) c.in-Ok.ensures.exact
