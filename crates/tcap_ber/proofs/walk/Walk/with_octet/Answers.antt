use Rattle.std.proofs.Common.{◌≡◌, ◌+◌, ◌-◌, ◌≤◌, ◌++◌, ◌∷◌, [], ℕ, List, length, Option, Some, None, Ok, ap, sym, ◌∙◌, arith}
use Rattle.tcap_ber.specs.declared.header.Opening.{Opening}
use Rattle.tcap_ber.specs.declared.progress.Progress.{Progress}
use Rattle.tcap_ber.specs.HeaderReading.{opening_at}
use Rattle.tcap_ber.specs.WalkResult.{behind_header, resume}
use Rattle.tcap_ber.proofs.WalkLaws.{behind_further}
use Rattle.tcap_ber.proofs.OpeningLaws.{from}
use Rattle.tcap_ber.proofs.OpeningPlaceLaws.{opening_exact}
use Rattle.tcap_ber.proofs.ResumingLaws.{octet_fails, octet_fails_behind, octet_held, octet_goes_behind, gives_by}
use Rattle.tcap_ber.proofs.walk.Walk.with_octet.Goals as goal

-- the header read is that of the octets held and the next one
read_there : (place : ℕ) (all joined : List ℕ) (found : Option Opening) (opening : Opening) → all ≡ joined → opening_at (from place all) ≡ Ok found → found ≡ Some opening
    → opening_at (from place joined) ≡ Ok (Some opening)
read_there place all joined found opening same read some = ap (λ (x : List ℕ). opening_at (from place x)) (sym same) ∙ read ∙ ap (λ (o : Option Opening). Ok o) some

-- the step goes at least past those octets
far_enough : (p next : Progress) (header : List ℕ) (octet held : ℕ) (opening : Opening) → length header ≡ held → opening_at (from p.at header) ≡ Ok None
    → opening_at (from p.at (header ++ octet ∷ [])) ≡ Ok (Some opening) → behind_header p (header ++ octet ∷ []) opening ≡ Ok next → held + 1 ≤ next.at - p.at
far_enough p next header octet held opening len none read behind =
    omega (arith, behind_further p next (header ++ octet ∷ []) opening read behind, opening_exact p.at octet header opening none read, len)

pub returns-in-Err : goal.returns-in-Err
returns-in-Err c = λ more. c.failed.ensures more ∙ sym (octet_fails c.args.self c.args.octet more c.in-Err.fault c.requires.none c.requires.goes
    (ap (λ (x : List ℕ). opening_at (from c.args.self.progress.at x)) (sym c.header_with-header.ensures) ∙ c.in-Err.ensures.exact))

pub overflow_sub-next-in-Ok : goal.overflow_sub-next-in-Ok
overflow_sub-next-in-Ok c = far_enough c.args.self.progress c.in-Ok.next _ c.args.octet c.args.self.held c.in-Ok-Some.opening c.args.self.room.1 c.args.self.unfinished
    (read_there c.args.self.progress.at _ _ c.in-Ok-Some.field-0 c.in-Ok-Some.opening c.header_with-header.ensures c.in-Ok-Some.ensures.exact c.in-Ok-Some.field-0-is)
    (ap (λ (x : List ℕ). behind_header c.args.self.progress x c.in-Ok-Some.opening) (sym c.header_with-header.ensures) ∙ c.in-Ok.ensures.exact)

pub returns-in-Ok : goal.returns-in-Ok
returns-in-Ok c = λ more.
    gives_by c.behind.result _ [] c.in-Ok.next more c.behind.ensures.fault c.behind.ensures.skip c.behind.ensures.progress c.behind.ensures.octets
    ∙ ap (λ (n : ℕ). resume (c.in-Ok.next.at - c.args.self.progress.at - (n + 1)) [] c.in-Ok.next more) (sym c.args.self.room.1)
    ∙ octet_goes_behind c.args.self c.args.octet more c.in-Ok-Some.opening c.in-Ok.next c.requires.none c.requires.goes c.args.self.unfinished
    (read_there c.args.self.progress.at _ _ c.in-Ok-Some.field-0 c.in-Ok-Some.opening c.header_with-header.ensures c.in-Ok-Some.ensures.exact c.in-Ok-Some.field-0-is)
    (ap (λ (x : List ℕ). behind_header c.args.self.progress x c.in-Ok-Some.opening) (sym c.header_with-header.ensures) ∙ c.in-Ok.ensures.exact)

pub returns-in-Err-behind_header : goal.returns-in-Err-behind_header
returns-in-Err-behind_header c = λ more. c.failed-in-Err-behind_header.ensures more ∙ sym (octet_fails_behind c.args.self c.args.octet more c.in-Ok-Some.opening c.in-Err-behind_header.fault c.requires.none c.requires.goes
    (read_there c.args.self.progress.at _ _ c.in-Ok-Some.field-0 c.in-Ok-Some.opening c.header_with-header.ensures c.in-Ok-Some.ensures.exact c.in-Ok-Some.field-0-is)
    (ap (λ (x : List ℕ). behind_header c.args.self.progress x c.in-Ok-Some.opening) (sym c.header_with-header.ensures) ∙ c.in-Err-behind_header.ensures.exact))

pub returns-in-Ok-None : goal.returns-in-Ok-None
returns-in-Ok-None c = λ more.
    gives_by c.holding.result 0 _ c.args.self.progress more c.holding.ensures.fault c.holding.ensures.skip c.holding.ensures.progress c.holding.ensures.octets
    ∙ ap (λ (x : List ℕ). resume 0 x c.args.self.progress more) c.header_with-header.ensures
    ∙ octet_held c.args.self c.args.octet more c.requires.none c.requires.goes
