-- A checker whose first entry is a quiet mark.
use Rattle.std.proofs.Common.{◌≡◌, List, [], ◌∷◌, Result, Ok, Err, refl, sym, ap, ◌∙◌, IsTrue, is_ok}
use Rattle.std.specs.Prelude.{◌≢◌, Option}
use Rattle.tcap_record.specs.declared.entry.End.{End as Side}
use Rattle.tcap_model.specs.World.{Item}
use Rattle.tcap_certificate.specs.declared.certificate.Fate.{Fate}
use Rattle.tcap_certificate.specs.declared.fault.CheckFault.{CheckFault}
use Rattle.tcap_check.specs.CheckerMeaning.{answer_of, count_ahead}

-- The report repeats every refusal so far, so an answer that is not in the report was not given before.
pub not_before : {A R : Type 0} (so_far : Result A CheckFault) (answer : Result (Unit {0}) CheckFault) (report : Result R CheckFault)
    (fault : CheckFault) → answer ≡ answer_of so_far → ((f : CheckFault) → so_far ≡ Err f → report ≡ Err f) → report ≢ Err fault
    → answer ≢ Err fault
not_before (Ok k) answer report fault is for_ever other = λ e. let no = sym is ∙ e in cc
not_before {A = A} {R = R} (Err f) answer report fault is for_ever other = λ e.
    let one : (let a : Result (Unit {0}) CheckFault = Err f in a) ≡ Err fault = sym is ∙ e in
    let same : f ≡ fault = cc in
    other (for_ever f refl ∙ ap (λ (x : CheckFault). let a : Result R CheckFault = Err x in a) same)

-- If the answer is Ok, the checker has refused nothing so far.
pub is_kept : {A : Type 0} (so_far : Result A CheckFault) → (let a : Result (Unit {0}) CheckFault = Ok tt in a) ≡ answer_of so_far
    → IsTrue (is_ok so_far)
is_kept (Ok k) is = refl
is_kept (Err f) is = cc

-- No message is ahead if the only item is a quiet mark.
pub none_ahead : (judged : Option Side) (fates : List Fate) → count_ahead judged 1 fates (Ok Item.Quiet ∷ []) ≡ 0
none_ahead judged [] = refl
none_ahead judged (fate ∷ []) = refl
none_ahead judged (fate ∷ next ∷ more) = refl
