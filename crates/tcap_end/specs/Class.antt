-- The answers that operations of a class have (Q.771): class 1 reports success and failure, class 2 failure only,
-- class 3 success only, class 4 neither.
use Rattle.std.specs.Prelude.{ℕ, Bool, false, List, [], ◌∷◌, Option, Some, None, ◌==◌, cond}
use Rattle.tcap_end.specs.Half.{is_one_of}

-- whether operations of a class report success, by a Return Result (true), or failure, by a Return Error (false)
abbrev pub reports : Bool → ℕ → Bool
reports is_result class = is_one_of class (cond is_result (1 ∷ 3 ∷ []) (1 ∷ 2 ∷ []))

-- whether operations of a class report neither success nor failure
abbrev pub reports_neither : ℕ → Bool
reports_neither class = class == 4

-- whether the operation has a class, and the class passes the test
abbrev pub of_class : (ℕ → Bool) → Option ℕ → Bool
of_class is None = false
of_class is (Some class) = is class
