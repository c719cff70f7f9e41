-- With which problems a received component may be rejected, by its stored form.
use Rattle.std.specs.Prelude.{ℕ, ℤ, Bool, true, false, List, [], ◌∷◌, ◌++◌, Option, Some, None, cond}
use Rattle.tcap_parts.specs.declared.code.Code.{Code}
use Rattle.tcap_end.specs.Class.{reports}
use Rattle.tcap_end.specs.Component.{answer_problems}
use Rattle.tcap_end.specs.declared.received.Link.{Link}
use Rattle.tcap_end.specs.declared.received.Link.TheVariants as links
use Rattle.tcap_end.specs.declared.received.Target.{Target}
use Rattle.tcap_end.specs.declared.received.Target.TheVariants as targets

-- the numbers of link problems
abbrev pub link_numbers : Link → List ℕ
link_numbers links.Fine = []
link_numbers links.Unrecognized = 5 ∷ []
link_numbers links.Unexpected = 6 ∷ []
link_numbers links.Other = 7 ∷ []

-- the problems with which a received Invoke may be rejected
abbrev pub invoke_problems : Bool → Link → List ℕ
invoke_problems duplicate link = cond duplicate (0 ∷ []) [] ++ 1 ∷ 2 ∷ 3 ∷ 4 ∷ [] ++ link_numbers link

-- the problems with which an answer may be rejected, by what it is for
abbrev pub target_problems : Bool → Target → List ℕ
target_problems is_result targets.Nothing = 0 ∷ []
target_problems is_result targets.OtherClass = 1 ∷ []
target_problems is_result targets.Invocation = answer_problems is_result

-- what an answer is for, from the operation that it answers and its class, if there is one
abbrev pub target_of : Bool → Option (Code × ℕ) → Target
target_of is_result None = targets.Nothing
target_of is_result (Some (code, class)) = cond (reports is_result class) targets.Invocation targets.OtherClass
