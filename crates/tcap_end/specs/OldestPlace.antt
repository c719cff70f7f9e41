-- Which place of a row has the oldest item that a Reject rejects.
use Rattle.std.specs.Prelude.{ℕ, ℤ, true, false, List, Option, None}
use Rattle.tcap_parts.specs.declared.problem.Problem.{Problem}
use Rattle.tcap_parts.specs.declared.problem.Problem.TheVariants as problems
use Rattle.tcap_end.specs.Half.{Answer, Invocation, listed}
use Rattle.tcap_end.specs.Component.{allows, allows_for}
use Rattle.tcap_lists.specs.Row.{fits_in}
pub use Rattle.tcap_lists.specs.Row.{place_of}

-- the place of the oldest invocation or answer that a Reject with this problem rejects, or None
abbrev pub rejected_place : List (ℤ × List (Option Invocation)) → List (ℤ × List (Option Answer)) → ℤ → Problem
    → Option ℕ
rejected_place inn grants id (problems.General n) = None
rejected_place inn grants id (problems.Invoke n) = place_of (fits_in (allows n)) (listed id inn)
rejected_place inn grants id (problems.ReturnResult n) = place_of (fits_in (allows_for true n)) (listed id grants)
rejected_place inn grants id (problems.ReturnError n) = place_of (fits_in (allows_for false n)) (listed id grants)
