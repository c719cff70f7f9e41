-- Which operations may be linked to an operation (Q.771 3.1), and which problems does an Invoke have with the
-- invocation that its linked ID names?
use Rattle.std.specs.Prelude.{ℤ, Bool, ◌==◌, ◌&&◌, not}
use Rattle.tcap_parts.specs.declared.code.Code.{Code}
use Rattle.tcap_parts.specs.declared.code.CodeView.{CodeView}
use Rattle.tcap_parts.specs.Meaning.{code_of}
use Rattle.tcap_end.specs.Component.{links}
use Rattle.tcap_end.specs.Table.{Table}
use Rattle.tcap_faults.specs.Components.{lists_nothing}
use Rattle.tcap_faults.specs.declared.component.link_problem.LinkProblem.{LinkProblem}
use Rattle.tcap_faults.specs.declared.component.link_problem.LinkProblem.TheVariants as problems
use Rattle.tcap_faults.specs.declared.component.linkable_operation.Linkable.{Linkable}
use Rattle.tcap_faults.specs.declared.component.linkable_operation.Linkable.TheVariants as linkables
use Rattle.tcap_faults.specs.InvokeCounts.{Tallied}

-- Whether an operation lists others, but not this one.
abbrev pub lists_other : Table → Code → Code → Bool
lists_other table code to = not (lists_nothing table to) && not (links table to code)

-- Whether an operation's linked operations are as `Linkable` describes.
abbrev pub links_as : Table → Linkable → Code → Bool
links_as table (linkables.This code) = λ to. links table to (code_of code)
links_as table linkables.Nothing = lists_nothing table
links_as table (linkables.OtherThan code) = lists_other table (code_of code)

-- Whether an invocation of the linked ID is of an operation that lists none.
abbrev pub names_none : Table → Tallied → ℤ → Code → Bool
names_none table invoked linked code = invoked.has_operation linked (lists_nothing table)

-- Whether an invocation of the linked ID is of an operation that lists others, but not this one.
abbrev pub names_other : Table → Tallied → ℤ → Code → Bool
names_other table invoked linked code = invoked.has_operation linked (lists_other table code)

-- Whether an Invoke of an operation that is linked to this ID has the problem.
abbrev pub names_so : Table → Tallied → LinkProblem → ℤ → Code → Bool
names_so table invoked problems.Response = names_none table invoked
names_so table invoked problems.Operation = names_other table invoked

-- The condition on the operation of the named invocation, if an Invoke of this operation that is linked to it has the
-- problem.
abbrev pub linkable_by : LinkProblem → CodeView → Linkable
linkable_by problems.Response code = linkables.Nothing
linkable_by problems.Operation code = linkables.OtherThan code

-- Whether no invocation of the ID is of this operation.
abbrev pub is_of_none : Tallied → ℤ → Code → Bool
is_of_none invoked id code = invoked.invokes_of id code == 0
