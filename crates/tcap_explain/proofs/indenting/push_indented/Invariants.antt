-- The text so far, with the rest indented, is the whole text.
use Rattle.std.proofs.Common.{◌≡◌, ◌++◌, length}
use denote.Text.{Utf8}
use denote.Shadow.{shadow}
use Rattle.std.specs.String.{string_bytes}
use Rattle.tcap_explain.specs.IndentedText.{indented}
use Rattle.tcap_explain.proofs.indenting.push_indented.Given as goal

abbrev pub invariant-loop-line : goal.invariant-loop-line
invariant-loop-line l =
    shadow (Utf8 l.left) × (string_bytes l.text ++ indented l.left ≡ string_bytes l.initial.text ++ indented l.lines)

abbrev pub decreases-loop-line : goal.decreases-loop-line
decreases-loop-line l = length l.left
