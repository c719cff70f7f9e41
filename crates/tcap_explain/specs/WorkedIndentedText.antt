-- Test vectors: texts with indented lines.
use Rattle.std.specs.Prelude.{◌≡◌, refl, [], codes}
use Rattle.tcap_explain.specs.IndentedText.{indented}

nothing : indented [] ≡ []
nothing = refl

two_lines : indented (codes "why\n  so\n") ≡ codes "  why\n    so\n"
two_lines = refl

last_is_ended : indented (codes "a\n\nb") ≡ codes "  a\n  \n  b\n"
last_is_ended = refl
