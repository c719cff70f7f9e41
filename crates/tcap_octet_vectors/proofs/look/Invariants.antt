use Rattle.std.proofs.Common.{◌≡◌, ℕ, ◌+◌, ◌-◌, ◌*◌, ◌<◌, ◌≤◌}
use denote.Text.{Utf8}
use denote.Shadow.{shadow}
use Rattle.tcap_octet_vectors.proofs.look.Given as goal

-- the command is text
abbrev pub invariant-loop-index : goal.invariant-loop-index
invariant-loop-index l = shadow (Utf8 l.command)
