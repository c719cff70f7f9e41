-- Each thing so far has the entries that show it.
use Rattle.tcap_evidence.proofs.Common.{◌≡◌, false, map, take, list_any, grounds_in, IsScene, is_of_mark, Scene}
use Rattle.tcap_evidence.proofs.finding.grounds_in.Given as goal

abbrev pub invariant-loop-fact : goal.invariant-loop-fact
invariant-loop-fact l = (s : Scene) → IsScene s l.scene → list_any is_of_mark l.facts ≡ false
    → map (λ g. (g.fact, g.entries.items)) l.grounds.items ≡ grounds_in s (take l.fact-index l.facts)
