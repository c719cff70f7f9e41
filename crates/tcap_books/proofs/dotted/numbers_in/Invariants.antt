use Rattle.std.proofs.Common.{◌≡◌, [], None, drop}
use Rattle.tcap_books.specs.DottedContext.{numbers_after}
use Rattle.tcap_books.proofs.dotted.numbers_in.Given as goal

-- the numbers so far, and those of the rest of the text
abbrev pub invariant-loop-character : goal.invariant-loop-character
invariant-loop-character l = record {
  found : numbers_after l.found.items l.number (drop l.character-index l.text) ≡ numbers_after [] None l.text;
}
