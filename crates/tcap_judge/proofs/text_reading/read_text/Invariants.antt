-- the text is what the reader returned so far, within the limit
use Rattle.std.proofs.Common.{◌≡◌, ◌-◌, ◌≤◌, length, vec_len}
use Rattle.std.specs.Io.KnownBytes.{Consumes}
use Rattle.tcap_judge.specs.Text.{piece_limit}
use Rattle.tcap_judge.proofs.text_reading.read_text.Given as goal

abbrev pub invariant-loop-text : goal.invariant-loop-text
invariant-loop-text g l = record {
  consumed : Consumes (g.R.Read.remaining l.fn.reader) (g.R.Read.remaining l.reader) l.text.items;
  within : length l.text.items ≤ l.limit;
  room : length l.piece ≡ piece_limit;
  none_failed : g.R.Read.failures l.reader ≡ g.R.Read.failures l.fn.reader;
}

abbrev pub decreases-loop-text : goal.decreases-loop-text
decreases-loop-text g l = l.limit - vec_len l.text
