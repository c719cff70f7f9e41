-- the octets returned so far are taken, with their entries, without a fault
use Rattle.std.proofs.Common.{◌≡◌, ℕ, ◌+◌, ◌-◌, ◌^◌, Option, None, List, [], length}
use Rattle.std.specs.Io.KnownBytes.{Consumes}
use Rattle.tcap_record.specs.declared.entry.End.{End as Side}
use Rattle.tcap_record.specs.declared.entry.Entry.{Entry}
use Rattle.tcap_record.specs.PartialRecord.{IsFramerState, IsPart}
use Rattle.tcap_end.specs.Table.{Table}
use Rattle.tcap_certificate.specs.Certificate.{Certificate}
use Rattle.tcap_judge.specs.PiecewiseReplay.{IsCheckerOf, TakenSoFar}
use Rattle.tcap_judge.proofs.checking.take_all.Given as goal

abbrev pub invariant-loop-frames : goal.invariant-loop-frames
invariant-loop-frames g l = record {
  returned : List ℕ;
  consumed : Consumes (g.R.Read.remaining l.fn.reader) (g.R.Read.remaining l.reader) returned;
  taken : (judged : Option Side) (table : Table) (c : Certificate) → IsCheckerOf judged table c l.initial.checker []
      → (entries : List Entry) × TakenSoFar judged table c returned entries l.frames l.checker;
  held : IsFramerState l.frames;
  sound : l.frames.fault ≡ None;
  is_part : IsPart l.frames.octets;
  none_failed : g.R.Read.failures l.reader ≡ g.R.Read.failures l.fn.reader;
}

abbrev pub decreases-loop-frames : goal.decreases-loop-frames
decreases-loop-frames g l = 2 ^ 64 - (l.frames.place + length l.frames.octets)
