use Rattle.vbi_line.proofs.Common.{◌-◌, ◌≤◌, length, state_of, IsSound, run_of}
use Rattle.vbi_line.proofs.SmoothRuns.{Halfway}
use Rattle.vbi_line.proofs.reading.smoothed_word.Given as goal

abbrev pub invariant-loop-column : goal.invariant-loop-column
invariant-loop-column l = record {
  inside : l.column ≤ length l.packed;
  halfway : Halfway l.system l.packed l.column l.settled (state_of l.decoder);
  sound : IsSound l.decoder;
  run : run_of l.decoder ≤ l.column;
}

abbrev pub decreases-loop-column : goal.decreases-loop-column
decreases-loop-column l = length l.packed - l.column
