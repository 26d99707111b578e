use Rattle.vbi_line.proofs.Common.{◌≡◌, ◌-◌, ◌%◌, ◌≤◌, length, width_of}
use Rattle.vbi_line.proofs.Slicing.{Sliced}
use Rattle.vbi_line.proofs.bytes_to_levels.slice_into.Given as goal

abbrev pub invariant-loop-column : goal.invariant-loop-column
invariant-loop-column l = record {
  count : length l.packed ≡ l.column;
  inside : l.column ≤ width_of l.fn.system;
  words : l.column % 64 ≡ 0;
  sliced : Sliced l.fn.slicing l.fn.bytes l.packed;
}

abbrev pub decreases-loop-column : goal.decreases-loop-column
decreases-loop-column l = width_of l.fn.system - l.column
