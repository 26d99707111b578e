use Rattle.vbi_line.proofs.Common.{◌≡◌, ◌+◌, ◌-◌, ◌%◌, ◌≤◌, ◌∷◌, length, width_of, KeepsBytes}
use Rattle.vbi_line.proofs.Slicing.{Sliced}
use Rattle.vbi_line.proofs.lanes.slice_lanes.Given as goal

abbrev pub invariant-loop-block : goal.invariant-loop-block
invariant-loop-block l = record {
  bytes : KeepsBytes l.fn.line l.line;
  cursors : l.line.cursors ≡ length l.packed ∷ l.fn.line.cursors;
  looked : l.line.looked ≡ l.fn.line.looked + length l.packed;
  inside : length l.packed ≤ width_of l.fn.line.system;
  blocks : length l.packed % 16 ≡ 0;
  sliced : Sliced l.fn.slicing l.fn.line.held l.packed;
}

abbrev pub decreases-loop-block : goal.decreases-loop-block
decreases-loop-block l = width_of l.fn.line.system - length l.packed

abbrev pub invariant-loop-sample : goal.invariant-loop-sample
invariant-loop-sample l = record {
  bytes : KeepsBytes l.fn.line l.line;
  cursors : l.line.cursors ≡ length l.packed ∷ l.fn.line.cursors;
  looked : l.line.looked ≡ l.fn.line.looked + length l.packed;
  inside : length l.packed ≤ width_of l.fn.line.system;
  sliced : Sliced l.fn.slicing l.fn.line.held l.packed;
}

abbrev pub decreases-loop-sample : goal.decreases-loop-sample
decreases-loop-sample l = width_of l.fn.line.system - length l.packed
