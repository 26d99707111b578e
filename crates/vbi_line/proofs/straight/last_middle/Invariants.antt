use Rattle.vbi_line.proofs.Common.{◌-◌, ◌^◌, ◌<◌, ◌≤◌, [], ◌∷◌, ◌++◌, level_at, IsMiddle}
use Rattle.vbi_words.specs.Words.{lowest_bits}
use Rattle.vbi_line.proofs.straight.last_middle.Given as goal

abbrev pub invariant-loop-cells : goal.invariant-loop-cells
invariant-loop-cells l = record {
  few : l.cells ≤ 23;
  bits : l.bits < 2 ^ l.cells;
  middle : IsMiddle l.fn.system l.fn.packed l.column (lowest_bits l.cells l.bits ++ level_at l.fn.packed l.column ∷ []);
}

abbrev pub decreases-loop-cells : goal.decreases-loop-cells
decreases-loop-cells l = 23 - l.cells
