use Rattle.vbi_near.proofs.Common.{stretched_row_cost, IsLeastAt, IsStartBefore, shades_of}
use Rattle.vbi_near.proofs.stretched_cells.distance_by.Given as goal

abbrev pub invariant-loop-start : goal.invariant-loop-start
invariant-loop-start l =
    IsLeastAt (IsStartBefore l.rate l.start) (stretched_row_cost (shades_of l.sums) l.sums.system l.fn.word) l.least
