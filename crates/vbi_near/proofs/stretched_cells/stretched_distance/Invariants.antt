use Rattle.vbi_near.proofs.Common.{shades_of, stretched_row_cost, IsLeastAt, IsRateBefore}
use Rattle.vbi_near.proofs.stretched_cells.stretched_distance.Given as goal

abbrev pub invariant-loop-rate : goal.invariant-loop-rate
invariant-loop-rate l =
    IsLeastAt (IsRateBefore l.sums.system l.rate) (stretched_row_cost (shades_of l.sums) l.sums.system l.word) l.least
