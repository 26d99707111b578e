use Rattle.std.proofs.Common.{◌≡◌, ℕ, ◌+◌, ◌*◌, ◌<◌, ◌≤◌, false, length, get_or, take}
use Rattle.vbi_near.proofs.Common.{halves_of, span, stretched_offset, stretched_cost, halves_cost, shades_of}
use Rattle.vbi_near.proofs.stretched_cells.word_costs.Given as goal

abbrev pub invariant-loop-half : goal.invariant-loop-half
invariant-loop-half l = record {
  value : (k : ℕ) → k < length l.costs
      → get_or l.costs k 0
      ≡ span (shades_of l.sums) false 0 k
      + halves_cost (stretched_cost (shades_of l.sums) l.sums.system l.rate k) 0 (take l.half (halves_of l.word));
  few : (k : ℕ) → k < length l.costs → get_or l.costs k 0 ≤ 1834980 *
      (k + stretched_offset l.sums.system l.rate l.half);
}
