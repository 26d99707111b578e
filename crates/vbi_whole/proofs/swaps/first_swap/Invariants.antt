use Rattle.std.proofs.Common.{ℕ, ◌<◌}
use Rattle.vbi_whole.specs.Gaps.{judged_in}
use Rattle.vbi_whole.specs.Swaps.{IsSwapIn, IsSearch}
use Rattle.vbi_whole.proofs.swaps.first_swap.Given as goal

abbrev pub invariant-loop-field : goal.invariant-loop-field
invariant-loop-field l = record {
  search : IsSearch (judged_in l.side) l.field l.search;
  none : (k : ℕ) → (swap : IsSwapIn (judged_in l.side) k) → swap.j < l.field → ⊥;
}
