use Rattle.std.proofs.Common.{◌≡◌, ℕ, ◌<◌, ◌+◌, ◌*◌, length, get_or}
use Rattle.vbi_near.proofs.Common.{cell_cost, IsDigitCost, shades_of}
use Rattle.vbi_near.proofs.prices.digit_costs.Given as goal

abbrev pub invariant-loop-value : goal.invariant-loop-value
invariant-loop-value l = record {
  room : length l.digits ≡ 96;
  below : (i : ℕ) → i < 16 * l.fn.place + l.value
      → IsDigitCost (cell_cost (shades_of l.sums) l.fn.sums.system l.fn.start) i (get_or l.digits i 0);
}
