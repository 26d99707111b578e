use Rattle.std.proofs.Common.{◌≡◌, ℕ, ◌<◌, ◌≤◌, ◌*◌, get_or}
use Rattle.vbi_near.proofs.Common.{total_in}
use Rattle.vbi_near.proofs.stretched_cells.lead_costs.Given as goal

abbrev pub invariant-loop-start : goal.invariant-loop-start
invariant-loop-start l = record {
  value : (k : ℕ) → k < l.start → get_or l.costs k 0 ≡ total_in l.dark 0 k;
  few : (k : ℕ) → k < l.start → get_or l.costs k 0 ≤ 1834980 * k;
}
