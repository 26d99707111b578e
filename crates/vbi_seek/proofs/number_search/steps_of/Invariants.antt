use Rattle.std.proofs.Common.{◌≡◌, ◌≤◌}
use Rattle.vbi_seek.specs.Spots.{left_after, three_quarters}
use Rattle.vbi_seek.proofs.number_search.steps_of.Given as goal

abbrev pub invariant-loop-steps : goal.invariant-loop-steps
invariant-loop-steps l = record {
  is : l.left ≡ left_after three_quarters l.count l.steps;
  fewer : l.left ≤ l.count;
}
