use Rattle.std.proofs.Common.{◌≡◌, ◌+◌, ◌*◌, ◌<◌, take}
use Rattle.vbi_near.proofs.Common.{column_of, half_cost, halves_cost, half_of, shades_of, around_cost}
use Rattle.vbi_near.proofs.halved_signal.half_distance.Given as goal

abbrev pub invariant-loop-half : goal.invariant-loop-half
invariant-loop-half l = record {
  value : l.sum
      ≡ around_cost (shades_of l.sums) l.sums.system l.start
      + halves_cost (half_cost (shades_of l.sums) l.sums.system l.start) 0 (take l.half (half_of l.is_late l.word));
  few : l.sum + 1834980 * l.start < 536870912 + 1834980 * column_of l.sums.system l.start l.half;
}
