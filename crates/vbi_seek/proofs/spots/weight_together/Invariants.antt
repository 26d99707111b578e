use Rattle.std.proofs.Common.{◌≡◌, ◌*◌, ◌≤◌}
use Rattle.vbi_seek.specs.Targets.{fits_in}
use Rattle.vbi_seek.specs.NumberSpots.{sum_below}
use Rattle.vbi_seek.proofs.spots.weight_together.Given as goal

abbrev pub invariant-loop-other : goal.invariant-loop-other
invariant-loop-other l = record {
  weight : l.weight ≡ sum_below (fits_in l.kind l.field l.number) l.seen l.other;
  bound : l.weight ≤ 4 * l.other;
}
