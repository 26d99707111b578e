use Rattle.std.proofs.Common.{◌≡◌, ◌*◌, ◌<◌, ◌≤◌}
use Rattle.vbi_side.specs.Beliefs.{weight_below}
use Rattle.vbi_side.specs.Ahead.{fits_as}
use Rattle.vbi_side.proofs.belief.reaches.Given as goal

abbrev pub invariant-loop-offset : goal.invariant-loop-offset
invariant-loop-offset l = record {
  weight : l.weight ≡ weight_below (fits_as l.fit l.field l.number) l.fields l.field l.offset;
  bound : l.weight ≤ 4 * l.offset;
  short : l.weight < l.wanted;
}
