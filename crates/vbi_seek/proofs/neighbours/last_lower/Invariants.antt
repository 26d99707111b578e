use Rattle.std.proofs.Common.{◌≡◌, None, IfSome}
use Rattle.vbi_side.specs.Numbers.{IsMarked}
use Rattle.vbi_seek.specs.Neighbours.{down, IsNearest}
use Rattle.vbi_seek.proofs.neighbours.last_lower.Given as goal

abbrev pub invariant-loop-field : goal.invariant-loop-field
invariant-loop-field l = record {
  last : IsNearest down l.numbers l.field l.number l.nearest;
  least : IfSome l.nearest (λ at. IsMarked l.numbers at l.least);
  none : l.nearest ≡ None → l.least ≡ 0;
}
